use Rattle.std.proofs.Common.{refl}
use Rattle.ft_dict_tests.proofs.writing.version_of.Goals as goal

pub table_at-requires : goal.table_at-requires
table_at-requires c t root = c.read_block-root.ensures.table t refl root
