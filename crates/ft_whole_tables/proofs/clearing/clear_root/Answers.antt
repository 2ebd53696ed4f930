use Rattle.std.proofs.Common.{ap, ◌∙◌}
use Rattle.ft_bank.specs.TableNames.{root_for}
use Rattle.ft_whole_tables.proofs.clearing.clear_root.Goals as goal

pub clear_table-requires-clause-table : goal.clear_table-requires-clause-table
clear_table-requires-clause-table c = record { table_in = c.requires.root.table_in c.in-Some.table c.in-Some.is; root = c.requires.root.root ∙ ap root_for c.in-Some.is }
