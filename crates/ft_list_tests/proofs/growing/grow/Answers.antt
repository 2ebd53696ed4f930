use Rattle.std.proofs.Common.{◌∙◌}
use Rattle.ft_list_tests.proofs.growing.grow.Goals as goal

pub fill_new-requires-clause-growing : goal.fill_new-requires-clause-growing
fill_new-requires-clause-growing c =
    let took = c.in-Taken.ensures in
    record {
      table_in = took.has.0;
      class = took.has.1;
      fresh = took.has.3;
      locked = took.keeps.held.locks 0 ∙ c.requires.locked;
      even = λ p. took.keeps.held.writes p ∙ c.requires.even p;
    }
