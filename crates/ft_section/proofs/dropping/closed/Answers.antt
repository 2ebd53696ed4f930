use Rattle.std.proofs.Common.{sym, ◌∙◌}
use Rattle.ft_section.proofs.Droppings.{fewer}
use Rattle.ft_section.proofs.dropping.closed.Goals as goal

pub loop-smaller : goal.loop-smaller
loop-smaller c = fewer c.pop.result c.loop.sections c.pop.new.self (sym c.is_some.ensures ∙ c.loop-test.true) c.pop.ensures.some
