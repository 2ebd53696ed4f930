use Rattle.std.proofs.lemmas.Bool.{ne_eqb}
use Rattle.ft_runner.proofs.DifferenceLemmas.{fed_here, no_fed, not_fed}
use Rattle.ft_runner.proofs.checking.is_fed.Goals as goal

pub returns-then-last-eq10 : goal.returns-then-last-eq10
returns-then-last-eq10 c = fed_here c.args.line.now c.args.text.now c.in-Some.front.now c.in-Some.last.now c.eq.result c.in-Some.ensures.cases.0 c.if-last-eq10.true c.eq.ensures

pub returns-else-last-eq10 : goal.returns-else-last-eq10
returns-else-last-eq10 c = not_fed c.args.line.now c.args.text.now c.in-Some.front.now c.in-Some.last.now _ c.in-Some.ensures.cases.0 c.if-last-eq10.false (ne_eqb c.in-Some.last.now 10 c.if-last-eq10.false)

pub returns-in-None : goal.returns-in-None
returns-in-None c = no_fed c.args.line.now c.args.text.now c.in-None.ensures.cases
