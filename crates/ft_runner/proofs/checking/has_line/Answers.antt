use Rattle.std.proofs.Common.{◌∙◌, Some, ap, sym}
use Rattle.std.proofs.lemmas.Option.{slice_get-get_or, slice_get_past}
use Rattle.ft_runner.proofs.DifferenceLemmas.{given_here, given_none}
use Rattle.ft_runner.proofs.checking.has_line.Goals as goal

pub returns-in-Some : goal.returns-in-Some
returns-in-Some c =
    let lines = c.args.lines.now in
    let line = c.in-Some.line.now in
    let found = c.in-Some.ensures.lookup in
    given_here lines c.args.place line c.args.text.now c.is_fed.result (slice_get-get_or lines c.args.place line found.3.0 ∙ ap Some (sym found.1)) (rw c.deref.ensures.value at c.is_fed.ensures)

pub returns-in-None : goal.returns-in-None
returns-in-None c = given_none c.args.lines.now c.args.place c.args.text.now (slice_get_past c.args.lines.now c.args.place c.in-None.ensures.lookup.3)
