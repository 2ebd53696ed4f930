use Rattle.std.proofs.Common.{◌∙◌, ◌++◌, List, ℕ, ap}
use Rattle.std.proofs.lemmas.List.{length_push}
use Rattle.std.proofs.lemmas.Slice.Zip.{zip_turn, zip_end}
use Rattle.ft_script.proofs.ShownLines.{first_shown-more, first_shown-all}
use Rattle.ft_script.proofs.contents.push_shown_lines.Goals as goal

pub loop-container-preserved : goal.loop-container-preserved
loop-container-preserved c =
    let script = c.args.script.now in
    let yielded = c.loop-container.yielded in
    let turn = zip_turn script.containers c.args.contents.now yielded _ _ c.next.new.self _ (cc) (cc) c.loop-container.yielded_by _ c.in-Some.is c.next.ensures.steps in
    first_shown-more _ _ _ script c.args.contents.now _ _ c.in-Some.container.now c.in-Some.shown.now (length_push yielded _) turn.0 turn.1 (turn.2 _) (turn.3 _) c.loop-container.invariant c.in_ok-push_shown_line.ensures

pub returns : goal.returns
returns c =
    let script = c.args.script.now in
    let end = zip_end script.containers c.args.contents.now c.loop-container.yielded _ _ c.next.new.self _ (cc) (cc) c.loop-container.yielded_by c.in-None.is c.next.ensures.steps in
    c.loop-container.invariant ∙ ap (λ (text : List ℕ). c.args.out.now.items ++ text) (first_shown-all script c.args.contents.now _ end)
