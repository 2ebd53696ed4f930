use Rattle.std.proofs.Common.{◌+◌, ◌++◌, ◌∙◌, List, ℕ, sym, ap}
use Rattle.std.proofs.lemmas.List.{length_push}
use Rattle.std.proofs.lemmas.Slice.Zip.{zip_end, zip_turn}
use Rattle.ft_script.specs.Texts.{world_line}
use Rattle.ft_runner.proofs.DifferenceLemmas.{all_alike, line_alike, line_differs, line_within, one_too_many}
use Rattle.ft_runner.proofs.checking.first_difference.Goals as goal
use Rattle.ft_runner.proofs.checking.first_difference.Goals.{then-place-lines, else-place-lines}

pub returns-then-not-has_line-clause-found : goal.returns-then-not-has_line-clause-found
returns-then-not-has_line-clause-found c =
    let script = c.args.script.now in
    let world = c.args.world.now in
    let yielded = c.loop-container.yielded in
    let inv = c.loop-container.invariant in
    let turn = zip_turn script.containers world yielded _ _ c.next.new.self _ (cc) (cc) c.loop-container.yielded_by _ c.in-Some.is c.next.ensures.steps in
    let text = c.deref.ensures.value ∙ c.in_ok-push_world_line.ensures ∙ ap (λ (front : List ℕ). front ++ world_line script c.in-Some.container.now c.in-Some.content.now) c.clear.ensures.items in
    line_differs script world c.args.lines.now c.loop-container.place _ inv.count inv.same c.in-Some.container.now c.in-Some.content.now c.deref.result.now turn.0 turn.1 (turn.2 _) (turn.3 _) text c.has_line.result c.has_line.ensures c.if-not-has_line.true

pub loop-container-preserved : goal.loop-container-preserved
loop-container-preserved c =
    let script = c.args.script.now in
    let world = c.args.world.now in
    let yielded = c.loop-container.yielded in
    let inv = c.loop-container.invariant in
    let turn = zip_turn script.containers world yielded _ _ c.next.new.self _ (cc) (cc) c.loop-container.yielded_by _ c.in-Some.is c.next.ensures.steps in
    let text = c.deref.ensures.value ∙ c.in_ok-push_world_line.ensures ∙ ap (λ (front : List ℕ). front ++ world_line script c.in-Some.container.now c.in-Some.content.now) c.clear.ensures.items in
    record {
      count = ap (λ n. n + 1) inv.count ∙ sym (length_push yielded _);
      within = line_within script world c.args.lines.now c.loop-container.place _ inv.count inv.same c.in-Some.container.now c.in-Some.content.now c.deref.result.now turn.0 turn.1 (turn.2 _) (turn.3 _) text c.has_line.result c.has_line.ensures c.if-not-has_line.false;
      same = line_alike script world c.args.lines.now c.loop-container.place _ inv.count inv.same c.in-Some.container.now c.in-Some.content.now c.deref.result.now turn.0 turn.1 (turn.2 _) (turn.3 _) text c.has_line.result c.has_line.ensures c.if-not-has_line.false;
    }

pub returns-clause-found : goal.returns-clause-found
returns-clause-found c =
    let script = c.args.script.now in
    let world = c.args.world.now in
    let inv = c.loop-container.invariant in
    let end = zip_end script.containers world c.loop-container.yielded _ _ c.next.new.self _ (cc) (cc) c.loop-container.yielded_by c.in-None.is c.next.ensures.steps in
    elim c.if-place-lines.branch [
      | then-place-lines w ↦ rw w.result-is (one_too_many script world c.args.lines.now c.loop-container.place _ inv.count inv.same end w.if-place-lines.true)
      | else-place-lines w ↦ rw w.result-is (all_alike script world c.args.lines.now c.loop-container.place _ inv.count inv.same end w.if-place-lines.false)
    ]
