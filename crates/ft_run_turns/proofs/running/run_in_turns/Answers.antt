use Rattle.std.proofs.Common.{◌≡◌, ◌++◌, [], List, Option, length, take, drop, sym, subst, ◌∙◌}
use Rattle.std.specs.Prelude.{IfOk}
use Rattle.std.proofs.lemmas.List.{with_items_is}
use Rattle.ft_model.specs.declared.script.ScriptParts.{ScriptParts}
use Rattle.ft_engine.specs.Contents.{IsLegalWith}
use Rattle.ft_engine.specs.DoneCallers.{IsLegalFor}
use Rattle.ft_turns.specs.Orders.{turns_of}
use Rattle.ft_run_turns.specs.declared.seats.Seat.{Seat}
use Rattle.ft_run_turns.specs.Internal.CallerSeats.{AreSeats, HaveTurned, SeatsHaveMadeAll}
use Rattle.ft_run_turns.proofs.running.run_in_turns.Goals as goal

pub take_turns-requires-clause-seats : goal.take_turns-requires-clause-seats
take_turns-requires-clause-seats c = subst (AreSeats c.in-Ok.engine c.parts-parts.result.now) (sym c.as_mut_slice.ensures.value) c.in_ok-seats.ensures.seats

pub take_turns-requires-clause-turned : goal.take_turns-requires-clause-turned
take_turns-requires-clause-turned c =
    subst (λ (seats : List (Option Seat)). HaveTurned c.in-Ok.engine c.parts-parts.result.now [] seats c.in_ok-seats.tokens) (sym c.as_mut_slice.ensures.value) c.in_ok-seats.ensures.turned

pub close_all-requires-clause-seats : goal.close_all-requires-clause-seats
close_all-requires-clause-seats c =
    let made = c.take_turns.new.seats in
    let before = c.in_ok-seats.seats in
    let whole : length made ≡ before.len = c.take_turns.auto.seats ∙ c.as_mut_slice.ensures.len in
    let same : take before.len (made ++ drop (length made) before.items) ≡ made = with_items_is before made whole in
    subst (AreSeats c.in-Ok.engine c.parts-parts.result.now) (sym same) c.in_ok-tokens.ensures.seats

pub close_all-requires-clause-turned : goal.close_all-requires-clause-turned
close_all-requires-clause-turned c =
    let script = c.parts-parts.result.now in
    let made = c.take_turns.new.seats in
    let before = c.in_ok-seats.seats in
    let whole : length made ≡ before.len = c.take_turns.auto.seats ∙ c.as_mut_slice.ensures.len in
    let same : take before.len (made ++ drop (length made) before.items) ≡ made = with_items_is before made whole in
    subst (λ (seats : List (Option Seat)). HaveTurned c.in-Ok.engine script (turns_of script) seats c.in_ok-tokens.tokens) (sym same) c.in_ok-tokens.ensures.turned

pub close_all-requires-clause-made : goal.close_all-requires-clause-made
close_all-requires-clause-made c =
    let made = c.take_turns.new.seats in
    let before = c.in_ok-seats.seats in
    let whole : length made ≡ before.len = c.take_turns.auto.seats ∙ c.as_mut_slice.ensures.len in
    let same : take before.len (made ++ drop (length made) before.items) ≡ made = with_items_is before made whole in
    subst (SeatsHaveMadeAll c.parts-parts.result.now) (sym same) c.in_ok-tokens.ensures.made

pub returns-clause-legal : goal.returns-clause-legal
returns-clause-legal c = subst (λ (script : ScriptParts). IfOk c.close_all.result (λ run. IsLegalFor script run.history.items)) c.parts-parts.ensures.parts c.close_all.ensures.legal

pub returns-clause-contents : goal.returns-clause-contents
returns-clause-contents c = subst (λ (script : ScriptParts). IfOk c.close_all.result (λ run. IsLegalWith script run.history.items run.contents.items)) c.parts-parts.ensures.parts c.close_all.ensures.contents
