use Rattle.std.proofs.Common.{◌≡◌, sym, ap, ◌∙◌}
use Rattle.ft_engine.specs.declared.attempts.Tried.TheVariants as tried
use Rattle.ft_engine.specs.Attempts.{entries_with_answer}
use Rattle.ft_engine.specs.Callers.{thread_of}
use Rattle.ft_run_turns.specs.Internal.CallerSeats.{ends_call}
use Rattle.ft_run_turns.proofs.TriesWithFloor.{tried_turn}
use Rattle.ft_run_turns.proofs.trying.try_once.Goals as goal

pub returns-in-NotYet : goal.returns-in-NotYet
returns-in-NotYet c =
    let t = c.attempt.result in
    let x = c.attempt.ensures in
    let called = c.args.call.now in
    let mine = c.args.entries.now.items in
    let memory : t ≡ tried.NoMemory → ⊥ = λ none. (let clash : tried.NotYet c.in-NotYet.field-0 c.in-NotYet.field-1 ≡ tried.NoMemory = sym c.in-NotYet.is ∙ none in cc) in
    record {
      answer = t;
      turn = tried_turn c.args.engine.now called t c.args.caller.now c.attempt.new.caller c.requires.caller c.requires.may c.requires.floor memory
          (record { caller = x.caller; same = x.same; flight = x.flight; kept = x.kept; mark = x.mark; found = x.found; looked = x.looked; halves = x.halves; own = x.own; again = x.again });
      entries = sym (ap (λ r. entries_with_answer (thread_of c.args.caller.now) called r mine) c.in-NotYet.is);
      ended = sym (ap ends_call c.in-NotYet.is);
    }

pub returns-in-Moved : goal.returns-in-Moved
returns-in-Moved c =
    let t = c.attempt.result in
    let x = c.attempt.ensures in
    let called = c.args.call.now in
    let mine = c.args.entries.now.items in
    let memory : t ≡ tried.NoMemory → ⊥ = λ none. (let clash : tried.Moved c.in-Moved.field-0 c.in-Moved.field-1 ≡ tried.NoMemory = sym c.in-Moved.is ∙ none in cc) in
    record {
      answer = t;
      turn = tried_turn c.args.engine.now called t c.args.caller.now c.attempt.new.caller c.requires.caller c.requires.may c.requires.floor memory
          (record { caller = x.caller; same = x.same; flight = x.flight; kept = x.kept; mark = x.mark; found = x.found; looked = x.looked; halves = x.halves; own = x.own; again = x.again });
      entries = sym (ap (λ r. entries_with_answer (thread_of c.args.caller.now) called r mine) c.in-Moved.is);
      ended = sym (ap ends_call c.in-Moved.is);
    }
