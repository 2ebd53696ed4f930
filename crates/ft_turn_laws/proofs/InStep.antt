-- Callers that take turns stay in step with the machine.
use Rattle.std.proofs.Common.{◌≡◌, [], ◌∷◌, ◌++◌, length, None, sym, ap, ◌∙◌, subst}
use Rattle.ft_model.specs.declared.call.Call.TheVariants as call
use Rattle.ft_model.specs.declared.reply.Reply.TheVariants as reply
use Rattle.ft_bank.specs.Passes.{view}
use Rattle.ft_trace.specs.Acts.{seen_writes}
use Rattle.ft_engine.specs.declared.attempts.Tried.TheVariants as tried
use Rattle.ft_engine.specs.Attempts.{entries_with_answer}
use Rattle.ft_engine.specs.Callers.{thread_of}
use Rattle.ft_turns.specs.Orders.{Machine, thread_at}
use Rattle.ft_turns.specs.Ends.{after_turns}
use Rattle.ft_turn_laws.specs.Ordered.{AreAnswersInOrder}
use Rattle.ft_turn_laws.specs.LockOwners.{owners_in}
use Rattle.ft_turn_laws.specs.Standing.{standing_of}
use Rattle.ft_turn_laws.specs.Turns.{LearnsAreTurns, TriesAreTurns}
use Rattle.ft_turn_laws.proofs.CallerTurns.{one_more_turn, whole}
use Rattle.ft_turn_laws.proofs.LearnedTurns.{learned}
use Rattle.ft_turn_laws.proofs.OrderSteps.{answers_seen, order_step}
use Rattle.ft_turn_laws.proofs.PassSteps.{has_of}
use Rattle.ft_turn_laws.proofs.TriedTurns.{turned}
use Rattle.std.specs.Prelude.{slice_set}

pub tries_are_turns : TriesAreTurns
tries_are_turns script e turns standings called t c d mine made_for is kept at next was =
    let thread = thread_of c in
    let entries = entries_with_answer thread called t mine in
    let old = standing_of c mine in
    let new = standing_of d entries in
    let o = turned script e turns standings called t c d mine made_for is kept at next was.machine in
    let answered : (after_turns script (turns ++ thread ∷ [])).answered ≡ o.answered = ap (λ (m : Machine). m.answered) (one_more_turn script turns thread) ∙ o.comes.answers in
    record {
      machine = whole script turns thread standings old new (owners_in (view c.pass)) (owners_in (view d.pass)) (has_of d.pass) o.now o.answered was.machine at o.comes o.made o.marks o.flight;
      order = subst (λ order. AreAnswersInOrder order (slice_set standings thread new) (seen_writes (view d.pass))) (sym answered)
          (order_step standings thread old new (after_turns script turns).answered o.answered (length (thread_at (after_turns script turns) thread).marks) (seen_writes (view c.pass)) (seen_writes (view d.pass)) at
          o.recorded is.tried.same.pass.seen (answers_seen d entries (is.tried.kept mine kept)) was.order);
    }

pub learns_are_turns : LearnsAreTurns
learns_are_turns script e turns standings named index stamp c d mine made_for is kept at ready was =
    let thread = thread_of c in
    let entries = entries_with_answer thread (call.Await named index) (tried.Done reply.Done stamp None) mine in
    let old = standing_of c mine in
    let new = standing_of d entries in
    let o = learned script e turns standings named index stamp c d mine made_for is at ready was.machine in
    let answered : (after_turns script (turns ++ thread ∷ [])).answered ≡ o.answered = ap (λ (m : Machine). m.answered) (one_more_turn script turns thread) ∙ o.comes.answers in
    record {
      machine = whole script turns thread standings old new (owners_in (view c.pass)) (owners_in (view d.pass)) (has_of d.pass) o.now o.answered was.machine at o.comes o.made o.marks o.flight;
      order = subst (λ order. AreAnswersInOrder order (slice_set standings thread new) (seen_writes (view d.pass))) (sym answered)
          (order_step standings thread old new (after_turns script turns).answered o.answered (length (thread_at (after_turns script turns) thread).marks) (seen_writes (view c.pass)) (seen_writes (view d.pass)) at
          o.recorded is.tried.same.pass.seen (answers_seen d entries (is.tried.kept mine kept)) was.order);
    }
