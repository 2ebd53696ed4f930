use Rattle.std.proofs.Common.{◌≡◌, ◌-◌, ℕ, true, false, inr, refl, ap, subst}
use Rattle.ft_bank.specs.Passes.{view}
use Rattle.ft_engine.proofs.Callers.{both_halves}
use Rattle.ft_bank_history.proofs.SoFar.{memory_errors_are_found}
use Rattle.ft_engine.specs.Attempts.{entries_with_answer}
use Rattle.ft_engine.specs.Callers.{thread_of}
use Rattle.ft_engine.specs.Keeping.{WasAnswered}
use Rattle.ft_engine.proofs.LookFirst.{answered_looked}
use Rattle.ft_engine.proofs.SoFar.{answers_right}
use Rattle.ft_engine.proofs.Retrying.{same_then}
use Rattle.ft_engine.proofs.OwnAnswers.{answer_own, taken_own, unanswered_own}
use Rattle.ft_engine.proofs.engine.Engine.attempt.Goals as goal

pub returns-in-None-clause-same : goal.returns-in-None-clause-same
returns-in-None-clause-same c = same_then c.args.caller.now c.answer.new.caller c.take_up-in-None.new.caller c.answer.ensures.same c.take_up-in-None.ensures.same

pub returns-in-None-clause-found : goal.returns-in-None-clause-found
returns-in-None-clause-found c = inr (view c.answer.new.caller.pass, c.in-None.ensures.counted, c.take_up-in-None.ensures.found)

pub returns-in-None-clause-looked : goal.returns-in-None-clause-looked
returns-in-None-clause-looked c = answered_looked c.args.call.now c.take_up-in-None.result c.args.caller.now c.take_up-in-None.new.caller c.take_up-in-None.ensures.answered

pub returns-in-None-clause-halves : goal.returns-in-None-clause-halves
returns-in-None-clause-halves c =
    let old = c.args.caller.now in
    let m = c.in-None.ensures.made in
    let up = c.take_up-in-None.ensures.taken c.args.call.now m.0 m.1 m.2 in
    both_halves old.flight c.args.self.now.bank old.cursors.items c.args.call.now old.pass c.take_up-in-None.new.caller.pass c.take_up-in-None.result c.take_up-in-None.new.caller.flight
    (λ is. absurd (let e : false ≡ true = c.if-is_answered.ensures.1 is in cc)) c.requires.may.next
    (record { mid = c.answer.new.caller.pass; said = m.0; stamp = m.1; answer = m.3; taken = up.0; waits = up.1 })

-- ---- its own answer

pub returns-then-is_answered-clause-own : goal.returns-then-is_answered-clause-own
returns-then-is_answered-clause-own c free = absurd (free (c.if-is_answered.ensures.0 refl))

pub returns-in-None-clause-own : goal.returns-in-None-clause-own
returns-in-None-clause-own c free =
    let old = c.args.caller.now in
    let m = c.in-None.ensures.made in
    let up = c.take_up-in-None.ensures.taken c.args.call.now m.0 m.1 m.2 in
    taken_own c.args.call.now m.0 m.1 c.take_up-in-None.result c.take_up-in-None.new.caller.flight (view old.pass) c.answer.new.caller.pass c.take_up-in-None.new.caller.pass
    (answer_own c.args.self.now.bank c.args.call.now m.0 m.1 old.pass c.answer.new.caller.pass m.3.0) c.take_up-in-None.ensures.same.pass up.0 up.1

pub returns-in-Some-clause-own : goal.returns-in-Some-clause-own
returns-in-Some-clause-own c free =
    let old = c.args.caller.now in
    let new = c.answer.new.caller in
    unanswered_own c.args.self.now.bank old.cursors.items c.args.call.now c.in-Some.tried new.flight (view old.pass) (view new.pass) old.pass new.pass c.in-Some.ensures.tries c.in-Some.ensures.waits

-- ---- all answers are right

pub returns-then-is_answered-clause-right : goal.returns-then-is_answered-clause-right
returns-then-is_answered-clause-right c free mine kept =
    answers_right c.take_up.new.caller (entries_with_answer (thread_of c.args.caller.now) c.args.call.now c.take_up.result mine) free (c.take_up.ensures.kept c.args.call.now mine c.requires.may.next kept)

pub returns-in-None-clause-right : goal.returns-in-None-clause-right
returns-in-None-clause-right c free mine kept =
    let old = c.args.caller.now in
    let new = c.take_up-in-None.new.caller in
    let same : thread_of c.answer.new.caller ≡ thread_of old = ap (λ n. n - 1) c.answer.ensures.same.pass.number in
    answers_right new (entries_with_answer (thread_of old) c.args.call.now c.take_up-in-None.result mine) free
    (subst (λ (thread : ℕ). WasAnswered new (entries_with_answer thread c.args.call.now c.take_up-in-None.result mine)) same (c.take_up-in-None.ensures.kept c.args.call.now mine c.in-None.ensures.answered.1 (c.in-None.ensures.kept mine kept)))

pub returns-in-Some-clause-right : goal.returns-in-Some-clause-right
returns-in-Some-clause-right c free mine kept = answers_right c.answer.new.caller (entries_with_answer (thread_of c.args.caller.now) c.args.call.now c.in-Some.tried mine) free (c.in-Some.ensures.ended mine kept)

-- ---- MemoryErrors were found

pub returns-then-is_answered-clause-found_none : goal.returns-then-is_answered-clause-found_none
returns-then-is_answered-clause-found_none c = memory_errors_are_found (view c.take_up.new.caller.pass)

pub returns-in-None-clause-found_none : goal.returns-in-None-clause-found_none
returns-in-None-clause-found_none c = memory_errors_are_found (view c.take_up-in-None.new.caller.pass)

pub returns-in-Some-clause-found_none : goal.returns-in-Some-clause-found_none
returns-in-Some-clause-found_none c = memory_errors_are_found (view c.answer.new.caller.pass)
