-- A call that is tried again and again, between two of its tries.
use Rattle.std.proofs.Common.{◌≡◌, ◌-◌, ℕ, List, [], ◌∷◌, refl, ap, ◌∙◌, subst, le_refl}
use Rattle.std.specs.Prelude.{Option}
use Rattle.ft_model.specs.declared.call.Call.{Call}
use Rattle.ft_model.specs.declared.entry.Entry.{Entry as NamedEntry}
use Rattle.ft_trace.specs.declared.View.{View}
use Rattle.ft_trace.specs.Acts.{seen_writes}
use Rattle.ft_bank.specs.Passes.{view}
use Rattle.ft_bank.specs.PassSections.{stack_of}
use Rattle.ft_engine.specs.declared.attempts.Tried.{Tried}
use Rattle.ft_engine.specs.declared.attempts.Tried.TheVariants as tried
use Rattle.ft_engine.specs.declared.caller.Caller.{Caller}
use Rattle.ft_engine.specs.declared.calling.Called.{Called}
use Rattle.ft_engine.specs.declared.calling.Called.TheVariants as called
use Rattle.ft_engine.specs.declared.engine.Engine.{Engine}
use Rattle.ft_engine.specs.Answering.{StaysPass}
use Rattle.ft_engine.specs.Attempts.{ComesAgain, IsMarkOf, MayAttempt, StaysCaller, entries_with_answer}
use Rattle.ft_engine.specs.Callers.{IsCallerOf, thread_of}
use Rattle.ft_engine.specs.Calling.{HasMark, IsBetween, IsCalled, IsTried, last_of, mark_after, mark_after_tries}
use Rattle.ft_engine.specs.Keeping.{WasAnswered}
use Rattle.ft_engine.specs.OwnAnswers.{HasOwnAnswer}
use Rattle.ft_engine.proofs.SectionCalls.{stays_then}
use Rattle.ft_engine.proofs.OwnAnswers.{again_own, none_in, step_own}

same_pass : (v : View) → StaysPass v v
same_pass v = record { number = refl; next = refl; parts = refl; shape = refl; lists = refl; online = λ on. on; floor = refl; since = refl; seen = le_refl (seen_writes v); grown = λ old was. was; stays_online = λ is. is }

-- before the first try
pub none_between : (e : Engine) (called : Call) (c : Caller) → IsCallerOf e c → MayAttempt e c called → IsBetween e called c c
none_between e called c is may = record {
  caller = is;
  may = may;
  same = record { pass = same_pass (view c.pass); room = refl };
  kept = λ mine kept. kept;
  waits = [];
  are = refl;
  mark = refl;
  own = λ free. none_in c.flight (view c.pass) (view c.pass) free;
}

pub same_then : (b c d : Caller) → StaysCaller b c → StaysCaller c d → StaysCaller b d
same_then b c d first second = record { pass = stays_then (view b.pass) (view c.pass) (view d.pass) first.pass second.pass; room = second.room ∙ first.room }

kept_again : (thread : ℕ) (called : Call) (t : Tried) (mine : List NamedEntry) → ComesAgain t → entries_with_answer thread called t mine ≡ mine
kept_again thread called (tried.NotYet o owner) mine again = refl
kept_again thread called (tried.Moved first second) mine again = refl
kept_again thread called (tried.Done said stamp mark) mine again = absurd again
kept_again thread called tried.NoMemory mine again = absurd again

mark_again : (t : Tried) (before after : Option ℕ) → ComesAgain t → IsMarkOf t before after → after ≡ mark_after before t
mark_again (tried.NotYet o owner) before after again is = is
mark_again (tried.Moved first second) before after again is = is
mark_again (tried.Done said stamp mark) before after again is = absurd again
mark_again tried.NoMemory before after again is = absurd again

-- the last try's answer, or that of the call in flight, is of the tries since the first
pub tried_own : (e : Engine) (called : Call) (b c d : Caller) (t : Tried) → IsBetween e called b c → IsTried e called t c d → HasOwnAnswer called t b d
tried_own e called b c d t before x free =
    step_own c.flight e.bank c.cursors.items called t d.flight (view b.pass) c.pass d.pass before.may.next before.same.pass x.same.pass (before.own free) x.own x.halves

-- after one more try
pub more_between : (e : Engine) (called : Call) (b c d : Caller) (t : Tried) → IsBetween e called b c → ComesAgain t → IsTried e called t c d → IsBetween e called b d
more_between e called b c d t before again x = record {
  caller = x.caller;
  may = x.again again;
  same = same_then b c d before.same x.same;
  kept = λ mine kept. subst (WasAnswered d) (kept_again (thread_of c) called t mine again) (x.kept mine (before.kept mine kept));
  waits = record { before = c; answer = t } ∷ before.waits;
  are = (before.are, again, x);
  mark = mark_again t (stack_of c.pass).mark (stack_of d.pass).mark again x.mark ∙ ap (λ (m : Option ℕ). mark_after m t) before.mark;
  own = λ free. again_own called t d.flight (view b.pass) (view d.pass) again x.flight (tried_own e called b c d t before x free);
}

-- ---- the last try

has_mark : (answer : Called) (before after first : Option ℕ) → IsMarkOf (last_of answer) before after → before ≡ first → HasMark answer first
has_mark (called.Done said stamp mark) before after first is same = is ∙ same
has_mark called.NoMemory before after first is same = tt

pub done_called : (e : Engine) (call : Call) (answer : Called) (b c d : Caller) → IsBetween e call b c → IsTried e call (last_of answer) c d → IsCalled e call answer b d
done_called e call answer b c d before x = record {
  waits = before.waits;
  last = c;
  are = before.are;
  done = x;
  mark = has_mark answer (stack_of c.pass).mark (stack_of d.pass).mark (mark_after_tries (stack_of b.pass).mark before.waits) x.mark before.mark;
}

pub done_same : (e : Engine) (call : Call) (t : Tried) (b c d : Caller) → IsBetween e call b c → IsTried e call t c d → StaysCaller b d
done_same e call t b c d before x = same_then b c d before.same x.same

pub done_kept : (e : Engine) (call : Call) (t : Tried) (b c d : Caller) (mine : List NamedEntry) → IsBetween e call b c → IsTried e call t c d → WasAnswered b mine → WasAnswered d (entries_with_answer (thread_of b) call t mine)
done_kept e call t b c d mine before x kept =
    let number : thread_of c ≡ thread_of b = ap (λ (n : ℕ). n - 1) before.same.pass.number in
    subst (λ (thread : ℕ). WasAnswered d (entries_with_answer thread call t mine)) number (x.kept mine (before.kept mine kept))
