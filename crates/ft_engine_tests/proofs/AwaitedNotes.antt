-- Notes of a caller that has made its first call, and who learns one.
use Rattle.std.proofs.Common.{◌≡◌, ◌∙◌, ◌<◌, ◌≤◌, ◌-◌, ℕ, suc, length, refl, sym, subst, arith}
use Rattle.ft_model.specs.declared.call.Call.{Call}
use Rattle.ft_model.specs.declared.call.Call.TheVariants as call
use Rattle.ft_trace.specs.Acts.{announces, own_told}
use Rattle.ft_bank.specs.declared.note.Note.{Note}
use Rattle.ft_bank.specs.Notes.{IsNoteOf, TellsOf, told_by}
use Rattle.ft_bank.specs.Passes.{view}
use Rattle.ft_bank.proofs.Seen.{tells_of}
use Rattle.ft_engine.specs.declared.attempts.Tried.{Tried}
use Rattle.ft_engine.specs.declared.caller.Caller.{Caller}
use Rattle.ft_engine.specs.declared.engine.Engine.{Engine}
use Rattle.ft_engine.specs.Awaiting.{MayLearnAt}
use Rattle.ft_engine.specs.Callers.{IsCallerOf, IsIdle, bank_of, left_of, pass_of, thread_of}
use Rattle.ft_engine.specs.Calling.{IsTried}
use Rattle.ft_engine.proofs.Callers.{some_number}

-- a note of thread 0, which has fewer calls left than before, tells of its first call
pub note_tells : (e : Engine) (c d : Caller) (n : Note) → IsCallerOf e c → IsCallerOf e d → left_of d < left_of c → thread_of d ≡ 0
    → told_by n ≡ own_told (view (pass_of d)) → TellsOf n 0 1
note_tells e c d n was is fewer first told =
    let calls : c.calls ≡ d.calls = was.calls ∙ sym is.calls in
    let left : d.calls - d.made < c.calls - c.made = fewer in
    let made : 1 ≤ d.made = omega (arith, calls, left) in
    let some : 0 < (view d.pass).number = some_number d.pass in
    let thread : (view d.pass).number - 1 ≡ 0 = first in
    let number : (view d.pass).number ≡ 1 = omega (arith, some, thread) in
    tells_of (view d.pass) (told_by n) 0 1 told number (subst (λ (k : ℕ). 1 ≤ k) is.made made)

-- a caller of a later thread may await that call
pub may_learn : (e : Engine) (c : Caller) (n : Note) → IsIdle c → 0 < announces (view (pass_of c)).log → 0 < left_of c → 0 < thread_of c
    → IsNoteOf (bank_of e) n → TellsOf n 0 1 → MayLearnAt e c (call.Await 0 1) n
may_learn e c n idle online left later of tells = record {
  idle = idle;
  online = online;
  left = left;
  told = record { thread = 0; index = 1; await = refl; some = omega arith; tells = tells };
  earlier = later;
  of = of;
}

-- who has tried a call is still a caller of the engine
pub tried_caller : (e : Engine) (called : Call) (t : Tried) (c d : Caller) → IsTried e called t c d → IsCallerOf e d
tried_caller e called t c d tried = tried.caller

-- and online
pub tried_online : (e : Engine) (called : Call) (t : Tried) (c d : Caller) → IsTried e called t c d → 0 < announces (view (pass_of c)).log → 0 < announces (view (pass_of d)).log
tried_online e called t c d tried online = tried.same.pass.online online
