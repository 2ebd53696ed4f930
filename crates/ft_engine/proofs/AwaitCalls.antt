-- What an `await` comes to, as its pass has it.
use Rattle.std.proofs.Common.{◌≡◌, ◌≤◌, ◌<◌, ℕ, List, [], ◌++◌, ap, ◌∙◌, subst, sym}
use Rattle.std.specs.Prelude.{slice_get}
use Rattle.ft_model.specs.declared.call.Call.{Call}
use Rattle.ft_model.specs.declared.reply.Reply.TheVariants as reply
use Rattle.ft_trace.specs.declared.Act.TheVariants.{ReadCounter}
use Rattle.ft_trace.specs.declared.Told.{Told}
use Rattle.ft_trace.specs.declared.View.{View}
use Rattle.ft_trace.specs.Acts.{told_in, view_after}
use Rattle.ft_trace.specs.Causes.{IsToldOf}
use Rattle.ft_bank.specs.declared.note.Note.{Note}
use Rattle.ft_bank.specs.Notes.{TellsOf, knowing, says, told_by}
use Rattle.ft_bank.specs.Reads.{IsShown}
use Rattle.ft_bank.proofs.ShownReplies.{awaits_are_shown}
use Rattle.ft_engine.specs.Awaiting.{IsAwaitTold}

-- what the note tells has been told once it is learnt
told_here : (v u : View) (note : Note) (m thread index : ℕ) → u ≡ view_after (ReadCounter m) (knowing (says note) (told_by note) v) → 1 ≤ index → TellsOf note thread index → IsToldOf (told_in u.log) thread index
told_here v u note m thread index is some tells =
    let here : told_in u.log ≡ told_by note ++ told_in v.log = ap (λ (z : View). told_in z.log) is in
    record {
      place = 0;
      one = tells.0;
      at = ap (λ (told : List Told). slice_get told 0) here ∙ ap (λ (told : List Told). slice_get (told ++ told_in v.log) 0) tells.1;
      pass = tells.2;
      some = some;
      many = tells.3;
    }

-- so the `await` may be answered at the next load of the counter
pub await_shown : (v u w : View) (called : Call) (note : Note) (m n : ℕ) → u ≡ view_after (ReadCounter m) (knowing (says note) (told_by note) v) → w ≡ view_after (ReadCounter n) u → 0 < v.left → IsAwaitTold called note → IsShown w called reply.Done n
await_shown v u w called note m n learnt loaded left told =
    let same : w.left ≡ v.left = ap (λ (z : View). z.left) loaded ∙ ap (λ (z : View). z.left) learnt in
    subst (λ (z : Call). IsShown w z reply.Done n) (sym told.await)
    (awaits_are_shown w told.thread told.index n [] u.log (subst (λ (k : ℕ). 0 < k) (sym same) left) (ap (λ (z : View). z.log) loaded) tt (told_here v u note m told.thread told.index learnt told.some told.tells))
