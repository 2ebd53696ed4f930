-- The hands of a thread, one call further.
use Rattle.std.proofs.Common.{◌≡◌, ℕ, ◌+◌, ◌<◌, List, [], ◌∷◌, ◌++◌, length, take, Option, Some, None, sym, subst, ◌∙◌, arith, inl, inr}
use Rattle.std.specs.Prelude.{slice_get, IfSome, Any, ◌⊎◌}
use Rattle.std.proofs.lemmas.Bool.{cases_lt}
use Rattle.std.proofs.lemmas.List.{length_push, get_or_append_left, get_or_push}
use Rattle.ft_model.specs.declared.call.Call.{Call}
use Rattle.ft_model.specs.declared.call.Call.TheVariants as call
use Rattle.ft_model.specs.declared.content.Content.{Content}
use Rattle.ft_model.specs.declared.cursor.Cursor.{Cursor}
use Rattle.ft_model.specs.declared.script.ScriptParts.{ScriptParts}
use Rattle.ft_model.specs.Scripts.{NamesOf, cursor_of}
use Rattle.ft_model.specs.Answers.{answer}
use Rattle.ft_model.specs.Histories.{calls_of}
use Rattle.ft_history.specs.Internal.States.{AreHandsOf}
use Rattle.ft_history.proofs.HistoryPlaces.{take_next}
use Rattle.ft_history.proofs.Leaves.{Leaves}

any_push_cases : {X : Type 0} (P : X → Type 0) (xs : List X) (x : X) → Any P (xs ++ x ∷ []) → Any P xs ⊎ P x
any_push_cases P xs x some =
    elim (cases_lt some.0 (length xs)) [
      | inl low ↦ inl (some.0, some.1, low, sym (get_or_append_left xs (x ∷ []) some.1 some.0 low) ∙ some.3, some.4)
      | inr past ↦
          let end : length xs ≡ some.0 = let within = some.2 in omega (arith, length_push xs x) in
          inr (subst P (sym some.3 ∙ get_or_push xs x some.1 some.0 end) some.4)
    ]

pub hands_next : (script : ScriptParts) (thread made : ℕ) (world : List Content) (hands : List (Option Cursor)) (called : Call) → slice_get (calls_of script thread) made ≡ Some called
    → ((number : ℕ) → cursor_of called ≡ Some number → number < length hands) → Leaves script.containers world hands called → AreHandsOf script thread made hands → AreHandsOf script thread (made + 1) (answer world hands called).hands
hands_next script thread made world hands called at room leaves are =
    record {
      room = leaves.room ∙ are.room;
      kinds = leaves.fits are.kinds;
      cursors = λ number some.
          elim (any_push_cases (λ c. cursor_of c ≡ Some number) (take made (calls_of script thread)) called (subst (Any (λ c. cursor_of c ≡ Some number)) (take_next (calls_of script thread) made called at) some)) [
            | inl before ↦ leaves.stay number (are.cursors number before)
            | inr now ↦ leaves.made number now (room number now)
          ];
    }

-- a call that makes no cursor and leaves the hands as they were
pub hands_same : (script : ScriptParts) (thread made : ℕ) (hands : List (Option Cursor)) (called : Call) → slice_get (calls_of script thread) made ≡ Some called
    → cursor_of called ≡ None → AreHandsOf script thread made hands → AreHandsOf script thread (made + 1) hands
hands_same script thread made hands called at none are =
    record {
      room = are.room;
      kinds = are.kinds;
      cursors = λ number some.
          elim (any_push_cases (λ c. cursor_of c ≡ Some number) (take made (calls_of script thread)) called (subst (Any (λ c. cursor_of c ≡ Some number)) (take_next (calls_of script thread) made called at) some)) [
            | inl before ↦ are.cursors number before
            | inr now ↦ absurd (let e : None ≡ Some number = sym none ∙ now in cc)
          ];
    }

-- the cursors that a call makes are its thread's
pub own_cursors : (script : ScriptParts) (cursors : ℕ) (called : Call) → NamesOf script.containers cursors called → (number : ℕ) → cursor_of called ≡ Some number → number < cursors
own_cursors script cursors (call.Dict place dict_call) names number is = subst (λ o. IfSome o (λ n. n < cursors)) is names.made
own_cursors script cursors (call.List place list_call) names number is = subst (λ o. IfSome o (λ n. n < cursors)) is names.made
own_cursors script cursors (call.Set place set_call) names number is = subst (λ o. IfSome o (λ n. n < cursors)) is names.made
own_cursors script cursors (call.Deque place deque_call) names number is = subst (λ o. IfSome o (λ n. n < cursors)) is names.made
own_cursors script cursors (call.Next n) names number is = absurd (let e : None ≡ Some number = is in cc)
own_cursors script cursors (call.Begin first second) names number is = absurd (let e : None ≡ Some number = is in cc)
own_cursors script cursors call.End names number is = absurd (let e : None ≡ Some number = is in cc)
own_cursors script cursors call.Quiesce names number is = absurd (let e : None ≡ Some number = is in cc)
own_cursors script cursors (call.Await other index) names number is = absurd (let e : None ≡ Some number = is in cc)
own_cursors script cursors call.Dump names number is = absurd (let e : None ≡ Some number = is in cc)
