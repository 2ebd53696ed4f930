-- A cursor that reports that its deque was changed reports it for good; one that doesn't finds the deque as it was.
use Rattle.std.proofs.Common.{◌≡◌, ◌≢◌, ℕ, cond, Option, Some, None, ap, ◌∙◌, sym, inl, inr, arith}
use Rattle.std.proofs.lemmas.Bool.Decides.{eqb_tells}
use Rattle.std.specs.Prelude.{slice_get}
use Rattle.ft_model.specs.declared.data.Value.{Value}
use Rattle.ft_model.specs.declared.reply.Reply.TheVariants as reply
use Rattle.ft_model.specs.declared.reply.Raise.TheVariants as raise
use Rattle.ft_model.specs.declared.cursor.Cursor.TheVariants as cursor
use Rattle.ft_model.specs.Cursors.{CursorStep, deque_next, deque_walk}
use Rattle.ft_model.specs.Deques.{DequeContent, IsLaterDeque}

-- what a cursor answers whose deque was changed
abbrev reported : ℕ → ℕ → ℕ → CursorStep
reported container moves index =
    record { reply = reply.Raised raise.Moved; cursor = cursor.Deque container moves index }

next_changed : (deque : DequeContent) (container moves index : ℕ) → deque.moves ≢ moves → deque_next deque container moves index ≡ reported container moves index
next_changed deque container moves index differ =
    let walk = deque_walk (slice_get deque.items index) container moves index in
    elim (eqb_tells deque.moves moves) [
      | inl same ↦ absurd (differ same.1)
      | inr other ↦ ap (λ b. cond b walk (reported container moves index)) other.0
    ]

next_unchanged : (deque : DequeContent) (container moves index : ℕ) → deque.moves ≡ moves → deque_next deque container moves index ≡ deque_walk (slice_get deque.items index) container moves index
next_unchanged deque container moves index same =
    let walk = deque_walk (slice_get deque.items index) container moves index in
    elim (eqb_tells deque.moves moves) [
      | inl test ↦ ap (λ b. cond b walk (reported container moves index)) test.0
      | inr other ↦ absurd (other.1 same)
    ]

walk_not_moved : (found : Option Value) (container moves index : ℕ) → (deque_walk found container moves index).reply ≢ reply.Raised raise.Moved
walk_not_moved None container moves index same =
    let clash : reply.Stop ≡ reply.Raised raise.Moved = same in cc
walk_not_moved (Some value) container moves index same =
    let clash : reply.Value value ≡ reply.Raised raise.Moved = same in cc

reports_changes : (deque : DequeContent) (container moves index : ℕ) → (deque_next deque container moves index).reply ≡ reply.Raised raise.Moved → deque.moves ≢ moves
reports_changes deque container moves index moved same =
    walk_not_moved (slice_get deque.items index) container moves index
    (sym (ap (λ step. step.reply) (next_unchanged deque container moves index same)) ∙ moved)

module _ (made now : DequeContent) (container index : ℕ) (before : IsLaterDeque made now) where
  pub moved_for_good : (later : DequeContent) → IsLaterDeque now later → (deque_next now container made.moves index).reply ≡ reply.Raised raise.Moved → deque_next later container made.moves index ≡ deque_next now container made.moves index
  moved_for_good later after moved =
      let differ : now.moves ≢ made.moves = reports_changes now container made.moves index moved in
      let still : later.moves ≢ made.moves = λ same. differ (omega (arith, same, before.moves, after.moves)) in
      next_changed later container made.moves index still
      ∙ sym (next_changed now container made.moves index differ)

  pub moved_stays : (deque_next now container made.moves index).reply ≡ reply.Raised raise.Moved → (deque_next now container made.moves index).cursor ≡ cursor.Deque container made.moves index
  moved_stays moved =
      ap (λ step. step.cursor) (next_changed now container made.moves index (reports_changes now container made.moves index moved))

  pub not_moved : (deque_next now container made.moves index).reply ≢ reply.Raised raise.Moved → now ≡ made
  not_moved other =
      elim (eqb_tells now.moves made.moves) [
        | inl same ↦ before.unmoved same.1
        | inr differ ↦ absurd (other (ap (λ step. step.reply) (next_changed now container made.moves index differ.1)))
      ]
