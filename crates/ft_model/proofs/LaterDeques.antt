-- What every call of a deque keeps to: its bound, and that moves rise where anything changes.
use Rattle.std.proofs.Common.{ℕ, ◌-◌, ◌≤◌, Bool, true, false, cond, eqb, List, [], ◌∷◌, ◌++◌, length, take, drop, reverse, Option, Some, None, refl, ◌∙◌, arith}
use Rattle.std.specs.Prelude.{ℤ}
use Rattle.std.proofs.Math.Dec.{leb}
use Rattle.std.proofs.lemmas.List.{length-take, length-drop}
use Rattle.ft_model.specs.declared.data.Value.{Value}
use Rattle.ft_model.specs.Deques.{DequeContent, IsDeque, IsLaterDeque, with_deque_items, right_within, left_within, rotated, deque_append, deque_append_left, deque_extend, deque_extend_left, deque_pop, deque_pop_left, deque_rotate, deque_clear}
use Rattle.ft_model.proofs.Deques.{right_is_deque, left_is_deque, length-rotated}
use Rattle.ft_model.proofs.DequeSteps.{as_many}

-- a deque that has other items
changed_is_later : (deque : DequeContent) (items : List Value) → IsDeque deque.bound items → IsLaterDeque deque (with_deque_items deque items)
changed_is_later deque items is_deque =
    record { bound = refl; is_deque = is_deque; moves = omega arith; unmoved = λ same. absurd (omega (arith, same)) }

same_is_later : (deque : DequeContent) → IsDeque deque.bound deque.items → IsLaterDeque deque deque
same_is_later deque is_deque = record { bound = refl; is_deque = is_deque; moves = omega arith; unmoved = λ same. refl }

-- one that may have been left as it was
either_is_later : (unchanged : Bool) (deque new : DequeContent) → IsDeque deque.bound deque.items → IsLaterDeque deque new → IsLaterDeque deque (cond unchanged deque new)
either_is_later true deque new is_deque later = same_is_later deque is_deque
either_is_later false deque new is_deque later = later

pub later_than_later : (first second third : DequeContent) → IsLaterDeque first second → IsLaterDeque second third → IsLaterDeque first third
later_than_later first second third before after =
    record {
      bound = after.bound ∙ before.bound;
      is_deque = after.is_deque;
      moves = omega (arith, before.moves, after.moves);
      unmoved = λ same.
          after.unmoved (omega (arith, same, before.moves, after.moves))
          ∙ before.unmoved (omega (arith, same, before.moves, after.moves));
    }

pub empty_is_deque : (bound : Option ℕ) → IsDeque bound []
empty_is_deque None = record { bounded = tt }
empty_is_deque (Some most) = record { bounded = omega arith }

module _ (deque : DequeContent) (is_deque : IsDeque deque.bound deque.items) where
  pub append_is_later : (value : Value) → IsLaterDeque deque (deque_append deque value)
  append_is_later value =
      changed_is_later deque (right_within deque.bound (deque.items ++ value ∷ [])) (right_is_deque deque.bound (deque.items ++ value ∷ []))

  pub append_left_is_later : (value : Value) → IsLaterDeque deque (deque_append_left deque value)
  append_left_is_later value =
      changed_is_later deque (left_within deque.bound (value ∷ deque.items)) (left_is_deque deque.bound (value ∷ deque.items))

  pub extend_is_later : (others : List Value) → IsLaterDeque deque (deque_extend deque others)
  extend_is_later others =
      let items = right_within deque.bound (deque.items ++ others) in
      either_is_later (eqb (length others) 0) deque (with_deque_items deque items) is_deque
      (changed_is_later deque items (right_is_deque deque.bound (deque.items ++ others)))

  pub extend_left_is_later : (others : List Value) → IsLaterDeque deque (deque_extend_left deque others)
  extend_left_is_later others =
      let items = left_within deque.bound (reverse others ++ deque.items) in
      either_is_later (eqb (length others) 0) deque (with_deque_items deque items) is_deque
      (changed_is_later deque items (left_is_deque deque.bound (reverse others ++ deque.items)))

  -- items of which there are no more than before
  fewer_are_later : (items : List Value) → length items ≤ length deque.items → IsLaterDeque deque (with_deque_items deque items)
  fewer_are_later items few = changed_is_later deque items (as_many deque.bound deque.items items few is_deque)

  pub pop_is_later : IsLaterDeque deque (deque_pop deque)
  pop_is_later =
      let n = length deque.items - 1 in fewer_are_later (take n deque.items) (omega (arith, length-take n deque.items))

  pub pop_left_is_later : IsLaterDeque deque (deque_pop_left deque)
  pop_left_is_later = fewer_are_later (drop 1 deque.items) (omega (arith, length-drop 1 deque.items))

  pub rotate_is_later : (steps : ℤ) → IsLaterDeque deque (deque_rotate deque steps)
  rotate_is_later steps =
      let items = rotated deque.items steps in
      either_is_later (leb (length deque.items) 1) deque (with_deque_items deque items) is_deque
      (fewer_are_later items (omega (arith, length-rotated deque.items steps)))

  pub clear_is_later : IsLaterDeque deque (deque_clear deque)
  clear_is_later =
      either_is_later (eqb (length deque.items) 0) deque (with_deque_items deque []) is_deque
      (fewer_are_later [] (omega arith))
