-- What a step of a pass with the floor leaves of the owners of locks: its own locks change, and no others.
use Rattle.std.proofs.Common.{◌≡◌, ◌≢◌, ℕ, zero, suc, ◌<◌, ◌-◌, true, false, List, None, Some, refl, sym, ap, ◌∙◌, arith}
use Rattle.std.specs.Prelude.{slice_index, if◌then◌else◌}
use Rattle.ft_trace.specs.declared.Shape.{Shape}
use Rattle.ft_trace.specs.declared.View.{View}
use Rattle.ft_trace.specs.Addresses.{at, lock_of, container_count}
use Rattle.ft_trace.specs.Acts.{has_lock}
use Rattle.ft_trace.specs.Floors.{at_floor, lock_of_another}
use Rattle.ft_trace.specs.Traces.{IsReachable}
use Rattle.ft_trace.proofs.Owners.{known_owners_stay}
use Rattle.ft_trace.proofs.Seats.{holder_lives}
use Rattle.ft_section.specs.Floors.{floor_word, owner_named}
use Rattle.ft_turn_laws.specs.LockOwners.{owners_in}

-- ---- the word of a lock that the pass has

own_word : (v : View) → IsReachable v → v.has_floor ≡ true → (o : ℕ) → o < container_count v.shape → has_lock o v.log ≡ true → (floor_word (lock_of o) v ≡ v.number) × (v.number ≢ 0)
own_word v p floor o low has = (((known_owners_stay v p floor o low).1 has).0, holder_lives v.shape p.0 p.2.0 p.1 v p.2.1 o has)

-- and nobody else had it when the pass took the floor
no_other_had : (v : View) → IsReachable v → v.has_floor ≡ true → (o : ℕ) → o < container_count v.shape → has_lock o v.log ≡ true → lock_of_another v.number (slice_index (at_floor v.log) (at v.shape (lock_of o))) ≡ 0
no_other_had v p floor o low has = ((known_owners_stay v p floor o low).1 has).1

named_number : (n m : ℕ) → n ≡ m → m ≢ 0 → owner_named n ≡ Some (m - 1)
named_number n zero is live = absurd (live refl)
named_number n (suc m) is live = ap owner_named is ∙ ap (λ (x : ℕ). Some x) (let e : m ≡ suc m - 1 = omega arith in e)

-- the owners after steps of the pass
pub owners_change : (v w : View) → IsReachable v → IsReachable w → v.has_floor ≡ true → w.has_floor ≡ true → w.number ≡ v.number → w.shape ≡ v.shape → at_floor w.log ≡ at_floor v.log
    → (o : ℕ) → o < container_count v.shape
    → owners_in w o ≡ (if has_lock o w.log then Some (v.number - 1) else (if has_lock o v.log then None else owners_in v o))
owners_change v w pv pw floor floor_too same shape since_same o low =
    let low_too : o < container_count w.shape = rw shape low in
    elim (has_lock o w.log) as (λ b. has_lock o w.log ≡ b → owners_in w o ≡ (if b then Some (v.number - 1) else (if has_lock o v.log then None else owners_in v o))) [
      | true ↦ λ has.
          let word = own_word w pw floor_too o low_too has in
          named_number (floor_word (lock_of o) w) w.number word.0 word.1 ∙ ap (λ n. Some (n - 1)) same
      | false ↦ λ lacks.
          let now : floor_word (lock_of o) w ≡ lock_of_another v.number (slice_index (at_floor v.log) (at v.shape (lock_of o))) =
          (known_owners_stay w pw floor_too o low_too).0 lacks
          ∙ (ap (λ n. lock_of_another n (slice_index (at_floor w.log) (at w.shape (lock_of o)))) same
          ∙ (ap (λ (ws : List ℕ). lock_of_another v.number (slice_index ws (at w.shape (lock_of o)))) since_same
          ∙ ap (λ (k : Shape). lock_of_another v.number (slice_index (at_floor v.log) (at k (lock_of o)))) shape)) in
          elim (has_lock o v.log) as (λ b. has_lock o v.log ≡ b → owners_in w o ≡ (if b then None else owners_in v o)) [
            | true ↦ λ had. ap owner_named (now ∙ no_other_had v pv floor o low had)
            | false ↦ λ lacked. ap owner_named (now ∙ sym ((known_owners_stay v pv floor o low).0 lacked))
          ] refl
    ] refl
