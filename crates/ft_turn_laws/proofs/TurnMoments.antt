-- A thread of the machine beside the stack of its pass, at a moment in a turn of the thread, with the owners of locks as
-- the pass knows them.
use Rattle.std.proofs.Common.{◌≡◌, ◌≢◌, ℕ, ◌+◌, ◌<◌, Bool, true, false, length, reverse, cond, Option, None, Some, refl, sym, ap, ◌∙◌, arith, inl, inr}
use Rattle.std.specs.Prelude.{if◌then◌else◌}
use Rattle.std.proofs.lemmas.Bool.{cases_eq}
use Rattle.ft_model.specs.declared.script.ScriptParts.{ScriptParts}
use Rattle.ft_bank.specs.PassSections.{Stack, noted_in, taken_in}
use Rattle.ft_section.specs.Floors.{owner_or}
use Rattle.ft_turns.specs.Orders.{Machine, ThreadState, holder_of, thread_at}
use Rattle.ft_turns.proofs.LockLemmas.{bit_is, bit_none, bit_of, bit_other, bit_same, occ, occ-append}
use Rattle.ft_turns.proofs.LocksOnce.{IsOwned, flat, owned}
use Rattle.ft_turn_laws.specs.MatchingStacks.{IsAsStack}
use Rattle.ft_turn_laws.proofs.MachineSections.{noted-reverse, same_locks}
use Rattle.ft_turn_laws.proofs.Taking.{IsHeld, times_occ}

-- another thread that has the lock
abbrev pub other_of : (ℕ → Option ℕ) → (ℕ → Bool) → ℕ → Option ℕ
other_of owners has o = if has o then None else owners o

-- the first of two containers whose lock another thread has, with that thread
abbrev pub first_other : (ℕ → Option ℕ) → (ℕ → Bool) → ℕ → ℕ → Option (ℕ × ℕ)
first_other owners has lower upper = owner_or lower (other_of owners has lower) (owner_or upper (other_of owners has upper) None)

-- the owners once the thread has these locks
abbrev pub owner_after : ℕ → (ℕ → Option ℕ) → (ℕ → Bool) → (ℕ → Bool) → ℕ → Option ℕ
owner_after thread owners has has_after o = if has_after o then Some thread else other_of owners has o

-- the stack notes each lock that the pass has once, and no other
abbrev pub IsCounted : (ℕ → Bool) → Stack → Type 0
IsCounted has s = (o : ℕ) → noted_in o s.sections + taken_in o s.own ≡ cond (has o) 1 0

pub record Stands (script : ScriptParts) (machine : Machine) (thread : ℕ) (owners : ℕ → Option ℕ) (has : ℕ → Bool) (s : Stack) : Type 0 where
  pub stack : IsAsStack (thread_at machine thread) s
  pub counted : IsCounted has s
  pub locks : (o : ℕ) → o < length script.containers → holder_of machine.holders o ≡ owners o

-- ---- who has a lock

pub held_by : (thread : ℕ) (owner : Option ℕ) (has : Bool) → cond has 1 0 ≡ bit_of thread owner → IsHeld thread owner (if has then None else owner) has
held_by thread owner true is = inr (inl (bit_is thread owner (omega arith), refl, refl))
held_by thread None false is = inl (refl, refl, refl)
held_by thread (Some q) false is =
    inr (inr (q, refl, (λ same. (let e : bit_of thread (Some q) ≡ 1 = ap (λ (u : ℕ). bit_of thread (Some u)) same ∙ bit_same thread in absurd (omega arith))), refl, refl))

-- by whom a lock was had before and who else lost none
after_by : (thread : ℕ) (owner after : Option ℕ) (has has_after : Bool) → cond has 1 0 ≡ bit_of thread owner → cond has_after 1 0 ≡ bit_of thread after
    → ((other : ℕ) → other ≢ thread → bit_of other after ≡ bit_of other owner) → after ≡ (if has_after then Some thread else (if has then None else owner))
after_by thread owner after has true was is others = bit_is thread after (omega arith)
after_by thread owner None true false was is others = refl
after_by thread owner (Some q) true false was is others =
    elim (cases_eq q thread) [
      | inl same ↦ absurd (let e : bit_of thread (Some q) ≡ 1 = ap (λ (u : ℕ). bit_of thread (Some u)) same ∙ bit_same thread in omega arith)
      | inr differs ↦ absurd (
          let owned : owner ≡ Some thread = bit_is thread owner (omega arith) in
          let none : bit_of q owner ≡ 0 = ap (bit_of q) owned ∙ bit_other q thread (λ e. differs (sym e)) in
          let one : bit_of q (Some q) ≡ 1 = bit_same q in
          let e = others q differs in
          omega arith)
    ]
after_by thread None None false false was is others = refl
after_by thread None (Some q) false false was is others =
    elim (cases_eq q thread) [
      | inl same ↦ absurd (let e : bit_of thread (Some q) ≡ 1 = ap (λ (u : ℕ). bit_of thread (Some u)) same ∙ bit_same thread in omega arith)
      | inr differs ↦ absurd (let e = others q differs in let none : bit_of q None ≡ 0 = bit_none q in let one : bit_of q (Some q) ≡ 1 = bit_same q in omega arith)
    ]
after_by thread (Some w) after false false was is others =
    elim (cases_eq w thread) [
      | inl same ↦ absurd (let e : bit_of thread (Some w) ≡ 1 = ap (λ (u : ℕ). bit_of thread (Some u)) same ∙ bit_same thread in omega arith)
      | inr differs ↦ bit_is w after (let e = others w differs in let one : bit_of w (Some w) ≡ 1 = bit_same w in omega arith)
    ]

module _ (script : ScriptParts) where
  -- what the thread has taken is what its pass has
  pub owned_count : (machine : Machine) (thread : ℕ) (s : Stack) (has : ℕ → Bool) → IsAsStack (thread_at machine thread) s → IsCounted has s → (o : ℕ)
      → occ o (owned (thread_at machine thread)) ≡ cond (has o) 1 0
  owned_count machine thread s has same counted o =
      let state = thread_at machine thread in
      omega (
        arith,
        occ-append o state.own (flat state.sections),
        times_occ o state.own,
        same.own o,
        same_locks o state.sections (reverse s.sections) same.sections,
        noted-reverse o s.sections,
        counted o,
      )

  pub is_mine : (machine : Machine) (thread : ℕ) (owners : ℕ → Option ℕ) (has : ℕ → Bool) (s : Stack) → IsOwned script machine → Stands script machine thread owners has s
      → (o : ℕ) → o < length script.containers → cond (has o) 1 0 ≡ bit_of thread (owners o)
  is_mine machine thread owners has s inv stands o low =
      sym (owned_count machine thread s has stands.stack stands.counted o) ∙ (inv.owned o thread low ∙ ap (bit_of thread) (stands.locks o low))

  -- the owners after a step
  pub locks_after : (machine after : Machine) (thread : ℕ) (owners owners_after : ℕ → Option ℕ) (has has_after : ℕ → Bool) (s t : Stack)
      → IsOwned script machine → IsOwned script after → ((other : ℕ) → other ≢ thread → thread_at after other ≡ thread_at machine other)
      → Stands script machine thread owners has s → IsAsStack (thread_at after thread) t → IsCounted has_after t
      → ((o : ℕ) → o < length script.containers → owners_after o ≡ owner_after thread owners has has_after o)
      → Stands script after thread owners_after has_after t
  locks_after machine after thread owners owners_after has has_after s t inv inv_after others stands same counted are =
      record {
        stack = same;
        counted = counted;
        locks = λ o low.
            after_by thread (owners o) (holder_of after.holders o) (has o) (has_after o)
            (is_mine machine thread owners has s inv stands o low)
            (sym (owned_count after thread t has_after same counted o) ∙ inv_after.owned o thread low)
            (λ other differs.
            sym (inv_after.owned o other low)
            ∙ (ap (λ (u : ThreadState). occ o (owned u)) (others other differs)
            ∙ (inv.owned o other low ∙ ap (bit_of other) (stands.locks o low))))
            ∙ sym (are o low);
      }
