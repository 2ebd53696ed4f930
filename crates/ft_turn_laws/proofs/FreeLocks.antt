-- That no lock is taken before the first turn: no one view says it, but each pass that has the floor says it of itself.
use Rattle.std.proofs.Common.{◌≡◌, ◌≢◌, ℕ, zero, suc, ◌+◌, ◌-◌, ◌<◌, ◌≤◌, Bool, true, false, cond, List, [], ◌∷◌, None, Some, refl, sym, ap, subst, ◌∙◌, arith, inl, inr}
use Rattle.std.specs.Prelude.{slice_index}
use Rattle.std.proofs.Math.Logic.{∥∥₁_elim}
use Rattle.std.proofs.lemmas.Bool.{cases_eq}
use Rattle.std.proofs.lemmas.Option.{none-some, same_Some}
use Rattle.ft_trace.specs.declared.Shape.{Shape}
use Rattle.ft_trace.specs.declared.View.{View}
use Rattle.ft_trace.specs.Acts.{has_lock}
use Rattle.ft_trace.specs.Addresses.{at, container_count, lock_of}
use Rattle.ft_trace.specs.Floors.{at_floor, lock_of_another}
use Rattle.ft_trace.specs.NumberPlaces.{top}
use Rattle.ft_trace.specs.Traces.{Event, did, forked, joined, sent, word, IsReachable, Valid}
use Rattle.ft_trace.proofs.Cases.{hit, miss}
use Rattle.ft_trace.proofs.Floored.{floor_stands}
use Rattle.ft_trace.proofs.Locks.{holder, names}
use Rattle.ft_trace.proofs.Owners.{known_owners_stay}
use Rattle.ft_trace.proofs.Seats.{seated}
use Rattle.ft_bank.specs.Passes.{view}
use Rattle.ft_bank.specs.PassSections.{Stack, no_sections, noted_in, stack_of, taken_in}
use Rattle.ft_section.specs.Floors.{floor_word, owner_named}
use Rattle.ft_section.specs.Ready.{InCall}
use Rattle.ft_engine.specs.declared.caller.Caller.{Caller}
use Rattle.ft_engine.specs.declared.engine.Engine.{Engine}
use Rattle.ft_engine.specs.Callers.{IsCallerOf, thread_of}
use Rattle.ft_engine.proofs.Callers.{some_number}
use Rattle.ft_turn_laws.specs.Beginnings.{LocksOfNobodyAreFree, OneMoreOwnsNone}
use Rattle.ft_turn_laws.specs.LockOwners.{owners_in}
use Rattle.ft_turn_laws.proofs.PassSteps.{in_call}
use Rattle.ft_turn_laws.proofs.BeforeTurns.{same_owners}

-- ---- the numbers of passes

-- no more passes are made than the bank has
top_low : (k : Shape) (es : List Event) → Valid k es → top es ≤ k.passes + 1
top_low k [] valid = let some = valid.some_pass in omega arith
top_low k (did id v a ∷ es) valid = top_low k es valid.0
top_low k (forked id v ∷ es) valid = let is = ((seated k es valid.0 id v valid.1.0).next valid.1.2).0 in let few = valid.1.5 in omega arith
top_low k (sent id v given ∷ es) valid = top_low k es valid.0
top_low k (joined id v other w ∷ es) valid = top_low k es valid.0

named_is : (n thread : ℕ) → owner_named n ≡ Some thread → n ≡ suc thread
named_is zero thread is = absurd (none-some thread is)
named_is (suc n) thread is = ap suc (same_Some n thread is)

-- a lock is a pass's of the bank
owners_low : (v : View) → IsReachable v → v.has_floor ≡ true → (o : ℕ) → o < container_count v.shape → (thread : ℕ) → owners_in v o ≡ Some thread → thread < v.shape.passes
owners_low v p floor o low thread is =
    let k = v.shape in
    let es = p.0 in
    let valid = p.2.0 in
    let words = (floor_stands k es valid p.1 v p.2.1).0 floor in
    let known : word k es (lock_of o) ≡ suc thread = sym (ap (λ (ws : List ℕ). slice_index ws (at k (lock_of o))) words.1) ∙ named_is (floor_word (lock_of o) v) thread is in
    let h = holder k es valid o low (λ none. absurd (omega arith)) in
    let number : word k es (lock_of o) ≡ h.1.number = names k es valid o low h.0 h.1 h.2 h.3 in
    let below = (seated k es valid h.0 h.1 h.2).below in
    let few = top_low k es valid in
    omega arith

-- a pass without the lock isn't the one that the word names
not_own : (v : View) → IsReachable v → v.has_floor ≡ true → v.number ≢ 0 → (o : ℕ) → o < container_count v.shape → has_lock o v.log ≡ false → owners_in v o ≢ Some (v.number - 1)
not_own v p floor live o low lacks is =
    let n = slice_index (at_floor v.log) (at v.shape (lock_of o)) in
    let known : lock_of_another v.number n ≡ suc (v.number - 1) = sym ((known_owners_stay v p floor o low).0 lacks) ∙ named_is (floor_word (lock_of o) v) (v.number - 1) is in
    elim (cases_eq n v.number) [
      | inl same ↦ absurd (let none : lock_of_another v.number n ≡ 0 = ap (lock_of_another v.number) same ∙ hit v.number 0 v.number in omega arith)
      | inr differs ↦ differs (let kept : lock_of_another v.number n ≡ n = miss n v.number 0 n differs in omega arith)
    ]

-- ---- callers

-- a caller with no section and no lock of a call has no lock
has_none : (e : Engine) (c : Caller) → IsCallerOf e c → stack_of c.pass ≡ no_sections → (o : ℕ) → has_lock o (view c.pass).log ≡ false
has_none e c is none o =
    let inside : InCall (view c.pass) (stack_of c.pass) = in_call e.bank c.pass c.cursors.items c.flight is.inside in
    let empty : noted_in o (stack_of c.pass).sections + taken_in o (stack_of c.pass).own ≡ 0 = ap (λ (s : Stack). noted_in o s.sections + taken_in o s.own) none ∙ zero_both in
    lacks (has_lock o (view c.pass).log) (sym (inside.locks o) ∙ empty)
  where
    zero_both : 0 + (0 + 0) ≡ 0
    zero_both = omega arith

    lacks : (b : Bool) → cond {A = ℕ} b 1 0 ≡ 0 → b ≡ false
    lacks true one = absurd (omega arith)
    lacks false one = refl

pub one_more : OneMoreOwnsNone
one_more e v c is none floor from so_far o thread low below =
    elim (cases_eq thread (thread_of c)) [
      | inl same ↦ λ owned. ∥∥₁_elim {P = ⊥} c.pass.possible (hlevel) (λ p.
          not_own (view c.pass) p floor (λ z. (let n = some_number c.pass in absurd (omega arith))) o low (has_none e c is none o) (owned ∙ ap Some same))
      | inr differs ↦ λ owned. so_far o thread (subst (λ k. o < container_count k) from.shape low) (omega arith) (same_owners v (view c.pass) from o ∙ owned)
    ]

pub nobodys_are_free : LocksOfNobodyAreFree
nobodys_are_free e c is floor none o low =
    elim (owners_in (view c.pass) o) as (λ owner. owners_in (view c.pass) o ≡ owner → owners_in (view c.pass) o ≡ None) [
      | None ↦ λ free. free
      | Some thread ↦ λ owned. absurd (∥∥₁_elim {P = ⊥} c.pass.possible (hlevel) (λ p.
          let here : o < container_count (view c.pass).shape = rw is.pass.1 low in
          let below = owners_low (view c.pass) p floor o here thread owned in
          none o thread here (subst (λ (k : Shape). thread < k.passes) is.pass.1 below) owned))
    ] refl
