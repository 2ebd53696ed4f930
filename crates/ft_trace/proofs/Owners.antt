-- While a pass has the floor, whoever else has a lock has had it since the floor was taken.
use Rattle.std.proofs.Common.{◌≡◌, ◌≢◌, ℕ, eqb, eq-eqb, ne_eqb, ◌<◌, Bool, true, false, cond, List, [], ◌∷◌, refl, sym, ap, ◌∙◌, arith}
use Rattle.std.specs.Prelude.{slice_index}
use mathlib.Core.Option.{some, some-injective}
use mathlib.Core.Logic.{dite}
use native.Mathlib.Decide.{ℕ_discrete}
use lib.ListN.{get_elem?}
use prog.Atomic.{either}
use Rattle.ft_trace.specs.declared.Shape.{Shape}
use Rattle.ft_trace.specs.declared.Snap.{Snap}
use Rattle.ft_trace.specs.declared.View.{View}
use Rattle.ft_trace.specs.declared.Act.{Act}
use Rattle.ft_trace.specs.declared.Act.TheVariants.{Lock, Unlock, TakeFloor}
use Rattle.ft_trace.specs.Addresses.{at, lock_of, container_count}
use Rattle.ft_trace.specs.Acts.{place, Reports, floor_words, has_lock, starter, view_after, maker, made, both, spent, sender, note, has_floor_next}
use Rattle.ft_trace.specs.Floors.{at_floor, lock_of_another, OwnersStay, KnownOwnersStay}
use Rattle.ft_trace.specs.Traces.{Event, did, forked, joined, sent, run, word, history, May, Valid}
use Rattle.ft_trace.proofs.Sizes.{set_views, one_more, one_view}
use Rattle.ft_trace.proofs.Cases.{hit, miss, off}
use Rattle.ft_trace.proofs.OneWord.{stays, moves}
use Rattle.ft_trace.proofs.Locks.{on_lock, names, holder}
use Rattle.ft_trace.proofs.Seats.{same_seat}
use Rattle.ft_trace.proofs.Floored.{floored, tokens_alone, by_given}

either_way : (b : Bool) (n : ℕ) → cond b n n ≡ n
either_way true n = refl
either_way false n = refl

no_other : (number : ℕ) → lock_of_another number 0 ≡ 0
no_other number = either_way (eqb 0 number) 0

-- the locks of others are those of the moment at which the pass took the floor
abbrev Since : Shape → List Event → ℕ → ℕ → View → Type 0
Since k es o j u =
    u.has_floor ≡ true
    → lock_of_another u.number (word k es (lock_of o)) ≡ lock_of_another u.number (slice_index (at_floor u.log) (at k (lock_of o)))

module _ (k : Shape) (es : List Event) (id : ℕ) (v : View) (o : ℕ) (low : o < container_count k) where
  abbrev by_another : ℕ → ℕ
  by_another n = lock_of_another v.number n

  abbrev here : ℕ
  here = word k es (lock_of o)

  abbrev Step : Act → Type 0
  Step a =
      Reports a (word k es (place a)) → May k (run k es) (history es) v a → Since k es o id v → has_floor_next a v.has_floor ≡ true
      → by_another (word k (did id v a ∷ es) (lock_of o)) ≡ by_another (slice_index (at_floor (a ∷ v.log)) (at k (lock_of o)))

  lock_step : (f : ℕ) (s : Snap) → Step (Lock o f s)
  lock_step f s found may old has =
      let moved = moves k es id v (Lock o f s) may in
      dite (ℕ_discrete here 0)
      (λ (free : here ≡ 0).
      ap by_another (moved ∙ ap (λ (b : Bool). either b v.number here) (eq-eqb here 0 free))
      ∙ (hit v.number 0 v.number ∙ (sym (ap by_another free ∙ no_other v.number) ∙ old has)))
      (λ (taken : here ≢ 0). ap by_another (moved ∙ ap (λ (b : Bool). either b v.number here) (ne_eqb here 0 taken)) ∙ old has)

  unlock_step : here ≡ v.number → Step (Unlock o)
  unlock_step mine found may old has =
      ap by_another (moves k es id v (Unlock o) may)
      ∙ (no_other v.number ∙ (sym (ap by_another mine ∙ hit v.number 0 v.number) ∙ old has))

  other_step : (a : Act) → place a ≢ lock_of o → Step a
  other_step (TakeFloor f s) apart found may old has =
      ap by_another (stays k es id v (TakeFloor f s) may (lock_of o) low apart ∙ ap (λ (z : Snap). slice_index z.words (at k (lock_of o))) (sym may.1))
  other_step act apart found may old has = ap by_another (stays k es id v act may (lock_of o) low apart) ∙ old has

since : (k : Shape) (es : List Event) → Valid k es → (o : ℕ) → o < container_count k → (j : ℕ) (u : View) → get_elem? (run k es).views j ≡ some u → Since k es o j u
since k [] valid o low = one_view (Since k [] o) (starter k) (λ no. off no)
since k (did id v a ∷ es) valid o low =
    let old = since k es valid.0 o low in
    let token = valid.1.4 in
    set_views (Since k (did id v a ∷ es) o) _ id (view_after a v)
    (on_lock o (Step k es id v o low) (lock_step k es id v o low)
    (λ found may. unlock_step k es id v o low (names k es valid.0 o low id v valid.1.0 may.1) found may)
    (λ b _ apart. other_step k es id v o low b apart)
    a valid.1.2 valid.1.3 (old id v valid.1.0))
    (λ j u apart e has. let none = tokens_alone k es valid.0 j id u v e valid.1.0 apart ((floored k es valid.0 j u e).has has).0 in absurd (omega (arith, none, token)))
since k (forked id v ∷ es) valid o low =
    let old = since k es valid.0 o low in
    let P : ℕ → View → Type 0 = Since k (forked id v ∷ es) o in
    one_more P _ (made v) (λ no. off no) (set_views P _ id (maker v) (λ no. off no) (λ j u _ e. old j u e))
since k (sent id v given ∷ es) valid o low =
    let old = since k es valid.0 o low in
    let P : ℕ → View → Type 0 = Since k (sent id v given ∷ es) o in
    one_more P _ (note given v) (λ no. off no) (set_views P _ id (sender given v) (λ has. old id v valid.1.0 (by_given (eqb given 0) v.has_floor has)) (λ j u _ e. old j u e))
since k (joined id v other w ∷ es) valid o low =
    let old = since k es valid.0 o low in
    let P : ℕ → View → Type 0 = Since k (joined id v other w ∷ es) o in
    set_views P _ other spent (λ no. off no) (λ j u _. set_views P _ id (both v w) (old id v valid.1.0) (λ j u _ e. old j u e) j u)

-- a lock that the pass hasn't is that of another, or free
others_lock : (k : Shape) (es : List Event) → Valid k es → (o : ℕ) → o < container_count k → (j : ℕ) (u : View) → get_elem? (run k es).views j ≡ some u → has_lock o u.log ≡ false → lock_of_another u.number (word k es (lock_of o)) ≡ word k es (lock_of o)
others_lock k es valid o low j u seat free =
    let n = word k es (lock_of o) in
    dite (ℕ_discrete n 0)
    (λ (none : n ≡ 0). ap (lock_of_another u.number) none ∙ (no_other u.number ∙ sym none))
    (λ (taken : n ≢ 0).
    let h = holder k es valid o low taken in
    let named : n ≡ h.1.number = names k es valid o low h.0 h.1 h.2 h.3 in
    miss n u.number 0 n
    (λ (own : n ≡ u.number).
    let same : h.0 ≡ j = same_seat k es valid h.0 j h.1 u h.2 seat (λ e. taken (named ∙ e)) (sym named ∙ own) in
    let is : h.1 ≡ u = some-injective h.1 u (sym h.2 ∙ (ap (get_elem? (run k es).views) same ∙ seat)) in
    off (sym free ∙ (ap (λ (z : View). has_lock o z.log) (sym is) ∙ h.3))))

pub owners_stay : OwnersStay
owners_stay k es valid j u seat has o low =
    let now : slice_index (floor_words k u.number u.log) (at k (lock_of o)) ≡ word k es (lock_of o) = ap (λ (ws : List ℕ). slice_index ws (at k (lock_of o))) ((floored k es valid j u seat).has has).1 in
    let then = since k es valid o low j u seat has in (
      λ free. now ∙ (sym (others_lock k es valid o low j u seat free) ∙ then),
      λ mine.
          let own : word k es (lock_of o) ≡ u.number = names k es valid o low j u seat mine in
          (now ∙ own, sym then ∙ (ap (lock_of_another u.number) own ∙ hit u.number 0 u.number)),
    )

pub known_owners_stay : KnownOwnersStay
known_owners_stay v p = owners_stay v.shape p.0 p.2.0 p.1 v p.2.1
