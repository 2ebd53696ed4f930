-- What the bits of heaps tell.
use Rattle.std.proofs.Common.{◌≡◌, ◌≢◌, ℕ, suc, ◌%◌, ◌^◌, List, [], ◌∷◌, ◌++◌, refl, sym, ap, ◌∙◌, subst, arith}
use mathlib.Core.Option.{some}
use mathlib.Core.Logic.{dite}
use native.Mathlib.Decide.{ℕ_discrete}
use lib.ListN.{get_elem?}
use Rattle.std.proofs.Math.Nat.{zero-div}
use Rattle.ft_trace.specs.declared.Shape.{Shape}
use Rattle.ft_trace.specs.declared.View.{View}
use Rattle.ft_trace.specs.declared.Act.{Act}
use Rattle.ft_trace.specs.declared.Act.TheVariants.{ReadFreePlaces, TakePlace, TookOver, PutTable, PutRoot}
use Rattle.ft_trace.specs.Bits.{bit}
use Rattle.ft_trace.specs.Addresses.{IsBoxName, maker_of, place_word_of, place_bit_of}
use Rattle.ft_trace.specs.Acts.{place, starter, view_after, maker, made, both, spent, sender, note, hands_over, tells}
use Rattle.ft_trace.specs.Owners.{had_locks, found_owners}
use Rattle.ft_trace.specs.Boxes.{made_state}
use Rattle.ft_trace.specs.BoxTraces.{box_state, box_state_next, making_box, has_in_default, place_bit}
use Rattle.ft_trace.specs.HeapPlaces.{FullWordsHaveNoFreePlace, IsNotTake, NotTaken, OwnFreePlacesStay}
use Rattle.ft_trace.specs.Traces.{Event, did, forked, joined, sent, run, word, history, May, Valid}
use Rattle.ft_trace.proofs.Sizes.{set_views, one_more, one_view}
use Rattle.ft_trace.proofs.Seats.{same_seat}
use Rattle.ft_trace.proofs.Cases.{hit, here}
use Rattle.ft_trace.proofs.Sums.{total_at}
use Rattle.ft_trace.proofs.NamedBoxes.{IsPut}
use Rattle.ft_trace.proofs.BoxActs.{on_box}
use Rattle.ft_trace.proofs.Boxed.{boxed}

pub bit_none : (b : ℕ) → bit b 0 ≡ 0
unfolding bit
bit_none b = ap (λ (z : ℕ). z % 2) (zero-div (2 ^ b))

pub full_words : FullWordsHaveNoFreePlace
full_words k es id v b is valid free =
    let found : 0 ≡ word k es (place (ReadFreePlaces (maker_of b) (place_word_of b) 0)) = valid.1.2 in
    let one = (boxed k b es valid.0).free is free in
    let none : bit (place_bit_of b) 0 ≡ place_bit k b es = ap (bit (place_bit_of b)) found in
    let z = bit_none (place_bit_of b) in
    omega (arith, one, none, z)

-- a free place stays free but at its taking
free_stays : (k : Shape) (es : List Event) (id : ℕ) (v : View) (a : Act) → Valid k (did id v a ∷ es) → (b : ℕ) → IsNotTake b a → box_state b es ≡ 0 → box_state_next b a (box_state b es) ≡ 0
free_stays k es id v a valid b not_take free =
    on_box k es id v b (λ c. IsNotTake b c → May k (run k es) (history es) v c → box_state_next b c (box_state b es) ≡ 0)
    (λ f n may. absurd (n refl)) (λ i x n may. free) (λ n may. absurd (not_made may.1)) (λ x n may. free) (λ x n may. free) (λ n may. free) (λ d f n may. absurd (not_default may.1))
    (λ before f n may. free) (λ f n may. free) (λ f n may. free) (λ n may. hit b 0 (box_state b es))
    (λ c is n may. put_phase c is ∙ free)
    (λ c calm n may. (calm may).phase_is (box_state b es) ∙ free)
    a not_take valid.1.3
  where
    not_made : made_state b v.log ≢ 1
    not_made e =
        let m : making_box b v ≡ 1 = here (made_state b v.log) 1 1 0 e in
        let t = total_at (making_box b) (run k es).views id v valid.1.0 in
        let n = (boxed k b es valid.0).counts.unmade (λ z. omega (arith, z, free)) in
        omega (arith, m, t, n)

    not_default : made_state b v.log ≢ 2
    not_default e =
        let m : has_in_default b v ≡ 1 = here (made_state b v.log) 2 1 0 e in
        let t = total_at (has_in_default b) (run k es).views id v valid.1.0 in
        let n = (boxed k b es valid.0).counts.other (λ z. omega (arith, z, free)) in
        omega (arith, m, t, n)

    put_phase : (c : Act) → IsPut c → box_state_next b c (box_state b es) ≡ box_state b es
    put_phase (PutTable o t i x) is = refl
    put_phase (PutRoot o r old) is = refl
    put_phase c is = absurd is

abbrev pub rest_of : List Act → List Act
rest_of [] = []
rest_of (a ∷ l) = l

abbrev pub first_of : Act → List Act → Act
first_of a [] = a
first_of a (c ∷ l) = c

pub no_log : {A : Type 0} (newer : List Act) (a : Act) (rest : List Act) → [] ≡ newer ++ a ∷ rest → A
no_log [] a rest e = absurd (cc)
no_log (c ∷ newer) a rest e = absurd (cc)

-- an action that is another's takes no place of the pass's own heap
others_take : (k : Shape) (es : List Event) (id : ℕ) (v : View) (a : Act) → Valid k (did id v a ∷ es) → (b j : ℕ) (u : View) → j ≢ id → get_elem? (run k es).views j ≡ some u → u.number ≡ suc (maker_of b) → IsNotTake b a
others_take k es id v (TakePlace c f) valid b j u ne there mine =
    λ e.
    let n : v.number ≡ suc (maker_of b) = valid.1.3.1 ∙ ap (λ (z : ℕ). suc (maker_of z)) e in
    ne (sym (same_seat k es valid.0 id j v u valid.1.0 there valid.1.1 (n ∙ sym mine)))
others_take k es id v act valid b j u ne there mine = tt

module _ (k : Shape) (b : ℕ) (is : IsBoxName k b) where
  abbrev Free : List Event → View → Type 0
  Free es u = u.number ≡ suc (maker_of b) → (newer rest : List Act) (f : ℕ) → u.log ≡ newer ++ ReadFreePlaces (maker_of b) (place_word_of b) f ∷ rest → bit (place_bit_of b) f ≡ 1 → NotTaken b newer → box_state b es ≡ 0

  -- its own action
  own_free : (es : List Event) (id : ℕ) (v : View) (a : Act) → Valid k (did id v a ∷ es) → Free es v → Free (did id v a ∷ es) (view_after a v)
  own_free es id v a valid old mine [] rest f log one none =
      let same : a ≡ ReadFreePlaces (maker_of b) (place_word_of b) f = ap (first_of a) log in
      let F : Act → Type 0 = λ c. Valid k (did id v c ∷ es) → box_state_next b c (box_state b es) ≡ 0 in
      subst F (sym same)
      (λ ok.
      let found : bit (place_bit_of b) f ≡ place_bit k b es = ap (bit (place_bit_of b)) ok.1.2 in
      dite (ℕ_discrete (box_state b es) 0) (λ (z : box_state b es ≡ 0). z) (λ ne. let t = (boxed k b es ok.0).taken is ne in absurd (omega (arith, t, found, one))))
      valid
  own_free es id v a valid old mine (c ∷ newer) rest f log one none =
      let same : c ≡ a = sym (ap (first_of a) log) in
      let was = old mine newer rest f (ap rest_of log) one none.1 in
      free_stays k es id v a valid b (subst (IsNotTake b) same none.0) was

  begun : (es : List Event) (u : View) → u.log ≡ [] → Free es u
  begun es u e mine newer rest f log one none = no_log newer (ReadFreePlaces (maker_of b) (place_word_of b) f) rest (sym e ∙ log)

  pub own_free_places : (es : List Event) → Valid k es → (j : ℕ) (u : View) → get_elem? (run k es).views j ≡ some u → Free es u
  own_free_places [] valid = one_view (λ j u. Free [] u) (starter k) (begun [] (starter k) refl)
  own_free_places (did id v a ∷ es) valid =
      let old = own_free_places es valid.0 in
      set_views (λ j u. Free (did id v a ∷ es) u) _ id (view_after a v) (own_free es id v a valid (old id v valid.1.0))
      (λ j u ne e mine newer rest f log one none. free_stays k es id v a valid b (others_take k es id v a valid b j u ne e mine) (old j u e mine newer rest f log one none))
  own_free_places (forked id v ∷ es) valid =
      let old = own_free_places es valid.0 in
      one_more (λ j u. Free (forked id v ∷ es) u) _ (made v) (begun (forked id v ∷ es) (made v) refl) (set_views (λ j u. Free (forked id v ∷ es) u) _ id (maker v) (old id v valid.1.0) (λ j u _ e. old j u e))
  own_free_places (sent id v given ∷ es) valid =
      let old = own_free_places es valid.0 in
      one_more (λ j u. Free (sent id v given ∷ es) u) _ (note given v) (begun (sent id v given ∷ es) (note given v) refl) (set_views (λ j u. Free (sent id v given ∷ es) u) _ id (sender given v) (old id v valid.1.0) (λ j u _ e. old j u e))
  own_free_places (joined id v other w ∷ es) valid =
      let old = own_free_places es valid.0 in
      set_views (λ j u. Free (joined id v other w ∷ es) u) _ other spent (begun (joined id v other w ∷ es) spent refl)
      (λ j u _. set_views (λ j u. Free (joined id v other w ∷ es) u) _ id (both v w) (joined_free es id v w (old id v valid.1.0)) (λ i2 y _ e. old i2 y e) j u)
    where
      joined_free : (es : List Event) (id : ℕ) (v w : View) → Free es v → Free es (both v w)
      joined_free es id v w old mine [] rest f log one none =
          let same : TookOver (hands_over w.log) (had_locks w.number w.log) (found_owners w.log) (tells w) ≡ ReadFreePlaces (maker_of b) (place_word_of b) f = ap (first_of (ReadFreePlaces 0 0 0)) log in
          absurd (cc)
      joined_free es id v w old mine (c ∷ newer) rest f log one none = old mine newer rest f (ap rest_of log) one none.1

pub own_free_places_stay : OwnFreePlacesStay
own_free_places_stay k b is es valid j u there = own_free_places k b is es valid j u there
