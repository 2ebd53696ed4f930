-- The places of a pass's own heap.
use Rattle.std.proofs.Common.{◌≡◌, ◌≢◌, ℕ, suc, ◌+◌, ◌-◌, ◌*◌, ◌/◌, ◌%◌, ◌^◌, ◌<◌, ◌≤◌, eqb, Bool, true, false, cond, List, [], ◌∷◌, refl, sym, ap, ◌∙◌, subst, inl, inr, ⊎_elim, arith}
use mathlib.Core.Logic.{dite}
use native.Mathlib.Decide.{ℕ_discrete}
use Rattle.std.proofs.Math.Bridge.{le_prop}
use Rattle.std.proofs.Math.Decide.{dec_lt}
use Rattle.std.proofs.Math.Logic.{∥∥₁_elim, ∥∥₁_map}
use Rattle.ft_layout.specs.declared.slot.Ref.{Ref}
use Rattle.ft_layout.specs.declared.slot.Stored.TheVariants.{Plain}
use Rattle.ft_layout.specs.Starts.{IsHeap}
use Rattle.ft_layout.specs.Words.{IsStored}
use Rattle.ft_model.specs.declared.data.Value.{Value}
use Rattle.ft_trace.specs.declared.Act.{Act}
use Rattle.ft_trace.specs.declared.Act.TheVariants.{ReadFreePlaces, TakePlace, ReadBox, RaiseShared}
use Rattle.ft_trace.specs.declared.Shape.{Shape}
use Rattle.ft_trace.specs.declared.View.{View}
use Rattle.ft_trace.specs.Bits.{bit, full}
use Rattle.ft_trace.specs.Acts.{view_after}
use Rattle.ft_trace.specs.Addresses.{maker_of, place_in, place_bit_of, place_word_of, IsBoxName}
use Rattle.ft_trace.specs.Boxes.{made_state, local_count, taken_out, place_to_give, place_use, references_held, times_kept, known_box_word, knows_box_word}
use Rattle.ft_trace.specs.BoxTraces.{box_state, has_in_default, making_box, references, references_held_by}
use Rattle.ft_trace.specs.BoxWords.{IsBoxedValue}
use Rattle.ft_trace.specs.Traces.{run, IsReachable}
use Rattle.ft_trace.proofs.Announcing.{fits}
use Rattle.ft_trace.proofs.Bits.{bit_full}
use Rattle.ft_trace.proofs.Boxed.{boxed}
use Rattle.ft_trace.proofs.BoxKnown.{box_known, sure_after, sure_stays}
use Rattle.ft_trace.proofs.BoxedValues.{boxes_have_values}
use Rattle.ft_trace.proofs.BoxValues.{box_name, box_there}
use Rattle.ft_trace.proofs.Budgets.{number_low}
use Rattle.ft_trace.proofs.Cases.{hit, here, miss}
use Rattle.ft_trace.proofs.HeapPlaces.{own_free_places_stay}
use Rattle.ft_trace.proofs.Sums.{total_at}
use Rattle.ft_bank.specs.BoxSteps.{box_id, HasFoundFree, IsBoxIn}
use Rattle.ft_bank.specs.Logs.{WasLog}
use Rattle.ft_bank.specs.SameBoxes.{HoldsFew, SameReferences}
use Rattle.ft_bank.specs.Whole.{OnlyBoxed, OnlyLoaded}
use Rattle.ft_bank.proofs.BoxAddresses.{box_named, maker_is, place_bit_is, place_low, place_word_is}
use Rattle.ft_bank.proofs.KnownAfterWrites.{boxed_then, loaded_boxed}
use Rattle.ft_bank.proofs.OwnBoxes.{owned}
use Rattle.ft_boxes.specs.declared.held.Raised.{Raised}
use Rattle.ft_boxes.specs.declared.held.Raised.TheVariants as raised
use Rattle.ft_boxes.specs.Internal.Merges.{LeavesNoIdleBoxIn}
use Rattle.ft_boxes.specs.Internal.Places.{FoundWordFull, HasTakenPlace}
use Rattle.ft_boxes.specs.Making.{FoundFull}
use Rattle.ft_boxes.specs.Merging.{FoundCounts, MergesIdleBoxes}
use Rattle.ft_boxes.specs.Raising.{FoundDead, FoundMoved, Raises}
use Rattle.ft_boxes.specs.References.{HoldsBox, KeepsValues, KnowsValue, LeavesOthers}
use Rattle.ft_boxes.proofs.Steps.{held_keeps, keeps_before, keeps_same, keeps_then, leaves_by, leaves_then, more_then, same_then}

-- a pass has one of the bank's numbers
pub number_is_low : (v : View) → ∥ IsReachable v ∥₁ → v.number ≤ v.shape.passes
number_is_low v possible = ∥∥₁_elim {P = v.number ≤ v.shape.passes} possible le_prop (λ p. number_low v.shape p.0 (fits v.shape p.0 p.2.0).some_pass p.2.0 p.1 v p.2.1)

-- so it has a heap there
pub own_low : (v : View) (k : Shape) (n : ℕ) → v.shape ≡ k → v.number ≡ n + 1 → v.number ≤ v.shape.passes → n < k.passes
own_low v k n same number low = let shape = ap (λ (z : Shape). z.passes) same in omega (arith, low, number, shape)

-- a box for which a pass holds a reference is one of the bank
pub names_held : (v : View) → ∥ IsReachable v ∥₁ → (b : Ref) → HoldsBox b v → IsBoxName v.shape (box_id b)
names_held v possible b held = (
  ∥∥₁_elim {P = maker_of (box_id b) < v.shape.passes} possible le_prop (λ p. (name p).0),
  ∥∥₁_elim {P = place_in (box_id b) < v.shape.heap} possible le_prop (λ p. (name p).1),
  ∥∥₁_elim {P = place_word_of (box_id b) < v.shape.heap / 64} possible le_prop (λ p. (name p).2),
)
  where
    name : IsReachable v → IsBoxName v.shape (box_id b)
    name p =
        let k = v.shape in
        let some_ = held.1 in
        let t = total_at (references_held_by k (box_id b)) (run k p.0).views p.1 v p.2.1 in
        let r : references k (box_id b) p.0 ≢ 0 = λ z. omega (arith, z, t, some_) in
        let up = box_there k (box_id b) p.0 p.2.0 r in
        box_name k (box_id b) p.0 p.2.0 (λ z. omega (arith, z, up))

pub loaded_keeps : (v w : View) → ∥ IsReachable v ∥₁ → OnlyLoaded v w → KeepsValues v w
loaded_keeps v w possible only = keeps_same v w (names_held v possible) only.boxes.knows

-- two parts of a call, in the first or the second of which the references are the same
pub first_then : (u v w : View) → OnlyBoxed u v → SameReferences u v → KeepsValues u v → KeepsValues v w → KeepsValues u w
first_then u v w only same first then = keeps_then u v w (sym only.work.pass.shape) same first then

pub then_last : (u v w : View) → OnlyBoxed v w → SameReferences v w → KeepsValues u v → KeepsValues v w → KeepsValues u w
then_last u v w only same first then = keeps_before u v w (sym only.work.pass.shape) same first then

pub loaded_then : (u v w : View) → ∥ IsReachable u ∥₁ → OnlyLoaded u v → OnlyBoxed v w → KeepsValues v w → OnlyBoxed u w × KeepsValues u w
loaded_then u v w possible loads only then = (
  boxed_then u v w (loaded_boxed u v loads) only,
  first_then u v w (loaded_boxed u v loads) loads.boxes.references (loaded_keeps u v possible loads) then,
)

-- no other pass has a box of another heap in the default state
pub others_share_it : (v : View) → ∥ IsReachable v ∥₁ → (b : Ref) → b.place < 65536 → v.number ≢ b.pass + 1 → made_state (box_id b) v.log ≢ 2
others_share_it v possible b low other two =
    ∥∥₁_elim {P = ⊥} possible (λ x y. absurd x)
    (λ p. let m = maker_is b low in other (let n = owned v.shape (box_id b) p.0 p.2.0 p.1 v p.2.1 (λ z. omega (arith, z, two)) in omega (arith, n, m)))

-- a place of its own heap that a pass found free has no box of its: nobody holds a reference there
pub free_is_unmade : (v : View) → ∥ IsReachable v ∥₁ → (b : ℕ) → IsBoxName v.shape b → v.number ≡ suc (maker_of b) → HasFoundFree b v.log → (made_state b v.log ≢ 1) × (made_state b v.log ≢ 2) × (references_held v.shape b v.log ≡ 0)
free_is_unmade v possible b is mine seen = (
  (λ z. ∥∥₁_elim {P = ⊥} possible (λ x y. absurd x) (λ p. not_making p z)),
  (λ z. ∥∥₁_elim {P = ⊥} possible (λ x y. absurd x) (λ p. not_default p z)),
  zero_of (∥∥₁_elim {P = references_held v.shape b v.log ≤ 0} possible le_prop none),
)
  where
    zero_of : {n : ℕ} → n ≤ 0 → n ≡ 0
    zero_of low = omega (arith, low)

    k : Shape
    k = v.shape

    free : (p : IsReachable v) → box_state b p.0 ≡ 0
    free p = own_free_places_stay v.shape b is p.0 p.2.0 p.1 v p.2.1 mine seen.newer seen.rest seen.found seen.is seen.set seen.none

    not_making : IsReachable v → made_state b v.log ≢ 1
    not_making p e =
        let m : making_box b v ≡ 1 = here (made_state b v.log) 1 1 0 e in
        let f = free p in
        let t = total_at (making_box b) (run v.shape p.0).views p.1 v p.2.1 in
        let n = (boxed v.shape b p.0 p.2.0).counts.unmade (λ z. omega (arith, z, f)) in
        omega (arith, m, t, n)

    not_default : IsReachable v → made_state b v.log ≢ 2
    not_default p e =
        let m : has_in_default b v ≡ 1 = here (made_state b v.log) 2 1 0 e in
        let f = free p in
        let t = total_at (has_in_default b) (run v.shape p.0).views p.1 v p.2.1 in
        let n = (boxed v.shape b p.0 p.2.0).counts.other (λ z. omega (arith, z, f)) in
        omega (arith, m, t, n)

    none : IsReachable v → references_held v.shape b v.log ≤ 0
    none p =
        let f = free p in
        let n = (boxed v.shape b p.0 p.2.0).counts.none (omega (arith, f)) in
        let t = total_at (references_held_by v.shape b) (run v.shape p.0).views p.1 v p.2.1 in
        omega (arith, n, t)

-- a box that the pass has in the default state lies in its own heap
pub own_name : (v : View) → ∥ IsReachable v ∥₁ → (b : ℕ) → made_state b v.log ≡ 2 → (maker_of b + 1 ≡ v.number) × (place_in b < v.shape.heap)
own_name v possible b two = (
  equal (∥∥₁_elim {P = maker_of b + 1 ≤ v.number} possible le_prop (λ p. let n = number p in omega (arith, n))) (∥∥₁_elim {P = v.number ≤ maker_of b + 1} possible le_prop (λ p. let n = number p in omega (arith, n))),
  ∥∥₁_elim {P = place_in b < v.shape.heap} possible le_prop (λ p. (name p).1),
)
  where
    equal : {m n : ℕ} → m ≤ n → n ≤ m → m ≡ n
    equal low high = omega (arith, low, high)

    number : (p : IsReachable v) → v.number ≡ suc (maker_of b)
    number p = owned v.shape b p.0 p.2.0 p.1 v p.2.1 (λ z. omega (arith, z, two))

    name : (p : IsReachable v) → IsBoxName v.shape b
    name p =
        let m : has_in_default b v ≡ 1 = here (made_state b v.log) 2 1 0 two in
        let t = total_at (has_in_default b) (run v.shape p.0).views p.1 v p.2.1 in
        box_name v.shape b p.0 p.2.0 (λ z. let n = (boxed v.shape b p.0 p.2.0).counts.other (λ y. omega (arith, y, z)) in omega (arith, m, t, n))

-- a box that is referred to has a value
pub value_there : (v : View) → ∥ IsReachable v ∥₁ → (b : Ref) → HoldsBox b v → knows_box_word v.shape (box_id b) 1 v.log ≡ true → knows_box_word v.shape (box_id b) 2 v.log ≡ true → ∥ IsBoxedValue (known_box_word v.shape (box_id b) 1 v.log) (known_box_word v.shape (box_id b) 2 v.log) ∥₁
value_there v possible b held kind payload =
    ∥∥₁_map possible
    (λ p.
    let k = v.shape in
    let n = box_id b in
    let is = names_held v possible b held in
    let some_ = held.1 in
    let t = total_at (references_held_by k n) (run k p.0).views p.1 v p.2.1 in
    let up = box_there k n p.0 p.2.0 (λ z. omega (arith, z, t, some_)) in
    let value = boxes_have_values k n p.0 p.2.0 up in
    let x = box_known k p.0 p.2.0 p.1 v p.2.1 n 1 is (inl refl) kind in
    let y = box_known k p.0 p.2.0 p.1 v p.2.1 n 2 is (inr refl) payload in
    subst (λ (z : ℕ × ℕ). IsBoxedValue z.0 z.1) (λ d. (sym x d, sym y d)) value)

-- ---- a place that is taken

module _ (v x w : View) (b : Ref) (f g word : ℕ) (possible : ∥ IsReachable x ∥₁) (heap : IsHeap v.shape.heap) (name : IsBoxIn v.shape b) (mine : v.number ≡ b.pass + 1) (at_word : b.place / 64 ≡ word) (loads : x ≡ view_after (ReadFreePlaces b.pass word f) v) (set : bit (b.place % 64) f ≡ 1) where
  abbrev n : ℕ
  n = box_id b

  low : b.place < 65536
  low = place_low v.shape b heap name

  is_name : IsBoxName v.shape n
  is_name = box_named v.shape b heap name

  maker : maker_of n ≡ b.pass
  maker = maker_is b low

  pub found_free : HasFoundFree n x.log
  found_free = record {
    newer = [];
    rest = v.log;
    found = f;
    is = ap (λ (z : View). z.log) loads ∙ (λ d. ReadFreePlaces (sym maker d) ((sym at_word ∙ sym (place_word_is b low)) d) f ∷ v.log);
    set = ap (λ (z : ℕ). bit z f) (place_bit_is b low) ∙ set;
    none = tt;
  }

  unmade : (made_state n x.log ≢ 1) × (made_state n x.log ≢ 2) × (references_held x.shape n x.log ≡ 0)
  unmade =
      let shape : x.shape ≡ v.shape = ap (λ (z : View). z.shape) loads in
      let number : x.number ≡ v.number = ap (λ (z : View). z.number) loads in
      free_is_unmade x possible n (subst (λ (z : Shape). IsBoxName z n) (sym shape) is_name) (number ∙ (mine ∙ omega (arith, maker))) found_free

  pub apart : (made_state n x.log ≢ 1) × (made_state n x.log ≢ 2)
  apart = (unmade.0, unmade.1)

  load_leaves : LeavesOthers b v x
  load_leaves = record {
    state = λ c ne. ap (λ (z : View). made_state c z.log) loads;
    local = λ c ne. ap (λ (z : View). local_count c z.log) loads;
    taken = λ c ne. ap (λ (z : View). taken_out c z.log) loads;
    places = λ c ne. ap (λ (z : View). place_to_give c z.log) loads;
    uses = λ c ne. ap (λ (z : View). place_use c z.log) loads;
  }

  pub place_taken : w ≡ view_after (TakePlace n g) x → bit (place_bit_of n) g ≡ 1 → HasTakenPlace b v w
  place_taken takes one =
      let state : made_state n x.log ≡ made_state n v.log = ap (λ (z : View). made_state n z.log) loads in
      let held : references_held x.shape n x.log ≡ references_held v.shape n v.log = ap (λ (z : View). references_held z.shape n z.log) loads in
      let both : w ≡ view_after (TakePlace n g) (view_after (ReadFreePlaces b.pass word f) v) = takes ∙ ap (view_after (TakePlace n g)) loads in record {
        name = name;
        maker = mine;
        was = ((λ z. unmade.1 (state ∙ z)), sym held ∙ unmade.2);
        making = ap (λ (z : View). made_state n z.log) takes ∙ (hit n (cond (eqb (bit (place_bit_of n) g) 1) 1 (made_state n x.log)) (made_state n x.log) ∙ here (bit (place_bit_of n) g) 1 1 (made_state n x.log) one);
        given = ap (λ (z : View). place_to_give n z.log) both;
        uses = ap (λ (z : View). place_use n z.log) both ∙ (hit n (cond (eqb (bit (place_bit_of n) g) 1) (cond (eqb (place_use n v.log) 2) 2 1) (place_use n v.log)) (place_use n v.log) ∙ here (bit (place_bit_of n) g) 1 (cond (eqb (place_use n v.log) 2) 2 1) (place_use n v.log) one);
        others = leaves_then b v x w load_leaves (leaves_by b x w (TakePlace n g) tt refl takes);
        same = λ c. ap (λ (z : View). references_held z.shape c z.log) both;
      }

pub name_found : (k : Shape) (q word z : ℕ) → q < k.passes → word < k.heap / 64 → z < 64 → IsBoxIn k (record { pass = q; place = 64 * word + z })
name_found k q word z low less small = (low, omega (arith, less, small))

-- ---- earlier logs

pub was_self : (log : List Act) → WasLog log log
was_self [] = refl
was_self (a ∷ log) = inl refl

pub was_trans : (a b c : List Act) → WasLog a b → WasLog b c → WasLog a c
was_trans a b [] first then = subst (WasLog a) then first
was_trans a b (act ∷ c) first then = ⊎_elim (λ (e : b ≡ act ∷ c). subst (WasLog a) e first) (λ (more : WasLog b c). inr (was_trans a b c first more)) then

-- ---- two loads

module _ (v x w : View) (b f g : ℕ) (first : x ≡ view_after (ReadBox b 0 f) v) (then : w ≡ view_after (ReadBox b 3 g) x) where
  both : w ≡ view_after (ReadBox b 3 g) (view_after (ReadBox b 0 f) v)
  both = then ∙ ap (view_after (ReadBox b 3 g)) first

  pub default_after_loads : made_state b v.log ≡ 2 → made_state b w.log ≡ 2
  default_after_loads own = ap (λ (z : View). made_state b z.log) both ∙ own

  pub counts_loaded : (total : ℕ) → total ≡ (f + 4 * g) % 2 ^ 64 → FoundCounts b total v w
  counts_loaded total adds = record {
    before = v.log;
    shared = f;
    local = g;
    since = was_self v.log;
    loads = subst (WasLog (ReadBox b 3 g ∷ ReadBox b 0 f ∷ v.log)) (sym (ap (λ (z : View). z.log) both)) (was_self (ReadBox b 3 g ∷ ReadBox b 0 f ∷ v.log));
    adds = adds;
  }

-- counts that a part of the call loaded
pub counts_before : (b total : ℕ) (u v w : View) → OnlyBoxed u v → FoundCounts b total v w → FoundCounts b total u w
counts_before b total u v w only found = record {
  before = found.before;
  shared = found.shared;
  local = found.local;
  since = was_trans u.log v.log found.before (only.work.pass.grown u.log (was_self u.log)) found.since;
  loads = found.loads;
  adds = found.adds;
}

pub counts_then : (b total : ℕ) (u v w : View) → FoundCounts b total u v → OnlyBoxed v w → FoundCounts b total u w
counts_then b total u v w found only = record {
  before = found.before;
  shared = found.shared;
  local = found.local;
  since = found.since;
  loads = only.work.pass.grown (ReadBox b 3 found.local ∷ ReadBox b 0 found.shared ∷ found.before) found.loads;
  adds = found.adds;
}

-- ---- what a raise answers

pub raises_before : (b : Ref) (u v w : View) (r : Raised) → OnlyBoxed u v → SameReferences u v → Raises b v w r → Raises b u w r
raises_before b u v w (raised.Up held) only same found = (found.0, more_then b u v w same found.1)
raises_before b u v w raised.Dead only same found = (
  (found.0.0, was_trans u.log v.log found.0.0 (only.work.pass.grown u.log (was_self u.log)) found.0.1, found.0.2),
  same_then u v w same found.1,
)
raises_before b u v w (raised.Moved first then) only same found = (
  (found.0.0, (found.0.1.0, was_trans u.log v.log found.0.1.0 (only.work.pass.grown u.log (was_self u.log)) found.0.1.1, found.0.1.2)),
  same_then u v w same found.1,
)

-- a pass that is settled but for one place and loads is as settled
pub few_same : (v w : View) → SameReferences v w → HoldsFew v → HoldsFew w
few_same v w same few b = subst (λ (n : ℕ). n < 2 ^ 31) (sym (same b)) (few b)

pub found_dead : (b : Ref) (v w : View) (f : ℕ) → f ≡ 3 → w ≡ view_after (ReadBox (box_id b) 0 f) v → FoundDead b v w
found_dead b v w f dead did = (v.log, was_self v.log, ap (λ (z : View). z.log) did ∙ ap (λ (n : ℕ). ReadBox (box_id b) 0 n ∷ v.log) dead)

pub found_moved : (b : Ref) (v x w : View) (f g : ℕ) → g ≢ f → x ≡ view_after (ReadBox (box_id b) 0 f) v → w ≡ view_after (RaiseShared (box_id b) f g) x → FoundMoved b f g v w × SameReferences v w
found_moved b v x w f g moved first then =
    let both : w ≡ view_after (RaiseShared (box_id b) f g) (view_after (ReadBox (box_id b) 0 f) v) = then ∙ ap (view_after (RaiseShared (box_id b) f g)) first in (
      (moved, (v.log, was_self v.log, ap (λ (z : View). z.log) both)),
      (λ c.
          let n = references_held v.shape c v.log in
          ap (λ (z : View). references_held z.shape c z.log) both
          ∙ (ap (λ (m : ℕ). cond (eqb (box_id b) c) m n) (miss g f (n + 1) n moved) ∙ alike (eqb (box_id b) c) n)),
    )
  where
    alike : (x : Bool) (n : ℕ) → cond x n n ≡ n
    alike true n = refl
    alike false n = refl

-- ---- loads of words without a free place

pub full_next : (words : ℕ) (u v w : View) → v.number ≡ u.number → FoundFull words u v → FoundWordFull words v w → FoundFull (words + 1) u w
full_next words u v w number full word =
    let one : FoundFull (suc words) u w = ap (λ (z : View). z.log) word ∙ (λ d. ReadFreePlaces (number d - 1) words 0 ∷ full d) in
    let next : suc words ≡ words + 1 = omega arith in
    subst (λ (n : ℕ). FoundFull n u w) next one

-- ---- all places of a heap

-- a box by its maker and its place
pub name_sum : (b m n : ℕ) → maker_of b + 1 ≡ n → n ≡ m + 1 → b ≡ m * 65536 + place_in b
unfolding maker_of place_in
name_sum b m n made number = omega (arith, made, number)

pub merges_then : (u v w : View) → OnlyBoxed u v → OnlyBoxed v w → MergesIdleBoxes u v → MergesIdleBoxes v w → MergesIdleBoxes u w
merges_then u v w first only old next b =
    ⊎_elim
    (λ same.
    ⊎_elim
    (λ was. inl (same.0 ∙ was.0, same.1 ∙ was.1))
    (λ merged. inr (same.0 ∙ merged.0, counts_then b 0 u v w merged.1 only))
    (old b))
    (λ merged. inr (merged.0, counts_before b 0 u v w first merged.1))
    (next b)

-- what is left of the boxes between two places
pub left_next : (u v w : View) (b : Ref) (first place : ℕ) → place_in (box_id b) ≡ place → maker_of (box_id b) + 1 ≡ w.number → ∥ IsReachable w ∥₁ → OnlyBoxed u v → OnlyBoxed v w → LeavesOthers b v w
    → (made_state (box_id b) w.log ≡ 2 → (total : ℕ) × (total ≢ 0) × FoundCounts (box_id b) total v w)
    → LeavesNoIdleBoxIn first place u v
    → LeavesNoIdleBoxIn first (place + 1) u w
unfolding maker_of place_in
left_next u v w b first place at mine possible only then leaves this old c low less own =
    dite (ℕ_discrete c (box_id b))
    (λ (e : c ≡ box_id b).
    let found = this (ap (λ (n : ℕ). made_state n w.log) (sym e) ∙ own) in
    (found.0, found.1, subst (λ (n : ℕ). FoundCounts n found.0 u w) (sym e) (counts_before (box_id b) found.0 u v w only found.2)))
    (λ ne.
    let name = own_name w possible c own in
    let maker = name.0 in
    let other : place_in c ≢ place = λ z. ne (omega (arith, z, at, mine, maker)) in
    let found = old c low (omega (arith, less, other)) (sym (leaves.state c ne) ∙ own) in
    (found.0, found.1, counts_then c found.0 u v w found.2 then))

-- and of one run of places after another
pub left_on : (u v w : View) (first place past : ℕ) → OnlyBoxed u v → OnlyBoxed v w → MergesIdleBoxes v w → LeavesNoIdleBoxIn first place u v → LeavesNoIdleBoxIn place past v w → LeavesNoIdleBoxIn first past u w
left_on u v w first place past only then merges old next c low less own =
    dite (dec_lt (place_in c) place)
    (λ (early : place_in c < place).
    let was : made_state c v.log ≡ 2 =
    ⊎_elim
    (λ (same : (made_state c w.log ≡ made_state c v.log) × (local_count c w.log ≡ local_count c v.log)). sym same.0 ∙ own)
    (λ (merged : (made_state c w.log ≡ 3) × FoundCounts c 0 v w). let m = merged.0 in omega (arith, m, own))
    (merges c) in
    let found = old c low early was in
    (found.0, found.1, counts_then c found.0 u v w found.2 then))
    (λ late.
    let found = next c (omega (arith, late)) less own in
    (found.0, found.1, counts_before c found.0 u v w only found.2))

-- none of the places of a word of bits whose places are all free has a box of the pass
pub none_in_free : (u v x : View) (m word : ℕ) → ∥ IsReachable x ∥₁ → IsHeap v.shape.heap → m < v.shape.passes → v.number ≡ m + 1 → x ≡ view_after (ReadFreePlaces m word (full 64)) v → LeavesNoIdleBoxIn (64 * word) (64 * word + 64) u x
none_in_free u v x m word possible heap low number loads c first past own =
    let name = own_name x possible c own in
    let number_x : x.number ≡ m + 1 = ap (λ (z : View). z.number) loads ∙ number in
    let b : Ref = record { pass = m; place = place_in c } in
    let is : c ≡ box_id b = name_sum c m x.number name.0 number_x in
    let shape : x.shape ≡ v.shape = ap (λ (z : View). z.shape) loads in
    let in_heap = subst (λ (z : Shape). place_in c < z.heap) shape name.1 in
    let there = apart v x x b (full 64) (full 64) word possible heap (low, in_heap) number (omega (arith, first, past)) loads (bit_full 64 (place_in c % 64) (omega arith)) in
    absurd (there.1 (ap (λ (n : ℕ). made_state n x.log) (sym is) ∙ own))

pub merged_next : (v w : View) (b : Ref) (m place : ℕ) → box_id b ≡ m * 65536 + place → LeavesOthers b v w → made_state (box_id b) w.log ≢ 2
    → ((p : ℕ) → p < place → made_state (m * 65536 + p) v.log ≢ 2)
    → (p : ℕ) → p < place + 1 → made_state (m * 65536 + p) w.log ≢ 2
merged_next v w b m place name leaves this old p less own =
    dite (ℕ_discrete p place)
    (λ (e : p ≡ place). this (ap (λ (n : ℕ). made_state n w.log) (name ∙ omega (arith, e)) ∙ own))
    (λ ne.
    let other : m * 65536 + p ≢ box_id b = λ z. ne (omega (arith, z, name)) in
    old p (omega (arith, less, ne)) (sym (leaves.state (m * 65536 + p) other) ∙ own))

pub others_next : (u v w : View) (b : Ref) → LeavesOthers b v w → (made_state (box_id b) v.log ≢ 2 → made_state (box_id b) w.log ≡ made_state (box_id b) v.log)
    → ((c : ℕ) → made_state c u.log ≢ 2 → made_state c v.log ≡ made_state c u.log)
    → (c : ℕ) → made_state c u.log ≢ 2 → made_state c w.log ≡ made_state c u.log
others_next u v w b leaves this old c ne =
    let was = old c ne in
    dite (ℕ_discrete c (box_id b))
    (λ (e : c ≡ box_id b).
    ap (λ (n : ℕ). made_state n w.log) e
    ∙ (this (λ z. ne (sym was ∙ (ap (λ (n : ℕ). made_state n v.log) e ∙ z))) ∙ (ap (λ (n : ℕ). made_state n v.log) (sym e) ∙ was)))
    (λ other. leaves.state c other ∙ was)

-- ---- the value in a box

module _ (v x w : View) (b : Ref) (kind payload : ℕ) (held : HoldsBox b v) (first : x ≡ view_after (ReadBox (box_id b) 1 kind) v) (then : w ≡ view_after (ReadBox (box_id b) 2 payload) x) where
  abbrev k : Shape
  k = v.shape

  abbrev name : ℕ
  name = box_id b

  abbrev kind_read : List Act
  kind_read = ReadBox name 1 kind ∷ v.log

  abbrev both_read : List Act
  both_read = ReadBox name 2 payload ∷ kind_read

  end : w ≡ view_after (ReadBox name 2 payload) (view_after (ReadBox name 1 kind) v)
  end = then ∙ ap (view_after (ReadBox name 2 payload)) first

  -- no load takes a reference away
  kept : times_kept k name both_read ≢ 0
  kept = held_keeps k name both_read held.1

  knows_kind : knows_box_word k name 1 both_read ≡ true
  knows_kind =
      sure_after k name 1 (ReadBox name 2 payload) kind_read kept
      (sure_stays name 1 (ReadBox name 2 payload) (knows_box_word k name 1 kind_read)
      (sure_after k name 1 (ReadBox name 1 kind) v.log (held_keeps k name kind_read held.1) (hit name true (knows_box_word k name 1 v.log))))

  knows_payload : knows_box_word k name 2 both_read ≡ true
  knows_payload = sure_after k name 2 (ReadBox name 2 payload) kind_read kept (hit name true (knows_box_word k name 2 kind_read))

  kind_is : known_box_word k name 1 both_read ≡ kind
  kind_is = hit name (known_box_word k name 1 kind_read) (known_box_word k name 1 kind_read) ∙ hit name kind (known_box_word k name 1 v.log)

  payload_is : known_box_word k name 2 both_read ≡ payload
  payload_is = hit name payload (known_box_word k name 2 kind_read)

  pub still_held : HoldsBox b w
  still_held = subst (HoldsBox b) (sym end) held

  pub knows_value : (value : Value) → IsStored kind payload (Plain value) → KnowsValue b value w
  knows_value value stored =
      subst (KnowsValue b value) (sym end)
      (record {
        kind = knows_kind;
        payload = knows_payload;
        words = subst (λ (z : ℕ × ℕ). IsStored z.0 z.1 (Plain value)) (λ d. (sym kind_is d, sym payload_is d)) stored;
      })

  -- the two words are those of a value
  pub is_value : ∥ IsReachable w ∥₁ → ∥ IsBoxedValue kind payload ∥₁
  is_value possible =
      ∥∥₁_map
      (value_there w possible b still_held (subst (λ (z : View). knows_box_word z.shape name 1 z.log ≡ true) (sym end) knows_kind) (subst (λ (z : View). knows_box_word z.shape name 2 z.log ≡ true) (sym end) knows_payload))
      (λ found.
      subst (λ (z : ℕ × ℕ). IsBoxedValue z.0 z.1)
      (λ d. ((subst (λ (z : View). known_box_word z.shape name 1 z.log ≡ kind) (sym end) kind_is) d, (subst (λ (z : View). known_box_word z.shape name 2 z.log ≡ payload) (sym end) payload_is) d)) found)
