-- Before each step of a look a pass with the floor found the words as they are after the look, but for those that the look's
-- own steps put.
use Rattle.std.proofs.Common.{◌≡◌, ◌≢◌, ◌⊎◌, ℕ, eqb, Bool, true, false, List, [], ◌∷◌, ◌++◌, refl, sym, ap, ◌∙◌, subst, inl, inr, arith}
use Rattle.std.specs.Prelude.{slice_index}
use mathlib.Core.Option.{some}
use lib.ListN.{get_elem?}
use Rattle.ft_layout.specs.Starts.{local_word, shared_word}
use Rattle.ft_trace.specs.declared.Act.{Act}
use Rattle.ft_trace.specs.declared.Act.TheVariants.{ReadBlock, ReadRoot, ReadTable, ReadCounter, Version, TakeFloor, TookOver, ReadBox, RaiseLocal, DropLocal, ClearLocal, MergeCounts, RaiseShared, DropShared, GivePlace}
use Rattle.ft_trace.specs.declared.Shape.{Shape}
use Rattle.ft_trace.specs.declared.View.{View}
use Rattle.ft_trace.specs.Acts.{has_floor_next, hands_over, place, starter, tells, view_after, word_after, maker, made, both, spent, sender, note, Reports}
use Rattle.ft_trace.specs.Addresses.{Word, at, box_word, heap_bits, Inside}
use Rattle.ft_trace.specs.Owners.{had_locks, found_owners}
use Rattle.ft_trace.specs.Traces.{Event, did, forked, joined, sent, run, word, history, May, Valid}
use Rattle.ft_trace.proofs.Cases.{off}
use Rattle.ft_trace.proofs.Floored.{by_given, floored, tokens_alone}
use Rattle.ft_trace.proofs.OneWord.{loaded, stays}
use Rattle.ft_trace.proofs.Sizes.{one_more, one_view, set_views}
use Rattle.ft_search.specs.LookSteps.{is_look_step, Only, AreLookSteps}
use Rattle.ft_search.proofs.LookSteps.{steps_tail}

-- ---- words that steps leave

-- the step is a load, or is on another word
abbrev pub Spares : Word → Act → Type 0
Spares x a = ((by n : ℕ) → word_after by a n ≡ n) ⊎ (place a ≢ x)

abbrev pub AllSpare : Word → List Act → Type 0
AllSpare x [] = Unit {0}
AllSpare x (a ∷ l) = Spares x a × AllSpare x l

-- the word is none of the counts of a box, and none of the bits of places
abbrev pub Lasts : Word → Type 0
Lasts (box_word b i) = (i ≢ shared_word) × (i ≢ local_word)
Lasts (heap_bits q w) = ⊥
Lasts x = Unit {0}

-- those of the value in a box last
pub value_lasts : (b i : ℕ) → (i ≡ 1) ⊎ (i ≡ 2) → Lasts (box_word b i)
value_lasts b i (inl e) = ((λ z. omega (arith, e, z)), (λ z. omega (arith, e, z)))
value_lasts b i (inr e) = ((λ z. omega (arith, e, z)), (λ z. omega (arith, e, z)))

module _ (x : Word) (lasts : Lasts x) where
  off_shared : (b : ℕ) → box_word b shared_word ≢ x
  off_shared b e = (subst Lasts (sym e) lasts).0 refl

  off_local : (b : ℕ) → box_word b local_word ≢ x
  off_local b e = (subst Lasts (sym e) lasts).1 refl

  spared : (a : Act) (l : List Act) → AreLookSteps (a ∷ l) → Spares x a
  spared (Version o f) l q = inl (λ by n. refl)
  spared (ReadBlock o i f) l q = inl (λ by n. refl)
  spared (ReadRoot o f) l q = inl (λ by n. refl)
  spared (ReadTable t i f) l q = inl (λ by n. refl)
  spared (ReadCounter f) l q = inl (λ by n. refl)
  spared (ReadBox b i f) l q = inl (λ by n. refl)
  spared (RaiseLocal b y) l q = inr (off_local b)
  spared (DropLocal b y) l q = inr (off_local b)
  spared (ClearLocal b) l q = inr (off_local b)
  spared (MergeCounts b d f) l q = inr (off_shared b)
  spared (RaiseShared b old f) l q = inr (off_shared b)
  spared (DropShared b f) l q = inr (off_shared b)
  spared (GivePlace b) l q = inr (λ e. subst Lasts (sym e) lasts)
  spared act l q = absurd q

  -- no step of a look is on it but a load
  pub all_spare : (l : List Act) → AreLookSteps l → AllSpare x l
  all_spare [] q = tt
  all_spare (a ∷ l) q = (spared a l q, all_spare l (steps_tail a l q))

-- the first of some steps
pub steps_front : (xs : List Act) (a : Act) (rest : List Act) → AreLookSteps (xs ++ a ∷ rest) → AreLookSteps (xs ++ a ∷ [])
steps_front [] a rest q = by (is_look_step a) q
  where
    by : (s : Bool) → Only s (AreLookSteps rest) → Only s (Unit {0})
    by true more = tt
    by false more = more
steps_front (x ∷ xs) a rest q = by (is_look_step x) (steps_front xs a rest) q
  where
    by : (s : Bool) → (AreLookSteps (xs ++ a ∷ rest) → AreLookSteps (xs ++ a ∷ [])) → Only s (AreLookSteps (xs ++ a ∷ rest)) → Only s (AreLookSteps (xs ++ a ∷ []))
    by true front more = front more
    by false front more = more

-- ---- a moment before a step

-- The trace at the moment when the pass at seat j took the step a. Its log was then the rest, and it had the floor. Since
-- then it has taken these steps, and each word is as it was that they and a leave.
pub record BeforeStep (k : Shape) (es : List Event) (j : ℕ) (xs : List Act) (a : Act) (rest : List Act) : Type 0 where
  pub older : List Event
  pub view : View
  pub valid : Valid k older
  pub there : get_elem? (run k older).views j ≡ some view
  pub log : view.log ≡ rest
  pub floor : view.has_floor ≡ true
  pub found : Reports a (word k older (place a))
  pub may : May k (run k older) (history older) view a
  pub same : (x : Word) → Inside k x → AllSpare x (xs ++ a ∷ []) → word k older x ≡ word k es x

-- there is such a moment before each of the last steps of the pass, where these were steps of looks and it has the floor
abbrev Each : Shape → List Event → ℕ → View → Type 0
Each k es j u = u.has_floor ≡ true → (xs : List Act) (a : Act) (rest : List Act) → AreLookSteps (xs ++ a ∷ []) → u.log ≡ xs ++ a ∷ rest → BeforeStep k es j xs a rest

-- after an event that leaves the words
later : (k : Shape) (es : List Event) (e : Event) → (run k (e ∷ es)).words ≡ (run k es).words → (j : ℕ) (xs : List Act) (a : Act) (rest : List Act) → BeforeStep k es j xs a rest → BeforeStep k (e ∷ es) j xs a rest
later k es e words j xs a rest b = record { older = b.older; view = b.view; valid = b.valid; there = b.there; log = b.log; floor = b.floor; found = b.found; may = b.may; same = λ x in_it spares. b.same x in_it spares ∙ ap (λ (ws : List ℕ). slice_index ws (at k x)) (sym words) }

-- the floor isn't taken by a step of a look
had_floor : (a : Act) (l : List Act) (b : Bool) → AreLookSteps (a ∷ l) → has_floor_next a b ≡ true → b ≡ true
had_floor (TakeFloor f s) l b q e = absurd q
had_floor act l b q e = e

module _ (k : Shape) (es : List Event) (id : ℕ) (v : View) where
  -- a word that the next step leaves
  left_by : (a : Act) → May k (run k es) (history es) v a → (x : Word) → Inside k x → Spares x a → word k (did id v a ∷ es) x ≡ word k es x
  left_by a may x in_it spares =
      elim spares [
        | inl loads ↦ loaded k es id v a (loads v.number) x
        | inr other ↦ stays k es id v a may x in_it other
      ]

  by_own : (b : Act) → Valid k (did id v b ∷ es) → Each k es id v → Each k (did id v b ∷ es) id (view_after b v)
  by_own b valid old has [] a rest steps is =
      let same : b ≡ a = cc in
      let log : v.log ≡ rest = cc in
      subst (λ (z : Act). AreLookSteps (z ∷ []) → BeforeStep k (did id v b ∷ es) id [] z rest) same
      (λ q. record { older = es; view = v; valid = valid.0; there = valid.1.0; log = log; floor = had_floor b [] v.has_floor q has; found = valid.1.2; may = valid.1.3; same = λ x in_it spares. sym (left_by b valid.1.3 x in_it spares.0) }) steps
  by_own b valid old has (y ∷ xs) a rest steps is =
      let same : b ≡ y = cc in
      let log : v.log ≡ xs ++ a ∷ rest = cc in
      subst (λ (z : Act). AreLookSteps (z ∷ (xs ++ a ∷ [])) → BeforeStep k (did id v b ∷ es) id (z ∷ xs) a rest) same
      (λ q.
      let c = old (had_floor b (xs ++ a ∷ []) v.has_floor q has) xs a rest (steps_tail b (xs ++ a ∷ []) q) log in
      record { older = c.older; view = c.view; valid = c.valid; there = c.there; log = c.log; floor = c.floor; found = c.found; may = c.may; same = λ x in_it spares. c.same x in_it spares.1 ∙ sym (left_by b valid.1.3 x in_it spares.0) }) steps

  -- what a join adds to the log is no step of a look
  by_join : (other : ℕ) (w : View) → Each k es id v → Each k (joined id v other w ∷ es) id (both v w)
  by_join other w old has [] a rest steps is =
      let same : a ≡ TookOver (hands_over w.log) (had_locks w.number w.log) (found_owners w.log) (tells w) = cc in
      absurd (subst (λ (z : Act). AreLookSteps (z ∷ [])) same steps)
  by_join other w old has (y ∷ xs) a rest steps is =
      let same : y ≡ TookOver (hands_over w.log) (had_locks w.number w.log) (found_owners w.log) (tells w) = cc in
      absurd (subst (λ (z : Act). AreLookSteps (z ∷ (xs ++ a ∷ []))) same steps)

-- the moment before each step of a look that ends with the floor
pub before_step : (k : Shape) (es : List Event) → Valid k es → (j : ℕ) (u : View) → get_elem? (run k es).views j ≡ some u → Each k es j u
before_step k [] valid = one_view (Each k []) (starter k) (λ no. off no)
before_step k (did id v b ∷ es) valid =
    let old = before_step k es valid.0 in
    let token = valid.1.4 in
    set_views (Each k (did id v b ∷ es)) _ id (view_after b v)
    (by_own k es id v b valid (old id v valid.1.0))
    (λ j u ne e has. (let all = ((floored k es valid.0 j u e).has has).0 in let z = tokens_alone k es valid.0 j id u v e valid.1.0 ne all in absurd (omega (arith, z, token))))
before_step k (forked id v ∷ es) valid =
    let old = before_step k es valid.0 in
    one_more (Each k (forked id v ∷ es)) _ (made v) (λ no. off no)
    (set_views (Each k (forked id v ∷ es)) _ id (maker v) (λ no. off no) (λ j u _ e has xs a rest steps is. later k es (forked id v) refl j xs a rest (old j u e has xs a rest steps is)))
before_step k (sent id v given ∷ es) valid =
    let old = before_step k es valid.0 in
    one_more (Each k (sent id v given ∷ es)) _ (note given v) (λ no. off no)
    (set_views (Each k (sent id v given ∷ es)) _ id (sender given v)
    (λ has xs a rest steps is. later k es (sent id v given) refl id xs a rest (old id v valid.1.0 (by_given (eqb given 0) v.has_floor has) xs a rest steps is))
    (λ j u _ e has xs a rest steps is. later k es (sent id v given) refl j xs a rest (old j u e has xs a rest steps is)))
before_step k (joined id v other w ∷ es) valid =
    let old = before_step k es valid.0 in
    set_views (Each k (joined id v other w ∷ es)) _ other spent (λ no. off no)
    (λ j u _. set_views (Each k (joined id v other w ∷ es)) _ id (both v w) (by_join k es id v other w (old id v valid.1.0)) (λ j u _ e has xs a rest steps is. later k es (joined id v other w) refl j xs a rest (old j u e has xs a rest steps is)) j u)
