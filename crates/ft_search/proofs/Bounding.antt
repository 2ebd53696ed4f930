-- How many index words a walk loads, slot for slot.
use Rattle.std.proofs.Common.{◌≡◌, ◌≢◌, ◌⊎◌, ℕ, zero, suc, ◌+◌, ◌<◌, ◌≤◌, Bool, true, false, List, [], ◌∷◌, ◌++◌, refl, sym, ap, ◌∙◌, subst, ⊎_elim, arith, ne_eqb, eq-eqb}
use Rattle.std.specs.Prelude.{◌==◌, ◌&&◌, nat_lt, if◌then◌else◌}
use Rattle.std.proofs.lemmas.Bool.{le-ltb, lt-ltb}
use Rattle.std.proofs.lemmas.List.Elements.{All-head, All-tail}
use mathlib.Core.Logic.{dite}
use native.Mathlib.Decide.{ℕ_discrete}
use Rattle.ft_trace.specs.declared.Act.{Act}
use Rattle.ft_trace.specs.declared.Act.TheVariants.{ReadTable, ReadCounter}
use Rattle.ft_trace.specs.Addresses.{class_of, slots}
use Rattle.ft_trace.specs.Pictures.{entry_offset}
use Rattle.ft_keys.specs.declared.words.Access.{Access}
use Rattle.ft_keys.specs.declared.words.Access.TheVariants.{Index}
use Rattle.ft_keys.specs.Accesses.{Follows, index_loads}
use Rattle.ft_keys.specs.WalkCosts.{free_loads, TriedAgainOnce}
use Rattle.ft_search.specs.SearchCosts.{index_reads, indexed, LoadsNoIndex, WalksOn, MayWalkOn}

-- ---- which loads are of index words

pub count_is : (t : ℕ) (acts : List Act) → index_reads t acts ≡ index_loads (indexed t acts)
count_is t [] = refl
count_is t (ReadTable u i f ∷ acts) = by ((u == t) && nat_lt i (slots (class_of t))) (count_is t acts)
  where
    by : (b : Bool) → index_reads t acts ≡ index_loads (indexed t acts) → (if b then 1 else 0) + index_reads t acts ≡ index_loads (if b then Index i f ∷ indexed t acts else indexed t acts)
    by true e = omega (arith, e)
    by false e = omega (arith, e)
count_is t (act ∷ acts) = let more = count_is t acts in omega (arith, more)

pub indexed_append : (t : ℕ) (a b : List Act) → indexed t (a ++ b) ≡ indexed t a ++ indexed t b
indexed_append t [] b = refl
indexed_append t (ReadTable u i f ∷ a) b = by ((u == t) && nat_lt i (slots (class_of t))) (indexed_append t a b)
  where
    by : (c : Bool) → indexed t (a ++ b) ≡ indexed t a ++ indexed t b → ◌≡◌ {A = List Access} (if c then Index i f ∷ indexed t (a ++ b) else indexed t (a ++ b)) ((if c then Index i f ∷ indexed t a else indexed t a) ++ indexed t b)
    by true e = ap (λ (z : List Access). Index i f ∷ z) e
    by false e = e
indexed_append t (act ∷ a) b = indexed_append t a b

pub index_here : (t slot f : ℕ) (acts : List Act) → slot < slots (class_of t) → indexed t (ReadTable t slot f ∷ acts) ≡ Index slot f ∷ indexed t acts
index_here t slot f acts low = by (t == t) (nat_lt slot (slots (class_of t))) (eq-eqb t t refl) (lt-ltb slot (slots (class_of t)) low)
  where
    by : (a b : Bool) → a ≡ true → b ≡ true → ◌≡◌ {A = List Access} (if a && b then Index slot f ∷ indexed t acts else indexed t acts) (Index slot f ∷ indexed t acts)
    by true true p q = refl
    by true false p q = absurd (cc)
    by false b p q = absurd (cc)

pub index_other : (t u i f : ℕ) (acts : List Act) → u ≢ t → indexed t (ReadTable u i f ∷ acts) ≡ indexed t acts
index_other t u i f acts ne = by (u == t) (ne_eqb u t ne)
  where
    by : (b : Bool) → b ≡ false → ◌≡◌ {A = List Access} (if b && nat_lt i (slots (class_of t)) then Index i f ∷ indexed t acts else indexed t acts) (indexed t acts)
    by true e = absurd (cc)
    by false e = refl

-- a word after the index
pub index_past : (t u i f : ℕ) (acts : List Act) → slots (class_of u) ≤ i → indexed t (ReadTable u i f ∷ acts) ≡ indexed t acts
index_past t u i f acts high =
    dite (ℕ_discrete u t)
    (λ (e : u ≡ t). by (u == t) (nat_lt i (slots (class_of t))) (subst (λ (z : ℕ). nat_lt i (slots (class_of z)) ≡ false) e (le-ltb i (slots (class_of u)) high)))
    (λ ne. index_other t u i f acts ne)
  where
    by : (a b : Bool) → b ≡ false → ◌≡◌ {A = List Access} (if a && b then Index i f ∷ indexed t acts else indexed t acts) (indexed t acts)
    by true true e = absurd (cc)
    by true false e = refl
    by false b e = refl

-- a word of an entry
pub index_entry : (t u place word f : ℕ) (acts : List Act) → indexed t (ReadTable u (entry_offset (slots (class_of u)) place word) f ∷ acts) ≡ indexed t acts
index_entry t u place word f acts = index_past t u (entry_offset (slots (class_of u)) place word) f acts (omega arith)

-- ---- what else a look-up loads

pub none_append : (a b : List Act) → LoadsNoIndex a → (t : ℕ) → indexed t (a ++ b) ≡ indexed t b
none_append a b none t = indexed_append t a b ∙ ap (λ (z : List Access). z ++ indexed t b) (none t)

pub walks_more : (t : ℕ) (walk : List ℕ) (part acts : List Act) (left : List ℕ) → LoadsNoIndex part → WalksOn t walk acts left → WalksOn t walk (part ++ acts) left
walks_more t walk part acts left none h =
    let is = none_append part acts none t in
    record {
      follows = subst (λ (z : List Access). Follows walk z left) (sym is) h.follows;
      once = subst TriedAgainOnce (sym is) h.once;
      low = h.low;
      others = λ u ne. none_append part acts none u ∙ h.others u ne;
    }

pub may_more : (t : ℕ) (walk : List ℕ) (part acts : List Act) (left : List ℕ) → LoadsNoIndex part → MayWalkOn t walk acts left → MayWalkOn t walk (part ++ acts) left
may_more t walk part acts left none h = (walks_more t walk part acts left none h.0, ap free_loads (none_append part acts none t) ∙ h.1)

-- a load of a word of an entry
pub word_none : (t place word f : ℕ) → LoadsNoIndex (ReadTable t (entry_offset (slots (class_of t)) place word) f ∷ [])
word_none t place word f u = index_entry u t place word f []

pub both_none : (a b : List Act) → LoadsNoIndex a → LoadsNoIndex b → LoadsNoIndex (a ++ b)
both_none a b x y u = none_append a b x u ∙ y u

-- ---- one slot

module _ (t : ℕ) (walk : List ℕ) (slot : ℕ) (left : List ℕ) where
  slot_low : (acts : List Act) → WalksOn t walk acts (slot ∷ left) → slot < slots (class_of t)
  slot_low acts h = All-head (λ s. s < slots (class_of t)) slot left h.low

  -- it was used
  on_used : (word : ℕ) (acts : List Act) → word ≢ 0 → WalksOn t walk acts (slot ∷ left) → free_loads (indexed t acts) ≤ 1 → MayWalkOn t walk (ReadTable t slot word ∷ acts) left
  on_used zero acts some h few = absurd (some refl)
  on_used (suc value) acts some h few =
      let is = index_here t slot (suc value) acts (slot_low acts h) in (
        record {
          follows = subst (λ (z : List Access). Follows walk z left) (sym is) h.follows;
          once = subst TriedAgainOnce (sym is) (few, h.once);
          low = All-tail (λ s. s < slots (class_of t)) slot left h.low;
          others = λ u ne. index_other u t slot (suc value) acts (λ e. ne (sym e)) ∙ h.others u ne;
        },
        ap free_loads is,
      )

  -- it was found never used
  on_free : (acts : List Act) → WalksOn t walk acts (slot ∷ left) → free_loads (indexed t acts) ≤ 1 → WalksOn t walk (ReadTable t slot 0 ∷ acts) (slot ∷ left) × (free_loads (indexed t (ReadTable t slot 0 ∷ acts)) ≡ free_loads (indexed t acts) + 1)
  on_free acts h few =
      let is = index_here t slot 0 acts (slot_low acts h) in (
        record {
          follows = subst (λ (z : List Access). Follows walk z (slot ∷ left)) (sym is) (left, h.follows, refl);
          once = subst TriedAgainOnce (sym is) (few, h.once);
          low = h.low;
          others = λ u ne. index_other u t slot 0 acts (λ e. ne (sym e)) ∙ h.others u ne;
        },
        ap free_loads is,
      )

  -- and the counter was loaded then
  waits : (n : ℕ) (acts : List Act) → MayWalkOn t walk acts (slot ∷ left) → WalksOn t walk (ReadCounter n ∷ (ReadTable t slot 0 ∷ acts)) (slot ∷ left) × (free_loads (indexed t (ReadCounter n ∷ (ReadTable t slot 0 ∷ acts))) ≤ 1)
  waits n acts may =
      let none = may.1 in
      let once = on_free acts may.0 (omega (arith, none)) in
      let free = once.1 in
      (walks_more t walk (ReadCounter n ∷ []) (ReadTable t slot 0 ∷ acts) (slot ∷ left) (λ u. refl) once.0, omega (arith, free, none))

  -- the loads of its index word
  pub used_slot : (word : ℕ) (before acts : List Act) → word ≢ 0 → (before ≡ []) ⊎ ((n : ℕ) × (before ≡ ReadCounter n ∷ (ReadTable t slot 0 ∷ []))) → MayWalkOn t walk acts (slot ∷ left) → MayWalkOn t walk (ReadTable t slot word ∷ (before ++ acts)) left
  used_slot word before acts some how may =
      ⊎_elim
      (λ (is : before ≡ []). subst (λ (z : List Act). MayWalkOn t walk (ReadTable t slot word ∷ (z ++ acts)) left) (sym is) (on_used word acts some may.0 (let none = may.1 in omega (arith, none))))
      (λ (h : (n : ℕ) × (before ≡ ReadCounter n ∷ (ReadTable t slot 0 ∷ []))).
      let so = waits h.0 acts may in
      subst (λ (z : List Act). MayWalkOn t walk (ReadTable t slot word ∷ (z ++ acts)) left) (sym h.1) (on_used word (ReadCounter h.0 ∷ (ReadTable t slot 0 ∷ acts)) some so.0 so.1))
      how

  pub free_slot : (n : ℕ) (acts : List Act) → MayWalkOn t walk acts (slot ∷ left) → WalksOn t walk (ReadTable t slot 0 ∷ (ReadCounter n ∷ (ReadTable t slot 0 ∷ acts))) (slot ∷ left)
  free_slot n acts may = let so = waits n acts may in (on_free (ReadCounter n ∷ (ReadTable t slot 0 ∷ acts)) so.0 so.1).0
