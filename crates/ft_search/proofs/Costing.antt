-- How many index words the calls of a search load.
use Rattle.std.proofs.Common.{◌≡◌, ◌≢◌, ℕ, ◌+◌, ◌≤◌, Bool, true, false, List, [], ◌∷◌, ◌++◌, map, refl, ap, ◌∙◌, subst, arith, ne_eqb}
use mathlib.Core.Logic.{dite}
use native.Mathlib.Decide.{ℕ_discrete}
use Rattle.std.proofs.lemmas.Bool.{le-ltb}
use Rattle.std.specs.Prelude.{◌==◌, ◌&&◌, nat_lt, if◌then◌else◌}
use Rattle.ft_layout.specs.Containers.{class_mask}
use Rattle.ft_keys.specs.declared.walk.Way.{Way}
use Rattle.ft_keys.specs.declared.words.Access.{Access}
use Rattle.ft_keys.specs.declared.words.Access.TheVariants.{Index, Entry, PutIndex, PutEntry, OldEntry}
use Rattle.ft_keys.specs.Accesses.{AreLoads, index_loads}
use Rattle.ft_keys.specs.WalkCosts.{most_loads}
use Rattle.ft_trace.specs.declared.Act.{Act}
use Rattle.ft_trace.specs.declared.Act.TheVariants.{ReadTable}
use Rattle.ft_trace.specs.Addresses.{class_of, slots}
use Rattle.ft_trace.specs.Pictures.{entry_offset}
use Rattle.ft_search.specs.SearchCosts.{AreFewReads, index_read, index_reads}
use Rattle.ft_search.specs.TableWords.{access_act}
use Rattle.ft_search.proofs.WordPlaces.{slots_of_class}

pub reads_append : (t : ℕ) (a b : List Act) → index_reads t (a ++ b) ≡ index_reads t a + index_reads t b
reads_append t [] b = omega arith
reads_append t (x ∷ a) b = let more = reads_append t a b in omega (arith, more)

at_most_one : (b : Bool) → (if b then 1 else 0) ≤ 1
at_most_one true = omega arith
at_most_one false = omega arith

-- a word of another table, or one after the index
other_table : (t u i f : ℕ) → u ≢ t → index_read t (ReadTable u i f) ≡ 0
other_table t u i f ne = by (u == t) (ne_eqb u t ne)
  where
    by : (b : Bool) → b ≡ false → ◌≡◌ {A = ℕ} (if b && nat_lt i (slots (class_of t)) then 1 else 0) 0
    by true e = absurd (cc)
    by false e = refl

after_index : (t u i f : ℕ) → slots (class_of u) ≤ i → index_read t (ReadTable u i f) ≡ 0
after_index t u i f high =
    dite (ℕ_discrete u t)
    (λ (e : u ≡ t). by (u == t) (nat_lt i (slots (class_of t))) (subst (λ (z : ℕ). nat_lt i (slots (class_of z)) ≡ false) e (le-ltb i (slots (class_of u)) high)))
    (λ ne. other_table t u i f ne)
  where
    by : (a b : Bool) → b ≡ false → ◌≡◌ {A = ℕ} (if a && b then 1 else 0) 0
    by true true e = absurd (cc)
    by true false e = refl
    by false b e = refl

module _ (o n : ℕ) where
  -- the calls of a search load at most as many as they are said to
  pub calls_few : (t : ℕ) (calls : List Access) → AreLoads calls → index_reads t (map (access_act o n) calls) ≤ index_loads calls
  calls_few t [] loads = omega arith
  calls_few t (Index slot x ∷ calls) loads =
      let more = calls_few t calls loads.1 in
      let one = at_most_one ((n == t) && nat_lt slot (slots (class_of t))) in
      omega (arith, more, one)
  calls_few t (Entry place word x ∷ calls) loads =
      let more = calls_few t calls loads.1 in
      let none = after_index t n (entry_offset (slots (class_of n)) place word) x (omega arith) in
      omega (arith, more, none)
  calls_few t (OldEntry place word x ∷ calls) loads =
      let more = calls_few t calls loads.1 in
      let none = after_index t n (entry_offset (slots (class_of n)) place word) x (omega arith) in
      omega (arith, more, none)
  calls_few t (PutIndex slot x ∷ calls) loads = absurd loads.0
  calls_few t (PutEntry place word x ∷ calls) loads = absurd loads.0

  calls_other : (t : ℕ) (calls : List Access) → AreLoads calls → n ≢ t → index_reads t (map (access_act o n) calls) ≡ 0
  calls_other t [] loads ne = refl
  calls_other t (Index slot x ∷ calls) loads ne = let more = calls_other t calls loads.1 ne in let none = other_table t n slot x ne in omega (arith, more, none)
  calls_other t (Entry place word x ∷ calls) loads ne = let more = calls_other t calls loads.1 ne in let none = other_table t n (entry_offset (slots (class_of n)) place word) x ne in omega (arith, more, none)
  calls_other t (OldEntry place word x ∷ calls) loads ne = let more = calls_other t calls loads.1 ne in let none = other_table t n (entry_offset (slots (class_of n)) place word) x ne in omega (arith, more, none)
  calls_other t (PutIndex slot x ∷ calls) loads ne = absurd loads.0
  calls_other t (PutEntry place word x ∷ calls) loads ne = absurd loads.0

  -- those of one search on a walk
  pub search_few : (way : Way) (mask : ℕ) (calls : List Access) → slots (class_of n) ≡ mask + 1 → AreLoads calls → index_loads calls ≤ most_loads way mask → AreFewReads way (map (access_act o n) calls)
  search_few way mask calls last loads few t =
      dite (ℕ_discrete n t)
      (λ (e : n ≡ t).
      let all = calls_few t calls loads in
      let c = slots_of_class (class_of n) in
      let same : mask ≡ class_mask (class_of n) = omega (arith, c, last) in
      let most : most_loads way mask ≡ most_loads way (class_mask (class_of t)) = ap (most_loads way) (same ∙ ap (λ (z : ℕ). class_mask (class_of z)) e) in
      omega (arith, all, few, most))
      (λ ne. let none = calls_other t calls loads ne in omega (arith, none))

-- other loads beside them load no index word
pub few_append : (way : Way) (a b : List Act) → ((t : ℕ) → index_reads t a ≡ 0) → AreFewReads way b → AreFewReads way (a ++ b)
few_append way a b none few t = let n = none t in let f = few t in let e = reads_append t a b in omega (arith, n, f, e)

pub few_before : (way : Way) (a b : List Act) → AreFewReads way a → ((t : ℕ) → index_reads t b ≡ 0) → AreFewReads way (a ++ b)
few_before way a b few none t = let n = none t in let f = few t in let e = reads_append t a b in omega (arith, n, f, e)

-- a load of a word of an entry
pub entry_none : (o n place word x t : ℕ) → index_read t (access_act o n (Entry place word x)) ≡ 0
entry_none o n place word x t = after_index t n (entry_offset (slots (class_of n)) place word) x (omega arith)
