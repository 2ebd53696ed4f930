-- When two dicts are equal: where a look-up of each key answers the same in both.
use Rattle.std.proofs.Common.{◌≡◌, ◌≢◌, suc, zero, true, false, IsTrue, List, [], ◌∷◌, Option, Some, None, refl, sym, ap, ◌∙◌, arith}
use Rattle.std.specs.Prelude.{AllPairs, ◌↔◌}
use Rattle.std.specs.List.{list_all}
use Rattle.std.proofs.lemmas.Bool.{false≢true, and_parts}
use Rattle.ft_model.specs.declared.data.Key.{Key}
use Rattle.ft_model.specs.declared.data.Value.{Value}
use Rattle.ft_model.specs.declared.content.DictPair.{DictPair}
use Rattle.ft_model.specs.Keys.{same_key, is_value}
use Rattle.ft_model.specs.Contents.{is_at, dict_get, has_pair, same_pairs}
use Rattle.ft_model.proofs.KeyLemmas.{same_key-true, same_key-refl}
use Rattle.ft_model.proofs.ValueLemmas.{is_value-true, is_value-refl}
use Rattle.ft_model.proofs.DictLaws.{distinct_tail, absent_in}

abbrev AreDistinct : List DictPair → Type 0
AreDistinct pairs = AllPairs (λ a b. a.key ≢ b.key) pairs

-- the first key is none of the others
first_alone : (pair : DictPair) (pairs : List DictPair) (key : Key) → AreDistinct (pair ∷ pairs) → pair.key ≡ key → dict_get pairs key ≡ None
first_alone pair pairs key distinct same = absent_in pairs key (λ k d low is. distinct zero (suc k) d (omega arith) (omega arith) (same ∙ is))

None≢Some : {X : Type 0} (x : X) → None ≡ Some x → ⊥
None≢Some x h = cc

-- a pair that is there is what a look-up of its key finds
pub found_from_pair : (pairs : List DictPair) (wanted : DictPair) → AreDistinct pairs → has_pair pairs wanted ≡ true → dict_get pairs wanted.key ≡ Some wanted.value
found_from_pair [] wanted distinct has = absurd (false≢true has)
found_from_pair (pair ∷ pairs) wanted distinct has =
    let rest = found_from_pair pairs wanted (distinct_tail pair pairs distinct) in
    elim (same_key pair.key wanted.key) as (λ b. same_key pair.key wanted.key ≡ b → dict_get (pair ∷ pairs) wanted.key ≡ Some wanted.value) [
      | true ↦ λ here.
          elim (is_value pair.value wanted.value) as (λ b. is_value pair.value wanted.value ≡ b → dict_get (pair ∷ pairs) wanted.key ≡ Some wanted.value) [
            | true ↦ λ equal. simp here (ap Some (is_value-true pair.value wanted.value equal))
            | false ↦ λ differ. absurd (None≢Some wanted.value (sym (first_alone pair pairs wanted.key distinct (same_key-true pair.key wanted.key here)) ∙ rest (simp (here, differ) at has)))
          ] refl
      | false ↦ λ past. simp past (rest (simp past at has))
    ] refl

pub pair_from_found : (pairs : List DictPair) (wanted : DictPair) → dict_get pairs wanted.key ≡ Some wanted.value → has_pair pairs wanted ≡ true
pair_from_found [] wanted found = absurd (None≢Some wanted.value found)
pair_from_found (pair ∷ pairs) wanted found =
    elim (same_key pair.key wanted.key) as (λ b. same_key pair.key wanted.key ≡ b → has_pair (pair ∷ pairs) wanted ≡ true) [
      | true ↦ λ here.
          let some : Some pair.value ≡ Some wanted.value = simp here at found in
          let equal : pair.value ≡ wanted.value = cc in
          let answer : is_value pair.value wanted.value ≡ true = ap (is_value pair.value) (sym equal) ∙ is_value-refl pair.value in
          simp (here, answer)
      | false ↦ λ past. simp past (pair_from_found pairs wanted (simp past at found))
    ] refl

-- where each of the pairs is among the others, what a look-up finds in these it finds in the others
found_in_others : (pairs others : List DictPair) → AreDistinct others → list_all (has_pair others) pairs ≡ true → (key : Key) (value : Value) → dict_get pairs key ≡ Some value → dict_get others key ≡ Some value
found_in_others [] others distinct each key value found = absurd (None≢Some value found)
found_in_others (pair ∷ pairs) others distinct each key value found =
    let parts = and_parts (has_pair others pair) (list_all (has_pair others) pairs) each in
    elim (is_at key pair) as (λ b. is_at key pair ≡ b → dict_get others key ≡ Some value) [
      | true ↦ λ here.
          let some : Some pair.value ≡ Some value = simp here at found in
          ap (dict_get others) (sym (same_key-true pair.key key here)) ∙ found_from_pair others pair distinct parts.0 ∙ some
      | false ↦ λ past. found_in_others pairs others distinct parts.1 key value (simp past at found)
    ] refl

each_from_found : (pairs others : List DictPair) → AreDistinct pairs → ((key : Key) (value : Value) → dict_get pairs key ≡ Some value → dict_get others key ≡ Some value) → list_all (has_pair others) pairs ≡ true
each_from_found [] others distinct found = refl
each_from_found (pair ∷ pairs) others distinct found =
    let first : has_pair others pair ≡ true = pair_from_found others pair (found pair.key pair.value (simp (same_key-refl pair.key))) in
    simp first (each_from_found pairs others (distinct_tail pair pairs distinct) (λ key value there.
    elim (is_at key pair) as (λ b. is_at key pair ≡ b → dict_get others key ≡ Some value) [
      | true ↦ λ here. absurd (None≢Some value (sym (first_alone pair pairs key distinct (same_key-true pair.key key here)) ∙ there))
      | false ↦ λ past. found key value (simp past there)
    ] refl))

same_options : (a b : Option Value) → ((value : Value) → a ≡ Some value → b ≡ Some value) → ((value : Value) → b ≡ Some value → a ≡ Some value) → a ≡ b
same_options (Some x) b there back = sym (there x refl)
same_options None (Some y) there back = back y refl
same_options None None there back = refl

pub equals_reads : (pairs others : List DictPair) → AreDistinct pairs → AreDistinct others → IsTrue (same_pairs pairs others) ↔ ((key : Key) → dict_get pairs key ≡ dict_get others key)
equals_reads pairs others distinct apart = (
  λ same. let parts = and_parts (list_all (has_pair others) pairs) (list_all (has_pair pairs) others) same in λ key. same_options _ _ (found_in_others pairs others apart parts.0 key) (found_in_others others pairs distinct parts.1 key),
  λ each.
      let first : list_all (has_pair others) pairs ≡ true = each_from_found pairs others distinct (λ key value found. sym (each key) ∙ found) in
      let second : list_all (has_pair pairs) others ≡ true = each_from_found others pairs apart (λ key value found. each key ∙ found) in
      simp (first, second),
)
