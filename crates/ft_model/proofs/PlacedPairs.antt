-- What a dict has where a key was looked up.
use Rattle.std.proofs.Common.{◌≡◌, ◌≢◌, ℕ, zero, suc, ◌-◌, ◌<◌, true, false, List, [], ◌∷◌, length, take, Some, None, refl, sym, ap, ◌∙◌, arith}
use Rattle.std.specs.Prelude.{All, AllPairs, Any, option_map}
use Rattle.std.specs.List.{find, remove}
use Rattle.std.proofs.lemmas.Bool.{false≢true}
use Rattle.std.proofs.lemmas.List.Quantifiers.{all_pairs_remove}
use Rattle.ft_model.specs.declared.data.Key.{Key}
use Rattle.ft_model.specs.declared.data.Value.{Value}
use Rattle.ft_model.specs.declared.data.Value.TheVariants.{Nothing, Int, Text}
use Rattle.ft_model.specs.declared.content.DictPair.{DictPair}
use Rattle.ft_model.specs.contracts.data.ValuePartialEq.TheImpl.{ghosts}
use Rattle.ft_model.specs.Keys.{same_key, is_value}
use Rattle.ft_model.specs.Contents.{IsDict, is_at, dict_get, has_pair}
use Rattle.ft_model.specs.Members.{AreMembers}
use Rattle.ft_model.proofs.KeyLemmas.{same_key-true, same_key-refl}
use Rattle.ft_model.proofs.ValueLemmas.{is_value-true, is_value-refl}
use Rattle.ft_model.proofs.PlacedMembers.{All-remove, take_is_remove}
use Rattle.ft_model.proofs.EqualDicts.{found_from_pair, pair_from_found}

-- `==` of values answers as `is_value`
pub same_values : (a b : Value) → ghosts.eq a b ≡ is_value a b
same_values Nothing Nothing = refl
same_values Nothing (Int y) = refl
same_values Nothing (Text t) = refl
same_values (Int x) Nothing = refl
same_values (Int x) (Int y) = refl
same_values (Int x) (Text t) = refl
same_values (Text s) Nothing = refl
same_values (Text s) (Int y) = refl
same_values (Text s) (Text t) = refl

pub are_pairs : (next : ℕ) (pairs : List DictPair) → IsDict next pairs → AreMembers (λ pair. pair.key) (λ pair. pair.serial) pairs
are_pairs next pairs is_dict = record { distinct = is_dict.distinct; rising = is_dict.rising }

pub found_in : (pairs : List DictPair) (key : Key) (value : Value) → dict_get pairs key ≡ Some value → Any (λ pair. (pair.key ≡ key) × (pair.value ≡ value)) pairs
found_in [] key value found = absurd (let none : None ≡ Some value = found in cc)
found_in (pair ∷ pairs) key value found =
    elim (is_at key pair) as (λ b. is_at key pair ≡ b → Any (λ pair. (pair.key ≡ key) × (pair.value ≡ value)) (pair ∷ pairs)) [
      | true ↦ λ here.
          let some : Some pair.value ≡ Some value = simp here at found in
          let same : pair.value ≡ value = cc in
          (zero, pair, omega arith, refl, (same_key-true _ _ here, same))
      | false ↦ λ past.
          let rest = found_in pairs key value (simp past at found) in
          (suc rest.0, rest.1, (let low : rest.0 < length pairs = rest.2 in omega arith), rest.3, rest.4)
    ] refl

pub missing_in : (pairs : List DictPair) (key : Key) → dict_get pairs key ≡ None → All (λ pair. pair.key ≢ key) pairs
missing_in [] key none k d low same = absurd (omega arith)
missing_in (pair ∷ pairs) key none zero d low same =
    let some : Some pair.value ≡ None = simp (ap (λ k. same_key k key) same ∙ same_key-refl key) at none in
    cc
missing_in (pair ∷ pairs) key none (suc k) d low same =
    elim (is_at key pair) as (λ b. is_at key pair ≡ b → ⊥) [
      | true ↦ λ here. (let some : Some pair.value ≡ None = simp here at none in cc)
      | false ↦ λ past. missing_in pairs key (simp past at none) k d (omega arith) same
    ] refl

pub has_pair-found : (pairs : List DictPair) (wanted pair : DictPair) → AllPairs (λ a b. a.key ≢ b.key) pairs → Some pair ≡ find (is_at wanted.key) pairs → is_value pair.value wanted.value ≡ has_pair pairs wanted
has_pair-found pairs wanted pair distinct found =
    let get : dict_get pairs wanted.key ≡ Some pair.value = sym (ap (option_map (λ (p : DictPair). p.value)) found) in
    elim (has_pair pairs wanted) as (λ b. has_pair pairs wanted ≡ b → is_value pair.value wanted.value ≡ b) [
      | true ↦ λ has.
          let both : Some wanted.value ≡ Some pair.value = sym (found_from_pair pairs wanted distinct has) ∙ get in
          let same : wanted.value ≡ pair.value = cc in
          ap (is_value pair.value) same ∙ is_value-refl pair.value
      | false ↦ λ hasnt.
          elim (is_value pair.value wanted.value) as (λ b. is_value pair.value wanted.value ≡ b → b ≡ false) [
            | true ↦ λ equal. absurd (false≢true (sym hasnt ∙ pair_from_found pairs wanted (get ∙ ap Some (is_value-true _ _ equal))))
            | false ↦ λ differ. refl
          ] refl
    ] refl

pub has_pair-missing : (pairs : List DictPair) (wanted : DictPair) → AllPairs (λ a b. a.key ≢ b.key) pairs → None ≡ find (is_at wanted.key) pairs → false ≡ has_pair pairs wanted
has_pair-missing pairs wanted distinct missing =
    let get : dict_get pairs wanted.key ≡ None = sym (ap (option_map (λ (p : DictPair). p.value)) missing) in
    elim (has_pair pairs wanted) as (λ b. has_pair pairs wanted ≡ b → false ≡ b) [
      | true ↦ λ has. absurd (let none : None ≡ Some wanted.value = sym get ∙ found_from_pair pairs wanted distinct has in cc)
      | false ↦ λ hasnt. refl
    ] refl

pub IsDict-remove : (next : ℕ) (pairs : List DictPair) (i : ℕ) → i < length pairs → IsDict next pairs → IsDict next (remove pairs i)
IsDict-remove next pairs i low is_dict =
    record {
      distinct = all_pairs_remove (λ (a b : DictPair). a.key ≢ b.key) pairs i low is_dict.distinct;
      rising = all_pairs_remove (λ (a b : DictPair). a.serial < b.serial) pairs i low is_dict.rising;
      below = All-remove (λ (pair : DictPair). pair.serial < next) pairs i low is_dict.below;
    }

pub IsDict-take : (next : ℕ) (pairs : List DictPair) → IsDict next pairs → IsDict next (take (length pairs - 1) pairs)
IsDict-take next [] is_dict = is_dict
IsDict-take next (pair ∷ pairs) is_dict = rw (take_is_remove (pair ∷ pairs)) (IsDict-remove next (pair ∷ pairs) (length (pair ∷ pairs) - 1) (omega arith) is_dict)
