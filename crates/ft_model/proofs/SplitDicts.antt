-- Calls that leave a dict's keys as they were, and calls of dicts that are not split.
use Rattle.std.proofs.Common.{◌≡◌, ℕ, suc, zero, ◌+◌, ◌-◌, ◌<◌, ◌≤◌, Option, Bool, true, false, List, [], ◌∷◌, length, take, refl, ap, ◌∙◌, arith}
use Rattle.std.specs.Prelude.{filter, if◌then◌else◌}
use Rattle.ft_model.specs.declared.data.Key.{Key}
use Rattle.ft_model.specs.declared.data.Value.{Value}
use Rattle.ft_model.specs.declared.content.DictPair.{DictPair}
use Rattle.ft_model.specs.Contents.{DictContent, is_at, has_key, with_value, dict_set, dict_update}
use Rattle.ft_model.specs.declared.call.DictCall.{DictCall}
use Rattle.ft_model.specs.Calls.{dict_change}
use Rattle.ft_model.specs.TableUses.{TableUse, table_at, is_split, are_first, dict_takes, copy_takes, copy_leaves, change_takes, change_leaves, grown_table, split_takes, split_leaves, dict_call_takes, dict_call_leaves}
use Rattle.ft_model.specs.Views.{keys_in}
use Rattle.ft_model.proofs.KnownKeys.{length-filter-le}

-- a part that is as long as the whole is the whole
pub same_filtered : {X : Type 0} (p : X → Bool) (xs : List X) → length (filter p xs) ≡ length xs → filter p xs ≡ xs
same_filtered p [] same = refl
same_filtered {X = X} p (x ∷ xs) same =
    elim (p x) as (λ b. p x ≡ b → filter p (x ∷ xs) ≡ x ∷ xs) [
      | true ↦ λ here. simp here (ap (λ (rest : List X). x ∷ rest) (same_filtered p xs (let long : suc (length (filter p xs)) ≡ suc (length xs) = simp here at same in omega (arith, long))))
      | false ↦ λ gone. absurd (let long : length (filter p xs) ≡ suc (length xs) = simp gone at same in omega (arith, long, length-filter-le p xs))
    ] refl

pub same_taken : {X : Type 0} (count : ℕ) (xs : List X) → length (take count xs) ≡ length xs → take count xs ≡ xs
same_taken zero [] same = refl
same_taken zero (x ∷ xs) same = absurd (let none : 0 ≡ suc (length xs) = same in omega (arith, none))
same_taken (suc count) [] same = refl
same_taken {X = X} (suc count) (x ∷ xs) same = ap (λ (rest : List X). x ∷ rest) (same_taken count xs (let long : suc (length (take count xs)) ≡ suc (length xs) = same in omega (arith, long)))

-- a value in place of another changes no key
keys_with_value : (pairs : List DictPair) (key : Key) (value : Value) → keys_in (with_value pairs key value) ≡ keys_in pairs
keys_with_value [] key value = refl
keys_with_value (pair ∷ pairs) key value =
    elim (is_at key pair) as (λ b. (if b then record pair { value = value } else pair).key ∷ keys_in (with_value pairs key value) ≡ pair.key ∷ keys_in pairs) [
      | true ↦ ap (λ (rest : List Key). pair.key ∷ rest) (keys_with_value pairs key value)
      | false ↦ ap (λ (rest : List Key). pair.key ∷ rest) (keys_with_value pairs key value)
    ]

-- serials are drawn for new keys alone
set_draws : (dict : DictContent) (key : Key) (value : Value) → dict.next ≤ (dict_set dict key value).next
set_draws dict key value =
    elim (has_key dict.pairs key) as (λ b. has_key dict.pairs key ≡ b → dict.next ≤ (dict_set dict key value).next) [
      | true ↦ λ here. simp here (omega arith)
      | false ↦ λ none. simp none (omega arith)
    ] refl

update_draws : (others : List DictPair) (dict : DictContent) → dict.next ≤ (dict_update dict others).next
update_draws [] dict = omega arith
update_draws (pair ∷ others) dict = omega (arith, set_draws dict pair.key pair.value, update_draws others (dict_set dict pair.key pair.value))

pub same_keys_set : (dict : DictContent) (key : Key) (value : Value) → (dict_set dict key value).next ≡ dict.next → keys_in (dict_set dict key value).pairs ≡ keys_in dict.pairs
same_keys_set dict key value =
    elim (has_key dict.pairs key) as (λ b. has_key dict.pairs key ≡ b → (dict_set dict key value).next ≡ dict.next → keys_in (dict_set dict key value).pairs ≡ keys_in dict.pairs) [
      | true ↦ λ here same. simp here (keys_with_value dict.pairs key value)
      | false ↦ λ none same. absurd (let drawn : dict.next + 1 ≡ dict.next = simp none at same in omega (arith, drawn))
    ] refl

pub same_keys_update : (others : List DictPair) (dict : DictContent) → (dict_update dict others).next ≡ dict.next → keys_in (dict_update dict others).pairs ≡ keys_in dict.pairs
same_keys_update [] dict same = refl
same_keys_update (pair ∷ others) dict same =
    let mid = dict_set dict pair.key pair.value in
    let first = set_draws dict pair.key pair.value in
    let rest = update_draws others mid in
    same_keys_update others mid (let same_rest : (dict_update mid others).next ≡ mid.next = omega (arith, first, rest, same) in same_rest) ∙ same_keys_set dict pair.key pair.value (let same_first : mid.next ≡ dict.next = omega (arith, first, rest, same) in same_first)

-- where no keys are shared, no pair's key is among the first of them
pub none_first : (pairs : List DictPair) (keys : List Key) → 1 ≤ length pairs → length keys < 1 → false ≡ are_first (keys_in pairs) keys
none_first [] keys some none = absurd (omega (arith, some))
none_first (pair ∷ pairs) [] some none = refl
none_first (pair ∷ pairs) (key ∷ keys) some none = absurd (omega (arith, none))

-- ---- what a call of a dict that is not split takes and leaves

pub unsplit_takes : (table : TableUse) (called : DictCall) (old new : DictContent) → table.keys ≡ [] → dict_call_takes table called old new ≡ change_takes (dict_change called) (dict_takes table old new) (copy_takes (length old.pairs))
unsplit_takes table called old new none = ap (λ (keys : List Key). if is_split keys then split_takes keys called old new else change_takes (dict_change called) (dict_takes table old new) (copy_takes (length old.pairs))) none

pub unsplit_leaves : (tables : List TableUse) (place : ℕ) (called : DictCall) (old new : DictContent) (takes : Option ℕ) → (table_at tables place).keys ≡ [] → dict_call_leaves tables place called old new takes ≡ change_leaves tables place (dict_change called) (grown_table (table_at tables place) takes (new.next - old.next) (length new.pairs)) (copy_leaves (length old.pairs))
unsplit_leaves tables place called old new takes none = ap (λ (keys : List Key). if is_split keys then split_leaves tables place called old new takes else change_leaves tables place (dict_change called) (grown_table (table_at tables place) takes (new.next - old.next) (length new.pairs)) (copy_leaves (length old.pairs))) none

-- both at once, as a write on stored containers does
pub unsplit_tables : (tables : List TableUse) (place : ℕ) (called : DictCall) (old new : DictContent) → (table_at tables place).keys ≡ [] → dict_call_leaves tables place called old new (dict_call_takes (table_at tables place) called old new) ≡ change_leaves tables place (dict_change called) (grown_table (table_at tables place) (change_takes (dict_change called) (dict_takes (table_at tables place) old new) (copy_takes (length old.pairs))) (new.next - old.next) (length new.pairs)) (copy_leaves (length old.pairs))
unsplit_tables tables place called old new none =
    let T = table_at tables place in
    unsplit_leaves tables place called old new (dict_call_takes T called old new) none
    ∙ ap (λ (takes : Option ℕ). change_leaves tables place (dict_change called) (grown_table T takes (new.next - old.next) (length new.pairs)) (copy_leaves (length old.pairs))) (unsplit_takes T called old new none)
