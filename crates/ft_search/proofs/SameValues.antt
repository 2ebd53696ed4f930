-- A dict in which a value is put at a key that has it already is as it was.
use Rattle.std.proofs.Common.{◌≡◌, ◌≢◌, zero, suc, ◌+◌, Bool, true, false, true≢false, cond, List, [], ◌∷◌, ◌++◌, find, Some, None, refl, sym, ap, ◌∙◌, arith}
use Rattle.std.specs.Prelude.{All, AllPairs, ◌||◌, option_map, slice_index_or, if◌then◌else◌}
use Rattle.ft_model.specs.declared.content.DictPair.{DictPair}
use Rattle.ft_model.specs.declared.data.Key.{Key}
use Rattle.ft_model.specs.declared.data.Value.{Value}
use Rattle.ft_model.specs.Contents.{DictContent, IsDict, is_at, dict_get, dict_set, has_key, with_value}
use Rattle.ft_model.proofs.KeyLemmas.{same_key-true}

-- a value that is put where it stands
pub same_value : (pairs : List DictPair) (key : Key) (value : Value) → All (λ (p : DictPair). is_at key p ≡ true → p.value ≡ value) pairs → with_value pairs key value ≡ pairs
same_value [] key value all = refl
same_value (p ∷ ps) key value all =
    let rest = same_value ps key value (λ i d low. all (suc i) d (omega (arith, low))) in
    let here = by (is_at key p) refl in
    λ i. here i ∷ rest i
  where
    by : (b : Bool) → is_at key p ≡ b → (if is_at key p then record p { value = value } else p) ≡ p
    by true at = ap (λ (b : Bool). if b then record p { value = value } else p) at ∙ ap (λ (z : Value). record p { value = z }) (sym (all 0 p (omega arith) at))
    by false not_at = ap (λ (b : Bool). if b then record p { value = value } else p) not_at

-- the key is there, and each pair at it has the value
abbrev HasAlone : List DictPair → Key → Value → Type 0
HasAlone pairs key value = (has_key pairs key ≡ true) × All (λ (p : DictPair). is_at key p ≡ true → p.value ≡ value) pairs

first_alone : (x : DictPair) (xs : List DictPair) (key : Key) (value : Value) → AllPairs (λ (a : DictPair) (b : DictPair). a.key ≢ b.key) (x ∷ xs) → is_at key x ≡ true → x.value ≡ value → All (λ (p : DictPair). is_at key p ≡ true → p.value ≡ value) (x ∷ xs)
first_alone x xs key value distinct at is zero d low = λ _. is
first_alone x xs key value distinct at is (suc j) d low = λ here. absurd (distinct 0 (suc j) d (omega arith) low (same_key-true x.key key at ∙ sym (same_key-true (slice_index_or xs j d).key key here)))

later_alone : (x : DictPair) (xs : List DictPair) (key : Key) (value : Value) → is_at key x ≡ false → All (λ (p : DictPair). is_at key p ≡ true → p.value ≡ value) xs → All (λ (p : DictPair). is_at key p ≡ true → p.value ≡ value) (x ∷ xs)
later_alone x xs key value not_at rest zero d low = λ here. absurd (true≢false (sym here ∙ not_at))
later_alone x xs key value not_at rest (suc j) d low = rest j d (omega (arith, low))

got_alone : (pairs : List DictPair) (key : Key) (value : Value) → AllPairs (λ (a : DictPair) (b : DictPair). a.key ≢ b.key) pairs → dict_get pairs key ≡ Some value → HasAlone pairs key value
got_alone [] key value distinct got = absurd (let e : None ≡ Some value = got in cc)
got_alone (x ∷ xs) key value distinct got = by (is_at key x) refl (got_alone xs key value (λ i j d less low. distinct (suc i) (suc j) d (omega (arith, less)) (omega (arith, low))))
  where
    by : (b : Bool) → is_at key x ≡ b → (dict_get xs key ≡ Some value → HasAlone xs key value) → HasAlone (x ∷ xs) key value
    by true at rest =
        let found : Some x.value ≡ Some value = sym (ap (λ (b : Bool). option_map (λ (p : DictPair). p.value) (cond b (Some x) (find (is_at key) xs))) at) ∙ got in
        let is : x.value ≡ value = cc in
        (ap (λ (b : Bool). b || has_key xs key) at, first_alone x xs key value distinct at is)
    by false not_at rest =
        let r = rest (sym (ap (λ (b : Bool). option_map (λ (p : DictPair). p.value) (cond b (Some x) (find (is_at key) xs))) not_at) ∙ got) in
        (ap (λ (b : Bool). b || has_key xs key) not_at ∙ r.0, later_alone x xs key value not_at r.1)

pub value_again : (dict : DictContent) (key : Key) (value : Value) → IsDict dict.next dict.pairs → dict_get dict.pairs key ≡ Some value → dict_set dict key value ≡ dict
value_again dict key value in_order got =
    let alone = got_alone dict.pairs key value in_order.distinct got in
    let same = same_value dict.pairs key value alone.1 in
    ap (λ (b : Bool). if b then record { next = dict.next; pairs = with_value dict.pairs key value } else record { next = dict.next + 1; pairs = dict.pairs ++ record { serial = dict.next; key = key; value = value } ∷ [] }) alone.0
    ∙ (λ i. record { next = dict.next; pairs = same i })
