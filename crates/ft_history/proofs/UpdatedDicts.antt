-- How many pairs a dict has after a call that adds to it.
use Rattle.std.proofs.Common.{◌≡◌, ◌≢◌, ℕ, suc, ◌+◌, ◌<◌, Bool, true, false, not, ◌||◌, List, [], ◌∷◌, ◌++◌, length, get_or, refl, ap, ◌∙◌, arith, cond}
use Rattle.std.specs.Prelude.{AllPairs, filter}
use Rattle.std.proofs.lemmas.List.{length-map, length_push}
use Rattle.ft_model.specs.declared.data.Key.{Key}
use Rattle.ft_model.specs.declared.data.Value.{Value}
use Rattle.ft_model.specs.declared.content.DictPair.{DictPair}
use Rattle.ft_model.specs.Keys.{same_key}
use Rattle.ft_model.specs.Contents.{DictContent, is_at, has_key, with_value, dict_set, dict_update}
use Rattle.ft_model.proofs.KeyLemmas.{same_key-true}

-- ---- one key more

pub length-dict_set : (dict : DictContent) (key : Key) (value : Value) → length (dict_set dict key value).pairs ≡ length dict.pairs + cond (has_key dict.pairs key) 0 1
length-dict_set dict key value =
    elim (has_key dict.pairs key) as (λ b. has_key dict.pairs key ≡ b → length (dict_set dict key value).pairs ≡ length dict.pairs + cond b 0 1) [
      | true ↦ λ there. simp (there, length-map) (omega arith)
      | false ↦ λ absent. simp absent (length_push dict.pairs (record { serial = dict.next; key = key; value = value }))
    ] refl

-- another key is there where it was
other_key : (key other : Key) → key ≢ other → same_key key other ≡ false
other_key key other differ =
    elim (same_key key other) as (λ b. same_key key other ≡ b → b ≡ false) [
      | true ↦ λ same. absurd (differ (same_key-true key other same))
      | false ↦ λ _. refl
    ] refl

has_key-with_value : (pairs : List DictPair) (key other : Key) (value : Value) → has_key (with_value pairs key value) other ≡ has_key pairs other
has_key-with_value [] key other value = refl
has_key-with_value (pair ∷ pairs) key other value =
    let rest = has_key-with_value pairs key other value in
    elim (is_at key pair) as (λ b. is_at key pair ≡ b → has_key (with_value (pair ∷ pairs) key value) other ≡ has_key (pair ∷ pairs) other) [
      | true ↦ λ here. simp (here, rest)
      | false ↦ λ no. simp (no, rest)
    ] refl

has_key-push : (pairs : List DictPair) (pair : DictPair) (other : Key) → pair.key ≢ other → has_key (pairs ++ pair ∷ []) other ≡ has_key pairs other
has_key-push [] pair other differ = simp (other_key pair.key other differ)
has_key-push (first ∷ pairs) pair other differ = ap (λ b. is_at other first || b) (has_key-push pairs pair other differ)

has_key-dict_set : (dict : DictContent) (key other : Key) (value : Value) → key ≢ other → has_key (dict_set dict key value).pairs other ≡ has_key dict.pairs other
has_key-dict_set dict key other value differ =
    elim (has_key dict.pairs key) as (λ b. has_key dict.pairs key ≡ b → has_key (dict_set dict key value).pairs other ≡ has_key dict.pairs other) [
      | true ↦ λ there. simp there (has_key-with_value dict.pairs key other value)
      | false ↦ λ absent. simp absent (has_key-push dict.pairs (record { serial = dict.next; key = key; value = value }) other differ)
    ] refl

-- ---- all keys of another dict

abbrev pub is_new : DictContent → DictPair → Bool
is_new dict pair = not (has_key dict.pairs pair.key)

-- the same pairs of a list are new, if the tests agree there
same_filter : {X : Type 0} (p q : X → Bool) (xs : List X) → ((k : ℕ) (d : X) → k < length xs → p (get_or xs k d) ≡ q (get_or xs k d)) → filter p xs ≡ filter q xs
same_filter p q [] same = refl
same_filter p q (x ∷ xs) same = ap (λ b. cond b (x ∷ filter p xs) (filter p xs)) (same 0 x (omega arith)) ∙ ap (λ ys. cond (q x) (x ∷ ys) ys) (same_filter p q xs (λ k d low. same (suc k) d (omega arith)))

pub length-dict_update : (others : List DictPair) (dict : DictContent) → AllPairs (λ a b. a.key ≢ b.key) others → length (dict_update dict others).pairs ≡ length dict.pairs + length (filter (is_new dict) others)
length-dict_update [] dict distinct = omega arith
length-dict_update (pair ∷ others) dict distinct =
    let next : DictContent = dict_set dict pair.key pair.value in
    let rest : length (dict_update next others).pairs ≡ length next.pairs + length (filter (is_new next) others) = length-dict_update others next (λ i j d lt low. distinct (suc i) (suc j) d (omega arith) (omega arith)) in
    let alike : filter (is_new next) others ≡ filter (is_new dict) others = same_filter (is_new next) (is_new dict) others (λ k d low. ap not (has_key-dict_set dict pair.key (get_or others k d).key pair.value (distinct 0 (suc k) d (omega arith) (omega arith)))) in
    let same_new : length (filter (is_new next) others) ≡ length (filter (is_new dict) others) = ap (λ (ps : List DictPair). length ps) alike in
    let set_one : length next.pairs ≡ length dict.pairs + cond {A = ℕ} (has_key dict.pairs pair.key) 0 1 = length-dict_set dict pair.key pair.value in
    elim (has_key dict.pairs pair.key) as (λ b. has_key dict.pairs pair.key ≡ b → length (dict_update dict (pair ∷ others)).pairs ≡ length dict.pairs + length (cond (not b) (pair ∷ filter (is_new dict) others) (filter (is_new dict) others))) [
      | true ↦ λ there.
          let added : cond {A = ℕ} (has_key dict.pairs pair.key) 0 1 ≡ 0 = ap {B = ℕ} (λ b. cond {A = ℕ} b 0 1) there in
          omega (arith, rest, same_new, set_one, added)
      | false ↦ λ absent.
          let added : cond {A = ℕ} (has_key dict.pairs pair.key) 0 1 ≡ 1 = ap {B = ℕ} (λ b. cond {A = ℕ} b 0 1) absent in
          omega (arith, rest, same_new, set_one, added)
    ] refl
