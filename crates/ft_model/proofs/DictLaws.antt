-- What a reader sees of a dict after `d[k] = v`: the laws of `dict_set`.
use Rattle.std.proofs.Common.{◌≡◌, ◌≢◌, ℕ, suc, zero, ◌+◌, ◌≤◌, length, None, arith, true, false, IsTrue, List, [], ◌∷◌, ◌++◌, map, Some, refl, sym, ap, ◌∙◌}
use Rattle.std.specs.Prelude.{AllPairs, All, not, filter}
use Rattle.std.specs.Option.{option_or}
use Rattle.std.proofs.lemmas.Bool.{false≢true}
use Rattle.ft_model.specs.declared.data.Key.{Key}
use Rattle.ft_model.specs.declared.data.Value.{Value}
use Rattle.ft_model.specs.declared.content.DictPair.{DictPair}
use Rattle.ft_model.specs.Keys.{same_key}
use Rattle.ft_model.specs.Contents.{DictContent, is_at, dict_get, has_key, with_value, dict_set, dict_del, dict_update, dict_copy, pairs_from, KeepsPlaces, GoesLast}
use Rattle.ft_model.specs.Answers.{items_of}
use Rattle.ft_model.proofs.KeyLemmas.{same_key-true, same_key-refl}
use Rattle.ft_model.proofs.Copies.{length-pairs_from, get-pairs_from}

-- a key that differs from the pair's is not the pair's
is_at-other : (key other : Key) → other ≢ key → same_key key other ≡ false
is_at-other key other differ =
    elim (same_key key other) as (λ b. same_key key other ≡ b → b ≡ false) [
      | true ↦ λ same. absurd (differ (sym (same_key-true key other same)))
      | false ↦ λ _. refl
    ] refl

get-with_value : (pairs : List DictPair) (key : Key) (value : Value) → has_key pairs key ≡ true → dict_get (with_value pairs key value) key ≡ Some value
get-with_value [] key value there = absurd cc
get-with_value (pair ∷ pairs) key value there =
    elim (is_at key pair) as (λ b. is_at key pair ≡ b → dict_get (with_value (pair ∷ pairs) key value) key ≡ Some value) [
      | true ↦ λ here. simp here
      | false ↦ λ no. simp no (get-with_value pairs key value (simp no at there))
    ] refl

get-with_value-other : (pairs : List DictPair) (key other : Key) (value : Value) → other ≢ key → dict_get (with_value pairs key value) other ≡ dict_get pairs other
get-with_value-other [] key other value differ = refl
get-with_value-other (pair ∷ pairs) key other value differ =
    let rest = get-with_value-other pairs key other value differ in
    elim (is_at key pair) as (λ b. is_at key pair ≡ b → dict_get (with_value (pair ∷ pairs) key value) other ≡ dict_get (pair ∷ pairs) other) [
      | true ↦ λ here.
          let same = same_key-true pair.key key here in
          let no : is_at other pair ≡ false = ap (λ k. same_key k other) same ∙ is_at-other key other differ in
          simp (here, no) rest
      | false ↦ λ no.
          elim (is_at other pair) as (λ b. is_at other pair ≡ b → dict_get (with_value (pair ∷ pairs) key value) other ≡ dict_get (pair ∷ pairs) other) [
            | true ↦ λ at. simp (no, at)
            | false ↦ λ past. simp (no, past) rest
          ] refl
    ] refl

get-append : (pairs : List DictPair) (pair : DictPair) → has_key pairs pair.key ≡ false → dict_get (pairs ++ pair ∷ []) pair.key ≡ Some pair.value
get-append [] pair absent = simp (same_key-refl pair.key)
get-append (first ∷ pairs) pair absent =
    elim (is_at pair.key first) as (λ b. is_at pair.key first ≡ b → dict_get (first ∷ pairs ++ pair ∷ []) pair.key ≡ Some pair.value) [
      | true ↦ λ here. absurd (false≢true (sym absent ∙ simp here))
      | false ↦ λ no. simp no (get-append pairs pair (simp no at absent))
    ] refl

get-append-other : (pairs : List DictPair) (pair : DictPair) (other : Key) → other ≢ pair.key → dict_get (pairs ++ pair ∷ []) other ≡ dict_get pairs other
get-append-other [] pair other differ = simp (is_at-other pair.key other differ)
get-append-other (first ∷ pairs) pair other differ =
    elim (is_at other first) as (λ b. is_at other first ≡ b → dict_get (first ∷ pairs ++ pair ∷ []) other ≡ dict_get (first ∷ pairs) other) [
      | true ↦ λ here. simp here
      | false ↦ λ no. simp no (get-append-other pairs pair other differ)
    ] refl

-- a new value changes nothing that does not read the values
map-with_value : {X : Type 0} (f : DictPair → X) (pairs : List DictPair) (key : Key) (value : Value) → ((pair : DictPair) → f (record pair { value = value }) ≡ f pair) → map f (with_value pairs key value) ≡ map f pairs
map-with_value f [] key value same = refl
map-with_value f (pair ∷ pairs) key value same =
    let rest = map-with_value f pairs key value same in
    elim (is_at key pair) as (λ b. is_at key pair ≡ b → map f (with_value (pair ∷ pairs) key value) ≡ map f (pair ∷ pairs)) [
      | true ↦ λ here. simp (here, same pair, rest)
      | false ↦ λ no. simp (no, rest)
    ] refl

pub set-reads_back : (dict new : DictContent) (key : Key) (value : Value) → new ≡ dict_set dict key value → dict_get new.pairs key ≡ Some value
set-reads_back dict new key value is =
    ap (λ (d : DictContent). dict_get d.pairs key) is ∙
    elim (has_key dict.pairs key) as (λ b. has_key dict.pairs key ≡ b → dict_get (dict_set dict key value).pairs key ≡ Some value) [
      | true ↦ λ there. simp there (get-with_value dict.pairs key value there)
      | false ↦ λ absent. simp absent (get-append dict.pairs (record { serial = dict.next; key = key; value = value }) absent)
    ] refl

pub set-others : (dict new : DictContent) (key : Key) (value : Value) → new ≡ dict_set dict key value → (other : Key) → other ≢ key → dict_get new.pairs other ≡ dict_get dict.pairs other
set-others dict new key value is other differ =
    ap (λ (d : DictContent). dict_get d.pairs other) is ∙
    elim (has_key dict.pairs key) as (λ b. has_key dict.pairs key ≡ b → dict_get (dict_set dict key value).pairs other ≡ dict_get dict.pairs other) [
      | true ↦ λ there. simp there (get-with_value-other dict.pairs key other value differ)
      | false ↦ λ absent. simp absent (get-append-other dict.pairs (record { serial = dict.next; key = key; value = value }) other differ)
    ] refl

pub set-keeps_places : (dict new : DictContent) (key : Key) (value : Value) → new ≡ dict_set dict key value → IsTrue (has_key dict.pairs key) → KeepsPlaces dict new
set-keeps_places dict new key value is there =
    let s : new ≡ record { next = dict.next; pairs = with_value dict.pairs key value } = is ∙ simp there in
    record {
      keys = ap (λ (d : DictContent). map (λ (pair : DictPair). pair.key) d.pairs) s ∙ map-with_value (λ (pair : DictPair). pair.key) dict.pairs key value (λ pair. refl);
      serials = ap (λ (d : DictContent). map (λ (pair : DictPair). pair.serial) d.pairs) s ∙ map-with_value (λ (pair : DictPair). pair.serial) dict.pairs key value (λ pair. refl);
      next = ap (λ (d : DictContent). d.next) s;
    }

pub set-goes_last : (dict new : DictContent) (key : Key) (value : Value) → new ≡ dict_set dict key value → has_key dict.pairs key ≡ false → GoesLast dict new key value
set-goes_last dict new key value is absent =
    let s : new ≡ record { next = dict.next + 1; pairs = dict.pairs ++ record { serial = dict.next; key = key; value = value } ∷ [] } = is ∙ simp absent in
    record {
      pairs = ap (λ (d : DictContent). d.pairs) s;
      next = ap (λ (d : DictContent). d.next) s;
    }

-- ---- `del d[k]`

get-filter-gone : (pairs : List DictPair) (key : Key) → dict_get (filter (λ pair. not (is_at key pair)) pairs) key ≡ None
get-filter-gone [] key = refl
get-filter-gone (pair ∷ pairs) key =
    elim (is_at key pair) as (λ b. is_at key pair ≡ b → dict_get (filter (λ pair. not (is_at key pair)) (pair ∷ pairs)) key ≡ None) [
      | true ↦ λ here. simp here (get-filter-gone pairs key)
      | false ↦ λ past. simp past (get-filter-gone pairs key)
    ] refl

pub del_gone : (dict : DictContent) (key : Key) → dict_get (dict_del dict key).pairs key ≡ None
del_gone dict key = get-filter-gone dict.pairs key

get-filter-other : (pairs : List DictPair) (key other : Key) → other ≢ key → dict_get (filter (λ pair. not (is_at key pair)) pairs) other ≡ dict_get pairs other
get-filter-other [] key other differ = refl
get-filter-other (pair ∷ pairs) key other differ =
    let rest = get-filter-other pairs key other differ in
    elim (is_at key pair) as (λ b. is_at key pair ≡ b → dict_get (filter (λ pair. not (is_at key pair)) (pair ∷ pairs)) other ≡ dict_get (pair ∷ pairs) other) [
      | true ↦ λ here.
          let past : is_at other pair ≡ false = ap (λ k. same_key k other) (same_key-true pair.key key here) ∙ is_at-other key other differ in
          simp (here, past) rest
      | false ↦ λ past.
          elim (is_at other pair) as (λ b. is_at other pair ≡ b → dict_get (filter (λ pair. not (is_at key pair)) (pair ∷ pairs)) other ≡ dict_get (pair ∷ pairs) other) [
            | true ↦ λ at. simp (past, at)
            | false ↦ λ beyond. simp (past, beyond) rest
          ] refl
    ] refl

pub del_others : (dict : DictContent) (key other : Key) → other ≢ key → dict_get (dict_del dict key).pairs other ≡ dict_get dict.pairs other
del_others dict key other differ = get-filter-other dict.pairs key other differ

-- ---- `d.update(e)`

-- keys that no other pair has
pub distinct_tail : (pair : DictPair) (pairs : List DictPair) → AllPairs (λ a b. a.key ≢ b.key) (pair ∷ pairs) → AllPairs (λ a b. a.key ≢ b.key) pairs
distinct_tail pair pairs distinct = λ i j d lt within. distinct (suc i) (suc j) d (omega arith) (omega arith)

pub absent_in : (pairs : List DictPair) (key : Key) → All (λ pair. key ≢ pair.key) pairs → dict_get pairs key ≡ None
absent_in [] key each = refl
absent_in (pair ∷ pairs) key each =
    let past : is_at key pair ≡ false = is_at-other pair.key key (each zero pair (omega arith)) in
    simp past (absent_in pairs key (λ k d low. each (suc k) d (omega arith)))

pub update_reads : (others : List DictPair) (dict : DictContent) → AllPairs (λ a b. a.key ≢ b.key) others → (key : Key) → dict_get (dict_update dict others).pairs key ≡ option_or (dict_get others key) (dict_get dict.pairs key)
update_reads [] dict distinct key = refl
update_reads (pair ∷ others) dict distinct key =
    let rest = update_reads others (dict_set dict pair.key pair.value) (distinct_tail pair others distinct) key in
    elim (is_at key pair) as (λ b. is_at key pair ≡ b → dict_get (dict_update dict (pair ∷ others)).pairs key ≡ option_or (dict_get (pair ∷ others) key) (dict_get dict.pairs key)) [
      | true ↦ λ here.
          let same : pair.key ≡ key = same_key-true pair.key key here in
          let last : dict_get others key ≡ None = absent_in others key (λ k d low. λ is. distinct zero (suc k) d (omega arith) (omega arith) (same ∙ is)) in
          let stored : dict_get (dict_set dict pair.key pair.value).pairs key ≡ Some pair.value = ap (dict_get (dict_set dict pair.key pair.value).pairs) (sym same) ∙ set-reads_back dict (dict_set dict pair.key pair.value) pair.key pair.value refl in
          rest ∙ ap (λ o. option_or o (dict_get (dict_set dict pair.key pair.value).pairs key)) last ∙ stored ∙ sym (simp here)
      | false ↦ λ past.
          let differ : key ≢ pair.key = λ is. false≢true (sym past ∙ ap (same_key pair.key) is ∙ same_key-refl pair.key) in
          rest ∙ ap (λ o. option_or (dict_get others key) o) (set-others dict (dict_set dict pair.key pair.value) pair.key pair.value refl key differ) ∙ sym (simp past)
    ] refl

-- ---- copies

items-pairs_from : (next : ℕ) (pairs : List DictPair) → items_of (pairs_from next pairs) ≡ items_of pairs
items-pairs_from next [] = refl
items-pairs_from next (pair ∷ pairs) = ap (λ (rest : List (Key × Value)). (pair.key, pair.value) ∷ rest) (items-pairs_from (next + 1) pairs)

pub copy_same : (dict : DictContent) (pairs : List DictPair) → items_of (dict_copy dict pairs).pairs ≡ items_of pairs
copy_same dict pairs = items-pairs_from dict.next pairs

pub copy_fresh : (dict : DictContent) (pairs : List DictPair) → All (λ pair. dict.next ≤ pair.serial) (dict_copy dict pairs).pairs
copy_fresh dict pairs = λ k d low. let count : length (pairs_from dict.next pairs) ≡ length pairs = length-pairs_from dict.next pairs in rw (get-pairs_from dict.next pairs k d (omega arith)) (omega arith)
