-- What a dict has after a call.
use Rattle.std.proofs.Common.{◌≡◌, ◌≢◌, ℕ, ◌+◌, ◌<◌, true, false, List, [], ◌∷◌, ◌++◌, length, get_or, set, Some, None, refl, sym, ap, ◌∙◌, arith, inl, inr, position, ltb}
use Rattle.std.specs.Prelude.{AllPairs, All, Bool, not, filter, pos, if◌then◌else◌}
use Rattle.std.specs.List.{position_or_len}
use Rattle.std.proofs.lemmas.Bool.{cases_eq, cases_lt, lt-ltb, false≢true}
use Rattle.std.proofs.lemmas.List.{same_lists, get_or-map, get_or-set_same, get_or-set_other, length-map, length-set, get_or_default, get_or_read}
use Rattle.std.proofs.lemmas.List.Quantifiers.{position-Some, all_pairs_push}
use Rattle.std.proofs.lemmas.List.Elements.{All-push, All-filter}
use Rattle.std.proofs.lemmas.List.Kept.{AllPairs-filter}
use Rattle.std.proofs.lemmas.List.Folds.{list_any_none, list_any-from_Any}
use Rattle.std.proofs.lemmas.List.Sums.{fails_before_first}
use Rattle.ft_model.specs.declared.data.Key.{Key}
use Rattle.ft_model.specs.declared.data.Key.TheVariants.{Int}
use Rattle.ft_model.specs.declared.data.Value.{Value}
use Rattle.ft_model.specs.declared.data.Value.TheVariants.{Nothing}
use Rattle.ft_model.specs.declared.content.DictPair.{DictPair}
use Rattle.ft_model.specs.Keys.{same_key}
use Rattle.ft_model.specs.Contents.{DictContent, IsDict, is_at, has_key, dict_get, with_value, dict_set, dict_del}
use Rattle.ft_model.proofs.KeyLemmas.{same_key-true, same_key-refl}

abbrev with_new : DictPair → Value → DictPair
with_new pair value = record { serial = pair.serial; key = pair.key; value = value }

-- where keys are distinct, no other pair is the key's
only_one : (pairs : List DictPair) (key : Key) (i k : ℕ) (d : DictPair) → AllPairs (λ a b. a.key ≢ b.key) pairs → i < length pairs → k < length pairs → k ≢ i → is_at key (get_or pairs i d) ≡ true → is_at key (get_or pairs k d) ≡ false
only_one pairs key i k d distinct low high differ at =
    let here : (get_or pairs i d).key ≡ key = same_key-true _ _ at in
    elim (is_at key (get_or pairs k d)) as (λ b. is_at key (get_or pairs k d) ≡ b → b ≡ false) [
      | true ↦ λ there.
          let same : (get_or pairs k d).key ≡ key = same_key-true _ _ there in
          elim (cases_lt k i) [
            | inl lt ↦ absurd (distinct k i d lt low (same ∙ sym here))
            | inr le ↦ absurd (distinct i k d (omega arith) high (here ∙ sym same))
          ]
      | false ↦ λ there. refl
    ] refl

abbrev updated : Key → Value → DictPair → DictPair
updated key value pair = if is_at key pair then with_new pair value else pair

updated-yes : (key : Key) (value : Value) (pair : DictPair) → is_at key pair ≡ true → updated key value pair ≡ with_new pair value
updated-yes key value pair h = rw h refl

updated-no : (key : Key) (value : Value) (pair : DictPair) → is_at key pair ≡ false → updated key value pair ≡ pair
updated-no key value pair h = rw h refl

-- a new value at the key is one write at its place
with_value-at : (pairs : List DictPair) (key : Key) (value : Value) (i : ℕ) (d : DictPair) → AllPairs (λ a b. a.key ≢ b.key) pairs → position (is_at key) pairs ≡ Some i → with_value pairs key value ≡ set pairs i (with_new (get_or pairs i d) value)
with_value-at pairs key value i d distinct found =
    let p = position-Some (is_at key) pairs i d found in
    same_lists _ _ (simp (length-map, length-set)) (λ k e h.
    let low : k < length pairs = omega (arith, length-map pairs (updated key value)) in
    let left : get_or (with_value pairs key value) k e ≡ updated key value (get_or pairs k d) = get_or-map (updated key value) pairs k d e low in
    elim (cases_eq k i) [
      | inl same ↦
          let yes : is_at key (get_or pairs k d) ≡ true = rw same p.1 in
          left ∙ updated-yes key value (get_or pairs k d) yes ∙ ap (λ j. with_new (get_or pairs j d) value) same ∙ rw same (sym (get_or-set_same pairs i (with_new (get_or pairs i d) value) e p.0))
      | inr differ ↦
          left ∙ updated-no key value (get_or pairs k d) (only_one pairs key i k d distinct p.0 low differ p.1) ∙ get_or_default pairs k d e low ∙ sym (get_or-set_other pairs i k (with_new (get_or pairs i d) value) e differ)
    ])

abbrev no_pair : DictPair
no_pair = record { serial = 0; key = Int (pos 0); value = Nothing }

-- a key that is found is there
has_key-found : (pairs : List DictPair) (key : Key) (i : ℕ) → position (is_at key) pairs ≡ Some i → has_key pairs key ≡ true
has_key-found pairs key i found =
    let pair = get_or pairs i no_pair in
    let p = position-Some (is_at key) pairs i no_pair found in
    list_any-from_Any (is_at key) pairs (i, pair, p.0, get_or_default pairs i pair no_pair p.0, p.1)

-- one that isn't found is the key of no pair
missing : (pairs : List DictPair) (key : Key) → position (is_at key) pairs ≡ None → All (λ pair. is_at key pair ≡ false) pairs
missing pairs key none k d low =
    elim (cases_lt (position_or_len (is_at key) pairs) (length pairs)) [
      | inl lt ↦ absurd (let test : ltb (position_or_len (is_at key) pairs) (length pairs) ≡ true = lt-ltb _ _ lt in let some : Some (position_or_len (is_at key) pairs) ≡ None = rw test at none in cc)
      | inr le ↦ fails_before_first (is_at key) pairs k d (omega arith)
    ]

pub set_found : (dict : DictContent) (key : Key) (value : Value) (i : ℕ) (pair : DictPair) → IsDict dict.next dict.pairs → position (is_at key) dict.pairs ≡ Some i → pair ≡ get_or dict.pairs i pair → record { next = dict.next; pairs = set dict.pairs i (with_new pair value) } ≡ dict_set dict key value
set_found dict key value i pair is_dict found at =
    let write : with_value dict.pairs key value ≡ set dict.pairs i (with_new pair value) = with_value-at dict.pairs key value i pair is_dict.distinct found ∙ ap (λ p. set dict.pairs i (with_new p value)) (sym at) in
    rw (has_key-found dict.pairs key i found) (ap (λ (ps : List DictPair). let r : DictContent = record { next = dict.next; pairs = ps } in r) (sym write))

pub set_missing : (dict : DictContent) (key : Key) (value : Value) → position (is_at key) dict.pairs ≡ None → record { next = dict.next + 1; pairs = dict.pairs ++ record { serial = dict.next; key = key; value = value } ∷ [] } ≡ dict_set dict key value
set_missing dict key value none = rw (list_any_none (is_at key) dict.pairs (missing dict.pairs key none)) refl

pub IsDict-push : (next : ℕ) (pairs : List DictPair) (key : Key) (value : Value) → IsDict next pairs → position (is_at key) pairs ≡ None → IsDict (next + 1) (pairs ++ record { serial = next; key = key; value = value } ∷ [])
IsDict-push next pairs key value is_dict none =
    let pair : DictPair = record { serial = next; key = key; value = value } in
    record {
      distinct = all_pairs_push (λ (a b : DictPair). a.key ≢ b.key) pairs pair is_dict.distinct (λ k d low same. false≢true (sym (missing pairs key none k d low) ∙ (ap (λ x. same_key x key) same ∙ same_key-refl key)));
      rising = all_pairs_push (λ (a b : DictPair). a.serial < b.serial) pairs pair is_dict.rising (λ k d low. is_dict.below k d low);
      below = All-push (λ (p : DictPair). p.serial < next + 1) pairs pair (λ k d low. let b : (get_or pairs k d).serial < next = is_dict.below k d low in omega arith) (omega arith);
    }

-- a write at a place keeps at each place what it keeps at that one
kept_at : {X : Type 0} (f : DictPair → X) (pairs : List DictPair) (i k : ℕ) (new d : DictPair) → i < length pairs → f new ≡ f (get_or pairs i d) → f (get_or (set pairs i new) k d) ≡ f (get_or pairs k d)
kept_at f pairs i k new d low is =
    elim (cases_eq k i) [
      | inl same ↦ ap (λ j. f (get_or (set pairs i new) j d)) same ∙ ap f (get_or-set_same pairs i new d low) ∙ is ∙ ap (λ j. f (get_or pairs j d)) (sym same)
      | inr differ ↦ ap f (get_or-set_other pairs i k new d differ)
    ]

pub IsDict-set : (next : ℕ) (pairs : List DictPair) (key : Key) (value : Value) (i : ℕ) (pair : DictPair) → IsDict next pairs → position (is_at key) pairs ≡ Some i → pair ≡ get_or pairs i pair → IsDict next (set pairs i (with_new pair value))
IsDict-set next pairs key value i pair is_dict found at =
    let new : DictPair = with_new pair value in
    let low : i < length pairs = (position-Some (is_at key) pairs i pair found).0 in
    let same_length : length (set pairs i new) ≡ length pairs = length-set pairs i new in
    let key_at : (k : ℕ) (d : DictPair) → (get_or (set pairs i new) k d).key ≡ (get_or pairs k d).key = λ k d. kept_at (λ (p : DictPair). p.key) pairs i k new d low (ap (λ (p : DictPair). p.key) (get_or_read pairs i pair low at d)) in
    let serial_at : (k : ℕ) (d : DictPair) → (get_or (set pairs i new) k d).serial ≡ (get_or pairs k d).serial = λ k d. kept_at (λ (p : DictPair). p.serial) pairs i k new d low (ap (λ (p : DictPair). p.serial) (get_or_read pairs i pair low at d)) in
    record {
      distinct = λ j k d lt within same. is_dict.distinct j k d lt (omega arith) (sym (key_at j d) ∙ same ∙ key_at k d);
      rising = λ j k d lt within. rw (serial_at j d, serial_at k d) (is_dict.rising j k d lt (omega arith));
      below = λ k d within. rw (serial_at k d) (is_dict.below k d (omega arith));
    }

-- some of the pairs of a dict, in their order, are those of a dict
pub IsDict-filter : (next : ℕ) (pairs : List DictPair) (stays : DictPair → Bool) → IsDict next pairs → IsDict next (filter stays pairs)
IsDict-filter next pairs stays is_dict =
    record {
      distinct = AllPairs-filter (λ a b. a.key ≢ b.key) stays pairs is_dict.distinct;
      rising = AllPairs-filter (λ a b. a.serial < b.serial) stays pairs is_dict.rising;
      below = All-filter stays (λ pair. pair.serial < next) pairs is_dict.below;
    }

-- a key that isn't there has no value, and the pairs without it are the pairs
pub has_key_none : (pairs : List DictPair) (key : Key) → dict_get pairs key ≡ None → has_key pairs key ≡ false
has_key_none [] key none = refl
has_key_none (pair ∷ pairs) key none =
    elim (is_at key pair) as (λ b. is_at key pair ≡ b → has_key (pair ∷ pairs) key ≡ false) [
      | true ↦ λ here. absurd (let some : Some pair.value ≡ None = simp here at none in cc)
      | false ↦ λ no. simp no (has_key_none pairs key (simp no at none))
    ] refl

del-missing : (pairs : List DictPair) (key : Key) → has_key pairs key ≡ false → filter (λ pair. not (is_at key pair)) pairs ≡ pairs
del-missing [] key absent = refl
del-missing (pair ∷ pairs) key absent =
    elim (is_at key pair) as (λ b. is_at key pair ≡ b → filter (λ pair. not (is_at key pair)) (pair ∷ pairs) ≡ pair ∷ pairs) [
      | true ↦ λ here. absurd (false≢true (sym absent ∙ simp here))
      | false ↦ λ no. simp no (ap (λ (rest : List DictPair). pair ∷ rest) (del-missing pairs key (simp no at absent)))
    ] refl

pub del_missing : (dict : DictContent) (key : Key) → has_key dict.pairs key ≡ false → dict_del dict key ≡ dict
del_missing dict key absent = ap (λ (pairs : List DictPair). let r : DictContent = record { next = dict.next; pairs = pairs } in r) (del-missing dict.pairs key absent)
