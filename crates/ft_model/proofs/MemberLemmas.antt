-- What members have at a key after a call, and where a search by serial comes to.
use Rattle.std.proofs.Common.{◌≡◌, ◌≢◌, ℕ, zero, suc, ◌<◌, Bool, true, false, not, cond, ltb, List, [], ◌∷◌, ◌++◌, length, get_or, set, take, position, Option, Some, None, is_some, refl, sym, ap, ◌∙◌, arith, inl, inr}
use Rattle.std.specs.Prelude.{◌||◌, All, AllPairs, option_map}
use Rattle.std.specs.List.{find, list_any, remove}
use Rattle.std.specs.Map.{lookup}
use Rattle.std.proofs.lemmas.Bool.{cases_eq, cases_lt, lt-ltb, le-ltb, false≢true, or_parts}
use Rattle.std.proofs.lemmas.List.Sums.{position_or_len_is, fails_before_first}
use Rattle.std.proofs.lemmas.List.Quantifiers.{all_pairs_push, all_pairs_remove}
use Rattle.std.proofs.lemmas.List.{get_or-set_same, get_or-set_other, get_or_default, get_or-take, length-set, length-take-le}
use Rattle.std.proofs.lemmas.List.Folds.{list_any_none}
use Rattle.std.specs.Prelude.{nat_lt, filter}
use Rattle.std.specs.List.{position_or_len}
use Rattle.ft_model.specs.declared.data.Key.{Key}
use Rattle.ft_model.specs.Keys.{same_key}
use Rattle.ft_model.specs.contracts.data.KeyPartialEq.TheImpl.{ghosts}
use Rattle.ft_model.specs.Members.{is_member, serial_at, AreMembers}
use Rattle.ft_model.proofs.KeyLemmas.{same_key-true, same_key-refl, same_key-from_kinds}

-- `==` of keys answers as `same_key`
pub same_keys : (a b : Key) → ghosts.eq a b ≡ same_key a b
same_keys = same_key-from_kinds ghosts.eq (λ x y. refl) (λ s t. refl) (λ x t. refl) (λ s y. refl)

-- two tests of keys that answer alike find the same in a table
pub lookup_same : {X : Type 0} → (test other : Key → Bool) → ((key : Key) → test key ≡ other key) → (entries : List (Key × X)) → lookup test entries ≡ lookup other entries
lookup_same test other same [] = refl
lookup_same {X} test other same (e ∷ es) = ap (λ b. cond b (Some e.1) (lookup test es)) (same e.0) ∙ ap (λ found. cond (other e.0) (Some e.1) found) (lookup_same test other same es)

none_from : {X : Type 0} → (found : Option X) → is_some found ≡ false → found ≡ None
none_from None h = refl
none_from (Some x) h = absurd (false≢true (sym h))

module _ {A : Type 0} (key : A → Key) where
  abbrev pub IsDistinct : List A → Type 0
  IsDistinct members = AllPairs (λ a b. key a ≢ key b) members

  pub distinct_tail : (x : A) (xs : List A) → IsDistinct (x ∷ xs) → IsDistinct xs
  distinct_tail x xs distinct = λ i j d lt low. distinct (suc i) (suc j) d (omega arith) (omega arith)

  pub differs_from_head : (x : A) (xs : List A) (i : ℕ) (d : A) → IsDistinct (x ∷ xs) → i < length xs → key x ≢ key (get_or xs i d)
  differs_from_head x xs i d distinct low = distinct 0 (suc i) d (omega arith) (omega arith)

  -- a key that differs from the wanted one
  pub is_other : (wanted other : Key) → (other ≢ wanted) → same_key other wanted ≡ false
  is_other wanted other differ =
      elim (same_key other wanted) as (λ b. same_key other wanted ≡ b → b ≡ false) [
        | true ↦ λ same. absurd (differ (same_key-true other wanted same))
        | false ↦ λ no. refl
      ] refl

  -- where no member has the key, none is found
  find_none : (wanted : Key) (xs : List A) → ((i : ℕ) (d : A) → i < length xs → key (get_or xs i d) ≢ wanted) → find (is_member key wanted) xs ≡ None
  find_none wanted [] all = refl
  find_none wanted (x ∷ xs) all =
      ap (λ b. cond b (Some x) (find (is_member key wanted) xs)) (is_other wanted (key x) (all 0 x (omega arith)))
      ∙ find_none wanted xs (λ i d low. all (suc i) d (omega arith))

  -- none of the members before one has its key
  pub absent_before : (xs : List A) (i : ℕ) (d : A) → i < length xs → IsDistinct xs → list_any (is_member key (key (get_or xs i d))) (take i xs) ≡ false
  absent_before xs i d low distinct =
      list_any_none (is_member key (key (get_or xs i d))) (take i xs) (λ k e within.
      let long : length (take i xs) ≡ i = length-take-le i xs (omega arith) in
      let before : k < i = omega arith in
      let same : key (get_or (take i xs) k e) ≡ key (get_or xs k d) = ap key (get_or-take i xs k e before ∙ get_or_default xs k e d (omega arith)) in
      is_other (key (get_or xs i d)) (key (get_or (take i xs) k e)) (λ equal. distinct k i d before low (sym same ∙ equal)))

  module _ (serial : A → ℕ) where
    pub serial_at-head_yes : (x : A) (xs : List A) (wanted : Key) → same_key (key x) wanted ≡ true → serial_at key serial (x ∷ xs) wanted ≡ Some (serial x)
    serial_at-head_yes x xs wanted h = ap (λ b. option_map serial (cond b (Some x) (find (is_member key wanted) xs))) h

    pub serial_at-head_no : (x : A) (xs : List A) (wanted : Key) → same_key (key x) wanted ≡ false → serial_at key serial (x ∷ xs) wanted ≡ serial_at key serial xs wanted
    serial_at-head_no x xs wanted h = ap (λ b. option_map serial (cond b (Some x) (find (is_member key wanted) xs))) h

    -- a new key has the serial of the member that is added
    pub serial_at-push : (xs : List A) (m : A) (wanted : Key) → list_any (is_member key (key m)) xs ≡ false → serial_at key serial (xs ++ m ∷ []) wanted ≡ cond (same_key (key m) wanted) (Some (serial m)) (serial_at key serial xs wanted)
    serial_at-push [] m wanted absent =
        elim (same_key (key m) wanted) as (λ b. same_key (key m) wanted ≡ b → serial_at key serial (m ∷ []) wanted ≡ cond b (Some (serial m)) None) [
          | true ↦ λ h. serial_at-head_yes m [] wanted h
          | false ↦ λ h. serial_at-head_no m [] wanted h
        ] refl
    serial_at-push (x ∷ xs) m wanted absent =
        elim (same_key (key x) wanted) as (λ b. same_key (key x) wanted ≡ b → serial_at key serial (x ∷ (xs ++ m ∷ [])) wanted ≡ cond (same_key (key m) wanted) (Some (serial m)) (serial_at key serial (x ∷ xs) wanted)) [
          | true ↦ λ h.
              let differ : key m ≢ wanted = λ same. false≢true (sym (or_parts _ _ absent).0 ∙ ap (λ k. same_key (key x) k) same ∙ h) in
              serial_at-head_yes x (xs ++ m ∷ []) wanted h ∙ sym (ap (λ b. cond b (Some (serial m)) (serial_at key serial (x ∷ xs) wanted)) (is_other wanted (key m) differ) ∙ serial_at-head_yes x xs wanted h)
          | false ↦ λ h.
              serial_at-head_no x (xs ++ m ∷ []) wanted h ∙ serial_at-push xs m wanted (or_parts _ _ absent).1 ∙ sym (ap (λ found. cond (same_key (key m) wanted) (Some (serial m)) found) (serial_at-head_no x xs wanted h))
        ] refl

    -- the key of the member that is taken out has no serial
    pub serial_at-remove : (xs : List A) (i : ℕ) (d : A) (wanted : Key) → IsDistinct xs → i < length xs → serial_at key serial (remove xs i) wanted ≡ cond (same_key (key (get_or xs i d)) wanted) None (serial_at key serial xs wanted)
    serial_at-remove [] i d wanted distinct low = absurd (omega arith)
    serial_at-remove (x ∷ xs) zero d wanted distinct low =
        elim (same_key (key x) wanted) as (λ b. same_key (key x) wanted ≡ b → serial_at key serial xs wanted ≡ cond b None (serial_at key serial (x ∷ xs) wanted)) [
          | true ↦ λ h. ap (option_map serial) (find_none wanted xs (λ i e within same. differs_from_head x xs i e distinct within (same_key-true _ _ h ∙ sym same)))
          | false ↦ λ h. sym (serial_at-head_no x xs wanted h)
        ] refl
    serial_at-remove (x ∷ xs) (suc i) d wanted distinct low =
        let within : i < length xs = omega arith in
        elim (same_key (key x) wanted) as (λ b. same_key (key x) wanted ≡ b → serial_at key serial (x ∷ remove xs i) wanted ≡ cond (same_key (key (get_or xs i d)) wanted) None (serial_at key serial (x ∷ xs) wanted)) [
          | true ↦ λ h.
              let differ : key (get_or xs i d) ≢ wanted = λ same. differs_from_head x xs i d distinct within (same_key-true _ _ h ∙ sym same) in
              serial_at-head_yes x (remove xs i) wanted h ∙ sym (ap (λ b. cond b None (serial_at key serial (x ∷ xs) wanted)) (is_other wanted (key (get_or xs i d)) differ) ∙ serial_at-head_yes x xs wanted h)
          | false ↦ λ h.
              serial_at-head_no x (remove xs i) wanted h ∙ serial_at-remove xs i d wanted (distinct_tail x xs distinct) within ∙ sym (ap (λ found. cond (same_key (key (get_or xs i d)) wanted) None found) (serial_at-head_no x xs wanted h))
        ] refl

    -- a member with the same key and serial changes nothing of what is found
    pub serial_at-set : (xs : List A) (i : ℕ) (m d : A) (wanted : Key) → i < length xs → key m ≡ key (get_or xs i d) → serial m ≡ serial (get_or xs i d) → serial_at key serial (set xs i m) wanted ≡ serial_at key serial xs wanted
    serial_at-set [] i m d wanted low same_k same_s = absurd (omega arith)
    serial_at-set (x ∷ xs) zero m d wanted low same_k same_s =
        elim (same_key (key x) wanted) as (λ b. same_key (key x) wanted ≡ b → serial_at key serial (m ∷ xs) wanted ≡ serial_at key serial (x ∷ xs) wanted) [
          | true ↦ λ h. serial_at-head_yes m xs wanted (ap (λ k. same_key k wanted) same_k ∙ h) ∙ ap Some same_s ∙ sym (serial_at-head_yes x xs wanted h)
          | false ↦ λ h. serial_at-head_no m xs wanted (ap (λ k. same_key k wanted) same_k ∙ h) ∙ sym (serial_at-head_no x xs wanted h)
        ] refl
    serial_at-set (x ∷ xs) (suc i) m d wanted low same_k same_s =
        elim (same_key (key x) wanted) as (λ b. same_key (key x) wanted ≡ b → serial_at key serial (x ∷ set xs i m) wanted ≡ serial_at key serial (x ∷ xs) wanted) [
          | true ↦ λ h. serial_at-head_yes x (set xs i m) wanted h ∙ sym (serial_at-head_yes x xs wanted h)
          | false ↦ λ h. serial_at-head_no x (set xs i m) wanted h ∙ serial_at-set xs i m d wanted (omega arith) same_k same_s ∙ sym (serial_at-head_no x xs wanted h)
        ] refl

    -- a member has the key exactly if a serial is found
    pub serial_at-some : (xs : List A) (wanted : Key) → is_some (serial_at key serial xs wanted) ≡ list_any (is_member key wanted) xs
    serial_at-some [] wanted = refl
    serial_at-some (x ∷ xs) wanted =
        elim (same_key (key x) wanted) as (λ b. same_key (key x) wanted ≡ b → is_some (serial_at key serial (x ∷ xs) wanted) ≡ b || list_any (is_member key wanted) xs) [
          | true ↦ λ h. ap is_some (serial_at-head_yes x xs wanted h)
          | false ↦ λ h. ap is_some (serial_at-head_no x xs wanted h) ∙ serial_at-some xs wanted
        ] refl

    -- the place of a member whose serial is found
    pub serial_at-found : (xs : List A) (wanted : Key) (s : ℕ) → serial_at key serial xs wanted ≡ Some s → (j : ℕ) × (j < length xs) × ((d : A) → (key (get_or xs j d) ≡ wanted) × (serial (get_or xs j d) ≡ s))
    serial_at-found [] wanted s found = absurd (let none : None ≡ Some s = found in cc)
    serial_at-found (x ∷ xs) wanted s found =
        elim (same_key (key x) wanted) as (λ b. same_key (key x) wanted ≡ b → (j : ℕ) × (j < length (x ∷ xs)) × ((d : A) → (key (get_or (x ∷ xs) j d) ≡ wanted) × (serial (get_or (x ∷ xs) j d) ≡ s))) [
          | true ↦ λ h.
              let is : Some (serial x) ≡ Some s = sym (serial_at-head_yes x xs wanted h) ∙ found in
              let same : serial x ≡ s = cc in
              (0, omega arith, λ d. (same_key-true _ _ h, same))
          | false ↦ λ h.
              let rest = serial_at-found xs wanted s (sym (serial_at-head_no x xs wanted h) ∙ found) in
              (suc rest.0, (let low : rest.0 < length xs = rest.1 in omega arith), rest.2)
        ] refl

    -- the first place that passes
    position_is : (xs : List A) (wanted : Key) (i : ℕ) (d : A) → i < length xs → ((k : ℕ) → k < i → is_member key wanted (get_or xs k d) ≡ false) → is_member key wanted (get_or xs i d) ≡ true → position (is_member key wanted) xs ≡ Some i
    position_is xs wanted i d low before at =
        let is : position_or_len (is_member key wanted) xs ≡ i = position_or_len_is (is_member key wanted) xs i d (omega arith) before (λ _. at) in
        ap (λ n. cond (nat_lt n (length xs)) (Some n) None) is ∙ ap (λ b. cond b (Some i) None) (lt-ltb i (length xs) low)

    -- where no member has the key, each has another
    absent_at : (xs : List A) (wanted : Key) → list_any (is_member key wanted) xs ≡ false → (k : ℕ) (d : A) → k < length xs → is_member key wanted (get_or xs k d) ≡ false
    absent_at [] wanted absent k d low = absurd (omega arith)
    absent_at (x ∷ xs) wanted absent zero d low = (or_parts _ _ absent).0
    absent_at (x ∷ xs) wanted absent (suc k) d low = absent_at xs wanted (or_parts _ _ absent).1 k d (omega arith)

    list_any_false : (xs : List A) (wanted : Key) → list_any (is_member key wanted) xs ≡ false → position (is_member key wanted) xs ≡ None
    list_any_false [] wanted absent = refl
    list_any_false (x ∷ rest) wanted absent =
        let xs : List A = x ∷ rest in
        let is : position_or_len (is_member key wanted) xs ≡ length xs = position_or_len_is (is_member key wanted) xs (length xs) x (omega arith) (λ k lt. absent_at xs wanted absent k x lt) (λ lt. absurd (omega arith)) in
        ap (λ n. cond (nat_lt n (length xs)) (Some n) None) is ∙ ap (λ b. cond b (Some (length xs)) None) (le-ltb (length xs) (length xs) (omega arith))

    -- where no serial is found, no member has the key
    pub position-none : (xs : List A) (wanted : Key) → serial_at key serial xs wanted ≡ None → position (is_member key wanted) xs ≡ None
    position-none xs wanted none =
        let absent : list_any (is_member key wanted) xs ≡ false = sym (serial_at-some xs wanted) ∙ ap is_some none in
        list_any_false xs wanted absent

    -- members stay so where one is added, taken out or put in place of one with its key and its serial
    pub AreMembers-push : (xs : List A) (m : A) → AreMembers key serial xs → list_any (is_member key (key m)) xs ≡ false → All (λ other. serial other < serial m) xs → AreMembers key serial (xs ++ m ∷ [])
    AreMembers-push xs m are absent last =
        record {
          distinct = all_pairs_push (λ a b. key a ≢ key b) xs m are.distinct (λ k d low same. false≢true (sym (absent_at xs (key m) absent k d low) ∙ (ap (λ x. same_key x (key m)) same ∙ same_key-refl (key m))));
          rising = all_pairs_push (λ a b. serial a < serial b) xs m are.rising last;
        }

    pub AreMembers-remove : (xs : List A) (i : ℕ) → i < length xs → AreMembers key serial xs → AreMembers key serial (remove xs i)
    AreMembers-remove xs i low are =
        record {
          distinct = all_pairs_remove (λ a b. key a ≢ key b) xs i low are.distinct;
          rising = all_pairs_remove (λ a b. serial a < serial b) xs i low are.rising;
        }

    -- a write at a place keeps at each place what it keeps at that one
    kept_at : {X : Type 0} (f : A → X) (xs : List A) (i k : ℕ) (m d : A) → i < length xs → f m ≡ f (get_or xs i m) → f (get_or (set xs i m) k d) ≡ f (get_or xs k d)
    kept_at f xs i k m d low is =
        elim (cases_eq k i) [
          | inl same ↦ ap (λ j. f (get_or (set xs i m) j d)) same ∙ ap f (get_or-set_same xs i m d low) ∙ is ∙ ap f (get_or_default xs i m d low) ∙ ap (λ j. f (get_or xs j d)) (sym same)
          | inr differ ↦ ap f (get_or-set_other xs i k m d differ)
        ]

    pub AreMembers-set : (xs : List A) (i : ℕ) (m : A) → i < length xs → key m ≡ key (get_or xs i m) → serial m ≡ serial (get_or xs i m) → AreMembers key serial xs → AreMembers key serial (set xs i m)
    AreMembers-set xs i m low same_k same_s are =
        let long : length (set xs i m) ≡ length xs = length-set xs i m in
        record {
          distinct = λ j k d lt within same. are.distinct j k d lt (omega arith) (sym (kept_at key xs i j m d low same_k) ∙ same ∙ kept_at key xs i k m d low same_k);
          rising = λ j k d lt within. rw (kept_at serial xs i j m d low same_s, kept_at serial xs i k m d low same_s) (are.rising j k d lt (omega arith));
        }

    -- ---- the table from keys to serials, whose test of keys answers as `same_key`
    module _ (eq : Key → Key → Bool) (same : (a b : Key) → eq a b ≡ same_key a b) where
      pub found_same : (entries : List (Key × ℕ)) (wanted : Key) → lookup (eq wanted) entries ≡ lookup (same_key wanted) entries
      found_same entries wanted = lookup_same (eq wanted) (same_key wanted) (same wanted) entries

      -- the serial of a member that is added is put at its key
      pub table-push : (old new : List (Key × ℕ)) (xs : List A) (m : A) (k : Key) (v : ℕ) → k ≡ key m → v ≡ serial m → ((q : Key) → lookup (eq q) new ≡ cond (eq k q) (Some v) (lookup (eq q) old)) → ((q : Key) → lookup (same_key q) old ≡ serial_at key serial xs q) → list_any (is_member key (key m)) xs ≡ false → (q : Key) → lookup (same_key q) new ≡ serial_at key serial (xs ++ m ∷ []) q
      table-push old new xs m k v is_k is_v put table absent q =
          sym (found_same new q) ∙ put q
          ∙ ap (λ b. cond b (Some v) (lookup (eq q) old)) (same k q ∙ ap (λ x. same_key x q) is_k)
          ∙ ap (λ n. cond (same_key (key m) q) (Some n) (lookup (eq q) old)) is_v
          ∙ ap (λ found. cond (same_key (key m) q) (Some (serial m)) found) (found_same old q ∙ table q)
          ∙ sym (serial_at-push xs m q absent)

      -- the serial of the member that is taken out goes
      pub table-remove : (old new : List (Key × ℕ)) (xs : List A) (i : ℕ) (d : A) (k : Key) → k ≡ key (get_or xs i d) → i < length xs → IsDistinct xs → ((q : Key) → lookup (eq q) new ≡ cond (eq k q) None (lookup (eq q) old)) → ((q : Key) → lookup (same_key q) old ≡ serial_at key serial xs q) → (q : Key) → lookup (same_key q) new ≡ serial_at key serial (remove xs i) q
      table-remove old new xs i d k is_k low distinct gone table q =
          sym (found_same new q) ∙ gone q
          ∙ ap (λ b. cond b None (lookup (eq q) old)) (same k q ∙ ap (λ x. same_key x q) is_k)
          ∙ ap (λ found. cond (same_key (key (get_or xs i d)) q) None found) (found_same old q ∙ table q)
          ∙ sym (serial_at-remove xs i d q distinct low)

      -- a serial that was put at a new key, and taken out again
      pub table-undone : (old between new : List (Key × ℕ)) (xs : List A) (k l : Key) (v : ℕ) → l ≡ k → ((q : Key) → lookup (eq q) between ≡ cond (eq k q) (Some v) (lookup (eq q) old)) → ((q : Key) → lookup (eq q) new ≡ cond (eq l q) None (lookup (eq q) between)) → ((q : Key) → lookup (same_key q) old ≡ serial_at key serial xs q) → list_any (is_member key k) xs ≡ false → (q : Key) → lookup (same_key q) new ≡ serial_at key serial xs q
      table-undone old between new xs k l v is put gone table absent q =
          sym (found_same new q) ∙ gone q ∙ ap (λ b. cond b None (lookup (eq q) between)) (same l q ∙ ap (λ x. same_key x q) is)
          ∙ elim (same_key k q) as (λ b. same_key k q ≡ b → cond b None (lookup (eq q) between) ≡ serial_at key serial xs q) [
            | true ↦ λ h. sym (none_from (serial_at key serial xs q) (serial_at-some xs q ∙ ap (λ x. list_any (is_member key x) xs) (sym (same_key-true _ _ h)) ∙ absent))
            | false ↦ λ h. put q ∙ ap (λ b. cond b (Some v) (lookup (eq q) old)) (same k q ∙ h) ∙ found_same old q ∙ table q
          ] refl

    -- ---- where the key stands, in terms of its place
    -- where no member passes, none is found
    none_at : (p : A → Bool) (xs : List A) → position p xs ≡ None → All (λ x. p x ≡ false) xs
    none_at p xs none k d low =
        elim (cases_lt (position_or_len p xs) (length xs)) [
          | inl lt ↦ absurd (let test : ltb (position_or_len p xs) (length xs) ≡ true = lt-ltb _ _ lt in let some : Some (position_or_len p xs) ≡ None = rw test at none in cc)
          | inr le ↦ fails_before_first p xs k d (omega arith)
        ]

    pub absent-none : (xs : List A) (wanted : Key) → position (is_member key wanted) xs ≡ None → list_any (is_member key wanted) xs ≡ false
    absent-none xs wanted none = list_any_none (is_member key wanted) xs (none_at (is_member key wanted) xs none)

    pub filter_all : (p : A → Bool) (xs : List A) → All (λ x. p x ≡ false) xs → filter (λ x. not (p x)) xs ≡ xs
    filter_all p [] all = refl
    filter_all p (x ∷ xs) all = ap (λ b. cond (not b) (x ∷ filter (λ x. not (p x)) xs) (filter (λ x. not (p x)) xs)) (all 0 x (omega arith)) ∙ ap (λ rest. x ∷ rest) (filter_all p xs (λ k d low. all (suc k) d (omega arith)))

    pub filter-none : (xs : List A) (wanted : Key) → position (is_member key wanted) xs ≡ None → filter (λ m. not (is_member key wanted m)) xs ≡ xs
    filter-none xs wanted none = filter_all (is_member key wanted) xs (none_at (is_member key wanted) xs none)

    find_first : (xs : List A) (wanted : Key) (i : ℕ) (d : A) → IsDistinct xs → i < length xs → key (get_or xs i d) ≡ wanted → find (is_member key wanted) xs ≡ Some (get_or xs i d)
    find_first [] wanted i d distinct low at = absurd (omega arith)
    find_first (x ∷ xs) wanted zero d distinct low at = ap (λ b. cond b (Some x) (find (is_member key wanted) xs)) (ap (λ k. same_key k wanted) at ∙ same_key-refl wanted)
    find_first (x ∷ xs) wanted (suc i) d distinct low at =
        let within : i < length xs = omega arith in
        ap (λ b. cond b (Some x) (find (is_member key wanted) xs)) (is_other wanted (key x) (λ same. differs_from_head x xs i d distinct within (same ∙ sym at)))
        ∙ find_first xs wanted i d (distinct_tail x xs distinct) within at

    pub filter_first : (xs : List A) (wanted : Key) (i : ℕ) (d : A) → IsDistinct xs → i < length xs → key (get_or xs i d) ≡ wanted → filter (λ m. not (is_member key wanted m)) xs ≡ remove xs i
    filter_first [] wanted i d distinct low at = absurd (omega arith)
    filter_first (x ∷ xs) wanted zero d distinct low at =
        ap (λ b. cond (not b) (x ∷ filter (λ m. not (is_member key wanted m)) xs) (filter (λ m. not (is_member key wanted m)) xs)) (ap (λ k. same_key k wanted) at ∙ same_key-refl wanted)
        ∙ filter_all (is_member key wanted) xs (λ k e within. is_other wanted (key (get_or xs k e)) (λ same. differs_from_head x xs k e distinct within (at ∙ sym same)))
    filter_first (x ∷ xs) wanted (suc i) d distinct low at =
        let within : i < length xs = omega arith in
        ap (λ b. cond (not b) (x ∷ filter (λ m. not (is_member key wanted m)) xs) (filter (λ m. not (is_member key wanted m)) xs)) (is_other wanted (key x) (λ same. differs_from_head x xs i d distinct within (same ∙ sym at)))
        ∙ ap (λ rest. x ∷ rest) (filter_first xs wanted i d (distinct_tail x xs distinct) within at)

    -- where a member is found, it stands at the first place that passes
    pub find-place : (xs : List A) (wanted : Key) (x : A) → AreMembers key serial xs → find (is_member key wanted) xs ≡ Some x → (i : ℕ) × (i < length xs) × (position (is_member key wanted) xs ≡ Some i) × (x ≡ get_or xs i x) × (key x ≡ wanted)
    find-place xs wanted x are found =
        let there = serial_at-found xs wanted (serial x) (ap (option_map serial) found) in
        let i : ℕ = there.0 in
        let low : i < length xs = there.1 in
        let at : (key (get_or xs i x) ≡ wanted) × (serial (get_or xs i x) ≡ serial x) = there.2 x in
        let both : Some x ≡ Some (get_or xs i x) = sym found ∙ find_first xs wanted i x are.distinct low at.0 in
        let same : x ≡ get_or xs i x = cc in
        (i, low, position_is xs wanted i x low (λ k lt. is_other wanted (key (get_or xs k x)) (λ equal. are.distinct k i x lt low (equal ∙ sym at.0))) (ap (λ k. same_key k wanted) at.0 ∙ same_key-refl wanted), same, ap key same ∙ at.0)

    -- where none is found, none passes
    pub find-no_place : (xs : List A) (wanted : Key) → find (is_member key wanted) xs ≡ None → position (is_member key wanted) xs ≡ None
    find-no_place xs wanted none = position-none xs wanted (ap (option_map serial) none)
