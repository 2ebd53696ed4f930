-- Members that stand at their serials: what a search comes to, and what is there after a change.
use Rattle.std.proofs.Common.{◌≡◌, ◌≢◌, ℕ, zero, suc, ◌+◌, ◌-◌, ◌==◌, ◌<◌, Bool, true, false, not, cond, List, [], ◌∷◌, ◌++◌, length, get_or, set, map, take, reverse, Option, Some, None, refl, sym, ap, subst, ◌∙◌, arith, inl, inr}
use Rattle.std.specs.Prelude.{◌&&◌, All, AllPairs, nat_lt, filter}
use Rattle.std.specs.List.{find, list_any, remove, slice_get}
use Rattle.std.specs.Ordering.{nat_cmp, is_eq, is_lt, is_le, match_ordering}
use Rattle.std.specs.declared.cmp.Ordering.TheVariants.{Less, Equal, Greater}
use Rattle.std.specs.Map.{keys_of, values_of, lookup, remove_entry}
use Rattle.std.specs.BTreeMap.{BTreeMap, values, is_at, insert_entry}
use Rattle.std.specs.HashMap.{HashMap}
use Rattle.std.proofs.lemmas.Bool.{cases_lt, or_from, lt-ltb, le-ltb, eq-eqb, ne_eqb}
use Rattle.std.proofs.lemmas.List.{reverse-append, length-map, length-reverse, get_or_append_left, length-append}
use Rattle.std.proofs.lemmas.List.Edits.{length-remove, get_or-remove_below, get_or-remove_above}
use mathlib.Core.List.{reverse-cons}
use Rattle.ft_model.specs.declared.data.Key.{Key}
use Rattle.ft_model.specs.Keys.{same_key}
use Rattle.ft_model.specs.Members.{is_member, serial_at, AreMembers, AreKept}
use Rattle.ft_model.proofs.KeyLemmas.{same_key-true, same_key-refl}
use Rattle.ft_model.proofs.MemberLemmas.{IsDistinct, distinct_tail, differs_from_head, is_other, serial_at-head_yes, serial_at-head_no, serial_at-found, serial_at-set, AreMembers-push, AreMembers-remove, AreMembers-set, filter_all, filter_first, table-remove}

-- ---- how serials compare
cmp_same : (a b : ℕ) → a ≡ b → nat_cmp a b ≡ Equal
cmp_same a b same = ap (λ t. cond t Less (cond (a == b) Equal Greater)) (le-ltb a b (omega arith)) ∙ ap (λ t. cond t Equal Greater) (eq-eqb a b same)

cmp_above : (a b : ℕ) → b < a → nat_cmp a b ≡ Greater
cmp_above a b lt = ap (λ t. cond t Less (cond (a == b) Equal Greater)) (le-ltb a b (omega arith)) ∙ ap (λ t. cond t Equal Greater) (ne_eqb a b (λ same. omega arith))

is_lt_cmp : (a b : ℕ) → is_lt (nat_cmp a b) ≡ nat_lt a b
is_lt_cmp a b =
    elim (nat_lt a b) as (λ t. is_lt (cond t Less (cond (a == b) Equal Greater)) ≡ t) [
      | true ↦ refl
      | false ↦ elim (a == b) as (λ t. is_lt (cond t Equal Greater) ≡ false) [ true ↦ refl | false ↦ refl ]
    ]

-- ---- lists
map-push : {X Y : Type 0} (f : X → Y) (xs : List X) (x : X) → map f (xs ++ x ∷ []) ≡ map f xs ++ f x ∷ []
map-push f [] x = refl
map-push f (y ∷ xs) x = ap (λ rest. f y ∷ rest) (map-push f xs x)

find-filter : {X : Type 0} (p : X → Bool) (xs : List X) → find p xs ≡ slice_get (filter p xs) 0
find-filter p [] = refl
find-filter p (x ∷ xs) =
    elim (p x) as (λ b. cond b (Some x) (find p xs) ≡ slice_get (cond b (x ∷ filter p xs) (filter p xs)) 0) [
      | true ↦ refl
      | false ↦ find-filter p xs
    ]

filter_same : {X : Type 0} (p q : X → Bool) → ((x : X) → p x ≡ q x) → (xs : List X) → filter p xs ≡ filter q xs
filter_same p q same [] = refl
filter_same p q same (x ∷ xs) = ap (λ b. cond b (x ∷ filter p xs) (filter p xs)) (same x) ∙ ap (λ rest. cond (q x) (x ∷ rest) rest) (filter_same p q same xs)

filter-push : {X : Type 0} (p : X → Bool) (xs : List X) (x : X) → filter p (xs ++ x ∷ []) ≡ cond (p x) (filter p xs ++ x ∷ []) (filter p xs)
filter-push p [] x = refl
filter-push p (y ∷ xs) x =
    ap (λ rest. cond (p y) (y ∷ rest) rest) (filter-push p xs x)
    ∙ elim (p y) as (λ b. cond b (y ∷ cond (p x) (filter p xs ++ x ∷ []) (filter p xs)) (cond (p x) (filter p xs ++ x ∷ []) (filter p xs)) ≡ cond (p x) (cond b (y ∷ filter p xs) (filter p xs) ++ x ∷ []) (cond b (y ∷ filter p xs) (filter p xs))) [
      | true ↦ elim (p x) as (λ b. y ∷ cond b (filter p xs ++ x ∷ []) (filter p xs) ≡ cond b (y ∷ filter p xs ++ x ∷ []) (y ∷ filter p xs)) [ true ↦ refl | false ↦ refl ]
      | false ↦ refl
    ]

filter-reverse : {X : Type 0} (p : X → Bool) (xs : List X) → filter p (reverse xs) ≡ reverse (filter p xs)
filter-reverse p [] = refl
filter-reverse p (x ∷ xs) =
    ap (filter p) (reverse-cons x xs) ∙ filter-push p (reverse xs) x
    ∙ ap (λ rest. cond (p x) (rest ++ x ∷ []) rest) (filter-reverse p xs)
    ∙ elim (p x) as (λ b. cond b (reverse (filter p xs) ++ x ∷ []) (reverse (filter p xs)) ≡ reverse (cond b (x ∷ filter p xs) (filter p xs))) [
      | true ↦ sym (reverse-cons x (filter p xs))
      | false ↦ refl
    ]

get_first_left : {X : Type 0} (xs ys : List X) → 0 < length xs → slice_get (xs ++ ys) 0 ≡ slice_get xs 0
get_first_left [] ys some = absurd (omega (arith, some))
get_first_left (x ∷ xs) ys some = refl

first_of_reverse : {X : Type 0} (xs : List X) → slice_get (reverse xs) 0 ≡ slice_get xs (length xs - 1)
first_of_reverse [] = refl
first_of_reverse (x ∷ []) = refl
first_of_reverse (x ∷ y ∷ rest) =
    let less : length (x ∷ y ∷ rest) - 1 ≡ suc (length (y ∷ rest) - 1) = omega arith in
    ap (λ l. slice_get l 0) (reverse-cons x (y ∷ rest))
    ∙ get_first_left (reverse (y ∷ rest)) (x ∷ []) (let long : length (reverse (y ∷ rest)) ≡ length (y ∷ rest) = length-reverse (y ∷ rest) in omega arith)
    ∙ first_of_reverse (y ∷ rest)
    ∙ sym (ap (slice_get (x ∷ y ∷ rest)) less)

pub find_true : {X : Type 0} (xs : List X) → find (λ x. true) xs ≡ slice_get xs 0
find_true [] = refl
find_true (x ∷ xs) = refl

pub find_last : {X : Type 0} (xs : List X) → find (λ x. true) (reverse xs) ≡ slice_get xs (length xs - 1)
find_last xs = find_true (reverse xs) ∙ first_of_reverse xs

pub get_last : {X : Type 0} (xs : List X) (x : X) → slice_get (xs ++ x ∷ []) (length (xs ++ x ∷ []) - 1) ≡ Some x
get_last xs x = sym (first_of_reverse (xs ++ x ∷ [])) ∙ ap (λ l. slice_get l 0) (reverse-append xs (x ∷ []))

pub take_but_last : {X : Type 0} (xs : List X) (x : X) → take (length (xs ++ x ∷ []) - 1) (xs ++ x ∷ []) ≡ xs
take_but_last [] x = refl
take_but_last (y ∷ xs) x =
    let long : length (xs ++ x ∷ []) ≡ length xs + 1 = length-append xs (x ∷ []) in
    let less : length (y ∷ (xs ++ x ∷ [])) - 1 ≡ suc (length (xs ++ x ∷ []) - 1) = omega arith in
    ap (λ n. take n (y ∷ (xs ++ x ∷ []))) less ∙ ap (λ l. y ∷ l) (take_but_last xs x)

pub take_is_remove : {X : Type 0} (xs : List X) → take (length xs - 1) xs ≡ remove xs (length xs - 1)
take_is_remove [] = refl
take_is_remove (x ∷ []) = refl
take_is_remove (x ∷ y ∷ rest) =
    let less : length (x ∷ y ∷ rest) - 1 ≡ suc (length (y ∷ rest) - 1) = omega arith in
    ap (λ n. take n (x ∷ y ∷ rest)) less ∙ ap (λ l. x ∷ l) (take_is_remove (y ∷ rest)) ∙ sym (ap (remove (x ∷ y ∷ rest)) less)

pub All-remove : {X : Type 0} → (P : X → Type 0) (xs : List X) (i : ℕ) → i < length xs → All P xs → All P (remove xs i)
All-remove P xs i low all = λ k d within.
    let long : length (remove xs i) + 1 ≡ length xs = length-remove xs i low in
    elim (cases_lt k i) [
      | inl lt ↦ rw (get_or-remove_below xs i d k lt low) (all k d (omega arith))
      | inr le ↦ rw (get_or-remove_above xs i d k le low) (all (k + 1) d (omega arith))
    ]

pub remove_last : {X : Type 0} (xs : List X) (x : X) → remove (xs ++ x ∷ []) (length xs) ≡ xs
remove_last [] x = refl
remove_last (y ∷ xs) x = ap (λ l. y ∷ l) (remove_last xs x)

pub at_end : {X : Type 0} (xs : List X) (x d : X) → get_or (xs ++ x ∷ []) (length xs) d ≡ x
at_end [] x d = refl
at_end (y ∷ xs) x d = at_end xs x d

pub values_at : {A : Type 0} (es : List (ℕ × A)) (i : ℕ) (e : ℕ × A) → slice_get es i ≡ Some e → slice_get (values_of es) i ≡ Some e.1
values_at [] i e at = absurd (let none : None ≡ Some e = at in cc)
values_at {A} (x ∷ es) zero e at = ap (λ (found : Option (ℕ × A)). slice_get (elim found as (λ _. List A) [ None ↦ [] | Some y ↦ y.1 ∷ [] ]) 0) at
values_at (x ∷ es) (suc i) e at = values_at es i e at

pub last_value : {A : Type 0} (es : List (ℕ × A)) (e : ℕ × A) → slice_get es (length es - 1) ≡ Some e → slice_get (values_of es) (length (values_of es) - 1) ≡ Some e.1
last_value es e at = rw (length-map es (λ e. e.1)) (values_at es (length es - 1) e at)

module _ {A : Type 0} (key : A → Key) (serial : A → ℕ) where
  -- each entry's number is its member's serial
  abbrev pub IsPlaced : List (ℕ × A) → Type 0
  IsPlaced es = keys_of es ≡ map serial (values_of es)

  placed_parts : (e : ℕ × A) (es : List (ℕ × A)) → IsPlaced (e ∷ es) → (e.0 ≡ serial e.1) × IsPlaced es
  placed_parts e es placed = let whole : e.0 ∷ keys_of es ≡ serial e.1 ∷ map serial (values_of es) = placed in (cc, cc)

  are_tail : (x : A) (xs : List A) → AreMembers key serial (x ∷ xs) → AreMembers key serial xs
  are_tail x xs are = record {
    distinct = distinct_tail key x xs are.distinct;
    rising = λ i j d lt low. are.rising (suc i) (suc j) d (omega arith) (omega arith);
  }

  -- the first member has the key, so the serial is its own
  here : (e : ℕ × A) (es : List (ℕ × A)) (wanted : Key) (s : ℕ) → IsPlaced (e ∷ es) → same_key (key e.1) wanted ≡ true → serial_at key serial (e.1 ∷ values_of es) wanted ≡ Some s → s ≡ e.0
  here e es wanted s placed h found =
      let is : Some (serial e.1) ≡ Some s = sym (serial_at-head_yes key serial e.1 (values_of es) wanted h) ∙ found in
      let same : serial e.1 ≡ s = cc in
      sym ((placed_parts e es placed).0 ∙ same)

  -- the first member has another key, so the serial is greater than its own
  later : (e : ℕ × A) (es : List (ℕ × A)) (wanted : Key) (s : ℕ) → IsPlaced (e ∷ es) → AreMembers key serial (e.1 ∷ values_of es) → same_key (key e.1) wanted ≡ false → serial_at key serial (e.1 ∷ values_of es) wanted ≡ Some s → (e.0 < s) × (serial_at key serial (values_of es) wanted ≡ Some s)
  later e es wanted s placed are h found =
      let rest : serial_at key serial (values_of es) wanted ≡ Some s = sym (serial_at-head_no key serial e.1 (values_of es) wanted h) ∙ found in
      let there = serial_at-found key serial (values_of es) wanted s rest in
      let low : there.0 < length (values_of es) = there.1 in
      let is : serial (get_or (values_of es) there.0 e.1) ≡ s = (there.2 e.1).1 in
      let rises : serial e.1 < serial (get_or (values_of es) there.0 e.1) = are.rising 0 (suc there.0) e.1 (omega arith) (omega arith) in
      let at : e.0 ≡ serial e.1 = (placed_parts e es placed).0 in
      (omega arith, rest)

  pub lookup-placed : (es : List (ℕ × A)) (wanted : Key) (s : ℕ) → IsPlaced es → AreMembers key serial (values_of es) → serial_at key serial (values_of es) wanted ≡ Some s → lookup (is_at (nat_cmp s)) es ≡ find (is_member key wanted) (values_of es)
  lookup-placed [] wanted s placed are found = absurd (let none : None ≡ Some s = found in cc)
  lookup-placed (e ∷ es) wanted s placed are found =
      elim (same_key (key e.1) wanted) as (λ b. same_key (key e.1) wanted ≡ b → lookup (is_at (nat_cmp s)) (e ∷ es) ≡ cond b (Some e.1) (find (is_member key wanted) (values_of es))) [
        | true ↦ λ h. ap (λ o. cond (is_eq o) (Some e.1) (lookup (is_at (nat_cmp s)) es)) (cmp_same s e.0 (here e es wanted s placed h found))
        | false ↦ λ h.
            let far = later e es wanted s placed are h found in
            ap (λ o. cond (is_eq o) (Some e.1) (lookup (is_at (nat_cmp s)) es)) (cmp_above s e.0 far.0)
            ∙ lookup-placed es wanted s (placed_parts e es placed).1 (are_tail e.1 (values_of es) are) far.1
      ] refl

  -- ---- one is added
  pub insert-last : (es : List (ℕ × A)) (s : ℕ) (m : A) → IsPlaced es → All (λ other. serial other < s) (values_of es) → insert_entry nat_cmp es s m ≡ es ++ (s, m) ∷ []
  insert-last [] s m placed last = refl
  insert-last (e ∷ es) s m placed last =
      let below : serial e.1 < s = last 0 e.1 (omega arith) in
      let at : e.0 ≡ serial e.1 = (placed_parts e es placed).0 in
      ap (λ o. match_ordering o ((s, m) ∷ e ∷ es) ((e.0, m) ∷ es) (e ∷ insert_entry nat_cmp es s m)) (cmp_above s e.0 (omega arith))
      ∙ ap (λ rest. e ∷ rest) (insert-last es s m (placed_parts e es placed).1 (λ k d low. last (suc k) d (omega arith)))

  pub values-last : (es : List (ℕ × A)) (s : ℕ) (m : A) → values_of (es ++ (s, m) ∷ []) ≡ values_of es ++ m ∷ []
  values-last es s m = map-push (λ (e : ℕ × A). e.1) es (s, m)

  pub IsPlaced-last : (es : List (ℕ × A)) (s : ℕ) (m : A) → IsPlaced es → s ≡ serial m → IsPlaced (es ++ (s, m) ∷ [])
  IsPlaced-last es s m placed is =
      map-push (λ (e : ℕ × A). e.0) es (s, m)
      ∙ ap (λ ns. ns ++ s ∷ []) placed ∙ ap (λ n. map serial (values_of es) ++ n ∷ []) is
      ∙ sym (ap (map serial) (values-last es s m) ∙ map-push serial (values_of es) m)

  -- ---- one is put in place of another
  abbrev pub with_member : A → List A → List A
  with_member m xs = map (λ other. cond (is_member key (key m) other) m other) xs

  with_none : (m : A) (xs : List A) → ((k : ℕ) (d : A) → k < length xs → key (get_or xs k d) ≢ key m) → with_member m xs ≡ xs
  with_none m [] none = refl
  with_none m (x ∷ xs) none =
      ap (λ b. cond b m x ∷ with_member m xs) (is_other key (key m) (key x) (none 0 x (omega arith)))
      ∙ ap (λ rest. x ∷ rest) (with_none m xs (λ k d low. none (suc k) d (omega arith)))

  others_differ : (m x : A) (xs : List A) → IsDistinct key (x ∷ xs) → key x ≡ key m → (k : ℕ) (d : A) → k < length xs → key (get_or xs k d) ≢ key m
  others_differ m x xs distinct same k d low equal = differs_from_head key x xs k d distinct low (same ∙ sym equal)

  pub with_member-set : (m : A) (xs : List A) (i : ℕ) (d : A) → IsDistinct key xs → i < length xs → key (get_or xs i d) ≡ key m → with_member m xs ≡ set xs i m
  with_member-set m [] i d distinct low at = absurd (omega (arith, low))
  with_member-set m (x ∷ xs) zero d distinct low at =
      ap (λ b. cond b m x ∷ with_member m xs) (ap (λ k. same_key k (key m)) at ∙ same_key-refl (key m))
      ∙ ap (λ rest. m ∷ rest) (with_none m xs (others_differ m x xs distinct at))
  with_member-set m (x ∷ xs) (suc i) d distinct low at =
      let within : i < length xs = omega arith in
      ap (λ b. cond b m x ∷ with_member m xs) (is_other key (key m) (key x) (λ same. differs_from_head key x xs i d distinct within (same ∙ sym at)))
      ∙ ap (λ rest. x ∷ rest) (with_member-set m xs i d (distinct_tail key x xs distinct) within at)

  pub insert-placed : (es : List (ℕ × A)) (s : ℕ) (m : A) → IsPlaced es → AreMembers key serial (values_of es) → serial_at key serial (values_of es) (key m) ≡ Some s → (values_of (insert_entry nat_cmp es s m) ≡ with_member m (values_of es)) × (keys_of (insert_entry nat_cmp es s m) ≡ keys_of es)
  insert-placed [] s m placed are found = absurd (let none : None ≡ Some s = found in cc)
  insert-placed (e ∷ es) s m placed are found =
      elim (same_key (key e.1) (key m)) as (λ b. same_key (key e.1) (key m) ≡ b → (values_of (insert_entry nat_cmp (e ∷ es) s m) ≡ cond b m e.1 ∷ with_member m (values_of es)) × (keys_of (insert_entry nat_cmp (e ∷ es) s m) ≡ e.0 ∷ keys_of es)) [
        | true ↦ λ h.
            let is : insert_entry nat_cmp (e ∷ es) s m ≡ (e.0, m) ∷ es = ap (λ o. match_ordering o ((s, m) ∷ e ∷ es) ((e.0, m) ∷ es) (e ∷ insert_entry nat_cmp es s m)) (cmp_same s e.0 (here e es (key m) s placed h found)) in
            let same = with_none m (values_of es) (others_differ m e.1 (values_of es) are.distinct (same_key-true _ _ h)) in
            (ap values_of is ∙ ap (λ rest. m ∷ rest) (sym same), ap keys_of is)
        | false ↦ λ h.
            let far = later e es (key m) s placed are h found in
            let is : insert_entry nat_cmp (e ∷ es) s m ≡ e ∷ insert_entry nat_cmp es s m = ap (λ o. match_ordering o ((s, m) ∷ e ∷ es) ((e.0, m) ∷ es) (e ∷ insert_entry nat_cmp es s m)) (cmp_above s e.0 far.0) in
            let rest = insert-placed es s m (placed_parts e es placed).1 (are_tail e.1 (values_of es) are) far.1 in
            (ap values_of is ∙ ap (λ l. e.1 ∷ l) rest.0, ap keys_of is ∙ ap (λ l. e.0 ∷ l) rest.1)
      ] refl

  -- ---- one is taken out
  pub remove-placed : (es : List (ℕ × A)) (wanted : Key) (s : ℕ) → IsPlaced es → AreMembers key serial (values_of es) → serial_at key serial (values_of es) wanted ≡ Some s → (values_of (remove_entry (is_at (nat_cmp s)) es) ≡ filter (λ m. not (is_member key wanted m)) (values_of es)) × IsPlaced (remove_entry (is_at (nat_cmp s)) es)
  remove-placed [] wanted s placed are found = absurd (let none : None ≡ Some s = found in cc)
  remove-placed (e ∷ es) wanted s placed are found =
      let parts = placed_parts e es placed in
      elim (same_key (key e.1) wanted) as (λ b. same_key (key e.1) wanted ≡ b → (values_of (remove_entry (is_at (nat_cmp s)) (e ∷ es)) ≡ cond (not b) (e.1 ∷ filter (λ m. not (is_member key wanted m)) (values_of es)) (filter (λ m. not (is_member key wanted m)) (values_of es))) × IsPlaced (remove_entry (is_at (nat_cmp s)) (e ∷ es))) [
        | true ↦ λ h.
            let is : remove_entry (is_at (nat_cmp s)) (e ∷ es) ≡ es = ap (λ o. cond (is_eq o) es (e ∷ remove_entry (is_at (nat_cmp s)) es)) (cmp_same s e.0 (here e es wanted s placed h found)) in
            let same = filter_all key serial (is_member key wanted) (values_of es) (λ k d low. is_other key wanted (key (get_or (values_of es) k d)) (λ equal. differs_from_head key e.1 (values_of es) k d are.distinct low (same_key-true _ _ h ∙ sym equal))) in
            (ap values_of is ∙ sym same, ap keys_of is ∙ parts.1 ∙ ap (λ l. map serial (values_of l)) (sym is))
        | false ↦ λ h.
            let far = later e es wanted s placed are h found in
            let is : remove_entry (is_at (nat_cmp s)) (e ∷ es) ≡ e ∷ remove_entry (is_at (nat_cmp s)) es = ap (λ o. cond (is_eq o) es (e ∷ remove_entry (is_at (nat_cmp s)) es)) (cmp_above s e.0 far.0) in
            let rest = remove-placed es wanted s parts.1 (are_tail e.1 (values_of es) are) far.1 in
            (ap values_of is ∙ ap (λ l. e.1 ∷ l) rest.0, ap keys_of is ∙ ap (λ n. n ∷ keys_of (remove_entry (is_at (nat_cmp s)) es)) parts.0 ∙ ap (λ l. serial e.1 ∷ l) rest.1 ∙ ap (λ l. map serial (values_of l)) (sym is))
      ] refl

  map-set : {X Y : Type 0} (f : X → Y) (xs : List X) (i : ℕ) (m : X) → i < length xs → f m ≡ f (get_or xs i m) → map f (set xs i m) ≡ map f xs
  map-set f [] i m low is = absurd (omega (arith, low))
  map-set f (x ∷ xs) zero m low is = ap (λ y. y ∷ map f xs) is
  map-set f (x ∷ xs) (suc i) m low is = ap (λ ys. f x ∷ ys) (map-set f xs i m (omega arith) is)

  placed_front : (es : List (ℕ × A)) (e : ℕ × A) → IsPlaced (es ++ e ∷ []) → IsPlaced es
  placed_front [] e placed = refl
  placed_front (x ∷ es) e placed =
      let parts = placed_parts x (es ++ e ∷ []) placed in
      ap (λ n. n ∷ keys_of es) parts.0 ∙ ap (λ ns. serial x.1 ∷ ns) (placed_front es e parts.1)

  -- ---- the members whose serials pass
  values-filter : (p : ℕ → Bool) (es : List (ℕ × A)) → IsPlaced es → values_of (filter (λ (e : ℕ × A). p e.0) es) ≡ filter (λ m. p (serial m)) (values_of es)
  values-filter p [] placed = refl
  values-filter p (e ∷ es) placed =
      let parts = placed_parts e es placed in
      let step : values_of (filter (λ (e : ℕ × A). p e.0) (e ∷ es)) ≡ cond (p e.0) (e.1 ∷ values_of (filter (λ (e : ℕ × A). p e.0) es)) (values_of (filter (λ (e : ℕ × A). p e.0) es)) = elim (p e.0) as (λ b. values_of (cond b (e ∷ filter (λ (e : ℕ × A). p e.0) es) (filter (λ (e : ℕ × A). p e.0) es)) ≡ cond b (e.1 ∷ values_of (filter (λ (e : ℕ × A). p e.0) es)) (values_of (filter (λ (e : ℕ × A). p e.0) es))) [ true ↦ refl | false ↦ refl ] in
      step ∙ ap (λ n. cond (p n) (e.1 ∷ values_of (filter (λ (e : ℕ × A). p e.0) es)) (values_of (filter (λ (e : ℕ × A). p e.0) es))) parts.0
      ∙ ap (λ l. cond (p (serial e.1)) (e.1 ∷ l) l) (values-filter p es parts.1)

  -- what the range of serials after one has
  pub after_values : (es : List (ℕ × A)) (last : ℕ) → IsPlaced es → values_of (filter (λ (e : ℕ × A). is_lt (nat_cmp last e.0) && true) es) ≡ filter (λ m. nat_lt last (serial m)) (values_of es)
  after_values es last placed =
      values-filter (λ n. is_lt (nat_cmp last n) && true) es placed
      ∙ filter_same (λ m. is_lt (nat_cmp last (serial m)) && true) (λ m. nat_lt last (serial m)) (λ m. ap (λ b. b && true) (is_lt_cmp last (serial m)) ∙ elim (nat_lt last (serial m)) as (λ b. b && true ≡ b) [ true ↦ refl | false ↦ refl ]) (values_of es)

  pub find-after : (es between : List (ℕ × A)) (last : ℕ) → IsPlaced es → between ≡ filter (λ (e : ℕ × A). is_lt (nat_cmp last e.0) && true) es → find (λ m. nat_lt last (serial m)) (values_of es) ≡ slice_get (values_of between) 0
  find-after es between last placed is =
      find-filter (λ m. nat_lt last (serial m)) (values_of es) ∙ ap (λ l. slice_get l 0) (sym (ap values_of is ∙ after_values es last placed))

  not_le_cmp : (a b : ℕ) → not (is_le (nat_cmp a b)) ≡ nat_lt b a
  not_le_cmp a b = elim (cases_lt b a) [
    | inl lt ↦ ap (λ o. not (is_le o)) (cmp_above a b lt) ∙ sym (lt-ltb b a lt)
    | inr le ↦ elim (cases_lt a b) [
      | inl lt ↦ ap (λ t. not (is_le (cond t Less (cond (a == b) Equal Greater)))) (lt-ltb a b lt) ∙ sym (le-ltb b a le)
      | inr ge ↦ ap (λ o. not (is_le o)) (cmp_same a b (omega arith)) ∙ sym (le-ltb b a le)
    ]
  ]

  -- what the range of serials before one has, from its end
  pub find-before : (es between rest : List (ℕ × A)) (last : ℕ) (e : ℕ × A) → IsPlaced es → between ≡ filter (λ (e : ℕ × A). true && not (is_le (nat_cmp last e.0))) es → between ≡ rest ++ e ∷ [] → find (λ m. nat_lt (serial m) last) (reverse (values_of es)) ≡ Some e.1
  find-before es between rest last e placed is ends =
      let kept : values_of between ≡ filter (λ m. nat_lt (serial m) last) (values_of es) = ap values_of is ∙ values-filter (λ n. true && not (is_le (nat_cmp last n))) es placed ∙ filter_same (λ m. true && not (is_le (nat_cmp last (serial m)))) (λ m. nat_lt (serial m) last) (λ m. not_le_cmp last (serial m)) (values_of es) in
      find-filter (λ m. nat_lt (serial m) last) (reverse (values_of es))
      ∙ ap (λ l. slice_get l 0) (filter-reverse (λ m. nat_lt (serial m) last) (values_of es) ∙ ap reverse (sym kept ∙ ap values_of ends ∙ values-last rest e.0 e.1) ∙ reverse-append (values_of rest) (e.1 ∷ []))

  pub find-none_before : (es between : List (ℕ × A)) (last : ℕ) → IsPlaced es → between ≡ filter (λ (e : ℕ × A). true && not (is_le (nat_cmp last e.0))) es → between ≡ [] → find (λ m. nat_lt (serial m) last) (reverse (values_of es)) ≡ None
  find-none_before es between last placed is none =
      let kept : values_of between ≡ filter (λ m. nat_lt (serial m) last) (values_of es) = ap values_of is ∙ values-filter (λ n. true && not (is_le (nat_cmp last n))) es placed ∙ filter_same (λ m. true && not (is_le (nat_cmp last (serial m)))) (λ m. nat_lt (serial m) last) (λ m. not_le_cmp last (serial m)) (values_of es) in
      find-filter (λ m. nat_lt (serial m) last) (reverse (values_of es))
      ∙ ap (λ l. slice_get l 0) (filter-reverse (λ m. nat_lt (serial m) last) (values_of es) ∙ ap reverse (sym kept ∙ ap values_of none))

  -- ---- the first of some members, of which the next is added
  at_split : (xs ys : List A) (m d : A) → get_or (xs ++ m ∷ ys) (length xs) d ≡ m
  at_split [] ys m d = refl
  at_split (x ∷ xs) ys m d = at_split xs ys m d

  pub absent_split : (xs ys : List A) (m : A) → IsDistinct key (xs ++ m ∷ ys) → list_any (is_member key (key m)) xs ≡ false
  absent_split [] ys m distinct = refl
  absent_split (x ∷ xs) ys m distinct =
      let long : length (xs ++ m ∷ ys) ≡ length xs + length (m ∷ ys) = length-append xs (m ∷ ys) in
      or_from _ _ (is_other key (key m) (key x) (λ same. distinct 0 (suc (length xs)) m (omega arith) (omega arith) (same ∙ ap key (sym (at_split xs ys m m)))))
      (absent_split xs ys m (distinct_tail key x (xs ++ m ∷ ys) distinct))

  pub below_split : (xs ys : List A) (m : A) → AllPairs (λ a b. serial a < serial b) (xs ++ m ∷ ys) → All (λ other. serial other < serial m) xs
  below_split xs ys m rising = λ k d low.
      let long : length (xs ++ m ∷ ys) ≡ length xs + length (m ∷ ys) = length-append xs (m ∷ ys) in
      let rises : serial (get_or (xs ++ m ∷ ys) k d) < serial (get_or (xs ++ m ∷ ys) (length xs) d) = rising k (length xs) d low (omega arith) in
      let left : serial (get_or (xs ++ m ∷ ys) k d) ≡ serial (get_or xs k d) = ap serial (get_or_append_left xs (m ∷ ys) d k low) in
      let last : serial (get_or (xs ++ m ∷ ys) (length xs) d) ≡ serial m = ap serial (at_split xs ys m d) in
      omega arith

  -- ---- what is kept, after a change
  module _ {S : Type 0} where
    pub kept-push : (old new : BTreeMap ℕ A) (table more : HashMap Key ℕ S) (m : A) (s : ℕ) → AreKept key serial old table → s ≡ serial m → list_any (is_member key (key m)) (values old) ≡ false → All (λ other. serial other < serial m) (values old)
        → new.entries ≡ insert_entry nat_cmp old.entries s m → ((q : Key) → lookup (same_key q) more.entries ≡ serial_at key serial (values old ++ m ∷ []) q) → AreKept key serial new more × (values new ≡ values old ++ m ∷ [])
    kept-push old new table more m s kept is absent last put found =
        let entries : new.entries ≡ old.entries ++ (s, m) ∷ [] = put ∙ insert-last old.entries s m kept.placed (rw is last) in
        let same : values new ≡ values old ++ m ∷ [] = ap values_of entries ∙ values-last old.entries s m in (
          record {
            are = rw same (AreMembers-push key serial (values old) m kept.are absent last);
            placed = rw entries (IsPlaced-last old.entries s m kept.placed is);
            found = λ q. found q ∙ ap (λ xs. serial_at key serial xs q) (sym same);
          },
          same,
        )

    pub kept-put : (old new : BTreeMap ℕ A) (table : HashMap Key ℕ S) (m : A) (s : ℕ) → AreKept key serial old table → s ≡ serial m → serial_at key serial (values old) (key m) ≡ Some (serial m) → new.entries ≡ insert_entry nat_cmp old.entries s m → AreKept key serial new table × (values new ≡ with_member m (values old))
    kept-put old new table m s kept is found put =
        let here = insert-placed old.entries s m kept.placed kept.are (found ∙ ap Some (sym is)) in
        let same : values new ≡ with_member m (values old) = ap values_of put ∙ here.0 in
        let there = serial_at-found key serial (values old) (key m) (serial m) found in
        let i : ℕ = there.0 in
        let low : i < length (values old) = there.1 in
        let at = there.2 m in
        let written : values new ≡ set (values old) i m = same ∙ with_member-set m (values old) i m kept.are.distinct low at.0 in (
          record {
            are = rw written (AreMembers-set key serial (values old) i m low (sym at.0) (sym at.1) kept.are);
            placed = ap keys_of put ∙ here.1 ∙ kept.placed ∙ sym (ap (map serial) written ∙ map-set serial (values old) i m low (sym at.1));
            found = λ q. kept.found q ∙ sym (ap (λ xs. serial_at key serial xs q) written ∙ serial_at-set key serial (values old) i m m q low (sym at.0) (sym at.1));
          },
          same,
        )

    module _ (eq : Key → Key → Bool) (same_eq : (a b : Key) → eq a b ≡ same_key a b) where
      pub kept-remove : (old new : BTreeMap ℕ A) (table less : HashMap Key ℕ S) (wanted : Key) (s : ℕ) → AreKept key serial old table → serial_at key serial (values old) wanted ≡ Some s → new.entries ≡ remove_entry (is_at (nat_cmp s)) old.entries
          → ((q : Key) → lookup (eq q) less.entries ≡ cond (eq wanted q) None (lookup (eq q) table.entries)) → AreKept key serial new less × (values new ≡ filter (λ m. not (is_member key wanted m)) (values old))
      kept-remove old new table less wanted s kept found gone_member gone =
          let here = remove-placed old.entries wanted s kept.placed kept.are found in
          let same : values new ≡ filter (λ m. not (is_member key wanted m)) (values old) = ap values_of gone_member ∙ here.0 in
          let there = serial_at-found key serial (values old) wanted s found in
          elim (values old) as (λ xs. values old ≡ xs → AreKept key serial new less × (values new ≡ filter (λ m. not (is_member key wanted m)) (values old))) [
            | [] ↦ λ none. absurd (let no : None ≡ Some s = rw none at found in cc)
            | d ∷ rest ↦ λ some.
                let i : ℕ = there.0 in
                let low : i < length (values old) = there.1 in
                let at = there.2 d in
                let removed : values new ≡ remove (values old) i = same ∙ filter_first key serial (values old) wanted i d kept.are.distinct low at.0 in (
                  record {
                    are = rw removed (AreMembers-remove key serial (values old) i low kept.are);
                    placed = rw gone_member here.1;
                    found = λ q. table-remove key serial eq same_eq table.entries less.entries (values old) i d wanted (sym at.0) low kept.are.distinct gone kept.found q ∙ ap (λ xs. serial_at key serial xs q) (sym removed);
                  },
                  same,
                )
          ] refl

      pub kept-first : (old new : BTreeMap ℕ A) (table less : HashMap Key ℕ S) (e : ℕ × A) (k : Key) → AreKept key serial old table → old.entries ≡ e ∷ new.entries → k ≡ key e.1
          → ((q : Key) → lookup (eq q) less.entries ≡ cond (eq k q) None (lookup (eq q) table.entries)) → AreKept key serial new less
      kept-first old new table less e k kept first is gone =
          let all : values old ≡ e.1 ∷ values new = ap values_of first in
          let are : AreMembers key serial (e.1 ∷ values new) = rw (sym all) kept.are in
          record {
            are = are_tail e.1 (values new) are;
            placed = (placed_parts e new.entries (subst IsPlaced first kept.placed)).1;
            found = λ q. table-remove key serial eq same_eq table.entries less.entries (e.1 ∷ values new) 0 e.1 k is (omega arith) are.distinct gone (λ q. kept.found q ∙ ap (λ xs. serial_at key serial xs q) all) q;
          }

      pub kept-last : (old new : BTreeMap ℕ A) (table less : HashMap Key ℕ S) (e : ℕ × A) (k : Key) → AreKept key serial old table → old.entries ≡ new.entries ++ e ∷ [] → k ≡ key e.1
          → ((q : Key) → lookup (eq q) less.entries ≡ cond (eq k q) None (lookup (eq q) table.entries)) → AreKept key serial new less
      kept-last old new table less e k kept last is gone =
          let all : values old ≡ values new ++ e.1 ∷ [] = ap values_of last ∙ values-last new.entries e.0 e.1 in
          let are : AreMembers key serial (values new ++ e.1 ∷ []) = rw (sym all) kept.are in
          let long : length (values new ++ e.1 ∷ []) ≡ length (values new) + 1 = length-append (values new) (e.1 ∷ []) in
          let rest : remove (values new ++ e.1 ∷ []) (length (values new)) ≡ values new = remove_last (values new) e.1 in
          record {
            are = subst (AreMembers key serial) rest (AreMembers-remove key serial (values new ++ e.1 ∷ []) (length (values new)) (omega arith) are);
            placed = placed_front new.entries e (subst IsPlaced last kept.placed);
            found = λ q. table-remove key serial eq same_eq table.entries less.entries (values new ++ e.1 ∷ []) (length (values new)) e.1 k (is ∙ ap key (sym (at_end (values new) e.1 e.1))) (omega arith) are.distinct gone (λ q. kept.found q ∙ ap (λ xs. serial_at key serial xs q) all) q ∙ ap (λ xs. serial_at key serial xs q) rest;
          }
