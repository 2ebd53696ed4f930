-- Which entries are live after one is added, changed or deleted, and which pairs or elements that makes.
use Rattle.std.proofs.Common.{◌≡◌, ◌≢◌, ℕ, zero, suc, ◌+◌, ◌<◌, Bool, true, false, List, [], ◌∷◌, ◌++◌, length, get_or, set, take, drop, map, filter, None, refl, sym, ap, ◌∙◌, arith, rules}
use Rattle.std.specs.Prelude.{AllPairs, IsTrue, remove, slice_set, slice_index_or, pos}
use Rattle.std.proofs.lemmas.List.{map_push, map-append, map-set, length-map, get_or-map, take-map, drop-map, take-take, get_or-take, length-take-le}
use Rattle.std.proofs.lemmas.List.Kept.{AllPairs-filter}
use Rattle.std.proofs.lemmas.List.Elements.{filter-append, filter_passes}
use Rattle.ft_model.specs.declared.data.Key.TheVariants.{Int}
use Rattle.ft_layout.specs.Tables.{UsedEntry, is_live}

-- ---- a list of which some are kept

module _ {X : Type 0} (p : X → Bool) where
  -- how many are kept of the first
  abbrev pub rank : List X → ℕ → ℕ
  rank xs i = length (filter p (take i xs))

  -- an element that is kept has its rank as its place
  pub filter-at : (xs : List X) (i : ℕ) (d : X) → i < length xs → p (get_or xs i d) ≡ true → (rank xs i < length (filter p xs)) × (get_or (filter p xs) (rank xs i) d ≡ get_or xs i d)
  filter-at [] i d low kept = absurd (omega arith)
  filter-at (x ∷ xs) zero d low kept = rw kept (omega arith, refl)
  filter-at (x ∷ xs) (suc i) d low kept =
      let rest = filter-at xs i d (omega arith) kept in
      elim (p x) as (λ b. p x ≡ b → (rank (x ∷ xs) (suc i) < length (filter p (x ∷ xs))) × (get_or (filter p (x ∷ xs)) (rank (x ∷ xs) (suc i)) d ≡ get_or xs i d)) [
        | true ↦ λ yes. rw yes (omega (arith, rest.0), rest.1)
        | false ↦ λ no. rw no rest
      ] refl

  -- one in place of one, both kept
  pub filter-set_kept : (xs : List X) (i : ℕ) (y d : X) → i < length xs → p (get_or xs i d) ≡ true → p y ≡ true → filter p (set xs i y) ≡ set (filter p xs) (rank xs i) y
  filter-set_kept [] i y d low old new = absurd (omega arith)
  filter-set_kept (x ∷ xs) zero y d low old new = rw (old, new) refl
  filter-set_kept (x ∷ xs) (suc i) y d low old new =
      let rest = filter-set_kept xs i y d (omega arith) old new in
      elim (p x) as (λ b. p x ≡ b → filter p (x ∷ set xs i y) ≡ set (filter p (x ∷ xs)) (rank (x ∷ xs) (suc i)) y) [
        | true ↦ λ yes. rw yes (ap (λ (zs : List X). x ∷ zs) rest)
        | false ↦ λ no. rw no rest
      ] refl

  -- one that isn't kept in place of one that was
  pub filter-set_dropped : (xs : List X) (i : ℕ) (y d : X) → i < length xs → p (get_or xs i d) ≡ true → p y ≡ false → filter p (set xs i y) ≡ remove (filter p xs) (rank xs i)
  filter-set_dropped [] i y d low old new = absurd (omega arith)
  filter-set_dropped (x ∷ xs) zero y d low old new = rw (old, new) refl
  filter-set_dropped (x ∷ xs) (suc i) y d low old new =
      let rest = filter-set_dropped xs i y d (omega arith) old new in
      elim (p x) as (λ b. p x ≡ b → filter p (x ∷ set xs i y) ≡ remove (filter p (x ∷ xs)) (rank (x ∷ xs) (suc i))) [
        | true ↦ λ yes. rw yes (ap (λ (zs : List X). x ∷ zs) rest)
        | false ↦ λ no. rw no rest
      ] refl

  -- a kept element has a lower rank than those after it
  rank_rises : (xs : List X) (i j : ℕ) (d : X) → i < j → j < length xs → p (get_or xs i d) ≡ true → rank xs i < rank xs j
  rank_rises xs i j d less low kept =
      let same : get_or (take j xs) i d ≡ get_or xs i d = get_or-take j xs i d less in
      let at = filter-at (take j xs) i d (omega (arith, length-take-le j xs (omega arith))) (ap p same ∙ kept) in
      let short : take i (take j xs) ≡ take i xs = take-take i j xs (omega arith) in
      omega (arith, at.0, ap (λ (ys : List X). length (filter p ys)) short)

-- ---- the first and the last that are kept

module _ {X : Type 0} (p : X → Bool) where
  filter-none : (xs : List X) → ((j : ℕ) (d : X) → j < length xs → p (get_or xs j d) ≡ false) → filter p xs ≡ []
  filter-none [] none = refl
  filter-none (x ∷ xs) none = rw (none 0 x (omega arith)) (filter-none xs (λ j d low. none (suc j) d (omega arith)))

  -- where none is kept before
  pub rank-first : (xs : List X) (i : ℕ) → i < length xs → ((j : ℕ) (d : X) → j < i → p (get_or xs j d) ≡ false) → rank p xs i ≡ 0
  rank-first [] i low none = absurd (omega arith)
  rank-first (x ∷ xs) zero low none = refl
  rank-first (x ∷ xs) (suc i) low none = rw (none 0 x (omega arith)) (rank-first xs i (omega arith) (λ j d less. none (suc j) d (omega arith)))

  -- where none is kept after
  pub rank-last : (xs : List X) (i : ℕ) (d : X) → i < length xs → p (get_or xs i d) ≡ true → ((j : ℕ) (e : X) → i < j → j < length xs → p (get_or xs j e) ≡ false) → length (filter p xs) ≡ rank p xs i + 1
  rank-last [] i d low kept none = absurd (omega arith)
  rank-last (x ∷ xs) zero d low kept none = rw (kept, filter-none xs (λ j e less. none (suc j) e (omega arith) (omega arith))) refl
  rank-last (x ∷ xs) (suc i) d low kept none =
      let rest = rank-last xs i d (omega arith) kept (λ j e more less. none (suc j) e (omega arith) (omega arith)) in
      elim (p x) as (λ b. p x ≡ b → length (filter p (x ∷ xs)) ≡ rank p (x ∷ xs) (suc i) + 1) [
        | true ↦ λ yes. rw yes (omega (arith, rest))
        | false ↦ λ no. rw no rest
      ] refl

-- ---- keys of live entries differ, said of each two entries and of the live ones

abbrev pub Differ : UsedEntry → UsedEntry → Type 0
Differ a b = IsTrue (is_live a) → IsTrue (is_live b) → a.key ≢ b.key

pub distinct-live : (used : List UsedEntry) → AllPairs Differ used → AllPairs (λ a b. a.key ≢ b.key) (filter is_live used)
distinct-live used all i j d less low =
    let live = filter_passes is_live used in
    AllPairs-filter Differ is_live used all i j d less low (search (rules, live i d (omega arith))) (search (rules, live j d low))

pub distinct-used : (used : List UsedEntry) → AllPairs (λ a b. a.key ≢ b.key) (filter is_live used) → AllPairs Differ used
distinct-used used all i j any less low first second =
    let yes : is_live (get_or used i any) ≡ true = search (rules, first) in
    let too : is_live (get_or used j any) ≡ true = search (rules, second) in
    let a = filter-at is_live used i any (omega arith) yes in
    let b = filter-at is_live used j any low too in
    let ne = all (rank is_live used i) (rank is_live used j) any (rank_rises is_live used i j any less low yes) b.0 in
    λ (same : (get_or used i any).key ≡ (get_or used j any).key). ne (ap (λ (u : UsedEntry). u.key) a.1 ∙ (same ∙ sym (ap (λ (u : UsedEntry). u.key) b.1)))

-- ---- what the live entries stand for: `of` is `used_pair` or `used_element`

-- Where `of` makes used entries of pairs, or of elements, and the live ones are those: the entry at the place is that
-- of pair number k. With another pair's entry there, pair number k is that one; with a deleted entry there, it is gone.
pub record IsKth {Y : Type 0} (of : Y → UsedEntry) (used : List UsedEntry) (place : ℕ) (pairs : List Y) (k : ℕ)
    : Type 0 where
  pub low : k < length pairs
  pub before : k ≡ length (filter is_live (take place used))
  pub is : (pair : Y) (any : UsedEntry) → of (slice_index_or pairs k pair) ≡ slice_index_or used place any
  pub changed : (pair : Y) → filter is_live (slice_set used place (of pair)) ≡ map of (slice_set pairs k pair)
  pub deleted : (gone : UsedEntry) → is_live gone ≡ false
      → filter is_live (slice_set used place gone) ≡ map of (remove pairs k)

module _ {Y : Type 0} (of : Y → UsedEntry) (there : (y : Y) → is_live (of y) ≡ true) (used : List UsedEntry) (ys : List Y) (live : filter is_live used ≡ map of ys) where
  long : length (filter is_live used) ≡ length ys
  long = ap length live ∙ length-map ys of

  live-low : (place : ℕ) (any : UsedEntry) → place < length used → is_live (get_or used place any) ≡ true → rank is_live used place < length ys
  live-low place any low is = let at = filter-at is_live used place any low is in omega (arith, at.0, long)

  -- the entry is that of the one at its rank
  live-is : (place : ℕ) (any : UsedEntry) (d : Y) → place < length used → is_live (get_or used place any) ≡ true → of (get_or ys (rank is_live used place) d) ≡ get_or used place any
  live-is place any d low is =
      let at = filter-at is_live used place any low is in
      sym (get_or-map of ys (rank is_live used place) d any (live-low place any low is)) ∙ (ap (λ (us : List UsedEntry). get_or us (rank is_live used place) any) (sym live) ∙ at.1)

  pub live-added : (y : Y) → filter is_live (used ++ of y ∷ []) ≡ map of (ys ++ y ∷ [])
  live-added y = filter-append is_live used (of y ∷ []) ∙ (ap (λ (us : List UsedEntry). us ++ filter is_live (of y ∷ [])) live ∙ (rw (there y) (sym (map_push of ys y))))

  live-changed : (place : ℕ) (any : UsedEntry) (y : Y) → place < length used → is_live (get_or used place any) ≡ true → filter is_live (set used place (of y)) ≡ map of (set ys (rank is_live used place) y)
  live-changed place any y low is = filter-set_kept is_live used place (of y) any low is (there y) ∙ (ap (λ (us : List UsedEntry). set us (rank is_live used place) (of y)) live ∙ sym (map-set of ys (rank is_live used place) y))

  live-deleted : (place : ℕ) (any gone : UsedEntry) → place < length used → is_live (get_or used place any) ≡ true → is_live gone ≡ false → filter is_live (set used place gone) ≡ map of (remove ys (rank is_live used place))
  live-deleted place any gone low is dead =
      let k = rank is_live used place in
      filter-set_dropped is_live used place gone any low is dead
      ∙ (ap (λ (us : List UsedEntry). remove us k) live
      ∙ (ap (λ (us : List UsedEntry). us ++ drop (suc k) (map of ys)) (take-map of k ys)
      ∙ (ap (λ (us : List UsedEntry). map of (take k ys) ++ us) (drop-map of (suc k) ys)
      ∙ sym (map-append of (take k ys) (drop (suc k) ys)))))

  nobody : UsedEntry
  nobody = record { key = Int (pos 0); serial = 0; stored = None }

  -- what each live entry stands for
  pub live-stands : (place : ℕ) → place < length used → ((any : UsedEntry) → IsTrue (is_live (get_or used place any))) → (k : ℕ) × IsKth of used place ys k
  live-stands place low is =
      let yes : (any : UsedEntry) → is_live (get_or used place any) ≡ true = λ any. search (rules, is any) in (
        rank is_live used place,
        record {
          low = live-low place nobody low (yes nobody);
          before = refl;
          is = λ y any. live-is place any y low (yes any);
          changed = λ y. live-changed place (of y) y low (yes (of y));
          deleted = λ gone dead. live-deleted place gone gone low (yes gone) dead;
        },
      )
