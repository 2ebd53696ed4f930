-- The tables of a class, counted by where they are.
use Rattle.std.proofs.Common.{◌≡◌, ◌≢◌, ℕ, zero, suc, eqb, ◌+◌, ◌*◌, ◌%◌, ◌<◌, ◌≤◌, cond, List, [], ◌∷◌, refl, sym, ap, ◌∙◌, arith}
use mathlib.Core.Option.{some}
use mathlib.Core.Logic.{dite}
use native.Mathlib.Decide.{ℕ_discrete}
use lib.ListN.{get_elem?}
use Rattle.ft_model.specs.Classes.{IsClass}
use Rattle.ft_trace.specs.declared.Shape.{Shape}
use Rattle.ft_trace.specs.declared.View.{View}
use Rattle.ft_trace.specs.Acts.{stage}
use Rattle.ft_trace.specs.Addresses.{IsTableName, bits, block, class_of, number_of, container_count, tables_in, free_bit_of, free_word_of}
use Rattle.ft_trace.specs.Ages.{age, whose}
use Rattle.ft_trace.specs.Sums.{sum_to}
use Rattle.ft_trace.specs.Entries.{total}
use Rattle.ft_trace.specs.TableCounts.{names_class, is_in_hand, is_retired, current_tables, tables_in_hand, retired_tables, TablesAddUp}
use Rattle.ft_trace.specs.Traces.{Event, run, word, Valid}
use Rattle.ft_trace.proofs.Addresses.{class_of_number, table_is}
use Rattle.ft_trace.proofs.Announcing.{fits}
use Rattle.ft_trace.proofs.Bits.{bit_small}
use Rattle.ft_trace.proofs.Cases.{miss, here}
use Rattle.ft_trace.proofs.Counts.{sum_same, sum_one, of_class, bit_of, set_bits}
use Rattle.ft_trace.proofs.Hands.{handed}
use Rattle.ft_trace.proofs.Ones.{words_are}
use Rattle.ft_trace.proofs.TablePlaces.{root, root_table, placed, keeper}
use Rattle.ft_trace.proofs.Totals.{total_alone}

-- ---- sums

sum_plus : (f g : ℕ → ℕ) (n : ℕ) → sum_to (λ i. f i + g i) n ≡ sum_to f n + sum_to g n
sum_plus f g zero = refl
sum_plus f g (suc n) = let a = sum_plus f g n in omega (arith, a)

sum_none : (f : ℕ → ℕ) (n : ℕ) → ((i : ℕ) → i < n → f i ≡ 0) → sum_to f n ≡ 0
sum_none f zero none = refl
sum_none f (suc n) none = let a = none n (omega arith) in let b = sum_none f n (λ i low. none i (omega arith)) in omega (arith, a, b)

sum_each : (f : ℕ → ℕ) (n : ℕ) → ((i : ℕ) → i < n → f i ≡ 1) → sum_to f n ≡ n
sum_each f zero one = refl
sum_each f (suc n) one = let a = one n (omega arith) in let b = sum_each f n (λ i low. one i (omega arith)) in omega (arith, a, b)

-- where all others are 0
sum_alone : (f : ℕ → ℕ) (n j : ℕ) → j < n → ((i : ℕ) → i < n → i ≢ j → f i ≡ 0) → sum_to f n ≡ f j
sum_alone f n j low none =
    let a = sum_one f (λ i. 0) n j low none in
    let b = sum_none (λ i. 0) n (λ i less. refl) in
    omega (arith, a, b)

-- the order of two sums
sum_turned : (f : ℕ → ℕ → ℕ) (n m : ℕ) → sum_to (λ i. sum_to (f i) m) n ≡ sum_to (λ j. sum_to (λ i. f i j) n) m
sum_turned f zero m = sym (sum_none (λ j. 0) m (λ j low. refl))
sum_turned f (suc n) m = let a = sum_turned f n m in let b = sum_plus (f n) (λ j. sum_to (λ i. f i j) n) m in omega (arith, a, b)

total_turned : (f : ℕ → View → ℕ) (n : ℕ) (l : List View) → sum_to (λ i. total (f i) l) n ≡ total (λ (u : View). sum_to (λ i. f i u) n) l
total_turned f n [] = sum_none (λ i. 0) n (λ i low. refl)
total_turned f n (x ∷ xs) = let a = total_turned f n xs in let b = sum_plus (λ i. f i x) (λ i. total (f i) xs) n in omega (arith, a, b)

total_none : (f : View → ℕ) (l : List View) → ((j : ℕ) (u : View) → get_elem? l j ≡ some u → f u ≡ 0) → total f l ≡ 0
total_none f [] none = refl
total_none f (x ∷ xs) none = let a : f x ≡ 0 = none 0 x refl in let b = total_none f xs (λ j u at. none (suc j) u at) in omega (arith, a, b)

-- ---- one table

-- 1 where the root word names the table
abbrev is_root : ℕ → ℕ → ℕ
is_root t root = cond (eqb root (suc t)) 1 0

not_in_hand : (n : ℕ) → n ≢ 1 → n ≢ 3 → is_in_hand n ≡ 0
not_in_hand n a b = miss n 1 1 (cond (eqb n 3) 1 0) a ∙ miss n 3 1 0 b

module _ (k : Shape) (es : List Event) (valid : Valid k es) (t : ℕ) (table : IsTableName k t) where
  abbrev G : ℕ
  G = age es t % 5

  abbrev F : ℕ
  F = bit_of k es t

  abbrev C : ℕ
  C = sum_to (λ o. is_root t (root k es o)) (container_count k)

  abbrev H : ℕ
  H = total (λ (u : View). is_in_hand (stage t u.log)) (run k es).views

  abbrev R : ℕ
  R = is_retired (age es t)

  small : F < 2
  small = bit_small (free_bit_of t) (word k es (bits (free_word_of t)))

  no_bit : G ≢ 0 → F ≡ 0
  no_bit ne = let s = small in let one : F ≢ 1 = λ b. ne ((placed k es valid t table).free_is b) in omega (arith, s, one)

  no_root : G ≢ 2 → C ≡ 0
  no_root ne = sum_none (λ o. is_root t (root k es o)) (container_count k) (λ o low. miss (root k es o) (suc t) 1 0 (λ names. ne ((placed k es valid t table).roots o low names).0))

  one_root : G ≡ 2 → C ≡ 1
  one_root two =
      let p = placed k es valid t table in
      let c = p.current two in
      sum_alone (λ o. is_root t (root k es o)) (container_count k) (whose es t) c.0 (λ o low apart. miss (root k es o) (suc t) 1 0 (λ names. apart (sym (p.roots o low names).1)))
      ∙ here (root k es (whose es t)) (suc t) 1 0 c.1

  other_hand : (j : ℕ) (u : View) → get_elem? (run k es).views j ≡ some u → (stage t u.log ≢ 0 → (G ≢ 1) × (G ≢ 3)) → is_in_hand (stage t u.log) ≡ 0
  other_hand j u at never =
      dite (ℕ_discrete (stage t u.log) 0)
      (λ (z : stage t u.log ≡ 0). not_in_hand (stage t u.log) (λ e. omega (arith, z, e)) (λ e. omega (arith, z, e)))
      (λ some_one.
      let is = ((placed k es valid t table).hands j u at some_one).0 in
      let n = never some_one in
      not_in_hand (stage t u.log) (λ e. n.0 (is ∙ e)) (λ e. n.1 (is ∙ e)))

  no_hand : G ≢ 1 → G ≢ 3 → H ≡ 0
  no_hand a b = total_none (λ (u : View). is_in_hand (stage t u.log)) (run k es).views (λ j u at. other_hand j u at (λ _. (a, b)))

  one_hand : G ≢ 0 → G ≢ 2 → G ≢ 4 → (is_in_hand G ≡ 1) → H ≡ 1
  one_hand a b c is =
      let h = handed k es valid t table a b c in
      total_alone (λ (u : View). is_in_hand (stage t u.log)) (run k es).views (keeper es t) h.by h.at
      (λ j u apart at. other_else j u apart at)
      ∙ (ap is_in_hand h.has ∙ is)
    where
      other_else : (j : ℕ) (u : View) → j ≢ keeper es t → get_elem? (run k es).views j ≡ some u → is_in_hand (stage t u.log) ≡ 0
      other_else j u apart at = other_hand j u at (λ some_one. absurd (apart (sym ((placed k es valid t table).hands j u at some_one).1)))

  pub one_place : F + C + H + R ≡ 1
  one_place =
      dite (ℕ_discrete G 0)
      (λ (z : G ≡ 0).
      let f = (placed k es valid t table).is_free z in
      let c = no_root (λ e. omega (arith, z, e)) in
      let h = no_hand (λ e. omega (arith, z, e)) (λ e. omega (arith, z, e)) in
      let r : R ≡ 0 = miss G 4 1 0 (λ e. omega (arith, z, e)) in
      omega (arith, f, c, h, r))
      (λ used.
      let f = no_bit used in
      dite (ℕ_discrete G 2)
      (λ (two : G ≡ 2).
      let c = one_root two in
      let h = no_hand (λ e. omega (arith, two, e)) (λ e. omega (arith, two, e)) in
      let r : R ≡ 0 = miss G 4 1 0 (λ e. omega (arith, two, e)) in
      omega (arith, f, c, h, r))
      (λ out.
      let c = no_root out in
      dite (ℕ_discrete G 4)
      (λ (four : G ≡ 4).
      let h = no_hand (λ e. omega (arith, four, e)) (λ e. omega (arith, four, e)) in
      let r : R ≡ 1 = here G 4 1 0 four in
      omega (arith, f, c, h, r))
      (λ kept.
      let r : R ≡ 0 = miss G 4 1 0 kept in
      let mine : is_in_hand G ≡ 1 =
      dite (ℕ_discrete G 1)
      (λ (e : G ≡ 1). here G 1 1 (cond (eqb G 3) 1 0) e)
      (λ ne. miss G 1 1 (cond (eqb G 3) 1 0) ne ∙ here G 3 1 0 (omega (arith, used, out, kept, ne))) in
      let h = one_hand used out kept mine in
      omega (arith, f, c, h, r))))

-- ---- a class

module _ (k : Shape) (es : List Event) (valid : Valid k es) (c : ℕ) (low : IsClass c) where
  abbrev N : ℕ
  N = tables_in k c

  abbrev T : ℕ → ℕ
  T i = 65536 * c + i

  few : N ≤ 1024
  few = (fits k es valid).tables c low

  table_at : (i : ℕ) → i < N → IsTableName k (T i)
  table_at i less = of_class k c i few low less

  class_at : (i : ℕ) → i < N → class_of (T i) ≡ c
  class_at i less = let s = few in class_of_number c i (omega (arith, s, less))

  -- a root names one table of the class, or none
  root_named : (r : ℕ) → ((t : ℕ) → r ≡ suc t → IsTableName k t) → sum_to (λ i. is_root (T i) r) N ≡ names_class c r
  root_named zero tables = sum_none (λ i. is_root (T i) 0) N (λ i less. miss 0 (suc (T i)) 1 0 (λ e. omega (arith, e)))
  root_named (suc t) tables =
      let table = tables t refl in
      dite (ℕ_discrete (class_of t) c)
      (λ (e : class_of t ≡ c).
      let number = table.1 in
      let count : tables_in k (class_of t) ≡ N = ap (tables_in k) e in
      let is : T (number_of t) ≡ t = ap (λ (z : ℕ). 65536 * z + number_of t) (sym e) ∙ table_is t in
      sum_alone (λ i. is_root (T i) (suc t)) N (number_of t) (omega (arith, number, count)) (λ i less apart. miss (suc t) (suc (T i)) 1 0 (λ z. apart (omega (arith, z, is))))
      ∙ (here (suc t) (suc (T (number_of t))) 1 0 (ap suc (sym is)) ∙ sym (here (class_of t) c 1 0 e)))
      (λ ne.
      sum_none (λ i. is_root (T i) (suc t)) N (λ i less. miss (suc t) (suc (T i)) 1 0 (λ z. ne (ap class_of (let y : t ≡ T i = omega (arith, z) in y) ∙ class_at i less)))
      ∙ sym (miss (class_of t) c 1 0 ne))

  pub add_up : set_bits k es c + sum_to (λ o. names_class c (word k es (block o 0))) (container_count k) + total (λ (u : View). sum_to (λ i. is_in_hand (stage (T i) u.log)) N) (run k es).views + sum_to (λ i. is_retired (age es (T i))) N ≡ N
  add_up =
      let F : ℕ → ℕ = λ i. bit_of k es (T i) in
      let C : ℕ → ℕ = λ i. sum_to (λ o. is_root (T i) (root k es o)) (container_count k) in
      let H : ℕ → ℕ = λ i. total (λ (u : View). is_in_hand (stage (T i) u.log)) (run k es).views in
      let R : ℕ → ℕ = λ i. is_retired (age es (T i)) in
      let all : sum_to (λ i. F i + C i + H i + R i) N ≡ N = sum_each (λ i. F i + C i + H i + R i) N (λ i less. one_place k es valid (T i) (table_at i less)) in
      let a = sum_plus (λ i. F i + C i + H i) R N in
      let b = sum_plus (λ i. F i + C i) H N in
      let d = sum_plus F C N in
      let roots : sum_to C N ≡ sum_to (λ o. sum_to (λ i. is_root (T i) (root k es o)) N) (container_count k) = sum_turned (λ i o. is_root (T i) (root k es o)) N (container_count k) in
      let named : sum_to (λ o. sum_to (λ i. is_root (T i) (root k es o)) N) (container_count k) ≡ sum_to (λ o. names_class c (word k es (block o 0))) (container_count k) = sum_same (λ o. sum_to (λ i. is_root (T i) (root k es o)) N) (λ o. names_class c (word k es (block o 0))) (container_count k) (λ o less. root_named (root k es o) (λ t names. root_table k es valid o less t names)) in
      let hands : sum_to H N ≡ total (λ (u : View). sum_to (λ i. is_in_hand (stage (T i) u.log)) N) (run k es).views = total_turned (λ i u. is_in_hand (stage (T i) u.log)) N (run k es).views in
      omega (arith, all, a, b, d, roots, named, hands)

pub tables_add_up : TablesAddUp
tables_add_up k es valid c low = ap (λ (z : ℕ). z + current_tables k es c + total (tables_in_hand k c) (run k es).views + retired_tables k es c) (words_are k es valid c low) ∙ add_up k es valid c low
