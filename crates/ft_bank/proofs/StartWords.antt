-- The words of a bank at its start, one after the other.
use Rattle.std.proofs.Common.{◌≡◌, ℕ, true, zero, suc, ◌+◌, ◌-◌, ◌^◌, ◌<◌, ◌≤◌, Bool, List, [], ◌∷◌, ◌++◌, cond, length, refl, sym, ap, ◌∙◌, arith, ltb, append-nil, length-append}
use Rattle.std.specs.Prelude.{◌*◌, ◌/◌, ◌%◌, ◌&&◌, slice_index, min, replicate}
use Rattle.std.proofs.Math.Decide.{dec_lt}
use Rattle.std.proofs.Math.Nat.{pow-suc, min-eq_left, min-eq_right}
use Rattle.std.proofs.lemmas.Bool.{lt-ltb, le-ltb}
use Rattle.std.proofs.lemmas.List.{length-map, length-replicate}
use Rattle.std.proofs.lemmas.List.Elements.{All-map, All-weaker}
use mathlib.Core.Logic.{dite}
use Rattle.ft_model.specs.Landed.{is_landed_kind, is_landed_start}
use Rattle.ft_model.specs.Worlds.{start_as}
use Rattle.ft_layout.specs.Starts.{bank_size}
use Rattle.ft_trace.specs.declared.Shape.{Shape as Plan}
use Rattle.ft_trace.specs.Addresses.{free_counts, free_bits, free_words, least, heap_first, first_word, listed, sizes_of, heap_words, heap_from, far, extent}
use Rattle.ft_layout.specs.Starts.{heap_start}
use Rattle.ft_trace.specs.Traces.{Fits}
use Rattle.ft_trace.proofs.Addresses.{heap_zero, heap_is, far_is, far_low}
use Rattle.ft_bank.specs.declared.shape.Shape.{Shape}
use Rattle.ft_bank.specs.Shapes.{plan, IsShape}
use Rattle.ft_trace.specs.Bits.{full}

pub snoc_over : (xs rest : List ℕ) (x : ℕ) → (xs ++ x ∷ []) ++ rest ≡ xs ++ x ∷ rest
snoc_over [] rest x = refl
snoc_over (y ∷ xs) rest x = ap (λ l. y ∷ l) (snoc_over xs rest x)

pub counts_next : (tables : List ℕ) (i : ℕ) → i < 14 → free_counts tables (3 + i) (14 - i) ≡ slice_index tables i ∷ free_counts tables (3 + (i + 1)) (14 - (i + 1))
counts_next tables i low =
    let e : 14 - i ≡ suc (14 - (i + 1)) = omega arith in
    let c : 3 + i - 3 ≡ i = omega arith in
    let n : suc (3 + i) ≡ 3 + (i + 1) = omega arith in
    ap (free_counts tables (3 + i)) e ∙ (λ d. slice_index tables (c d) ∷ free_counts tables (n d) (14 - (i + 1)))

pub words_next : (tables : List ℕ) (w : ℕ) → w < 224 → free_words tables w (224 - w) ≡ free_bits tables w ∷ free_words tables (w + 1) (224 - (w + 1))
words_next tables w low =
    let e : 224 - w ≡ suc (224 - (w + 1)) = omega arith in
    let n : suc w ≡ w + 1 = omega arith in
    ap (free_words tables w) e ∙ (λ d. free_bits tables w ∷ free_words tables (n d) (224 - (w + 1)))

pub full_is : (n : ℕ) → full n + 1 ≡ 2 ^ n
full_is zero = refl
full_is (suc n) = let h = full_is n in let p = pow-suc 2 n in omega (arith, h, p)

pub over : (xs ys zs : List ℕ) → (xs ++ ys) ++ zs ≡ xs ++ (ys ++ zs)
over [] ys zs = refl
over (x ∷ xs) ys zs = ap (λ l. x ∷ l) (over xs ys zs)

-- the parts in their order
pub in_order : (a b c d : List ℕ) → ((((0 ∷ 1 ∷ []) ++ a) ++ b) ++ c) ++ d ≡ 0 ∷ 1 ∷ (a ++ (b ++ (c ++ d)))
in_order a b c d = over (((0 ∷ 1 ∷ []) ++ a) ++ b) c d ∙ (over ((0 ∷ 1 ∷ []) ++ a) b (c ++ d) ∙ over (0 ∷ 1 ∷ []) a (b ++ (c ++ d)))

pub least_is : (a : ℕ) → min a 64 ≡ least (ltb a 64) a
least_is a = dite (dec_lt a 64) (λ less. min-eq_left (omega arith) ∙ sym (ap (λ (b : Bool). least b a) (lt-ltb a 64 less))) (λ no. min-eq_right (omega arith) ∙ sym (ap (λ (b : Bool). least b a) (le-ltb a 64 (omega arith))))

-- how many words the bank has
pub size_is : (k : Plan) → bank_size (sizes_of k) ≡ extent k
unfolding far heap_from heap_words extent
size_is k = omega arith

-- as many words come before the first block
pub before_blocks : (k : Plan) → 304 ≤ extent k
unfolding far heap_from heap_words extent
before_blocks k = omega arith

-- a bank of this shape may be
pub fits_of : (s : Shape) → IsShape s → Fits (plan s)
fits_of s is = record {
  some_pass = is.passes.0;
  passes = is.passes.1;
  landed = All-map (λ start. is_landed_start start ≡ true) start_as s.kinds.items (All-weaker (λ kind. is_landed_kind kind ≡ true) (λ kind. is_landed_start (start_as kind) ≡ true) (λ kind landed. ap (λ (b : Bool). b && true) landed) s.kinds.items is.landed);
  heap = (let h = is.heap in (h.1, h.2));
  containers = (let m = length-map s.kinds.items start_as in let c = is.containers in omega (arith, m, c));
  tables = λ c class. (is.tables.counts (c - 3) 0 (let n = is.tables.classes in let a = class.least in let b = class.greatest in omega (arith, n, a, b))).1;
}

-- after the last word they are all
pub words_end : (xs tables : List ℕ) (w : ℕ) (all : List ℕ) → w ≡ 224 → xs ++ free_words tables w (224 - w) ≡ all → xs ≡ all
words_end xs tables w all e h = sym (append-nil xs) ∙ (ap (λ (z : ℕ). xs ++ free_words tables z (224 - z)) (sym e) ∙ h)

-- ---- heaps

-- where the first heap begins, and where the heaps end
pub heaps_from : (k : Plan) → heap_start (length k.starts) k.heap 0 ≡ heap_from k 0
unfolding heap_from heap_words
heaps_from k = omega arith

pub heaps_long : (k : Plan) → heap_start (length k.starts) k.heap k.passes - heap_start (length k.starts) k.heap 0 ≡ k.passes * heap_words k
unfolding heap_words
heaps_long k = omega arith

pub heap_long : (k : Plan) → k.heap / 64 + 4 * k.heap ≡ heap_words k
unfolding heap_words
heap_long k = refl

-- the words of all heaps
abbrev pub heaps_word : Plan → ℕ → ℕ
heaps_word k i = heap_first k (i % heap_words k)

pub listed_next : (f : ℕ → ℕ) (i n : ℕ) → i < n → listed f i (n - i) ≡ f i ∷ listed f (i + 1) (n - (i + 1))
listed_next f i n low =
    let e : n - i ≡ suc (n - (i + 1)) = omega arith in
    let s : suc i ≡ i + 1 = omega arith in
    ap (listed f i) e ∙ (λ d. f i ∷ listed f (s d) (n - (i + 1)))

-- after the last one they are all
pub listed_none : (f : ℕ → ℕ) (xs : List ℕ) (i n : ℕ) (all : List ℕ) → n ≤ i → xs ++ listed f i (n - i) ≡ all → xs ≡ all
listed_none f xs i n all end h = let e : n - i ≡ 0 = omega arith in sym (append-nil xs) ∙ (ap (λ (z : ℕ). xs ++ listed f i z) (sym e) ∙ h)

listed_over : (f : ℕ → ℕ) (a m n : ℕ) → listed f a (m + n) ≡ listed f a m ++ listed f (a + m) n
listed_over f a zero n = let z : zero + n ≡ n = omega arith in let e : a ≡ a + zero = omega arith in ap (listed f a) z ∙ ap (λ (x : ℕ). listed f x n) e
listed_over f a (suc m) n = let z : suc m + n ≡ suc (m + n) = omega arith in let e : suc a + m ≡ a + suc m = omega arith in ap (listed f a) z ∙ ap (λ (l : List ℕ). f a ∷ l) (listed_over f (suc a) m n ∙ ap (λ (z : ℕ). listed f (suc a) m ++ listed f z n) e)

listed_same : (f g : ℕ → ℕ) (a b n : ℕ) → ((i : ℕ) → i < n → f (a + i) ≡ g (b + i)) → listed f a n ≡ listed g b n
listed_same f g a b zero same = refl
listed_same f g a b (suc n) same =
    let x : a + 0 ≡ a = omega arith in
    let y : b + 0 ≡ b = omega arith in
    let first : f a ≡ g b = sym (ap f x) ∙ (same 0 (omega arith) ∙ ap g y) in
    let rest = listed_same f g (suc a) (suc b) n (λ i low. let p : suc a + i ≡ a + suc i = omega arith in let q : b + suc i ≡ suc b + i = omega arith in ap f p ∙ (same (suc i) (omega (arith, low)) ∙ ap g q)) in
    λ d. first d ∷ rest d

listed_zero : (f : ℕ → ℕ) (a n : ℕ) → ((i : ℕ) → i < n → f (a + i) ≡ 0) → listed f a n ≡ replicate n 0
listed_zero f a zero none = refl
listed_zero f a (suc n) none =
    let x : a + 0 ≡ a = omega arith in
    let first : f a ≡ 0 = sym (ap f x) ∙ none 0 (omega arith) in
    let rest = listed_zero f (suc a) n (λ i low. let p : suc a + i ≡ a + suc i = omega arith in ap f p ∙ none (suc i) (omega (arith, low))) in
    λ d. first d ∷ rest d

pub listed_long : (f : ℕ → ℕ) (a n : ℕ) → length (listed f a n) ≡ n
listed_long f a zero = refl
listed_long f a (suc n) = ap suc (listed_long f (suc a) n)

module _ (k : Plan) where
  abbrev pub all_heaps : ℕ
  all_heaps = k.passes * heap_words k

  far_heaps : far k ≡ heap_from k 0 + all_heaps
  far_heaps = far_is k ∙ heap_is k k.passes

  below : (i : ℕ) → i < heap_from k 0 → first_word k i ≡ 0
  below i low = ap (λ (b : Bool). cond b 0 (cond (ltb i (far k)) (heap_first k ((i - heap_from k 0) % heap_words k)) 0)) (lt-ltb i (heap_from k 0) low)

  within : (i : ℕ) → i < all_heaps → first_word k (heap_from k 0 + i) ≡ heaps_word k i
  within i low =
      let at : ℕ = heap_from k 0 + i in
      let less : at < far k = (let f = far_heaps in omega (arith, f, low)) in
      let e : at - heap_from k 0 ≡ i = omega arith in
      ap (λ (b : Bool). cond b 0 (cond (ltb at (far k)) (heap_first k ((at - heap_from k 0) % heap_words k)) 0)) (le-ltb at (heap_from k 0) (omega arith))
      ∙ (ap (λ (b : Bool). cond b (heap_first k ((at - heap_from k 0) % heap_words k)) 0) (lt-ltb at (far k) less)
      ∙ ap (heaps_word k) e)

  above : (i : ℕ) → far k ≤ i → first_word k i ≡ 0
  above i up =
      let f = far_heaps in
      ap (λ (b : Bool). cond b 0 (cond (ltb i (far k)) (heap_first k ((i - heap_from k 0) % heap_words k)) 0)) (le-ltb i (heap_from k 0) (omega (arith, up, f)))
      ∙ ap (λ (b : Bool). cond b (heap_first k ((i - heap_from k 0) % heap_words k)) 0) (le-ltb i (far k) up)

  -- zeros of the blocks, the heaps, and zeros of the tables
  rest_is : replicate (heap_from k 0 - 304) 0 ++ (listed (heaps_word k) 0 all_heaps ++ replicate (extent k - far k) 0) ≡ listed (first_word k) 304 (extent k - 304)
  rest_is =
      let z = heap_zero k in
      let f = far_heaps in
      let l = far_low k in
      let m : ℕ = heap_from k 0 - 304 in
      let n : ℕ = extent k - far k in
      let e : extent k - 304 ≡ m + (all_heaps + n) = omega (arith, z, f, l) in
      let from : 304 + m ≡ heap_from k 0 = omega (arith, z) in
      let a : listed (first_word k) 304 m ≡ replicate m 0 = listed_zero (first_word k) 304 m (λ i low. below (304 + i) (omega (arith, z, low))) in
      let b : listed (first_word k) (heap_from k 0) all_heaps ≡ listed (heaps_word k) 0 all_heaps = listed_same (first_word k) (heaps_word k) (heap_from k 0) 0 all_heaps (λ i low. within i low ∙ ap (heaps_word k) (let e : i ≡ 0 + i = omega arith in e)) in
      let c : listed (first_word k) (heap_from k 0 + all_heaps) n ≡ replicate n 0 = listed_zero (first_word k) (heap_from k 0 + all_heaps) n (λ i low. above (heap_from k 0 + all_heaps + i) (omega (arith, f))) in
      sym
      (ap (listed (first_word k) 304) e
      ∙ (listed_over (first_word k) 304 m (all_heaps + n)
      ∙ (ap (λ (x : ℕ). listed (first_word k) 304 m ++ listed (first_word k) x (all_heaps + n)) from
      ∙ (ap (λ (x : List ℕ). listed (first_word k) 304 m ++ x) (listed_over (first_word k) (heap_from k 0) all_heaps n)
      ∙ (λ d. a d ++ (b d ++ c d))))))

  abbrev pub with_heaps : List ℕ → List ℕ
  with_heaps front = (front ++ replicate (heap_from k 0 - length front) 0) ++ listed (heaps_word k) 0 all_heaps

  -- all that comes before the tables
  pub front_long : (front : List ℕ) → length front ≡ 304 → length (with_heaps front) ≡ far k
  front_long front long =
      let zeros = replicate (heap_from k 0 - length front) 0 in
      let a = length-append (front ++ zeros) (listed (heaps_word k) 0 all_heaps) in
      let b = length-append front zeros in
      let c = length-replicate {A = ℕ} (heap_from k 0 - length front) 0 in
      let d = listed_long (heaps_word k) 0 all_heaps in
      let f = far_heaps in
      let z = heap_zero k in
      omega (arith, a, b, c, d, f, z, long)

  pub with_rest : (front : List ℕ) → length front ≡ 304 → with_heaps front ++ replicate (extent k - length (with_heaps front)) 0 ≡ front ++ listed (first_word k) 304 (extent k - 304)
  with_rest front long =
      let heaps = listed (heaps_word k) 0 all_heaps in
      let tail = replicate (extent k - far k) 0 in
      ap (λ (n : ℕ). with_heaps front ++ replicate (extent k - n) 0) (front_long front long)
      ∙ (over (front ++ replicate (heap_from k 0 - length front) 0) heaps tail
      ∙ (over front (replicate (heap_from k 0 - length front) 0) (heaps ++ tail)
      ∙ (ap (λ (n : ℕ). front ++ (replicate (heap_from k 0 - n) 0 ++ (heaps ++ tail))) long
      ∙ ap (λ (l : List ℕ). front ++ l) rest_is)))
