-- The words of the bank lie apart.
use Rattle.std.proofs.Common.{◌≡◌, ℕ, Bool, true, false, ltb, zero, suc, ◌+◌, ◌-◌, ◌*◌, ◌/◌, ◌%◌, ◌<◌, ◌≤◌, List, [], ◌∷◌, ◌++◌, length, get_or, cond, replicate, refl, sym, ap, ◌∙◌, arith, eqb, eq-eqb, length-append, lt-ltb, le-ltb}
use Rattle.std.specs.Prelude.{slice_index}
use Rattle.std.proofs.lemmas.List.{get_or-replicate, length-replicate}
use Rattle.std.proofs.Math.Decide.{dec_lt}
use mathlib.Core.Logic.{dite}
use native.Mathlib.Decide.{ℕ_discrete}
use Rattle.ft_model.specs.Classes.{IsClass}
use Rattle.ft_layout.specs.Sizes.{table_size}
use Rattle.ft_layout.specs.Starts.{tables_of_class, heap_start, words_below, part_start, HasWord}
use Rattle.ft_layout.proofs.Powers.{words_below-more}
use Rattle.ft_trace.specs.declared.Shape.{Shape}
use Rattle.ft_trace.specs.Bits.{bit, full}
use Rattle.std.proofs.lemmas.Nat.{mod-mul-add}
use Rattle.ft_trace.proofs.Bits.{bit_full}
use Rattle.ft_trace.specs.Addresses.{Word, counter, write_number, announced_of, count_of_class, bits, lock_of, version_of, block, heap_bits, box_word, header, cell, maker_of, place_in, place_word_of, place_bit_of, IsBoxName, heap_words, heap_from, heap_first, first_word, listed, container_count, tables_in, class_of, number_of, free_word_of, free_bit_of, slots, places, size, IsTableName, far, start_of, extent, at, Inside, free_counts, least, free_bits, free_words, opening, sizes_of, part_of}

pub up_mul : (n a b : ℕ) → a ≤ b → a * n ≤ b * n
up_mul n zero b low = omega arith
up_mul n (suc a) zero low = absurd (omega arith)
up_mul n (suc a) (suc b) low = let h = up_mul n a b (omega arith) in omega arith

-- the words of a table: two of its header, and the others
pub table_size_is : (c : ℕ) → table_size c ≡ 2 + size c
unfolding slots places
table_size_is c = omega arith

pub first_next : (tables : List ℕ) (c : ℕ) → 3 ≤ c → words_below tables (suc c) ≡ words_below tables c + tables_of_class tables c * (2 + size c)
first_next tables c up =
    let e : c + 1 ≡ suc c = omega arith in
    ap (words_below tables) (sym e) ∙ (words_below-more tables c up ∙ ap (λ (z : ℕ). words_below tables c + tables_of_class tables c * z) (table_size_is c))

pub first_up : (tables : List ℕ) (a b : ℕ) → 3 ≤ a → a ≤ b → words_below tables a ≤ words_below tables b
first_up tables zero b up low = absurd (omega arith)
first_up tables (suc a) zero up low = absurd (omega arith)
first_up tables (suc a) (suc b) up low =
    dite (ℕ_discrete a b) (λ (e : a ≡ b). let z = ap (λ (i : ℕ). words_below tables (suc i)) e in omega (arith, z))
    (λ ne.
    let h = first_up tables (suc a) b up (omega arith) in
    let n = first_next tables b (omega arith) in
    let p : 0 ≤ tables_of_class tables b * (2 + size b) = omega arith in
    omega (arith, h, n, p))

pub start_is : (k : Shape) (t : ℕ) → start_of k t ≡ far k + words_below k.tables (class_of t) + number_of t * (2 + size (class_of t))
unfolding start_of
start_is k t = ap (λ (z : ℕ). far k + words_below k.tables (class_of t) + number_of t * z) (table_size_is (class_of t))

pub extent_is : (k : Shape) → extent k ≡ far k + words_below k.tables 17
unfolding extent
extent_is k = refl

-- ---- heaps
pub heap_words_is : (k : Shape) → heap_words k ≡ k.heap / 64 + 4 * k.heap
unfolding heap_words
heap_words_is k = refl

pub heap_next : (k : Shape) (q : ℕ) → heap_from k (suc q) ≡ heap_from k q + heap_words k
unfolding heap_from
heap_next k q = omega arith

pub heap_is : (k : Shape) (q : ℕ) → heap_from k q ≡ heap_from k 0 + q * heap_words k
unfolding heap_from
heap_is k q = omega arith

pub heap_low : (k : Shape) (q : ℕ) → 304 + 8 * container_count k ≤ heap_from k q
unfolding heap_from
heap_low k q = let p : 0 ≤ q * heap_words k = omega arith in omega (arith, p)

pub heap_zero : (k : Shape) → heap_from k 0 ≡ 304 + 8 * container_count k
unfolding heap_from
heap_zero k = omega arith

pub heap_up : (k : Shape) (a b : ℕ) → a ≤ b → heap_from k a ≤ heap_from k b
heap_up k a b low = let h = up_mul (heap_words k) a b low in let x = heap_is k a in let y = heap_is k b in omega (arith, h, x, y)

pub far_is : (k : Shape) → far k ≡ heap_from k k.passes
unfolding far
far_is k = refl

-- the heap of a pass ends before the tables
pub heap_high : (k : Shape) (q : ℕ) → q < k.passes → heap_from k q + heap_words k ≤ far k
heap_high k q low = let n = heap_next k q in let u = heap_up k (suc q) k.passes (omega arith) in let f = far_is k in omega (arith, n, u, f)

-- a word of two heaps is of one
heap_same : (k : Shape) (q r x y : ℕ) → heap_from k q + x ≡ heap_from k r + y → x < heap_words k → y < heap_words k → q ≡ r
heap_same k q r x y e a b =
    dite (dec_lt q r) (λ less. let n = heap_next k q in let u = heap_up k (suc q) r (omega arith) in absurd (omega (arith, n, u, e, a, b)))
    (λ no. dite (dec_lt r q) (λ less. let n = heap_next k r in let u = heap_up k (suc r) q (omega arith) in absurd (omega (arith, n, u, e, a, b)))
    (λ no1. omega arith))

pub same_box : (b c : ℕ) → maker_of b ≡ maker_of c → place_in b ≡ place_in c → b ≡ c
unfolding maker_of place_in
same_box b c m p = omega arith

pub same_place : (b c : ℕ) → maker_of b ≡ maker_of c → place_word_of b ≡ place_word_of c → place_bit_of b ≡ place_bit_of c → b ≡ c
unfolding place_word_of place_bit_of
same_place b c m w p = same_box b c m (omega (arith, w, p))

pub place_bit_low : (b : ℕ) → place_bit_of b < 64
unfolding place_bit_of
place_bit_low b = omega arith

bits_in : (k : Shape) (q w : ℕ) → Inside k (heap_bits q w) → w < heap_words k
bits_in k q w in_it = let h = heap_words_is k in let l = in_it.1 in omega (arith, h, l)

box_in : (k : Shape) (b i : ℕ) → Inside k (box_word b i) → k.heap / 64 + 4 * place_in b + i < heap_words k
box_in k b i in_it = let h = heap_words_is k in let l = in_it.0.1 in let m = in_it.1 in omega (arith, h, l, m)

bits_far : (k : Shape) (q w : ℕ) → Inside k (heap_bits q w) → at k (heap_bits q w) < far k
bits_far k q w in_it = let h = heap_high k q in_it.0 in let l = bits_in k q w in_it in omega (arith, h, l)

box_far : (k : Shape) (b i : ℕ) → Inside k (box_word b i) → at k (box_word b i) < far k
box_far k b i in_it = let h = heap_high k (maker_of b) in_it.0.0 in let l = box_in k b i in_it in omega (arith, h, l)

box_up : (k : Shape) (b i : ℕ) → 304 + 8 * container_count k ≤ at k (box_word b i)
box_up k b i = let l = heap_low k (maker_of b) in omega (arith, l)

bits_up : (k : Shape) (q w : ℕ) → 304 + 8 * container_count k ≤ at k (heap_bits q w)
bits_up k q w = let l = heap_low k q in omega (arith, l)

-- tables lie after the blocks
pub far_up : (k : Shape) → 304 + 8 * container_count k ≤ far k
far_up k = let e = far_is k in let l = heap_low k k.passes in omega (arith, e, l)

pub far_low : (k : Shape) → far k ≤ extent k
far_low k = let e = extent_is k in let p : 0 ≤ words_below k.tables 17 = omega arith in omega (arith, e, p)

pub same_table : (t q : ℕ) → class_of t ≡ class_of q → number_of t ≡ number_of q → t ≡ q
unfolding class_of number_of
same_table t q c n = omega arith

pub start_low : (k : Shape) (t : ℕ) → 304 + 8 * container_count k ≤ start_of k t
start_low k t =
    let e = start_is k t in
    let f = far_up k in
    let p : 0 ≤ words_below k.tables (class_of t) = omega arith in
    let q : 0 ≤ number_of t * (2 + size (class_of t)) = omega arith in
    omega (arith, e, f, p, q)

start_far : (k : Shape) (t : ℕ) → far k ≤ start_of k t
start_far k t =
    let e = start_is k t in
    let p : 0 ≤ words_below k.tables (class_of t) = omega arith in
    let q : 0 ≤ number_of t * (2 + size (class_of t)) = omega arith in
    omega (arith, e, p, q)

-- where the tables of its class, and it, end
end_class : (k : Shape) (t : ℕ) → IsTableName k t → start_of k t + 2 + size (class_of t) ≤ far k + words_below k.tables (suc (class_of t))
end_class k t is =
    let e = start_is k t in
    let f = first_next k.tables (class_of t) is.0.least in
    let low = is.1 in
    let m = up_mul (2 + size (class_of t)) (suc (number_of t)) (tables_in k (class_of t)) (omega arith) in
    omega (arith, e, f, m)

pub start_high : (k : Shape) (t : ℕ) → IsTableName k t → start_of k t + 2 + size (class_of t) ≤ extent k
start_high k t is =
    let a = end_class k t is in
    let l = is.0.least in
    let h = is.0.greatest in
    let b = first_up k.tables (suc (class_of t)) 17 (omega arith) (omega arith) in
    let e = extent_is k in
    omega (arith, a, b, e)

before : (k : Shape) (t q : ℕ) → IsTableName k t → IsTableName k q → class_of t < class_of q → start_of k t + 2 + size (class_of t) ≤ start_of k q
before k t q is it less =
    let a = end_class k t is in
    let l = is.0.least in
    let b = first_up k.tables (suc (class_of t)) (class_of q) (omega arith) (omega arith) in
    let e = start_is k q in
    let p : 0 ≤ number_of q * (2 + size (class_of q)) = omega arith in
    omega (arith, a, b, e, p)

beside : (k : Shape) (t q : ℕ) → class_of t ≡ class_of q → number_of t < number_of q → start_of k t + 2 + size (class_of t) ≤ start_of k q
beside k t q same less =
    let e = start_is k t in
    let f : start_of k q ≡ far k + words_below k.tables (class_of t) + number_of q * (2 + size (class_of t)) = start_is k q ∙ ap (λ (c : ℕ). far k + words_below k.tables c + number_of q * (2 + size c)) (sym same) in
    let m = up_mul (2 + size (class_of t)) (suc (number_of t)) (number_of q) (omega arith) in
    omega (arith, e, f, m)

-- two tables that meet are one
pub start_apart : (k : Shape) (t q : ℕ) → IsTableName k t → IsTableName k q → start_of k q < start_of k t + 2 + size (class_of t) → start_of k t < start_of k q + 2 + size (class_of q) → t ≡ q
start_apart k t q is it a b =
    dite (dec_lt (class_of t) (class_of q)) (λ less. let h = before k t q is it less in absurd (omega arith))
    (λ no. dite (dec_lt (class_of q) (class_of t)) (λ less. let h = before k q t it is less in absurd (omega arith))
    (λ no1.
    let same : class_of t ≡ class_of q = omega arith in
    dite (dec_lt (number_of t) (number_of q)) (λ less. let h = beside k t q same less in absurd (omega arith))
    (λ no2. dite (dec_lt (number_of q) (number_of t)) (λ less. let h = beside k q t (sym same) less in absurd (omega arith))
    (λ no3. same_table t q same (omega arith)))))

pub at_low : (k : Shape) (x : Word) → Inside k x → at k x < extent k
at_low k (announced_of p) in_it = let e = far_up k in let f = far_low k in let l = in_it.0 in let m = in_it.1 in omega (arith, e, f)
at_low k (count_of_class c) in_it = let e = far_up k in let f = far_low k in let l = in_it.least in let m = in_it.greatest in omega (arith, e, f)
at_low k (bits c) in_it = let e = far_up k in let f = far_low k in omega (arith, e, f)
at_low k (lock_of o) in_it = let e = far_up k in let f = far_low k in omega (arith, e, f)
at_low k (version_of o) in_it = let e = far_up k in let f = far_low k in omega (arith, e, f)
at_low k (block o i) in_it = let e = far_up k in let f = far_low k in let l = in_it.0 in let m = in_it.1 in omega (arith, e, f)
at_low k (heap_bits q w) in_it = let h = bits_far k q w in_it in let f = far_low k in omega (arith, h, f)
at_low k (box_word b i) in_it = let h = box_far k b i in_it in let f = far_low k in omega (arith, h, f)
at_low k (header t) in_it = let h = start_high k t in_it in omega arith
at_low k (cell t i) in_it = let h = start_high k t in_it.0 in let l = in_it.1 in omega arith
at_low k counter in_it = let e = far_up k in let f = far_low k in omega (arith, e, f)
at_low k write_number in_it = let e = far_up k in let f = far_low k in omega (arith, e, f)

-- one word has one address
pub at_apart : (k : Shape) (x y : Word) → Inside k x → Inside k y → at k x ≡ at k y → x ≡ y
at_apart k counter counter a b e = refl
at_apart k counter (header t) a b e = let l = start_low k t in absurd (omega arith)
at_apart k counter (cell t i) a b e = let l = start_low k t in absurd (omega arith)
at_apart k counter (announced_of s) a b e = let b0 = b.0 in let b1 = b.1 in absurd (omega arith)
at_apart k counter (count_of_class s) a b e = let b0 = b.least in let b1 = b.greatest in absurd (omega arith)
at_apart k counter (block s i) a b e = let b0 = b.0 in let b1 = b.1 in absurd (omega arith)
at_apart k counter (heap_bits r n) a b e = let l = bits_up k r n in absurd (omega arith)
at_apart k counter (box_word c n) a b e = let l = box_up k c n in absurd (omega arith)
at_apart k counter y a b e = absurd (omega arith)
at_apart k write_number write_number a b e = refl
at_apart k write_number (header t) a b e = let l = start_low k t in absurd (omega arith)
at_apart k write_number (cell t i) a b e = let l = start_low k t in absurd (omega arith)
at_apart k write_number (announced_of s) a b e = let b0 = b.0 in let b1 = b.1 in absurd (omega arith)
at_apart k write_number (count_of_class s) a b e = let b0 = b.least in let b1 = b.greatest in absurd (omega arith)
at_apart k write_number (block s i) a b e = let b0 = b.0 in let b1 = b.1 in absurd (omega arith)
at_apart k write_number (heap_bits r n) a b e = let l = bits_up k r n in absurd (omega arith)
at_apart k write_number (box_word c n) a b e = let l = box_up k c n in absurd (omega arith)
at_apart k write_number y a b e = absurd (omega arith)
at_apart k (announced_of p) (announced_of q) a b e = let a0 = a.0 in let a1 = a.1 in let b0 = b.0 in let b1 = b.1 in ap announced_of (omega arith)
at_apart k (announced_of p) (header t) a b e = let a0 = a.0 in let a1 = a.1 in let l = start_low k t in absurd (omega arith)
at_apart k (announced_of p) (cell t i) a b e = let a0 = a.0 in let a1 = a.1 in let l = start_low k t in absurd (omega arith)
at_apart k (announced_of p) (count_of_class s) a b e = let a0 = a.0 in let a1 = a.1 in let b0 = b.least in let b1 = b.greatest in absurd (omega arith)
at_apart k (announced_of p) (block s i) a b e = let a0 = a.0 in let a1 = a.1 in let b0 = b.0 in let b1 = b.1 in absurd (omega arith)
at_apart k (announced_of p) (heap_bits r n) a b e = let a0 = a.0 in let a1 = a.1 in let l = bits_up k r n in absurd (omega arith)
at_apart k (announced_of p) (box_word c n) a b e = let a0 = a.0 in let a1 = a.1 in let l = box_up k c n in absurd (omega arith)
at_apart k (announced_of p) y a b e = let a0 = a.0 in let a1 = a.1 in absurd (omega arith)
at_apart k (count_of_class p) (count_of_class q) a b e = let a0 = a.least in let a1 = a.greatest in let b0 = b.least in let b1 = b.greatest in ap count_of_class (omega arith)
at_apart k (count_of_class p) (header t) a b e = let a0 = a.least in let a1 = a.greatest in let l = start_low k t in absurd (omega arith)
at_apart k (count_of_class p) (cell t i) a b e = let a0 = a.least in let a1 = a.greatest in let l = start_low k t in absurd (omega arith)
at_apart k (count_of_class p) (announced_of s) a b e = let a0 = a.least in let a1 = a.greatest in let b0 = b.0 in let b1 = b.1 in absurd (omega arith)
at_apart k (count_of_class p) (block s i) a b e = let a0 = a.least in let a1 = a.greatest in let b0 = b.0 in let b1 = b.1 in absurd (omega arith)
at_apart k (count_of_class p) (heap_bits r n) a b e = let a0 = a.least in let a1 = a.greatest in let l = bits_up k r n in absurd (omega arith)
at_apart k (count_of_class p) (box_word c n) a b e = let a0 = a.least in let a1 = a.greatest in let l = box_up k c n in absurd (omega arith)
at_apart k (count_of_class p) y a b e = let a0 = a.least in let a1 = a.greatest in absurd (omega arith)
at_apart k (bits p) (bits q) a b e = ap bits (omega arith)
at_apart k (bits p) (header t) a b e = let l = start_low k t in absurd (omega arith)
at_apart k (bits p) (cell t i) a b e = let l = start_low k t in absurd (omega arith)
at_apart k (bits p) (announced_of s) a b e = let b0 = b.0 in let b1 = b.1 in absurd (omega arith)
at_apart k (bits p) (count_of_class s) a b e = let b0 = b.least in let b1 = b.greatest in absurd (omega arith)
at_apart k (bits p) (block s i) a b e = let b0 = b.0 in let b1 = b.1 in absurd (omega arith)
at_apart k (bits p) (heap_bits r n) a b e = let a0 = a in let l = bits_up k r n in absurd (omega arith)
at_apart k (bits p) (box_word c n) a b e = let a0 = a in let l = box_up k c n in absurd (omega arith)
at_apart k (bits p) y a b e = absurd (omega arith)
at_apart k (lock_of p) (lock_of q) a b e = ap lock_of (omega arith)
at_apart k (lock_of p) (header t) a b e = let l = start_low k t in absurd (omega arith)
at_apart k (lock_of p) (cell t i) a b e = let l = start_low k t in absurd (omega arith)
at_apart k (lock_of p) (block o i) a b e = let m = b.1 in absurd (omega arith)
at_apart k (lock_of p) (announced_of s) a b e = let b0 = b.0 in let b1 = b.1 in absurd (omega arith)
at_apart k (lock_of p) (count_of_class s) a b e = let b0 = b.least in let b1 = b.greatest in absurd (omega arith)
at_apart k (lock_of p) (heap_bits r n) a b e = let a0 = a in let l = bits_up k r n in absurd (omega arith)
at_apart k (lock_of p) (box_word c n) a b e = let a0 = a in let l = box_up k c n in absurd (omega arith)
at_apart k (lock_of p) y a b e = absurd (omega arith)
at_apart k (version_of p) (version_of q) a b e = ap version_of (omega arith)
at_apart k (version_of p) (header t) a b e = let l = start_low k t in absurd (omega arith)
at_apart k (version_of p) (cell t i) a b e = let l = start_low k t in absurd (omega arith)
at_apart k (version_of p) (block o i) a b e = let m = b.1 in absurd (omega arith)
at_apart k (version_of p) (announced_of s) a b e = let b0 = b.0 in let b1 = b.1 in absurd (omega arith)
at_apart k (version_of p) (count_of_class s) a b e = let b0 = b.least in let b1 = b.greatest in absurd (omega arith)
at_apart k (version_of p) (heap_bits r n) a b e = let a0 = a in let l = bits_up k r n in absurd (omega arith)
at_apart k (version_of p) (box_word c n) a b e = let a0 = a in let l = box_up k c n in absurd (omega arith)
at_apart k (version_of p) y a b e = absurd (omega arith)
at_apart k (block o i) (block q j) a b e = let m = a.1 in let n = b.1 in let x : o ≡ q = omega arith in let y : i ≡ j = omega arith in λ d. block (x d) (y d)
at_apart k (block o i) (header t) a b e = let l = start_low k t in let m = a.0 in let n = a.1 in absurd (omega arith)
at_apart k (block o i) (cell t j) a b e = let l = start_low k t in let m = a.0 in let n = a.1 in absurd (omega arith)
at_apart k (block o i) (lock_of q) a b e = let m = a.1 in absurd (omega arith)
at_apart k (block o i) (version_of q) a b e = let m = a.1 in absurd (omega arith)
at_apart k (block o i) (announced_of s) a b e = let m = a.1 in let b0 = b.0 in let b1 = b.1 in absurd (omega arith)
at_apart k (block o i) (count_of_class s) a b e = let m = a.1 in let b0 = b.least in let b1 = b.greatest in absurd (omega arith)
at_apart k (block o i) (heap_bits r n) a b e = let a0 = a.0 in let a1 = a.1 in let l = bits_up k r n in absurd (omega arith)
at_apart k (block o i) (box_word c n) a b e = let a0 = a.0 in let a1 = a.1 in let l = box_up k c n in absurd (omega arith)
at_apart k (block o i) y a b e = absurd (omega arith)
at_apart k (header t) (header q) a b e = ap header (start_apart k t q a b (omega arith) (omega arith))
at_apart k (header t) (cell q i) a b e =
    let l = b.1 in
    let same : t ≡ q = start_apart k t q a b.0 (omega arith) (omega arith) in
    let z : start_of k t ≡ start_of k q = ap (start_of k) same in
    absurd (omega arith)
at_apart k (header t) (block o i) a b e = let l = start_low k t in let m = b.0 in let n = b.1 in absurd (omega arith)
at_apart k (header t) (announced_of s) a b e = let l = start_low k t in let b0 = b.0 in let b1 = b.1 in absurd (omega arith)
at_apart k (header t) (count_of_class s) a b e = let l = start_low k t in let b0 = b.least in let b1 = b.greatest in absurd (omega arith)
at_apart k (header t) (heap_bits r n) a b e = let l = bits_far k r n b in let f = start_far k t in absurd (omega arith)
at_apart k (header t) (box_word c n) a b e = let l = box_far k c n b in let f = start_far k t in absurd (omega arith)
at_apart k (header t) y a b e = let l = start_low k t in absurd (omega arith)
at_apart k (cell t i) (cell q j) a b e =
    let l = a.1 in
    let m = b.1 in
    let same : t ≡ q = start_apart k t q a.0 b.0 (omega arith) (omega arith) in
    let z : start_of k t ≡ start_of k q = ap (start_of k) same in
    let w : i ≡ j = omega arith in
    λ d. cell (same d) (w d)
at_apart k (cell t i) (header q) a b e =
    let l = a.1 in
    let same : t ≡ q = start_apart k t q a.0 b (omega arith) (omega arith) in
    let z : start_of k t ≡ start_of k q = ap (start_of k) same in
    absurd (omega arith)
at_apart k (cell t i) (block o j) a b e = let l = start_low k t in let m = b.0 in let n = b.1 in absurd (omega arith)
at_apart k (cell t i) (announced_of s) a b e = let l = start_low k t in let b0 = b.0 in let b1 = b.1 in absurd (omega arith)
at_apart k (cell t i) (count_of_class s) a b e = let l = start_low k t in let b0 = b.least in let b1 = b.greatest in absurd (omega arith)
at_apart k (cell t i) (heap_bits r n) a b e = let l = bits_far k r n b in let f = start_far k t in absurd (omega arith)
at_apart k (cell t i) (box_word c n) a b e = let l = box_far k c n b in let f = start_far k t in absurd (omega arith)
at_apart k (cell t i) y a b e = let l = start_low k t in absurd (omega arith)
at_apart k (heap_bits q w) counter a b e = let l = bits_up k q w in absurd (omega arith)
at_apart k (heap_bits q w) write_number a b e = let l = bits_up k q w in absurd (omega arith)
at_apart k (heap_bits q w) (announced_of p) a b e = let b0 = b.0 in let b1 = b.1 in let l = bits_up k q w in absurd (omega arith)
at_apart k (heap_bits q w) (count_of_class p) a b e = let b0 = b.least in let b1 = b.greatest in let l = bits_up k q w in absurd (omega arith)
at_apart k (heap_bits q w) (bits p) a b e = let b0 = b in let l = bits_up k q w in absurd (omega arith)
at_apart k (heap_bits q w) (lock_of p) a b e = let b0 = b in let l = bits_up k q w in absurd (omega arith)
at_apart k (heap_bits q w) (version_of p) a b e = let b0 = b in let l = bits_up k q w in absurd (omega arith)
at_apart k (heap_bits q w) (block o j) a b e = let b0 = b.0 in let b1 = b.1 in let l = bits_up k q w in absurd (omega arith)
at_apart k (heap_bits q w) (header t) a b e = let l = bits_far k q w a in let f = start_far k t in absurd (omega arith)
at_apart k (heap_bits q w) (cell t j) a b e = let l = bits_far k q w a in let f = start_far k t in absurd (omega arith)
at_apart k (box_word c n) counter a b e = let l = box_up k c n in absurd (omega arith)
at_apart k (box_word c n) write_number a b e = let l = box_up k c n in absurd (omega arith)
at_apart k (box_word c n) (announced_of p) a b e = let b0 = b.0 in let b1 = b.1 in let l = box_up k c n in absurd (omega arith)
at_apart k (box_word c n) (count_of_class p) a b e = let b0 = b.least in let b1 = b.greatest in let l = box_up k c n in absurd (omega arith)
at_apart k (box_word c n) (bits p) a b e = let b0 = b in let l = box_up k c n in absurd (omega arith)
at_apart k (box_word c n) (lock_of p) a b e = let b0 = b in let l = box_up k c n in absurd (omega arith)
at_apart k (box_word c n) (version_of p) a b e = let b0 = b in let l = box_up k c n in absurd (omega arith)
at_apart k (box_word c n) (block o j) a b e = let b0 = b.0 in let b1 = b.1 in let l = box_up k c n in absurd (omega arith)
at_apart k (box_word c n) (header t) a b e = let l = box_far k c n a in let f = start_far k t in absurd (omega arith)
at_apart k (box_word c n) (cell t j) a b e = let l = box_far k c n a in let f = start_far k t in absurd (omega arith)
at_apart k (heap_bits q w) (heap_bits r n) a b e =
    let s : q ≡ r = heap_same k q r w n e (bits_in k q w a) (bits_in k r n b) in
    let f : heap_from k q ≡ heap_from k r = ap (heap_from k) s in
    let x : w ≡ n = omega (arith, e, f) in
    λ d. heap_bits (s d) (x d)
at_apart k (heap_bits q w) (box_word c n) a b e =
    let s : q ≡ maker_of c = heap_same k q (maker_of c) w (k.heap / 64 + 4 * place_in c + n) (omega (arith, e)) (bits_in k q w a) (box_in k c n b) in
    let f : heap_from k q ≡ heap_from k (maker_of c) = ap (heap_from k) s in
    let l = a.1 in
    absurd (omega (arith, e, f, l))
at_apart k (box_word c n) (heap_bits q w) a b e =
    let s : maker_of c ≡ q = heap_same k (maker_of c) q (k.heap / 64 + 4 * place_in c + n) w (omega (arith, e)) (box_in k c n a) (bits_in k q w b) in
    let f : heap_from k (maker_of c) ≡ heap_from k q = ap (heap_from k) s in
    let l = b.1 in
    absurd (omega (arith, e, f, l))
at_apart k (box_word c n) (box_word h m) a b e =
    let s : maker_of c ≡ maker_of h = heap_same k (maker_of c) (maker_of h) (k.heap / 64 + 4 * place_in c + n) (k.heap / 64 + 4 * place_in h + m) (omega (arith, e)) (box_in k c n a) (box_in k h m b) in
    let f : heap_from k (maker_of c) ≡ heap_from k (maker_of h) = ap (heap_from k) s in
    let l = a.1 in
    let r = b.1 in
    let x : place_in c ≡ place_in h = omega (arith, e, f, l, r) in
    let y : n ≡ m = omega (arith, e, f, l, r) in
    let z : c ≡ h = same_box c h s x in
    λ d. box_word (z d) (y d)

in_front : (xs ys : List ℕ) (i d : ℕ) → i < length xs → get_or (xs ++ ys) i d ≡ get_or xs i d
in_front [] ys i d low = absurd (omega arith)
in_front (x ∷ xs) ys zero d low = refl
in_front (x ∷ xs) ys (suc i) d low = in_front xs ys i d (omega arith)

past_front : (xs ys : List ℕ) (i n d : ℕ) → n ≡ length xs + i → get_or (xs ++ ys) n d ≡ get_or ys i d
past_front [] ys i n d is = let e : n ≡ i = omega arith in ap (λ (z : ℕ). get_or ys z d) e
past_front (x ∷ xs) ys i zero d is = absurd (omega arith)
past_front (x ∷ xs) ys i (suc n) d is = past_front xs ys i n d (omega arith)

-- which table is which bit of which word
pub fw_low : (k : Shape) (t : ℕ) → IsTableName k t → free_word_of t < 224
unfolding free_word_of
fw_low k t is = let l = is.0.least in let h = is.0.greatest in let n = is.2 in omega (arith, l, h, n)

pub bt_low : (t : ℕ) → free_bit_of t < 64
unfolding free_bit_of
bt_low t = omega arith

pub same_bit : (k : Shape) (t q : ℕ) → IsTableName k t → IsTableName k q → free_word_of t ≡ free_word_of q → free_bit_of t ≡ free_bit_of q → t ≡ q
unfolding free_word_of free_bit_of
same_bit k t q is it c n =
    let a = is.0.least in
    let b = it.0.least in
    let e = is.2 in
    let f = it.2 in
    same_table t q (omega (arith, a, b, e, f, c)) (omega (arith, a, b, e, f, c, n))

pub num_is : (k : Shape) (t : ℕ) → IsTableName k t → (number_of t ≡ 64 * (free_word_of t % 16) + free_bit_of t) × (3 + free_word_of t / 16 ≡ class_of t)
unfolding free_word_of free_bit_of
num_is k t is = let a = is.0.least in let n = is.2 in (omega (arith, a, n), omega (arith, a, n))

-- the table with this number in its class
pub class_of_number : (c i : ℕ) → i < 1024 → class_of (65536 * c + i) ≡ c
unfolding class_of
class_of_number c i low = omega arith

pub number_of_number : (c i : ℕ) → i < 1024 → number_of (65536 * c + i) ≡ i
unfolding number_of
number_of_number c i low = omega arith

pub table_is : (t : ℕ) → 65536 * class_of t + number_of t ≡ t
unfolding class_of number_of
table_is t = omega arith

counts_long : (tables : List ℕ) (c n : ℕ) → length (free_counts tables c n) ≡ n
counts_long tables c zero = refl
counts_long tables c (suc n) = ap suc (counts_long tables (suc c) n)

counts_at : (tables : List ℕ) (c n i : ℕ) → i < n → get_or (free_counts tables c n) i 0 ≡ tables_of_class tables (c + i)
counts_at tables c zero i low = absurd (omega arith)
counts_at tables c (suc n) zero low = ap (tables_of_class tables) (omega arith)
counts_at tables c (suc n) (suc i) low = counts_at tables (suc c) n i (omega arith) ∙ ap (tables_of_class tables) (omega arith)

free_long : (tables : List ℕ) (w n : ℕ) → length (free_words tables w n) ≡ n
free_long tables w zero = refl
free_long tables w (suc n) = ap suc (free_long tables (suc w) n)

free_at : (tables : List ℕ) (w n i : ℕ) → i < n → get_or (free_words tables w n) i 0 ≡ free_bits tables (w + i)
free_at tables w zero i low = absurd (omega arith)
free_at tables w (suc n) zero low = ap (free_bits tables) (omega arith)
free_at tables w (suc n) (suc i) low = free_at tables (suc w) n i (omega arith) ∙ ap (free_bits tables) (omega arith)

least_up : (x : Bool) (b n : ℕ) → b < 64 → b < n → b < least x n
least_up true b n low less = less
least_up false b n low less = low

listed_long : (f : ℕ → ℕ) (from n : ℕ) → length (listed f from n) ≡ n
listed_long f from zero = refl
listed_long f from (suc n) = ap suc (listed_long f (suc from) n)

listed_at : (f : ℕ → ℕ) (from n i : ℕ) → i < n → get_or (listed f from n) i 0 ≡ f (from + i)
listed_at f from zero i low = absurd (omega arith)
listed_at f from (suc n) zero low = ap f (omega arith)
listed_at f from (suc n) (suc i) low = listed_at f (suc from) n i (omega arith) ∙ ap f (omega arith)

module _ (k : Shape) where
  abbrev Anns : List ℕ
  Anns = replicate {A = ℕ} 64 0

  abbrev Counts : List ℕ
  Counts = free_counts k.tables 3 14

  abbrev Frees : List ℕ
  Frees = free_words k.tables 0 224

  abbrev Rest : List ℕ
  Rest = listed (first_word k) 304 (extent k - 304)

  long_anns : length Anns ≡ 64
  long_anns = length-replicate {A = ℕ} 64 0

  long_counts : length Counts ≡ 14
  long_counts = counts_long k.tables 3 14

  long_frees : length Frees ≡ 224
  long_frees = free_long k.tables 0 224

  long_rest : length Rest ≡ extent k - 304
  long_rest = listed_long (first_word k) 304 (extent k - 304)

  parts : (xs cs fs rs : List ℕ) → length xs ≡ 64 → length cs ≡ 14 → length fs ≡ 224 → length rs ≡ extent k - 304 → length (0 ∷ 1 ∷ (xs ++ (cs ++ (fs ++ rs)))) ≡ extent k
  parts xs cs fs rs a b c d =
      let x = length-append xs (cs ++ (fs ++ rs)) in
      let y = length-append cs (fs ++ rs) in
      let z = length-append fs rs in
      let e = far_low k in
      let f = far_up k in
      omega (arith, a, b, c, d, x, y, z, e, f)

  pub opening_long : length (opening k) ≡ extent k
  opening_long = parts Anns Counts Frees Rest long_anns long_counts long_frees long_rest

  part_anns : (xs rs : List ℕ) (i : ℕ) → length xs ≡ 64 → i < 64 → get_or (0 ∷ 1 ∷ (xs ++ rs)) (2 + i) 0 ≡ get_or xs i 0
  part_anns xs rs i a low = let n : 2 + i ≡ suc (suc i) = omega arith in ap (λ (z : ℕ). get_or (0 ∷ 1 ∷ (xs ++ rs)) z 0) n ∙ in_front xs rs i 0 (omega (arith, a))

  part_counts : (xs cs rs : List ℕ) (i : ℕ) → length xs ≡ 64 → length cs ≡ 14 → i < 14 → get_or (0 ∷ 1 ∷ (xs ++ (cs ++ rs))) (66 + i) 0 ≡ get_or cs i 0
  part_counts xs cs rs i a c low =
      let n : 66 + i ≡ suc (suc (64 + i)) = omega arith in
      ap (λ (z : ℕ). get_or (0 ∷ 1 ∷ (xs ++ (cs ++ rs))) z 0) n ∙ (past_front xs (cs ++ rs) i (64 + i) 0 (omega (arith, a)) ∙ in_front cs rs i 0 (omega (arith, c)))

  part_frees : (xs cs fs rs : List ℕ) (i : ℕ) → length xs ≡ 64 → length cs ≡ 14 → length fs ≡ 224 → i < 224 → get_or (0 ∷ 1 ∷ (xs ++ (cs ++ (fs ++ rs)))) (80 + i) 0 ≡ get_or fs i 0
  part_frees xs cs fs rs i a c f low =
      let n : 80 + i ≡ suc (suc (78 + i)) = omega arith in
      ap (λ (z : ℕ). get_or (0 ∷ 1 ∷ (xs ++ (cs ++ (fs ++ rs)))) z 0) n
      ∙ (past_front xs (cs ++ (fs ++ rs)) (14 + i) (78 + i) 0 (omega (arith, a)) ∙ (past_front cs (fs ++ rs) i (14 + i) 0 (omega (arith, c)) ∙ in_front fs rs i 0 (omega (arith, f))))

  part_rest : (xs cs fs rs : List ℕ) (i : ℕ) → length xs ≡ 64 → length cs ≡ 14 → length fs ≡ 224 → get_or (0 ∷ 1 ∷ (xs ++ (cs ++ (fs ++ rs)))) (304 + i) 0 ≡ get_or rs i 0
  part_rest xs cs fs rs i a c f =
      let n : 304 + i ≡ suc (suc (302 + i)) = omega arith in
      ap (λ (z : ℕ). get_or (0 ∷ 1 ∷ (xs ++ (cs ++ (fs ++ rs)))) z 0) n
      ∙ (past_front xs (cs ++ (fs ++ rs)) (238 + i) (302 + i) 0 (omega (arith, a)) ∙ (past_front cs (fs ++ rs) (224 + i) (238 + i) 0 (omega (arith, c)) ∙ past_front fs rs i (224 + i) 0 (omega (arith, f))))

  pub count_first : (c : ℕ) → IsClass c → slice_index (opening k) (at k (count_of_class c)) ≡ tables_in k c
  count_first c is =
      let l = is.least in
      let h = is.greatest in
      part_counts Anns Counts (Frees ++ Rest) (c - 3) long_anns long_counts (omega (arith, l, h)) ∙ (counts_at k.tables 3 14 (c - 3) (omega (arith, l, h)) ∙ ap (tables_of_class k.tables) (omega (arith, l)))

  pub bits_first : (w : ℕ) → w < 224 → slice_index (opening k) (at k (bits w)) ≡ free_bits k.tables w
  bits_first w low = part_frees Anns Counts Frees Rest w long_anns long_counts long_frees low ∙ (free_at k.tables 0 224 w low ∙ ap (free_bits k.tables) (omega arith))

  -- all tables are free
  pub bit_first : (t : ℕ) → IsTableName k t → bit (free_bit_of t) (slice_index (opening k) (at k (bits (free_word_of t)))) ≡ 1
  bit_first t is =
      let n = num_is k t is in
      let n0 = n.0 in
      let l = is.1 in
      let low = bt_low t in
      let d = tables_of_class k.tables (3 + free_word_of t / 16) - 64 * (free_word_of t % 16) in
      let same : tables_of_class k.tables (3 + free_word_of t / 16) ≡ tables_in k (class_of t) = ap (tables_of_class k.tables) n.1 in
      ap (bit (free_bit_of t)) (bits_first (free_word_of t) (fw_low k t is)) ∙ bit_full (least (ltb d 64) d) (free_bit_of t) (least_up (ltb d 64) (free_bit_of t) d low (omega (arith, n0, l, same)))

  pub ann_first : (p : ℕ) → 0 < p → p ≤ 64 → slice_index (opening k) (at k (announced_of p)) ≡ 0
  ann_first p up low = part_anns Anns (Counts ++ (Frees ++ Rest)) (p - 1) long_anns (omega arith) ∙ get_or-replicate {A = ℕ} 64 (p - 1) 0 0 (omega arith)

  rest_first : (i : ℕ) → 304 ≤ i → i < extent k → slice_index (opening k) i ≡ first_word k i
  rest_first i up low =
      let n : i ≡ 304 + (i - 304) = omega arith in
      ap (λ (z : ℕ). get_or (opening k) z 0) n ∙ (part_rest Anns Counts Frees Rest (i - 304) long_anns long_counts long_frees ∙ (listed_at (first_word k) 304 (extent k - 304) (i - 304) (omega arith) ∙ ap (first_word k) (sym n)))

if_true : {A : Type 0} (b : Bool) (x y : A) → b ≡ true → cond b x y ≡ x
if_true b x y e = ap (λ (z : Bool). cond z x y) e

if_false : {A : Type 0} (b : Bool) (x y : A) → b ≡ false → cond b x y ≡ y
if_false b x y e = ap (λ (z : Bool). cond z x y) e

low_first : (k : Shape) (i : ℕ) → 304 ≤ i → i < 304 + 8 * container_count k → slice_index (opening k) i ≡ 0
low_first k i up low =
    let z = heap_zero k in
    rest_first k i up (let e = far_up k in let f = far_low k in omega (arith, e, f))
    ∙ if_true (ltb i (heap_from k 0)) 0 (cond (ltb i (far k)) (heap_first k ((i - heap_from k 0) % heap_words k)) 0) (lt-ltb i (heap_from k 0) (omega (arith, z, low)))

far_first : (k : Shape) (i : ℕ) → far k ≤ i → i < extent k → slice_index (opening k) i ≡ 0
far_first k i up low =
    let z = heap_zero k in
    let f = far_up k in
    rest_first k i (omega (arith, f, up)) low
    ∙ (if_false (ltb i (heap_from k 0)) 0 (cond (ltb i (far k)) (heap_first k ((i - heap_from k 0) % heap_words k)) 0) (le-ltb i (heap_from k 0) (omega (arith, z, f, up)))
    ∙ if_false (ltb i (far k)) (heap_first k ((i - heap_from k 0) % heap_words k)) 0 (le-ltb i (far k) up))

-- a word of a heap at the start
heap_word_first : (k : Shape) (q r : ℕ) → q < k.passes → r < heap_words k → slice_index (opening k) (heap_from k q + r) ≡ heap_first k r
heap_word_first k q r low less =
    let h = heap_high k q low in
    let f = far_low k in
    let l = heap_low k q in
    let z = heap_is k q in
    let u = heap_up k 0 q (omega arith) in
    let i : ℕ = heap_from k q + r in
    let n : i - heap_from k 0 ≡ q * heap_words k + r = omega (arith, z) in
    rest_first k i (omega (arith, l)) (omega (arith, h, f, less))
    ∙ (if_false (ltb i (heap_from k 0)) 0 (cond (ltb i (far k)) (heap_first k ((i - heap_from k 0) % heap_words k)) 0) (le-ltb i (heap_from k 0) (omega (arith, u)))
    ∙ (if_true (ltb i (far k)) (heap_first k ((i - heap_from k 0) % heap_words k)) 0 (lt-ltb i (far k) (omega (arith, h, less)))
    ∙ ap (heap_first k) (ap (λ (x : ℕ). x % heap_words k) n ∙ mod-mul-add q (heap_words k) r less)))

-- all places are free, and all boxes are dead
pub place_first : (k : Shape) (b : ℕ) → IsBoxName k b → bit (place_bit_of b) (slice_index (opening k) (at k (heap_bits (maker_of b) (place_word_of b)))) ≡ 1
place_first k b is =
    let w = is.2 in
    let h = heap_words_is k in
    ap (bit (place_bit_of b)) (heap_word_first k (maker_of b) (place_word_of b) is.0 (omega (arith, w, h)) ∙ if_true (ltb (place_word_of b) (k.heap / 64)) (full 64) (cond (eqb ((place_word_of b - k.heap / 64) % 4) 0) 3 0) (lt-ltb (place_word_of b) (k.heap / 64) w))
    ∙ bit_full 64 (place_bit_of b) (place_bit_low b)

pub box_first : (k : Shape) (b : ℕ) → IsBoxName k b → slice_index (opening k) (at k (box_word b 0)) ≡ 3
box_first k b is =
    let h = heap_words_is k in
    let low = is.1 in
    let r : ℕ = k.heap / 64 + 4 * place_in b in
    let e : at k (box_word b 0) ≡ heap_from k (maker_of b) + r = omega arith in
    let m : (r - k.heap / 64) % 4 ≡ 0 = omega arith in
    ap (λ (z : ℕ). slice_index (opening k) z) e
    ∙ (heap_word_first k (maker_of b) r is.0 (omega (arith, h, low))
    ∙ (if_false (ltb r (k.heap / 64)) (full 64) (cond (eqb ((r - k.heap / 64) % 4) 0) 3 0) (le-ltb r (k.heap / 64) (omega arith))
    ∙ if_true (eqb ((r - k.heap / 64) % 4) 0) 3 0 (eq-eqb ((r - k.heap / 64) % 4) 0 m)))

pub lock_first : (k : Shape) (o : ℕ) → o < container_count k → slice_index (opening k) (at k (lock_of o)) ≡ 0
lock_first k o low = low_first k (at k (lock_of o)) (omega arith) (omega arith)

pub version_first : (k : Shape) (o : ℕ) → o < container_count k → slice_index (opening k) (at k (version_of o)) ≡ 0
version_first k o low = low_first k (at k (version_of o)) (omega arith) (omega arith)

pub block_first : (k : Shape) (o i : ℕ) → o < container_count k → i < 6 → slice_index (opening k) (at k (block o i)) ≡ 0
block_first k o i low small = low_first k (at k (block o i)) (omega arith) (omega arith)

pub cell_first : (k : Shape) (t i : ℕ) → IsTableName k t → i < size (class_of t) → slice_index (opening k) (at k (cell t i)) ≡ 0
cell_first k t i table small = far_first k (at k (cell t i)) (let l = start_far k t in omega (arith, l)) (at_low k (cell t i) (table, small))

start_part : (k : Shape) (t : ℕ) → start_of k t ≡ part_start (sizes_of k) (part_of (header t))
unfolding far start_of heap_from heap_words
start_part k t = refl

heap_part : (k : Shape) (q : ℕ) → heap_from k q ≡ heap_start (container_count k) k.heap q
unfolding heap_from heap_words
heap_part k q = refl

-- each word lies in its part of the bank
pub in_part : (k : Shape) (x : Word) → Inside k x → HasWord (sizes_of k) (part_of x) (at k x)
in_part k counter in_it = record { is_part = tt; from = omega arith; before = omega arith }
in_part k write_number in_it = record { is_part = tt; from = omega arith; before = omega arith }
in_part k (announced_of p) in_it = let l = in_it.0 in let m = in_it.1 in record { is_part = omega (arith, l, m); from = omega arith; before = omega arith }
in_part k (count_of_class c) in_it = record { is_part = in_it; from = omega arith; before = omega arith }
in_part k (bits w) in_it = record { is_part = (record { least = omega arith; greatest = omega (arith, in_it) }, omega arith); from = omega arith; before = omega arith }
in_part k (lock_of o) in_it = record { is_part = in_it; from = omega arith; before = omega arith }
in_part k (version_of o) in_it = record { is_part = in_it; from = omega arith; before = omega arith }
in_part k (block o i) in_it = let l = in_it.1 in record { is_part = in_it.0; from = omega arith; before = omega (arith, l) }
in_part k (heap_bits q w) in_it = let h = heap_part k q in record { is_part = in_it; from = omega (arith, h); before = omega (arith, h) }
in_part k (box_word b i) in_it = let h = heap_part k (maker_of b) in let l = in_it.1 in record { is_part = (in_it.0.0, in_it.0.1); from = omega (arith, h); before = omega (arith, h, l) }
in_part k (header t) in_it = let s = start_part k t in let z = table_size_is (class_of t) in record { is_part = (in_it.0, in_it.1); from = omega (arith, s); before = omega (arith, s, z) }
in_part k (cell t i) in_it = let s = start_part k t in let z = table_size_is (class_of t) in let l = in_it.1 in record { is_part = (in_it.0.0, in_it.0.1); from = omega (arith, s); before = omega (arith, s, z, l) }
