-- Where boxes and the bits of their places lie, and how their bits are read and changed.
use Rattle.std.proofs.Common.{◌≡◌, ℕ, ◌+◌, ◌*◌, ◌/◌, ◌%◌, ◌^◌, ◌<◌, refl, sym, ap, ◌∙◌, arith}
use Rattle.std.specs.Prelude.{bit_and, bit_or}
use Rattle.std.specs.Int.{w64, bit_not}
use Rattle.ft_layout.specs.declared.slot.Ref.{Ref}
use Rattle.ft_layout.specs.Starts.{IsHeap, block_start, box_size, box_start, free_place_word, heap_size}
use Rattle.ft_trace.specs.declared.Shape.{Shape}
use Rattle.ft_trace.specs.Addresses.{at, box_word, container_count, extent, heap_bits, heap_from, heap_words, maker_of, place_bit_of, place_in, place_word_of, IsBoxName}
use Rattle.ft_trace.specs.Bits.{bit_on, bit_off}
use Rattle.ft_trace.proofs.Addresses.{at_low}
use Rattle.ft_trace.proofs.Bits.{off_is, on_is}
use Rattle.ft_bank.specs.BoxSteps.{box_id, IsBoxIn}

pub maker_is : (b : Ref) → b.place < 65536 → maker_of (box_id b) ≡ b.pass
unfolding maker_of
maker_is b low = omega (arith, low)

pub place_is : (b : Ref) → b.place < 65536 → place_in (box_id b) ≡ b.place
unfolding place_in
place_is b low = omega (arith, low)

pub place_word_is : (b : Ref) → b.place < 65536 → place_word_of (box_id b) ≡ b.place / 64
unfolding place_word_of
place_word_is b low = ap (λ (n : ℕ). n / 64) (place_is b low)

pub place_bit_is : (b : Ref) → b.place < 65536 → place_bit_of (box_id b) ≡ b.place % 64
unfolding place_bit_of
place_bit_is b low = ap (λ (n : ℕ). n % 64) (place_is b low)

pub place_low : (k : Shape) (b : Ref) → IsHeap k.heap → IsBoxIn k b → b.place < 65536
place_low k b heap is = let h = heap.1 in let p = is.1 in omega (arith, h, p)

pub box_named : (k : Shape) (b : Ref) → IsHeap k.heap → IsBoxIn k b → IsBoxName k (box_id b)
box_named k b heap is =
    let low = place_low k b heap is in
    let m = maker_is b low in
    let p = place_is b low in
    let w = place_word_is b low in
    let pass = is.0 in
    let place = is.1 in
    let even = heap.2 in
    (omega (arith, m, pass), omega (arith, p, place), omega (arith, w, place, even))

pub box_at_is : (k : Shape) (b : Ref) (i : ℕ) → b.place < 65536 → box_start (container_count k) k.heap b.pass b.place + i ≡ at k (box_word (box_id b) i)
unfolding heap_from heap_words
box_at_is k b i low = λ d. block_start (container_count k) + sym (maker_is b low) d * heap_size k.heap + k.heap / 64 + box_size * sym (place_is b low) d + i

pub heap_at_is : (k : Shape) (q w : ℕ) → free_place_word (container_count k) k.heap q w ≡ at k (heap_bits q w)
unfolding heap_from heap_words
heap_at_is k q w = refl

pub box_at_low : (k : Shape) (b : Ref) (i : ℕ) → IsHeap k.heap → IsBoxIn k b → i < 4 → at k (box_word (box_id b) i) < extent k
box_at_low k b i heap is low = at_low k (box_word (box_id b) i) (box_named k b heap is, low)

pub heap_at_low : (k : Shape) (q w : ℕ) → q < k.passes → w < k.heap / 64 → at k (heap_bits q w) < extent k
heap_at_low k q w low less = at_low k (heap_bits q w) (low, less)

-- the word of bits of a box's place, by its number
pub place_at_is : (k : Shape) (b : Ref) (r : ℕ) → b.place < 65536 → r ≡ box_id b → at k (heap_bits (maker_of r) (place_word_of r)) ≡ at k (heap_bits b.pass (b.place / 64))
place_at_is k b r low e = λ d. at k (heap_bits ((ap maker_of e ∙ maker_is b low) d) ((ap place_word_of e ∙ place_word_is b low) d))

pub place_off : (b : Ref) (r m : ℕ) → b.place < 65536 → r ≡ box_id b → bit_off (place_bit_of r) m ≡ bit_and m (bit_not w64 (1 * 2 ^ (b.place % 64) % 2 ^ 64))
place_off b r m low e = off_is (place_bit_of r) m ∙ ap (λ (n : ℕ). bit_and m (bit_not w64 (1 * 2 ^ n % 2 ^ 64))) (ap place_bit_of e ∙ place_bit_is b low)

pub place_on : (b : Ref) (r m : ℕ) → b.place < 65536 → r ≡ box_id b → bit_on (place_bit_of r) m ≡ bit_or m (1 * 2 ^ (b.place % 64) % 2 ^ 64)
place_on b r m low e = on_is (place_bit_of r) m ∙ ap (λ (n : ℕ). bit_or m (1 * 2 ^ n % 2 ^ 64)) (ap place_bit_of e ∙ place_bit_is b low)
