-- Which words the bank has, and where they lie. (profile)
use Rattle.std.specs.Prelude.{◌==◌, ℕ, zero, suc, ◌+◌, ◌-◌, ◌*◌, ◌/◌, ◌%◌, ◌^◌, ◌<◌, ◌≤◌, Bool, cond, nat_lt, List, [], ◌∷◌, ◌++◌, length, replicate}
use Rattle.ft_model.specs.Classes.{IsClass}
use Rattle.ft_model.specs.Classes.{dict_entries}
use Rattle.ft_layout.specs.Sizes.{table_size}
use Rattle.ft_layout.specs.Starts.{tables_of_class, announced_word, free_count_word, block_start, box_size, shared_word, heap_size, words_below, BankSizes, Part, Counter, WriteNumber, Announced, FreeCount, FreeTables, Block, FreePlaces, Box, Table}
use Rattle.ft_trace.specs.declared.Shape.{Shape}
use Rattle.ft_trace.specs.Bits.{full}
use Rattle.ft_trace.specs.BoxWords.{dead_word}

-- A word of the bank: the counter; the write number; the announced number of a pass, by the number that lock words
-- have for it; the count of a class; a free word, sixteen for each class; of a container's block the lock, the
-- version, and words 2 to 7; of a pass's heap a word of the bits of its places, and of a box one of its four words; of
-- a table the goal, and the words after its header.
pub data Word : Type 0 where
  counter : Word
  write_number : Word
  announced_of : ℕ → Word
  count_of_class : ℕ → Word
  bits : ℕ → Word
  lock_of : ℕ → Word
  version_of : ℕ → Word
  block : ℕ → ℕ → Word
  heap_bits : ℕ → ℕ → Word
  box_word : ℕ → ℕ → Word
  header : ℕ → Word
  cell : ℕ → ℕ → Word

abbrev pub container_count : Shape → ℕ
container_count k = length k.starts

-- how many tables the bank has of a class
abbrev pub tables_in : Shape → ℕ → ℕ
tables_in k c = tables_of_class k.tables c

-- A table is named by its root word less 1: its class, and its number in the class.
unfoldable pub class_of : ℕ → ℕ
class_of t = t / 65536

unfoldable pub number_of : ℕ → ℕ
number_of t = t % 65536

-- the free word of the table, and its bit there
unfoldable pub free_word_of : ℕ → ℕ
free_word_of t = 16 * (class_of t - 3) + number_of t / 64

unfoldable pub free_bit_of : ℕ → ℕ
free_bit_of t = number_of t % 64

-- index slots of a table of this class, or items of a list's; and entries
unfoldable pub slots : ℕ → ℕ
slots c = 2 ^ c

unfoldable pub places : ℕ → ℕ
places c = dict_entries c

-- the words after the header
abbrev pub size : ℕ → ℕ
size c = slots c + 8 * places c

abbrev pub IsTableName : Shape → ℕ → Type 0
IsTableName k t = IsClass (class_of t) × (number_of t < tables_in k (class_of t)) × (number_of t < 1024)

-- A box is named by the pass that made it, which is its maker, and by its place in that pass's heap, in one number: the
-- payload of a value that stands in it.
unfoldable pub maker_of : ℕ → ℕ
maker_of b = b / 65536

unfoldable pub place_in : ℕ → ℕ
place_in b = b % 65536

-- the word of bits of its place, and the bit there
unfoldable pub place_word_of : ℕ → ℕ
place_word_of b = place_in b / 64

unfoldable pub place_bit_of : ℕ → ℕ
place_bit_of b = place_in b % 64

abbrev pub IsBoxName : Shape → ℕ → Type 0
IsBoxName k b = (maker_of b < k.passes) × (place_in b < k.heap) × (place_word_of b < k.heap / 64)

-- how many words the heap of a pass has
unfoldable pub heap_words : Shape → ℕ
heap_words k = heap_size k.heap

-- where the heap of a pass begins
unfoldable pub heap_from : Shape → ℕ → ℕ
heap_from k q = block_start (container_count k) + q * heap_words k

-- where the tables begin, where one does, and where they end
unfoldable pub far : Shape → ℕ
far k = heap_from k k.passes

unfoldable pub start_of : Shape → ℕ → ℕ
start_of k t = far k + words_below k.tables (class_of t) + number_of t * table_size (class_of t)

unfoldable pub extent : Shape → ℕ
extent k = far k + words_below k.tables 17

abbrev pub at : Shape → Word → ℕ
at k counter = 0
at k write_number = 1
at k (announced_of p) = announced_word (p - 1)
at k (count_of_class c) = free_count_word c
at k (bits w) = 80 + w
at k (lock_of o) = block_start o
at k (version_of o) = block_start o + 1
at k (block o i) = block_start o + 2 + i
at k (heap_bits q w) = heap_from k q + w
at k (box_word b i) = heap_from k (maker_of b) + k.heap / 64 + box_size * place_in b + i
at k (header t) = start_of k t + 1
at k (cell t i) = start_of k t + 2 + i

abbrev pub Inside : Shape → Word → Type 0
Inside k (announced_of p) = (0 < p) × (p ≤ 64)
Inside k (count_of_class c) = IsClass c
Inside k (bits w) = w < 224
Inside k (lock_of o) = o < container_count k
Inside k (version_of o) = o < container_count k
Inside k (block o i) = (o < container_count k) × (i < 6)
Inside k (heap_bits q w) = (q < k.passes) × (w < k.heap / 64)
Inside k (box_word b i) = IsBoxName k b × (i < box_size)
Inside k (header t) = IsTableName k t
Inside k (cell t i) = IsTableName k t × (i < size (class_of t))
Inside k a = Unit {0}

-- the counts at the start, from class c on
abbrev pub free_counts : List ℕ → ℕ → ℕ → List ℕ
free_counts tables c zero = []
free_counts tables c (suc n) = tables_of_class tables c ∷ free_counts tables (suc c) n

-- the free words at the start, from word w on
abbrev pub least : Bool → ℕ → ℕ
least b n = cond b n 64

abbrev pub free_bits : List ℕ → ℕ → ℕ
free_bits tables w =
    full (least (nat_lt (tables_of_class tables (3 + w / 16) - 64 * (w % 16)) 64) (tables_of_class tables (3
    + w / 16) - 64 * (w % 16)))

abbrev pub free_words : List ℕ → ℕ → ℕ → List ℕ
free_words tables w zero = []
free_words tables w (suc n) = free_bits tables w ∷ free_words tables (suc w) n

-- a word of a heap at the start: all places are free, and each box is dead
abbrev pub heap_first : Shape → ℕ → ℕ
heap_first k i =
    cond (nat_lt i (k.heap / 64)) (full 64) (cond ((i - k.heap / 64) % box_size == shared_word) dead_word 0)

-- what word i of the bank is at the start, from the blocks on
abbrev pub first_word : Shape → ℕ → ℕ
first_word k i =
    cond (nat_lt i (heap_from k 0)) 0 (cond (nat_lt i (far k)) (heap_first k ((i - heap_from k 0) % heap_words k)) 0)

-- the list of n words, from word `from` on, that a function gives
abbrev pub listed : (ℕ → ℕ) → ℕ → ℕ → List ℕ
listed f from zero = []
listed f from (suc n) = f from ∷ listed f (suc from) n

-- the words at the start: the write number is 1, all passes are offline, and all tables and places are free
abbrev pub opening : Shape → List ℕ
opening k =
    0 ∷ 1 ∷ (replicate 64 0 ++ (free_counts k.tables 3 14 ++ (free_words k.tables 0 224
    ++ listed (first_word k) 304 (extent k - 304))))

-- the part of the bank that a word is of
abbrev pub sizes_of : Shape → BankSizes
sizes_of k = record { containers = container_count k; heap = k.heap; passes = k.passes; tables = k.tables }

abbrev pub part_of : Word → Part
part_of counter = Counter
part_of write_number = WriteNumber
part_of (announced_of p) = Announced (p - 1)
part_of (count_of_class c) = FreeCount c
part_of (bits w) = FreeTables (3 + w / 16) (w % 16)
part_of (lock_of o) = Block o
part_of (version_of o) = Block o
part_of (block o i) = Block o
part_of (heap_bits q w) = FreePlaces q w
part_of (box_word b i) = Box (maker_of b) (place_in b)
part_of (header t) = Table (class_of t) (number_of t)
part_of (cell t i) = Table (class_of t) (number_of t)
