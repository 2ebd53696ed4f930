-- Where in the bank's list of words each part lies: the words for all, a block of each container, the heap of each
-- pass, and the tables, class by class. (profile)
use Rattle.std.specs.Prelude.{◌≡◌, ℕ, ◌+◌, ◌-◌, ◌*◌, ◌/◌, ◌%◌, ◌<◌, ◌≤◌, List, length, map, sum, All, slice_index}
use Rattle.std.specs.List.{range_with_len}
use Rattle.ft_model.specs.Classes.{IsClass}
use Rattle.ft_layout.specs.Sizes.{table_size}

-- ---- limits

abbrev pub IsHeap : ℕ → Type 0
IsHeap heap = (64 ≤ heap) × (heap ≤ 4096) × (heap % 64 ≡ 0)

-- how many tables there are of each class, class 3 first
pub record AreTables (tables : List ℕ) : Type 0 where
  pub classes : length tables ≡ 14
  pub counts : All (λ count. (1 ≤ count) × (count ≤ 1024)) tables

abbrev pub tables_of_class : List ℕ → ℕ → ℕ
tables_of_class tables class = slice_index tables (class - 3)

-- ---- starts

-- the announced number of a pass, after the counter and the write number
abbrev pub announced_word : ℕ → ℕ
announced_word pass = 2 + pass

-- how many tables of a class are free, after the announced numbers of 64 passes
abbrev pub free_count_word : ℕ → ℕ
free_count_word class = 66 + (class - 3)

-- which tables of a class are free, a bit for each, 64 in a word, after the counts of 14 classes
abbrev pub free_word : ℕ → ℕ → ℕ
free_word class word = 80 + 16 * (class - 3) + word

-- a block has eight words; blocks lie after the sixteen free words of each of 14 classes
abbrev pub block_start : ℕ → ℕ
block_start container = 304 + 8 * container

-- The words of a box, from its start on: the count that all passes share, the kind and the payload of the value in it,
-- and the count that the pass which made it keeps for itself. (two counts: PEP 703, "Biased Reference Counting")
abbrev pub shared_word : ℕ
shared_word = 0

abbrev pub kind_word : ℕ
kind_word = 1

abbrev pub payload_word : ℕ
payload_word = 2

abbrev pub local_word : ℕ
local_word = 3

abbrev pub box_size : ℕ
box_size = 4

-- the heap of a pass: a bit for each place, 64 in a word, and then a box for each place
abbrev pub heap_size : ℕ → ℕ
heap_size heap = heap / 64 + box_size * heap

-- heaps lie after the blocks
abbrev pub heap_start : ℕ → ℕ → ℕ → ℕ
heap_start containers heap pass = block_start containers + pass * heap_size heap

-- which places of a heap are free, a bit for each, 64 in a word
abbrev pub free_place_word : ℕ → ℕ → ℕ → ℕ → ℕ
free_place_word containers heap pass word = heap_start containers heap pass + word

abbrev pub box_start : ℕ → ℕ → ℕ → ℕ → ℕ
box_start containers heap pass place = heap_start containers heap pass + heap / 64 + box_size * place

-- how many words the tables of all lower classes have
unfoldable pub words_below : List ℕ → ℕ → ℕ
words_below tables class =
    sum (map (λ below. tables_of_class tables below * table_size below) (range_with_len 3 (class - 3)))

-- tables lie after the heaps
abbrev pub table_start : ℕ → ℕ → ℕ → List ℕ → ℕ → ℕ → ℕ
table_start containers heap passes tables class number =
    heap_start containers heap passes + words_below tables class + number * table_size class

-- ---- parts of a bank

-- how many containers there are, places in the heap of each pass, passes, and tables of each class
pub record BankSizes : Type 0 where
  pub containers : ℕ
  pub heap : ℕ
  pub passes : ℕ
  pub tables : List ℕ

pub data Part : Type 0 where
  Counter : Part
  WriteNumber : Part
  Announced : ℕ → Part
  FreeCount : ℕ → Part
  FreeTables : ℕ → ℕ → Part
  Block : ℕ → Part
  FreePlaces : ℕ → ℕ → Part
  Box : ℕ → ℕ → Part
  Table : ℕ → ℕ → Part

-- the bank has this part: an announced number of a pass, the count or a free word of a class, a block of a container, a
-- word of bits or a box of a pass, a table of a class
abbrev pub IsPart : BankSizes → Part → Type 0
IsPart bank Counter = Unit {0}
IsPart bank WriteNumber = Unit {0}
IsPart bank (Announced pass) = pass < 64
IsPart bank (FreeCount class) = IsClass class
IsPart bank (FreeTables class word) = IsClass class × (word < 16)
IsPart bank (Block container) = container < bank.containers
IsPart bank (FreePlaces pass word) = (pass < bank.passes) × (word < bank.heap / 64)
IsPart bank (Box pass place) = (pass < bank.passes) × (place < bank.heap)
IsPart bank (Table class number) = IsClass class × (number < tables_of_class bank.tables class)

abbrev pub part_start : BankSizes → Part → ℕ
part_start bank Counter = 0
part_start bank WriteNumber = 1
part_start bank (Announced pass) = announced_word pass
part_start bank (FreeCount class) = free_count_word class
part_start bank (FreeTables class word) = free_word class word
part_start bank (Block container) = block_start container
part_start bank (FreePlaces pass word) = free_place_word bank.containers bank.heap pass word
part_start bank (Box pass place) = box_start bank.containers bank.heap pass place
part_start bank (Table class number) = table_start bank.containers bank.heap bank.passes bank.tables class number

abbrev pub part_size : Part → ℕ
part_size Counter = 1
part_size WriteNumber = 1
part_size (Announced pass) = 1
part_size (FreeCount class) = 1
part_size (FreeTables class word) = 1
part_size (Block container) = 8
part_size (FreePlaces pass word) = 1
part_size (Box pass place) = box_size
part_size (Table class number) = table_size class

-- the part has this word of the bank
pub record HasWord (bank : BankSizes) (part : Part) (word : ℕ) : Type 0 where
  pub is_part : IsPart bank part
  pub from : part_start bank part ≤ word
  pub before : word < part_start bank part + part_size part

-- how many words the bank has
abbrev pub bank_size : BankSizes → ℕ
bank_size bank = table_start bank.containers bank.heap bank.passes bank.tables 17 0
