-- Each word of a bank is one part's.
use Rattle.std.proofs.Common.{◌≡◌, ℕ, zero, suc, ◌+◌, ◌-◌, ◌*◌, ◌/◌, ◌%◌, ◌<◌, ◌≤◌, cond, ltb, List, refl, sym, ap, ◌∙◌, subst, inl, inr, arith}
use Rattle.std.proofs.lemmas.Bool.{cases_lt, cases_eq}
use Rattle.std.proofs.lemmas.Bool.Decides.{nat_tests}
use Rattle.std.proofs.Math.Nat.{mul-le-mul_right, div-mul-le_self, lt-div-mul-add, div-lt_iff_lt-mul}
use Rattle.ft_model.specs.Classes.{IsClass}
use Rattle.ft_layout.specs.Sizes.{table_size}
use Rattle.ft_layout.specs.Starts.{tables_of_class, block_start, heap_size, heap_start, words_below, BankSizes, Part, HasWord, bank_size}
use Rattle.ft_layout.specs.Starts.Part.{Counter, WriteNumber, Announced, FreeCount, FreeTables, Block, FreePlaces, Box, Table}
use Rattle.ft_layout.proofs.Powers.{words_below-none, words_below-more}

-- ---- stretches of one length, one after the other

next_stretch : (p q size : ℕ) → p < q → p * size + size ≤ q * size
next_stretch p q size less = let h : (p + 1) * size ≤ q * size = mul-le-mul_right size (omega arith) in omega (arith, h)

-- a number lies in one of them
same_stretch : (p q size n : ℕ) → p * size ≤ n → n < p * size + size → q * size ≤ n → n < q * size + size → p ≡ q
same_stretch p q size n a b c d =
    elim (cases_eq p q) [
      | inl same ↦ same
      | inr differ ↦ elim (cases_lt p q) [
        | inl less ↦ absurd (let h = next_stretch p q size less in omega arith)
        | inr more ↦ absurd (let h = next_stretch q p size (omega arith) in omega arith)
      ]
    ]

-- and the quotient tells in which
own_stretch : (n size : ℕ) → 0 < size → (n / size * size ≤ n) × (n < n / size * size + size)
own_stretch n size some = (div-mul-le_self n size, lt-div-mul-add {b = size} some)

-- ---- classes

-- the tables of a class lie before those of a higher one
class_before : (tables : List ℕ) (low k high : ℕ) → 3 ≤ low → high ≡ low + 1 + k → words_below tables low + tables_of_class tables low * table_size low ≤ words_below tables high
class_before tables low zero high from is =
    let e : words_below tables high ≡ words_below tables (low + 1) = let n : high ≡ low + 1 = omega arith in ap (words_below tables) n in
    omega (arith, e, words_below-more tables low from)
class_before tables low (suc k) high from is =
    let h = class_before tables low k (low + 1 + k) from refl in
    let e : words_below tables high ≡ words_below tables (low + 1 + k + 1) = let n : high ≡ low + 1 + k + 1 = omega arith in ap (words_below tables) n in
    omega (arith, h, e, words_below-more tables (low + 1 + k) (omega arith))

class_lower : (tables : List ℕ) (low high : ℕ) → 3 ≤ low → low < high → words_below tables low + tables_of_class tables low * table_size low ≤ words_below tables high
class_lower tables low high from less = class_before tables low (high - (low + 1)) high from (omega arith)

-- the words of a table are among those of its class
in_class : (tables : List ℕ) (class number : ℕ) → number < tables_of_class tables class → number * table_size class + table_size class ≤ tables_of_class tables class * table_size class
in_class tables class number less = next_stretch number (tables_of_class tables class) (table_size class) less

-- ---- zones: the parts of one kind lie in one

zone : BankSizes → ℕ → ℕ
zone bank word =
    cond (ltb word 1) 0 (cond (ltb word 2) 1 (cond (ltb word 66) 2 (cond (ltb word 80) 3 (cond (ltb word 304) 4 (cond (ltb word (block_start bank.containers)) 5 (cond (ltb word (heap_start bank.containers bank.heap bank.passes)) 6 7))))))

zone_of : Part → ℕ
zone_of Counter = 0
zone_of WriteNumber = 1
zone_of (Announced pass) = 2
zone_of (FreeCount class) = 3
zone_of (FreeTables class x) = 4
zone_of (Block container) = 5
zone_of (FreePlaces pass word) = 6
zone_of (Box pass place) = 6
zone_of (Table class number) = 7

in_zone : (bank : BankSizes) (part : Part) (word : ℕ) → HasWord bank part word → zone bank word ≡ zone_of part
unfolding zone zone_of
in_zone bank Counter word is = let a = is.before in grind (arith, nat_tests)
in_zone bank WriteNumber word is = let a = is.before in let b = is.from in grind (arith, nat_tests)
in_zone bank (Announced pass) word is = let a = is.before in let b = is.from in let i : pass < 64 = is.is_part in grind (arith, nat_tests)
in_zone bank (FreeCount class) word is = let a = is.before in let b = is.from in let i = is.is_part in let least = i.least in let most = i.greatest in grind (arith, nat_tests)
in_zone bank (FreeTables class x) word is = let a = is.before in let b = is.from in let i = is.is_part.0 in let least = i.least in let most = i.greatest in let j : x < 16 = is.is_part.1 in grind (arith, nat_tests)
in_zone bank (Block container) word is = let a = is.before in let b = is.from in let i : container < bank.containers = is.is_part in grind (arith, nat_tests)
in_zone bank (FreePlaces pass place) word is =
    let a = is.before in
    let b = is.from in
    let h = next_stretch pass bank.passes (heap_size bank.heap) is.is_part.0 in
    let i : place < bank.heap / 64 = is.is_part.1 in
    grind (arith, nat_tests)
in_zone bank (Box pass place) word is =
    let a = is.before in
    let b = is.from in
    let h = next_stretch pass bank.passes (heap_size bank.heap) is.is_part.0 in
    let i : place < bank.heap = is.is_part.1 in
    grind (arith, nat_tests)
in_zone bank (Table class number) word is = let b = is.from in grind (arith, nat_tests)

-- ---- a word is of one part

module _ (bank : BankSizes) (word : ℕ) where
  -- of the heaps of two passes, both with this word
  same_pass : (p q : ℕ) → heap_start bank.containers bank.heap p ≤ word → word < heap_start bank.containers bank.heap p + heap_size bank.heap → heap_start bank.containers bank.heap q ≤ word → word < heap_start bank.containers bank.heap q + heap_size bank.heap → p ≡ q
  same_pass p q a b c d =
      let n = word - block_start bank.containers in
      same_stretch p q (heap_size bank.heap) n (omega arith) (omega arith) (omega arith) (omega arith)

  -- the heap of a pass has the words of its bits and boxes
  in_heap : (p x : ℕ) → HasWord bank (FreePlaces p x) word → (heap_start bank.containers bank.heap p ≤ word) × (word < heap_start bank.containers bank.heap p + heap_size bank.heap)
  in_heap p x is = let a = is.from in let b = is.before in let i : x < bank.heap / 64 = is.is_part.1 in (omega arith, omega arith)

  in_heap_box : (p x : ℕ) → HasWord bank (Box p x) word → (heap_start bank.containers bank.heap p ≤ word) × (word < heap_start bank.containers bank.heap p + heap_size bank.heap)
  in_heap_box p x is = let a = is.from in let b = is.before in let i : x < bank.heap = is.is_part.1 in (omega arith, omega arith)

  same_bits : (p x q y : ℕ) → HasWord bank (FreePlaces p x) word → HasWord bank (FreePlaces q y) word → FreePlaces p x ≡ FreePlaces q y
  same_bits p x q y f g =
      let a = in_heap p x f in
      let b = in_heap q y g in
      let pass : p ≡ q = same_pass p q a.0 a.1 b.0 b.1 in
      let start : heap_start bank.containers bank.heap p ≡ heap_start bank.containers bank.heap q = ap (heap_start bank.containers bank.heap) pass in
      let place : x ≡ y = let c = f.from in let d = f.before in let e = g.from in let h = g.before in omega arith in
      ap (λ (n : ℕ). FreePlaces n x) pass ∙ ap (FreePlaces q) place

  same_box : (p x q y : ℕ) → HasWord bank (Box p x) word → HasWord bank (Box q y) word → Box p x ≡ Box q y
  same_box p x q y f g =
      let a = in_heap_box p x f in
      let b = in_heap_box q y g in
      let pass : p ≡ q = same_pass p q a.0 a.1 b.0 b.1 in
      let start : heap_start bank.containers bank.heap p ≡ heap_start bank.containers bank.heap q = ap (heap_start bank.containers bank.heap) pass in
      let place : x ≡ y = let c = f.from in let d = f.before in let e = g.from in let h = g.before in omega arith in
      ap (λ (n : ℕ). Box n x) pass ∙ ap (Box q) place

  bits_no_box : (p x q y : ℕ) → HasWord bank (FreePlaces p x) word → HasWord bank (Box q y) word → ⊥
  bits_no_box p x q y f g =
      let a = in_heap p x f in
      let b = in_heap_box q y g in
      let pass : p ≡ q = same_pass p q a.0 a.1 b.0 b.1 in
      let start : heap_start bank.containers bank.heap p ≡ heap_start bank.containers bank.heap q = ap (heap_start bank.containers bank.heap) pass in
      let d = f.before in
      let i : x < bank.heap / 64 = f.is_part.1 in
      let e = g.from in
      omega arith

  -- the words of a table's class, after the heaps
  in_tables : (class number : ℕ) → HasWord bank (Table class number) word → (heap_start bank.containers bank.heap bank.passes + words_below bank.tables class ≤ word) × (word < heap_start bank.containers bank.heap bank.passes + words_below bank.tables class + tables_of_class bank.tables class * table_size class)
  in_tables class number is =
      let a = is.from in
      let b = is.before in
      let h = in_class bank.tables class number is.is_part.1 in
      (omega arith, omega arith)

  not_lower : (c m d n : ℕ) → HasWord bank (Table c m) word → HasWord bank (Table d n) word → c < d → ⊥
  not_lower c m d n f g less =
      let a = in_tables c m f in
      let b = in_tables d n g in
      let low : 3 ≤ c = f.is_part.0.least in
      let h = class_lower bank.tables c d low less in
      omega arith

  same_class : (c m d n : ℕ) → HasWord bank (Table c m) word → HasWord bank (Table d n) word → c ≡ d
  same_class c m d n f g =
      elim (cases_eq c d) [
        | inl same ↦ same
        | inr differ ↦ elim (cases_lt c d) [
          | inl less ↦ absurd (not_lower c m d n f g less)
          | inr more ↦ absurd (not_lower d n c m g f (omega arith))
        ]
      ]

  same_number : (c m n : ℕ) → HasWord bank (Table c m) word → HasWord bank (Table c n) word → m ≡ n
  same_number c m n f g =
      let a = f.from in
      let b = f.before in
      let d = g.from in
      let e = g.before in
      let base = heap_start bank.containers bank.heap bank.passes + words_below bank.tables c in
      same_stretch m n (table_size c) (word - base) (omega arith) (omega arith) (omega arith) (omega arith)

  same_table : (c m d n : ℕ) → HasWord bank (Table c m) word → HasWord bank (Table d n) word → Table c m ≡ Table d n
  same_table c m d n f g =
      let class : c ≡ d = same_class c m d n f g in
      let f' : HasWord bank (Table d m) word = subst (λ (k : ℕ). HasWord bank (Table k m) word) class f in
      ap (λ (k : ℕ). Table k m) class ∙ ap (Table d) (same_number d m n f' g)

  same_announced : (p q : ℕ) → HasWord bank (Announced p) word → HasWord bank (Announced q) word → p ≡ q
  same_announced p q f g = let a = f.from in let b = f.before in let c = g.from in let d = g.before in omega arith

  same_count : (p q : ℕ) → HasWord bank (FreeCount p) word → HasWord bank (FreeCount q) word → p ≡ q
  same_count p q f g = let a = f.from in let b = f.before in let c = g.from in let d = g.before in let i = f.is_part in let least = i.least in let most = i.greatest in let j = g.is_part in let low_class = j.least in let high_class = j.greatest in omega arith

  same_free : (p x q y : ℕ) → HasWord bank (FreeTables p x) word → HasWord bank (FreeTables q y) word → FreeTables p x ≡ FreeTables q y
  same_free p x q y f g =
      let a = f.from in
      let b = f.before in
      let c = g.from in
      let d = g.before in
      let i = f.is_part.0 in let least = i.least in let most = i.greatest in
      let j = g.is_part.0 in let low_class = j.least in let high_class = j.greatest in
      let low : x < 16 = f.is_part.1 in
      let less : y < 16 = g.is_part.1 in
      let class : p ≡ q = omega arith in
      let place : x ≡ y = omega arith in
      ap (λ (n : ℕ). FreeTables n x) class ∙ ap (FreeTables q) place

  same_block : (p q : ℕ) → HasWord bank (Block p) word → HasWord bank (Block q) word → p ≡ q
  same_block p q f g = let a = f.from in let b = f.before in let c = g.from in let d = g.before in omega arith

  part_in_zone : (a b : Part) → zone_of a ≡ zone_of b → HasWord bank a word → HasWord bank b word → a ≡ b
  unfolding zone_of
  part_in_zone Counter Counter e f g = refl
  part_in_zone WriteNumber WriteNumber e f g = refl
  part_in_zone (Announced p) (Announced q) e f g = ap Announced (same_announced p q f g)
  part_in_zone (FreeCount p) (FreeCount q) e f g = ap FreeCount (same_count p q f g)
  part_in_zone (FreeTables p x) (FreeTables q y) e f g = same_free p x q y f g
  part_in_zone (Block p) (Block q) e f g = ap Block (same_block p q f g)
  part_in_zone (FreePlaces p x) (FreePlaces q y) e f g = same_bits p x q y f g
  part_in_zone (Box p x) (Box q y) e f g = same_box p x q y f g
  part_in_zone (FreePlaces p x) (Box q y) e f g = absurd (bits_no_box p x q y f g)
  part_in_zone (Box p x) (FreePlaces q y) e f g = absurd (bits_no_box q y p x g f)
  part_in_zone (Table c m) (Table d n) e f g = same_table c m d n f g
  part_in_zone a b e f g = absurd (omega (arith, e))

  pub one_part : (a b : Part) → HasWord bank a word → HasWord bank b word → a ≡ b
  one_part a b f g = part_in_zone a b (sym (in_zone bank a word f) ∙ in_zone bank b word g) f g

-- ---- no word is of no part

module _ (bank : BankSizes) (word : ℕ) where
  abbrev Owner : Type 0
  Owner = (part : Part) × HasWord bank part word

  shared_word : word < 304 → Owner
  shared_word low =
      elim (cases_lt word 1) [
        | inl first ↦ (Counter, record { is_part = tt; from = omega arith; before = omega arith })
        | inr a ↦ elim (cases_lt word 2) [
          | inl second ↦ (WriteNumber, record { is_part = tt; from = omega arith; before = omega arith })
          | inr b ↦ elim (cases_lt word 66) [
            | inl announced ↦ (Announced (word - 2), record { is_part = omega arith; from = omega arith; before = omega arith })
            | inr c ↦ elim (cases_lt word 80) [
              | inl count ↦ (FreeCount (word - 63), record { is_part = record { least = omega arith; greatest = omega arith }; from = omega arith; before = omega arith })
              | inr d ↦ (FreeTables ((word - 80) / 16 + 3) ((word - 80) % 16), record { is_part = (record { least = omega arith; greatest = omega arith }, omega arith); from = omega arith; before = omega arith })
            ]
          ]
        ]
      ]

  block_word : 304 ≤ word → word < block_start bank.containers → Owner
  block_word low high = (Block ((word - 304) / 8), record { is_part = omega arith; from = omega arith; before = omega arith })

  -- a word of the heap of this pass
  heap_word : (pass : ℕ) → pass < bank.passes → heap_start bank.containers bank.heap pass ≤ word → word < heap_start bank.containers bank.heap pass + heap_size bank.heap → Owner
  heap_word pass of low high =
      let start = heap_start bank.containers bank.heap pass in
      let bits = bank.heap / 64 in
      elim (cases_lt word (start + bits)) [
        | inl bit ↦ (FreePlaces pass (word - start), record { is_part = (of, omega arith); from = omega arith; before = omega arith })
        | inr box ↦ (Box pass ((word - start - bits) / 4), record { is_part = (of, omega arith); from = omega arith; before = omega arith })
      ]

  heaps_word : block_start bank.containers ≤ word → word < heap_start bank.containers bank.heap bank.passes → Owner
  heaps_word low high =
      let n = word - block_start bank.containers in
      let size = heap_size bank.heap in
      let some : 0 < size = elim (cases_eq size 0) [
        | inl none ↦ absurd (let e : bank.passes * size ≡ bank.passes * 0 = ap (λ (s : ℕ). bank.passes * s) none in omega arith)
        | inr there ↦ omega arith
      ] in
      let own = own_stretch n size some in
      let pass : n / size < bank.passes = (div-lt_iff_lt-mul some).1 (omega arith) in
      heap_word (n / size) pass (omega arith) (omega arith)

  -- a word of the tables of this class
  class_word : (class : ℕ) → IsClass class → heap_start bank.containers bank.heap bank.passes + words_below bank.tables class ≤ word → word < heap_start bank.containers bank.heap bank.passes + words_below bank.tables class + tables_of_class bank.tables class * table_size class → Owner
  class_word class is low high =
      let base = heap_start bank.containers bank.heap bank.passes + words_below bank.tables class in
      let size = table_size class in
      let some : 0 < size = omega arith in
      let own = own_stretch (word - base) size some in
      let number : (word - base) / size < tables_of_class bank.tables class = (div-lt_iff_lt-mul some).1 (omega arith) in
      (Table class ((word - base) / size), record { is_part = (is, number); from = omega arith; before = omega arith })

  tables_word : (k : ℕ) → k ≤ 14 → heap_start bank.containers bank.heap bank.passes ≤ word → word < heap_start bank.containers bank.heap bank.passes + words_below bank.tables (3 + k) → Owner
  tables_word zero few low high =
      let none : words_below bank.tables (3 + 0) ≡ 0 = let n : 3 + 0 ≡ 3 = omega arith in ap (words_below bank.tables) n ∙ words_below-none bank.tables in
      absurd (omega (arith, none))
  tables_word (suc k) few low high =
      let more = words_below-more bank.tables (3 + k) (omega arith) in
      let next : words_below bank.tables (3 + suc k) ≡ words_below bank.tables (3 + k + 1) = let n : 3 + suc k ≡ 3 + k + 1 = omega arith in ap (words_below bank.tables) n in
      elim (cases_lt word (heap_start bank.containers bank.heap bank.passes + words_below bank.tables (3 + k))) [
        | inl lower ↦ tables_word k (omega arith) low lower
        | inr here ↦ class_word (3 + k) (record { least = omega arith; greatest = omega arith }) here (omega (arith, more, next))
      ]

  pub some_part : word < bank_size bank → Owner
  some_part low =
      elim (cases_lt word 304) [
        | inl shared ↦ shared_word shared
        | inr a ↦ elim (cases_lt word (block_start bank.containers)) [
          | inl block ↦ block_word a block
          | inr b ↦ elim (cases_lt word (heap_start bank.containers bank.heap bank.passes)) [
            | inl heap ↦ heaps_word b heap
            | inr c ↦ tables_word 14 (omega arith) c (omega (arith, low))
          ]
        ]
      ]

  -- and a part's words are the bank's
  pub within_bank : (part : Part) → HasWord bank part word → word < bank_size bank
  within_bank Counter is = let b = is.before in omega arith
  within_bank WriteNumber is = let b = is.before in omega arith
  within_bank (Announced pass) is = let b = is.before in let i : pass < 64 = is.is_part in omega arith
  within_bank (FreeCount class) is = let b = is.before in let i = is.is_part in let least = i.least in let most = i.greatest in omega arith
  within_bank (FreeTables class x) is = let b = is.before in let i = is.is_part.0 in let least = i.least in let most = i.greatest in let j : x < 16 = is.is_part.1 in omega arith
  within_bank (Block container) is = let b = is.before in let i : container < bank.containers = is.is_part in omega arith
  within_bank (FreePlaces pass x) is = let b = in_heap bank word pass x is in let h = next_stretch pass bank.passes (heap_size bank.heap) is.is_part.0 in omega arith
  within_bank (Box pass x) is = let b = in_heap_box bank word pass x is in let h = next_stretch pass bank.passes (heap_size bank.heap) is.is_part.0 in omega arith
  within_bank (Table class number) is =
      let b = in_tables bank word class number is in
      let high : class < 17 = let i = is.is_part.0 in let least = i.least in let most = i.greatest in omega arith in
      let h = class_lower bank.tables class 17 is.is_part.0.least high in
      omega arith
