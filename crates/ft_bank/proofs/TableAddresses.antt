-- Where tables lie, by class and number.
use Rattle.std.proofs.Common.{Option, Some, ◌≡◌, ℕ, zero, suc, ◌+◌, ◌-◌, ◌*◌, ◌<◌, ◌≤◌, List, ◌∷◌, length, refl, sym, ap, ◌∙◌, subst, arith}
use Rattle.std.specs.Prelude.{slice_index_or}
use Rattle.ft_layout.specs.Sizes.{table_size}
use Rattle.ft_layout.specs.Starts.{words_below, table_start}
use Rattle.ft_model.specs.Classes.{IsClass}
use Rattle.ft_trace.specs.declared.Shape.{Shape}
use Rattle.ft_trace.specs.Addresses.{container_count, class_of, number_of, tables_in, heap_from, heap_words, far, start_of, extent, at, cell, size, IsTableName}
use Rattle.ft_trace.proofs.Addresses.{class_of_number, number_of_number, start_high}
use Rattle.ft_bank.specs.declared.table.Table.{Table}
use Rattle.ft_bank.specs.TableNames.{table_id, IsTableIn, starts_from, sizes_from}

pub class_is : (t : Table) → t.number < 1024 → class_of (table_id t) ≡ t.class
class_is t low = class_of_number t.class t.number low

pub number_is : (t : Table) → t.number < 1024 → number_of (table_id t) ≡ t.number
number_is t low = number_of_number t.class t.number low

pub named : (k : Shape) (t : Table) → IsTableIn k t → IsTableName k (table_id t)
named k t is =
    let c = class_is t is.2 in
    let n = number_is t is.2 in
    subst (λ (x : ℕ × ℕ). IsClass x.0 × (x.1 < tables_in k x.0) × (x.1 < 1024)) (λ d. (sym c d, sym n d)) is

pub starts_next : (k : Shape) (i : ℕ) → i < 14 → starts_from k (3 + i) (14 - i) ≡ (far k + words_below k.tables (3 + i)) ∷ starts_from k (3 + (i + 1)) (14 - (i + 1))
starts_next k i low =
    let e : 14 - i ≡ suc (14 - (i + 1)) = omega arith in
    let n : suc (3 + i) ≡ 3 + (i + 1) = omega arith in
    ap (starts_from k (3 + i)) e ∙ (λ d. (far k + words_below k.tables (3 + i)) ∷ starts_from k (n d) (14 - (i + 1)))

pub sizes_next : (i : ℕ) → i < 14 → sizes_from (3 + i) (14 - i) ≡ table_size (3 + i) ∷ sizes_from (3 + (i + 1)) (14 - (i + 1))
sizes_next i low =
    let e : 14 - i ≡ suc (14 - (i + 1)) = omega arith in
    let n : suc (3 + i) ≡ 3 + (i + 1) = omega arith in
    ap (sizes_from (3 + i)) e ∙ (λ d. table_size (3 + i) ∷ sizes_from (n d) (14 - (i + 1)))

starts_at : (k : Shape) (c n i d : ℕ) → i < n → slice_index_or (starts_from k c n) i d ≡ far k + words_below k.tables (c + i)
starts_at k c zero i d low = absurd (omega arith)
starts_at k c (suc n) zero d low = ap (λ (z : ℕ). far k + words_below k.tables z) (omega arith)
starts_at k c (suc n) (suc i) d low = starts_at k (suc c) n i d (omega arith) ∙ ap (λ (z : ℕ). far k + words_below k.tables z) (omega arith)

sizes_at : (c n i d : ℕ) → i < n → slice_index_or (sizes_from c n) i d ≡ table_size (c + i)
sizes_at c zero i d low = absurd (omega arith)
sizes_at c (suc n) zero d low = ap table_size (omega arith)
sizes_at c (suc n) (suc i) d low = sizes_at (suc c) n i d (omega arith) ∙ ap table_size (omega arith)

-- what the lists have for a class
pub start_found : (k : Shape) (l : List ℕ) (c x : ℕ) → l ≡ starts_from k 3 14 → IsClass c → x ≡ slice_index_or l (c - 3) x → x ≡ far k + words_below k.tables c
start_found k l c x is class at =
    at ∙ (ap (λ (z : List ℕ). slice_index_or z (c - 3) x) is ∙ (starts_at k 3 14 (c - 3) x (let a = class.least in let b = class.greatest in omega (arith, a, b)) ∙ ap (λ (z : ℕ). far k + words_below k.tables z) (let a = class.least in omega (arith, a))))

pub size_found : (l : List ℕ) (c x : ℕ) → l ≡ sizes_from 3 14 → IsClass c → x ≡ slice_index_or l (c - 3) x → x ≡ table_size c
size_found l c x is class at =
    at ∙ (ap (λ (z : List ℕ). slice_index_or z (c - 3) x) is ∙ (sizes_at 3 14 (c - 3) x (let a = class.least in let b = class.greatest in omega (arith, a, b)) ∙ ap table_size (let a = class.least in omega (arith, a))))

pub starts_long : (k : Shape) (c n : ℕ) → length (starts_from k c n) ≡ n
starts_long k c zero = refl
starts_long k c (suc n) = ap suc (starts_long k (suc c) n)

pub sizes_long : (c n : ℕ) → length (sizes_from c n) ≡ n
sizes_long c zero = refl
sizes_long c (suc n) = ap suc (sizes_long (suc c) n)

-- where the first table of a class begins
pub start_first : (k : Shape) (c : ℕ) → table_start (container_count k) k.heap k.passes k.tables c 0 ≡ far k + words_below k.tables c
unfolding far heap_from heap_words
start_first k c = omega arith

-- where a table begins
pub start_at : (k : Shape) (t : Table) → t.number < 1024 → start_of k (table_id t) ≡ far k + words_below k.tables t.class + t.number * table_size t.class
unfolding start_of
start_at k t low = (λ d. far k + words_below k.tables (class_is t low d) + number_is t low d * table_size (class_is t low d))

-- where its words lie after its header, and that they do
pub cell_sum : (k : Shape) (t : Table) (x y n : ℕ) → IsTableIn k t → x ≡ far k + words_below k.tables t.class → y ≡ table_size t.class → n ≡ t.number
    → (x + n * y + 2 ≡ at k (cell (table_id t) 0)) × (x + n * y + 2 + size (class_of (table_id t)) ≤ extent k)
cell_sum k t x y n is a b e =
    let s = start_at k t is.2 in
    let p : n * y ≡ t.number * table_size t.class = λ d. e d * b d in
    let h = start_high k (table_id t) (named k t is) in
    (omega (arith, a, p, s), omega (arith, a, p, s, h))

pub each_named : (k l : Shape) (root : Option Table) → l ≡ k → ((t : Table) → root ≡ Some t → IsTableIn k t) → (t : Table) → root ≡ Some t → IsTableName l (table_id t)
each_named k l root same is t e = subst (λ (z : Shape). IsTableName z (table_id t)) (sym same) (named k t (is t e))
