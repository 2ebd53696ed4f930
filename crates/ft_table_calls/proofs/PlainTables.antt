-- Tables whose values all stand in place: they name no box, and read as they stand.
use Rattle.std.proofs.Common.{◌≡◌, ◌≢◌, ℕ, zero, suc, ◌<◌, eqb, cond, List, refl, ◌∙◌, arith}
use Rattle.std.specs.Prelude.{slice_index, slice_set}
use Rattle.ft_model.specs.declared.script.Kind.{Kind}
use Rattle.ft_trace.specs.Addresses.{class_of}
use Rattle.ft_trace.specs.Boxes.{value_at, names_box_at, named_in_root}
use Rattle.ft_trace.specs.Kinds.{rows}
use Rattle.ft_trace.specs.Unboxed.{unboxed_kind, unboxed_payload, unboxed_rows, unboxed_table, with_value}
use Rattle.ft_trace.proofs.Cases.{miss}
use Rattle.ft_trace.proofs.ReadTables.{set_self}
use Rattle.ft_trace.proofs.Sums.{sum_none}

-- no value of the first n rows names a box
abbrev pub ArePlain : Kind → ℕ → List ℕ → ℕ → Type 0
ArePlain kind class table n = (p : ℕ) → p < n → slice_index table (value_at kind class p) ≢ 4

pub plain_named : (b t : ℕ) (kind : Kind) (table : List ℕ) → ArePlain kind (class_of t) table (rows kind (class_of t)) → named_in_root b kind (suc t) table ≡ 0
plain_named b t kind table plain =
    sum_none (names_box_at b kind (class_of t) table) (rows kind (class_of t))
    (λ p low. miss (slice_index table (value_at kind (class_of t) p)) 4 (cond (eqb (slice_index table (suc (value_at kind (class_of t) p))) b) 1 0) 0 (plain p low))

plain_rows : (box : ℕ → ℕ → ℕ) (kind : Kind) (class n : ℕ) (table : List ℕ) → ArePlain kind class table n → unboxed_rows box kind class n table ≡ table
plain_rows box kind class zero table plain = refl
plain_rows box kind class (suc p) table plain =
    let place = value_at kind class p in
    let found = slice_index table place in
    let payload = slice_index table (suc place) in
    let ne = plain p (omega arith) in
    let one : unboxed_kind box found payload ≡ found = miss found 4 (box payload 1) found ne in
    let two : unboxed_payload box found payload ≡ payload = miss found 4 (box payload 2) payload ne in
    let before = plain_rows box kind class p table (λ q low. plain q (omega (arith, low))) in
    (λ d. with_value place (one d) (two d) (before d))
    ∙ ((λ d. slice_set (set_self table place d) (suc place) payload) ∙ set_self table (suc place))

pub plain_reads : (box : ℕ → ℕ → ℕ) (kind : Kind) (t : ℕ) (table : List ℕ) → ArePlain kind (class_of t) table (rows kind (class_of t)) → unboxed_table box kind (suc t) table ≡ table
plain_reads box kind t table plain = plain_rows box kind (class_of t) (rows kind (class_of t)) table plain
