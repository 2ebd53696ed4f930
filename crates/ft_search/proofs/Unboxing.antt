-- Boxes by their names, values as they read, and what a put over a value leaves.
use Rattle.std.proofs.Common.{◌≡◌, ◌≢◌, ℕ, suc, ◌+◌, ◌*◌, ◌/◌, ◌%◌, ◌^◌, ◌<◌, ◌≤◌, List, length, sym, ap, ◌∙◌, subst, arith}
use Rattle.std.specs.Prelude.{slice_index}
use Rattle.std.proofs.Math.Bridge.{le_prop}
use Rattle.std.proofs.Math.Logic.{∥∥₁_elim}
use Rattle.ft_layout.specs.declared.slot.Ref.{Ref}
use Rattle.ft_model.specs.declared.script.Kind.{Kind}
use Rattle.ft_trace.specs.declared.Shape.{Shape}
use Rattle.ft_trace.specs.declared.View.{View}
use Rattle.ft_trace.specs.Addresses.{class_of, size, maker_of, place_in, IsBoxName}
use Rattle.ft_trace.specs.Boxes.{value_at, known_box_word}
use Rattle.ft_trace.specs.ContainerStates.{kind_in}
use Rattle.ft_trace.specs.Holds.{held_words, held_unboxed}
use Rattle.ft_trace.specs.Kinds.{rows}
use Rattle.ft_trace.specs.Pictures.{ContainerWords, root_in}
use Rattle.ft_trace.specs.Traces.{IsReachable}
use Rattle.ft_trace.specs.Unboxed.{unboxed_kind, unboxed_payload, unboxed_table}
use Rattle.ft_trace.proofs.Announcing.{fits}
use Rattle.ft_trace.proofs.Cases.{here, miss}
use Rattle.ft_trace.proofs.PlainPuts.{by_root}
use Rattle.ft_trace.proofs.Known.{table_is_long}
use Rattle.ft_trace.proofs.ReadTables.{rows_at, rows_long, set_self}
use Rattle.ft_bank.specs.BoxSteps.{box_id, kind_read, payload_read, IsBoxIn, IsOpenValue}
use Rattle.ft_bank.specs.WriteSteps.{with_table}

-- ---- names

pub name_low : (v : View) (b : ℕ) → ∥ IsReachable v ∥₁ → IsBoxName v.shape b → b / 65536 < 2 ^ 32
unfolding maker_of
name_low v b possible name =
    let few : v.shape.passes ≤ 64 = ∥∥₁_elim {P = v.shape.passes ≤ 64} possible le_prop (λ p. (fits v.shape p.0 p.2.0).passes) in
    let low : b / 65536 < v.shape.passes = name.0 in
    omega (arith, few, low)

pub name_is : (r : Ref) (b : ℕ) → r.pass ≡ maker_of b → r.place ≡ place_in b → box_id r ≡ b
unfolding maker_of place_in
name_is r b pass place =
    (λ d. pass d * 65536 + place d) ∙ (let e : b / 65536 * 65536 + b % 65536 ≡ b = omega arith in e)

pub name_in : (k : Shape) (r : Ref) (b : ℕ) → r.pass ≡ maker_of b → r.place ≡ place_in b → IsBoxName k b → IsBoxIn k r
name_in k r b pass place name = (subst (λ (n : ℕ). n < k.passes) (sym pass) name.0, subst (λ (n : ℕ). n < k.heap) (sym place) name.1)

-- ---- what a value reads

pub reads_plain : (v : View) (kind payload : ℕ) → kind ≢ 4 → (kind_read v kind payload ≡ kind) × (payload_read v kind payload ≡ payload)
reads_plain v kind payload ne = (
  miss kind 4 (known_box_word v.shape payload 1 v.log) kind ne,
  miss kind 4 (known_box_word v.shape payload 2 v.log) payload ne,
)

pub reads_boxed : (v : View) (kind payload : ℕ) → kind ≡ 4 → (kind_read v kind payload ≡ known_box_word v.shape payload 1 v.log) × (payload_read v kind payload ≡ known_box_word v.shape payload 2 v.log)
reads_boxed v kind payload four = (
  here kind 4 (known_box_word v.shape payload 1 v.log) kind four,
  here kind 4 (known_box_word v.shape payload 2 v.log) payload four,
)

-- a table is as long as its class says
pub raw_table_long : (v : View) (o t : ℕ) → root_in (held_words o v) ≡ suc t → length (held_words o v).table ≡ size (class_of t)
raw_table_long v o t names =
    let kd : Kind = kind_in v.shape.starts o in
    let box : ℕ → ℕ → ℕ = λ b i. known_box_word v.shape b i v.log in
    sym (ap (λ (r : ℕ). length (unboxed_table box kd r (held_words o v).table)) names ∙ rows_long box kd (class_of t) (rows kd (class_of t)) (held_words o v).table)
    ∙ table_is_long v o t names

-- the two words of the value in a row read so
module _ (v : View) (o t word row : ℕ) (names : root_in (held_words o v) ≡ suc t) (low : row < rows (kind_in v.shape.starts o) (class_of t)) (is : word ≡ value_at (kind_in v.shape.starts o) (class_of t) row) (long : word + 1 < length (held_words o v).table) where
  abbrev kd : Kind
  kd = kind_in v.shape.starts o

  abbrev T : List ℕ
  T = (held_words o v).table

  abbrev R : List ℕ
  R = (held_unboxed o v).table

  pub row_reads : (slice_index R word ≡ kind_read v (slice_index T word) (slice_index T (word + 1))) × (slice_index R (word + 1) ≡ payload_read v (slice_index T word) (slice_index T (word + 1)))
  row_reads =
      let box : ℕ → ℕ → ℕ = λ b i. known_box_word v.shape b i v.log in
      let next : word + 1 ≡ suc (value_at kd (class_of t) row) = omega (arith, is) in
      let whole = by_root box kd (root_in (held_words o v)) t T names in
      let inside : suc (value_at kd (class_of t) row) < length T = omega (arith, long, next) in
      let r = rows_at box kd (class_of t) (rows kd (class_of t)) row T low inside in (
        (λ d. slice_index (whole d) (is d)) ∙ (r.0 ∙ sym (λ d. unboxed_kind box (slice_index T (is d)) (slice_index T (next d)))),
        (λ d. slice_index (whole d) (next d)) ∙ (r.1 ∙ sym (λ d. unboxed_payload box (slice_index T (is d)) (slice_index T (next d)))),
      )

pub word_reads : (v : View) (o t word : ℕ) → root_in (held_words o v) ≡ suc t → IsOpenValue v o t word → word + 1 < length (held_words o v).table
    → (slice_index (held_unboxed o v).table word ≡ kind_read v (slice_index (held_words o v).table word) (slice_index (held_words o v).table (word + 1)))
    × (slice_index (held_unboxed o v).table (word + 1) ≡ payload_read v (slice_index (held_words o v).table word) (slice_index (held_words o v).table (word + 1)))
word_reads v o t word names open_ long = row_reads v o t word open_.row names open_.low open_.is long

-- words that are put over by themselves
pub put_again : (x : ContainerWords) (word kind payload : ℕ) → kind ≡ slice_index x.table word → payload ≡ slice_index x.table (word + 1) → with_table (with_table x word kind) (word + 1) payload ≡ x
put_again x word kind payload one two =
    (λ d. with_table (with_table x word (one d)) (word + 1) (two d))
    ∙ ((λ d. with_table (record { block = x.block; table = set_self x.table word d }) (word + 1) (slice_index x.table (word + 1)))
    ∙ (λ d. record { block = x.block; table = set_self x.table (word + 1) d }))

-- a kind that is put over by itself
pub kind_again : (x : ContainerWords) (word kind payload : ℕ) → kind ≡ slice_index x.table word → with_table x (word + 1) payload ≡ with_table (with_table x word kind) (word + 1) payload
kind_again x word kind payload one =
    sym ((λ d. with_table (with_table x word (one d)) (word + 1) payload) ∙ (λ d. with_table (record { block = x.block; table = set_self x.table word d }) (word + 1) payload))
