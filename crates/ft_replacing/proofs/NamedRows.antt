-- A box that a container names whose lock a pass has: the pass may raise its count, and knows its value while it has the
-- lock. So the words of a table in hand that names such boxes read the same meanwhile.
use Rattle.std.proofs.Common.{◌≡◌, ◌≢◌, ◌⊎◌, ℕ, suc, ◌<◌, ◌≤◌, true, List, sym, ap, ◌∙◌, subst, inl, inr, ⊎_elim, arith}
use Rattle.std.specs.Prelude.{slice_index}
use Rattle.ft_model.specs.declared.script.Kind.{Kind}
use Rattle.ft_trace.specs.declared.Shape.{Shape}
use Rattle.ft_trace.specs.declared.View.{View}
use Rattle.ft_trace.specs.Acts.{has_lock, mem}
use Rattle.ft_trace.specs.Addresses.{class_of, container_count, IsBoxName}
use Rattle.ft_trace.specs.Boxes.{known_box_word, knows_box_word, named_in_container, named_in_root, references_held, value_at, KeepsBox}
use Rattle.ft_trace.specs.ContainerStates.{kind_in}
use Rattle.ft_trace.specs.Holds.{held_words, held_unboxed, hand_unboxed, in_hand}
use Rattle.ft_trace.specs.Kinds.{rows}
use Rattle.ft_trace.specs.Pictures.{ContainerWords, root_in}
use Rattle.ft_trace.specs.Traces.{IsReachable}
use Rattle.ft_trace.specs.Unboxed.{unboxed_kind, unboxed_payload, unboxed_rows, unboxed_table}
use Rattle.ft_trace.proofs.Cases.{here}
use Rattle.ft_trace.proofs.PlainPuts.{by_root}
use Rattle.ft_trace.proofs.ReadTables.{rows_at, value_low}
use Rattle.ft_trace.proofs.Unboxed.{rows_same}
use Rattle.ft_bank.specs.SameBoxes.{named_in_words}
use Rattle.ft_bank.specs.Whole.{OnlyBoxed}
use Rattle.ft_bank.proofs.NamedBoxes.{named_is_box, named_is_known, named_keeps}
use Rattle.ft_search.proofs.Overs.{boxed_held}
use Rattle.ft_search.proofs.Unboxing.{raw_table_long}
use Rattle.ft_replacing.proofs.RaisedRows.{row_counts}
use Rattle.ft_replacing.specs.Sharing.{IsNamedBy}

-- while the pass has the lock and the words stay
pub named_on : (k : Shape) (q b : ℕ) (v w : View) → held_words q w ≡ held_words q v → has_lock q w.log ≡ has_lock q v.log → IsNamedBy k q b v → IsNamedBy k q b w
named_on k q b v w words locks n = record {
  container = n.container;
  locked = locks ∙ n.locked;
  table = n.table;
  is_class = n.is_class;
  root = ap root_in words ∙ n.root;
  row = n.row;
  low = n.low;
  kind_is = ap (λ (x : ContainerWords). slice_index x.table (value_at (kind_in k.starts q) (class_of n.table) n.row)) words ∙ n.kind_is;
  payload_is = ap (λ (x : ContainerWords). slice_index x.table (suc (value_at (kind_in k.starts q) (class_of n.table) n.row))) words ∙ n.payload_is;
}

pub named_boxed : (k : Shape) (q b : ℕ) (v w : View) → OnlyBoxed v w → IsNamedBy k q b v → IsNamedBy k q b w
named_boxed k q b v w only n = named_on k q b v w (boxed_held v w q only) (only.work.pass.locks q) n

module _ (k : Shape) (q b : ℕ) (v : View) (shape : v.shape ≡ k) (n : IsNamedBy k q b v) where
  abbrev kd : Kind
  kd = kind_in v.shape.starts q

  abbrev T : List ℕ
  T = (held_words q v).table

  inside : q < container_count v.shape
  inside = subst (λ (z : Shape). q < container_count z) (sym shape) n.container

  low_row : n.row < rows kd (class_of n.table)
  low_row = subst (λ (z : Shape). n.row < rows (kind_in z.starts q) (class_of n.table)) (sym shape) n.low

  four : slice_index T (value_at kd (class_of n.table) n.row) ≡ 4
  four = ap (λ (z : Shape). slice_index T (value_at (kind_in z.starts q) (class_of n.table) n.row)) shape ∙ n.kind_is

  names_it : slice_index T (suc (value_at kd (class_of n.table) n.row)) ≡ b
  names_it = ap (λ (z : Shape). slice_index T (suc (value_at (kind_in z.starts q) (class_of n.table) n.row))) shape ∙ n.payload_is

  pub is_kept : ∥ IsReachable v ∥₁ → KeepsBox k b v.log
  is_kept possible = subst (λ (z : Shape × ℕ). KeepsBox z.0 z.1 v.log) (λ d. (shape d, names_it d)) (named_keeps v q n.table n.row possible inside n.locked n.root low_row four)

  pub is_box : ∥ IsReachable v ∥₁ → IsBoxName k b
  is_box possible = subst (λ (z : Shape × ℕ). IsBoxName z.0 z.1) (λ d. (shape d, names_it d)) (named_is_box v q n.table n.row possible inside n.locked n.root low_row four)

  pub is_known : ∥ IsReachable v ∥₁ → (knows_box_word v.shape b 1 v.log ≡ true) × (knows_box_word v.shape b 2 v.log ≡ true)
  is_known possible = subst (λ (z : ℕ). (knows_box_word v.shape z 1 v.log ≡ true) × (knows_box_word v.shape z 2 v.log ≡ true)) names_it (named_is_known v q n.table n.row possible inside n.locked n.root low_row four)

  -- one value at least names it
  pub is_counted : 0 < named_in_words b (kind_in v.shape.starts q) (held_words q v)
  is_counted =
      let some_ = row_counts b kd (class_of n.table) T (rows kd (class_of n.table)) n.row low_row four names_it in
      let root : named_in_words b kd (held_words q v) ≡ named_in_root b kd (suc n.table) T = ap (λ (r : ℕ). named_in_root b kd r T) n.root in
      omega (arith, some_, root)

  -- what the row reads
  abbrev box : ℕ → ℕ → ℕ
  box c i = known_box_word v.shape c i v.log

  whole : (held_unboxed q v).table ≡ unboxed_rows box kd (class_of n.table) (rows kd (class_of n.table)) T
  whole = by_root box kd (root_in (held_words q v)) n.table T n.root

  both : (slice_index (unboxed_rows box kd (class_of n.table) (rows kd (class_of n.table)) T) (value_at kd (class_of n.table) n.row) ≡ unboxed_kind box (slice_index T (value_at kd (class_of n.table) n.row)) (slice_index T (suc (value_at kd (class_of n.table) n.row))))
      × (slice_index (unboxed_rows box kd (class_of n.table) (rows kd (class_of n.table)) T) (suc (value_at kd (class_of n.table) n.row)) ≡ unboxed_payload box (slice_index T (value_at kd (class_of n.table) n.row)) (slice_index T (suc (value_at kd (class_of n.table) n.row))))
  both =
      let less = value_low kd (class_of n.table) n.row n.is_class low_row in
      let long = raw_table_long v q n.table n.root in
      rows_at box kd (class_of n.table) (rows kd (class_of n.table)) n.row T low_row (omega (arith, less, long))

  pub kind_of_row : slice_index (held_unboxed q v).table (value_at (kind_in k.starts q) (class_of n.table) n.row) ≡ known_box_word v.shape b 1 v.log
  kind_of_row =
      (λ d. slice_index (whole d) (value_at (kind_in (sym shape d).starts q) (class_of n.table) n.row))
      ∙ (both.0
      ∙ (here (slice_index T (value_at kd (class_of n.table) n.row)) 4 (box (slice_index T (suc (value_at kd (class_of n.table) n.row))) 1) (slice_index T (value_at kd (class_of n.table) n.row)) four
      ∙ ap (λ (z : ℕ). box z 1) names_it))

  pub payload_of_row : slice_index (held_unboxed q v).table (suc (value_at (kind_in k.starts q) (class_of n.table) n.row)) ≡ known_box_word v.shape b 2 v.log
  payload_of_row =
      (λ d. slice_index (whole d) (suc (value_at (kind_in (sym shape d).starts q) (class_of n.table) n.row)))
      ∙ (both.1
      ∙ (here (slice_index T (value_at kd (class_of n.table) n.row)) 4 (box (slice_index T (suc (value_at kd (class_of n.table) n.row))) 2) (slice_index T (suc (value_at kd (class_of n.table) n.row))) four
      ∙ ap (λ (z : ℕ). box z 2) names_it))

-- the value in the box is the same where the container's words read the same
pub named_value : (k : Shape) (q b i : ℕ) (v w : View) → v.shape ≡ k → w.shape ≡ k → held_words q w ≡ held_words q v → held_unboxed q w ≡ held_unboxed q v → has_lock q w.log ≡ has_lock q v.log → IsNamedBy k q b v → (i ≡ 1) ⊎ (i ≡ 2) → known_box_word w.shape b i w.log ≡ known_box_word v.shape b i v.log
unfolding named_on
named_value k q b i v w first then_ words reads locks n which =
    let m = named_on k q b v w words locks n in
    let at : ℕ = value_at (kind_in k.starts q) (class_of n.table) n.row in
    let one : known_box_word w.shape b 1 w.log ≡ known_box_word v.shape b 1 v.log = sym (kind_of_row k q b w then_ m) ∙ (ap (λ (x : ContainerWords). slice_index x.table at) reads ∙ kind_of_row k q b v first n) in
    let two : known_box_word w.shape b 2 w.log ≡ known_box_word v.shape b 2 v.log = sym (payload_of_row k q b w then_ m) ∙ (ap (λ (x : ContainerWords). slice_index x.table (suc at)) reads ∙ payload_of_row k q b v first n) in
    ⊎_elim
    (λ (e : i ≡ 1). ap (λ (z : ℕ). known_box_word w.shape b z w.log) e ∙ (one ∙ ap (λ (z : ℕ). known_box_word v.shape b z v.log) (sym e)))
    (λ (e : i ≡ 2). ap (λ (z : ℕ). known_box_word w.shape b z w.log) e ∙ (two ∙ ap (λ (z : ℕ). known_box_word v.shape b z v.log) (sym e)))
    which

-- what a pass knows of the containers, but for o, whose locks it has
abbrev pub SameBut : Shape → ℕ → View → View → Type 0
SameBut k o v w = (q : ℕ) → q < container_count k → q ≢ o → has_lock q v.log ≡ true → (held_words q w ≡ held_words q v) × (held_unboxed q w ≡ held_unboxed q v)

-- A table in hand reads the same where the pass knows the same value in each box that it names.
pub rows_read : (k : Shape) (o t : ℕ) (v w : View) → v.shape ≡ k → w.shape ≡ k → in_hand t w ≡ in_hand t v
    → ((p i : ℕ) → p < rows (kind_in k.starts o) (class_of t) → slice_index (in_hand t v) (value_at (kind_in k.starts o) (class_of t) p) ≡ 4 → (i ≡ 1) ⊎ (i ≡ 2)
    → known_box_word w.shape (slice_index (in_hand t v) (suc (value_at (kind_in k.starts o) (class_of t) p))) i w.log ≡ known_box_word v.shape (slice_index (in_hand t v) (suc (value_at (kind_in k.starts o) (class_of t) p))) i v.log)
    → hand_unboxed o t w ≡ hand_unboxed o t v
rows_read k o t v w first then_ hand same =
    let kd : Kind = kind_in v.shape.starts o in
    let L : List ℕ = in_hand t v in
    let by : (p i : ℕ) → p < rows kd (class_of t) → slice_index L (value_at kd (class_of t) p) ≡ 4 → (i ≡ 1) ⊎ (i ≡ 2) → known_box_word w.shape (slice_index L (suc (value_at kd (class_of t) p))) i w.log ≡ known_box_word v.shape (slice_index L (suc (value_at kd (class_of t) p))) i v.log =
    subst (λ (z : Shape). (p i : ℕ) → p < rows (kind_in z.starts o) (class_of t) → slice_index L (value_at (kind_in z.starts o) (class_of t) p) ≡ 4 → (i ≡ 1) ⊎ (i ≡ 2) → known_box_word w.shape (slice_index L (suc (value_at (kind_in z.starts o) (class_of t) p))) i w.log ≡ known_box_word v.shape (slice_index L (suc (value_at (kind_in z.starts o) (class_of t) p))) i v.log) (sym first) same in
    (λ d. unboxed_table (λ b i. known_box_word w.shape b i w.log) (kind_in ((then_ ∙ sym first) d).starts o) (suc t) (hand d))
    ∙ rows_same (λ b i. known_box_word w.shape b i w.log) (λ b i. known_box_word v.shape b i v.log) kd (class_of t) (rows kd (class_of t)) L (λ p i low four which. by p i low four which)

-- a box is kept on where the pass raises counts
pub kept_boxed : (k : Shape) (b : ℕ) (v w : View) → v.shape ≡ k → OnlyBoxed v w → references_held k b v.log ≤ references_held k b w.log → KeepsBox k b v.log → KeepsBox k b w.log
kept_boxed k b v w shape only more (inl held) = inl (omega (arith, more, held))
kept_boxed k b v w shape only more (inr (o, low, mine, some_)) =
    let words : mem k w.log ≡ mem k v.log = subst (λ (z : Shape). mem z w.log ≡ mem z v.log) shape only.words in
    inr (o, low, only.work.pass.locks o ∙ mine, subst (λ (ws : List ℕ). 0 < named_in_container k b o ws) (sym words) some_)
