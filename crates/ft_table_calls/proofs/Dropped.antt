-- References that a pass holds once it has taken a table out of a root, and what is left of them row by row.
use Rattle.std.proofs.Common.{◌≡◌, ℕ, zero, suc, ◌+◌, ◌<◌, ◌≤◌, List, refl, sym, ap, ◌∙◌, subst, arith}
use Rattle.std.specs.Prelude.{slice_index}
use mathlib.Core.Logic.{dite}
use native.Mathlib.Decide.{ℕ_discrete}
use Rattle.ft_model.specs.declared.script.Kind.{Kind}
use Rattle.ft_trace.specs.declared.Shape.{Shape}
use Rattle.ft_trace.specs.declared.View.{View}
use Rattle.ft_trace.specs.Acts.{mem}
use Rattle.ft_trace.specs.Boxes.{value_at, names_box, names_box_at, named_in_root, references_held}
use Rattle.ft_trace.specs.ContainerStates.{kind_in}
use Rattle.ft_trace.specs.Holds.{held_words, in_hand}
use Rattle.ft_trace.specs.Pictures.{table_words, root_in}
use Rattle.ft_trace.specs.Sums.{sum_to}
use Rattle.ft_trace.specs.Traces.{IsReachable}
use Rattle.ft_trace.proofs.Unboxed.{named_row}
use Rattle.ft_bank.specs.BoxSteps.{box_id, IsBoxIn}
use Rattle.ft_bank.specs.SameBoxes.{named_in_words, MovesReferences, SameReferences}
use Rattle.ft_bank.specs.Whole.{OnlyLoaded}
use Rattle.ft_boxes.specs.References.{HoldsBox, KeepsValues}
use Rattle.ft_boxes.proofs.Heaps.{names_held}
use Rattle.ft_boxes.proofs.Steps.{keeps_same}
use Rattle.ft_table_calls.specs.Dropping.{HoldsNamed}

-- ---- what a pass knows still

-- a table in its hand has the same words where all words are the same
pub hand_same : (v w : View) (t : ℕ) → w.shape ≡ v.shape → mem v.shape w.log ≡ mem v.shape v.log → in_hand t w ≡ in_hand t v
hand_same v w t shape words = ap (λ (k : Shape). table_words k t (mem k w.log)) shape ∙ ap (λ (ws : List ℕ). table_words v.shape t ws) words

pub held_loaded : (k : Shape) (v w : View) → v.shape ≡ k → OnlyLoaded v w → (b : ℕ) → references_held k b w.log ≡ references_held k b v.log
held_loaded k v w shape l b =
    sym (ap (λ (z : Shape). references_held z b w.log) (l.work.pass.shape ∙ shape))
    ∙ (l.boxes.references b ∙ ap (λ (z : Shape). references_held z b v.log) shape)

-- what it knew of the values in boxes for which it holds references it knows after loads
pub keeps_loads : (v w : View) → ∥ IsReachable v ∥₁ → OnlyLoaded v w → KeepsValues v w
keeps_loads v w possible l = keeps_same v w (λ b held. names_held v possible b held) l.boxes.knows

-- and after two times, where it held no fewer between them than after
pub keeps_less : (u v w : View) → v.shape ≡ w.shape → ((c : ℕ) → references_held w.shape c w.log ≤ references_held v.shape c v.log) → KeepsValues u v → KeepsValues v w → KeepsValues u w
keeps_less u v w shape less first then b value held still knows =
    let fewer = less (box_id b) in
    let some_ = still.1 in
    let mid : HoldsBox b v = (subst (λ (z : Shape). IsBoxIn z b) (sym shape) still.0, omega (arith, fewer, some_)) in
    then b value mid still (first b value held mid knows)

-- ---- right after another root was put

-- the references of the table that the pass took out of the root came to it, where the words name no box any longer
pub taken_named : (k : Shape) (o t : ℕ) (v w : View) → v.shape ≡ k → w.shape ≡ v.shape → MovesReferences o v w → root_in (held_words o v) ≡ suc t → in_hand t w ≡ (held_words o v).table → ((b : ℕ) → named_in_words b (kind_in w.shape.starts o) (held_words o w) ≡ 0) → (b : ℕ) → references_held k b w.log ≡ references_held k b v.log + named_in_root b (kind_in k.starts o) (suc t) (in_hand t w)
taken_named k o t v w first same moves names hand plain b =
    let kd : Kind = kind_in k.starts o in
    let moved = moves b in
    let none = plain b in
    let before : references_held v.shape b v.log ≡ references_held k b v.log = ap (λ (z : Shape). references_held z b v.log) first in
    let now : references_held k b w.log ≡ references_held w.shape b w.log = ap (λ (z : Shape). references_held z b w.log) (sym (same ∙ first)) in
    let was : named_in_words b (kind_in v.shape.starts o) (held_words o v) ≡ named_in_root b kd (suc t) (in_hand t w) =
    (λ d. named_in_root b (kind_in (first d).starts o) (names d) (sym hand d)) in
    omega (arith, moved, none, before, now, was)

pub holds_named : (k : Shape) (o t : ℕ) (v w : View) → v.shape ≡ k → w.shape ≡ v.shape → MovesReferences o v w → root_in (held_words o v) ≡ suc t → in_hand t w ≡ (held_words o v).table → ((b : ℕ) → named_in_words b (kind_in w.shape.starts o) (held_words o w) ≡ 0) → HoldsNamed k o t w
holds_named k o t v w first same moves names hand plain b = let e = taken_named k o t v w first same moves names hand plain b in omega (arith, e)

-- once they are dropped, the pass holds what it held before
pub dropped_named : (k : Shape) (o t : ℕ) (v w x : View) → v.shape ≡ k → w.shape ≡ v.shape → x.shape ≡ w.shape → MovesReferences o v w → root_in (held_words o v) ≡ suc t → in_hand t w ≡ (held_words o v).table → ((b : ℕ) → named_in_words b (kind_in w.shape.starts o) (held_words o w) ≡ 0)
    → ((b : ℕ) → references_held k b x.log + named_in_root b (kind_in k.starts o) (suc t) (in_hand t w) ≡ references_held k b w.log) → SameReferences v x
dropped_named k o t v w x first same last moves names hand plain dropped b =
    let e = taken_named k o t v w first same moves names hand plain b in
    let d = dropped b in
    let same_ : references_held k b x.log ≡ references_held k b v.log = omega (arith, e, d) in
    ap (λ (z : Shape). references_held z b x.log) (last ∙ (same ∙ first)) ∙ (same_ ∙ sym (ap (λ (z : Shape). references_held z b v.log) first))

-- ---- rows

-- a sum of fewer is no greater
pub sum_upto : (f : ℕ → ℕ) (n m : ℕ) → n ≤ m → sum_to f n ≤ sum_to f m
sum_upto f n zero low = let none : n ≡ 0 = omega (arith, low) in let e = ap (sum_to f) none in omega (arith, e)
sum_upto f n (suc m) low =
    dite (ℕ_discrete n (suc m))
    (λ (e : n ≡ suc m). let same = ap (sum_to f) e in omega (arith, same))
    (λ ne. let less : n ≤ m = omega (arith, low, ne) in let before = sum_upto f n m less in omega (arith, before))

-- the references that are left after the rows before this one; the box that this one names is among them
module _ (kind : Kind) (class : ℕ) (table : List ℕ) (start left : ℕ → ℕ) (row past : ℕ) (low : row < past) (enough : (b : ℕ) → sum_to (names_box_at b kind class table) past ≤ start b) (all : (b : ℕ) → left b + sum_to (names_box_at b kind class table) row ≡ start b) where
  pub left_held : slice_index table (value_at kind class row) ≡ 4 → 0 < left (slice_index table (suc (value_at kind class row)))
  left_held four =
      let b = slice_index table (suc (value_at kind class row)) in
      let f : ℕ → ℕ = names_box_at b kind class table in
      let one : f row ≡ 1 = named_row b kind class table row four refl in
      let more : sum_to f (suc row) ≤ sum_to f past = sum_upto f (suc row) past low in
      let sum = all b in
      let most = enough b in
      omega (arith, one, more, sum, most)

  pub left_then : (next : ℕ → ℕ) → ((b : ℕ) → left b ≡ next b + names_box b (slice_index table (value_at kind class row)) (slice_index table (suc (value_at kind class row)))) → (b : ℕ) → next b + sum_to (names_box_at b kind class table) (suc row) ≡ start b
  left_then next drops b = let sum = all b in let less = drops b in omega (arith, sum, less)
