-- An exchange of a value: what the pass knows of the box that the old one names.
use Rattle.std.proofs.Common.{◌≡◌, ◌≢◌, ℕ, ◌+◌, ◌-◌, ◌<◌, true, List, [], ◌∷◌, refl, sym, ap, ◌∙◌, subst, arith}
use Rattle.std.specs.Prelude.{slice_index}
use mathlib.Core.Logic.{dite}
use native.Mathlib.Decide.{ℕ_discrete}
use Rattle.ft_trace.specs.declared.Act.{Act}
use Rattle.ft_trace.specs.declared.Act.TheVariants.{PutTable}
use Rattle.ft_trace.specs.declared.Shape.{Shape}
use Rattle.ft_trace.specs.declared.View.{View}
use Rattle.ft_trace.specs.Acts.{has_lock, mem}
use Rattle.ft_trace.specs.Addresses.{container_count}
use Rattle.ft_trace.specs.Boxes.{named_in_container, names_box, references_held, known_box_word, knows_box_word, times_kept}
use Rattle.ft_trace.specs.Holds.{held_words, held_unboxed}
use Rattle.ft_trace.specs.Pictures.{root_in}
use Rattle.ft_trace.specs.Traces.{IsReachable}
use Rattle.ft_trace.proofs.BoxKnown.{keep_named, sure_after}
use Rattle.ft_trace.proofs.Cases.{here, miss}
use Rattle.ft_trace.proofs.PlainPuts.{named_is}
use Rattle.ft_bank.specs.declared.table.Table.{Table}
use Rattle.ft_bank.specs.BoxSteps.{HasReferenceFor, IsOpenValue, kind_read, payload_read, value_acts}
use Rattle.ft_bank.specs.SameBoxes.{HoldsFew}
use Rattle.ft_bank.specs.Series.{noted_all}
use Rattle.ft_bank.specs.TableNames.{table_id}
use Rattle.ft_bank.specs.Whole.{OnlyPut}
use Rattle.ft_bank.proofs.DoneBoxes.{stays_settled_same}
use Rattle.ft_search.specs.Boxed.{IsKnownBox, WritesTable}
use Rattle.ft_search.proofs.Overs.{table_done, value_known, reads_now, boxed_names, named_own}
use Rattle.ft_search.proofs.Unboxing.{reads_boxed, reads_plain}

-- ---- a box that the pass holds or that a container names whose lock it has, over a put there

module _ (k : Shape) (b o : ℕ) (low : o < container_count k) where
  -- something keeps the box
  abbrev IsThere : List Act → Type 0
  IsThere l = references_held k b l + named_in_container k b o (mem k l) ≢ 0

  there_then : (t i x : ℕ) (l : List Act) → IsThere l → IsThere (PutTable o t i x ∷ l)
  there_then t i x l some_ z =
      let before = named_in_container k b o (mem k l) in
      let after = named_in_container k b o (mem k (PutTable o t i x ∷ l)) in
      let held = references_held k b l in
      let e : held + before - after + after ≡ 0 = z in
      some_ (omega (arith, e))

  there_kept : (l : List Act) → has_lock o l ≡ true → IsThere l → times_kept k b l ≢ 0
  there_kept l mine some_ z =
      dite (ℕ_discrete (named_in_container k b o (mem k l)) 0)
      (λ none. some_ (omega (arith, z, none)))
      (λ named. keep_named k b o l low mine named z)

  knows_then : (t i x n : ℕ) (l : List Act) → has_lock o l ≡ true → IsThere l → knows_box_word k b n l ≡ true → knows_box_word k b n (PutTable o t i x ∷ l) ≡ true
  knows_then t i x n l mine some_ known = sure_after k b n (PutTable o t i x) l (there_kept (PutTable o t i x ∷ l) mine (there_then t i x l some_)) known

  knows_twice : (t i x j y n : ℕ) (l : List Act) → has_lock o l ≡ true → IsThere l → knows_box_word k b n l ≡ true → knows_box_word k b n (PutTable o t i x ∷ PutTable o t j y ∷ l) ≡ true
  knows_twice t i x j y n l mine some_ known = knows_then t i x n (PutTable o t j y ∷ l) mine (there_then t j y l some_) (knows_then t j y n l mine some_ known)

-- after the puts of a value
module _ (r : View) (b o t word kind payload : ℕ) where
  -- in either order
  by_order : (P : View → Type 0) → P (noted_all (PutTable o t word kind ∷ PutTable o t (word + 1) payload ∷ []) r) → P (noted_all (PutTable o t (word + 1) payload ∷ PutTable o t word kind ∷ []) r) → P (noted_all (value_acts o t word kind payload) r)
  by_order P one two =
      let A : List Act = PutTable o t word kind ∷ PutTable o t (word + 1) payload ∷ [] in
      let B : List Act = PutTable o t (word + 1) payload ∷ PutTable o t word kind ∷ [] in
      dite (ℕ_discrete kind 4)
      (λ four. subst (λ (l : List Act). P (noted_all l r)) (sym (here kind 4 A B four)) one)
      (λ ne. subst (λ (l : List Act). P (noted_all l r)) (sym (miss kind 4 A B ne)) two)

  pub value_knows : (n : ℕ) → o < container_count r.shape → has_lock o r.log ≡ true → references_held r.shape b r.log + named_in_container r.shape b o (mem r.shape r.log) ≢ 0 → knows_box_word r.shape b n r.log ≡ true → knows_box_word (noted_all (value_acts o t word kind payload) r).shape b n (noted_all (value_acts o t word kind payload) r).log ≡ true
  value_knows n low mine some_ known =
      by_order (λ (w : View). knows_box_word w.shape b n w.log ≡ true)
      (knows_twice r.shape b o low t word kind (word + 1) payload n r.log mine some_ known)
      (knows_twice r.shape b o low t (word + 1) payload word kind n r.log mine some_ known)

  pub value_found : (n : ℕ) → known_box_word (noted_all (value_acts o t word kind payload) r).shape b n (noted_all (value_acts o t word kind payload) r).log ≡ known_box_word r.shape b n r.log
  value_found n = by_order (λ (w : View). known_box_word w.shape b n w.log ≡ known_box_word r.shape b n r.log) refl refl

-- ---- the old value, which the pass read in r; it knew p after the puts

module _ (k : Shape) (o : ℕ) (table : Table) (word kind payload old named : ℕ) (r p : View) (shape : r.shape ≡ k) (writes : WritesTable k o table r) (open_ : IsOpenValue r o (table_id table) word) (possible : ∥ IsReachable r ∥₁) (is : p ≡ noted_all (value_acts o (table_id table) word kind payload) r) (only : OnlyPut o r p) (old_is : old ≡ slice_index (held_words o r).table word) (named_is_ : named ≡ slice_index (held_words o r).table (word + 1)) where
  low : o < container_count r.shape
  low = subst (λ (z : Shape). o < container_count z) (sym shape) writes.container

  pub exchanged_writes : root_in (held_words o p) ≡ root_in (held_words o r) → HoldsFew p → WritesTable k o table p
  exchanged_writes root few = table_done k o table r p shape writes only.work ((stays_settled_same r p only.made).settled writes.settled) few root

  there_shape : p.shape ≡ k
  there_shape = only.work.pass.shape ∙ shape

  abbrev w : View
  w = noted_all (value_acts o (table_id table) word kind payload) r

  module _ (own : HasReferenceFor r kind payload) (references : (b : ℕ) → references_held k b p.log + names_box b kind payload ≡ references_held k b r.log + names_box b (slice_index (held_words o r).table word) (slice_index (held_words o r).table (word + 1))) where
    held_end : old ≡ 4 → 0 < references_held k named p.log
    held_end four =
        let moved = references named in
        let one : names_box named (slice_index (held_words o r).table word) (slice_index (held_words o r).table (word + 1)) ≡ 1 =
        sym (λ d. names_box named (old_is d) (named_is_ d)) ∙ (boxed_names named old named four ∙ here named named 1 0 refl) in
        let mine = named_own k r kind payload named shape own in
        omega (arith, moved, one, mine)

    there_first : old ≡ 4 → references_held r.shape named r.log + named_in_container r.shape named o (mem r.shape r.log) ≢ 0
    there_first four z =
        let moves = only.moves named in
        let e = named_is r.shape o named (mem r.shape r.log) in
        let held = subst (λ (y : Shape). 0 < references_held y named p.log) (sym there_shape) (held_end four) in
        omega (arith, moves, e, held, z)

    pub exchanged_own : HasReferenceFor p old named
    exchanged_own four =
        let mine = writes.locked in
        let known = subst (λ (n : ℕ). IsKnownBox r n) (sym named_is_) (value_known k o table word r shape writes open_ possible (sym old_is ∙ four)) in
        let so : (n : ℕ) → knows_box_word r.shape named n r.log ≡ true → knows_box_word p.shape named n p.log ≡ true = λ n s.
        subst (λ (z : View). knows_box_word z.shape named n z.log ≡ true) (sym is) (value_knows r named o (table_id table) word kind payload n low mine (there_first four) s) in
        (subst (λ (y : Shape). 0 < references_held y named p.log) (sym there_shape) (held_end four), so 1 known.1, so 2 known.2)

  same_word : (n : ℕ) → known_box_word p.shape named n p.log ≡ known_box_word r.shape named n r.log
  same_word n = ap (λ (z : View). known_box_word z.shape named n z.log) is ∙ value_found r named o (table_id table) word kind payload n

  read_same : (kind_read p old named ≡ kind_read r old named) × (payload_read p old named ≡ payload_read r old named)
  read_same =
      dite (ℕ_discrete old 4)
      (λ four.
      let now = reads_boxed p old named four in
      let was = reads_boxed r old named four in
      (now.0 ∙ (same_word 1 ∙ sym was.0), now.1 ∙ (same_word 2 ∙ sym was.1)))
      (λ ne.
      let now = reads_plain p old named ne in
      let was = reads_plain r old named ne in
      (now.0 ∙ sym was.0, now.1 ∙ sym was.1))

  pub exchanged_reads : (kind_read p old named ≡ slice_index (held_unboxed o r).table word) × (payload_read p old named ≡ slice_index (held_unboxed o r).table (word + 1))
  exchanged_reads =
      let now = reads_now k o table word r shape writes open_ in (
        read_same.0 ∙ ((λ d. kind_read r (old_is d) (named_is_ d)) ∙ sym now.0),
        read_same.1 ∙ ((λ d. payload_read r (old_is d) (named_is_ d)) ∙ sym now.1),
      )
