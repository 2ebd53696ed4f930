-- While an even version stays, what its container reads stays, and the value in each box that it names: so a reader
-- without the lock may read boxes between two equal even loads without holding them.
use Rattle.std.proofs.Common.{◌≡◌, ◌≢◌, ◌⊎◌, ℕ, suc, ◌%◌, ◌<◌, List, [], ◌∷◌, ◌++◌, refl, sym, ap, ◌∙◌, inl, inr, arith}
use Rattle.std.specs.Prelude.{slice_index}
use Rattle.ft_model.specs.declared.script.Kind.{Kind}
use Rattle.ft_trace.specs.declared.Shape.{Shape}
use Rattle.ft_trace.specs.Addresses.{box_word, class_of, container_count}
use Rattle.ft_trace.specs.ContainerStates.{kind_in}
use Rattle.ft_trace.specs.Pictures.{ContainerWords, root_of, root_in, inner}
use Rattle.ft_trace.specs.Kinds.{rows}
use Rattle.ft_trace.specs.Boxes.{value_at, named_in_container}
use Rattle.ft_trace.proofs.NamedBoxes.{named_in_same, named_low}
use Rattle.ft_trace.specs.BoxTraces.{references}
use Rattle.ft_trace.specs.Unboxed.{unboxed_picture}
use Rattle.ft_trace.specs.BoxLaws.{QuietBoxesStay}
use Rattle.ft_trace.specs.Traces.{Event, did, forked, joined, sent, run, word, Valid}
use Rattle.ft_trace.proofs.Contents.{still, quiet}
use Rattle.ft_trace.proofs.OddVersions.{version, rises, rises_one}
use Rattle.ft_trace.proofs.Pieces.{block_at}
use Rattle.ft_trace.proofs.BoxValues.{value_stays}
use Rattle.ft_trace.proofs.Unboxed.{read_stays, refs_of_row}

read_still : (k : Shape) (es : List Event) (e : Event) → Valid k (e ∷ es) → (o : ℕ) → o < container_count k → version k es o % 2 ≡ 0 → unboxed_picture k o (run k (e ∷ es)).words ≡ unboxed_picture k o (run k es).words
read_still k es (did id v a) valid o low even = read_stays k es id v a valid o low (still k es (did id v a) valid o low even).picture
read_still k es (forked id v) valid o low even = refl
read_still k es (sent id v given) valid o low even = refl
read_still k es (joined id v other w) valid o low even = refl

module _ (k : Shape) (older : List Event) (o : ℕ) (low : o < container_count k) (even : version k older o % 2 ≡ 0) where
  -- between, the version is the same
  same_before : (e : Event) (newer : List Event) → Valid k (e ∷ (newer ++ older)) → version k (e ∷ (newer ++ older)) o ≡ version k older o → version k (newer ++ older) o ≡ version k older o
  same_before e newer valid same =
      let a = rises k newer older valid.0 o low in
      let b = rises_one k (newer ++ older) e valid o low in
      omega (arith, a, b, same)

  pub quiet_read : (newer : List Event) → Valid k (newer ++ older) → version k (newer ++ older) o ≡ version k older o → unboxed_picture k o (run k (newer ++ older)).words ≡ unboxed_picture k o (run k older).words
  quiet_read [] valid same = refl
  quiet_read (e ∷ newer) valid same =
      let here_ = same_before e newer valid same in
      read_still k (newer ++ older) e valid o low (ap (λ (n : ℕ). n % 2) here_ ∙ even) ∙ quiet_read newer valid.0 here_

  abbrev Kd : Kind
  Kd = kind_in k.starts o

  abbrev Table : List Event → List ℕ
  Table es = inner k (root_of k o (run k es).words) (run k es).words

  module _ (t p i : ℕ) (root_is : root_of k o (run k older).words ≡ suc t) (less : p < rows Kd (class_of t)) (four : slice_index (Table older) (value_at Kd (class_of t) p) ≡ 4) (which : (i ≡ 1) ⊎ (i ≡ 2)) where
    abbrev Box : List Event → ℕ
    Box es = slice_index (Table es) (suc (value_at Kd (class_of t) p))

    facts : (i ≡ 1) ⊎ (i ≡ 2) → (i < 4) × (i ≢ 0) × (i ≢ 3)
    facts (inl e) = (omega (arith, e), (λ z. omega (arith, e, z)), (λ z. omega (arith, e, z)))
    facts (inr e) = (omega (arith, e), (λ z. omega (arith, e, z)), (λ z. omega (arith, e, z)))

    -- there is a reference for it at each moment between
    between : (newer : List Event) → Valid k (newer ++ older) → version k (newer ++ older) o ≡ version k older o → references k (Box older) (newer ++ older) ≢ 0
    between newer valid same =
        let s = quiet k newer older valid o low even same in
        let es : List Event = newer ++ older in
        let table : Table es ≡ Table older = ap (λ (x : ContainerWords). x.table) s.picture in
        let r : root_of k o (run k es).words ≡ suc t = sym (block_at k o (run k es).words 0 (omega arith)) ∙ (ap root_in s.picture ∙ (block_at k o (run k older).words 0 (omega arith) ∙ root_is)) in
        let f : slice_index (Table es) (value_at Kd (class_of t) p) ≡ 4 = ap (λ (l : List ℕ). slice_index l (value_at Kd (class_of t) p)) table ∙ four in
        let b : Box es ≡ Box older = ap (λ (l : List ℕ). slice_index l (suc (value_at Kd (class_of t) p))) table in
        let some_ = refs_of_row k es o low t p r less f in
        λ z. some_ (ap (λ (y : ℕ). references k y es) b ∙ z)

    pub quiet_box : (newer : List Event) → Valid k (newer ++ older) → version k (newer ++ older) o ≡ version k older o → word k (newer ++ older) (box_word (Box older) i) ≡ word k older (box_word (Box older) i)
    quiet_box [] valid same = refl
    quiet_box (did id v a ∷ newer) valid same =
        let here_ = same_before (did id v a) newer valid same in
        let x = facts which in
        value_stays k (newer ++ older) id v (Box older) i valid.0 valid.1.0 (between newer valid.0 here_) x.0 x.1 x.2 a valid.1.3 ∙ quiet_box newer valid.0 here_
    quiet_box (forked id v ∷ newer) valid same = quiet_box newer valid.0 (same_before (forked id v) newer valid same)
    quiet_box (sent id v given ∷ newer) valid same = quiet_box newer valid.0 (same_before (sent id v given) newer valid same)
    quiet_box (joined id v other w ∷ newer) valid same = quiet_box newer valid.0 (same_before (joined id v other w) newer valid same)

-- by its name
module _ (k : Shape) (older : List Event) (o : ℕ) (low : o < container_count k) (even : version k older o % 2 ≡ 0) (b i : ℕ) (names_it : named_in_container k b o (run k older).words ≢ 0) (which : (i ≡ 1) ⊎ (i ≡ 2)) where
  which_is : (i ≡ 1) ⊎ (i ≡ 2) → (i < 4) × (i ≢ 0) × (i ≢ 3)
  which_is (inl e) = (omega (arith, e), (λ z. omega (arith, e, z)), (λ z. omega (arith, e, z)))
  which_is (inr e) = (omega (arith, e), (λ z. omega (arith, e, z)), (λ z. omega (arith, e, z)))

  named_between : (newer : List Event) → Valid k (newer ++ older) → version k (newer ++ older) o ≡ version k older o → references k b (newer ++ older) ≢ 0
  named_between newer valid same =
      let s = quiet k newer older valid o low even same in
      let es : List Event = newer ++ older in
      let r : root_of k o (run k es).words ≡ root_of k o (run k older).words = sym (block_at k o (run k es).words 0 (omega arith)) ∙ (ap root_in s.picture ∙ block_at k o (run k older).words 0 (omega arith)) in
      let n = named_in_same k b o (run k es).words (run k older).words r (ap (λ (x : ContainerWords). x.table) s.picture) in
      let l = named_low k b o (run k es).words low in
      λ z. names_it (omega (arith, n, l, z))

  pub quiet_named : (newer : List Event) → Valid k (newer ++ older) → version k (newer ++ older) o ≡ version k older o → word k (newer ++ older) (box_word b i) ≡ word k older (box_word b i)
  quiet_named [] valid same = refl
  quiet_named (did id v a ∷ newer) valid same =
      let here_ = same_before k older o low even (did id v a) newer valid same in
      let x = which_is which in
      value_stays k (newer ++ older) id v b i valid.0 valid.1.0 (named_between newer valid.0 here_) x.0 x.1 x.2 a valid.1.3 ∙ quiet_named newer valid.0 here_
  quiet_named (forked id v ∷ newer) valid same = quiet_named newer valid.0 (same_before k older o low even (forked id v) newer valid same)
  quiet_named (sent id v given ∷ newer) valid same = quiet_named newer valid.0 (same_before k older o low even (sent id v given) newer valid same)
  quiet_named (joined id v other w ∷ newer) valid same = quiet_named newer valid.0 (same_before k older o low even (joined id v other w) newer valid same)

pub quiet_boxes_stay : QuietBoxesStay
quiet_boxes_stay k newer older valid o low even same =
    (quiet_read k older o low even newer valid same, (λ t p i root_is less four which. quiet_box k older o low even t p i root_is less four which newer valid same))
