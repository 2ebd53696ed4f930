-- While an entry or item keeps an even version in a table that a root names, the value in the box that it names stays.
use Rattle.std.proofs.Common.{◌≡◌, ◌≢◌, ◌⊎◌, ℕ, suc, ◌%◌, ◌<◌, ◌≤◌, List, [], ◌∷◌, ◌++◌, refl, sym, ap, ◌∙◌, subst, inl, inr, arith}
use Rattle.std.specs.Prelude.{slice_index}
use Rattle.ft_model.specs.declared.script.Kind.{Kind}
use Rattle.ft_model.specs.declared.script.Kind.TheVariants as kind
use Rattle.ft_trace.specs.declared.Shape.{Shape}
use Rattle.ft_trace.specs.Addresses.{box_word, class_of, container_count, slots}
use Rattle.ft_trace.specs.Ages.{age}
use Rattle.ft_trace.specs.ContainerStates.{kind_in}
use Rattle.ft_trace.specs.Pictures.{root_of, inner, entry_offset, item_offset}
use Rattle.ft_trace.specs.Kinds.{rows, version_at, LaterAs}
use Rattle.ft_trace.specs.Boxes.{value_at}
use Rattle.ft_trace.specs.BoxTraces.{references}
use Rattle.ft_trace.specs.QuietEntries.{QuietEntriesKeepBoxes}
use Rattle.ft_trace.specs.Traces.{Event, did, forked, joined, sent, run, word, Valid}
use Rattle.ft_trace.proofs.TablePlaces.{root, root_table, placed}
use Rattle.ft_trace.proofs.Ages.{ages_one, ages_rise, whose_same}
use Rattle.ft_trace.proofs.Contents.{tab}
use Rattle.ft_trace.proofs.Sounds.{LaterIn, laters, later_one}
use Rattle.ft_trace.proofs.BoxValues.{value_stays}
use Rattle.ft_trace.proofs.Unboxed.{refs_of_row}

-- what stays of a value while the version does
pub record SameRow (kind : Kind) (class p : ℕ) (ws zs : List ℕ) : Type 0 where
  pub up : slice_index ws (version_at kind class p) ≤ slice_index zs (version_at kind class p)
  pub kind_is : slice_index ws (version_at kind class p) % 2 ≡ 0
      → slice_index zs (version_at kind class p) ≡ slice_index ws (version_at kind class p)
      → slice_index zs (value_at kind class p) ≡ slice_index ws (value_at kind class p)
  pub payload_is : slice_index ws (version_at kind class p) % 2 ≡ 0
      → slice_index zs (version_at kind class p) ≡ slice_index ws (version_at kind class p)
      → slice_index zs (suc (value_at kind class p)) ≡ slice_index ws (suc (value_at kind class p))

next_word : (ws zs : List ℕ) (i j : ℕ) → j ≡ suc i → slice_index zs j ≡ slice_index ws j → slice_index zs (suc i) ≡ slice_index ws (suc i)
next_word ws zs i j e same = ap (slice_index zs) (sym e) ∙ (same ∙ ap (slice_index ws) e)

pub later_row : (kind : Kind) (class p : ℕ) (ws zs : List ℕ) → LaterAs kind class ws zs → p < rows kind class → SameRow kind class p ws zs
later_row kind.List class p ws zs l low = record {
  up = l.version p low;
  kind_is = λ even same. l.same p 1 low (omega arith) (omega arith) even same;
  payload_is = λ even same. next_word ws zs (item_offset p 1) (item_offset p 2) (omega arith) (l.same p 2 low (omega arith) (omega arith) even same);
}
later_row kind.Dict class p ws zs l low = record {
  up = l.version p low;
  kind_is = λ even same. l.same p 4 low (omega arith) (omega arith) even same;
  payload_is = λ even same. next_word ws zs (entry_offset (slots class) p 4) (entry_offset (slots class) p 5) (omega arith) (l.same p 5 low (omega arith) (omega arith) even same);
}
later_row kind.Set class p ws zs l low = record {
  up = l.version p low;
  kind_is = λ even same. l.same p 4 low (omega arith) (omega arith) even same;
  payload_is = λ even same. next_word ws zs (entry_offset (slots class) p 4) (entry_offset (slots class) p 5) (omega arith) (l.same p 5 low (omega arith) (omega arith) even same);
}
later_row (kind.Deque bound) class p ws zs l low = absurd (omega (arith, low))

module _ (k : Shape) (older : List Event) (o : ℕ) (low : o < container_count k) (t p i : ℕ) (names_it : root k older o ≡ suc t) (less : p < rows (kind_in k.starts o) (class_of t)) (even : slice_index (tab k older t) (version_at (kind_in k.starts o) (class_of t) p) % 2 ≡ 0) (four : slice_index (tab k older t) (value_at (kind_in k.starts o) (class_of t) p) ≡ 4) (which : (i ≡ 1) ⊎ (i ≡ 2)) where
  abbrev Kd : Kind
  Kd = kind_in k.starts o

  abbrev Ver : List Event → ℕ
  Ver es = slice_index (tab k es t) (version_at Kd (class_of t) p)

  abbrev Box : ℕ
  Box = slice_index (tab k older t) (suc (value_at Kd (class_of t) p))

  facts : (i ≡ 1) ⊎ (i ≡ 2) → (i < 4) × (i ≢ 0) × (i ≢ 3)
  facts (inl e) = (omega (arith, e), (λ z. omega (arith, e, z)), (λ z. omega (arith, e, z)))
  facts (inr e) = (omega (arith, e), (λ z. omega (arith, e, z)), (λ z. omega (arith, e, z)))

  -- from then to a later moment
  since : (newer : List Event) → Valid k (newer ++ older) → Valid k older → age (newer ++ older) t ≡ age older t → SameRow Kd (class_of t) p (tab k older t) (tab k (newer ++ older) t)
  since newer valid first_ same =
      let table = root_table k older first_ o low t names_it in
      let two = (placed k older first_ t table).roots o low names_it in
      let l = laters k newer older valid t table two.0 same in
      later_row Kd (class_of t) p (tab k older t) (tab k (newer ++ older) t) (subst (λ (z : ℕ). LaterIn k z t (tab k older t) (tab k (newer ++ older) t)) two.1 l) less

  -- one event
  one_up : (e : Event) (newer : List Event) → Valid k (e ∷ (newer ++ older)) → Valid k older → age (newer ++ older) t ≡ age older t → Ver (newer ++ older) ≤ Ver (e ∷ (newer ++ older))
  one_up e newer valid first_ same =
      let table = root_table k older first_ o low t names_it in
      let two = (placed k older first_ t table).roots o low names_it in
      let l = later_one k (newer ++ older) e valid t table (ap (λ (z : ℕ). z % 5) same ∙ two.0) in
      (later_row Kd (class_of t) p (tab k (newer ++ older) t) (tab k (e ∷ (newer ++ older)) t) (subst (λ (z : ℕ). LaterIn k z t (tab k (newer ++ older) t) (tab k (e ∷ (newer ++ older)) t)) (whose_same newer older t same ∙ two.1) l) less).up

  first_valid : (newer : List Event) → Valid k (newer ++ older) → Valid k older
  first_valid [] valid = valid
  first_valid (e ∷ newer) valid = first_valid newer valid.0

  -- there is a reference at each moment between
  between : (newer : List Event) → Valid k (newer ++ older) → age (newer ++ older) t ≡ age older t → Ver (newer ++ older) ≡ Ver older → references k Box (newer ++ older) ≢ 0
  between newer valid same_age same =
      let es : List Event = newer ++ older in
      let first_ = first_valid newer valid in
      let s = since newer valid first_ same_age in
      let table = root_table k older first_ o low t names_it in
      let two = (placed k older first_ t table).roots o low names_it in
      let now = (placed k es valid t table).current (ap (λ (z : ℕ). z % 5) same_age ∙ two.0) in
      let r : root_of k o (run k es).words ≡ suc t = subst (λ (z : ℕ). root k es z ≡ suc t) (whose_same newer older t same_age ∙ two.1) now.1 in
      let words : inner k (root_of k o (run k es).words) (run k es).words ≡ tab k es t = ap (λ (z : ℕ). inner k z (run k es).words) r in
      let f : slice_index (inner k (root_of k o (run k es).words) (run k es).words) (value_at Kd (class_of t) p) ≡ 4 = ap (λ (l : List ℕ). slice_index l (value_at Kd (class_of t) p)) words ∙ (s.kind_is even same ∙ four) in
      let b : slice_index (inner k (root_of k o (run k es).words) (run k es).words) (suc (value_at Kd (class_of t) p)) ≡ Box = ap (λ (l : List ℕ). slice_index l (suc (value_at Kd (class_of t) p))) words ∙ s.payload_is even same in
      let some_ = refs_of_row k es o low t p r less f in
      λ z. some_ (ap (λ (y : ℕ). references k y es) b ∙ z)

  -- between, age and version are the same
  age_before : (e : Event) (newer : List Event) → age (e ∷ (newer ++ older)) t ≡ age older t → age (newer ++ older) t ≡ age older t
  age_before e newer same =
      let a = ages_rise newer older t in
      let b = (ages_one e (newer ++ older) t).up in
      omega (arith, a, b, same)

  version_before : (e : Event) (newer : List Event) → Valid k (e ∷ (newer ++ older)) → age (newer ++ older) t ≡ age older t → Ver (e ∷ (newer ++ older)) ≡ Ver older → Ver (newer ++ older) ≡ Ver older
  version_before e newer valid same_age same =
      let first_ = first_valid newer valid.0 in
      let a = (since newer valid.0 first_ same_age).up in
      let b = one_up e newer valid first_ same_age in
      omega (arith, a, b, same)

  pub quiet_entry : (newer : List Event) → Valid k (newer ++ older) → age (newer ++ older) t ≡ age older t → Ver (newer ++ older) ≡ Ver older → word k (newer ++ older) (box_word Box i) ≡ word k older (box_word Box i)
  quiet_entry [] valid same_age same = refl
  quiet_entry (did id v a ∷ newer) valid same_age same =
      let g = age_before (did id v a) newer same_age in
      let h = version_before (did id v a) newer valid g same in
      let x = facts which in
      value_stays k (newer ++ older) id v Box i valid.0 valid.1.0 (between newer valid.0 g h) x.0 x.1 x.2 a valid.1.3 ∙ quiet_entry newer valid.0 g h
  quiet_entry (forked id v ∷ newer) valid same_age same = let g = age_before (forked id v) newer same_age in quiet_entry newer valid.0 g (version_before (forked id v) newer valid g same)
  quiet_entry (sent id v given ∷ newer) valid same_age same = let g = age_before (sent id v given) newer same_age in quiet_entry newer valid.0 g (version_before (sent id v given) newer valid g same)
  quiet_entry (joined id v other w ∷ newer) valid same_age same = let g = age_before (joined id v other w) newer same_age in quiet_entry newer valid.0 g (version_before (joined id v other w) newer valid g same)

pub quiet_entries_keep_boxes : QuietEntriesKeepBoxes
quiet_entries_keep_boxes k newer older valid o low t p i names_it same_age less even same four which = quiet_entry k older o low t p i names_it less even four which newer valid same_age same
