-- What stands in a thread's open section, one entry further.
use Rattle.std.proofs.Common.{◌≡◌, ◌≢◌, ℕ, ◌+◌, ◌<◌, ◌≤◌, Bool, true, false, not, List, [], ◌∷◌, ◌++◌, length, take, drop, Some, refl, sym, ap, ◌∙◌, arith, cond}
use Rattle.std.specs.Prelude.{slice_get, ◌&&◌, ◌||◌, ◌==◌, is_some}
use Rattle.std.specs.List.{AllByRecursion, between, count_by, list_any}
use Rattle.std.proofs.lemmas.Bool.{eq-eqb, ne_eqb, and_left, and_right}
use Rattle.std.proofs.lemmas.List.{length-take-le, length-take, drop-append-le, drop_all}
use Rattle.std.proofs.lemmas.List.Folds.{list_any-append}
use Rattle.std.proofs.lemmas.List.Sums.{fold_push}
use Rattle.std.proofs.lemmas.Slice.{between_is}
use Rattle.std.proofs.lemmas.Option.{slice_get_within}
use Rattle.ft_model.specs.declared.entry.Entry.{Entry}
use Rattle.ft_model.specs.Histories.{Section, after_section, sections_at, disturbs, is_disturbed, is_marked, marks_between}
use Rattle.ft_history.proofs.SectionWrites.{IsBegunBefore}
use Rattle.ft_history.proofs.HistoryPlaces.{take_next}
use Rattle.ft_history.proofs.SectionWrites.{sections_next, sections_begun}

abbrev pub AllBelow : ℕ → List Section → Type 0
AllBelow place sections = AllByRecursion (λ section. section.begun < place) sections

begun_below : (entries : List Entry) (thread place : ℕ) (sections : List Section) → AllByRecursion (IsBegunBefore entries thread place) sections → AllBelow place sections
begun_below entries thread place [] begun = tt
begun_below entries thread place (section ∷ sections) begun = (begun.0.before, begun_below entries thread place sections begun.1)

pub sections_below : (entries : List Entry) (thread place : ℕ) → place ≤ length entries → AllBelow place (sections_at entries thread place)
sections_below entries thread place within = begun_below entries thread place (sections_at entries thread place) (sections_begun entries thread place within)

or_false : (b : Bool) → (b || false) ≡ b
or_false true = refl
or_false false = refl

module _ (entries : List Entry) (place : ℕ) (entry : Entry) (at : slice_get entries place ≡ Some entry) where
  within : place < length entries
  within = slice_get_within entries place entry at

  between_next : (begun : ℕ) → begun < place → between (begun + 1) (place + 1) entries ≡ between (begun + 1) place entries ++ entry ∷ []
  between_next begun before =
      between_is entries (begun + 1) (place + 1) ∙ ap (drop (begun + 1)) (take_next entries place entry at)
      ∙ drop-append-le (begun + 1) (take place entries) (entry ∷ []) (omega (arith, within, length-take-le place entries (omega (arith, within))))
      ∙ ap (λ (es : List Entry). es ++ entry ∷ []) (sym (between_is entries (begun + 1) place))

  pub marks_next : (thread : ℕ) (section : Section) → section.begun < place → marks_between entries thread (place + 1) section ≡ marks_between entries thread place section + cond (is_marked thread entry) 1 0
  marks_next thread section before =
      ap (count_by (is_marked thread)) (between_next section.begun before)
      ∙ fold_push (λ count (e : Entry). count + cond (is_marked thread e) 1 0) 0 (between (section.begun + 1) place entries) entry

  pub disturbed_next : (thread : ℕ) (section : Section) → section.begun < place → is_disturbed entries thread (place + 1) section ≡ (is_disturbed entries thread place section || disturbs thread section.containers entry)
  disturbed_next thread section before =
      ap (list_any (disturbs thread section.containers)) (between_next section.begun before)
      ∙ list_any-append (disturbs thread section.containers) (between (section.begun + 1) place entries) (entry ∷ [])
      ∙ ap (λ b. is_disturbed entries thread place section || b) (or_false (disturbs thread section.containers entry))

  between_none : between (place + 1) (place + 1) entries ≡ []
  between_none = between_is entries (place + 1) (place + 1) ∙ drop_all (place + 1) (take (place + 1) entries) (omega (arith, length-take (place + 1) entries))

  pub marks_none : (thread : ℕ) (containers : List ℕ) → marks_between entries thread (place + 1) (record { containers = containers; begun = place }) ≡ 0
  marks_none thread containers = ap (count_by (is_marked thread)) between_none

  pub disturbed_none : (thread : ℕ) (containers : List ℕ) → is_disturbed entries thread (place + 1) (record { containers = containers; begun = place }) ≡ false
  disturbed_none thread containers = ap (list_any (disturbs thread containers)) between_none

  -- of another thread's entry nothing is marked, and an own entry disturbs nothing
  pub other_unmarked : (thread : ℕ) → entry.thread ≢ thread → is_marked thread entry ≡ false
  other_unmarked thread other = and_left (entry.thread == thread) (is_some entry.waited) (ne_eqb entry.thread thread other)

  pub own_marked : (thread : ℕ) → entry.thread ≡ thread → is_marked thread entry ≡ is_some entry.waited
  own_marked thread mine = ap (λ b. b && is_some entry.waited) (eq-eqb entry.thread thread mine)

  pub own_undisturbed : (thread : ℕ) (containers : List ℕ) → entry.thread ≡ thread → disturbs thread containers entry ≡ false
  own_undisturbed thread containers mine =
      let not_other : not (entry.thread == thread) ≡ false = ap not (eq-eqb entry.thread thread mine) in
      and_left (entry.wrote && not (entry.thread == thread)) _ (and_right entry.wrote (not (entry.thread == thread)) not_other)

  pub sections_own : (thread : ℕ) → entry.thread ≡ thread → sections_at entries thread (place + 1) ≡ after_section place entry.call (sections_at entries thread place)
  sections_own thread mine = sections_next entries thread place entry at ∙ ap (λ b. cond b (after_section place entry.call (sections_at entries thread place)) (sections_at entries thread place)) (eq-eqb entry.thread thread mine)

  pub sections_other : (thread : ℕ) → entry.thread ≢ thread → sections_at entries thread (place + 1) ≡ sections_at entries thread place
  sections_other thread other = sections_next entries thread place entry at ∙ ap (λ b. cond b (after_section place entry.call (sections_at entries thread place)) (sections_at entries thread place)) (ne_eqb entry.thread thread other)
