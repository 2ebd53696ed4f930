-- The laws on boxes.
use Rattle.std.proofs.Common.{◌≡◌, ◌≢◌, ◌∙◌, inl, inr, arith}
use mathlib.Core.Logic.{dite}
use native.Mathlib.Decide.{ℕ_discrete}
use Rattle.ft_trace.specs.Addresses.{box_word}
use Rattle.ft_trace.specs.BoxTraces.{box_state, shared_count}
use Rattle.ft_trace.specs.BoxLaws.{ReferencesAreCounted, DeadBoxesHaveNoReference, PlacesAreGivenBackOnce, RaisesAreOfLiveBoxes, LocalCountsAreTheMakers, ReferencedValuesStay, HeldValuesStay, OthersLeaveWhatIsRead, WordsStandThroughBoxes, HoldersKnowWhatIsRead}
use Rattle.ft_trace.specs.Traces.{word}
use Rattle.ft_trace.proofs.Boxed.{boxed, shared_range}
use Rattle.ft_trace.proofs.BoxCounts.{three_is, is_three, not_three}
use Rattle.ft_trace.proofs.BoxValues.{value_stays}
use Rattle.ft_trace.proofs.HeldBoxes.{held_long}
use Rattle.ft_trace.proofs.LocalWords.{others_leave_local}
use Rattle.ft_trace.proofs.Unboxed.{read_unwritten}
use Rattle.ft_trace.proofs.Standing.{stands}
use Rattle.ft_trace.proofs.BoxKnown.{holder_reads}

pub references_are_counted : ReferencesAreCounted
references_are_counted k b es valid is =
    let x = boxed k b es valid in
    let w = x.word is in
    let c = x.counts in (
      (λ l. (w.none l, c.none l)),
      (λ e. (w.default e, c.balance (omega (arith, e)))),
      (λ e. (w.merged e, (let y = c.balance (omega (arith, e)) in let z = c.idle (λ h. omega (arith, h, e)) in omega (arith, y, z)))),
      c.small,
      shared_range k b es valid,
    )

pub dead_boxes_have_no_reference : DeadBoxesHaveNoReference
dead_boxes_have_no_reference k b es valid is =
    let x = boxed k b es valid in
    let w = x.word is in
    let c = x.counts in (
      (λ three.
          dite (ℕ_discrete (box_state b es) 2)
          (λ (e : box_state b es ≡ 2). absurd (not_three (shared_count b es) (word k es (box_word b 0)) (w.default e) three))
          (λ no2.
          dite (ℕ_discrete (box_state b es) 3)
          (λ (e : box_state b es ≡ 3).
          let r = shared_range k b es valid (omega (arith, e)) in
          let low = r.0 in
          let high = r.1 in
          let s = three_is (shared_count b es) (word k es (box_word b 0)) low (omega (arith, high)) (w.merged e) three in
          let y = c.balance (omega (arith, e)) in
          let z = c.idle (λ h. omega (arith, h, e)) in
          omega (arith, s, y, z))
          (λ no3. c.none (let l = c.small in omega (arith, l, no2, no3))))),
      (λ e none.
          let y = c.balance (omega (arith, e)) in
          let z = c.idle (λ h. omega (arith, h, e)) in
          is_three (shared_count b es) (word k es (box_word b 0)) (omega (arith, y, z, none)) (w.merged e)),
    )

pub places_are_given_back_once : PlacesAreGivenBackOnce
places_are_given_back_once k b es valid is = let x = boxed k b es valid in (x.free is, x.taken is, x.counts.dead, x.counts.more)

pub raises_are_of_live_boxes : RaisesAreOfLiveBoxes
raises_are_of_live_boxes k b old es id v valid =
    let is = valid.1.3.0 in
    let found : old ≡ word k es (box_word b 0) = valid.1.2 in
    let not3 : word k es (box_word b 0) ≢ 3 = λ z. valid.1.3.2 (found ∙ z) in
    let x = boxed k b es valid.0 in
    let c = x.counts in
    let l = c.small in
    dite (ℕ_discrete (box_state b es) 2) (λ (e : box_state b es ≡ 2). inl e)
    (λ no2. dite (ℕ_discrete (box_state b es) 3)
    (λ (e : box_state b es ≡ 3). inr (e, λ z. not3 ((dead_boxes_have_no_reference k b es valid.0 is).1 e z)))
    (λ no3. absurd (not3 ((x.word is).none (omega (arith, l, no2, no3))))))

pub local_counts_are_the_makers : LocalCountsAreTheMakers
local_counts_are_the_makers = others_leave_local

pub referenced_values_stay : ReferencedValuesStay
referenced_values_stay k es id v a valid b some_ = (
  value_stays k es id v b 1 valid.0 valid.1.0 some_ (omega arith) (λ z. omega (arith, z)) (λ z. omega (arith, z)) a valid.1.3,
  value_stays k es id v b 2 valid.0 valid.1.0 some_ (omega arith) (λ z. omega (arith, z)) (λ z. omega (arith, z)) a valid.1.3,
)

pub held_values_stay : HeldValuesStay
held_values_stay = held_long

pub others_leave_what_is_read : OthersLeaveWhatIsRead
others_leave_what_is_read = read_unwritten

pub words_stand_through_boxes : WordsStandThroughBoxes
words_stand_through_boxes = stands

pub holders_know_what_is_read : HoldersKnowWhatIsRead
holders_know_what_is_read = holder_reads
