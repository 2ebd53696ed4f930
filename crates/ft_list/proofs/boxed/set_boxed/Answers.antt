use Rattle.std.proofs.Common.{◌≡◌, ℕ, ℤ, List, [], ◌∷◌, length, Option, Some, None, refl, sym, ap, ◌∙◌, subst, inl, inr}
use mir.Syntax.{w64}
use mir.Val.{to_z, of_z}
use Rattle.std.proofs.Math.Facts.{to_z-of_z}
use Rattle.ft_model.specs.declared.call.Call.TheVariants as call
use Rattle.ft_model.specs.declared.call.ListCall.TheVariants as list
use Rattle.ft_model.specs.declared.data.Value.{Value}
use Rattle.ft_model.specs.declared.reply.Reply.TheVariants as reply
use Rattle.ft_model.specs.declared.reply.Raise.TheVariants as raise
use Rattle.ft_model.specs.Lists.{index_in}
use Rattle.ft_trace.specs.declared.Act.TheVariants.{ReadBlock}
use Rattle.ft_bank.specs.Passes.{shape_of, view}
use Rattle.ft_boxes.specs.References.{box_of}
use Rattle.ft_table_calls.proofs.FullHeaps.{heap_full}
use Rattle.ft_list.specs.BoxedCalls.{SetsBoxed}
use Rattle.ft_list.specs.ListItemWrites.{known_items}
use Rattle.ft_list.proofs.BoxedCalls.{both, items, set_with_box}
use Rattle.ft_list.proofs.ListMidst.{raised_as}
use Rattle.ft_list.proofs.Raising.{set_raises}
use Rattle.ft_list.proofs.boxed.set_boxed.Goals as goal
use Rattle.ft_list.proofs.boxed.set_boxed.Goals.{After-place_in}

pub answer_full-stamp-requires-clause-full : goal.answer_full-stamp-requires-clause-full
answer_full-stamp-requires-clause-full c =
    let x = view c.count_of-count.new.pass in
    let made = c.in-HeapFull.ensures.made in
    let same = c.make.ensures.only.work.pass in
    heap_full x (view c.make.new.pass) made.0 made.1 same.shape same.number c.count_of-count.ensures.may.boxes.stored

-- what the list has is known, so what the index names is
named : (c : After-place_in) (which : Option ℕ) → c.place_in.result ≡ which → index_in (length (known_items c.args.l (view c.args.pass.now))) (to_z w64 (of_z w64 c.args.index)) ≡ which
named c which is =
    ap (λ (n : ℕ). index_in n (to_z w64 (of_z w64 c.args.index))) (sym c.count_of-count.ensures.count) ∙ (sym c.place_in.ensures.answer ∙ is)

pub returns-in-None-clause-made : goal.returns-in-None-clause-made
returns-in-None-clause-made c =
    let a = c.args in
    let k = shape_of a.bank.now in
    let v = view a.pass.now in
    let u = view c.count_of-count.new.pass in
    let w = view c.raise-stamp.new.pass in
    let e = c.count_of-count.ensures in
    let z = to_z w64 (of_z w64 a.index) in
    let said = reply.Raised raise.NoIndex in
    let none = named (goal.at.returns-in-None-clause-made c).After-place_in None c.in-None.is in
    let none_now = ap (λ (xs : List Value). index_in (length xs) z) e.items ∙ none in
    subst (λ (i : ℤ). SetsBoxed k a.l i a.value said c.raise-stamp.result v w) (to_z-of_z {w = w64} {z = a.index} c.ranges.index)
    (inl (
      none,
      raised_as k a.l (list.Set z a.value) said v u w e.pass.1 c.count_of-count.new.pass.possible e.may e.only c.raise-stamp.result (ReadBlock a.l 1 e.log.0 ∷ []) e.log.1
          (set_raises a.l z a.value (known_items a.l u) none_now) c.raise-stamp.ensures.wrote c.raise-stamp.ensures.answered,
    ))

pub returns-in-Up-clause-made : goal.returns-in-Up-clause-made
returns-in-Up-clause-made c =
    let a = c.args in
    let k = shape_of a.bank.now in
    let v = view a.pass.now in
    let x = view c.count_of-count.new.pass in
    let u = view c.make.new.pass in
    let w = view c.set_held.new.pass in
    let z = to_z w64 (of_z w64 a.index) in
    let called = call.List a.l (list.Set z a.value) in
    let r = c.set_held.result in
    let e = c.set_held.ensures in
    let first = c.count_of-count.ensures.only in
    let place = c.in-Some.field-0 in
    let is_named = named (goal.at.returns-in-Up-clause-made c).After-place_in (Some place) c.in-Some.is in
    let named_then = ap (λ (xs : List Value). index_in (length xs) z) (items k a.l a.value called v x u w first c.make.ensures.only) ∙ is_named in
    subst (λ (i : ℤ). SetsBoxed k a.l i a.value r.0 r.1 v w) (to_z-of_z {w = w64} {z = a.index} c.ranges.index)
    (inr (place, is_named, set_with_box k a.l a.value called v x u w first c.make.ensures.only place (box_of c.in-Up.held) r.0 r.1 e.made (e.names place named_then)))

pub returns-in-HeapFull-clause-made : goal.returns-in-HeapFull-clause-made
returns-in-HeapFull-clause-made c =
    let a = c.args in
    let k = shape_of a.bank.now in
    let v = view a.pass.now in
    let x = view c.count_of-count.new.pass in
    let u = view c.make.new.pass in
    let w = view c.answer_full-stamp.new.pass in
    let z = to_z w64 (of_z w64 a.index) in
    let called = call.List a.l (list.Set z a.value) in
    let made = c.in-HeapFull.ensures.made in
    let same = c.make.ensures.only.work.pass in
    let count = c.count_of-count.ensures in
    let place = c.in-Some.field-0 in
    let is_named = named (goal.at.returns-in-HeapFull-clause-made c).After-place_in (Some place) c.in-Some.is in
    subst (λ (i : ℤ). SetsBoxed k a.l i a.value (reply.Raised raise.Heap) c.answer_full-stamp.result v w) (to_z-of_z {w = w64} {z = a.index} c.ranges.index)
    (inr (
      place,
      is_named,
      inl (record { said_is = refl; unwritten = c.answer_full-stamp.ensures.wrote; before = u; boxed = both k a.l a.value called v x u w count.only c.make.ensures.only; full = heap_full x u made.0 made.1 same.shape same.number count.may.boxes.stored; answered = c.answer_full-stamp.ensures.answered }),
    ))
