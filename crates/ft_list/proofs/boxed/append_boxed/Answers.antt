use Rattle.std.proofs.Common.{ℕ, length, refl, ap, subst}
use Rattle.ft_model.specs.declared.call.Call.TheVariants as call
use Rattle.ft_model.specs.declared.call.ListCall.TheVariants as list
use Rattle.ft_bank.specs.Passes.{shape_of, view}
use Rattle.ft_boxes.specs.References.{box_of}
use Rattle.ft_table_calls.proofs.FullHeaps.{heap_full}
use Rattle.ft_list.specs.BoxedCalls.{AddsBoxed}
use Rattle.ft_list.proofs.BoxedCalls.{both, few_items, items, with_box}
use Rattle.ft_list.proofs.boxed.append_boxed.Goals as goal

pub answer_full-requires-clause-full : goal.answer_full-requires-clause-full
answer_full-requires-clause-full c =
    let x = view c.count_of-count.new.pass in
    let made = c.in-HeapFull.ensures.made in
    let same = c.make.ensures.only.work.pass in
    heap_full x (view c.make.new.pass) made.0 made.1 same.shape same.number c.count_of-count.ensures.may.boxes.stored

pub returns-in-Up-clause-added : goal.returns-in-Up-clause-added
returns-in-Up-clause-added c =
    let a = c.args in
    let k = shape_of a.bank.now in
    let v = view a.pass.now in
    let x = view c.count_of-count.new.pass in
    let u = view c.make.new.pass in
    let w = view c.append_held.new.pass in
    let called = call.List a.l (list.Append a.value) in
    let count = c.count_of-count.ensures in
    let few = few_items k a.l a.value called v x u w count.only c.make.ensures.only c.count_of-count.result count.count c.if-count.false in
    subst (λ (z : ℕ). AddsBoxed k a.l z a.value called v w c.append_held.result) (ap length (items k a.l a.value called v x u w count.only c.make.ensures.only))
    (with_box k a.l a.value called v x u w count.only c.make.ensures.only _ (box_of c.in-Up.held) c.append_held.result few c.append_held.ensures.added)

pub returns-in-HeapFull-clause-added : goal.returns-in-HeapFull-clause-added
returns-in-HeapFull-clause-added c =
    let a = c.args in
    let k = shape_of a.bank.now in
    let v = view a.pass.now in
    let x = view c.count_of-count.new.pass in
    let u = view c.make.new.pass in
    let w = view c.answer_full.new.pass in
    let called = call.List a.l (list.Append a.value) in
    let count = c.count_of-count.ensures in
    let made = c.in-HeapFull.ensures.made in
    let same = c.make.ensures.only.work.pass in (
      few_items k a.l a.value called v x u w count.only c.make.ensures.only c.count_of-count.result count.count c.if-count.false,
      record { said_is = refl; unwritten = c.answer_full.ensures.wrote; before = u; boxed = both k a.l a.value called v x u w count.only c.make.ensures.only; full = heap_full x u made.0 made.1 same.shape same.number count.may.boxes.stored; answered = c.answer_full.ensures.answered },
    )
