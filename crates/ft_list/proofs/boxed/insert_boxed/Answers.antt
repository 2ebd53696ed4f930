use Rattle.std.proofs.Common.{◌≡◌, ◌<◌, ℕ, ℤ, length, refl, sym, ap, ◌∙◌, subst, arith}
use Rattle.std.specs.List.{insert}
use Rattle.std.proofs.lemmas.Bool.{le-ltb}
use Rattle.std.proofs.lemmas.List.Edits.{length-insert}
use mir.Syntax.{w64}
use mir.Val.{to_z, of_z}
use Rattle.std.proofs.Math.Facts.{to_z-of_z}
use Rattle.ft_model.specs.declared.call.Call.TheVariants as call
use Rattle.ft_model.specs.declared.call.ListCall.TheVariants as list
use Rattle.ft_model.specs.declared.reply.Reply.TheVariants as reply
use Rattle.ft_model.specs.declared.reply.Raise.TheVariants as raise
use Rattle.ft_model.specs.Classes.{most_items}
use Rattle.ft_model.specs.Lists.{clamped_in}
use Rattle.ft_trace.specs.declared.Shape.{Shape}
use Rattle.ft_trace.specs.Addresses.{container_count}
use Rattle.ft_bank.specs.Passes.{shape_of, view}
use Rattle.ft_boxes.specs.References.{box_of}
use Rattle.ft_table_calls.specs.Adding.{AnsweredFull}
use Rattle.ft_table_calls.proofs.FullHeaps.{heap_full}
use Rattle.ft_list.specs.BoxedCalls.{AddsBoxed}
use Rattle.ft_list.specs.ListItemWrites.{known_items}
use Rattle.ft_model.specs.declared.script.Kind.TheVariants as kind
use Rattle.ft_trace.specs.ContainerStates.{kind_in}
use Rattle.ft_list.proofs.BoxedCalls.{both, few_items, items, with_box}
use Rattle.ft_list.proofs.ListCallFacts.{insert_adds}
use Rattle.ft_list.proofs.Lists.{list_content}
use Rattle.ft_list.proofs.Scanning.{clamped_low}
use Rattle.ft_list.proofs.boxed.insert_boxed.Goals as goal

pub answer_full-requires-clause-full : goal.answer_full-requires-clause-full
answer_full-requires-clause-full c =
    let x = view c.count_of-count.new.pass in
    let made = c.in-HeapFull.ensures.made in
    let same = c.make.ensures.only.work.pass in
    heap_full x (view c.make.new.pass) made.0 made.1 same.shape same.number c.count_of-count.ensures.may.boxes.stored

pub answer_full-requires-clause-lacks : goal.answer_full-requires-clause-lacks
answer_full-requires-clause-lacks c stored has =
    let a = c.args in
    let x = view c.count_of-count.new.pass in
    let u = view c.make.new.pass in
    let z = to_z w64 (of_z w64 a.index) in
    let e = c.count_of-count.ensures in
    let work = c.make.ensures.only.work in
    let shape = work.pass.shape ∙ e.pass.1 in
    let low : a.l < container_count u.shape = subst (λ (k : Shape). a.l < container_count k) (sym shape) e.may.container in
    let kind_ : kind_in u.shape.starts a.l ≡ kind.List = ap (λ (k : Shape). kind_in k.starts a.l) shape ∙ e.may.kind in
    let mine = work.pass.locks a.l ∙ e.may.locked in
    let values = known_items a.l u in
    let same : values ≡ known_items a.l (view a.pass.now) = items (shape_of a.bank.now) a.l a.value (call.List a.l (list.Insert z a.value)) (view a.pass.now) x u u e.only c.make.ensures.only in
    let adds = insert_adds a.l z a.value values u low mine (list_content u a.l c.make.new.pass.possible mine kind_) c.value_fits.ensures in
    let long = length-insert values (clamped_in (length values) z) a.value (clamped_low (length values) z) in
    let n = e.count in
    let few = c.if-count.false in
    let counts = ap length same in
    (record { boxes = c.requires.boxed; raises_nothing = refl }, adds.caps stored has ∙ le-ltb most_items (length (insert values (clamped_in (length values) z) a.value)) (omega (arith, long, n, few, counts)))

pub returns-in-Up-clause-added : goal.returns-in-Up-clause-added
returns-in-Up-clause-added c =
    let a = c.args in
    let k = shape_of a.bank.now in
    let v = view a.pass.now in
    let x = view c.count_of-count.new.pass in
    let u = view c.make.new.pass in
    let w = view c.insert_held.new.pass in
    let z = to_z w64 (of_z w64 a.index) in
    let called = call.List a.l (list.Insert z a.value) in
    let count = c.count_of-count.ensures in
    let few = few_items k a.l a.value called v x u w count.only c.make.ensures.only c.count_of-count.result count.count c.if-count.false in
    subst (λ (i : ℤ). AddsBoxed k a.l (clamped_in (length (known_items a.l v)) i) a.value (call.List a.l (list.Insert i a.value)) v w c.insert_held.result) (to_z-of_z {w = w64} {z = a.index} c.ranges.index)
    (subst (λ (n : ℕ). AddsBoxed k a.l (clamped_in n z) a.value called v w c.insert_held.result) (ap length (items k a.l a.value called v x u w count.only c.make.ensures.only))
    (with_box k a.l a.value called v x u w count.only c.make.ensures.only _ (box_of c.in-Up.held) c.insert_held.result few c.insert_held.ensures.added))

pub returns-in-HeapFull-clause-added : goal.returns-in-HeapFull-clause-added
returns-in-HeapFull-clause-added c =
    let a = c.args in
    let k = shape_of a.bank.now in
    let v = view a.pass.now in
    let x = view c.count_of-count.new.pass in
    let u = view c.make.new.pass in
    let w = view c.answer_full.new.pass in
    let z = to_z w64 (of_z w64 a.index) in
    let called = call.List a.l (list.Insert z a.value) in
    let count = c.count_of-count.ensures in
    let made = c.in-HeapFull.ensures.made in
    let same = c.make.ensures.only.work.pass in (
      few_items k a.l a.value called v x u w count.only c.make.ensures.only c.count_of-count.result count.count c.if-count.false,
      subst (λ (i : ℤ). AnsweredFull (call.List a.l (list.Insert i a.value)) (reply.Raised raise.Heap) c.answer_full.result v w) (to_z-of_z {w = w64} {z = a.index} c.ranges.index)
          (record { said_is = refl; unwritten = c.answer_full.ensures.wrote; before = u; boxed = both k a.l a.value called v x u w count.only c.make.ensures.only; full = heap_full x u made.0 made.1 same.shape same.number count.may.boxes.stored; answered = c.answer_full.ensures.answered }),
    )
