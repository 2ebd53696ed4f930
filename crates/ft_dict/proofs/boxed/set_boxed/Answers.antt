use Rattle.std.proofs.Common.{◌≡◌, ◌<◌, refl, sym, ◌∙◌}
use Rattle.ft_model.specs.declared.call.Call.TheVariants as call
use Rattle.ft_model.specs.declared.call.DictCall.TheVariants as dict
use Rattle.ft_model.specs.declared.reply.Reply.TheVariants as reply
use Rattle.ft_model.specs.declared.content.Content.TheVariants as content
use Rattle.ft_model.specs.Contents.{DictContent}
use Rattle.ft_trace.specs.Addresses.{container_count}
use Rattle.ft_trace.specs.Holds.{known_state}
use Rattle.ft_bank.specs.Passes.{shape_of, view}
use Rattle.ft_boxes.specs.References.{box_of}
use Rattle.ft_table_calls.proofs.FullHeaps.{heap_full}
use Rattle.ft_dict.proofs.BoxedPuts.{both, set_lacks, set_passes, with_box}
use Rattle.ft_dict.proofs.Deleted.{known_dict}
use Rattle.ft_dict.proofs.HeldSets.{has_before}
use Rattle.ft_dict.proofs.boxed.set_boxed.Goals as goal
use Rattle.ft_dict.proofs.boxed.set_boxed.Goals.{After-value_fits}

-- the dict, as it is known before
pairs_of : (c : After-value_fits) → (pairs : DictContent) × ((known_state c.args.d (view c.args.pass.now)).content ≡ content.Dict pairs) × (c.args.d < container_count (view c.args.pass.now).shape)
pairs_of c = known_dict (shape_of c.args.bank.now) (view c.args.pass.now) c.args.d c.requires.pass.1 c.args.pass.now.possible c.requires.may c.requires.dict

pub answer_over-requires-clause-over : goal.answer_over-requires-clause-over
answer_over-requires-clause-over c found has =
    let a = c.args in
    let v = view a.pass.now in
    let p = pairs_of (goal.at.answer_over-requires-clause-over c).After-value_fits in
    let e = c.is_too_much.ensures in
    set_passes a.d v p.0 p.2 c.requires.may.locked p.1 a.key a.value c.key_fits.ensures c.value_fits.ensures (sym e.much ∙ c.if-is_too_much.true) found (has_before v (view c.is_too_much.new.pass) e.only.work found has)

pub returns-then-is_too_much-clause-put : goal.returns-then-is_too_much-clause-put
returns-then-is_too_much-clause-put c =
    let e = c.is_too_much.ensures in
    (view c.is_too_much.new.pass, e.only, (sym e.much ∙ c.if-is_too_much.true, c.answer_over.ensures.wrote, c.answer_over.ensures.answered))

pub answer_full-requires-clause-full : goal.answer_full-requires-clause-full
answer_full-requires-clause-full c =
    let made = c.in-HeapFull.ensures.made in
    let same = c.make.ensures.only.work.pass in
    heap_full (view c.is_too_much.new.pass) (view c.make.new.pass) made.0 made.1 same.shape same.number c.is_too_much.ensures.may.boxes.stored

pub answer_full-requires-clause-lacks : goal.answer_full-requires-clause-lacks
answer_full-requires-clause-lacks c found has =
    let a = c.args in
    let k = shape_of a.bank.now in
    let v = view a.pass.now in
    let x = view c.is_too_much.new.pass in
    let u = view c.make.new.pass in
    let p = pairs_of (goal.at.answer_full-requires-clause-lacks c).After-value_fits in
    let e = c.is_too_much.ensures in
    let called = call.Dict a.d (dict.Set a.key a.value) in
    let all = both k a.d a.key called reply.Done v x u u e.only c.make.ensures.only in
    set_lacks a.d v p.0 p.2 c.requires.may.locked p.1 a.key a.value c.key_fits.ensures c.value_fits.ensures c.requires.boxed (sym e.much ∙ c.if-is_too_much.false) found (has_before v u all.work found has)

pub returns-in-Up-clause-put : goal.returns-in-Up-clause-put
returns-in-Up-clause-put c =
    let a = c.args in
    let e = c.is_too_much.ensures in
    with_box (shape_of a.bank.now) a.d a.key (call.Dict a.d (dict.Set a.key a.value)) reply.Done (view a.pass.now) (view c.is_too_much.new.pass) (view c.make.new.pass) (view c.set_held.new.pass) e.only c.make.ensures.only a.value c.set_held.result (sym e.much ∙ c.if-is_too_much.false) c.set_held.ensures.put
    (λ is_made other. (box_of c.in-Up.held, c.set_held.ensures.names is_made.0 is_made.1 other))

pub returns-in-HeapFull-clause-put : goal.returns-in-HeapFull-clause-put
returns-in-HeapFull-clause-put c =
    let a = c.args in
    let v = view a.pass.now in
    let x = view c.is_too_much.new.pass in
    let u = view c.make.new.pass in
    let e = c.is_too_much.ensures in
    let made = c.in-HeapFull.ensures.made in
    let same = c.make.ensures.only.work.pass in
    let all = both (shape_of a.bank.now) a.d a.key (call.Dict a.d (dict.Set a.key a.value)) reply.Done v x u u e.only c.make.ensures.only in (
      sym e.much ∙ c.if-is_too_much.false,
      record { said_is = refl; unwritten = c.answer_full.ensures.wrote; before = u; boxed = all; full = heap_full x u made.0 made.1 same.shape same.number e.may.boxes.stored; answered = c.answer_full.ensures.answered },
    )
