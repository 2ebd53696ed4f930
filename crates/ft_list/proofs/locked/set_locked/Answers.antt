use Rattle.std.proofs.Common.{◌≡◌, ◌<◌, ℕ, ℤ, true, [], ◌∷◌, length, Some, None, refl, sym, ap, ◌∙◌, subst, arith}
use Rattle.std.specs.Prelude.{slice_set}
use mir.Syntax.{w64}
use mir.Val.{to_z, of_z}
use Rattle.std.proofs.Math.Facts.{to_z-of_z}
use Rattle.ft_model.specs.declared.call.Call.TheVariants as call
use Rattle.ft_model.specs.declared.call.ListCall.TheVariants as list
use Rattle.ft_model.specs.declared.reply.Reply.TheVariants as reply
use Rattle.ft_model.specs.declared.reply.Raise.TheVariants as raise
use Rattle.ft_model.specs.Lists.{index_in}
use Rattle.ft_trace.specs.declared.Act.TheVariants.{ReadBlock}
use Rattle.ft_trace.specs.declared.Shape.{Shape}
use Rattle.ft_layout.specs.declared.slot.Stored.TheVariants.{Plain}
use Rattle.ft_layout.specs.Words.{stored_kind, stored_payload}
use Rattle.ft_trace.specs.Addresses.{container_count}
use Rattle.ft_trace.proofs.ValuePlaces.{plain_kind}
use Rattle.ft_bank.specs.Passes.{shape_of, view}
use Rattle.ft_bank.proofs.KnownAfterWrites.{loaded_then}
use Rattle.ft_search.specs.MadeCalls.{MadeAs}
use Rattle.ft_search.proofs.Overs.{plain_refs}
use Rattle.ft_search.proofs.Owning.{plain_seen}
use Rattle.ft_list.specs.ListItemWrites.{known_items}
use Rattle.ft_list.proofs.ListCallFacts.{set_changes}
use Rattle.ft_list.proofs.Lists.{begins, content_of}
use Rattle.ft_list.proofs.ListMidst.{wrote_as, raised_as}
use Rattle.ft_list.proofs.Raising.{set_raises}
use Rattle.ft_list.proofs.locked.set_locked.Goals as goal

pub table_of-table-requires-clause-some : goal.table_of-table-requires-clause-some
table_of-table-requires-clause-some c none =
    let w = c.in-Some.ensures.within in
    let n : c.count_of-count.result ≡ length (known_items c.args.l (view c.count_of-count.new.pass)) = c.count_of-count.ensures.count ∙ sym (ap length c.count_of-count.ensures.items) in
    omega (arith, w, n, none)

pub set_item-number-requires-clause-place : goal.set_item-number-requires-clause-place
set_item-number-requires-clause-place c =
    let w = c.in-Some.ensures.within in
    let n : c.count_of-count.result ≡ length (known_items c.args.l (view c.table_of-table.new.pass)) = c.count_of-count.ensures.count ∙ sym (ap length (c.table_of-table.ensures.items ∙ c.count_of-count.ensures.items)) in
    omega (arith, w, n)

pub set_item-number-requires-clause-call : goal.set_item-number-requires-clause-call
set_item-number-requires-clause-call c =
    let a = c.args in
    let k = shape_of a.bank.now in
    let v = view c.table_of-table.new.pass in
    let e = c.table_of-table.ensures in
    let values = known_items a.l v in
    let low : a.l < container_count v.shape = subst (λ (z : Shape). a.l < container_count z) (sym e.pass.1) e.may.container in
    let long : c.count_of-count.result ≡ length values = c.count_of-count.ensures.count ∙ sym (ap length (e.items ∙ c.count_of-count.ensures.items)) in
    let means : index_in (length values) (to_z w64 (of_z w64 a.index)) ≡ Some c.in-Some.place = ap (λ (n : ℕ). index_in n (to_z w64 (of_z w64 a.index))) (sym long) ∙ (sym c.place_in.ensures.answer ∙ c.in-Some.is) in
    (list.Set (to_z w64 (of_z w64 a.index)) a.value, refl, set_changes a.l (to_z w64 (of_z w64 a.index)) a.value values c.in-Some.place v low e.may.locked (content_of k a.l v e.pass.1 c.table_of-table.new.pass.possible e.may) c.value_fits.ensures means)

pub set_item-number-requires-clause-may : goal.set_item-number-requires-clause-may
set_item-number-requires-clause-may c = begins (shape_of c.args.bank.now) c.args.l (view c.table_of-table.new.pass) c.table_of-table.ensures.pass.1 c.table_of-table.ensures.may

pub set_item-number-requires-clause-own : goal.set_item-number-requires-clause-own
set_item-number-requires-clause-own c four = absurd (plain_kind c.args.value four)

pub set_item-number-requires-clause-reads : goal.set_item-number-requires-clause-reads
set_item-number-requires-clause-reads c = plain_seen (view c.table_of-table.new.pass) (Plain c.args.value) (plain_kind c.args.value) c.value_fits.ensures

pub set_item-number-requires-clause-fresh : goal.set_item-number-requires-clause-fresh
set_item-number-requires-clause-fresh c four same = absurd (plain_kind c.args.value four)

pub set_item-number-requires-clause-stores : goal.set_item-number-requires-clause-stores
set_item-number-requires-clause-stores c =
    let none = c.table_of-table.ensures.may.boxes.stored in
    record { named = λ b e. absurd (none b e); boxing = λ b e. absurd (none b e) }

pub raise-stamp-requires-clause-call : goal.raise-stamp-requires-clause-call
raise-stamp-requires-clause-call c =
    let a = c.args in
    let values = known_items a.l (view c.count_of-count.new.pass) in
    let long : c.count_of-count.result ≡ length values = c.count_of-count.ensures.count ∙ sym (ap length c.count_of-count.ensures.items) in
    let none : index_in (length values) (to_z w64 (of_z w64 a.index)) ≡ None = ap (λ (n : ℕ). index_in n (to_z w64 (of_z w64 a.index))) (sym long) ∙ (sym c.place_in.ensures.answer ∙ c.in-None.is) in
    (list.Set (to_z w64 (of_z w64 a.index)) a.value, refl, set_raises a.l (to_z w64 (of_z w64 a.index)) a.value values none)

pub returns-in-Some-clause-made : goal.returns-in-Some-clause-made
returns-in-Some-clause-made c =
    let a = c.args in
    let k = shape_of a.bank.now in
    let v = view a.pass.now in
    let u = view c.count_of-count.new.pass in
    let w = view c.table_of-table.new.pass in
    let x = view c.set_item-number.new.pass in
    let e = c.table_of-table.ensures in
    let z = to_z w64 (of_z w64 a.index) in
    let values = known_items a.l w in
    let low : a.l < container_count w.shape = subst (λ (y : Shape). a.l < container_count y) (sym e.pass.1) e.may.container in
    let long : c.count_of-count.result ≡ length values = c.count_of-count.ensures.count ∙ sym (ap length (e.items ∙ c.count_of-count.ensures.items)) in
    let means : index_in (length values) z ≡ Some c.in-Some.place = ap (λ (n : ℕ). index_in n z) (sym long) ∙ (sym c.place_in.ensures.answer ∙ c.in-Some.is) in
    subst (λ (i : ℤ). MadeAs (call.List a.l (list.Set i a.value)) reply.Done (record { number = c.set_item-number.result; wrote = true }) v x) (to_z-of_z {w = w64} {z = a.index} c.ranges.index)
    (wrote_as k a.l (list.Set z a.value) reply.Done v w x e.pass.1 c.table_of-table.new.pass.possible e.may (loaded_then v u w c.count_of-count.ensures.only e.only) c.set_item-number.result (slice_set values c.in-Some.place a.value)
    (set_changes a.l z a.value values c.in-Some.place w low e.may.locked (content_of k a.l w e.pass.1 c.table_of-table.new.pass.possible e.may) c.value_fits.ensures means) c.set_item-number.ensures.wrote c.set_item-number.ensures.root
    (plain_refs k w x (stored_kind (Plain a.value)) (stored_payload (Plain a.value)) e.pass.1 c.set_item-number.ensures.pass.1 (plain_kind a.value) c.set_item-number.ensures.references))

pub returns-in-None-clause-made : goal.returns-in-None-clause-made
returns-in-None-clause-made c =
    let a = c.args in
    let k = shape_of a.bank.now in
    let v = view a.pass.now in
    let u = view c.count_of-count.new.pass in
    let e = c.count_of-count.ensures in
    let z = to_z w64 (of_z w64 a.index) in
    let values = known_items a.l u in
    let long : c.count_of-count.result ≡ length values = e.count ∙ sym (ap length e.items) in
    let none : index_in (length values) z ≡ None = ap (λ (n : ℕ). index_in n z) (sym long) ∙ (sym c.place_in.ensures.answer ∙ c.in-None.is) in
    subst (λ (i : ℤ). MadeAs (call.List a.l (list.Set i a.value)) (reply.Raised raise.NoIndex) c.raise-stamp.result v (view c.raise-stamp.new.pass)) (to_z-of_z {w = w64} {z = a.index} c.ranges.index)
    (raised_as k a.l (list.Set z a.value) (reply.Raised raise.NoIndex) v u (view c.raise-stamp.new.pass) e.pass.1 c.count_of-count.new.pass.possible e.may e.only c.raise-stamp.result (ReadBlock a.l 1 e.log.0 ∷ []) e.log.1
    (set_raises a.l z a.value values none) c.raise-stamp.ensures.wrote c.raise-stamp.ensures.answered)
