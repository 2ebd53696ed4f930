use Rattle.std.proofs.Common.{◌≡◌, ◌<◌, ◌^◌, T, List, [], ◌∷◌, length, Some, None, sym, ap, ◌∙◌, subst}
use Rattle.std.specs.Prelude.{negsuc, slice_index_or}
use Rattle.std.specs.Option.{unwrap_or}
use Rattle.std.specs.List.{remove}
use mir.Syntax.{w64}
use mir.Val.{to_z, of_z}
use lib.Signed.{mag}
use Rattle.std.proofs.Math.Facts.{to_z-of_z, sfits_lit}
use Rattle.std.proofs.lemmas.Bool.{lt-ltb}
use Rattle.ft_model.specs.declared.call.ListCall.TheVariants as list
use Rattle.ft_model.specs.declared.data.Value.{Value}
use Rattle.ft_model.specs.declared.data.Value.TheVariants as value
use Rattle.ft_model.specs.declared.reply.Reply.TheVariants as reply
use Rattle.ft_model.specs.declared.reply.Raise.TheVariants as raise
use Rattle.ft_model.specs.Lists.{index_in}
use Rattle.ft_trace.specs.declared.Act.TheVariants.{ReadBlock}
use Rattle.ft_trace.specs.declared.Shape.{Shape}
use Rattle.ft_trace.specs.Addresses.{container_count}
use Rattle.ft_bank.specs.Passes.{shape_of, view}
use Rattle.ft_bank.proofs.KnownAfterWrites.{loaded_then}
use Rattle.ft_list.specs.ListWrites.{Changes}
use Rattle.ft_list.specs.ListItemWrites.{known_items}
use Rattle.ft_list.proofs.ListCallFacts.{pop_changes}
use Rattle.ft_list.proofs.Lists.{content_of, items_loaded, may_loaded}
use Rattle.ft_list.proofs.Raising.{pop_raises}
use Rattle.ft_list.proofs.ListMidst.{wrote_as, raised_as}
use Rattle.ft_list.proofs.removals.pop_locked.Goals as goal

pub returns-in-Some-clause-made : goal.returns-in-Some-clause-made
returns-in-Some-clause-made c =
    let a = c.args in
    let k = shape_of a.bank.now in
    let v = view a.pass.now in
    let u = view c.count_of-count.new.pass in
    let t = view c.table_of-table.new.pass in
    let y = view c.item_at-item.new.pass in
    let x = view c.remove_item-number.new.pass in
    let e = c.table_of-table.ensures in
    let f = c.item_at-item.ensures in
    let may = may_loaded k a.l t y e.pass.1 f.only e.may in
    let z = unwrap_or a.index (negsuc 0) in
    let index : to_z w64 (of_z w64 c.unwrap_or.result) ≡ z = to_z-of_z {w = w64} {z = c.unwrap_or.result} (sfits_lit (subst T (sym (lt-ltb (mag c.unwrap_or.result) (2 ^ 63) c.unwrap_or.type_inv)) tt)) ∙ c.unwrap_or.ensures in
    let values = known_items a.l y in
    let same : values ≡ known_items a.l t = items_loaded a.l t y f.only in
    let long : c.count_of-count.result ≡ length values = c.count_of-count.ensures.count ∙ sym (ap length (same ∙ (e.items ∙ c.count_of-count.ensures.items))) in
    let means : index_in (length values) z ≡ Some c.in-Some.place = sym (λ d. index_in (long d) (index d)) ∙ (sym c.place_in.ensures.answer ∙ c.in-Some.is) in
    let low : a.l < container_count y.shape = subst (λ (s : Shape). a.l < container_count s) (sym f.pass.1) may.container in
    let item : slice_index_or values c.in-Some.place value.Nothing ≡ c.item_at-item.result = ap (λ (l : List Value). slice_index_or l c.in-Some.place value.Nothing) same ∙ sym f.item in
    let changes = pop_changes a.l a.index values c.in-Some.place y low may.locked (content_of k a.l y f.pass.1 c.item_at-item.new.pass.possible may) means in
    wrote_as k a.l (list.Pop a.index) (reply.Value c.item_at-item.result) v y x f.pass.1 c.item_at-item.new.pass.possible may
    (loaded_then v u y c.count_of-count.ensures.only (loaded_then u t y e.only f.only)) c.remove_item-number.result (remove values c.in-Some.place)
    (subst (λ (i : Value). Changes a.l (list.Pop a.index) (reply.Value i) values (remove values c.in-Some.place) y) item changes)
    c.remove_item-number.ensures.wrote c.remove_item-number.ensures.root c.remove_item-number.ensures.references

pub returns-in-None-clause-made : goal.returns-in-None-clause-made
returns-in-None-clause-made c =
    let a = c.args in
    let k = shape_of a.bank.now in
    let v = view a.pass.now in
    let u = view c.count_of-count.new.pass in
    let e = c.count_of-count.ensures in
    let z = unwrap_or a.index (negsuc 0) in
    let index : to_z w64 (of_z w64 c.unwrap_or.result) ≡ z = to_z-of_z {w = w64} {z = c.unwrap_or.result} (sfits_lit (subst T (sym (lt-ltb (mag c.unwrap_or.result) (2 ^ 63) c.unwrap_or.type_inv)) tt)) ∙ c.unwrap_or.ensures in
    let values = known_items a.l u in
    let long : c.count_of-count.result ≡ length values = e.count ∙ sym (ap length e.items) in
    let none : index_in (length values) z ≡ None = sym (λ d. index_in (long d) (index d)) ∙ (sym c.place_in.ensures.answer ∙ c.in-None.is) in
    raised_as k a.l (list.Pop a.index) (reply.Raised raise.NoIndex) v u (view c.raise-stamp.new.pass) e.pass.1 c.count_of-count.new.pass.possible e.may e.only c.raise-stamp.result (ReadBlock a.l 1 e.log.0 ∷ []) e.log.1
    (pop_raises a.l a.index values none) c.raise-stamp.ensures.wrote c.raise-stamp.ensures.answered
