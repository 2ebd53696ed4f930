use Rattle.std.proofs.Common.{◌≡◌, ◌<◌, ℤ, length, refl, sym, ◌∙◌, subst}
use mir.Syntax.{w64}
use mir.Val.{to_z, of_z}
use Rattle.std.proofs.Math.Facts.{to_z-of_z}
use Rattle.ft_model.specs.declared.call.Call.TheVariants as call
use Rattle.ft_model.specs.declared.call.ListCall.TheVariants as list
use Rattle.ft_model.specs.declared.reply.Reply.TheVariants as reply
use Rattle.ft_model.specs.Lists.{list_slice}
use Rattle.ft_trace.specs.declared.Shape.{Shape}
use Rattle.ft_trace.specs.Addresses.{container_count}
use Rattle.ft_bank.specs.Passes.{shape_of, view}
use Rattle.ft_list.specs.ListItemWrites.{known_items}
use Rattle.ft_search.specs.MadeCalls.{IsReplyTo, MadeAs}
use Rattle.ft_reads.specs.Copies.{AreCopied, IsCopied, TakesMemory}
use Rattle.ft_list.proofs.Lists.{content_of}
use Rattle.ft_list.proofs.Scanning.{items_hold, scan_loaded, scan_log, slice_replied, slice_plain, takes_memory}
use Rattle.ft_list.proofs.ListMidst.{read_shown, read_made}
use Rattle.std.proofs.lemmas.Result.{err_from_is_err_and, IfErr-at_err}
use Rattle.ft_list.proofs.copies.slice_locked.Goals as goal

pub answer_held-requires-clause-shown : goal.answer_held-requires-clause-shown
answer_held-requires-clause-shown c n =
    let a = c.args in
    let k = shape_of a.bank.now in
    let p = a.pass.now in
    let q = c.copy_slice.new.pass in
    let made = c.copy_slice.result in
    let r = c.copy_slice.ensures.reads in
    let may = c.requires.may in
    let shape = c.requires.pass.1 in
    let x = to_z w64 (of_z w64 a.start) in
    let y = to_z w64 (of_z w64 a.end) in
    let ranges : (x ≡ a.start) × (y ≡ a.end) = (to_z-of_z {w = w64} {z = a.start} c.ranges.start, to_z-of_z {w = w64} {z = a.end} c.ranges.end) in
    let values = known_items a.l (view p) in
    let said = reply.List c.from_vec.result in
    let called = call.List a.l (list.Slice x y) in
    let held = items_hold k a.l (λ items. AreCopied made (list_slice items x y)) p q r shape may in
    let here = (subst (λ z. AreCopied z (list_slice values x y)) c.in_ok-part.was held).0 in
    let is = c.from_vec.ensures ∙ here in
    let low = subst (λ (z : Shape). a.l < container_count z) (sym shape) may.container in
    let replied : IsReplyTo called said (view p) = slice_replied a.l values (view p) low may.locked (content_of k a.l (view p) shape p.possible may) x y c.from_vec.result is in
    let plain = slice_plain a.l x y c.from_vec.result in
    let loaded = scan_loaded k a.l (λ items. AreCopied made (list_slice items x y)) p q r shape may in
    read_shown called said plain (view p) (view q) loaded replied n may.left

pub returns-in_err-part-clause-copied : goal.returns-in_err-part-clause-copied
returns-in_err-part-clause-copied c =
    let a = c.args in
    let k = shape_of a.bank.now in
    let p = a.pass.now in
    let q = c.copy_slice.new.pass in
    let made = c.copy_slice.result in
    let r = c.copy_slice.ensures.reads in
    let may = c.requires.may in
    let shape = c.requires.pass.1 in
    let x = to_z w64 (of_z w64 a.start) in
    let y = to_z w64 (of_z w64 a.end) in
    let ranges : (x ≡ a.start) × (y ≡ a.end) = (to_z-of_z {w = w64} {z = a.start} c.ranges.start, to_z-of_z {w = w64} {z = a.end} c.ranges.end) in
    let values = known_items a.l (view p) in
    let part = list_slice values x y in
    let failed = err_from_is_err_and c.from_residual.result c.from_residual.ensures.1 in
    let some = IfErr-at_err (λ e. 0 < length part) c.in_err-part.was (items_hold k a.l (λ items. AreCopied made (list_slice items x y)) p q r shape may).1 in
    let low = subst (λ (z : Shape). a.l < container_count z) (sym shape) may.container in
    let replied = slice_replied a.l values (view p) low may.locked (content_of k a.l (view p) shape p.possible may) x y part refl in
    let takes = takes_memory (call.List a.l (list.Slice x y)) (view p) part replied some in
    subst (λ z. IsCopied (call.List a.l (list.Slice a.start a.end)) (view p) (view q) z) (sym failed.1)
    (scan_loaded k a.l (λ items. AreCopied made (list_slice items x y)) p q r shape may, subst (λ (i : ℤ × ℤ). TakesMemory (call.List a.l (list.Slice i.0 i.1)) (view p)) (λ d. (ranges.0 d, ranges.1 d)) takes)

pub returns-clause-copied : goal.returns-clause-copied
returns-clause-copied c =
    let a = c.args in
    let k = shape_of a.bank.now in
    let p = a.pass.now in
    let q = c.copy_slice.new.pass in
    let made = c.copy_slice.result in
    let r = c.copy_slice.ensures.reads in
    let may = c.requires.may in
    let shape = c.requires.pass.1 in
    let x = to_z w64 (of_z w64 a.start) in
    let y = to_z w64 (of_z w64 a.end) in
    let ranges : (x ≡ a.start) × (y ≡ a.end) = (to_z-of_z {w = w64} {z = a.start} c.ranges.start, to_z-of_z {w = w64} {z = a.end} c.ranges.end) in
    let values = known_items a.l (view p) in
    let said = reply.List c.from_vec.result in
    let called = call.List a.l (list.Slice x y) in
    let held = items_hold k a.l (λ items. AreCopied made (list_slice items x y)) p q r shape may in
    let here = (subst (λ z. AreCopied z (list_slice values x y)) c.in_ok-part.was held).0 in
    let is = c.from_vec.ensures ∙ here in
    let low = subst (λ (z : Shape). a.l < container_count z) (sym shape) may.container in
    let replied : IsReplyTo called said (view p) = slice_replied a.l values (view p) low may.locked (content_of k a.l (view p) shape p.possible may) x y c.from_vec.result is in
    let plain = slice_plain a.l x y c.from_vec.result in
    let loaded = scan_loaded k a.l (λ items. AreCopied made (list_slice items x y)) p q r shape may in
    let e = c.answer_held.ensures in
    let z = view c.answer_held.new.pass in
    subst (λ (i : ℤ × ℤ). MadeAs (call.List a.l (list.Slice i.0 i.1)) c.answer_held.result.0 c.answer_held.result.1 (view p) z) (λ d. (ranges.0 d, ranges.1 d))
    (read_made called said plain (view p) (view q) loaded replied z said c.answer_held.result.0 c.answer_held.result.1 r.0
    (scan_log k a.l (λ items. AreCopied made (list_slice items x y)) p q r shape may) e.did.1 refl e.said.0 e.said.1 p.settled c.answer_held.new.pass.possible)
