use Rattle.std.proofs.Common.{◌<◌, length, refl, sym, ◌∙◌, subst}
use Rattle.ft_model.specs.declared.call.Call.TheVariants as call
use Rattle.ft_model.specs.declared.call.ListCall.TheVariants as list
use Rattle.ft_model.specs.declared.reply.Reply.TheVariants as reply
use Rattle.ft_trace.specs.declared.Shape.{Shape}
use Rattle.ft_trace.specs.Addresses.{container_count}
use Rattle.ft_bank.specs.Passes.{shape_of, view}
use Rattle.ft_list.specs.ListItemWrites.{known_items}
use Rattle.ft_search.specs.MadeCalls.{IsReplyTo}
use Rattle.ft_reads.specs.Copies.{AreCopied, IsCopied}
use Rattle.ft_list.proofs.Lists.{content_of}
use Rattle.ft_list.proofs.Scanning.{items_hold, scan_loaded, scan_log, items_replied, items_plain, takes_memory}
use Rattle.ft_list.proofs.ListMidst.{read_shown, read_made}
use Rattle.std.proofs.lemmas.Result.{err_from_is_err_and, IfErr-at_err}
use Rattle.ft_list.proofs.copies.items_locked.Goals as goal

pub answer_held-requires-clause-shown : goal.answer_held-requires-clause-shown
answer_held-requires-clause-shown c n =
    let a = c.args in
    let k = shape_of a.bank.now in
    let p = a.pass.now in
    let q = c.copy_items.new.pass in
    let made = c.copy_items.result in
    let r = c.copy_items.ensures.reads in
    let may = c.requires.may in
    let shape = c.requires.pass.1 in
    let values = known_items a.l (view p) in
    let said = reply.List c.from_vec.result in
    let called = call.List a.l list.Items in
    let held = items_hold k a.l (AreCopied made) p q r shape may in
    let here = (subst (λ z. AreCopied z values) c.in_ok-copy.was held).0 in
    let is = c.from_vec.ensures ∙ here in
    let low = subst (λ (z : Shape). a.l < container_count z) (sym shape) may.container in
    let replied : IsReplyTo called said (view p) = items_replied a.l values (view p) low may.locked (content_of k a.l (view p) shape p.possible may) c.from_vec.result is in
    let plain = items_plain a.l c.from_vec.result in
    let loaded = scan_loaded k a.l (AreCopied made) p q r shape may in
    read_shown called said plain (view p) (view q) loaded replied n may.left

pub returns-in_err-copy-clause-copied : goal.returns-in_err-copy-clause-copied
returns-in_err-copy-clause-copied c =
    let a = c.args in
    let k = shape_of a.bank.now in
    let p = a.pass.now in
    let q = c.copy_items.new.pass in
    let made = c.copy_items.result in
    let r = c.copy_items.ensures.reads in
    let may = c.requires.may in
    let shape = c.requires.pass.1 in
    let values = known_items a.l (view p) in
    let called = call.List a.l list.Items in
    let failed = err_from_is_err_and c.from_residual.result c.from_residual.ensures.1 in
    let some = IfErr-at_err (λ e. 0 < length values) c.in_err-copy.was (items_hold k a.l (AreCopied made) p q r shape may).1 in
    let low = subst (λ (z : Shape). a.l < container_count z) (sym shape) may.container in
    let replied = items_replied a.l values (view p) low may.locked (content_of k a.l (view p) shape p.possible may) values refl in
    subst (λ z. IsCopied called (view p) (view q) z) (sym failed.1) (scan_loaded k a.l (AreCopied made) p q r shape may, takes_memory called (view p) values replied some)

pub returns-clause-copied : goal.returns-clause-copied
returns-clause-copied c =
    let a = c.args in
    let k = shape_of a.bank.now in
    let p = a.pass.now in
    let q = c.copy_items.new.pass in
    let made = c.copy_items.result in
    let r = c.copy_items.ensures.reads in
    let may = c.requires.may in
    let shape = c.requires.pass.1 in
    let values = known_items a.l (view p) in
    let said = reply.List c.from_vec.result in
    let called = call.List a.l list.Items in
    let held = items_hold k a.l (AreCopied made) p q r shape may in
    let here = (subst (λ z. AreCopied z values) c.in_ok-copy.was held).0 in
    let is = c.from_vec.ensures ∙ here in
    let low = subst (λ (z : Shape). a.l < container_count z) (sym shape) may.container in
    let replied : IsReplyTo called said (view p) = items_replied a.l values (view p) low may.locked (content_of k a.l (view p) shape p.possible may) c.from_vec.result is in
    let plain = items_plain a.l c.from_vec.result in
    let loaded = scan_loaded k a.l (AreCopied made) p q r shape may in
    let e = c.answer_held.ensures in
    let z = view c.answer_held.new.pass in
    (read_made called said plain (view p) (view q) loaded replied z said c.answer_held.result.0 c.answer_held.result.1 r.0
    (scan_log k a.l (AreCopied made) p q r shape may) e.did.1 refl e.said.0 e.said.1 p.settled c.answer_held.new.pass.possible)
