use Rattle.std.proofs.Common.{◌≡◌, ◌<◌, refl, sym, subst}
use Rattle.ft_model.specs.declared.call.Call.TheVariants as call
use Rattle.ft_model.specs.declared.call.ListCall.TheVariants as list
use Rattle.ft_model.specs.declared.reply.Reply.TheVariants as reply
use Rattle.ft_model.specs.Lists.{count_of}
use Rattle.ft_trace.specs.declared.Shape.{Shape}
use Rattle.ft_trace.specs.Addresses.{container_count}
use Rattle.ft_bank.specs.Passes.{shape_of, view}
use Rattle.ft_search.specs.MadeCalls.{IsReplyTo}
use Rattle.ft_list.proofs.Lists.{content_of}
use Rattle.ft_list.proofs.Scanning.{items_hold, scan_loaded, scan_log, count_replied, count_plain}
use Rattle.ft_list.proofs.ListMidst.{read_shown, read_made}
use Rattle.ft_list.proofs.searches.count_locked.Goals as goal

pub answer_held-requires-clause-shown : goal.answer_held-requires-clause-shown
answer_held-requires-clause-shown c n =
    let a = c.args in
    let k = shape_of a.bank.now in
    let p = a.pass.now in
    let q = c.count_equal-equal.new.pass in
    let found = c.count_equal-equal.result in
    let r = c.count_equal-equal.ensures.reads in
    let may = c.requires.may in
    let shape = c.requires.pass.1 in
    let called = call.List a.l (list.Count a.value) in
    let said = reply.Count found in
    let is = items_hold k a.l (λ items. found ≡ count_of items a.value) p q r shape may in
    let replied : IsReplyTo called said (view p) = count_replied a.l _ (view p) (subst (λ (z : Shape). a.l < container_count z) (sym shape) may.container) may.locked (content_of k a.l (view p) shape p.possible may) a.value found is in
    let loaded = scan_loaded k a.l (λ items. found ≡ count_of items a.value) p q r shape may in
    (read_shown called said (count_plain a.l a.value found) (view p) (view q) loaded replied n may.left)

pub returns-clause-made : goal.returns-clause-made
returns-clause-made c =
    let a = c.args in
    let k = shape_of a.bank.now in
    let p = a.pass.now in
    let q = c.count_equal-equal.new.pass in
    let found = c.count_equal-equal.result in
    let r = c.count_equal-equal.ensures.reads in
    let may = c.requires.may in
    let shape = c.requires.pass.1 in
    let called = call.List a.l (list.Count a.value) in
    let said = reply.Count found in
    let is = items_hold k a.l (λ items. found ≡ count_of items a.value) p q r shape may in
    let replied : IsReplyTo called said (view p) = count_replied a.l _ (view p) (subst (λ (z : Shape). a.l < container_count z) (sym shape) may.container) may.locked (content_of k a.l (view p) shape p.possible may) a.value found is in
    let loaded = scan_loaded k a.l (λ items. found ≡ count_of items a.value) p q r shape may in
    let e = c.answer_held.ensures in
    let z = view c.answer_held.new.pass in
    read_made called said (count_plain a.l a.value found) (view p) (view q) loaded replied z (reply.Count found) c.answer_held.result.0 c.answer_held.result.1 r.0
    (scan_log k a.l (λ items. found ≡ count_of items a.value) p q r shape may) e.did.1 (refl) e.said.0 e.said.1 p.settled c.answer_held.new.pass.possible
