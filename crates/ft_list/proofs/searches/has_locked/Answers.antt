use Rattle.std.proofs.Common.{◌≡◌, Bool, ◌<◌, sym, ap, subst}
use Rattle.ft_model.specs.declared.call.Call.TheVariants as call
use Rattle.ft_model.specs.declared.call.ListCall.TheVariants as list
use Rattle.std.specs.Prelude.{is_some}
use Rattle.ft_model.specs.declared.reply.Reply.TheVariants as reply
use Rattle.ft_model.specs.Lists.{index_of}
use Rattle.ft_trace.specs.declared.Act.TheVariants.{ReadCounter}
use Rattle.ft_trace.specs.declared.Shape.{Shape}
use Rattle.ft_trace.specs.Acts.{view_after}
use Rattle.ft_trace.specs.Addresses.{container_count}
use Rattle.ft_bank.specs.Passes.{shape_of, view}
use Rattle.ft_bank.specs.Reads.{IsShown}
use Rattle.ft_search.specs.MadeCalls.{IsReplyTo}
use Rattle.ft_list.proofs.Lists.{content_of}
use Rattle.ft_list.proofs.Scanning.{items_hold, scan_loaded, scan_log, has_replied, has_plain}
use Rattle.ft_list.proofs.ListMidst.{read_shown, read_made}
use Rattle.ft_list.proofs.searches.has_locked.Goals as goal

pub answer_held-requires-clause-shown : goal.answer_held-requires-clause-shown
answer_held-requires-clause-shown c n =
    let a = c.args in
    let k = shape_of a.bank.now in
    let p = a.pass.now in
    let q = c.first_equal-found.new.pass in
    let found = c.first_equal-found.result in
    let r = c.first_equal-found.ensures.reads in
    let may = c.requires.may in
    let shape = c.requires.pass.1 in
    let called = call.List a.l (list.Has a.value) in
    let said = reply.Truth (is_some found) in
    let is = items_hold k a.l (λ items. found ≡ index_of items a.value) p q r shape may in
    let replied : IsReplyTo called said (view p) = has_replied a.l _ (view p) (subst (λ (z : Shape). a.l < container_count z) (sym shape) may.container) may.locked (content_of k a.l (view p) shape p.possible may) a.value found is in
    let loaded = scan_loaded k a.l (λ items. found ≡ index_of items a.value) p q r shape may in
    subst (λ (b : Bool). IsShown (view_after (ReadCounter n) (view q)) called (reply.Truth b) n) (sym c.is_some.ensures) (read_shown called said (has_plain a.l a.value (is_some found)) (view p) (view q) loaded replied n may.left)

pub returns-clause-made : goal.returns-clause-made
returns-clause-made c =
    let a = c.args in
    let k = shape_of a.bank.now in
    let p = a.pass.now in
    let q = c.first_equal-found.new.pass in
    let found = c.first_equal-found.result in
    let r = c.first_equal-found.ensures.reads in
    let may = c.requires.may in
    let shape = c.requires.pass.1 in
    let called = call.List a.l (list.Has a.value) in
    let said = reply.Truth (is_some found) in
    let is = items_hold k a.l (λ items. found ≡ index_of items a.value) p q r shape may in
    let replied : IsReplyTo called said (view p) = has_replied a.l _ (view p) (subst (λ (z : Shape). a.l < container_count z) (sym shape) may.container) may.locked (content_of k a.l (view p) shape p.possible may) a.value found is in
    let loaded = scan_loaded k a.l (λ items. found ≡ index_of items a.value) p q r shape may in
    let e = c.answer_held.ensures in
    let z = view c.answer_held.new.pass in
    read_made called said (has_plain a.l a.value (is_some found)) (view p) (view q) loaded replied z (reply.Truth c.is_some.result) c.answer_held.result.0 c.answer_held.result.1 r.0
    (scan_log k a.l (λ items. found ≡ index_of items a.value) p q r shape may) e.did.1 (ap reply.Truth c.is_some.ensures) e.said.0 e.said.1 p.settled c.answer_held.new.pass.possible
