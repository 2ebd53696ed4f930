use Rattle.std.proofs.Common.{◌≡◌, ◌<◌, List, length, sym, ap, ◌∙◌, subst}
use Rattle.std.proofs.lemmas.Result.{IfErr-at_err}
use Rattle.ft_model.specs.declared.call.Call.TheVariants as call
use Rattle.ft_model.specs.declared.call.ListCall.TheVariants as list
use Rattle.ft_model.specs.declared.data.Value.{Value}
use Rattle.ft_model.specs.declared.reply.Reply.TheVariants as reply
use Rattle.ft_model.specs.Worlds.{list_of}
use Rattle.ft_trace.specs.ContainerStates.{state_at}
use Rattle.ft_bank.specs.Passes.{shape_of, view}
use Rattle.ft_reads.specs.Copies.{AreCopied}
use Rattle.ft_reads.specs.Glances.{IsCopyGlanceOf}
use Rattle.ft_list.specs.Scans.{IsOfItems}
use Rattle.ft_list.proofs.Scanning.{items_plain}
use Rattle.ft_reads.proofs.Windowed.{saw_loaded, saw_some, saw_stopped, saw_answered, saw_shown}
use Rattle.ft_list.proofs.glances.look_items.Goals as goal

pub answer_look-requires-clause-shown : goal.answer_look-requires-clause-shown
answer_look-requires-clause-shown c =
    let a = c.args in
    let k = shape_of a.bank.now in
    let b = c.copy_between-copy in
    let copied = c.from_vec.result in
    saw_shown k a.l (IsOfItems k (AreCopied b.result.0)) b.result.1 a.pass.now b.new.pass b.ensures.saw (call.List a.l list.Items) (reply.List copied) (items_plain a.l copied) (λ e. absurd (cc))
    (λ x stored is stands shows.
    let there = state_at stored a.l in
    let here : c.in-Ok.items.items ≡ list_of there.content = (subst (λ r. AreCopied r (list_of there.content)) c.in-Ok.is (shows there (is ∙ c.requires.list) stands)).0 in
    ap reply.List (sym here ∙ sym c.from_vec.ensures))
    (c.has_moved.ensures.still c.if-has_moved.false) b.ensures.pass.1 c.requires.container c.requires.left

pub returns-then-has_moved-clause-looked : goal.returns-then-has_moved-clause-looked
returns-then-has_moved-clause-looked c =
    let a = c.args in
    let k = shape_of a.bank.now in
    let b = c.copy_between-copy in
    saw_stopped k a.l (IsOfItems k (AreCopied b.result.0)) b.result.1 a.pass.now b.new.pass b.ensures.saw (c.has_moved.ensures.moved c.if-has_moved.true)

pub returns-in-Ok-clause-looked : goal.returns-in-Ok-clause-looked
returns-in-Ok-clause-looked c =
    let a = c.args in
    let k = shape_of a.bank.now in
    let b = c.copy_between-copy in
    let called = call.List a.l list.Items in
    let said = reply.List c.from_vec.result in
    let v = view a.pass.now in
    let z = view c.answer_look.new.pass in
    subst (λ r. IsCopyGlanceOf k a.l (IsOfItems k (λ (items : List Value). 0 < length items)) called v z r) (sym c.answer_look.ensures.done)
    (saw_answered k a.l (IsOfItems k (AreCopied b.result.0)) b.result.1 a.pass.now b.new.pass b.ensures.saw called said z c.answer_look.ensures.did.1 a.pass.now.settled c.answer_look.new.pass.possible (c.has_moved.ensures.still c.if-has_moved.false))

pub returns-in-Err-clause-looked : goal.returns-in-Err-clause-looked
returns-in-Err-clause-looked c =
    let a = c.args in
    let k = shape_of a.bank.now in
    let b = c.copy_between-copy in
    let shows = IsOfItems k (AreCopied b.result.0) in (
      saw_loaded k a.l shows b.result.1 a.pass.now b.new.pass b.ensures.saw,
      saw_some k a.l shows b.result.1 a.pass.now b.new.pass b.ensures.saw (IsOfItems k (λ (items : List Value). 0 < length items))
          (λ x copied kept kind_is stands. IfErr-at_err (λ e. 0 < length (list_of kept.content)) c.in-Err.is (copied kept kind_is stands).1),
    )
