use Rattle.std.proofs.Common.{sym, ◌∙◌, subst}
use Rattle.std.specs.Prelude.{Result, IfOk}
use Rattle.std.specs.declared.alloc.AllocError.{AllocError}
use Rattle.ft_model.specs.declared.call.Call.{Call}
use Rattle.ft_model.specs.declared.reply.Reply.{Reply}
use Rattle.ft_trace.specs.ContainerStates.{reply_in}
use Rattle.ft_bank.specs.Passes.{shape_of, view}
use Rattle.ft_bank.specs.Reads.{IsShown}
use Rattle.ft_reads.proofs.Windowed.{saw_answered, saw_loaded, saw_shown, saw_some, saw_stopped}
use Rattle.ft_reads.specs.Glances.{IsCopyGlanceOf}
use Rattle.ft_whole_tables.specs.Items.{items_call, HasEntry, IsAllIn, IsAllOf, IsItemsReply}
use Rattle.ft_whole_tables.proofs.Copied.{all_replied, items_plain, not_kept, some_there}
use Rattle.ft_whole_tables.proofs.items.look_all_items.Goals as goal

pub answer_look-requires-clause-shown : goal.answer_look-requires-clause-shown
answer_look-requires-clause-shown c =
    let a = c.args in
    let k = shape_of a.bank.now in
    let b = c.copy_between-copy in
    let said = c.in-Ok.said in
    let all : IsItemsReply a.way said = subst (λ (r : Result Reply AllocError). IfOk r (IsItemsReply a.way)) c.in-Ok.is b.ensures.of_kind in
    subst (λ (z : Call). IsShown (view b.new.pass) z said b.result.1.number) (sym c.copying_call-called.ensures)
    (saw_shown k a.c (IsAllIn a.way k b.result.0) b.result.1 a.pass.now b.new.pass b.ensures.saw (items_call a.way a.c) said (items_plain a.way a.c said all) (not_kept a.way said all)
    (λ x stored is stands shows. sym (subst (λ (r : Result Reply AllocError). IsAllOf r (reply_in stored (items_call a.way a.c))) c.in-Ok.is (all_replied a.way k a.c b.result.0 x stored (is ∙ c.requires.kind) stands shows)).0)
    (c.has_moved.ensures.still c.if-has_moved.false) b.ensures.pass.1 c.requires.container c.requires.left)

pub returns-then-has_moved-clause-looked : goal.returns-then-has_moved-clause-looked
returns-then-has_moved-clause-looked c =
    let a = c.args in
    let k = shape_of a.bank.now in
    let b = c.copy_between-copy in
    saw_stopped k a.c (IsAllIn a.way k b.result.0) b.result.1 a.pass.now b.new.pass b.ensures.saw (c.has_moved.ensures.moved c.if-has_moved.true)

pub returns-in-Ok-clause-looked : goal.returns-in-Ok-clause-looked
returns-in-Ok-clause-looked c =
    let a = c.args in
    let k = shape_of a.bank.now in
    let b = c.copy_between-copy in
    let called = c.copying_call-called.result in
    let z = view c.answer_look.new.pass in
    subst (λ (y : Call). IsCopyGlanceOf k a.c (HasEntry a.way k) y (view a.pass.now) z c.answer_look.result) c.copying_call-called.ensures
    (subst (λ r. IsCopyGlanceOf k a.c (HasEntry a.way k) called (view a.pass.now) z r) (sym c.answer_look.ensures.done)
    (saw_answered k a.c (IsAllIn a.way k b.result.0) b.result.1 a.pass.now b.new.pass b.ensures.saw called c.in-Ok.said z c.answer_look.ensures.did.1 a.pass.now.settled c.answer_look.new.pass.possible (c.has_moved.ensures.still c.if-has_moved.false)))

pub returns-in-Err-clause-looked : goal.returns-in-Err-clause-looked
returns-in-Err-clause-looked c =
    let a = c.args in
    let k = shape_of a.bank.now in
    let b = c.copy_between-copy in
    let shows = IsAllIn a.way k b.result.0 in (
      saw_loaded k a.c shows b.result.1 a.pass.now b.new.pass b.ensures.saw,
      saw_some k a.c shows b.result.1 a.pass.now b.new.pass b.ensures.saw (HasEntry a.way k) (λ x copied. some_there a.way k c.in-Err.field-0 x (subst (λ (r : Result Reply AllocError). IsAllIn a.way k r x) c.in-Err.is copied)),
    )
