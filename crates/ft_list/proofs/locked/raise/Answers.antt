use Rattle.std.proofs.Common.{◌<◌, sym, subst}
use Rattle.ft_model.specs.declared.call.Call.{Call}
use Rattle.ft_trace.specs.declared.Shape.{Shape}
use Rattle.ft_trace.specs.Addresses.{container_count}
use Rattle.ft_bank.specs.Passes.{shape_of, view}
use Rattle.ft_bank.specs.Reads.{IsShown}
use Rattle.ft_list.specs.ListItemWrites.{known_items}
use Rattle.ft_list.proofs.Lists.{content_of}
use Rattle.ft_list.proofs.Raising.{raise_shown, raise_answered}
use Rattle.ft_list.proofs.locked.raise.Goals as goal

pub answer-requires-clause-shown : goal.answer-requires-clause-shown
answer-requires-clause-shown c =
    let a = c.args in
    let k = shape_of a.bank.now in
    let v = view a.pass.now in
    let x = c.requires.call in
    let low : a.l < container_count v.shape = subst (λ (z : Shape). a.l < container_count z) (sym c.requires.pass.1) c.requires.may.container in
    subst (λ (z : Call). IsShown (view c.stamp-number.new.pass) z a.said.now c.stamp-number.result) (sym x.1)
    (raise_shown v (view c.stamp-number.new.pass) a.l x.0 a.said.now (known_items a.l v) c.stamp-number.result x.2 c.stamp-number.ensures.did.1 c.requires.may.left low c.requires.may.locked (content_of k a.l v c.requires.pass.1 a.pass.now.possible c.requires.may))

pub returns-clause-answered : goal.returns-clause-answered
returns-clause-answered c =
    let a = c.args in
    raise_answered (view a.pass.now) (view c.stamp-number.new.pass) (view c.answer.new.pass) a.called.now a.said.now c.stamp-number.result c.stamp-number.ensures.did.1 c.answer.ensures.1 a.pass.now.settled c.answer.new.pass.possible
