use Rattle.std.proofs.Common.{refl, sym, subst}
use Rattle.ft_bank.specs.Passes.{view}
use Rattle.ft_bank.specs.Reads.{IsShown}
use Rattle.ft_model.specs.declared.call.Call.TheVariants as call
use Rattle.ft_model.specs.declared.call.DictCall.TheVariants as dict
use Rattle.ft_model.specs.declared.reply.Reply.TheVariants as reply
use Rattle.ft_search.specs.KeyLooks.{EndsLook, IsLookOf}
use Rattle.ft_search.proofs.Asking.{looked_after}
use Rattle.ft_keys.specs.declared.walk.Way.TheVariants as way
use Rattle.ft_search.proofs.Spending.{rounds_answered}
use Rattle.ft_dict.proofs.looks.look_getd.Goals as goal

pub answer_look-requires-clause-shown : goal.answer_look-requires-clause-shown
answer_look-requires-clause-shown c =
    subst (λ value. IsShown (view c.find_value.new.pass) (call.Dict c.args.d (dict.GetOr c.args.key c.args.default)) (reply.Value value) c.in-Found.number)
    (sym c.unwrap_or.ensures) (c.in-Found.ensures.found.1.get_or c.args.default)

pub returns-in-Found-clause-looked : goal.returns-in-Found-clause-looked
returns-in-Found-clause-looked c =
    let v = view c.args.pass.now in
    let w = view c.find_value.new.pass in
    let z = view c.answer_look.new.pass in
    let called = call.Dict c.args.d (dict.GetOr c.args.key c.args.default) in
    let f = c.in-Found.ensures.found in
    let a = looked_after (EndsLook c.args.d c.in-Found.number) v w z called (reply.Value c.unwrap_or.result) c.in-Found.number f.2.0 f.0 f.2.1 f.2.2 c.answer_look.ensures.did.1 c.args.pass.now.settled c.answer_look.new.pass.possible f.2.3 in
    subst (λ r. IsLookOf c.args.d c.args.key called v z r) (sym c.answer_look.ensures.done)
    (a.0, refl, a.1)

pub returns-in-Found-clause-loads : goal.returns-in-Found-clause-loads
returns-in-Found-clause-loads c =
    rounds_answered way.Dict c.args.d (view c.args.pass.now) (view c.find_value.new.pass) (view c.answer_look.new.pass) (call.Dict c.args.d (dict.GetOr c.args.key c.args.default)) (reply.Value c.unwrap_or.result) c.in-Found.number
    c.answer_look.ensures.did.1 c.in-Found.ensures.loads
