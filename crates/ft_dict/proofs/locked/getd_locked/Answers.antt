use Rattle.std.proofs.Common.{◌<◌, sym, subst}
use Rattle.ft_model.specs.declared.call.Call.TheVariants as call
use Rattle.ft_model.specs.declared.call.DictCall.TheVariants as dict
use Rattle.ft_model.specs.declared.reply.Reply.TheVariants as reply
use Rattle.ft_trace.specs.declared.Act.TheVariants.{ReadCounter}
use Rattle.ft_trace.specs.declared.Shape.{Shape}
use Rattle.ft_trace.specs.Acts.{view_after}
use Rattle.ft_trace.specs.Addresses.{container_count}
use Rattle.ft_bank.specs.Answered.{Answered}
use Rattle.ft_bank.specs.Passes.{view}
use Rattle.ft_bank.specs.Reads.{IsShown}
use Rattle.ft_dict.proofs.Reading.{get_or_shown}
use Rattle.ft_search.proofs.Asking.{answered_locked}
use Rattle.ft_dict.proofs.locked.getd_locked.Goals as goal

pub answer_held-requires-clause-shown : goal.answer_held-requires-clause-shown
answer_held-requires-clause-shown c n =
    let v = view c.args.pass.now in
    let u = view c.value_locked-found.new.pass in
    let d = c.args.d in
    let e = c.value_locked-found.ensures in
    let low = subst (λ (k : Shape). d < container_count k) (sym c.requires.pass.1) c.requires.container in
    subst (λ z. IsShown (view_after (ReadCounter n) u) (call.Dict c.args.d (dict.GetOr c.args.key c.args.default)) (reply.Value z) n) (sym c.unwrap_or.ensures)
    (get_or_shown v u d c.args.key c.value_locked-found.result e.keeps low c.requires.locked e.key c.requires.left e.value n c.args.default)

pub returns-clause-answered : goal.returns-clause-answered
returns-clause-answered c =
    let v = view c.args.pass.now in
    let u = view c.value_locked-found.new.pass in
    let z = view c.answer_held.new.pass in
    let e = c.value_locked-found.ensures in
    let n = c.answer_held.result.1.number in
    let called = call.Dict c.args.d (dict.GetOr c.args.key c.args.default) in
    subst (λ said. Answered called said n v z) (sym c.answer_held.ensures.said.0)
    (answered_locked v u z called (reply.Value c.unwrap_or.result) n e.loads.0 e.keeps e.loads.1 c.answer_held.ensures.did.1 c.args.pass.now.settled c.answer_held.new.pass.possible)
