use Rattle.std.proofs.Common.{Bool, sym, subst}
use Rattle.ft_model.specs.declared.call.Call.{Call}
use Rattle.ft_model.specs.declared.reply.Reply.TheVariants as reply
use Rattle.ft_trace.specs.declared.Act.TheVariants.{ReadCounter}
use Rattle.ft_trace.specs.Acts.{view_after}
use Rattle.ft_bank.specs.Answered.{Answered}
use Rattle.ft_bank.specs.Passes.{shape_of, view}
use Rattle.ft_bank.specs.Reads.{IsShown}
use Rattle.ft_search.proofs.Asking.{answered_locked}
use Rattle.ft_search.proofs.Running.{did_log}
use Rattle.ft_whole_tables.specs.Membership.{has_call}
use Rattle.ft_whole_tables.proofs.KeysRead.{has_shown}
use Rattle.ft_whole_tables.proofs.membership.has_locked.Goals as goal

pub answer_held-requires-clause-shown : goal.answer_held-requires-clause-shown
answer_held-requires-clause-shown c n =
    let a = c.args in
    let r = c.read_key-found in
    let u = view r.new.pass in
    let shown = has_shown (shape_of a.bank.now) a.c a.key r.result (view a.pass.now) u c.requires.pass.1 a.pass.now.possible c.requires.container c.requires.locked r.ensures.key c.requires.left r.ensures.keeps r.ensures.held n a.way c.requires.kind in
    subst (λ (z : Call). IsShown (view_after (ReadCounter n) u) z (reply.Truth c.is_some.result) n) (sym c.asking_call-called.ensures)
    (subst (λ (z : Bool). IsShown (view_after (ReadCounter n) u) (has_call a.way a.c a.key) (reply.Truth z) n) (sym c.is_some.ensures) shown)

pub returns-clause-answered : goal.returns-clause-answered
returns-clause-answered c =
    let a = c.args in
    let v = view a.pass.now in
    let r = c.read_key-found in
    let u = view r.new.pass in
    let z = view c.answer_held.new.pass in
    let l = r.ensures.looks in
    let n = c.answer_held.result.1.number in
    let called = c.asking_call-called.result in
    subst (λ (y : Call). Answered y c.answer_held.result.0 n v z) c.asking_call-called.ensures
    (subst (λ said. Answered called said n v z) (sym c.answer_held.ensures.said.0)
    (answered_locked v u z called (reply.Truth c.is_some.result) n l.0 r.ensures.keeps (did_log l.0 a.pass.now r.new.pass l.2) c.answer_held.ensures.did.1 a.pass.now.settled c.answer_held.new.pass.possible))
