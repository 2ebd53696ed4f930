use Rattle.std.proofs.Common.{refl, true, false, sym, subst}
use Rattle.ft_bank.specs.Passes.{shape_of, view}
use Rattle.ft_model.specs.declared.call.Call.TheVariants as call
use Rattle.ft_model.specs.declared.call.SetCall.TheVariants as set
use Rattle.ft_model.specs.declared.reply.Reply.TheVariants as reply
use Rattle.ft_search.specs.KeyLooks.{EndsLook, IsLookOf}
use Rattle.ft_search.proofs.Asking.{element_absent, element_here, looked_after, contended_after}
use Rattle.ft_search.proofs.Running.{did_log}
use Rattle.ft_keys.specs.declared.walk.Way.TheVariants as way
use Rattle.ft_search.proofs.Spending.{rounds_answered}
use Rattle.ft_set.proofs.looks.look_has.Goals as goal

pub answer_look-requires-clause-shown : goal.answer_look-requires-clause-shown
answer_look-requires-clause-shown c =
    let e = c.look_up.ensures in
    let m = c.in-Here.ensures.looked in
    element_here (view c.args.pass.now) (view c.look_up.new.pass) (shape_of c.args.bank.now) c.args.s c.args.key c.in-Here.number m.0 e.keeps m.1
    (did_log m.0 c.args.pass.now c.look_up.new.pass m.2) m.3.1 e.pass.1 c.requires.container c.requires.left e.key c.in-Here.field-0
    c.in-Here.field-1 m.3.0 c.requires.set

pub answer_look-requires-in-Absent-clause-shown : goal.answer_look-requires-in-Absent-clause-shown
answer_look-requires-in-Absent-clause-shown c =
    let e = c.look_up.ensures in
    let m = c.in-Absent.ensures.looked in
    element_absent (view c.args.pass.now) (view c.look_up.new.pass) (shape_of c.args.bank.now) c.args.s c.args.key c.in-Absent.number m.0 e.keeps
    m.1 (did_log m.0 c.args.pass.now c.look_up.new.pass m.2) m.3.1 e.pass.1 c.requires.container c.requires.left e.key c.requires.set m.3.0

pub returns-in-Here-clause-looked : goal.returns-in-Here-clause-looked
returns-in-Here-clause-looked c =
    let v = view c.args.pass.now in
    let w = view c.look_up.new.pass in
    let z = view c.answer_look.new.pass in
    let called = call.Set c.args.s (set.Has c.args.key) in
    let m = c.in-Here.ensures.looked in
    let a = looked_after (EndsLook c.args.s c.in-Here.number) v w z called (reply.Truth true) c.in-Here.number m.0 c.look_up.ensures.keeps
    (did_log m.0 c.args.pass.now c.look_up.new.pass m.2) m.3.1 c.answer_look.ensures.did.1
    c.args.pass.now.settled c.answer_look.new.pass.possible m.3.2 in
    subst (λ r. IsLookOf c.args.s c.args.key called v z r) (sym c.answer_look.ensures.done) (a.0, refl, a.1)

pub returns-in-Absent-clause-looked : goal.returns-in-Absent-clause-looked
returns-in-Absent-clause-looked c =
    let v = view c.args.pass.now in
    let w = view c.look_up.new.pass in
    let z = view c.answer_look-in-Absent.new.pass in
    let called = call.Set c.args.s (set.Has c.args.key) in
    let m = c.in-Absent.ensures.looked in
    let a = looked_after (EndsLook c.args.s c.in-Absent.number) v w z called (reply.Truth false) c.in-Absent.number m.0 c.look_up.ensures.keeps
    (did_log m.0 c.args.pass.now c.look_up.new.pass m.2) m.3.1 c.answer_look-in-Absent.ensures.did.1
    c.args.pass.now.settled c.answer_look-in-Absent.new.pass.possible m.3.2 in
    subst (λ r. IsLookOf c.args.s c.args.key called v z r) (sym c.answer_look-in-Absent.ensures.done) (a.0, refl, a.1)

pub returns-in-Contended-clause-looked : goal.returns-in-Contended-clause-looked
returns-in-Contended-clause-looked c =
    let e = c.look_up.ensures in
    let m = c.in-Contended.ensures.looked in
    contended_after (view c.args.pass.now) (view c.look_up.new.pass) (shape_of c.args.bank.now) c.args.s c.args.key c.in-Contended.first c.in-Contended.second m.0 c.requires.pass.1 e.keeps
    m.1 (did_log m.0 c.args.pass.now c.look_up.new.pass m.2) m.3

pub returns-in-Here-clause-loads : goal.returns-in-Here-clause-loads
returns-in-Here-clause-loads c =
    rounds_answered way.Set c.args.s (view c.args.pass.now) (view c.look_up.new.pass) (view c.answer_look.new.pass) (call.Set c.args.s (set.Has c.args.key)) (reply.Truth true) c.in-Here.number
    c.answer_look.ensures.did.1 c.in-Here.ensures.loads

pub returns-in-Absent-clause-loads : goal.returns-in-Absent-clause-loads
returns-in-Absent-clause-loads c =
    rounds_answered way.Set c.args.s (view c.args.pass.now) (view c.look_up.new.pass) (view c.answer_look-in-Absent.new.pass) (call.Set c.args.s (set.Has c.args.key)) (reply.Truth false) c.in-Absent.number
    c.answer_look-in-Absent.ensures.did.1 c.in-Absent.ensures.loads
