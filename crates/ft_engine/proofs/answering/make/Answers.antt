use Rattle.std.proofs.Common.{◌∙◌, ap, refl, sym, subst}
use Rattle.ft_model.specs.declared.call.Call.{Call}
use Rattle.ft_model.specs.declared.call.Call.TheVariants as call
use Rattle.ft_bank.specs.Passes.{shape_of, view}
use Rattle.ft_engine.specs.Answering.{IsTryOfCall}
use Rattle.ft_engine.specs.Contentions.{may_look}
use Rattle.ft_engine.specs.Flights.{objects_of}
use Rattle.ft_engine.specs.Asked.{IsCallIn}
use Rattle.ft_engine.proofs.Callers.{hands_stay, leaves_same}
use Rattle.ft_engine.proofs.LookFirst.{locked_looked}
use Rattle.ft_engine.proofs.answering.make.Goals as goal

pub returns-in-Begin-clause-tried : goal.returns-in-Begin-clause-tried
returns-in-Begin-clause-tried c =
    subst (λ (x : Call). IsTryOfCall c.args.bank.now c.args.cursors.now.items x c.args.pass.now c.begin.new.pass c.begin.result) (sym c.in-Begin.is) (c.begin.ensures c.args.cursors.now.items)

pub returns-in-Begin-clause-hands : goal.returns-in-Begin-clause-hands
returns-in-Begin-clause-hands c =
    hands_stay (shape_of c.args.bank.now) c.args.bank.now c.args.cursors.now.items (call.Begin c.in-Begin.first c.in-Begin.second) c.args.pass.now c.begin.new.pass c.begin.result refl (c.begin.ensures c.args.cursors.now.items) c.requires.hands

pub returns-in-End-clause-tried : goal.returns-in-End-clause-tried
returns-in-End-clause-tried c =
    subst (λ (x : Call). IsTryOfCall c.args.bank.now c.args.cursors.now.items x c.args.pass.now c.end.new.pass c.end.result) (sym c.in-End.is) (c.end.ensures c.args.cursors.now.items)

pub returns-in-End-clause-hands : goal.returns-in-End-clause-hands
returns-in-End-clause-hands c =
    hands_stay (shape_of c.args.bank.now) c.args.bank.now c.args.cursors.now.items call.End c.args.pass.now c.end.new.pass c.end.result refl (c.end.ensures c.args.cursors.now.items) c.requires.hands

pub returns-in-Quiesce-clause-tried : goal.returns-in-Quiesce-clause-tried
returns-in-Quiesce-clause-tried c =
    subst (λ (x : Call). IsTryOfCall c.args.bank.now c.args.cursors.now.items x c.args.pass.now c.quiesce.new.pass c.quiesce.result) (sym c.in-Quiesce.is) (c.quiesce.ensures c.args.cursors.now.items)

pub returns-in-Quiesce-clause-hands : goal.returns-in-Quiesce-clause-hands
returns-in-Quiesce-clause-hands c =
    hands_stay (shape_of c.args.bank.now) c.args.bank.now c.args.cursors.now.items call.Quiesce c.args.pass.now c.quiesce.new.pass c.quiesce.result refl (c.quiesce.ensures c.args.cursors.now.items) c.requires.hands

pub returns-in-Begin-clause-stays : goal.returns-in-Begin-clause-stays
returns-in-Begin-clause-stays c = leaves_same c.begin.result c.args.cursors.now.items

pub returns-in-End-clause-stays : goal.returns-in-End-clause-stays
returns-in-End-clause-stays c = leaves_same c.end.result c.args.cursors.now.items

pub returns-in-Quiesce-clause-stays : goal.returns-in-Quiesce-clause-stays
returns-in-Quiesce-clause-stays c = leaves_same c.quiesce.result c.args.cursors.now.items

pub next-requires-clause-may : goal.next-requires-clause-may
next-requires-clause-may c objects is = c.requires.may.tries objects (ap (objects_of c.args.cursors.now.items) c.in-Next.is ∙ is)

pub next-requires-clause-room : goal.next-requires-clause-room
next-requires-clause-room c = (subst (IsCallIn (shape_of c.args.bank.now) c.args.cursors.now.items) c.in-Next.is c.requires.may.names).0

pub next-requires-clause-made : goal.next-requires-clause-made
next-requires-clause-made c = (subst (IsCallIn (shape_of c.args.bank.now) c.args.cursors.now.items) c.in-Next.is c.requires.may.names).1

pub returns-in-Next-clause-tried : goal.returns-in-Next-clause-tried
returns-in-Next-clause-tried c =
    subst (λ (x : Call). IsTryOfCall c.args.bank.now c.args.cursors.now.items x c.args.pass.now c.next.new.pass c.next.result) (sym c.in-Next.is) c.next.ensures.tried

pub returns-in-Begin-clause-looked : goal.returns-in-Begin-clause-looked
returns-in-Begin-clause-looked c = locked_looked c.args.call.now c.begin.result (view c.args.pass.now) (view c.begin.new.pass) (ap may_look c.in-Begin.is)

pub returns-in-End-clause-looked : goal.returns-in-End-clause-looked
returns-in-End-clause-looked c = locked_looked c.args.call.now c.end.result (view c.args.pass.now) (view c.end.new.pass) (ap may_look c.in-End.is)

pub returns-in-Quiesce-clause-looked : goal.returns-in-Quiesce-clause-looked
returns-in-Quiesce-clause-looked c = locked_looked c.args.call.now c.quiesce.result (view c.args.pass.now) (view c.quiesce.new.pass) (ap may_look c.in-Quiesce.is)

pub returns-in-Next-clause-looked : goal.returns-in-Next-clause-looked
returns-in-Next-clause-looked c = locked_looked c.args.call.now c.next.result (view c.args.pass.now) (view c.next.new.pass) (ap may_look c.in-Next.is)

pub returns-in-Dict-clause-tried : goal.returns-in-Dict-clause-tried
returns-in-Dict-clause-tried c = c.call_container.ensures.tried c.args.cursors.now.items

pub returns-in-Dict-clause-hands : goal.returns-in-Dict-clause-hands
returns-in-Dict-clause-hands c = c.call_container.ensures.hands c.args.cursors.now.items c.requires.hands
