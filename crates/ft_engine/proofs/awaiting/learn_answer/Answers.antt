use Rattle.std.proofs.Common.{◌≡◌, ◌<◌, ◌≤◌, ◌∙◌, ℕ, false, refl, sym, ap, subst, le_trans}
use Rattle.std.proofs.Math.Nat.{le-max_left, le-max_right}
use Rattle.ft_model.specs.declared.call.Call.{Call}
use Rattle.ft_model.specs.declared.call.Call.TheVariants as call
use Rattle.ft_model.specs.declared.reply.Reply.TheVariants as reply
use Rattle.ft_section.specs.declared.answers.Stamp.{Stamp}
use Rattle.ft_section.specs.declared.answers.Step.TheVariants as step
use Rattle.ft_section.specs.Sectioning.{answered_view}
use Rattle.ft_trace.specs.declared.Act.TheVariants.{Answer}
use Rattle.ft_trace.specs.declared.View.{View}
use Rattle.ft_trace.specs.Acts.{announces, shown, view_after, presence_of}
use Rattle.ft_bank.specs.Notes.{says, told_by}
use Rattle.ft_bank.specs.Passes.{view}
use Rattle.ft_engine.specs.Answering.{IsTryOfCall}
use Rattle.ft_engine.proofs.AwaitCalls.{await_shown}
use Rattle.ft_engine.proofs.PassesAfter.{IsCalm, learnt_calm, ready_calm}
use Rattle.ft_engine.proofs.SectionCalls.{answered_owners, await_answer, no_containers, ready_answered}
use Rattle.ft_engine.proofs.Within.{same_for}
use Rattle.ft_engine.proofs.awaiting.learn_answer.Goals as goal

pub answer-requires-clause-shown : goal.answer-requires-clause-shown
answer-requires-clause-shown c =
    let x = c.learn.ensures.view in
    await_shown (view c.args.pass.now) (view c.learn.new.pass) (view c.stamp-number.new.pass) c.args.call.now c.args.note x.0 c.stamp-number.result x.1 c.stamp-number.ensures.did.1 c.requires.left c.requires.told

pub returns-clause-ready : goal.returns-clause-ready
returns-clause-ready c =
    let v = view c.args.pass.now in
    let q = c.learn.new.pass in
    let r = c.answer.new.pass in
    let n = c.stamp-number.result in
    let x = c.learn.ensures.view in
    let d = c.stamp-number.ensures.did in
    let a = c.answer.ensures in
    let pass = c.learn.ensures.pass in
    let told = c.requires.told in
    let named = call.Await told.thread told.index in
    let calm = subst (IsCalm v) (sym x.1) (learnt_calm v (says c.args.note) x.0 (told_by c.args.note) c.requires.ready.inside.1.still) in
    let is : view r ≡ answered_view named reply.Done n (view q) =
    (a.1 ∙ ap (view_after (Answer c.args.call.now reply.Done n)) d.1) ∙ ap (λ (z : Call). answered_view z reply.Done n (view q)) told.await in
    ready_answered named reply.Done c.args.bank.now q r n refl (ready_calm c.args.bank.now c.args.pass.now q c.requires.ready pass c.learn.ensures.sections calm)
    (a.0 ∙ (d.0 ∙ pass.0), ap (λ (z : View). z.shape) a.1 ∙ (ap (λ (z : View). z.shape) d.1 ∙ pass.1)) (a.2 ∙ d.2) is

pub returns-clause-tried : goal.returns-clause-tried
returns-clause-tried c hands =
    let b = c.args.bank.now in
    let p = c.args.pass.now in
    let v = view p in
    let q = c.learn.new.pass in
    let r = c.answer.new.pass in
    let n = c.stamp-number.result in
    let stamp : Stamp = record { number = n; wrote = false } in
    let x = c.learn.ensures.view in
    let d = c.stamp-number.ensures.did in
    let a = c.answer.ensures in
    let pass = c.learn.ensures.pass in
    let told = c.requires.told in
    let named = call.Await told.thread told.index in
    let calm = subst (IsCalm v) (sym x.1) (learnt_calm v (says c.args.note) x.0 (told_by c.args.note) c.requires.ready.inside.1.still) in
    let is : view r ≡ answered_view named reply.Done n (view q) =
    (a.1 ∙ ap (view_after (Answer c.args.call.now reply.Done n)) d.1) ∙ ap (λ (z : Call). answered_view z reply.Done n (view q)) told.await in
    subst (λ (z : Call). IsTryOfCall b hands z p r (step.Done reply.Done stamp)) (sym told.await) (
      await_answer b p q r told.thread told.index stamp c.requires.ready c.requires.left pass c.learn.ensures.sections calm (λ on. subst (λ (z : View). 0 < announces z.log) (sym x.1) on)
          (λ here. ap (λ (z : View). presence_of z.log) x.1 ∙ here)
          (a.0 ∙ (d.0 ∙ pass.0), ap (λ (z : View). z.shape) a.1 ∙ (ap (λ (z : View). z.shape) d.1 ∙ pass.1)) (a.2 ∙ d.2) is refl c.stamp-number.ensures.seen,
      no_containers hands named p refl,
      same_for hands named v (view r) (answered_owners named reply.Done n v (view q) (view r) calm is),
    )

pub returns-clause-seen : goal.returns-clause-seen
returns-clause-seen c =
    let u = view c.learn.new.pass in
    let n = c.stamp-number.result in
    let loaded = ap (λ (z : View). shown z.log) c.stamp-number.ensures.did.1 in
    let answered = ap (λ (z : View). shown z.log) c.answer.ensures.1 in
    subst (λ (seen : ℕ). says c.args.note ≤ seen) (sym (answered ∙ loaded)) (le_trans c.learn.ensures.seen.0 (le-max_left (shown u.log) n))

pub returns-clause-stamp : goal.returns-clause-stamp
returns-clause-stamp c =
    let u = view c.learn.new.pass in
    (refl, le_trans c.learn.ensures.seen.0 (le_trans (le-max_right u.learnt (shown u.log)) c.stamp-number.ensures.seen))
