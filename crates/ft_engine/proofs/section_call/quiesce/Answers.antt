use Rattle.std.proofs.Common.{◌<◌, ◌∙◌, ℕ, [], false, refl, sym, ap, subst}
use Rattle.ft_model.specs.declared.call.Call.TheVariants as call
use Rattle.ft_model.specs.declared.reply.Reply.TheVariants as reply
use Rattle.ft_trace.specs.declared.Act.TheVariants.{Answer}
use Rattle.ft_trace.specs.declared.View.{View}
use Rattle.ft_trace.specs.Acts.{view_after}
use Rattle.ft_bank.specs.Passes.{view}
use Rattle.ft_bank.specs.Reads.{IsShown}
use Rattle.ft_engine.proofs.PassesAfter.{IsCalm, boxed_calm, calm_then, quiesced_calm}
use Rattle.ft_engine.proofs.Outcomes.{boxed_nothing}
use Rattle.ft_engine.proofs.SectionCalls.{answered_owners, idle_merged, no_containers, quiesce_answer}
use Rattle.ft_engine.proofs.Within.{same_for}
use Rattle.ft_engine.proofs.section_call.quiesce.Goals as goal
use Rattle.ft_engine.proofs.section_call.quiesce.Goals.{After-quiesce}

-- the idle boxes are merged
merging : (c : After-quiesce) → IsCalm (view c.args.pass.now) (view c.merge_idle.new.pass)
merging c =
    let v = view c.args.pass.now in
    let x = c.merge_idle.ensures in
    boxed_calm v (view c.merge_idle.new.pass) c.requires.ready.inside.1.still x.only x.same x.places x.settled (idle_merged v (view c.merge_idle.new.pass) x.merges)

-- the pass announces and collects
calm : (c : After-quiesce) → IsCalm (view c.args.pass.now) (view c.quiesce.new.pass)
calm c =
    let x = view c.merge_idle.new.pass in
    calm_then (view c.args.pass.now) x (view c.quiesce.new.pass) (merging c) (quiesced_calm x (view c.quiesce.new.pass) (merging c).still c.quiesce.ensures.did)

pub answer-requires-clause-shown : goal.answer-requires-clause-shown
answer-requires-clause-shown c =
    let v = view c.quiesce.new.pass in
    let n = c.stamp-number.result in
    subst (λ (w : View). IsShown w call.Quiesce reply.Done n) (sym c.stamp-number.ensures.did.1) (record {
      read = refl;
      left = subst (λ (k : ℕ). 0 < k) (sym (calm (goal.at.answer-requires-clause-shown c).After-quiesce).left) c.requires.left;
      loaded = record { newer = []; rest = v.log; is = refl; own = tt };
      replied = λ es id k. refl;
      cause = λ es id k. refl;
      no_cursor = λ es id k. refl;
    })

pub returns : goal.returns
returns c hands =
    let q = c.quiesce.new.pass in
    let n = c.stamp-number.result in
    let d = c.stamp-number.ensures.did in
    let a = c.answer.ensures in
    let x = c.merge_idle.ensures in
    let m = view c.merge_idle.new.pass in
    let rests = calm (goal.at.returns c).After-quiesce in (
      quiesce_answer c.args.bank.now c.args.pass.now q c.answer.new.pass m (record { number = n; wrote = false }) c.requires.ready c.requires.left c.quiesce.ensures.pass (c.quiesce.ensures.sections ∙ x.sections) rests (boxed_nothing (view c.args.pass.now) m x.only).pass x.only x.merges x.left c.quiesce.ensures.did c.quiesce.ensures.online
          (a.0 ∙ (d.0 ∙ c.quiesce.ensures.pass.0), ap (λ (z : View). z.shape) a.1 ∙ (ap (λ (z : View). z.shape) d.1 ∙ c.quiesce.ensures.pass.1)) (a.2 ∙ d.2)
          (a.1 ∙ ap (view_after (Answer call.Quiesce reply.Done n)) d.1) refl c.stamp-number.ensures.seen,
      no_containers hands call.Quiesce c.args.pass.now refl,
      same_for hands call.Quiesce (view c.args.pass.now) (view c.answer.new.pass) (answered_owners call.Quiesce reply.Done n (view c.args.pass.now) (view q) (view c.answer.new.pass) rests (a.1 ∙ ap (view_after (Answer call.Quiesce reply.Done n)) d.1)),
    )
