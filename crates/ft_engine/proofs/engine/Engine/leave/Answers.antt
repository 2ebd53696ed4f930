use Rattle.std.proofs.Common.{◌++◌, ◌∙◌, ap, refl}
use Rattle.ft_trace.specs.declared.Act.TheVariants.{Announce}
use Rattle.ft_trace.specs.declared.View.{View}
use Rattle.ft_trace.specs.Acts.{presence_after_announcing, presence_of, view_after}
use Rattle.ft_bank.specs.Passes.{view}
use Rattle.ft_engine.proofs.Callers.{calm_caller, calm_kept, calm_work, ready_of}
use Rattle.ft_engine.proofs.PassesAfter.{IsCalm, boxed_calm, calm_then, collected_calm, offline_calm}
use Rattle.ft_qsbr.proofs.PassesStay.{collection_leaves, presence_stays}
use Rattle.ft_qsbr.specs.Collecting.{loads_of}
use Rattle.ft_engine.proofs.engine.Engine.leave.Goals as goal

-- the boxes are merged
merging : (c : goal.After-leave) → IsCalm (view c.args.caller.now.pass) (view c.merge_all.new.pass)
merging c =
    let x = c.merge_all.ensures in
    boxed_calm (view c.args.caller.now.pass) (view c.merge_all.new.pass) (ready_of c.args.self.now c.args.caller.now c.requires.caller c.requires.idle).inside.1.still x.only x.same x.places x.settled (λ merged. x.merges.all)

-- the pass goes offline and collects
leaving : (c : goal.After-leave) → IsCalm (view c.merge_all.new.pass) (view c.leave.new.pass)
leaving c =
    let v = view c.merge_all.new.pass in
    let first = offline_calm v v.number (merging c).still in
    calm_then v (view_after (Announce v.number 0) v) (view c.leave.new.pass) first (collected_calm (view_after (Announce v.number 0) v) (view c.leave.new.pass) c.leave.ensures.did.0 first.still c.leave.ensures.did.1)

calm : (c : goal.After-leave) → IsCalm (view c.args.caller.now.pass) (view c.leave.new.pass)
calm c = calm_then (view c.args.caller.now.pass) (view c.merge_all.new.pass) (view c.leave.new.pass) (merging c) (leaving c)

pub returns-clause-caller : goal.returns-clause-caller
returns-clause-caller c = calm_caller c.args.self.now c.args.caller.now c.leave.new.pass c.requires.caller c.requires.idle c.leave.ensures.pass (c.leave.ensures.sections ∙ c.merge_all.ensures.sections) (calm c)

pub returns-clause-same : goal.returns-clause-same
returns-clause-same c = calm_work c.args.caller.now c.leave.new.pass (c.leave.ensures.sections ∙ c.merge_all.ensures.sections) (calm c)

pub returns-clause-kept : goal.returns-clause-kept
returns-clause-kept c mine kept = calm_kept c.args.caller.now (record c.args.caller.now { pass = c.leave.new.pass }) mine (calm c) (c.leave.ensures.sections ∙ c.merge_all.ensures.sections) refl kept

pub returns-clause-floor : goal.returns-clause-floor
returns-clause-floor c = record { floor = (calm c).floor; since = (calm c).since }

pub returns-clause-merged : goal.returns-clause-merged
returns-clause-merged c = (leaving c).merged c.merge_all.ensures.merges.all

pub returns-clause-collected : goal.returns-clause-collected
returns-clause-collected c = (view c.merge_all.new.pass, c.merge_all.ensures.only, c.merge_all.ensures.merges, c.leave.ensures.did)

pub returns-clause-presence : goal.returns-clause-presence
returns-clause-presence c on =
    let v = view c.merge_all.new.pass in
    let x = c.leave.ensures.did.1 in
    ap (λ (z : View). presence_of z.log) x.did
    ∙ (presence_stays (x.acts ++ loads_of x.numbers) (view_after (Announce v.number 0) v) (collection_leaves x.acts x.numbers x.givings)
    ∙ ap (presence_after_announcing 0) (c.merge_all.ensures.only.work.presence ∙ on))
