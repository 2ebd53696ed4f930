use Rattle.std.proofs.Common.{refl}
use Rattle.ft_model.specs.declared.call.Call.TheVariants as call
use Rattle.ft_section.specs.declared.answers.Ended.TheVariants as ended
use Rattle.ft_bank.specs.Passes.{view}
use Rattle.ft_engine.proofs.Within.{same_for}
use Rattle.ft_engine.proofs.SectionCalls.{end_answer, no_containers}
use Rattle.ft_engine.proofs.section_call.end.Goals as goal

pub returns-in-Kept : goal.returns-in-Kept
returns-in-Kept c hands =
    let e = c.in-Kept.ensures in
    (end_answer c.args.bank.now c.args.pass.now c.end.new.pass (ended.Kept c.in-Kept.stamp) c.requires.left c.requires.depth e.entry e.seen e.read e.section e.resume, no_containers hands call.End c.args.pass.now refl, same_for hands call.End (view c.args.pass.now) (view c.end.new.pass) e.owners)

pub returns-in-Suspended : goal.returns-in-Suspended
returns-in-Suspended c hands =
    let e = c.in-Suspended.ensures in
    (end_answer c.args.bank.now c.args.pass.now c.end.new.pass (ended.Suspended c.in-Suspended.count c.in-Suspended.stamp) c.requires.left c.requires.depth e.entry e.seen e.read e.section e.resume, no_containers hands call.End c.args.pass.now refl, same_for hands call.End (view c.args.pass.now) (view c.end.new.pass) e.owners)
