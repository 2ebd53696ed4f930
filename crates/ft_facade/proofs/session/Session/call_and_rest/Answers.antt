use Rattle.std.proofs.Common.{rules}
use Rattle.ft_model.specs.declared.call.Call.TheVariants as call
use Rattle.ft_facade.specs.Kept.{IsDone}
use Rattle.ft_facade.proofs.StepLemmas.{more_after_two, some_after_two}
use Rattle.ft_facade.proofs.session.Session.call_and_rest.Goals as goal

pub returns-clause-some : goal.returns-clause-some
returns-clause-some g c =
    let done : IsDone c.call-stepped.result = search rules in
    some_after_two c.unless_done.result c.args.made.now call.Quiesce c.call-stepped.result c.call.result c.args.self.now.caller c.call-stepped.new.self.caller
    c.call.new.self.caller done c.call-stepped.ensures.kept c.call.ensures.kept c.unless_done.ensures.done

pub returns-clause-kept : goal.returns-clause-kept
returns-clause-kept g c =
    let done : IsDone c.call-stepped.result = search rules in
    more_after_two c.unless_done.result c.args.made.now call.Quiesce c.call-stepped.result c.call.result c.args.self.now.caller c.call-stepped.new.self.caller
    c.call.new.self.caller done c.call-stepped.ensures.kept c.call.ensures.kept c.call-stepped.ensures.place.thread c.unless_done.ensures.other
