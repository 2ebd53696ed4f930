use Rattle.std.proofs.Common.{subst, refl}
use Rattle.ft_section.specs.declared.answers.Look.{Look}
use Rattle.ft_engine.specs.MadeCalls.{IsLookFor}
use Rattle.ft_bench.proofs.CallerLemmas.{abandoned_ready, looked_ready}
use Rattle.ft_bench.proofs.known.end_look.Goals as goal

pub returns-in-Done : goal.returns-in-Done
returns-in-Done c =
    let r = c.requires in
    looked_ready c.args.engine.now r.0 _ r.1 c.args.worker.now.caller r.2 (subst (λ (a : Look). IsLookFor c.args.engine.now r.0 a r.1 c.args.worker.now.caller) c.in-Done.is r.3) refl

pub returns-in-Contended : goal.returns-in-Contended
returns-in-Contended c =
    let r = c.requires in
    looked_ready c.args.engine.now r.0 _ r.1 c.args.worker.now.caller r.2 (subst (λ (a : Look). IsLookFor c.args.engine.now r.0 a r.1 c.args.worker.now.caller) c.in-Contended.is r.3) refl

pub abandon-requires : goal.abandon-requires
abandon-requires c = c.requires.3.caller

pub returns-in-NoMemory : goal.returns-in-NoMemory
returns-in-NoMemory c =
    let r = c.requires in
    abandoned_ready c.args.engine.now r.1 c.args.worker.now.caller c.abandon.new.caller r.2 r.3.same c.abandon.ensures.caller c.abandon.ensures.idle c.abandon.ensures.same
