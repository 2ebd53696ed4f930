use Rattle.std.proofs.Common.{sym, ap}
use Rattle.ft_section.specs.declared.answers.Look.{Look}
use Rattle.ft_engine.specs.Attempts.{after_look}
use Rattle.ft_engine.proofs.caller.Caller.take_look.Goals as goal

pub returns-in-Done : goal.returns-in-Done
returns-in-Done c = ap (λ (x : Look). after_look c.args.call.now x c.args.self.now) (sym c.in-Done.is)

pub returns-in-Contended : goal.returns-in-Contended
returns-in-Contended c = ap (λ (x : Look). after_look c.args.call.now x c.args.self.now) (sym c.in-Contended.is)

pub returns-in-NoMemory : goal.returns-in-NoMemory
returns-in-NoMemory c = ap (λ (x : Look). after_look c.args.call.now x c.args.self.now) (sym c.in-NoMemory.is)
