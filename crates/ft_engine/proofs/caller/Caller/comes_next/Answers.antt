use Rattle.std.proofs.Common.{IsTrue, sym, subst}
use Rattle.ft_engine.specs.declared.caller.Flight.{Flight}
use Rattle.ft_engine.specs.Flights.{AllowsCall}
use Rattle.ft_engine.proofs.caller.Caller.comes_next.Goals as goal

pub returns-in-Tried : goal.returns-in-Tried
returns-in-Tried c =
    subst (λ (f : Flight). (IsTrue c.is_same.result → AllowsCall f c.args.call.now) × (AllowsCall f c.args.call.now → IsTrue c.is_same.result)) (sym c.in-Tried.is) c.is_same.ensures

pub returns-in-Answered : goal.returns-in-Answered
returns-in-Answered c =
    subst (λ (f : Flight). (IsTrue c.is_same-in-Answered.result → AllowsCall f c.args.call.now) × (AllowsCall f c.args.call.now → IsTrue c.is_same-in-Answered.result)) (sym c.in-Answered.is) c.is_same-in-Answered.ensures
