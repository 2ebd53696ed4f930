use Rattle.std.proofs.Common.{sym, subst}
use Rattle.ft_engine.specs.declared.attempts.Tried.{Tried}
use Rattle.ft_engine.specs.Attempts.{ComesAgain}
use Rattle.ft_engine.specs.Calling.{IsTried}
use Rattle.ft_engine.proofs.engine.Engine.try_once.Goals as goal
use Rattle.ft_engine.proofs.engine.Engine.try_once.Goals.{After-attempt}

tried : (c : After-attempt) → IsTried c.args.self.now c.args.call.now c.attempt.result c.args.caller.now c.attempt.new.caller
tried c =
    let x = c.attempt.ensures in
    record { caller = x.caller; same = x.same; flight = x.flight; kept = x.kept; mark = x.mark; found = x.found; looked = x.looked; halves = x.halves; own = x.own; again = x.again }

pub returns-in-NotYet-clause-again : goal.returns-in-NotYet-clause-again
returns-in-NotYet-clause-again c =
    let d = (goal.at.returns-in-NotYet-clause-again c).After-attempt in
    (d.attempt.result, subst ComesAgain (sym c.in-NotYet.is) tt, tried d)

pub returns-in-Moved-clause-again : goal.returns-in-Moved-clause-again
returns-in-Moved-clause-again c =
    let d = (goal.at.returns-in-Moved-clause-again c).After-attempt in
    (d.attempt.result, subst ComesAgain (sym c.in-Moved.is) tt, tried d)

pub returns-in-Done-clause-done : goal.returns-in-Done-clause-done
returns-in-Done-clause-done c =
    let d = (goal.at.returns-in-Done-clause-done c).After-attempt in
    subst (λ (t : Tried). IsTried c.args.self.now c.args.call.now t c.args.caller.now d.attempt.new.caller) c.in-Done.is (tried d)

pub returns-in-NoMemory-clause-done : goal.returns-in-NoMemory-clause-done
returns-in-NoMemory-clause-done c =
    let d = (goal.at.returns-in-NoMemory-clause-done c).After-attempt in
    subst (λ (t : Tried). IsTried c.args.self.now c.args.call.now t c.args.caller.now d.attempt.new.caller) c.in-NoMemory.is (tried d)
