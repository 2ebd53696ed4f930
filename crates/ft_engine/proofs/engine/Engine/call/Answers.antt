use Rattle.ft_engine.proofs.engine.Engine.call.Goals as goal

pub returns-clause-caller : goal.returns-clause-caller
returns-clause-caller g c = c.make.ensures.caller

pub returns-clause-same : goal.returns-clause-same
returns-clause-same g c = c.make.ensures.same

pub returns-clause-flight : goal.returns-clause-flight
returns-clause-flight g c = c.make.ensures.flight

pub returns-clause-kept : goal.returns-clause-kept
returns-clause-kept g c = c.make.ensures.kept

pub returns-clause-called : goal.returns-clause-called
returns-clause-called g c = c.make.ensures.called

pub returns-clause-own : goal.returns-clause-own
returns-clause-own g c = c.make.ensures.own

pub returns-clause-right : goal.returns-clause-right
returns-clause-right g c = c.make.ensures.right

pub returns-clause-found_none : goal.returns-clause-found_none
returns-clause-found_none g c = c.make.ensures.found_none
