use Rattle.std.proofs.Common.{◌∙◌, sym, arith, subst, true≢false}
use Rattle.ft_engine.specs.MadeCalls.{IsLookFor}
use Rattle.ft_engine.proofs.AtRest.{few_of, settled_of}
use Rattle.ft_engine.proofs.Keeping.{no_answer_idle}
use Rattle.ft_engine.proofs.MadeCalls.{look_for, some_left}
use Rattle.ft_engine.proofs.engine.Engine.look.Goals as goal
use Rattle.ft_engine.proofs.engine.Engine.look.Goals.{After-take_look}

pub look_call-requires-clause-names : goal.look_call-requires-clause-names
look_call-requires-clause-names c = (c.args.caller.now.cursors.items, c.requires.may.names (no_answer_idle c.args.caller.now.flight c.requires.idle))

pub look_call-requires-clause-settled : goal.look_call-requires-clause-settled
look_call-requires-clause-settled c = settled_of c.args.self.now c.args.caller.now c.requires.caller

pub look_call-requires-clause-few : goal.look_call-requires-clause-few
look_call-requires-clause-few c = few_of c.args.self.now c.args.caller.now c.requires.caller

pub look_call-requires-clause-left : goal.look_call-requires-clause-left
look_call-requires-clause-left c = some_left c.args.self.now c.args.caller.now c.args.call.now c.requires.caller c.requires.idle c.requires.may

pub unreachable-requires : goal.unreachable-requires
unreachable-requires c = absurd (true≢false (sym c.requires.looks ∙ c.in_default.ensures.made))

pub take_look-requires : goal.take_look-requires
take_look-requires c =
    let some = c.requires.may.left (no_answer_idle c.args.caller.now.flight c.requires.idle) in
    omega (arith, some)

-- all that the look promises
whole : (c : After-take_look) → IsLookFor c.args.self.now c.args.call.now c.in-Some.look c.args.caller.now c.take_look.new.self
whole c =
    subst (IsLookFor c.args.self.now c.args.call.now c.in-Some.look c.args.caller.now) (sym c.take_look.ensures)
    (look_for c.args.self.now c.args.caller.now c.look_call.new.pass c.args.call.now c.in-Some.look c.requires.caller c.requires.may c.requires.idle c.requires.looks c.in-Some.ensures.pass c.in-Some.ensures.sections c.in-Some.ensures.looked)

pub returns-clause-caller : goal.returns-clause-caller
returns-clause-caller c = (whole c).caller

pub returns-clause-same : goal.returns-clause-same
returns-clause-same c = (whole c).same

pub returns-clause-flight : goal.returns-clause-flight
returns-clause-flight c = (whole c).flight

pub returns-clause-sections : goal.returns-clause-sections
returns-clause-sections c = (whole c).sections

pub returns-clause-kept : goal.returns-clause-kept
returns-clause-kept c = (whole c).kept

pub returns-clause-looked : goal.returns-clause-looked
returns-clause-looked c = (whole c).looked

pub returns-clause-floor : goal.returns-clause-floor
returns-clause-floor c = (whole c).floor

pub returns-clause-right : goal.returns-clause-right
returns-clause-right c = (whole c).right
