use Rattle.std.proofs.Common.{refl}
use Rattle.ft_bank.specs.Passes.{shape_of}
use Rattle.ft_engine.proofs.AtRest.{hands_all, hands_on, quiet_of}
use Rattle.ft_engine.proofs.engine.Engine.rest.Goals as goal

pub rest-pass-requires-clause-quiet : goal.rest-pass-requires-clause-quiet
rest-pass-requires-clause-quiet c = quiet_of c.args.self.now c.args.caller c.requires

pub returns-clause-rests : goal.returns-clause-rests
returns-clause-rests c = record { pass = c.rest-pass.ensures.resting.1; sections = c.rest-pass.ensures.sections; cursors = refl; calls = refl; made = refl; flight = refl }

pub returns-clause-resting : goal.returns-clause-resting
returns-clause-resting c = (c.rest-pass.ensures.resting.0, (c.args.caller, c.requires, returns-clause-rests c))

pub returns-clause-tokens : goal.returns-clause-tokens
returns-clause-tokens c = (c.rest-pass.ensures.tokens.0, hands_on c.args.caller c.rest-pass.result.1 c.rest-pass.ensures.tokens.1)

pub returns-clause-all : goal.returns-clause-all
returns-clause-all c has = hands_all (shape_of c.args.self.now.bank) c.args.caller c.rest-pass.result.1 c.requires.pass.1 c.rest-pass.ensures.tokens.1 has
