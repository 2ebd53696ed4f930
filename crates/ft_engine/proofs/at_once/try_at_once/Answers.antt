use Rattle.std.proofs.Common.{◌∙◌, sym}
use Rattle.ft_bank.specs.Passes.{view}
use Rattle.ft_engine.proofs.AtOnce.{not_looked}
use Rattle.ft_engine.proofs.at_once.try_at_once.Goals as goal

pub returns-else-is_looking-clause-looked : goal.returns-else-is_looking-clause-looked
returns-else-is_looking-clause-looked c = not_looked c.args.call.now (view c.args.pass.now) (view c.try_locked.new.pass) c.try_locked.result (sym c.is_looking.ensures ∙ c.if-is_looking.false)
