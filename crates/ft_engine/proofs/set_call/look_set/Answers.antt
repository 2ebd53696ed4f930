use Rattle.ft_model.specs.declared.call.Call.TheVariants as call
use Rattle.ft_model.specs.declared.call.SetCall.TheVariants as set
use Rattle.ft_bank.specs.Passes.{view}
use Rattle.ft_engine.proofs.KeyedCalls.{set_looked, key_looked}
use Rattle.ft_engine.proofs.set_call.look_set.Goals as goal

pub returns-in-Has-clause-looked : goal.returns-in-Has-clause-looked
returns-in-Has-clause-looked c =
    set_looked c.args.s c.args.call.now (set.Has c.in-Has.key) (view c.args.pass.now) (view c.look_has.new.pass) c.look_has.result c.in-Has.is (key_looked c.args.s c.in-Has.key (call.Set c.args.s (set.Has c.in-Has.key)) (view c.args.pass.now) (view c.look_has.new.pass) c.look_has.result (λ a b part s. s) c.look_has.ensures.looked)
