use Rattle.std.proofs.Common.{refl, sym, subst}
use Rattle.ft_model.specs.declared.call.Call.TheVariants as call
use Rattle.ft_model.specs.declared.call.DictCall.TheVariants as dict
use Rattle.ft_bank.specs.Passes.{view}
use Rattle.ft_engine.specs.MadeCalls.{IsLookFor}
use Rattle.ft_engine.proofs.AtRest.{few_of, settled_of}
use Rattle.ft_engine.proofs.KeyedCalls.{key_looked}
use Rattle.ft_engine.proofs.MadeCalls.{look_for, looked_some}
use Rattle.ft_engine.proofs.engine.Engine.dict_get.Goals as goal

pub look_get-look-requires-clause-settled : goal.look_get-look-requires-clause-settled
look_get-look-requires-clause-settled c = settled_of c.args.self.now c.args.caller.now c.requires.caller

pub look_get-look-requires-clause-few : goal.look_get-look-requires-clause-few
look_get-look-requires-clause-few c = few_of c.args.self.now c.args.caller.now c.requires.caller

pub count_look-requires-clause-memory : goal.count_look-requires-clause-memory
count_look-requires-clause-memory c = looked_some (call.Dict c.args.d (dict.Get c.args.key)) c.args.caller.now.pass c.look_get-look.new.pass c.look_get-look.result refl (key_looked c.args.d c.args.key (call.Dict c.args.d (dict.Get c.args.key)) (view c.args.caller.now.pass) (view c.look_get-look.new.pass) c.look_get-look.result (λ a b part s. s) c.look_get-look.ensures.looked)

pub returns : goal.returns
returns c =
    subst (IsLookFor c.args.self.now (call.Dict c.args.d (dict.Get c.args.key)) c.look_get-look.result c.args.caller.now) (sym (c.count_look.ensures (call.Dict c.args.d (dict.Get c.args.key))))
    (look_for c.args.self.now c.args.caller.now c.look_get-look.new.pass (call.Dict c.args.d (dict.Get c.args.key)) c.look_get-look.result c.requires.caller c.requires.may c.requires.idle refl c.look_get-look.ensures.pass c.look_get-look.ensures.sections (key_looked c.args.d c.args.key (call.Dict c.args.d (dict.Get c.args.key)) (view c.args.caller.now.pass) (view c.look_get-look.new.pass) c.look_get-look.result (λ a b part s. s) c.look_get-look.ensures.looked))
