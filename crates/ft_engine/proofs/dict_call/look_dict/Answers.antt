use Rattle.ft_model.specs.declared.call.Call.TheVariants as call
use Rattle.ft_model.specs.declared.call.DictCall.TheVariants as dict
use Rattle.ft_bank.specs.Passes.{view}
use Rattle.ft_engine.proofs.KeyedCalls.{dict_looked, key_looked}
use Rattle.ft_engine.proofs.dict_call.look_dict.Goals as goal

pub returns-in-Get-clause-looked : goal.returns-in-Get-clause-looked
returns-in-Get-clause-looked c =
    dict_looked c.args.d c.args.call.now (dict.Get c.in-Get.key) (view c.args.pass.now) (view c.look_get.new.pass) c.look_get.result c.in-Get.is (key_looked c.args.d c.in-Get.key (call.Dict c.args.d (dict.Get c.in-Get.key)) (view c.args.pass.now) (view c.look_get.new.pass) c.look_get.result (λ a b part s. s) c.look_get.ensures.looked)
