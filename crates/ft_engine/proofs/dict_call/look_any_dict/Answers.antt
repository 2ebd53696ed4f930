use Rattle.std.proofs.Common.{◌<◌, refl}
use Rattle.std.specs.Prelude.{length}
use Rattle.ft_model.specs.declared.call.Call.TheVariants as call
use Rattle.ft_model.specs.declared.call.DictCall.TheVariants as dict
use Rattle.ft_bank.specs.Passes.{shape_of, view}
use Rattle.ft_whole_tables.specs.ShownContents.{IsOfDict}
use Rattle.ft_engine.proofs.ContainerCalls.{copy_looked}
use Rattle.ft_engine.proofs.KeyedCalls.{dict_looked, key_looked}
use Rattle.ft_engine.proofs.ListLooks.{both_looked, glance_looked}
use Rattle.ft_engine.proofs.dict_call.look_any_dict.Goals as goal

pub returns-in-Get-clause-looked : goal.returns-in-Get-clause-looked
returns-in-Get-clause-looked c =
    dict_looked c.args.d c.args.call.now (dict.Get c.in-Get.key) (view c.args.pass.now) (view c.look_get.new.pass) c.look_get.result c.in-Get.is (key_looked c.args.d c.in-Get.key (call.Dict c.args.d (dict.Get c.in-Get.key)) (view c.args.pass.now) (view c.look_get.new.pass) c.look_get.result (λ a b part s. s) c.look_get.ensures.looked)

pub returns-in-GetOr-clause-looked : goal.returns-in-GetOr-clause-looked
returns-in-GetOr-clause-looked c =
    dict_looked c.args.d c.args.call.now (dict.GetOr c.in-GetOr.key c.in-GetOr.default) (view c.args.pass.now) (view c.look_getd.new.pass) c.look_getd.result c.in-GetOr.is (key_looked c.args.d c.in-GetOr.key (call.Dict c.args.d (dict.GetOr c.in-GetOr.key c.in-GetOr.default)) (view c.args.pass.now) (view c.look_getd.new.pass) c.look_getd.result (λ a b part s. s) c.look_getd.ensures.looked)

pub returns-in-Has-clause-looked : goal.returns-in-Has-clause-looked
returns-in-Has-clause-looked c =
    dict_looked c.args.d c.args.call.now (dict.Has c.in-Has.key) (view c.args.pass.now) (view c.look_has.new.pass) c.look_has.result c.in-Has.is (key_looked c.args.d c.in-Has.key (call.Dict c.args.d (dict.Has c.in-Has.key)) (view c.args.pass.now) (view c.look_has.new.pass) c.look_has.result (λ a b part s. s) c.look_has.ensures.looked)

pub returns-in-Len-clause-looked : goal.returns-in-Len-clause-looked
returns-in-Len-clause-looked c =
    dict_looked c.args.d c.args.call.now dict.Len (view c.args.pass.now) (view c.look_len.new.pass) c.look_len.result c.in-Len.is (glance_looked c.args.d (call.Dict c.args.d dict.Len) (view c.args.pass.now) (view c.look_len.new.pass) c.look_len.result c.args.pass.now.possible (λ a b part s. s) c.look_len.ensures.looked)

pub returns-in-Items-clause-looked : goal.returns-in-Items-clause-looked
returns-in-Items-clause-looked c =
    dict_looked c.args.d c.args.call.now dict.Items (view c.args.pass.now) (view c.look_items.new.pass) c.look_items.result c.in-Items.is (copy_looked (shape_of c.args.bank.now) c.args.d (IsOfDict (shape_of c.args.bank.now) (λ dict. 0 < length dict.pairs)) (call.Dict c.args.d dict.Items) (view c.args.pass.now) (view c.look_items.new.pass) c.look_items.result c.args.pass.now.possible refl (λ a b part s. s) c.look_items.ensures.looked)

pub returns-in-Eq-clause-looked : goal.returns-in-Eq-clause-looked
returns-in-Eq-clause-looked c =
    dict_looked c.args.d c.args.call.now (dict.Eq c.in-Eq.other) (view c.args.pass.now) (view c.look_eq.new.pass) c.look_eq.result c.in-Eq.is (both_looked c.args.d c.in-Eq.other (call.Dict c.args.d (dict.Eq c.in-Eq.other)) (view c.args.pass.now) (view c.look_eq.new.pass) c.look_eq.result c.args.pass.now.possible (λ a b part s. s) c.look_eq.ensures.looked)
