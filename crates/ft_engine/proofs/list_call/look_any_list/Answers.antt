use Rattle.std.proofs.Common.{◌<◌, ℤ, refl, subst, rules}
use Rattle.std.specs.Prelude.{length}
use mir.Syntax.{w64}
use mir.Val.{SFits}
use Rattle.std.proofs.Math.Facts.{to_z-of_z}
use Rattle.ft_list.specs.Indexes.{IsLookGetOf}
use Rattle.ft_model.specs.declared.call.Call.TheVariants as call
use Rattle.ft_model.specs.declared.call.ListCall.TheVariants as list
use Rattle.ft_bank.specs.Passes.{shape_of, view}
use Rattle.ft_list.specs.Scans.{IsOfItems}
use Rattle.ft_engine.proofs.ContainerCalls.{copy_looked}
use Rattle.ft_engine.proofs.ListLooks.{both_looked, get_looked, glance_looked, list_looked}
use Rattle.ft_engine.proofs.list_call.look_any_list.Goals as goal

pub returns-in-Get-clause-looked : goal.returns-in-Get-clause-looked
returns-in-Get-clause-looked c =
    let fits_index : SFits w64 c.in-Get.index = search rules in
    let same_index = to_z-of_z {w = w64} {z = c.in-Get.index} fits_index in
    list_looked c.args.l c.args.call.now (list.Get c.in-Get.index) (view c.args.pass.now) (view c.look_get.new.pass) c.look_get.result c.in-Get.is (get_looked c.args.l c.in-Get.index (view c.args.pass.now) (view c.look_get.new.pass) c.look_get.result c.args.pass.now.possible (subst (λ (i : ℤ). IsLookGetOf c.args.l i (view c.args.pass.now) (view c.look_get.new.pass) c.look_get.result) same_index c.look_get.ensures.looked))

pub returns-in-Has-clause-looked : goal.returns-in-Has-clause-looked
returns-in-Has-clause-looked c =
    list_looked c.args.l c.args.call.now (list.Has c.in-Has.value) (view c.args.pass.now) (view c.look_has.new.pass) c.look_has.result c.in-Has.is (glance_looked c.args.l (call.List c.args.l (list.Has c.in-Has.value)) (view c.args.pass.now) (view c.look_has.new.pass) c.look_has.result c.args.pass.now.possible (λ a b part s. s) c.look_has.ensures.looked)

pub returns-in-Len-clause-looked : goal.returns-in-Len-clause-looked
returns-in-Len-clause-looked c =
    list_looked c.args.l c.args.call.now list.Len (view c.args.pass.now) (view c.look_len.new.pass) c.look_len.result c.in-Len.is (glance_looked c.args.l (call.List c.args.l list.Len) (view c.args.pass.now) (view c.look_len.new.pass) c.look_len.result c.args.pass.now.possible (λ a b part s. s) c.look_len.ensures.looked)

pub returns-in-Items-clause-looked : goal.returns-in-Items-clause-looked
returns-in-Items-clause-looked c =
    list_looked c.args.l c.args.call.now list.Items (view c.args.pass.now) (view c.look_items.new.pass) c.look_items.result c.in-Items.is (copy_looked (shape_of c.args.bank.now) c.args.l (IsOfItems (shape_of c.args.bank.now) (λ items. 0 < length items)) (call.List c.args.l list.Items) (view c.args.pass.now) (view c.look_items.new.pass) c.look_items.result c.args.pass.now.possible refl (λ a b part s. s) c.look_items.ensures.looked)

pub returns-in-Eq-clause-looked : goal.returns-in-Eq-clause-looked
returns-in-Eq-clause-looked c =
    list_looked c.args.l c.args.call.now (list.Eq c.in-Eq.other) (view c.args.pass.now) (view c.look_eq.new.pass) c.look_eq.result c.in-Eq.is (both_looked c.args.l c.in-Eq.other (call.List c.args.l (list.Eq c.in-Eq.other)) (view c.args.pass.now) (view c.look_eq.new.pass) c.look_eq.result c.args.pass.now.possible (λ a b part s. s) c.look_eq.ensures.looked)
