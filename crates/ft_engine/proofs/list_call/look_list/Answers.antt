use Rattle.std.proofs.Common.{ℤ, subst, rules}
use mir.Syntax.{w64}
use mir.Val.{SFits}
use Rattle.std.proofs.Math.Facts.{to_z-of_z}
use Rattle.ft_list.specs.Indexes.{IsLookGetOf}
use Rattle.ft_model.specs.declared.call.ListCall.TheVariants as list
use Rattle.ft_bank.specs.Passes.{view}
use Rattle.ft_engine.proofs.ListLooks.{get_looked, list_looked}
use Rattle.ft_engine.proofs.list_call.look_list.Goals as goal

pub returns-in-Get-clause-looked : goal.returns-in-Get-clause-looked
returns-in-Get-clause-looked c =
    let fits_index : SFits w64 c.in-Get.index = search rules in
    let same_index = to_z-of_z {w = w64} {z = c.in-Get.index} fits_index in
    list_looked c.args.l c.args.call.now (list.Get c.in-Get.index) (view c.args.pass.now) (view c.look_get.new.pass) c.look_get.result c.in-Get.is (get_looked c.args.l c.in-Get.index (view c.args.pass.now) (view c.look_get.new.pass) c.look_get.result c.args.pass.now.possible (subst (λ (i : ℤ). IsLookGetOf c.args.l i (view c.args.pass.now) (view c.look_get.new.pass) c.look_get.result) same_index c.look_get.ensures.looked))
