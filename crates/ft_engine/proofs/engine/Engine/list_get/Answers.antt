use Rattle.std.proofs.Common.{ℤ, refl, sym, subst, rules}
use mir.Syntax.{w64}
use mir.Val.{SFits}
use Rattle.std.proofs.Math.Facts.{to_z-of_z}
use Rattle.ft_list.specs.Indexes.{IsLookGetOf}
use Rattle.ft_model.specs.declared.call.Call.TheVariants as call
use Rattle.ft_model.specs.declared.call.ListCall.TheVariants as list
use Rattle.ft_bank.specs.Passes.{view}
use Rattle.ft_engine.specs.MadeCalls.{IsLookFor}
use Rattle.ft_engine.proofs.AtRest.{few_of, settled_of}
use Rattle.ft_engine.proofs.ListLooks.{get_looked}
use Rattle.ft_engine.proofs.MadeCalls.{look_for, looked_some}
use Rattle.ft_engine.proofs.engine.Engine.list_get.Goals as goal

pub look_get-look-requires-clause-settled : goal.look_get-look-requires-clause-settled
look_get-look-requires-clause-settled c = settled_of c.args.self.now c.args.caller.now c.requires.caller

pub look_get-look-requires-clause-few : goal.look_get-look-requires-clause-few
look_get-look-requires-clause-few c = few_of c.args.self.now c.args.caller.now c.requires.caller

pub count_look-requires-clause-memory : goal.count_look-requires-clause-memory
count_look-requires-clause-memory c = looked_some (call.List c.args.l (list.Get c.args.index)) c.args.caller.now.pass c.look_get-look.new.pass c.look_get-look.result refl (let fits_index : SFits w64 c.args.index = search rules in
    let same_index = to_z-of_z {w = w64} {z = c.args.index} fits_index in
    get_looked c.args.l c.args.index (view c.args.caller.now.pass) (view c.look_get-look.new.pass) c.look_get-look.result c.args.caller.now.pass.possible (subst (λ (i : ℤ). IsLookGetOf c.args.l i (view c.args.caller.now.pass) (view c.look_get-look.new.pass) c.look_get-look.result) same_index c.look_get-look.ensures.looked))

pub returns : goal.returns
returns c =
    subst (IsLookFor c.args.self.now (call.List c.args.l (list.Get c.args.index)) c.look_get-look.result c.args.caller.now) (sym (c.count_look.ensures (call.List c.args.l (list.Get c.args.index))))
    (look_for c.args.self.now c.args.caller.now c.look_get-look.new.pass (call.List c.args.l (list.Get c.args.index)) c.look_get-look.result c.requires.caller c.requires.may c.requires.idle refl c.look_get-look.ensures.pass c.look_get-look.ensures.sections (let fits_index : SFits w64 c.args.index = search rules in
    let same_index = to_z-of_z {w = w64} {z = c.args.index} fits_index in
    get_looked c.args.l c.args.index (view c.args.caller.now.pass) (view c.look_get-look.new.pass) c.look_get-look.result c.args.caller.now.pass.possible (subst (λ (i : ℤ). IsLookGetOf c.args.l i (view c.args.caller.now.pass) (view c.look_get-look.new.pass) c.look_get-look.result) same_index c.look_get-look.ensures.looked)))
