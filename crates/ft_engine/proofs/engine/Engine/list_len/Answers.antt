use Rattle.std.proofs.Common.{refl, sym, subst}
use Rattle.ft_model.specs.declared.call.Call.TheVariants as call
use Rattle.ft_model.specs.declared.call.ListCall.TheVariants as list
use Rattle.ft_bank.specs.Passes.{view}
use Rattle.ft_engine.specs.MadeCalls.{IsLookFor}
use Rattle.ft_engine.proofs.ListLooks.{glance_looked}
use Rattle.ft_engine.proofs.MadeCalls.{look_for, looked_some}
use Rattle.ft_engine.proofs.engine.Engine.list_len.Goals as goal

pub count_look-requires-clause-memory : goal.count_look-requires-clause-memory
count_look-requires-clause-memory c = looked_some (call.List c.args.l list.Len) c.args.caller.now.pass c.look_len-look.new.pass c.look_len-look.result refl (glance_looked c.args.l (call.List c.args.l list.Len) (view c.args.caller.now.pass) (view c.look_len-look.new.pass) c.look_len-look.result c.args.caller.now.pass.possible (λ a b part s. s) c.look_len-look.ensures.looked)

pub returns : goal.returns
returns c =
    subst (IsLookFor c.args.self.now (call.List c.args.l list.Len) c.look_len-look.result c.args.caller.now) (sym (c.count_look.ensures (call.List c.args.l list.Len)))
    (look_for c.args.self.now c.args.caller.now c.look_len-look.new.pass (call.List c.args.l list.Len) c.look_len-look.result c.requires.caller c.requires.may c.requires.idle refl c.look_len-look.ensures.pass c.look_len-look.ensures.sections (glance_looked c.args.l (call.List c.args.l list.Len) (view c.args.caller.now.pass) (view c.look_len-look.new.pass) c.look_len-look.result c.args.caller.now.pass.possible (λ a b part s. s) c.look_len-look.ensures.looked))
