use Rattle.std.proofs.Common.{refl, sym, subst}
use Rattle.ft_model.specs.declared.call.Call.TheVariants as call
use Rattle.ft_model.specs.declared.call.SetCall.TheVariants as set
use Rattle.ft_bank.specs.Passes.{view}
use Rattle.ft_engine.specs.MadeCalls.{IsLookFor}
use Rattle.ft_engine.proofs.ListLooks.{glance_looked}
use Rattle.ft_engine.proofs.MadeCalls.{look_for, looked_some}
use Rattle.ft_engine.proofs.engine.Engine.set_len.Goals as goal

pub count_look-requires-clause-memory : goal.count_look-requires-clause-memory
count_look-requires-clause-memory c = looked_some (call.Set c.args.s set.Len) c.args.caller.now.pass c.look_len-look.new.pass c.look_len-look.result refl (glance_looked c.args.s (call.Set c.args.s set.Len) (view c.args.caller.now.pass) (view c.look_len-look.new.pass) c.look_len-look.result c.args.caller.now.pass.possible (λ a b part s. s) c.look_len-look.ensures.looked)

pub returns : goal.returns
returns c =
    subst (IsLookFor c.args.self.now (call.Set c.args.s set.Len) c.look_len-look.result c.args.caller.now) (sym (c.count_look.ensures (call.Set c.args.s set.Len)))
    (look_for c.args.self.now c.args.caller.now c.look_len-look.new.pass (call.Set c.args.s set.Len) c.look_len-look.result c.requires.caller c.requires.may c.requires.idle refl c.look_len-look.ensures.pass c.look_len-look.ensures.sections (glance_looked c.args.s (call.Set c.args.s set.Len) (view c.args.caller.now.pass) (view c.look_len-look.new.pass) c.look_len-look.result c.args.caller.now.pass.possible (λ a b part s. s) c.look_len-look.ensures.looked))
