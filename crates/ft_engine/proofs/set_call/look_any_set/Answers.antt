use Rattle.std.proofs.Common.{◌<◌, refl}
use Rattle.std.specs.Prelude.{length}
use Rattle.ft_model.specs.declared.call.Call.TheVariants as call
use Rattle.ft_model.specs.declared.call.SetCall.TheVariants as set
use Rattle.ft_bank.specs.Passes.{shape_of, view}
use Rattle.ft_whole_tables.specs.ShownContents.{IsOfSet}
use Rattle.ft_engine.proofs.ContainerCalls.{copy_looked}
use Rattle.ft_engine.proofs.KeyedCalls.{set_looked, key_looked}
use Rattle.ft_engine.proofs.ListLooks.{both_looked, glance_looked}
use Rattle.ft_engine.proofs.set_call.look_any_set.Goals as goal

pub returns-in-Has-clause-looked : goal.returns-in-Has-clause-looked
returns-in-Has-clause-looked c =
    set_looked c.args.s c.args.call.now (set.Has c.in-Has.key) (view c.args.pass.now) (view c.look_has.new.pass) c.look_has.result c.in-Has.is (key_looked c.args.s c.in-Has.key (call.Set c.args.s (set.Has c.in-Has.key)) (view c.args.pass.now) (view c.look_has.new.pass) c.look_has.result (λ a b part s. s) c.look_has.ensures.looked)

pub returns-in-Len-clause-looked : goal.returns-in-Len-clause-looked
returns-in-Len-clause-looked c =
    set_looked c.args.s c.args.call.now set.Len (view c.args.pass.now) (view c.look_len.new.pass) c.look_len.result c.in-Len.is (glance_looked c.args.s (call.Set c.args.s set.Len) (view c.args.pass.now) (view c.look_len.new.pass) c.look_len.result c.args.pass.now.possible (λ a b part s. s) c.look_len.ensures.looked)

pub returns-in-Items-clause-looked : goal.returns-in-Items-clause-looked
returns-in-Items-clause-looked c =
    set_looked c.args.s c.args.call.now set.Items (view c.args.pass.now) (view c.look_items.new.pass) c.look_items.result c.in-Items.is (copy_looked (shape_of c.args.bank.now) c.args.s (IsOfSet (shape_of c.args.bank.now) (λ set. 0 < length set.elements)) (call.Set c.args.s set.Items) (view c.args.pass.now) (view c.look_items.new.pass) c.look_items.result c.args.pass.now.possible refl (λ a b part s. s) c.look_items.ensures.looked)

pub returns-in-Eq-clause-looked : goal.returns-in-Eq-clause-looked
returns-in-Eq-clause-looked c =
    set_looked c.args.s c.args.call.now (set.Eq c.in-Eq.other) (view c.args.pass.now) (view c.look_eq.new.pass) c.look_eq.result c.in-Eq.is (both_looked c.args.s c.in-Eq.other (call.Set c.args.s (set.Eq c.in-Eq.other)) (view c.args.pass.now) (view c.look_eq.new.pass) c.look_eq.result c.args.pass.now.possible (λ a b part s. s) c.look_eq.ensures.looked)
