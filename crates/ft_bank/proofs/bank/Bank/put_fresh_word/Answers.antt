use Rattle.std.proofs.Common.{◌≡◌, ℕ, ◌+◌, refl, sym, ap, ◌∙◌, subst, ◌<◌}
use Rattle.std.specs.Prelude.{slice_set}
use Rattle.ft_trace.specs.declared.Shape.{Shape}
use Rattle.ft_trace.specs.declared.View.{View}
use Rattle.ft_trace.specs.declared.Act.TheVariants.{PutFresh}
use Rattle.ft_trace.specs.Addresses.{IsTableName, class_of, container_count}
use Rattle.ft_trace.specs.Acts.{view_after}
use Rattle.ft_trace.specs.Holds.{in_hand, hand_unboxed}
use Rattle.ft_trace.specs.Traces.{Ready}
use Rattle.ft_bank.specs.Passes.{view, shape_of}
use Rattle.ft_bank.specs.Rules.{Acted}
use Rattle.ft_bank.specs.TableNames.{table_id}
use Rattle.ft_bank.specs.WriteSteps.{KeepsUnwritten}
use Rattle.ft_bank.proofs.KnownAfterSteps.{keeps_unwritten}
use Rattle.ft_bank.proofs.WordsPut.{fresh_put, fresh_unboxed, fresh_moves}
use Rattle.ft_bank.proofs.Readying.{fresh_ready}
use Rattle.ft_bank.proofs.TableAddresses.{named}
use Rattle.ft_trace.specs.ContainerStates.{kind_in}
use Rattle.ft_trace.specs.WholeWrites.{IsNoValue}
use Rattle.ft_bank.specs.SameBoxes.{MovesReferences}
use Rattle.ft_bank.proofs.bank.Bank.put_fresh_word.Goals as goal

pub returns-clause-keeps : goal.returns-clause-keeps
returns-clause-keeps c =
    let v = view c.args.pass.now in
    subst (KeepsUnwritten v) (sym c.store_as.ensures.did.1) (keeps_unwritten v (PutFresh c.name.result c.args.word c.args.value) (λ p b. refl) c.store_as.ensures.acted)

pub store_as-requires-clause-ready : goal.store_as-requires-clause-ready
store_as-requires-clause-ready c =
    let v = view c.args.pass.now in
    let table : IsTableName v.shape (table_id c.args.t) = subst (λ (z : Shape). IsTableName z (table_id c.args.t)) (sym c.requires.pass.1) (named (shape_of c.args.self.now) c.args.t c.requires.table) in
    subst (λ (z : ℕ). Ready v (c.args.start + c.args.word) (λ n. PutFresh z c.args.word c.args.value)) (sym c.name.ensures) (fresh_ready v (c.args.start + c.args.word) (table_id c.args.t) c.args.word c.args.value table c.requires.word c.requires.fresh)

pub returns-clause-fresh : goal.returns-clause-fresh
returns-clause-fresh c =
    let v = view c.args.pass.now in
    let table : IsTableName v.shape (table_id c.args.t) = subst (λ (z : Shape). IsTableName z (table_id c.args.t)) (sym c.requires.pass.1) (named (shape_of c.args.self.now) c.args.t c.requires.table) in
    let acted = subst (λ (z : ℕ). Acted v (PutFresh z c.args.word c.args.value)) c.name.ensures c.store_as.ensures.acted in
    let is = c.store_as.ensures.did.1 ∙ ap (λ (z : ℕ). view_after (PutFresh z c.args.word c.args.value) v) c.name.ensures in
    subst (λ (w : View). in_hand (table_id c.args.t) w ≡ slice_set (in_hand (table_id c.args.t) v) c.args.word c.args.value) (sym is) (fresh_put v (table_id c.args.t) c.args.word c.args.value table c.requires.word c.requires.fresh acted)

pub returns-clause-unboxed : goal.returns-clause-unboxed
returns-clause-unboxed c o far =
    let v = view c.args.pass.now in
    let t = table_id c.args.t in
    let table : IsTableName v.shape t = subst (λ (z : Shape). IsTableName z t) (sym c.requires.pass.1) (named (shape_of c.args.self.now) c.args.t c.requires.table) in
    let acted = subst (λ (z : ℕ). Acted v (PutFresh z c.args.word c.args.value)) c.name.ensures c.store_as.ensures.acted in
    let is = c.store_as.ensures.did.1 ∙ ap (λ (z : ℕ). view_after (PutFresh z c.args.word c.args.value) v) c.name.ensures in
    let apart : IsNoValue (kind_in v.shape.starts o) (class_of t) c.args.word = subst (λ (z : Shape). IsNoValue (kind_in z.starts o) (class_of t) c.args.word) (sym c.requires.pass.1) far in
    subst (λ (w : View). hand_unboxed o t w ≡ slice_set (hand_unboxed o t v) c.args.word c.args.value) (sym is) (fresh_unboxed v o t c.args.word c.args.value table c.requires.word c.requires.fresh apart acted)

pub returns-clause-moves : goal.returns-clause-moves
returns-clause-moves c o low mine =
    let v = view c.args.pass.now in
    let less : o < container_count v.shape = subst (λ (z : Shape). o < container_count z) (sym c.requires.pass.1) low in
    subst (MovesReferences o v) (sym c.store_as.ensures.did.1) (fresh_moves v o c.name.result c.args.word c.args.value less mine c.store_as.ensures.acted)
