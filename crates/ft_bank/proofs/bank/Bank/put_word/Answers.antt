use Rattle.std.proofs.Common.{◌≡◌, ℕ, ◌+◌, ◌<◌, refl, sym, ap, ◌∙◌, subst}
use Rattle.ft_trace.specs.declared.Shape.{Shape}
use Rattle.ft_trace.specs.declared.View.{View}
use Rattle.ft_trace.specs.declared.Act.TheVariants.{PutTable}
use Rattle.ft_trace.specs.Addresses.{container_count, IsTableName, class_of}
use Rattle.ft_trace.specs.Acts.{view_after}
use Rattle.ft_trace.specs.Holds.{held_words, held_unboxed}
use Rattle.ft_trace.specs.Traces.{Ready}
use Rattle.ft_bank.specs.Passes.{view, shape_of}
use Rattle.ft_bank.specs.Rules.{Acted}
use Rattle.ft_bank.specs.TableNames.{table_id}
use Rattle.ft_bank.specs.WriteSteps.{KeepsUnwritten, with_table}
use Rattle.ft_bank.proofs.KnownAfterSteps.{keeps_unwritten}
use Rattle.ft_bank.proofs.WordsPut.{table_put, table_unboxed, table_moves, word_same}
use Rattle.ft_bank.proofs.Readying.{put_ready}
use Rattle.ft_bank.proofs.TableAddresses.{named}
use Rattle.ft_bank.specs.SameBoxes.{MovesReferences, SameReferences}
use Rattle.ft_trace.specs.ContainerStates.{kind_in}
use Rattle.ft_trace.specs.WholeWrites.{IsNoValue}
use Rattle.ft_bank.proofs.bank.Bank.put_word.Goals as goal

pub returns-clause-keeps : goal.returns-clause-keeps
returns-clause-keeps c =
    let v = view c.args.pass.now in
    subst (KeepsUnwritten v) (sym c.store_as.ensures.did.1) (keeps_unwritten v (PutTable c.args.o c.name.result c.args.word c.args.value) (λ p b. refl) c.store_as.ensures.acted)

pub store_as-requires-clause-ready : goal.store_as-requires-clause-ready
store_as-requires-clause-ready c =
    let v = view c.args.pass.now in
    let low : c.args.o < container_count v.shape = subst (λ (z : Shape). c.args.o < container_count z) (sym c.requires.pass.1) c.requires.container in
    let table : IsTableName v.shape (table_id c.args.t) = subst (λ (z : Shape). IsTableName z (table_id c.args.t)) (sym c.requires.pass.1) (named (shape_of c.args.self.now) c.args.t c.requires.table) in
    subst (λ (z : ℕ). Ready v (c.args.start + c.args.word) (λ n. PutTable c.args.o z c.args.word c.args.value)) (sym c.name.ensures) (put_ready v (c.args.start + c.args.word) c.args.o (table_id c.args.t) c.args.word c.args.value low table c.requires.word c.requires.odd c.requires.root c.requires.care)

pub returns-clause-held : goal.returns-clause-held
returns-clause-held c =
    let v = view c.args.pass.now in
    let low : c.args.o < container_count v.shape = subst (λ (z : Shape). c.args.o < container_count z) (sym c.requires.pass.1) c.requires.container in
    let table : IsTableName v.shape (table_id c.args.t) = subst (λ (z : Shape). IsTableName z (table_id c.args.t)) (sym c.requires.pass.1) (named (shape_of c.args.self.now) c.args.t c.requires.table) in
    let acted = subst (λ (z : ℕ). Acted v (PutTable c.args.o z c.args.word c.args.value)) c.name.ensures c.store_as.ensures.acted in
    let is = c.store_as.ensures.did.1 ∙ ap (λ (z : ℕ). view_after (PutTable c.args.o z c.args.word c.args.value) v) c.name.ensures in
    subst (λ (w : View). held_words c.args.o w ≡ with_table (held_words c.args.o v) c.args.word c.args.value) (sym is) (table_put v c.args.o (table_id c.args.t) c.args.word c.args.value low table c.requires.word c.requires.odd c.requires.root acted)

pub returns-clause-unboxed : goal.returns-clause-unboxed
returns-clause-unboxed c far =
    let v = view c.args.pass.now in
    let o = c.args.o in
    let t = table_id c.args.t in
    let low : o < container_count v.shape = subst (λ (z : Shape). o < container_count z) (sym c.requires.pass.1) c.requires.container in
    let table : IsTableName v.shape t = subst (λ (z : Shape). IsTableName z t) (sym c.requires.pass.1) (named (shape_of c.args.self.now) c.args.t c.requires.table) in
    let acted = subst (λ (z : ℕ). Acted v (PutTable o z c.args.word c.args.value)) c.name.ensures c.store_as.ensures.acted in
    let is = c.store_as.ensures.did.1 ∙ ap (λ (z : ℕ). view_after (PutTable o z c.args.word c.args.value) v) c.name.ensures in
    let apart : IsNoValue (kind_in v.shape.starts o) (class_of t) c.args.word = subst (λ (z : Shape). IsNoValue (kind_in z.starts o) (class_of t) c.args.word) (sym c.requires.pass.1) far in
    subst (λ (w : View). held_unboxed o w ≡ with_table (held_unboxed o v) c.args.word c.args.value) (sym is) (table_unboxed v o t c.args.word c.args.value low table c.requires.word c.requires.odd c.requires.root apart acted)

pub returns-clause-moves : goal.returns-clause-moves
returns-clause-moves c =
    let v = view c.args.pass.now in
    let o = c.args.o in
    let t = table_id c.args.t in
    let low : o < container_count v.shape = subst (λ (z : Shape). o < container_count z) (sym c.requires.pass.1) c.requires.container in
    let table : IsTableName v.shape t = subst (λ (z : Shape). IsTableName z t) (sym c.requires.pass.1) (named (shape_of c.args.self.now) c.args.t c.requires.table) in
    let acted = subst (λ (z : ℕ). Acted v (PutTable o z c.args.word c.args.value)) c.name.ensures c.store_as.ensures.acted in
    let is = c.store_as.ensures.did.1 ∙ ap (λ (z : ℕ). view_after (PutTable o z c.args.word c.args.value) v) c.name.ensures in
    subst (MovesReferences o v) (sym is) (table_moves v o t c.args.word c.args.value acted.2.1.3.7)

pub returns-clause-same : goal.returns-clause-same
returns-clause-same c far =
    let v = view c.args.pass.now in
    let o = c.args.o in
    let t = table_id c.args.t in
    let low : o < container_count v.shape = subst (λ (z : Shape). o < container_count z) (sym c.requires.pass.1) c.requires.container in
    let table : IsTableName v.shape t = subst (λ (z : Shape). IsTableName z t) (sym c.requires.pass.1) (named (shape_of c.args.self.now) c.args.t c.requires.table) in
    let acted = subst (λ (z : ℕ). Acted v (PutTable o z c.args.word c.args.value)) c.name.ensures c.store_as.ensures.acted in
    let is = c.store_as.ensures.did.1 ∙ ap (λ (z : ℕ). view_after (PutTable o z c.args.word c.args.value) v) c.name.ensures in
    let apart : IsNoValue (kind_in v.shape.starts o) (class_of t) c.args.word = subst (λ (z : Shape). IsNoValue (kind_in z.starts o) (class_of t) c.args.word) (sym c.requires.pass.1) far in
    subst (SameReferences v) (sym is) (word_same v o t c.args.word c.args.value low table c.requires.word c.requires.odd c.requires.root apart acted)
