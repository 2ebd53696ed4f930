use Rattle.std.proofs.Common.{ℕ, ◌+◌, ◌<◌, sym, subst, inl, inr}
use Rattle.ft_trace.specs.declared.Shape.{Shape}
use Rattle.ft_trace.specs.declared.Act.TheVariants.{ReadTable}
use Rattle.ft_trace.specs.Addresses.{container_count, IsTableName}
use Rattle.ft_trace.specs.Traces.{Ready}
use Rattle.ft_bank.specs.Passes.{view, shape_of}
use Rattle.ft_bank.specs.Rules.{Acted}
use Rattle.ft_bank.specs.TableNames.{table_id}
use Rattle.ft_bank.proofs.KnownAfterSteps.{table_found, hand_found}
use Rattle.ft_bank.proofs.Readying.{read_ready}
use Rattle.ft_bank.proofs.TableAddresses.{named}
use Rattle.ft_bank.proofs.bank.Bank.read_word.Goals as goal

pub load_as-requires-clause-ready : goal.load_as-requires-clause-ready
load_as-requires-clause-ready c =
    let v = view c.args.pass.now in
    let table : IsTableName v.shape (table_id c.args.t) = subst (λ (z : Shape). IsTableName z (table_id c.args.t)) (sym c.requires.pass.1) (named (shape_of c.args.self.now) c.args.t c.requires.table) in
    subst (λ (z : ℕ). Ready v (c.args.start + c.args.word) (λ n. ReadTable z c.args.word n)) (sym c.name.ensures) (read_ready v (c.args.start + c.args.word) (table_id c.args.t) c.args.word table c.requires.word)

pub returns-clause-held : goal.returns-clause-held
returns-clause-held c o small mine names =
    let v = view c.args.pass.now in
    let low : o < container_count v.shape = subst (λ (z : Shape). o < container_count z) (sym c.requires.pass.1) small in
    table_found v o (table_id c.args.t) c.args.word c.load_as.result low c.requires.word mine names (subst (λ (z : ℕ). Acted v (ReadTable z c.args.word c.load_as.result)) c.name.ensures c.load_as.ensures.acted)

pub returns-clause-fresh : goal.returns-clause-fresh
returns-clause-fresh c mine =
    let v = view c.args.pass.now in
    let table : IsTableName v.shape (table_id c.args.t) = subst (λ (z : Shape). IsTableName z (table_id c.args.t)) (sym c.requires.pass.1) (named (shape_of c.args.self.now) c.args.t c.requires.table) in
    hand_found v (table_id c.args.t) c.args.word c.load_as.result table c.requires.word (inl mine) (subst (λ (z : ℕ). Acted v (ReadTable z c.args.word c.load_as.result)) c.name.ensures c.load_as.ensures.acted)

pub returns-clause-taken : goal.returns-clause-taken
returns-clause-taken c mine =
    let v = view c.args.pass.now in
    let table : IsTableName v.shape (table_id c.args.t) = subst (λ (z : Shape). IsTableName z (table_id c.args.t)) (sym c.requires.pass.1) (named (shape_of c.args.self.now) c.args.t c.requires.table) in
    hand_found v (table_id c.args.t) c.args.word c.load_as.result table c.requires.word (inr mine) (subst (λ (z : ℕ). Acted v (ReadTable z c.args.word c.load_as.result)) c.name.ensures c.load_as.ensures.acted)
