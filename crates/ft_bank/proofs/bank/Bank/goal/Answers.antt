use Rattle.std.proofs.Common.{ℕ, ◌-◌, sym, subst}
use Rattle.ft_trace.specs.declared.Shape.{Shape}
use Rattle.ft_trace.specs.declared.Act.TheVariants.{ReadHeader}
use Rattle.ft_trace.specs.Addresses.{IsTableName}
use Rattle.ft_trace.specs.Traces.{Ready}
use Rattle.ft_bank.specs.Passes.{view, shape_of}
use Rattle.ft_bank.specs.Rules.{Acted}
use Rattle.ft_bank.specs.TableNames.{table_id}
use Rattle.ft_bank.proofs.ReuseSteps.{header_ready, header_found, header_keeps}
use Rattle.ft_bank.proofs.TableAddresses.{named}
use Rattle.ft_bank.specs.Takings.{KeepsBut, Each}
use Rattle.ft_bank.proofs.bank.Bank.goal.Goals as goal

pub load_as-requires-clause-ready : goal.load_as-requires-clause-ready
load_as-requires-clause-ready c =
    let v = view c.args.pass.now in
    let t = table_id c.args.table in
    let table : IsTableName v.shape t = subst (λ (z : Shape). IsTableName z t) (sym c.requires.pass.1) (named (shape_of c.args.self.now) c.args.table c.requires.table) in
    subst (λ (z : ℕ). Ready v (c.cell_of-word.result - 1) (λ n. ReadHeader z n)) (sym c.name.ensures) (header_ready v (c.cell_of-word.result - 1) t table)

pub returns-clause-is : goal.returns-clause-is
returns-clause-is c =
    let v = view c.args.pass.now in
    let t = table_id c.args.table in
    let table : IsTableName v.shape t = subst (λ (z : Shape). IsTableName z t) (sym c.requires.pass.1) (named (shape_of c.args.self.now) c.args.table c.requires.table) in
    (header_found v t c.load_as.result table c.requires.kept (subst (λ (z : ℕ). Acted v (ReadHeader z c.load_as.result)) c.name.ensures c.load_as.ensures.acted)).1

pub returns-clause-stage : goal.returns-clause-stage
returns-clause-stage c =
    let v = view c.args.pass.now in
    let t = table_id c.args.table in
    let table : IsTableName v.shape t = subst (λ (z : Shape). IsTableName z t) (sym c.requires.pass.1) (named (shape_of c.args.self.now) c.args.table c.requires.table) in
    (header_found v t c.load_as.result table c.requires.kept (subst (λ (z : ℕ). Acted v (ReadHeader z c.load_as.result)) c.name.ensures c.load_as.ensures.acted)).0

pub returns-clause-keeps : goal.returns-clause-keeps
returns-clause-keeps c =
    let v = view c.args.pass.now in
    subst (KeepsBut Each v) (sym c.load_as.ensures.did.1) (header_keeps v _ c.load_as.result c.load_as.ensures.acted)
