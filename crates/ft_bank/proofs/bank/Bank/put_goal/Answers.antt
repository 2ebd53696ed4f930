use Rattle.std.proofs.Common.{sym, subst}
use Rattle.ft_trace.specs.declared.Shape.{Shape}
use Rattle.ft_trace.specs.Addresses.{IsTableName}
use Rattle.ft_bank.specs.Passes.{view, shape_of}
use Rattle.ft_bank.specs.TableNames.{table_id}
use Rattle.ft_bank.proofs.ReuseSteps.{goal_ready, put_goal_keeps}
use Rattle.ft_bank.proofs.TableAddresses.{named}
use Rattle.ft_bank.specs.Takings.{KeepsBut, Each}
use Rattle.ft_bank.proofs.bank.Bank.put_goal.Goals as goal

pub goal_as-requires-clause-ready : goal.goal_as-requires-clause-ready
goal_as-requires-clause-ready c =
    let v = view c.args.pass.now in
    let t = table_id c.args.table in
    let table : IsTableName v.shape t = subst (λ (z : Shape). IsTableName z t) (sym c.requires.pass.1) (named (shape_of c.args.self.now) c.args.table c.requires.table) in
    goal_ready v _ t c.args.number table c.requires.retired c.requires.goal

pub returns-clause-keeps : goal.returns-clause-keeps
returns-clause-keeps c =
    let v = view c.args.pass.now in
    subst (KeepsBut Each v) (sym c.goal_as.ensures.did.1) (put_goal_keeps v _ _ c.goal_as.ensures.acted)
