use Rattle.std.proofs.Common.{ℕ, ◌*◌, ◌^◌, ◌<◌, sym, subst}
use Rattle.ft_trace.specs.declared.Shape.{Shape}
use Rattle.ft_trace.specs.declared.Act.TheVariants.{Retire}
use Rattle.ft_trace.specs.Addresses.{write_number, IsTableName}
use Rattle.ft_trace.specs.Traces.{Ready}
use Rattle.ft_trace.proofs.Addresses.{at_low}
use Rattle.ft_bank.specs.Passes.{view, shape_of}
use Rattle.ft_bank.specs.TableNames.{table_id}
use Rattle.ft_bank.proofs.ReuseSteps.{retire_ready, retire_boxes}
use Rattle.ft_bank.proofs.TableAddresses.{named}
use Rattle.ft_bank.specs.SameBoxes.{SameBoxes}
use Rattle.ft_bank.proofs.bank.Bank.retire.Goals as goal

pub add_as-requires-clause-word : goal.add_as-requires-clause-word
add_as-requires-clause-word c = at_low (shape_of c.args.self.now) write_number tt

pub add_as-requires-clause-ready : goal.add_as-requires-clause-ready
add_as-requires-clause-ready c =
    let v = view c.args.pass.now in
    let t = table_id c.args.table in
    let few : v.shape.passes * v.shape.calls < 2 ^ 46 = subst (λ (z : Shape). z.passes * z.calls < 2 ^ 46) (sym c.requires.pass.1) c.args.self.now.few in
    let table : IsTableName v.shape t = subst (λ (z : Shape). IsTableName z t) (sym c.requires.pass.1) (named (shape_of c.args.self.now) c.args.table c.requires.table) in
    subst (λ (z : ℕ). Ready v 1 (λ n. Retire z n)) (sym c.name-name.ensures) (retire_ready v 1 t few table c.requires.out c.requires.debt)

pub returns-clause-boxes : goal.returns-clause-boxes
returns-clause-boxes c =
    let v = view c.args.pass.now in
    subst (SameBoxes v) (sym c.add_as.ensures.did.1) (retire_boxes v _ _ c.add_as.ensures.acted)
