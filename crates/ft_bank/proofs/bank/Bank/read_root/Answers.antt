use Rattle.std.proofs.Common.{◌<◌, refl, sym, subst}
use Rattle.ft_trace.specs.declared.Shape.{Shape}
use Rattle.ft_trace.specs.Addresses.{container_count}
use Rattle.ft_bank.specs.Passes.{view}
use Rattle.ft_trace.specs.Addresses.{IsTableName}
use Rattle.ft_trace.proofs.Announcing.{fits}
use Rattle.ft_trace.proofs.Budgets.{number_low}
use Rattle.ft_bank.proofs.KnownAfterSteps.{root_found}
use Rattle.ft_bank.proofs.bank.Bank.read_root.Goals as goal

pub load_as-requires-clause-ready : goal.load_as-requires-clause-ready
load_as-requires-clause-ready c es id knows small =
    let v = view c.args.pass.now in
    let low : c.args.o < container_count v.shape = subst (λ (z : Shape). c.args.o < container_count z) (sym c.requires.pass.1) c.requires.container in
    (refl, (low, c.requires.online, number_low v.shape es (fits v.shape es knows.0).some_pass knows.0 id v knows.1))

pub returns-clause-table : goal.returns-clause-table
returns-clause-table c t e =
    let v = view c.args.pass.now in
    let low : c.args.o < container_count v.shape = subst (λ (z : Shape). c.args.o < container_count z) (sym c.requires.pass.1) c.requires.container in
    subst (λ (z : Shape). IsTableName z t) c.requires.pass.1 ((root_found v c.args.o c.load_as.result low c.load_as.ensures.acted).0 t e)

pub returns-clause-changed : goal.returns-clause-changed
returns-clause-changed c =
    let v = view c.args.pass.now in
    let low : c.args.o < container_count v.shape = subst (λ (z : Shape). c.args.o < container_count z) (sym c.requires.pass.1) c.requires.container in
    (root_found v c.args.o c.load_as.result low c.load_as.ensures.acted).1
