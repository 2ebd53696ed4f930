use Rattle.std.proofs.Common.{◌≡◌, ◌<◌, ℕ, suc, sym, ap, ◌∙◌, subst}
use Rattle.ft_trace.specs.declared.Shape.{Shape}
use Rattle.ft_trace.specs.Addresses.{block, container_count, IsTableName}
use Rattle.ft_trace.specs.Traces.{word}
use Rattle.ft_trace.proofs.TablePlaces.{root_table}
use Rattle.ft_bank.specs.Passes.{view}
use Rattle.ft_bank.proofs.KnownAfterSteps.{block_found}
use Rattle.ft_bank.proofs.bank.Bank.read_block.Goals as goal

pub returns-clause-held : goal.returns-clause-held
returns-clause-held c mine =
    let v = view c.args.pass.now in
    let low : c.args.o < container_count v.shape = subst (λ (z : Shape). c.args.o < container_count z) (sym c.requires.pass.1) c.requires.container in
    block_found v c.args.o c.args.word c.load_as.result low c.requires.word mine c.load_as.ensures.acted

pub returns-clause-table : goal.returns-clause-table
returns-clause-table c t first names =
    let v = view c.args.pass.now in
    let low : c.args.o < container_count v.shape = subst (λ (z : Shape). c.args.o < container_count z) (sym c.requires.pass.1) c.requires.container in
    let d = c.load_as.ensures.acted in
    let is : c.load_as.result ≡ word v.shape d.0 (block c.args.o c.args.word) = d.2.1.2 in
    let root : word v.shape d.0 (block c.args.o 0) ≡ suc t = ap (λ (i : ℕ). word v.shape d.0 (block c.args.o i)) (sym first) ∙ (sym is ∙ names) in
    subst (λ (z : Shape). IsTableName z t) c.requires.pass.1 (root_table v.shape d.0 d.2.0 c.args.o low t root)
