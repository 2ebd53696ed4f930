use Rattle.std.proofs.Common.{◌<◌, ◌*◌, ◌^◌, sym, subst}
use Rattle.ft_trace.specs.declared.Shape.{Shape}
use Rattle.ft_trace.specs.Addresses.{container_count}
use Rattle.ft_bank.specs.Passes.{view}
use Rattle.ft_bank.proofs.Readying.{start_ready}
use Rattle.ft_bank.proofs.bank.Bank.start_write.Goals as goal

pub add_as-requires-clause-ready : goal.add_as-requires-clause-ready
add_as-requires-clause-ready c =
    let v = view c.args.pass.now in
    let few : v.shape.passes * v.shape.calls < 2 ^ 46 = subst (λ (z : Shape). z.passes * z.calls < 2 ^ 46) (sym c.requires.pass.1) c.args.self.now.few in
    let low : c.args.o < container_count v.shape = subst (λ (z : Shape). c.args.o < container_count z) (sym c.requires.pass.1) c.requires.container in
    start_ready v _ c.args.o few low c.requires.locked c.requires.even
