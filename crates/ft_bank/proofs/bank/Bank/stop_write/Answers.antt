use Rattle.std.proofs.Common.{◌<◌, ◌*◌, ◌^◌, sym, subst}
use Rattle.ft_trace.specs.declared.Shape.{Shape}
use Rattle.ft_trace.specs.Addresses.{container_count}
use Rattle.ft_bank.specs.Passes.{view}
use Rattle.ft_trace.specs.Pictures.{Represents}
use Rattle.ft_trace.specs.Holds.{held_unboxed, known_state}
use Rattle.ft_bank.proofs.Readying.{stop_ready}
use Rattle.ft_bank.proofs.bank.Bank.stop_write.Goals as goal

pub add_as-requires-clause-ready : goal.add_as-requires-clause-ready
add_as-requires-clause-ready c =
    let v = view c.args.pass.now in
    let few : v.shape.passes * v.shape.calls < 2 ^ 46 = subst (λ (z : Shape). z.passes * z.calls < 2 ^ 46) (sym c.requires.pass.1) c.args.self.now.few in
    let low : c.args.o < container_count v.shape = subst (λ (z : Shape). c.args.o < container_count z) (sym c.requires.pass.1) c.requires.container in
    let stands : Represents v.shape.texts (held_unboxed c.args.o v) (known_state c.args.o v) = subst (λ (z : Shape). Represents z.texts (held_unboxed c.args.o v) (known_state c.args.o v)) (sym c.requires.pass.1) c.requires.stands in
    stop_ready v _ c.args.o few low c.requires.odd c.requires.committed stands c.requires.shut
