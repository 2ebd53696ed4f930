use Rattle.std.proofs.Common.{◌≡◌, ◌+◌, length}
use Rattle.std.specs.Vec.Iter.{into_iter_items, into_iter_len}
use Rattle.ft_bank.specs.NewPasses.{AreOpening}
use Rattle.ft_engine.specs.Callers.{AreFreshCallers}
use Rattle.ft_engine.proofs.engine.Engine.callers.Given as goal

abbrev pub invariant-loop-pass : goal.invariant-loop-pass
invariant-loop-pass l =
    AreFreshCallers l.self l.cursors 0 l.callers.items
    × AreOpening l.self.bank (length l.callers.items) (into_iter_items l.pass-iterator)
    × (length l.callers.items + length (into_iter_items l.pass-iterator) ≡ length (into_iter_items l.initial.pass-iterator))
    × (into_iter_len l.pass-iterator ≡ length (into_iter_items l.pass-iterator))
