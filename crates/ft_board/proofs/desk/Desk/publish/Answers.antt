use Rattle.std.proofs.Common.{ℕ, sym, subst}
use Rattle.std.specs.Prelude.{All}
use Rattle.ft_board.specs.Boards.{IsNoteFor}
use Rattle.ft_board.proofs.desk.Desk.publish.Goals as goal

pub invariant_of-self : goal.invariant_of-self
invariant_of-self g c =
    let bank = g.N.Naming.bank in
    let notes = c.args.notes.items in
    subst (λ (t : ℕ). All (IsNoteFor bank t c.self.inside.index) notes) (sym c.if-self-thread.true)
    (subst (λ (i : ℕ). All (IsNoteFor bank c.args.thread i) notes) (sym c.if-self-index.true) c.requires)
