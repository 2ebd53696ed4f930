use Rattle.std.proofs.Common.{sym, subst}
use Rattle.ft_trace.specs.declared.View.{View}
use Rattle.ft_bank.specs.Reads.{IsCursorShown}
use Rattle.ft_iter.proofs.cursors.answer_moved.Goals as goal

pub answer_cursor-requires-clause-shown : goal.answer_cursor-requires-clause-shown
answer_cursor-requires-clause-shown c =
    let n = c.stamp-stamp.result in
    subst (λ (w : View). IsCursorShown w c.args.call.now c.args.reply n c.args.number c.args.cursor.now) (sym c.stamp-stamp.ensures.did.1) (c.requires.shown n)
