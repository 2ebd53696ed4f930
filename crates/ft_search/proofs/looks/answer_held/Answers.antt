use Rattle.std.proofs.Common.{sym, subst}
use Rattle.ft_bank.specs.Reads.{IsShown}
use Rattle.ft_trace.specs.declared.View.{View}
use Rattle.ft_search.proofs.looks.answer_held.Goals as goal

pub answer-requires-clause-shown : goal.answer-requires-clause-shown
answer-requires-clause-shown c =
    let n = c.stamp-number.result in
    subst (λ (w : View). IsShown w c.args.call.now c.args.reply n) (sym c.stamp-number.ensures.did.1) (c.requires.shown n)
