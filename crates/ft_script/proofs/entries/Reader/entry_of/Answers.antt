use Rattle.std.proofs.Common.{◌∙◌, sym, ap, subst}
use Rattle.std.specs.Prelude.{codes}
use Rattle.ft_script.specs.Internal.Readers.{AddsNothing}
use Rattle.ft_script.specs.Internal.Tokens.{before_word}
use Rattle.ft_script.proofs.LineCases.{numbered_low}
use Rattle.ft_script.proofs.TokenLists.{after_two}
use Rattle.ft_script.proofs.entries.Reader.entry_of.Goals as goal

pub thread_call-requires-clause-declared : goal.thread_call-requires-clause-declared
thread_call-requires-clause-declared c = numbered_low c.args.script.now _ (c.in_ok-thread.thread, c.in_ok-thread.index) (sym c.in_ok-thread.ensures)

pub returns-clause-kept : goal.returns-clause-kept
returns-clause-kept c = λ adds. c.in_ok-call.ensures.kept (subst (AddsNothing c.args.script.now c.in_ok-thread.thread) (ap (before_word (codes "=")) (after_two c.args.tokens.now) ∙ sym c.split_at_word.ensures.before) adds)
