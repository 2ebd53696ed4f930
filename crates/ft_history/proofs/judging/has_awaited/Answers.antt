use Rattle.std.proofs.Common.{ℕ, subst}
use Rattle.ft_history.specs.Internal.States.{NamesThread}
use Rattle.ft_history.proofs.LateRules.{awaited_iff}
use Rattle.ft_history.proofs.judging.has_awaited.Goals as goal

pub returns : goal.returns
returns c = λ entries place script is_state.
    awaited_iff script entries place c.args.entry.now c.args.state.now is_state c.is_awaited_right.result (subst (λ (n : ℕ). NamesThread n c.args.entry.now.call) c.args.state.now.threads.ok.0 c.requires) (rw c.deref.ensures.value at c.is_awaited_right.ensures)
