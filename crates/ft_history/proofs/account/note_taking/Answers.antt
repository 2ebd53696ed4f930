use Rattle.std.proofs.Common.{sym, ap, subst, ◌∙◌}
use Rattle.ft_model.specs.declared.call.Call.{Call}
use Rattle.ft_history.specs.Internal.Accounts.{CountsCall, size_at}
use Rattle.ft_history.proofs.AccountLemmas.{counts_of_dict}
use Rattle.ft_history.proofs.account.note_taking.Goals as goal

pub returns-in-Dict : goal.returns-in-Dict
returns-in-Dict c = λ old size. subst (λ (called : Call). CountsCall old c.args.world.now called c.args.account.now c.note_dict.new.account) (sym c.in-Dict.is)
    (counts_of_dict old c.args.world.now _ _ c.args.account.now c.note_dict.new.account (c.note_dict.ensures old (size ∙ ap (size_at old) c.in-Dict.is)))

pub returns-in-Deque : goal.returns-in-Deque
returns-in-Deque c = λ old size. subst (λ (called : Call). CountsCall old c.args.world.now called c.args.account.now c.note_deque.new.account) (sym c.in-Deque.is) (c.note_deque.ensures old)

pub returns-in-List : goal.returns-in-List
returns-in-List c = λ old size. subst (λ (called : Call). CountsCall old c.args.world.now called c.args.account.now c.note_list.new.account) (sym c.in-List.is) (c.note_list.ensures old)
