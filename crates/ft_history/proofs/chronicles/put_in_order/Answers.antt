use Rattle.std.proofs.Common.{ap}
use Rattle.std.specs.Ordering.{is_lt}
use Rattle.std.proofs.lemmas.List.Sorted.{answers_always}
use Rattle.ft_history.proofs.HistoryOrder.{history_ranks}
use Rattle.ft_history.proofs.SortedChronicles.{legal_when_sorted}
use Rattle.ft_history.proofs.chronicles.put_in_order.Goals as goal

pub returns-clause-order : goal.returns-clause-order
returns-clause-order c = c.in_ok-sort_by.ensures.sorted _ history_ranks (answers_always _ _ _ (λ f a r f' k. ap is_lt k.met))

pub returns-clause-ties : goal.returns-clause-ties
returns-clause-ties c = c.in_ok-sort_by.ensures.stable _ history_ranks (answers_always _ _ _ (λ f a r f' k. ap is_lt k.met))

pub returns-clause-legal : goal.returns-clause-legal
returns-clause-legal c = λ storage script rule is. legal_when_sorted storage script c.args.entries.items c.sort_by.new.self.items rule is c.in_ok-sort_by.ensures.permutation (returns-clause-order c)
