use Rattle.std.proofs.Common.{List, ap, map, subst, sym}
use Rattle.std.specs.Global.{Vec}
use Rattle.std.specs.List.{flat_map}
use Rattle.std.specs.Ordering.{is_lt}
use Rattle.std.proofs.lemmas.List.Folds.{flat_map-map}
use Rattle.std.proofs.lemmas.List.Sorted.{answers_always}
use Rattle.ft_model.specs.declared.entry.Entry.{Entry}
use Rattle.ft_model.specs.Numbers.{AreNumbered}
use Rattle.ft_history.proofs.HistoryOrder.{history_ranks}
use Rattle.ft_history.proofs.NumberedHistories.{history_by_numbers}
use Rattle.ft_history.proofs.ThreadLists.{numbered_of_lists}
use Rattle.ft_history.proofs.merging.merge.Goals as goal

pub returns-clause-order : goal.returns-clause-order
returns-clause-order c = c.in_ok-sort_by.ensures.sorted _ history_ranks (answers_always _ _ _ (λ f a r f' k. ap is_lt k.met))

pub returns-clause-legal : goal.returns-clause-legal
returns-clause-legal c = λ storage script calls rule is done.
    let numbered : AreNumbered storage script calls (flat_map (λ (list : Vec Entry). list.items) c.args.lists.items) =
    subst (AreNumbered storage script calls) (flat_map-map (λ (mine : List Entry). mine) (λ (list : Vec Entry). list.items) c.args.lists.items)
    (numbered_of_lists storage script calls (map (λ (list : Vec Entry). list.items) c.args.lists.items) is done) in
    let moved = subst (λ (es : List Entry). AreNumbered storage script calls es) (sym c.in_ok-history.ensures) numbered in
    history_by_numbers storage script calls _ c.sort_by.new.self.items rule moved c.in_ok-sort_by.ensures.permutation (returns-clause-order c)
