-- The order of a history is a total order.
use Rattle.std.specs.Cmp.{IsTotalOrder, IsStrictWeakOrder, bool_cmp_total}
use Rattle.std.specs.Ordering.{is_lt}
use Rattle.std.proofs.lemmas.Cmp.{nat_cmp_total, on_total, then_total}
use Rattle.std.proofs.lemmas.List.Sorted.{ranks_by}
use Rattle.ft_model.specs.declared.entry.Entry.{Entry}
use Rattle.ft_model.specs.Histories.{history_cmp}

pub history_total : IsTotalOrder history_cmp
history_total =
    then_total (on_total (λ (e : Entry). e.stamp) nat_cmp_total)
    (then_total (on_total (λ (e : Entry). e.wrote) bool_cmp_total)
    (then_total (on_total (λ (e : Entry). e.thread) nat_cmp_total) (on_total (λ (e : Entry). e.index) nat_cmp_total)))

pub history_ranks : IsStrictWeakOrder (λ (x y : Entry). is_lt (history_cmp x y))
history_ranks = ranks_by history_total (λ (e : Entry). e)
