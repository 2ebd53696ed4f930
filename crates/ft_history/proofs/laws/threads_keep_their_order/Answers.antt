use Rattle.std.proofs.Common.{ap, sym, ◌∙◌, length}
use Rattle.std.specs.List.{range_with_len}
use Rattle.std.proofs.lemmas.List.{length-map}
use Rattle.ft_model.specs.declared.entry.Entry.{Entry}
use Rattle.ft_model.specs.Histories.{entries_of}
use Rattle.ft_history.proofs.laws.threads_keep_their_order.Goals as goal

pub returns-clause-indexes : goal.returns-clause-indexes
returns-clause-indexes c = λ storage script entries thread legal.
    legal.chronicle.whole.indexes thread
    ∙ ap (range_with_len 1) (sym (length-map (entries_of thread entries) (λ (e : Entry). e.call)) ∙ ap length (legal.chronicle.whole.calls thread))
