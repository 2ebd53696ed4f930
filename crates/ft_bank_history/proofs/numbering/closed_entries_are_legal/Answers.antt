use Rattle.std.specs.List.{flat_map}
use Rattle.std.proofs.Math.Logic.{∥∥₁_elim, ∥∥₁_map, ∥∥₁_prop}
use Rattle.ft_model.specs.declared.entry.Storage.TheVariants as storage
use Rattle.ft_bank.specs.Closings.{found_in, had_in, lists_in, told_of}
use Rattle.ft_history.proofs.NumberedHistories.{history_by_numbers}
use Rattle.ft_history.proofs.ThreadLists.{numbered_of_lists}
use Rattle.ft_bank_history.proofs.numbering.closed_entries_are_legal.Goals as goal

pub returns : goal.returns
returns c script kept history is_script for_it are first asks count made same sorted =
    let closed = c.args.closed.now in
    ∥∥₁_elim c.awaits_are_told.ensures ∥∥₁_prop
    (λ told. ∥∥₁_map (c.closed_entries_are_numbered.ensures script kept for_it are asks count)
    (λ x.
    let done = c.marks_are_right.ensures script x.0 (lists_in closed) kept (had_in closed) (found_in closed) (told_of closed) are first c.owners_are_known.ensures told.0 told.1 asks x.1 made in
    (x.0, history_by_numbers storage.Tables script x.0 (flat_map (λ mine. mine) kept) history is_script (numbered_of_lists storage.Tables script x.0 kept x.1 done) same sorted)))
