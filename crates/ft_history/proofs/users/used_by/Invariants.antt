use Rattle.std.proofs.Common.{◌≡◌, ℕ, false, take, vec_len}
use Rattle.std.specs.Prelude.{slice_index_or}
use Rattle.std.specs.List.{list_any}
use Rattle.ft_model.specs.Histories.{names}
use Rattle.ft_history.proofs.users.used_by.Given as goal

abbrev pub invariant-loop-call : goal.invariant-loop-call
invariant-loop-call l =
    record {
      all : vec_len l.used ≡ l.containers;
      so_far : (container : ℕ) → slice_index_or l.used.items container false ≡ list_any (names container) (take l.call-index l.calls);
    }
