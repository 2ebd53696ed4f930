use Rattle.std.proofs.Common.{◌≡◌, ◌<◌, ℕ, vec_len}
use Rattle.ft_model.specs.Histories.{has_call_on}
use Rattle.ft_history.specs.Internal.States.{is_used}
use Rattle.ft_history.proofs.users.users_of.Given as goal

abbrev pub invariant-loop-thread : goal.invariant-loop-thread
invariant-loop-thread l =
    record {
      all : vec_len l.users ≡ l.thread-index;
      so_far : (thread container : ℕ) → thread < l.thread-index → is_used l.users.items thread container ≡ has_call_on l.parts thread container;
    }
