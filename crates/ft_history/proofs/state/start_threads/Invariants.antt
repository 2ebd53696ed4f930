use Rattle.std.proofs.Common.{◌≡◌, ℕ, Some, vec_len}
use Rattle.std.specs.Prelude.{slice_get}
use Rattle.ft_model.specs.declared.script.Thread.{Thread}
use Rattle.ft_history.specs.declared.progress.ThreadProgress.{ThreadProgress}
use Rattle.ft_history.specs.Internal.States.{IsFreshProgress}
use Rattle.ft_history.proofs.state.start_threads.Given as goal

abbrev pub invariant-loop-thread : goal.invariant-loop-thread
invariant-loop-thread l =
    record {
      length : vec_len l.all ≡ l.thread-index;
      fresh : (thread : ℕ) (found : Thread) (progress : ThreadProgress) → slice_get l.threads thread ≡ Some found → slice_get l.all.items thread ≡ Some progress → IsFreshProgress found progress;
    }
