use Rattle.std.proofs.Common.{◌≡◌, ◌<◌, ◌≤◌, ℕ, length, Some}
use Rattle.std.specs.Prelude.{slice_get}
use Rattle.ft_model.specs.declared.script.Thread.{Thread}
use Rattle.ft_history.specs.declared.progress.ThreadProgress.{ThreadProgress}
use Rattle.ft_history.proofs.judging.is_complete.Given as goal

abbrev pub invariant-loop-place : goal.invariant-loop-place
invariant-loop-place l = (thread : ℕ) (found : Thread) (progress : ThreadProgress) → thread < l.place → slice_get l.threads thread ≡ Some found → slice_get l.progresses thread ≡ Some progress → length found.calls ≤ progress.made
