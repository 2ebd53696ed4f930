use Rattle.std.proofs.Common.{◌≡◌, ℕ, ◌<◌, false}
use Rattle.ft_runner.specs.Checking.{is_separator_at}
use Rattle.ft_runner.proofs.separator.separator_of.Given as goal

abbrev pub invariant-loop-place : goal.invariant-loop-place
invariant-loop-place l = (earlier : ℕ) → earlier < l.place → is_separator_at l.bytes earlier ≡ false
