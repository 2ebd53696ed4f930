use Rattle.std.proofs.Common.{◌≡◌, ℕ, ◌<◌, false}
use Rattle.ft_runner.specs.Internal.Filling.{is_open_at}
use Rattle.ft_runner.proofs.separator.is_open.Given as goal

abbrev pub invariant-loop-place : goal.invariant-loop-place
invariant-loop-place l = (earlier : ℕ) → earlier < l.place → is_open_at l.bytes earlier ≡ false
