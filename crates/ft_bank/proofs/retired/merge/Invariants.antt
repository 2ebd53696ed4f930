use Rattle.std.proofs.Common.{◌≡◌, ◌<◌, ◌≤◌, ℕ}
use Rattle.std.specs.Prelude.{bit_or, length, slice_index}
use Rattle.ft_bank.proofs.retired.merge.Given as goal

abbrev pub invariant-loop-place : goal.invariant-loop-place
invariant-loop-place l =
    record {
      long : length l.words ≡ 224;
      done : (n : ℕ) → n < l.place → slice_index l.words n ≡ bit_or (slice_index l.fn.words n) (slice_index l.others n);
      rest : (n : ℕ) → l.place ≤ n → slice_index l.words n ≡ slice_index l.fn.words n;
    }
