use Rattle.std.proofs.Common.{◌≡◌, ◌≤◌, ◌+◌, ◌-◌, ◌++◌, ℕ, List, false, length}
use Rattle.ft_runner.specs.Transfers.{GivesBytes}
use Rattle.ft_runner.proofs.reading.fill.Given as goal

-- what came stands after the bytes that were there
abbrev pub invariant-loop-source : goal.invariant-loop-source
invariant-loop-source g l =
    let source = g.S.Source in
    record {
      came : (more : List ℕ) × (l.bytes.items ≡ l.fn.bytes.items ++ more) × GivesBytes (source.stream l.fn.source) more false (source.stream l.source);
      few : length l.bytes.items ≤ l.most + 65536;
      buffer : length l.buffer ≡ 65536;
    }

abbrev pub decreases-loop-source : goal.decreases-loop-source
decreases-loop-source g l = l.most + 1 - length l.bytes.items
