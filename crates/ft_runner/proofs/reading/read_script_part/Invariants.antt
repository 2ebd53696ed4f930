use Rattle.std.proofs.Common.{◌≡◌, ◌-◌, length}
use Rattle.ft_runner.proofs.InputLemmas.{IsReading}
use Rattle.ft_runner.proofs.reading.read_script_part.Given as goal

-- a script's limit is passed, and a line may have begun within it
abbrev pub invariant-loop-source : goal.invariant-loop-source
invariant-loop-source g l =
    let source = g.S.Source in
    record {
      reading : IsReading (source.stream l.fn.source) l.bytes.items (source.stream l.source);
      buffer : length l.buffer ≡ 65536;
    }

abbrev pub decreases-loop-source : goal.decreases-loop-source
decreases-loop-source g l = 4194308 - length l.bytes.items
