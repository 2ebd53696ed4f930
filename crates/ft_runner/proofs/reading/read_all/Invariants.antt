use Rattle.std.proofs.Common.{◌≡◌, false, ◌≤◌, length}
use Rattle.ft_runner.specs.Transfers.{GivesBytes}
use Rattle.ft_runner.proofs.reading.read_all.Given as goal

abbrev pub invariant-loop : goal.invariant-loop
invariant-loop g l =
    let source = g.S.Source in
    record {
      gives : GivesBytes (source.stream l.fn.source) l.bytes.items false (source.stream l.source);
      few : length l.bytes.items ≤ 4194304;
      turns : l.counter ≤ length l.bytes.items;
      buffer : length l.buffer.items ≡ 65536;
    }
