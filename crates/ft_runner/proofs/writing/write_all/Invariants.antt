use Rattle.std.proofs.Common.{take}
use Rattle.std.specs.List.{flat_map}
use Rattle.ft_script.specs.Texts.{entry_line}
use Rattle.ft_runner.specs.Transfers.{IsBuffered}
use Rattle.ft_runner.proofs.writing.write_all.Given as goal

-- what was put, and then what the buffer has, are the lines so far
abbrev pub invariant-loop-entry : goal.invariant-loop-entry
invariant-loop-entry g l =
    let sink = g.K.Sink in
    IsBuffered (sink.stream l.fn.sink) (sink.stream l.sink) l.buffer.items (flat_map (entry_line l.script) (take l.entry-index l.entries))
