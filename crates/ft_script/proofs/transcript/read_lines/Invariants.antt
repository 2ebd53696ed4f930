use Rattle.std.proofs.Common.{ℕ, Vec, Global, map, length}
use Rattle.ft_script.specs.Internal.Outcomes.{draft_of}
use Rattle.ft_script.specs.Internal.Readers.{IsReaderOf}
use Rattle.ft_script.proofs.TranscriptReading.{AreRead}
use Rattle.ft_script.proofs.transcript.read_lines.Given as goal

abbrev pub invariant-loop-rest : goal.invariant-loop-rest
invariant-loop-rest l = record {
  read : AreRead l.script l.fn.bytes l.rest l.transcript.entries.items (map (λ (text : Vec ℕ Global). text.items) l.transcript.world.items) l.number;
  reader : IsReaderOf l.script (draft_of l.reader.draft) l.reader.cursors.items;
}

abbrev pub decreases-loop-rest : goal.decreases-loop-rest
decreases-loop-rest l = length l.rest
