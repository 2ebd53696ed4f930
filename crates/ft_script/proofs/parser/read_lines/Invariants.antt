use Rattle.std.proofs.Common.{◌≡◌, length}
use Rattle.ft_script.specs.Lines.{lines_of}
use Rattle.ft_script.specs.Drafts.{empty_draft}
use Rattle.ft_script.specs.Internal.Outcomes.{draft_of}
use Rattle.ft_script.specs.ReadScripts.{read_lines}
use Rattle.ft_script.proofs.Encoded.{AreEncoded}
use Rattle.ft_script.proofs.KeptDrafts.{IsDraft}
use Rattle.ft_script.proofs.parser.read_lines.Given as goal

abbrev pub invariant-loop-rest : goal.invariant-loop-rest
invariant-loop-rest l = record {
  read : read_lines l.number (draft_of l.draft) (lines_of l.rest) ≡ read_lines 1 empty_draft (lines_of l.fn.text);
  kept : IsDraft (draft_of l.draft);
  encoded : AreEncoded (lines_of l.rest);
}

abbrev pub decreases-loop-rest : goal.decreases-loop-rest
decreases-loop-rest l = length l.rest
