use Rattle.ft_script.proofs.TranscriptLaws.{not_bad}
use Rattle.ft_script.proofs.laws.no_transcript_is_bad.Goals as goal

pub returns : goal.returns
returns c = not_bad
