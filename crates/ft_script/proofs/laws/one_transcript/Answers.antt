use Rattle.ft_script.proofs.TranscriptLaws.{one_of_two}
use Rattle.ft_script.proofs.laws.one_transcript.Goals as goal

pub returns : goal.returns
returns c = one_of_two
