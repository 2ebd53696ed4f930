use Rattle.ft_script.proofs.PrintedScripts.{text_read}
use Rattle.ft_script.proofs.laws.scripts_have_texts.Goals as goal

pub returns : goal.returns
returns c = text_read
