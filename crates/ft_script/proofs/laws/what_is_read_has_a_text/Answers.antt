use Rattle.ft_script.proofs.ReadScripts.{script_has_text}
use Rattle.ft_script.proofs.laws.what_is_read_has_a_text.Goals as goal

pub returns : goal.returns
returns c = script_has_text
