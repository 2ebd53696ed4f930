use Rattle.ft_script.proofs.ReadScripts.{script_read}
use Rattle.ft_script.proofs.laws.what_is_read_is_a_script.Goals as goal

pub returns : goal.returns
returns c = script_read
