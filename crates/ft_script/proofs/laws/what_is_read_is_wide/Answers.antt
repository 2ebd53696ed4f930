use Rattle.ft_script.proofs.ReadScripts.{script_wide}
use Rattle.ft_script.proofs.laws.what_is_read_is_wide.Goals as goal

pub returns : goal.returns
returns c = script_wide
