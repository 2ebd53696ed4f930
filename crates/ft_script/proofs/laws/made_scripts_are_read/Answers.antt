use Rattle.ft_script.proofs.MadeScripts.{made_scripts}
use Rattle.ft_script.proofs.laws.made_scripts_are_read.Goals as goal

pub returns : goal.returns
returns c = made_scripts
