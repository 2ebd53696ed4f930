use Rattle.ft_script.proofs.CallTexts.{call_back}
use Rattle.ft_script.proofs.EntryTexts.{declares}
use Rattle.ft_script.proofs.laws.calls_are_read_back.Goals as goal

pub returns : goal.returns
returns c script thread called rule low h landed wide may = call_back script thread (declares script thread rule low) called h landed wide may
