use Rattle.ft_trace.proofs.KeptSections as proved
use Rattle.ft_trace.proofs.order.kept_sections_are_untouched.Goals as goal

pub returns : goal.returns
returns c = proved.kept_sections_are_untouched
