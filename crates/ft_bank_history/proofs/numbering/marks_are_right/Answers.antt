use Rattle.ft_bank_history.proofs.RightMarks as proved
use Rattle.ft_bank_history.proofs.numbering.marks_are_right.Goals as goal

pub returns : goal.returns
returns c = proved.marks_are_right
