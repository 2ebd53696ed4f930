use Rattle.ft_bank_history.proofs.NumberedEntries as proved
use Rattle.ft_bank_history.proofs.numbering.entries_are_numbered.Goals as goal

pub returns : goal.returns
returns c = proved.entries_are_numbered
