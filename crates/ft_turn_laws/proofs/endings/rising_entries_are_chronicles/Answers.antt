use Rattle.ft_turn_laws.proofs.RisingEntries as proved
use Rattle.ft_turn_laws.proofs.endings.rising_entries_are_chronicles.Goals as goal

pub returns : goal.returns
returns c = proved.rising_entries
