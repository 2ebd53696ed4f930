-- Entries with numbers, in an order in which each knows of all writes that there were before it, are a chronicle.
use Rattle.ft_history.proofs.NumberedChronicles.{chronicle_by_numbers}
use Rattle.ft_history.proofs.SortedStamps.{ranks_of_rising}
use Rattle.ft_turn_laws.specs.RisingEntries.{RisingEntriesAreChronicles}

pub rising_entries : RisingEntriesAreChronicles
rising_entries storage script calls entries is rising awaited = chronicle_by_numbers storage script calls entries is (ranks_of_rising entries rising) awaited
