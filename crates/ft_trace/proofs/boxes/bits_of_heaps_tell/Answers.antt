use Rattle.ft_trace.proofs.HeapPlaces as law
use Rattle.ft_trace.proofs.boxes.bits_of_heaps_tell.Goals as goal

pub returns : goal.returns
returns c = record { full = law.full_words; own = law.own_free_places_stay }
