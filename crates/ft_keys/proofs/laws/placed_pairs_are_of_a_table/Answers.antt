use Rattle.std.proofs.Common.{Some, refl}
use Rattle.ft_layout.specs.Words.{entry_words}
use Rattle.ft_keys.specs.Accesses.{after}
use Rattle.ft_keys.specs.TableChanges.{place_puts}
use Rattle.ft_keys.proofs.OneMoreEntry.{adds}
use Rattle.ft_keys.proofs.laws.placed_pairs_are_of_a_table.Goals as goal

pub returns : goal.returns
returns c way mask fill slot pair words is small fits low free =
    adds way mask fill pair words (after mask (place_puts slot fill (entry_words pair)) words) is small fits low (Some slot, free, refl)
