-- Where a key is in a dict or a set whose lock the pass has.
use Rattle.std.specs.Prelude.{◌≡◌, ℕ, ◌≤◌, ◌∷◌, Option, Some, None}
use Rattle.ft_model.specs.declared.data.Key.{Key}
use Rattle.ft_layout.specs.Containers.{class_mask}
use Rattle.ft_layout.specs.Tables.{hash_of}
use Rattle.ft_keys.specs.declared.search.Found.{Found}
use Rattle.ft_keys.specs.declared.search.Found.TheVariants as found
use Rattle.ft_keys.specs.declared.walk.Way.{Way}
use Rattle.ft_keys.specs.TableChanges.{FirstFree}
use Rattle.ft_keys.specs.Ways.{walk_slots}
use Rattle.ft_trace.specs.declared.Shape.{Shape}
use Rattle.ft_trace.specs.declared.View.{View}
use Rattle.ft_trace.specs.Addresses.{class_of, slots}
use Rattle.ft_trace.specs.Holds.{held_unboxed, known_state}
use Rattle.ft_trace.specs.Pictures.{root_in, entry_field}
use Rattle.ft_bank.specs.declared.table.Table.{Table}
use Rattle.ft_bank.specs.TableNames.{table_id}
use Rattle.ft_search.specs.declared.spots.Spot.{Spot}
use Rattle.ft_search.specs.declared.spots.Spot.TheVariants as spot
use Rattle.ft_search.specs.Held.{IsHeldAt}
use Rattle.ft_search.specs.OneEntryWrites.{HasTable, IsLiveEntry}

-- what the end of a search and the words that were read there come to; no search under the lock ends otherwise
abbrev pub spot_in : Table → Found → Option (ℕ × ℕ) → Spot
spot_in table (found.At slot place) (Some read) = spot.At table place read.0 read.1
spot_in table (found.Free slot) read = spot.Free table slot
spot_in table found read = spot.Bare

-- The key is there, in the entry at this place of the table that the root names, with these words of its value; or it
-- isn't, and this slot is the first for it in that table that was never used; or it isn't, and there is no table.
abbrev pub IsSpot : Shape → ℕ → Way → Key → View → Spot → Type 0
IsSpot k o way key v (spot.At table place kind payload) =
    HasTable k o table v × IsLiveEntry k o table place key v
    × IsHeldAt (known_state o v).content key (Some (kind, payload))
    × (kind ≡ entry_field (slots (class_of (table_id table))) (held_unboxed o v).table place 4)
    × (payload ≡ entry_field (slots (class_of (table_id table))) (held_unboxed o v).table place 5)
IsSpot k o way key v (spot.Free table slot) =
    HasTable k o table v × (slot ≤ class_mask table.class)
    × FirstFree (0 ∷ 0 ∷ (held_unboxed o v).table)
    (walk_slots way (hash_of k.texts key) (class_mask table.class)) (Some slot)
    × IsHeldAt (known_state o v).content key None
IsSpot k o way key v spot.Bare = (root_in (held_unboxed o v) ≡ 0) × IsHeldAt (known_state o v).content key None
