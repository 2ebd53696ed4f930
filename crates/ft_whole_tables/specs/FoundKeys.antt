-- What a search for a key shows of a dict or a set.
use Rattle.std.specs.Prelude.{◌≡◌, ◌≢◌, ℕ, suc, ◌<◌, List, ◌∷◌, length, Option, Some, None, is_some}
use Rattle.ft_layout.specs.declared.slot.Stored.TheVariants.{Plain}
use Rattle.ft_layout.specs.Containers.{class_mask}
use Rattle.ft_layout.specs.Tables.{hash_of}
use Rattle.ft_layout.specs.Words.{IsStored}
use Rattle.ft_keys.specs.declared.search.Found.{Found}
use Rattle.ft_keys.specs.declared.search.Found.TheVariants as found
use Rattle.ft_keys.specs.declared.walk.Way.{Way}
use Rattle.ft_keys.specs.Searches.{Searched}
use Rattle.ft_keys.specs.Ways.{walk_slots}
use Rattle.ft_model.specs.declared.content.Content.{Content}
use Rattle.ft_model.specs.declared.content.Content.TheVariants as content
use Rattle.ft_model.specs.declared.data.Key.{Key}
use Rattle.ft_model.specs.declared.data.Value.{Value}
use Rattle.ft_model.specs.Contents.{dict_get, has_element}
use Rattle.ft_model.specs.Worlds.{kind_of}
use Rattle.ft_trace.specs.declared.Shape.{Shape}
use Rattle.ft_trace.specs.Addresses.{class_of, size}
use Rattle.ft_trace.specs.Kinds.{rows}
use Rattle.ft_trace.specs.Pictures.{ContainerWords, Represents, root_in}
use Rattle.ft_trace.specs.ContainerStates.{ContainerState}
use Rattle.ft_bank.specs.declared.table.Table.{Table}
use Rattle.ft_bank.specs.TableNames.{table_id}
use Rattle.ft_search.specs.Held.{ReadsEntry}
use Rattle.ft_search.specs.Rounds.{kind_by}

-- where the root names the table, a search on the whole walk of this hash ended so in its words, as they read
abbrev pub SearchesTable : Table → Way → ℕ → Key → Found → ContainerWords → Type 0
SearchesTable table way hash key end x =
    root_in x ≡ suc (table_id table)
    → ((left : List ℕ) × Searched (class_mask table.class) (0 ∷ 0 ∷ x.table) key
    (walk_slots way hash (class_mask table.class)) left end)
    × ((slot place : ℕ) → end ≢ found.Was slot place)

-- where the root names the table, which has as many words as its class says, these are the words of the value of the
-- entry at which the search ended, if the table has it, as they read
abbrev pub IsValueFound : Table → Way → Found → Option (ℕ × ℕ) → ContainerWords → Type 0
IsValueFound table way end read x =
    root_in x ≡ suc (table_id table) → length x.table ≡ size (class_of (table_id table))
    → ((slot place : ℕ) → end ≡ found.At slot place → place < rows (kind_by way) (class_of (table_id table)))
    → ReadsEntry (class_mask table.class) (0 ∷ 0 ∷ x.table) end read

-- What is at the key: the words are those of the value, or there is none. Of a set, whether the element is there.
-- (Python manual, Mapping Types, Set Types)
abbrev pub IsAtKey : Content → Key → Option (ℕ × ℕ) → Type 0
IsAtKey (content.Dict dict) key None = dict_get dict.pairs key ≡ None
IsAtKey (content.Dict dict) key (Some read) =
    (value : Value) × (dict_get dict.pairs key ≡ Some value) × IsStored read.0 read.1 (Plain value)
IsAtKey (content.Set set) key read = has_element set.elements key ≡ is_some read
IsAtKey (content.List values) key read = ⊥
IsAtKey (content.Deque deque) key read = ⊥

-- where this is the key's hash, and these words stand for a dict or a set that is searched this way
abbrev pub IsFoundIn : Shape → Way → ℕ → Key → Option (ℕ × ℕ) → ContainerWords → Type 0
IsFoundIn k way hash key read x =
    hash ≡ hash_of k.texts key → (kept : ContainerState) → kind_of kept.content ≡ kind_by way
    → Represents k.texts x kept
    → IsAtKey kept.content key read
