-- The last pair of a dict, and the entry that has it.
use Rattle.std.specs.Prelude.{◌≡◌, ℕ, suc, ◌+◌, ◌-◌, ◌<◌, length, Option, Some, None, slice_get, slice_index_or}
use Rattle.ft_layout.specs.Containers.{AreDictEntries}
use Rattle.ft_layout.specs.Tables.{UsedEntry}
use Rattle.ft_layout.specs.Words.{FitsKey}
use Rattle.ft_model.specs.Answers.{without_last}
use Rattle.ft_model.specs.Contents.{DictContent, IsDict, dict_del}
use Rattle.ft_trace.specs.declared.Shape.{Shape}
use Rattle.ft_trace.specs.Addresses.{class_of, places, slots}
use Rattle.ft_trace.specs.Carefuls.{HasLiveKey}
use Rattle.ft_trace.specs.Pictures.{ContainerWords, root_in}
use Rattle.ft_bank.specs.declared.table.Table.{Table}
use Rattle.ft_bank.specs.TableNames.{table_id, IsTableIn}
use Rattle.ft_whole_tables.specs.ShownContents.{IsOfDict}
use Rattle.ft_whole_tables.specs.TableEntries.{OfUsed, plain_pair}
use Rattle.ft_whole_tables.specs.Places.{NoneThere}
use Rattle.ft_dict.specs.declared.lasts.Last.{Last}

-- where the root names the table, the entry at the place is there with the key
pub record IsLastEntry (k : Shape) (last : Last) (x : ContainerWords) : Type 0 where
  pub table_in : IsTableIn k last.table
  pub low : last.place < places (class_of (table_id last.table))
  pub live :
      root_in x ≡ suc (table_id last.table)
      → HasLiveKey (slots (class_of (table_id last.table))) x.table last.place last.key
  pub fits : FitsKey last.key

-- of as many used entries of the table this is the last one that is there, with its key and value; or a dict has no
-- pair
abbrev pub IsLastIn : Shape → Table → ℕ → Option Last → ContainerWords → Type 0
IsLastIn k table fill (Some last) x =
    (last.table ≡ table) × IsLastEntry k last x
    × OfUsed k (table_id table) (λ used. fill ≡ length used
    → (last.place < fill) × NoneThere (last.place + 1) fill used
    × ((any : UsedEntry) → plain_pair (slice_index_or used last.place any) ≡ Some (last.key, last.value))) x
IsLastIn k table fill None x =
    OfUsed k (table_id table) (λ used. fill ≡ length used → (dict : DictContent) → AreDictEntries used dict
    → IsDict dict.next dict.pairs → length dict.pairs ≡ 0) x

-- the dict's last pair is this, in an entry of the table that its root names; without it is left what `popitem` leaves
-- (Python manual, Mapping Types); or there is no pair
abbrev pub IsLastPair : Shape → Option Last → ContainerWords → DictContent → Type 0
IsLastPair k (Some last) x dict =
    (root_in x ≡ suc (table_id last.table)) × IsLastEntry k last x
    × ((serial : ℕ) × (slice_get dict.pairs (length dict.pairs - 1)
    ≡ Some (record { serial = serial; key = last.key; value = last.value })))
    × (dict_del dict last.key ≡ without_last dict)
IsLastPair k None x dict = length dict.pairs ≡ 0

abbrev pub IsLastOf : Shape → Option Last → ContainerWords → Type 0
IsLastOf k found x = IsOfDict k (IsLastPair k found x) x
