-- The first element of a set, and the entry that has it.
use Rattle.std.specs.Prelude.{◌≡◌, ℕ, suc, ◌<◌, length, Option, Some, None, slice_get, slice_index_or}
use Rattle.ft_layout.specs.Containers.{AreSetEntries}
use Rattle.ft_layout.specs.Tables.{UsedEntry}
use Rattle.ft_layout.specs.Words.{FitsKey}
use Rattle.ft_model.specs.Answers.{without_first}
use Rattle.ft_model.specs.Classes.{set_entries}
use Rattle.ft_model.specs.Contents.{SetContent, IsSet, set_discard}
use Rattle.ft_trace.specs.declared.Shape.{Shape}
use Rattle.ft_trace.specs.Addresses.{class_of, slots}
use Rattle.ft_trace.specs.Carefuls.{HasLiveKey}
use Rattle.ft_trace.specs.Pictures.{ContainerWords, root_in}
use Rattle.ft_bank.specs.declared.table.Table.{Table}
use Rattle.ft_bank.specs.TableNames.{table_id, IsTableIn}
use Rattle.ft_whole_tables.specs.ShownContents.{IsOfSet}
use Rattle.ft_whole_tables.specs.TableEntries.{OfUsed, live_key}
use Rattle.ft_whole_tables.specs.Places.{NoneThere}
use Rattle.ft_set.specs.declared.firsts.First.{First}

-- where the root names the table, the entry at the place is there with the element
pub record IsFirstEntry (k : Shape) (first : First) (x : ContainerWords) : Type 0 where
  pub table_in : IsTableIn k first.table
  pub live :
      root_in x ≡ suc (table_id first.table)
      → HasLiveKey (slots (class_of (table_id first.table))) x.table first.place first.key
  pub fits : FitsKey first.key

-- of as many used entries of the table this is the first one that is there, with its element; or a set has none
abbrev pub IsFirstIn : Shape → Table → ℕ → Option First → ContainerWords → Type 0
IsFirstIn k table fill (Some first) x =
    (first.table ≡ table) × IsFirstEntry k first x
    × OfUsed k (table_id table) (λ used. fill ≡ length used
    → (first.place < fill) × NoneThere 0 first.place used
    × ((any : UsedEntry) → live_key (slice_index_or used first.place any) ≡ Some first.key)) x
IsFirstIn k table fill None x =
    OfUsed k (table_id table) (λ used. fill ≡ length used → (set : SetContent) → AreSetEntries used set
    → IsSet set.next set.elements → length set.elements ≡ 0) x

-- the set's first element is this, in an entry of the table that its root names; without it is left what `pop` leaves
-- (Python manual, Set Types); or there is none
abbrev pub IsFirstElement : Shape → Option First → ContainerWords → SetContent → Type 0
IsFirstElement k (Some first) x set =
    (root_in x ≡ suc (table_id first.table)) × IsFirstEntry k first x
    × (first.place < set_entries (class_of (table_id first.table)))
    × ((serial : ℕ) × (slice_get set.elements 0 ≡ Some (record { serial = serial; key = first.key })))
    × (set_discard set first.key ≡ without_first set)
IsFirstElement k None x set = length set.elements ≡ 0

abbrev pub IsFirstOf : Shape → Option First → ContainerWords → Type 0
IsFirstOf k found x = IsOfSet k (IsFirstElement k found x) x
