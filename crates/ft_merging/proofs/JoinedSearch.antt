-- What a search finds in the table of a container that is written.
use Rattle.std.proofs.Common.{◌≡◌, ◌≢◌, ℕ, suc, ◌^◌, ◌<◌, true, List, ◌∷◌, Option, Some, None, refl, ap, ◌∙◌}
use Rattle.ft_model.specs.declared.content.Content.{Content}
use Rattle.ft_model.specs.declared.content.Content.TheVariants as content
use Rattle.ft_model.specs.declared.data.Key.{Key}
use Rattle.ft_model.specs.Worlds.{kind_of}
use Rattle.ft_layout.specs.Containers.{class_mask}
use Rattle.ft_layout.specs.Tables.{hash_of}
use Rattle.ft_layout.specs.Words.{FitsKey}
use Rattle.ft_keys.specs.Searches.{IsWithin, Searched}
use Rattle.ft_keys.specs.Ways.{walk_slots}
use Rattle.ft_keys.specs.declared.search.Found.{Found}
use Rattle.ft_keys.specs.declared.search.Found.TheVariants.{At, Free, Spent, Was}
use Rattle.ft_keys.specs.declared.walk.Way.{Way}
use Rattle.ft_keys.specs.declared.walk.Way.TheVariants as way
use Rattle.ft_trace.specs.declared.Shape.{Shape}
use Rattle.ft_trace.specs.Pictures.{ContainerWords, root_in, Represents}
use Rattle.ft_trace.specs.ContainerStates.{ContainerState}
use Rattle.ft_trace.proofs.DictWrites as dict
use Rattle.ft_trace.proofs.SetKnown as set
use Rattle.ft_trace.proofs.Known.{class_known}
use Rattle.ft_bank.specs.declared.table.Table.{Table}
use Rattle.ft_bank.specs.TableNames.{table_id, IsTableIn}
use Rattle.ft_bank.proofs.TableAddresses.{class_is}
use Rattle.ft_search.specs.Held.{IsHeldAt, ReadsEntry}
use Rattle.ft_search.specs.Rounds.{kind_by}
use Rattle.ft_search.specs.Spots.{spot_in}
use Rattle.ft_search.proofs.FoundInContents.{IsOfWay, MissingElements, MissingKeys, key_held}
use Rattle.ft_search.proofs.Spotting.{FirstFreeSlots, entry_found, none_spent, value_read}
use Rattle.ft_new_keys.specs.KeyGrowth.{IsFreeFor, holds}
use Rattle.ft_merging.specs.Internal.JoiningSteps.{IsSought}
use Rattle.ft_merging.proofs.JoinedReads.{holds_some}

of_kind : (by : Way) (d : Content) → kind_of d ≡ kind_by by → IsOfWay by d
of_kind way.Dict (content.Dict pairs) is = (pairs, refl)
of_kind way.Set (content.Set elements) is = (elements, refl)
of_kind way.Dict (content.Set elements) is = absurd (cc)
of_kind way.Dict (content.List values) is = absurd (cc)
of_kind way.Dict (content.Deque deque) is = absurd (cc)
of_kind way.Set (content.Dict pairs) is = absurd (cc)
of_kind way.Set (content.List values) is = absurd (cc)
of_kind way.Set (content.Deque deque) is = absurd (cc)

module _ (missing_key : MissingKeys) (missing_element : MissingElements) (first_pair : dict.FirstEntriesArePairs) (first_element : set.FirstEntriesAreElements) (free : FirstFreeSlots) (k : Shape) (x : ContainerWords) (by : Way) (table : Table) (in_bank : IsTableIn k table) (names : root_in x ≡ suc (table_id table)) (key : Key) (fits : FitsKey key) (low : hash_of k.texts key < 2 ^ 64) (left : List ℕ) (kept : ContainerState) (kind_eq : kind_of kept.content ≡ kind_by by) (stands : Represents k.texts x kept) where
  abbrev mask : ℕ
  mask = class_mask table.class

  abbrev words : List ℕ
  words = 0 ∷ 0 ∷ x.table

  abbrev Ends : Found → Type 0
  Ends found = Searched mask words key (walk_slots by (hash_of k.texts key) mask) left found

  class_some : kept.table.class ≡ Some table.class
  class_some = class_known k.texts x kept (table_id table) stands names ∙ ap (λ (n : ℕ). Some n) (class_is table in_bank.2)

  -- the key is there
  pub search_there : (slot place : ℕ) (read : Option (ℕ × ℕ)) → ReadsEntry mask words (At slot place) read → ((s p : ℕ) → At slot place ≢ Was s p) → Ends (At slot place) → holds kept.content key ≡ true
  search_there slot place (Some read) reads live s = holds_some k x kept table.class stands class_some key read.0 read.1 fits (key_held missing_key missing_element k.texts x kept stands key first_pair first_element k table in_bank names low left (At slot place) (Some read) live reads by (of_kind by kept.content kind_eq) s)
  search_there slot place None reads live s = absurd reads

  -- it isn't, and this is the slot for it
  pub search_free : (slot : ℕ) (read : Option (ℕ × ℕ)) → ReadsEntry mask words (Free slot) read → ((s p : ℕ) → Free slot ≢ Was s p) → IsWithin mask (Free slot) → Ends (Free slot) → IsFreeFor k.texts by table.class key x.table slot × IsHeldAt kept.content key None
  search_free slot None reads live within s = ((within, free mask words key (walk_slots by (hash_of k.texts key) mask) left slot s.ends), key_held missing_key missing_element k.texts x kept stands key first_pair first_element k table in_bank names low left (Free slot) None live reads by (of_kind by kept.content kind_eq) s)
  search_free slot (Some read) reads live within s = absurd reads

  -- no search ends otherwise
  pub sought : (found : Found) (read : Option (ℕ × ℕ)) → IsWithin mask found → ((s p : ℕ) → found ≢ Was s p) → ReadsEntry mask words found read → Ends found → IsSought k by table key x kept.content (spot_in table found read)
  sought (At slot place) (Some read) within live reads s =
      let of = of_kind by kept.content kind_eq in
      let e = entry_found first_pair first_element k x kept key table in_bank names stands low left by of slot place s in
      let value = value_read first_pair first_element k x kept key table in_bank names stands low left slot place read reads in
      (e.0, e.1, search_there slot place (Some read) reads live s, value.0, value.1)
  sought (At slot place) None within live reads s = absurd reads
  sought (Was slot place) read within live reads s = absurd (live slot place refl)
  sought (Free slot) read within live reads s = search_free slot read reads live within s
  sought Spent read within live reads s = absurd (none_spent first_pair first_element k x kept key table in_bank names stands low left by (of_kind by kept.content kind_eq) s)
