-- From where a search ended in the words of a table to what a dict or a set has at the key.
use Rattle.std.proofs.Common.{◌≡◌, ◌≢◌, ◌⊎◌, ℕ, suc, ◌^◌, ◌<◌, ◌≤◌, true, false, List, [], ◌∷◌, length, Option, Some, None, refl, sym, ap, ◌∙◌, subst, ⊎_elim, arith}
use Rattle.std.specs.Prelude.{IsTrue, ◌||◌, cond, slice_get, slice_index, slice_index_or}
use Rattle.std.specs.List.{find, list_any}
use Rattle.std.specs.Option.{option_map}
use Rattle.std.proofs.lemmas.Option.{slice_get-get_or}
use Rattle.ft_layout.specs.declared.slot.Stored.TheVariants.{Plain}
use Rattle.ft_layout.specs.Containers.{AreSetEntries, IsDictWords, IsSetWords, StandsAs, class_mask, used_element, used_pair}
use Rattle.ft_layout.specs.Tables.{UsedEntry, entry_word, hash_of, index_word, is_live, slot_of}
use Rattle.ft_layout.specs.Words.{FitsKey, IsEntry, IsStored}
use Rattle.ft_layout.proofs.ContentLaws.{stands_for_dict, stands_for_set}
use Rattle.ft_keys.specs.declared.search.Found.{Found}
use Rattle.ft_keys.specs.declared.search.Found.TheVariants.{At, Free, Spent, Was}
use Rattle.ft_keys.specs.declared.walk.Way.{Way}
use Rattle.ft_keys.specs.declared.walk.Way.TheVariants as way
use Rattle.ft_keys.specs.Searches.{Finds, Searched}
use Rattle.ft_keys.specs.Ways.{IsTableOf, walk_slots}
use Rattle.ft_keys.proofs.Reaching.{walk-within}
use Rattle.ft_model.specs.declared.content.Content.{Content}
use Rattle.ft_model.specs.declared.content.Content.TheVariants as content
use Rattle.ft_model.specs.declared.content.DictPair.{DictPair}
use Rattle.ft_model.specs.declared.content.Element.{Element}
use Rattle.ft_model.specs.declared.data.Key.{Key}
use Rattle.ft_model.specs.declared.script.Kind.{Kind}
use Rattle.ft_model.specs.Contents.{DictContent, IsSet, SetContent, dict_get, has_element, has_key, is_at, set_add}
use Rattle.ft_model.specs.Worlds.{kind_of}
use Rattle.ft_trace.specs.declared.Shape.{Shape}
use Rattle.ft_trace.specs.Addresses.{class_of, size, slots}
use Rattle.ft_trace.specs.Kinds.{rows, IsKeyed}
use Rattle.ft_trace.specs.Pictures.{ContainerWords, Represents, entry_field, entry_offset, root_in}
use Rattle.ft_trace.specs.Unboxed.{unboxed}
use Rattle.ft_trace.specs.ContainerStates.{ContainerState, kind_in}
use Rattle.ft_trace.proofs.DictWrites.{LiveEntriesArePairs}
use Rattle.ft_trace.proofs.Known.{class_known}
use Rattle.ft_trace.proofs.PlainPuts.{by_root}
use Rattle.ft_trace.proofs.ReadTables.{read_entry, read_index}
use Rattle.ft_bank.specs.declared.table.Table.{Table}
use Rattle.ft_bank.specs.TableNames.{IsTableIn, table_id}
use Rattle.ft_bank.proofs.TableAddresses.{class_is}
use Rattle.ft_search.specs.declared.boxed.SeenValue.{SeenValue}
use Rattle.ft_search.specs.Held.{ReadsEntry}
use Rattle.ft_search.specs.Rounds.{kind_by}
use Rattle.ft_search.proofs.FoundInContents.{MissingElements, MissingKeys, dict_bare, set_bare}
use Rattle.ft_search.proofs.KnownTableWords.{after_header, entry_after_header}
use Rattle.ft_search.proofs.SearchedReads.{searched_there}
use Rattle.ft_search.proofs.WordPlaces.{entry_is, mask_is, slots_is}
use Rattle.ft_whole_tables.specs.FoundKeys.{IsAtKey, IsValueFound, SearchesTable}
use Rattle.ft_whole_tables.specs.TableEntries.{IsSeenAt}
use Rattle.ft_whole_tables.proofs.EntryRows.{room_is, words_long}

-- ---- what words read

-- a search ended on what words read as it did on the words as they stand
pub searched_words : (k : Shape) (o : ℕ) (table : Table) (mask hash : ℕ) (way : Way) (key : Key) (left : List ℕ) (found : Found) (x : ContainerWords) (box : ℕ → ℕ → ℕ) → IsKeyed (kind_in k.starts o) → IsTableIn k table → mask ≡ class_mask table.class → root_in x ≡ suc (table_id table) → FitsKey key
    → Searched mask (0 ∷ 0 ∷ x.table) key (walk_slots way hash mask) left found → Searched mask (0 ∷ 0 ∷ (unboxed box (kind_in k.starts o) x).table) key (walk_slots way hash mask) left found
searched_words k o table mask hash way key left found x box keyed in_bank last names fits s =
    let t = table_id table in
    let kd : Kind = kind_in k.starts o in
    let T = x.table in
    let R = (unboxed box kd x).table in
    let whole = by_root box kd (root_in x) t T names in
    let index : (z : ℕ) → z ≤ mask → index_word (0 ∷ 0 ∷ R) z ≡ index_word (0 ∷ 0 ∷ T) z = λ z low.
    let few = slots_is k table mask in_bank last in
    after_header R z
    ∙ ((ap (λ (l : List ℕ). slice_index l z) whole ∙ read_index box (class_of t) (rows kd (class_of t)) T kd keyed z (omega (arith, few, low)))
    ∙ sym (after_header T z)) in
    let field : (p w : ℕ) → w < 8 → w ≢ 4 → w ≢ 5 → entry_word mask (0 ∷ 0 ∷ R) p w ≡ entry_word mask (0 ∷ 0 ∷ T) p w = λ p w few n4 n5.
    let at = entry_is k table mask p w in_bank last in
    entry_after_header R mask p w
    ∙ (ap (slice_index R) at
    ∙ (ap (λ (l : List ℕ). slice_index l (entry_offset (slots (class_of t)) p w)) whole
    ∙ (read_entry box (class_of t) (rows kd (class_of t)) T kd keyed p w few n4 n5 ∙ (ap (slice_index T) (sym at) ∙ sym (entry_after_header T mask p w))))) in
    let entry : (p w : ℕ) → (w ≡ 2) ⊎ (w ≡ 3) → entry_word mask (0 ∷ 0 ∷ R) p w ≡ entry_word mask (0 ∷ 0 ∷ T) p w = λ p w which.
    field p w (⊎_elim (λ e. omega (arith, e)) (λ e. omega (arith, e)) which)
    (λ z. ⊎_elim (λ e. omega (arith, e, z)) (λ e. omega (arith, e, z)) which)
    (λ z. ⊎_elim (λ e. omega (arith, e, z)) (λ e. omega (arith, e, z)) which) in
    searched_there mask (0 ∷ 0 ∷ T) (0 ∷ 0 ∷ R) key index entry (walk_slots way hash mask) left found (mask_is table.class mask in_bank.0 last) fits (walk-within way hash mask) s

-- ---- the value of the entry at which a search ended

pub no_value : (table : Table) (way : Way) (x : ContainerWords) (end : Found) → ((slot place : ℕ) → end ≢ At slot place) → IsValueFound table way end None x
no_value table way x (At slot place) other names long inside = absurd (other slot place refl)
no_value table way x (Was slot place) other names long inside = tt
no_value table way x (Free slot) other names long inside = tt
no_value table way x Spent other names long inside = tt

pub value_past : (table : Table) (way : Way) (x : ContainerWords) (slot place : ℕ) → rows (kind_by way) (class_of (table_id table)) ≤ place → IsValueFound table way (At slot place) None x
value_past table way x slot place past names long inside = let low = inside slot place refl in absurd (omega (arith, low, past))

pub value_there : (k : Shape) (table : Table) (way : Way) (x : ContainerWords) (slot place : ℕ) (seen : SeenValue) → IsTableIn k table → IsSeenAt (table_id table) place seen x → IsValueFound table way (At slot place) (Some (seen.kind, seen.value)) x
value_there k table way x slot place seen is_in reads names long inside =
    let both = reads names long in
    let word : (w : ℕ) → entry_word (class_mask table.class) (0 ∷ 0 ∷ x.table) place w ≡ entry_field (slots (class_of (table_id table))) x.table place w = λ w.
    entry_after_header x.table (class_mask table.class) place w ∙ ap (slice_index x.table) (entry_is k table (class_mask table.class) place w is_in refl) in
    (both.0 ∙ sym (word 4), both.1 ∙ sym (word 5))

-- ---- no key

-- a key that no pair has is found at none
pub not_found : (pairs : List DictPair) (key : Key) → has_key pairs key ≡ false → dict_get pairs key ≡ None
not_found pairs key none = ap (option_map (λ (pair : DictPair). pair.value)) (missing pairs none)
  where
    missing : (pairs : List DictPair) → list_any (is_at key) pairs ≡ false → find (is_at key) pairs ≡ None
    missing [] e = refl
    missing (pair ∷ pairs) e =
        elim (is_at key pair) as (λ b. (b || list_any (is_at key) pairs) ≡ false → cond b (Some pair) (find (is_at key) pairs) ≡ None) [
          | true ↦ λ yes. absurd (cc)
          | false ↦ λ no. missing pairs no
        ] e

-- what is known of the used entries of dicts and sets
pub record EntryLaws : Type 0 where
  pub pairs : LiveEntriesArePairs
  pub missing_key : MissingKeys
  pub elements : (used : List UsedEntry) (set : SetContent) (place : ℕ) (entry : UsedEntry) → AreSetEntries used set → IsSet set.next set.elements → slice_get used place ≡ Some entry → IsTrue (is_live entry)
      → (element : Element) × (entry ≡ used_element element) × (has_element set.elements element.key ≡ true) × (set_add set element.key ≡ set)
  pub missing_element : MissingElements

-- ---- in a table

-- where the entry at which a search ended is a used one, the words of its value were read
abbrev pub ReadsUsed : ℕ → ℕ → List ℕ → Found → Option (ℕ × ℕ) → Type 0
ReadsUsed used mask words end read =
    ((slot place : ℕ) → end ≡ At slot place → place < used) → ReadsEntry mask words end read

module _ (laws : EntryLaws) (k : Shape) (class fill : ℕ) (x : ContainerWords) (key : Key) (low : hash_of k.texts key < 2 ^ 64) where
  abbrev words : List ℕ
  words = 0 ∷ 0 ∷ x.table

  abbrev mask : ℕ
  mask = class_mask class

  abbrev no_entry : UsedEntry
  no_entry = record { key = key; serial = 0; stored = None }

  pub dict_found : (dict : DictContent) (says : IsDictWords k.texts x.block words (Some class) fill dict) (left : List ℕ) (end : Found) (read : Option (ℕ × ℕ)) → Searched mask words key (walk_slots way.Dict (hash_of k.texts key) mask) left end → ((slot place : ℕ) → end ≢ Was slot place) → ReadsUsed (length says.used) mask words end read → IsAtKey (content.Dict dict) key read
  dict_found dict says left end read s live found = by end read s live found
    where
      by : (end : Found) (read : Option (ℕ × ℕ)) → Searched mask words key (walk_slots way.Dict (hash_of k.texts key) mask) left end → ((slot place : ℕ) → end ≢ Was slot place) → ReadsUsed (length says.used) mask words end read → IsAtKey (content.Dict dict) key read
      by (At slot place) (Some read) s live found =
          let finds : Finds says.used key (At slot place) = s.finds way.Dict k.texts says.used says.table low refl in
          let reads : ReadsEntry mask words (At slot place) (Some read) = found (λ i j at. let same : place ≡ j = cc in subst (λ (z : ℕ). z < length says.used) same finds.0) in
          let entry = slice_index_or says.used place no_entry in
          let at : slice_get says.used place ≡ Some entry = slice_get-get_or says.used place no_entry finds.0 in
          let is = stands_for_dict k.texts x.block words (Some class) fill dict says in
          let pair = laws.pairs says.used dict place entry says.entries is at (finds.1 no_entry).1 in
          let same : pair.0.key ≡ key = sym (ap (λ (e : UsedEntry). e.key) pair.1) ∙ (finds.1 no_entry).0 in
          let here : IsEntry (entry_word mask words place) (slot_of k.texts (used_pair pair.0)) = subst (λ (e : UsedEntry). IsEntry (entry_word mask words place) (slot_of k.texts e)) pair.1 (says.table.entries place no_entry finds.0) in (
            pair.0.value,
            subst (λ (z : Key). dict_get dict.pairs z ≡ Some pair.0.value) same pair.2,
            subst (λ (z : ℕ × ℕ). IsStored z.0 z.1 (Plain pair.0.value)) (λ i. (sym reads.0 i, sym reads.1 i)) here.value,
          )
      by (At slot place) None s live found =
          let finds : Finds says.used key (At slot place) = s.finds way.Dict k.texts says.used says.table low refl in
          absurd (found (λ i j at. let same : place ≡ j = cc in subst (λ (z : ℕ). z < length says.used) same finds.0))
      by (Was slot place) read s live found = absurd (live slot place refl)
      by (Free slot) (Some read) s live found = absurd (found (λ i j at. absurd (cc)))
      by (Free slot) None s live found = not_found dict.pairs key (laws.missing_key says.used dict key says.entries (s.finds way.Dict k.texts says.used says.table low refl))
      by Spent read s live found = absurd (s.finds way.Dict k.texts says.used says.table low refl)

  pub set_found : (set : SetContent) (says : IsSetWords k.texts x.block words (Some class) fill set) (left : List ℕ) (end : Found) (read : Option (ℕ × ℕ)) → Searched mask words key (walk_slots way.Set (hash_of k.texts key) mask) left end → ((slot place : ℕ) → end ≢ Was slot place) → ReadsUsed (length says.used) mask words end read → IsAtKey (content.Set set) key read
  set_found set says left end read s live found = by end read s live found
    where
      by : (end : Found) (read : Option (ℕ × ℕ)) → Searched mask words key (walk_slots way.Set (hash_of k.texts key) mask) left end → ((slot place : ℕ) → end ≢ Was slot place) → ReadsUsed (length says.used) mask words end read → IsAtKey (content.Set set) key read
      by (At slot place) (Some read) s live found =
          let finds : Finds says.used key (At slot place) = s.finds way.Set k.texts says.used says.table low refl in
          let entry = slice_index_or says.used place no_entry in
          let at : slice_get says.used place ≡ Some entry = slice_get-get_or says.used place no_entry finds.0 in
          let is = stands_for_set k.texts x.block words (Some class) fill set says in
          let element = laws.elements says.used set place entry says.entries is at (finds.1 no_entry).1 in
          let same : element.0.key ≡ key = sym (ap (λ (e : UsedEntry). e.key) element.1) ∙ (finds.1 no_entry).0 in
          subst (λ (z : Key). has_element set.elements z ≡ true) same element.2
      by (At slot place) None s live found =
          let finds : Finds says.used key (At slot place) = s.finds way.Set k.texts says.used says.table low refl in
          absurd (found (λ i j at. let same : place ≡ j = cc in subst (λ (z : ℕ). z < length says.used) same finds.0))
      by (Was slot place) read s live found = absurd (live slot place refl)
      by (Free slot) (Some read) s live found = absurd (found (λ i j at. absurd (cc)))
      by (Free slot) None s live found = laws.missing_element says.used set key says.entries (s.finds way.Set k.texts says.used says.table low refl)
      by Spent read s live found = absurd (s.finds way.Set k.texts says.used says.table low refl)

-- ---- by the way in which it is searched

module _ (laws : EntryLaws) (k : Shape) (x : ContainerWords) (how : Way) (key : Key) (kept : ContainerState) (is : kind_of kept.content ≡ kind_by how) (stands : Represents k.texts x kept) where
  pub sought_bare : root_in x ≡ 0 → IsAtKey kept.content key None
  sought_bare bare = by how kept.content is stands
    where
      by : (w : Way) (c : Content) → kind_of c ≡ kind_by w → StandsAs k.texts x.block (0 ∷ 0 ∷ x.table) kept.table c → IsAtKey c key None
      by way.Dict (content.Dict dict) e s = not_found dict.pairs key (dict_bare laws.missing_key k.texts x.block (0 ∷ 0 ∷ x.table) kept.table.class kept.table.fill dict key s bare)
      by way.Dict (content.Set set) e s = absurd (cc)
      by way.Dict (content.List values) e s = absurd (cc)
      by way.Dict (content.Deque deque) e s = absurd (cc)
      by way.Set (content.Set set) e s = set_bare laws.missing_element k.texts x.block (0 ∷ 0 ∷ x.table) kept.table.class kept.table.fill set key s bare
      by way.Set (content.Dict dict) e s = absurd (cc)
      by way.Set (content.List values) e s = absurd (cc)
      by way.Set (content.Deque deque) e s = absurd (cc)

  module _ (table : Table) (is_in : IsTableIn k table) (low : hash_of k.texts key < 2 ^ 64) (names : root_in x ≡ suc (table_id table)) where
    class_eq : kept.table.class ≡ Some table.class
    class_eq = class_known k.texts x kept (table_id table) stands names ∙ ap Some (class_is table is_in.2)

    abbrev words_in : List ℕ
    words_in = 0 ∷ 0 ∷ x.table

    used_read : (w : Way) (used : List UsedEntry) (end : Found) (read : Option (ℕ × ℕ)) → IsTableOf w k.texts (class_mask table.class) used words_in → IsValueFound table w end read x → ReadsUsed (length used) (class_mask table.class) words_in end read
    used_read w used end read is found inside =
        let long = words_long table.class is_in.0 w k.texts used x.table is in
        let whole : length x.table ≡ size (class_of (table_id table)) = long ∙ ap size (sym (class_is table is_in.2)) in
        found names whole (λ slot place at. let few = inside slot place at in let fill = is.fill in let all = room_is w table.class is_in.0 ∙ ap (rows (kind_by w)) (sym (class_is table is_in.2)) in omega (arith, few, fill, all))

    pub sought_table : (end : Found) (read : Option (ℕ × ℕ)) → SearchesTable table how (hash_of k.texts key) key end x → IsValueFound table how end read x → IsAtKey kept.content key read
    sought_table end read searches found = by how kept.content is stands (searches names) found
      where
        by : (w : Way) (c : Content) → kind_of c ≡ kind_by w → StandsAs k.texts x.block words_in kept.table c → ((left : List ℕ) × Searched (class_mask table.class) words_in key (walk_slots w (hash_of k.texts key) (class_mask table.class)) left end) × ((slot place : ℕ) → end ≢ Was slot place) → IsValueFound table w end read x → IsAtKey c key read
        by way.Dict (content.Dict dict) e s f g =
            let says = subst (λ (z : Option ℕ). IsDictWords k.texts x.block words_in z kept.table.fill dict) class_eq s in
            dict_found laws k table.class kept.table.fill x key low dict says f.0.0 end read f.0.1 f.1 (used_read way.Dict says.used end read says.table g)
        by way.Dict (content.Set set) e s f g = absurd (cc)
        by way.Dict (content.List values) e s f g = absurd (cc)
        by way.Dict (content.Deque deque) e s f g = absurd (cc)
        by way.Set (content.Set set) e s f g =
            let says = subst (λ (z : Option ℕ). IsSetWords k.texts x.block words_in z kept.table.fill set) class_eq s in
            set_found laws k table.class kept.table.fill x key low set says f.0.0 end read f.0.1 f.1 (used_read way.Set says.used end read says.table g)
        by way.Set (content.Dict dict) e s f g = absurd (cc)
        by way.Set (content.List values) e s f g = absurd (cc)
        by way.Set (content.Deque deque) e s f g = absurd (cc)
