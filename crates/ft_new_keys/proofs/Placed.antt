-- What a new entry leaves of the words of a dict or a set, and what they stand for then.
use Rattle.std.proofs.Common.{◌≡◌, ◌≢◌, ℕ, zero, suc, ◌+◌, ◌*◌, ◌/◌, ◌^◌, ◌%◌, ◌<◌, ◌≤◌, Bool, true, false, true≢false, List, [], ◌∷◌, ◌++◌, map, length, get_or, Option, Some, None, refl, sym, ap, ◌∙◌, subst, arith, length-set, length-append, get_or-set_same, get_or-set_other}
use Rattle.std.specs.Prelude.{◌||◌, All, filter, slice_index, slice_set}
use Rattle.std.specs.List.{list_any}
use Rattle.std.proofs.lemmas.List.{get_or_append_left}
use Rattle.ft_model.specs.declared.content.Content.{Content}
use Rattle.ft_model.specs.declared.content.Content.TheVariants as content
use Rattle.ft_model.specs.declared.data.Key.{Key}
use Rattle.ft_model.specs.declared.data.Value.{Value}
use Rattle.ft_model.specs.declared.script.Kind.{Kind}
use Rattle.ft_model.specs.declared.script.Kind.TheVariants as kind
use Rattle.ft_model.specs.Classes.{IsClass}
use Rattle.ft_model.specs.Contents.{DictContent, SetContent, dict_set, set_add}
use Rattle.ft_model.specs.Keys.{same_key}
use Rattle.ft_model.specs.TableUses.{TableUse}
use Rattle.ft_model.specs.Worlds.{kind_of, length_of, serial_of}
use Rattle.ft_model.proofs.KeyLemmas.{same_key-refl}
use Rattle.ft_hash.specs.Probes.{IsMask, dict_slots, set_slots}
use Rattle.ft_hash.proofs.Walks.{dict_slots-within, set_slots-within}
use Rattle.ft_layout.specs.declared.slot.Pair.{Pair}
use Rattle.ft_layout.specs.declared.slot.Stored.{Stored}
use Rattle.ft_layout.specs.declared.slot.Stored.TheVariants.{Empty, Plain}
use Rattle.ft_layout.specs.Words.{FitsKey, FitsPair, FitsStored, entry_words, key_kind, key_payload, stored_kind, stored_payload}
use Rattle.ft_layout.specs.Tables.{UsedEntry, is_live, hash_of, index_word, dict_room, set_room, IsDictTable, IsSetTable}
use Rattle.ft_layout.specs.Tables as layout
use Rattle.ft_layout.specs.Containers.{class_mask, used_pair, used_element, IsRoot, IsBlock, AreDictEntries, AreSetEntries, IsDictWords, IsSetWords, StandsAs}
use Rattle.ft_layout.proofs.Powers.{slots_range}
use Rattle.ft_keys.specs.declared.walk.Way.{Way}
use Rattle.ft_keys.specs.declared.walk.Way.TheVariants as way
use Rattle.ft_keys.specs.Accesses.{after}
use Rattle.ft_keys.specs.TableChanges.{FirstFree, place_puts, AddsPair, unless_zero}
use Rattle.ft_keys.specs.Ways.{walk_slots, room}
use Rattle.ft_keys.proofs.Reaching.{walk-within}
use Rattle.ft_trace.specs.Addresses.{class_of, slots, places}
use Rattle.ft_trace.specs.Carefuls.{HasLiveKey, said_of, OpensChanged}
use Rattle.ft_trace.specs.Kinds.{under, rows, version_at, CarefulAs, ClearAs, IsKeyed}
use Rattle.ft_trace.specs.OddVersions.{Shut}
use Rattle.ft_trace.specs.Pictures.{ContainerWords, index_field, entry_offset, entry_field}
use Rattle.ft_trace.proofs.DictWrites as dict
use Rattle.ft_trace.proofs.DictWrites.{EntryVersionsChangeNothing, FirstEntriesArePairs}
use Rattle.ft_trace.proofs.SetKnown as set
use Rattle.ft_trace.proofs.SetKnown.{FirstEntriesAreElements}
use Rattle.ft_trace.proofs.KeyPuts.{new_same, new_late, new_shut, new_opens}
use Rattle.ft_trace.proofs.Known as known
use Rattle.ft_trace.proofs.Tellings.{word_is}
use Rattle.ft_trace.proofs.ValuePlaces.{plain_kind}
use Rattle.ft_trace.specs.declared.View.{View}
use Rattle.ft_bank.specs.SameBoxes.{SameReferences}
use Rattle.ft_new_keys.specs.declared.counts.Counts.{Counts}
use Rattle.ft_search.specs.Held.{IsHeldAt}
use Rattle.ft_new_keys.specs.Placing.{StoresAs, with_key, counted}
use Rattle.ft_new_keys.specs.Internal.Laying.{IsUnused, laid, with_entry}
use Rattle.ft_search.specs.OneEntryWrites.{raised_at}
use Rattle.ft_search.proofs.Changing.{Changing}
use Rattle.ft_search.proofs.KnownTableWords.{after_header}
use Rattle.ft_new_keys.proofs.Laid.{laid_after}
use Rattle.ft_search.proofs.WordPlaces.{mask_is, slots_of_class}
use Rattle.ft_new_keys.proofs.Stages.{as_careful, body, body_puts, body_stage}
use Rattle.ft_keys.specs.declared.words.Access.{Access}
use Rattle.ft_keys.specs.declared.words.Access.TheVariants.{PutEntry}
use Rattle.ft_trace.proofs.Opened.{dict_lacks, set_lacks}
use Rattle.ft_trace.proofs.FitCalls.{dict_fits_words, set_fits_words}

-- laws of tables and of what they stand for
pub record PlaceLaws : Type 0 where
  pub versions : EntryVersionsChangeNothing
  pub first_pair : FirstEntriesArePairs
  pub first_element : FirstEntriesAreElements
  pub placed : (way : Way) (mask fill slot : ℕ) (pair : Pair) (words : List ℕ) → IsMask mask → pair.hash < 2 ^ 64 → FitsPair pair → fill < room way mask → FirstFree words (walk_slots way pair.hash mask) (Some slot) → AddsPair way mask fill pair words (after mask (place_puts slot fill (entry_words pair)) words)
  pub pair_added : (texts block words : List ℕ) (class : ℕ) (used : List UsedEntry) (dict : DictContent) (key : Key) (value : Value) → AreDictEntries used dict → All (λ entry. entry.key ≢ key) (filter is_live used) → IsBlock block (Some class) (length dict.pairs + 1) (length used + 1) (dict.next + 1)
      → IsDictTable texts (class_mask class) (used ++ used_pair (record { serial = dict.next; key = key; value = value }) ∷ []) words → IsDictWords texts block words (Some class) (length used + 1) (dict_set dict key value)
  pub element_added : (texts block words : List ℕ) (class : ℕ) (used : List UsedEntry) (set : SetContent) (key : Key) → AreSetEntries used set → All (λ entry. entry.key ≢ key) (filter is_live used) → IsBlock block (Some class) (length set.elements + 1) (length used + 1) (set.next + 1)
      → IsSetTable texts (class_mask class) (used ++ used_element (record { serial = set.next; key = key }) ∷ []) words → IsSetWords texts block words (Some class) (length used + 1) (set_add set key)
  pub head : (texts block words : List ℕ) (table : TableUse) (content : Content) → StandsAs texts block words table content → IsBlock block table.class (length_of content) table.fill (serial_of content)

-- the way in which a dict or a set is searched
abbrev pub way_of : Content → Way
way_of (content.Dict pairs) = way.Dict
way_of (content.Set elements) = way.Set
way_of (content.List values) = way.Dict
way_of (content.Deque deque) = way.Dict

-- what a dict or a set stores with a key names no box
pub stores_plain : (kind : Kind) (stored : Stored) → StoresAs kind stored → stored_kind stored ≢ 4
stores_plain kind.Dict (Plain value) stores = plain_kind value
stores_plain kind.Set Empty stores = λ e. omega (arith, e)
stores_plain kind stored stores = absurd stores

pub refs_then : (u v w : View) → SameReferences u v → SameReferences v w → SameReferences u w
refs_then u v w a b x = b x ∙ a x

-- a table of this class, of which this many entries are used
abbrev pub use_with : ℕ → ℕ → TableUse
use_with class fill = record { class = Some class; fill = fill; keys = [] }

-- ---- a key that is nowhere

or_false : (a b : Bool) → (a || b) ≡ false → (a ≡ false) × (b ≡ false)
or_false true b e = absurd (true≢false e)
or_false false b e = (refl, e)

pub none_used : {Y : Type 0} (of : Y → UsedEntry) (ys : List Y) (key : Key) → list_any (λ y. same_key (of y).key key) ys ≡ false → All (λ (e : UsedEntry). e.key ≢ key) (map of ys)
none_used of [] key none k d low = absurd (omega (arith, low))
none_used of (y ∷ ys) key none zero d low = λ same. true≢false (sym (ap (λ (z : Key). same_key z key) same ∙ same_key-refl key) ∙ (or_false (same_key (of y).key key) (list_any (λ y. same_key (of y).key key) ys) none).0)
none_used of (y ∷ ys) key none (suc k) d low = none_used of ys key (or_false (same_key (of y).key key) (list_any (λ y. same_key (of y).key key) ys) none).1 k d (omega (arith, low))

-- ---- slots of the table, once a version was put

index_stays : (n p version : ℕ) (l : List ℕ) (s : ℕ) → s < n → index_word (0 ∷ 0 ∷ slice_set l (entry_offset n p 0) version) s ≡ index_word (0 ∷ 0 ∷ l) s
index_stays n p version l s low = after_header (slice_set l (entry_offset n p 0) version) s ∙ (get_or-set_other l (entry_offset n p 0) s version 0 (λ e. absurd (omega (arith, e, low))) ∙ sym (after_header l s))

still_free : (mask n p version : ℕ) (l : List ℕ) (by : Way) (hash slot : ℕ) → n ≡ mask + 1 → slot < n → FirstFree (0 ∷ 0 ∷ l) (walk_slots by hash mask) (Some slot) → FirstFree (0 ∷ 0 ∷ slice_set l (entry_offset n p 0) version) (walk_slots by hash mask) (Some slot)
still_free mask n p version l by hash slot is in_index free =
    let passed = free.0 in
    let rest = free.1 in
    let long = length-append passed (slot ∷ rest) in
    let whole : length (walk_slots by hash mask) ≡ length (passed ++ slot ∷ rest) = ap length free.2 in
    let inside : (k d : ℕ) → k < length passed → get_or passed k d < n =
    λ k d less.
    let at : get_or (walk_slots by hash mask) k d ≡ get_or passed k d = ap (λ (w : List ℕ). get_or w k d) free.2 ∙ get_or_append_left passed (slot ∷ rest) d k less in
    let low : get_or (walk_slots by hash mask) k d ≤ mask = walk-within by hash mask k d (omega (arith, less, long, whole)) in
    omega (arith, at, low, is) in
    (passed, rest, free.2, (λ k d less zero. free.3 k d less (sym (index_stays n p version l (get_or passed k d) (inside k d less)) ∙ zero)), index_stays n p version l slot in_index ∙ free.4)

-- ---- a block with other counts

pub counted_head : (b : List ℕ) (class : Option ℕ) (x y z count fill next : ℕ) → IsBlock b class x y z → IsBlock (counted b count fill next) class count fill next
counted_head b class x y z count fill next h =
    let size_is = h.size in
    let b1 = slice_set b 1 count in
    let b2 = slice_set b1 2 fill in
    let long1 = length-set b 1 count in
    let long2 = length-set b1 2 fill in
    let long3 = length-set b2 3 next in
    let other : (i : ℕ) → i ≢ 1 → i ≢ 2 → i ≢ 3 → slice_index (counted b count fill next) i ≡ slice_index b i = λ i n1 n2 n3. get_or-set_other b2 3 i next 0 n3 ∙ (get_or-set_other b1 2 i fill 0 n2 ∙ get_or-set_other b 1 i count 0 n1) in
    record {
      size = long3 ∙ (long2 ∙ (long1 ∙ size_is));
      root = subst (λ (r : ℕ). IsRoot r class) (sym (other 0 (λ e. absurd (omega (arith, e))) (λ e. absurd (omega (arith, e))) (λ e. absurd (omega (arith, e))))) h.root;
      count_is = get_or-set_other b2 3 1 next 0 (λ e. absurd (omega (arith, e))) ∙ (get_or-set_other b1 2 1 fill 0 (λ e. absurd (omega (arith, e))) ∙ get_or-set_same b 1 count 0 (omega (arith, size_is)));
      fill_is = get_or-set_other b2 3 2 next 0 (λ e. absurd (omega (arith, e))) ∙ get_or-set_same b1 2 fill 0 (omega (arith, size_is, long1));
      next_is = get_or-set_same b2 3 next 0 (omega (arith, size_is, long1, long2));
      spare = (
        other 4 (λ e. absurd (omega (arith, e))) (λ e. absurd (omega (arith, e))) (λ e. absurd (omega (arith, e))) ∙ h.spare.0,
        other 5 (λ e. absurd (omega (arith, e))) (λ e. absurd (omega (arith, e))) (λ e. absurd (omega (arith, e))) ∙ h.spare.1,
      );
    }

-- ---- what words stand for

-- a version that is put into an entry changes nothing
pub stands_raised : (versions : EntryVersionsChangeNothing) (texts b l : List ℕ) (class fill : ℕ) (d : Content) → IsKeyed (kind_of d) → IsClass class → StandsAs texts b (0 ∷ 0 ∷ l) (use_with class fill) d → (p y : ℕ) → StandsAs texts b (0 ∷ 0 ∷ slice_set l (entry_offset (slots class) p 0) y) (use_with class fill) d
unfolding slots
stands_raised versions texts b l class fill (content.Dict pairs) keyed is_class is p y =
    let r = (slots_range class is_class).0 in
    let walk : ℕ → List ℕ = λ hash. dict_slots hash (class_mask class) (class_mask class + 14) in
    let table : IsDictTable texts (class_mask class) is.used (0 ∷ 0 ∷ slice_set l (entry_offset (slots class) p 0) y) = subst (λ (z : List ℕ). IsDictTable texts (class_mask class) is.used z) (known.after_header l (layout.entry_at (class_mask class) p 0) (entry_offset (slots class) p 0) y (omega (arith, r))) (versions walk (dict_room (class_mask class)) texts (class_mask class) is.used (0 ∷ 0 ∷ l) p y (λ hash. dict_slots-within hash (class_mask class) (class_mask class + 14)) is.table) in
    record { head = is.head; used = is.used; table = table; filled = is.filled; entries = is.entries }
stands_raised versions texts b l class fill (content.Set elements) keyed is_class is p y =
    let r = (slots_range class is_class).0 in
    let walk : ℕ → List ℕ = λ hash. set_slots hash (class_mask class) (class_mask class + 14) in
    let table : IsSetTable texts (class_mask class) is.used (0 ∷ 0 ∷ slice_set l (entry_offset (slots class) p 0) y) = subst (λ (z : List ℕ). IsSetTable texts (class_mask class) is.used z) (known.after_header l (layout.entry_at (class_mask class) p 0) (entry_offset (slots class) p 0) y (omega (arith, r))) (versions walk (set_room (class_mask class)) texts (class_mask class) is.used (0 ∷ 0 ∷ l) p y (λ hash. set_slots-within hash (class_mask class) (class_mask class + 14)) is.table) in
    record { head = is.head; used = is.used; table = table; filled = is.filled; entries = is.entries }
stands_raised versions texts b l class fill (content.List values) keyed is_class is p y = absurd keyed
stands_raised versions texts b l class fill (content.Deque deque) keyed is_class is p y = absurd keyed

-- the entry after those that were used was never used
pub next_unused : (first_pair : FirstEntriesArePairs) (first_element : FirstEntriesAreElements) (texts b l : List ℕ) (class fill : ℕ) (d : Content) → IsKeyed (kind_of d) → IsClass class → StandsAs texts b (0 ∷ 0 ∷ l) (use_with class fill) d → fill < rows (kind_of d) class → entry_field (slots class) l fill 2 ≡ 0
next_unused first_pair first_element texts b l class fill (content.Dict pairs) keyed is_class is low =
    let room = dict.room_is first_pair texts b class fill is_class pairs l is in
    let filled = is.filled in
    let u = is.table.unused fill (omega (arith, filled)) (omega (arith, room, low)) in
    sym (word_is (λ hash. dict_slots hash (class_mask class) (class_mask class + 14)) (dict_room (class_mask class)) texts class is_class is.used l is.table fill 2) ∙ u.kind
next_unused first_pair first_element texts b l class fill (content.Set elements) keyed is_class is low =
    let room = set.room_is first_element texts b class fill is_class elements l is in
    let filled = is.filled in
    let u = is.table.unused fill (omega (arith, filled)) (omega (arith, room, low)) in
    sym (word_is (λ hash. set_slots hash (class_mask class) (class_mask class + 14)) (set_room (class_mask class)) texts class is_class is.used l is.table fill 2) ∙ u.kind
next_unused first_pair first_element texts b l class fill (content.List values) keyed is_class is low = absurd keyed
next_unused first_pair first_element texts b l class fill (content.Deque deque) keyed is_class is low = absurd keyed

-- and stores nothing
pub next_stores : (first_pair : FirstEntriesArePairs) (first_element : FirstEntriesAreElements) (texts b l : List ℕ) (class fill : ℕ) (d : Content) → IsKeyed (kind_of d) → IsClass class → StandsAs texts b (0 ∷ 0 ∷ l) (use_with class fill) d → fill < rows (kind_of d) class → entry_field (slots class) l fill 4 ≡ 0
next_stores first_pair first_element texts b l class fill (content.Dict pairs) keyed is_class is low =
    let room = dict.room_is first_pair texts b class fill is_class pairs l is in
    let filled = is.filled in
    let u = is.table.unused fill (omega (arith, filled)) (omega (arith, room, low)) in
    sym (word_is (λ hash. dict_slots hash (class_mask class) (class_mask class + 14)) (dict_room (class_mask class)) texts class is_class is.used l is.table fill 4) ∙ u.value.kind_is
next_stores first_pair first_element texts b l class fill (content.Set elements) keyed is_class is low =
    let room = set.room_is first_element texts b class fill is_class elements l is in
    let filled = is.filled in
    let u = is.table.unused fill (omega (arith, filled)) (omega (arith, room, low)) in
    sym (word_is (λ hash. set_slots hash (class_mask class) (class_mask class + 14)) (set_room (class_mask class)) texts class is_class is.used l is.table fill 4) ∙ u.value.kind_is
next_stores first_pair first_element texts b l class fill (content.List values) keyed is_class is low = absurd keyed
next_stores first_pair first_element texts b l class fill (content.Deque deque) keyed is_class is low = absurd keyed

-- with no payload
pub next_value : (first_pair : FirstEntriesArePairs) (first_element : FirstEntriesAreElements) (texts b l : List ℕ) (class fill : ℕ) (d : Content) → IsKeyed (kind_of d) → IsClass class → StandsAs texts b (0 ∷ 0 ∷ l) (use_with class fill) d → fill < rows (kind_of d) class → entry_field (slots class) l fill 5 ≡ 0
next_value first_pair first_element texts b l class fill (content.Dict pairs) keyed is_class is low =
    let room = dict.room_is first_pair texts b class fill is_class pairs l is in
    let filled = is.filled in
    let u = is.table.unused fill (omega (arith, filled)) (omega (arith, room, low)) in
    sym (word_is (λ hash. dict_slots hash (class_mask class) (class_mask class + 14)) (dict_room (class_mask class)) texts class is_class is.used l is.table fill 5) ∙ u.value.payload_is
next_value first_pair first_element texts b l class fill (content.Set elements) keyed is_class is low =
    let room = set.room_is first_element texts b class fill is_class elements l is in
    let filled = is.filled in
    let u = is.table.unused fill (omega (arith, filled)) (omega (arith, room, low)) in
    sym (word_is (λ hash. set_slots hash (class_mask class) (class_mask class + 14)) (set_room (class_mask class)) texts class is_class is.used l is.table fill 5) ∙ u.value.payload_is
next_value first_pair first_element texts b l class fill (content.List values) keyed is_class is low = absurd keyed
next_value first_pair first_element texts b l class fill (content.Deque deque) keyed is_class is low = absurd keyed

-- ---- the payload of the key's words

-- the entry after those that were used has none yet
pub next_payload : (first_pair : FirstEntriesArePairs) (first_element : FirstEntriesAreElements) (texts b l : List ℕ) (class fill : ℕ) (d : Content) → IsKeyed (kind_of d) → IsClass class → StandsAs texts b (0 ∷ 0 ∷ l) (use_with class fill) d → fill < rows (kind_of d) class → entry_field (slots class) l fill 3 ≡ 0
next_payload first_pair first_element texts b l class fill (content.Dict pairs) keyed is_class is low =
    let room = dict.room_is first_pair texts b class fill is_class pairs l is in
    let filled = is.filled in
    let u = is.table.unused fill (omega (arith, filled)) (omega (arith, room, low)) in
    sym (word_is (λ hash. dict_slots hash (class_mask class) (class_mask class + 14)) (dict_room (class_mask class)) texts class is_class is.used l is.table fill 3) ∙ u.payload
next_payload first_pair first_element texts b l class fill (content.Set elements) keyed is_class is low =
    let room = set.room_is first_element texts b class fill is_class elements l is in
    let filled = is.filled in
    let u = is.table.unused fill (omega (arith, filled)) (omega (arith, room, low)) in
    sym (word_is (λ hash. set_slots hash (class_mask class) (class_mask class + 14)) (set_room (class_mask class)) texts class is_class is.used l is.table fill 3) ∙ u.payload
next_payload first_pair first_element texts b l class fill (content.List values) keyed is_class is low = absurd keyed
next_payload first_pair first_element texts b l class fill (content.Deque deque) keyed is_class is low = absurd keyed

laid_other : (n p word at value : ℕ) (calls : List Access) (l : List ℕ) → word ≢ at → slice_index (laid n (unless_zero p word value ++ calls) l) (entry_offset n p at) ≡ slice_index (laid n calls l) (entry_offset n p at)
laid_other n p word at zero calls l ne = refl
laid_other n p word at (suc value) calls l ne = get_or-set_other (laid n calls l) (entry_offset n p word) (entry_offset n p at) (suc value) 0 (λ e. ne (omega (arith, e)))

laid_here : (n p at value : ℕ) (calls : List Access) (l : List ℕ) → slice_index (laid n calls l) (entry_offset n p at) ≡ 0 → entry_offset n p at < length (laid n calls l) → slice_index (laid n (unless_zero p at value ++ calls) l) (entry_offset n p at) ≡ value
laid_here n p at zero calls l none long = none
laid_here n p at (suc value) calls l none long = get_or-set_same (laid n calls l) (entry_offset n p at) (suc value) 0 long

laid_long : (n p word value : ℕ) (calls : List Access) (l : List ℕ) → length (laid n (unless_zero p word value ++ calls) l) ≡ length (laid n calls l)
laid_long n p word zero calls l = refl
laid_long n p word (suc value) calls l = length-set (laid n calls l) (entry_offset n p word) (suc value)

pub payload_laid : (n p : ℕ) (entry l : List ℕ) → entry_field n l p 3 ≡ 0 → entry_offset n p 3 < length l → entry_field n (laid n (body p entry) l) p 3 ≡ slice_index entry 3
payload_laid n p entry l none long =
    let word : ℕ → ℕ = slice_index entry in
    let one : List Access = PutEntry p 1 (word 1) ∷ [] in
    let three : List Access = unless_zero p 3 (word 3) ++ one in
    let four : List Access = unless_zero p 4 (word 4) ++ three in
    let five : List Access = unless_zero p 5 (word 5) ++ four in
    let size = length-set l (entry_offset n p 1) (word 1) in
    get_or-set_other (laid n five l) (entry_offset n p 6) (entry_offset n p 3) (word 6) 0 (λ e. absurd (omega (arith, e)))
    ∙ (laid_other n p 5 3 (word 5) four l (λ e. absurd (omega (arith, e)))
    ∙ (laid_other n p 4 3 (word 4) three l (λ e. absurd (omega (arith, e)))
    ∙ laid_here n p 3 (word 3) one l (get_or-set_other l (entry_offset n p 1) (entry_offset n p 3) (word 1) 0 (λ e. absurd (omega (arith, e))) ∙ none) (omega (arith, long, size))))

-- ---- the words of the value

value_laid : (n p : ℕ) (entry l : List ℕ) → entry_field n l p 4 ≡ 0 → entry_field n l p 5 ≡ 0 → entry_offset n p 5 < length l → (entry_field n (laid n (body p entry) l) p 4 ≡ slice_index entry 4) × (entry_field n (laid n (body p entry) l) p 5 ≡ slice_index entry 5)
value_laid n p entry l no_kind no_payload long =
    let word : ℕ → ℕ = slice_index entry in
    let one : List Access = PutEntry p 1 (word 1) ∷ [] in
    let three : List Access = unless_zero p 3 (word 3) ++ one in
    let four : List Access = unless_zero p 4 (word 4) ++ three in
    let five : List Access = unless_zero p 5 (word 5) ++ four in
    let size1 = length-set l (entry_offset n p 1) (word 1) in
    let size3 = laid_long n p 3 (word 3) one l in
    let size4 = laid_long n p 4 (word 4) three l in (
      get_or-set_other (laid n five l) (entry_offset n p 6) (entry_offset n p 4) (word 6) 0 (λ e. absurd (omega (arith, e)))
          ∙ (laid_other n p 5 4 (word 5) four l (λ e. absurd (omega (arith, e)))
          ∙ laid_here n p 4 (word 4) three l
          (laid_other n p 3 4 (word 3) one l (λ e. absurd (omega (arith, e))) ∙ (get_or-set_other l (entry_offset n p 1) (entry_offset n p 4) (word 1) 0 (λ e. absurd (omega (arith, e))) ∙ no_kind))
          (omega (arith, long, size1, size3))),
      get_or-set_other (laid n five l) (entry_offset n p 6) (entry_offset n p 5) (word 6) 0 (λ e. absurd (omega (arith, e)))
          ∙ laid_here n p 5 (word 5) four l
          (laid_other n p 4 5 (word 4) three l (λ e. absurd (omega (arith, e)))
          ∙ (laid_other n p 3 5 (word 3) one l (λ e. absurd (omega (arith, e))) ∙ (get_or-set_other l (entry_offset n p 1) (entry_offset n p 5) (word 1) 0 (λ e. absurd (omega (arith, e))) ∙ no_payload)))
          (omega (arith, long, size1, size3, size4)),
    )

-- the pair whose entry a key gets
abbrev pub pair_for : List ℕ → Content → Key → Stored → Pair
pair_for texts d key stored = record { hash = hash_of texts key; key = key; value = stored; serial = serial_of d }

-- the words of the key's entry, put after those that were used
module _ (laws : PlaceLaws) (texts before block words : List ℕ) (class fill slot : ℕ) (is_class : IsClass class) (key : Key) (fits : FitsKey key) (low : hash_of texts key < 2 ^ 64) where
  abbrev mask : ℕ
  mask = class_mask class

  pub stands_added : (d : Content) (stored : Stored) → StoresAs (kind_of d) stored → FitsStored stored → StandsAs texts before words (use_with class fill) d → fill < rows (kind_of d) class → IsHeldAt d key None → FirstFree words (walk_slots (way_of d) (hash_of texts key) mask) (Some slot)
      → IsBlock block (Some class) (length_of d + 1) (fill + 1) (serial_of d + 1)
      → StandsAs texts block (after mask (place_puts slot fill (entry_words (pair_for texts d key stored))) words) (use_with class (fill + 1)) (with_key d key stored) × (kind_of (with_key d key stored) ≡ kind_of d)
  unfolding places
  stands_added (content.Dict pairs) (Plain value) stores ok is inside absent free head =
      let none = subst (All (λ (e : UsedEntry). e.key ≢ key)) (sym is.entries.live) (none_used used_pair pairs.pairs key absent) in
      let pair = pair_for texts (content.Dict pairs) key (Plain value) in
      let filled = is.filled in
      let some = slots_of_class class in
      let adds = laws.placed way.Dict mask fill slot pair words (mask_is class mask is_class refl) low (fits, ok) (dict_inside inside) free in
      let table = adds texts is.used is.table is.filled refl none is.entries.below in
      let made = laws.pair_added texts block (after mask (place_puts slot fill (entry_words pair)) words) class is.used pairs key value is.entries none (subst (λ (z : ℕ). IsBlock block (Some class) (length pairs.pairs + 1) (z + 1) (pairs.next + 1)) (sym filled) head) table in
      (subst (λ (z : ℕ). IsDictWords texts block (after mask (place_puts slot fill (entry_words pair)) words) (Some class) (z + 1) (dict_set pairs key value)) filled made, refl)
    where
      dict_inside : fill < places class → fill < dict_room mask
      dict_inside h = let p = slots_range class is_class in let a = p.0 in let e : mask + 1 ≡ 2 ^ class = omega (arith, a) in subst (λ (z : ℕ). fill < 2 * z / 3) (sym e) h
  stands_added (content.Set elements) Empty stores ok is inside absent free head =
      let none = subst (All (λ (e : UsedEntry). e.key ≢ key)) (sym is.entries.live) (none_used used_element elements.elements key absent) in
      let pair = pair_for texts (content.Set elements) key Empty in
      let filled = is.filled in
      let adds = laws.placed way.Set mask fill slot pair words (mask_is class mask is_class refl) low (fits, ok) (set_inside inside) free in
      let table = adds texts is.used is.table is.filled refl none is.entries.below in
      let made = laws.element_added texts block (after mask (place_puts slot fill (entry_words pair)) words) class is.used elements key is.entries none (subst (λ (z : ℕ). IsBlock block (Some class) (length elements.elements + 1) (z + 1) (elements.next + 1)) (sym filled) head) table in
      (subst (λ (z : ℕ). IsSetWords texts block (after mask (place_puts slot fill (entry_words pair)) words) (Some class) (z + 1) (set_add elements key)) filled made, refl)
    where
      set_inside : fill < rows kind.Set class → fill < set_room mask
      set_inside h = let p = slots_range class is_class in let a = p.0 in let e : mask + 1 ≡ 2 ^ class = omega (arith, a) in subst (λ (z : ℕ). fill < 3 * z / 5) (sym e) h
  stands_added d stored stores ok is inside absent free head = absurd stores

-- what entries say under their keys, and that readers find it so after the commit
pub right_in : (first_pair : FirstEntriesArePairs) (first_element : FirstEntriesAreElements) (texts b l : List ℕ) (class fill : ℕ) (d : Content) → IsKeyed (kind_of d) → IsClass class → StandsAs texts b (0 ∷ 0 ∷ l) (use_with class fill) d → (p : ℕ) (key : Key) → p < rows (kind_of d) class → HasLiveKey (slots class) l p key → under d key ≡ said_of (slots class) l p
right_in first_pair first_element texts b l class fill (content.Dict pairs) keyed is_class is p key low live = dict.dict_right first_pair texts b class fill is_class pairs l is p key low live
right_in first_pair first_element texts b l class fill (content.Set elements) keyed is_class is p key low live = set.set_right first_element texts b class fill is_class elements l is p key low live
right_in first_pair first_element texts b l class fill (content.List values) keyed is_class is p key low live = absurd keyed
right_in first_pair first_element texts b l class fill (content.Deque deque) keyed is_class is p key low live = absurd keyed

clear_in : (first_pair : FirstEntriesArePairs) (first_element : FirstEntriesAreElements) (texts block before : List ℕ) (class fill more : ℕ) (d news : Content) (ws zs : List ℕ) → IsClass class → IsKeyed (kind_of d) → kind_of news ≡ kind_of d → StandsAs texts before (0 ∷ 0 ∷ ws) (use_with class fill) d → StandsAs texts block (0 ∷ 0 ∷ zs) (use_with class more) news
    → ((q w : ℕ) → q < rows (kind_of d) class → entry_field (slots class) zs q 0 % 2 ≡ 0 → w < 8 → entry_field (slots class) zs q w ≡ entry_field (slots class) ws q w) → OpensChanged (slots class) (rows (kind_of d) class) zs (under d) (under news) → ClearAs (kind_of d) texts class zs d news
clear_in first_pair first_element texts block before class fill more (content.Dict pairs) (content.Dict news) ws zs is_class keyed same_kind says now same opens = dict.dict_clear first_pair texts block before class fill more is_class pairs news ws zs says now same opens
clear_in first_pair first_element texts block before class fill more (content.Set elements) (content.Set news) ws zs is_class keyed same_kind says now same opens = set.set_clear first_element texts block before class fill more is_class elements news ws zs says now same opens
clear_in first_pair first_element texts block before class fill more (content.Dict pairs) (content.Set news) ws zs is_class keyed same_kind says now same opens = absurd (cc)
clear_in first_pair first_element texts block before class fill more (content.Dict pairs) (content.List news) ws zs is_class keyed same_kind says now same opens = absurd (cc)
clear_in first_pair first_element texts block before class fill more (content.Dict pairs) (content.Deque news) ws zs is_class keyed same_kind says now same opens = absurd (cc)
clear_in first_pair first_element texts block before class fill more (content.Set elements) (content.Dict news) ws zs is_class keyed same_kind says now same opens = absurd (cc)
clear_in first_pair first_element texts block before class fill more (content.Set elements) (content.List news) ws zs is_class keyed same_kind says now same opens = absurd (cc)
clear_in first_pair first_element texts block before class fill more (content.Set elements) (content.Deque news) ws zs is_class keyed same_kind says now same opens = absurd (cc)
clear_in first_pair first_element texts block before class fill more (content.List values) news ws zs is_class keyed same_kind says now same opens = absurd keyed
clear_in first_pair first_element texts block before class fill more (content.Deque deque) news ws zs is_class keyed same_kind says now same opens = absurd keyed

-- nothing is under a key that isn't there
lacks_key : (texts b l : List ℕ) (class fill : ℕ) (d : Content) → IsKeyed (kind_of d) → StandsAs texts b (0 ∷ 0 ∷ l) (use_with class fill) d → (key : Key) → FitsKey key → IsHeldAt d key None → under d key ≡ []
lacks_key texts b l class fill (content.Dict pairs) keyed is key fits absent = dict_lacks pairs key fits (dict_fits_words texts b (0 ∷ 0 ∷ l) class fill pairs is) absent
lacks_key texts b l class fill (content.Set elements) keyed is key fits absent = set_lacks elements key fits (set_fits_words texts b (0 ∷ 0 ∷ l) class fill elements is) absent
lacks_key texts b l class fill (content.List values) keyed is key fits absent = absurd keyed
lacks_key texts b l class fill (content.Deque deque) keyed is key fits absent = absurd keyed

-- versions of entries, by the kind of the container
pub entry_shut : (kind : Kind) → IsKeyed kind → (c m : ℕ) (l : List ℕ) → Shut (version_at kind c) m l → Shut (λ q. entry_offset (slots c) q 0) m l
entry_shut kind.Dict keyed c m l h = h
entry_shut kind.Set keyed c m l h = h
entry_shut kind.List keyed c m l h = absurd keyed
entry_shut (kind.Deque bound) keyed c m l h = absurd keyed

pub kind_shut : (kind : Kind) → IsKeyed kind → (c m : ℕ) (l : List ℕ) → Shut (λ q. entry_offset (slots c) q 0) m l → Shut (version_at kind c) m l
kind_shut kind.Dict keyed c m l h = h
kind_shut kind.Set keyed c m l h = h
kind_shut kind.List keyed c m l h = absurd keyed
kind_shut (kind.Deque bound) keyed c m l h = absurd keyed

-- ---- all of it

-- What a new key asks of the words of a container whose root names the table t: they stand for the content, but that
-- the block may count other entries that were used; the slot is the first for the key that was never used.
pub record Fresh (texts : List ℕ) (x : ContainerWords) (t slot : ℕ) (counts : Counts) (d : Content) (key : Key) (stored : Stored) : Type 0 where
  pub is_class : IsClass (class_of t)
  pub keyed : IsKeyed (kind_of d)
  pub fits : FitsKey key
  pub low : hash_of texts key < 2 ^ 64
  pub stores : StoresAs (kind_of d) stored
  pub ok : FitsStored stored
  pub before : List ℕ
  pub says : StandsAs texts before (0 ∷ 0 ∷ x.table) (use_with (class_of t) counts.fill) d
  pub had : ℕ
  pub head : IsBlock x.block (Some (class_of t)) (length_of d) had (serial_of d)
  pub count_is : counts.count ≡ length_of d
  pub room : counts.fill < rows (kind_of d) (class_of t)
  pub long : slots (class_of t) + 8 * rows (kind_of d) (class_of t) ≤ length x.table
  pub in_index : slot < slots (class_of t)
  pub free : FirstFree (0 ∷ 0 ∷ x.table) (walk_slots (way_of d) (hash_of texts key) (class_mask (class_of t))) (Some slot)
  pub absent : IsHeldAt d key None
  pub even : entry_field (slots (class_of t)) x.table counts.fill 0 % 2 ≡ 0

module _ (laws : PlaceLaws) (texts : List ℕ) (x : ContainerWords) (t slot : ℕ) (counts : Counts) (d : Content) (key : Key) (stored : Stored) (fresh : Fresh texts x t slot counts d key stored) where
  abbrev c : ℕ
  c = class_of t

  abbrev n : ℕ
  n = slots c

  abbrev m : ℕ
  m = rows (kind_of d) c

  abbrev p : ℕ
  p = counts.fill

  abbrev ws : List ℕ
  ws = x.table

  abbrev pair : Pair
  pair = pair_for texts d key stored

  abbrev y : ContainerWords
  y = with_entry t slot counts pair x

  abbrev news : Content
  news = with_key d key stored

  abbrev ver : ℕ
  ver = entry_field n ws p 0

  size_is : n ≡ class_mask c + 1
  size_is = slots_of_class c

  slot_free : index_field ws slot ≡ 0
  slot_free = sym (after_header ws slot) ∙ fresh.free.4

  pub place_unused : IsUnused n m ws slot p
  place_unused = record {
    low = fresh.room;
    in_index = fresh.in_index;
    long = fresh.long;
    even = fresh.even;
    none = next_unused laws.first_pair laws.first_element texts fresh.before ws c p d fresh.keyed fresh.is_class fresh.says fresh.room;
    stores = next_stores laws.first_pair laws.first_element texts fresh.before ws c p d fresh.keyed fresh.is_class fresh.says fresh.room;
    free = slot_free;
  }

  abbrev ow : List ℕ
  ow = slice_set ws (entry_offset n p 0) (ver + 1)

  abbrev l : List ℕ
  l = laid n (body p (entry_words pair)) ow

  new_block : IsBlock y.block (Some c) (length_of d + 1) (p + 1) (serial_of d + 1)
  new_block = subst (λ (z : ℕ). IsBlock (counted x.block (counts.count + 1) (p + 1) (serial_of d + 1)) (Some c) (z + 1) (p + 1) (serial_of d + 1)) fresh.count_is (counted_head x.block (Some c) (length_of d) fresh.had (serial_of d) (counts.count + 1) (p + 1) (serial_of d + 1) fresh.head)

  -- what the words stand for then
  pub now : StandsAs texts y.block (0 ∷ 0 ∷ y.table) (use_with c (p + 1)) news × (kind_of news ≡ kind_of d)
  now =
      let open_says = stands_raised laws.versions texts fresh.before ws c p d fresh.keyed fresh.is_class fresh.says p (ver + 1) in
      let free = still_free (class_mask c) n p (ver + 1) ws (way_of d) (hash_of texts key) slot size_is fresh.in_index fresh.free in
      let made = stands_added laws texts fresh.before y.block (0 ∷ 0 ∷ ow) c p slot fresh.is_class key fresh.fits fresh.low d stored fresh.stores fresh.ok open_says fresh.room fresh.absent free new_block in
      (subst (λ (z : List ℕ). StandsAs texts y.block z (use_with c (p + 1)) news) (laid_after (class_mask c) n size_is (place_puts slot p (entry_words pair)) ow) made.0, made.1)

  keyed_news : IsKeyed (kind_of news)
  keyed_news = subst IsKeyed (sym now.1) fresh.keyed

  abbrev un : IsUnused n m ws slot p
  un = place_unused

  pub opened_now : entry_field n y.table p 0 ≡ ver + 1
  opened_now =
      let s = body_stage n m ws slot p un (body p (entry_words pair)) (body_puts p (entry_words pair)) in
      let in_index = un.in_index in
      get_or-set_other (slice_set l (entry_offset n p 2) (key_kind key)) slot (entry_offset n p 0) (p + 1) 0 (λ e. absurd (omega (arith, e, in_index)))
      ∙ (get_or-set_other l (entry_offset n p 2) (entry_offset n p 0) (key_kind key) 0 (λ e. absurd (omega (arith, e))) ∙ s.ver_is)

  next : ver + 2 ≡ entry_field n y.table p 0 + 1
  next = let o = opened_now in omega (arith, o)

  same : (q w : ℕ) → q < m → entry_field n y.table q 0 % 2 ≡ 0 → w < 8 → entry_field n y.table q w ≡ entry_field n ws q w
  same = new_same n m ws p slot un.low un.in_index un.long un.even un.none un.free key l (body_stage n m ws slot p un (body p (entry_words pair)) (body_puts p (entry_words pair)))

  right : (key : Key) → HasLiveKey n y.table p key → under news key ≡ said_of n y.table p
  right a live =
      let low : p < rows (kind_of news) c = subst (λ (z : Kind). p < rows z c) (sym now.1) fresh.room in
      right_in laws.first_pair laws.first_element texts y.block y.table c (p + 1) news keyed_news fresh.is_class now.0 p a low live

  close : CarefulAs (kind_of d) c y.table news (entry_offset n p 0) (entry_field n y.table p 0 + 1)
  close =
      let s = body_stage n m ws slot p un (body p (entry_words pair)) (body_puts p (entry_words pair)) in
      subst (λ (z : ℕ). CarefulAs (kind_of d) c y.table news (entry_offset n p 0) z) next
      (as_careful (kind_of d) fresh.keyed c y.table news (entry_offset n p 0) (ver + 2) (new_late n m ws p slot un.low un.in_index un.long un.even un.none un.free key l s (under news) right))

  shut_then : Shut (version_at (kind_of d) c) m ws → Shut (version_at (kind_of d) c) m (raised_at t p y).table
  shut_then shut =
      let s = body_stage n m ws slot p un (body p (entry_words pair)) (body_puts p (entry_words pair)) in
      subst (λ (z : ℕ). Shut (version_at (kind_of d) c) m (slice_set y.table (entry_offset n p 0) z)) next
      (kind_shut (kind_of d) fresh.keyed c m (slice_set y.table (entry_offset n p 0) (ver + 2)) (new_shut n m ws p slot un.low un.in_index un.long un.even un.none un.free key l s (entry_shut (kind_of d) fresh.keyed c m ws shut)))

  payload_is : entry_field n l p 3 ≡ key_payload key
  payload_is =
      let size = length-set ws (entry_offset n p 0) (ver + 1) in
      let long = fresh.long in
      let low = fresh.room in
      let none : entry_field n ow p 3 ≡ 0 = get_or-set_other ws (entry_offset n p 0) (entry_offset n p 3) (ver + 1) 0 (λ e. absurd (omega (arith, e))) ∙ next_payload laws.first_pair laws.first_element texts fresh.before ws c p d fresh.keyed fresh.is_class fresh.says fresh.room in
      payload_laid n p (entry_words pair) ow none (omega (arith, size, long, low))

  -- the entry has the key and what is stored there
  pub said_now : HasLiveKey n y.table p key × (entry_field n y.table p 4 ≡ stored_kind stored) × (entry_field n y.table p 5 ≡ stored_payload stored)
  said_now =
      let s = body_stage n m ws slot p un (body p (entry_words pair)) (body_puts p (entry_words pair)) in
      let in_index = un.in_index in
      let size = s.size in
      let low = fresh.room in
      let long = fresh.long in
      let raised = length-set ws (entry_offset n p 0) (ver + 1) in
      let second : List ℕ = slice_set l (entry_offset n p 2) (key_kind key) in
      let past : (w : ℕ) → w ≢ 2 → entry_field n y.table p w ≡ entry_field n l p w =
      λ w ne. get_or-set_other second slot (entry_offset n p w) (p + 1) 0 (λ e. absurd (omega (arith, e, in_index))) ∙ get_or-set_other l (entry_offset n p 2) (entry_offset n p w) (key_kind key) 0 (λ e. ne (omega (arith, e))) in
      let four : entry_field n ow p 4 ≡ 0 = get_or-set_other ws (entry_offset n p 0) (entry_offset n p 4) (ver + 1) 0 (λ e. absurd (omega (arith, e))) ∙ next_stores laws.first_pair laws.first_element texts fresh.before ws c p d fresh.keyed fresh.is_class fresh.says fresh.room in
      let five : entry_field n ow p 5 ≡ 0 = get_or-set_other ws (entry_offset n p 0) (entry_offset n p 5) (ver + 1) 0 (λ e. absurd (omega (arith, e))) ∙ next_value laws.first_pair laws.first_element texts fresh.before ws c p d fresh.keyed fresh.is_class fresh.says fresh.room in
      let value = value_laid n p (entry_words pair) ow four five (omega (arith, raised, long, low)) in (
        (
          get_or-set_other second slot (entry_offset n p 2) (p + 1) 0 (λ e. absurd (omega (arith, e, in_index))) ∙ get_or-set_same l (entry_offset n p 2) (key_kind key) 0 (omega (arith, size, low)),
          past 3 (λ e. absurd (omega (arith, e))) ∙ payload_is,
        ),
        past 4 (λ e. absurd (omega (arith, e))) ∙ value.0,
        past 5 (λ e. absurd (omega (arith, e))) ∙ value.1,
      )

  -- nothing was under the key
  pub lacks : under d key ≡ []
  lacks = lacks_key texts fresh.before ws c p d fresh.keyed fresh.says key fresh.fits fresh.absent

  opens : Shut (version_at (kind_of d) c) m ws → OpensChanged n m y.table (under d) (under news)
  opens shut =
      let s = body_stage n m ws slot p un (body p (entry_words pair)) (body_puts p (entry_words pair)) in
      new_opens n m ws p slot un.low un.in_index un.long un.even un.none un.free key l s (under d) (under news) payload_is (entry_shut (kind_of d) fresh.keyed c m ws shut) lacks right

  pub places_key : Shut (version_at (kind_of d) c) m ws → (was : TableUse) → Changing texts t y (record { content = d; table = was }) p [] (record { content = news; table = use_with c (p + 1) })
  places_key shut was = record {
    puts = tt;
    clear = clear_in laws.first_pair laws.first_element texts y.block fresh.before c p (p + 1) d news ws y.table fresh.is_class fresh.keyed now.1 fresh.says now.0 same (opens shut);
    odd = let o = opened_now in let e = un.even in omega (arith, o, e);
    close = close;
    stands = stands_raised laws.versions texts y.block y.table c (p + 1) news keyed_news fresh.is_class now.0 p (entry_field n y.table p 0 + 1);
    shut = shut_then shut;
  }
