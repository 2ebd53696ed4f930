-- That another value may be put at a key of a dict by a pass that has its lock, as a whole write.
use Rattle.std.proofs.Common.{◌≡◌, ◌≢◌, ℕ, suc, ◌+◌, ◌-◌, ◌*◌, ◌%◌, ◌<◌, ◌≤◌, Bool, true, false, List, [], ◌∷◌, length, find, Option, Some, None, refl, sym, ap, ◌∙◌, subst, inr, arith, get_or-set_same}
use Rattle.std.specs.Prelude.{◌&&◌, ◌||◌, All, IsTrue, slice_index_or, slice_set, slice_get, option_map, if◌then◌else◌}
use Rattle.std.proofs.lemmas.Bool.{le-ltb}
use Rattle.ft_model.specs.declared.call.Call.{Call}
use Rattle.ft_model.specs.declared.call.Call.TheVariants as call
use Rattle.ft_model.specs.declared.call.DictCall.TheVariants as dict
use Rattle.ft_model.specs.declared.content.Content.{Content}
use Rattle.ft_model.specs.declared.content.Content.TheVariants as content
use Rattle.ft_model.specs.declared.content.DictPair.{DictPair}
use Rattle.ft_model.specs.declared.data.Key.{Key}
use Rattle.ft_model.specs.declared.data.Value.{Value}
use Rattle.ft_model.specs.declared.reply.Reply.TheVariants as reply
use Rattle.ft_model.specs.declared.script.Kind.TheVariants as kind
use Rattle.ft_model.specs.Answers.{answer, answer_dict, puts, after_write}
use Rattle.ft_model.specs.Classes.{IsClass, dict_class, most_pairs}
use Rattle.ft_model.specs.Contents.{DictContent, IsDict, dict_get, dict_set, empty_dict}
use Rattle.ft_model.specs.Worlds.{kind_of, dict_of, dict_at, no_hands}
use Rattle.ft_model.specs.TableUses.{TableUse, StoredWorld, no_table, stored_newest, takes_in, table_at, outgrows_dict, grown_table, passes_cap, would_pass, after_stored}
use Rattle.ft_hash.specs.Probes.{dict_slots, set_slots}
use Rattle.ft_hash.proofs.Walks.{dict_slots-within, set_slots-within}
use Rattle.ft_layout.specs.declared.slot.Stored.TheVariants.{Plain}
use Rattle.ft_layout.specs.Words.{FitsKey, FitsStored, stored_kind, stored_payload}
use Rattle.ft_layout.specs.Tables.{UsedEntry, is_live, dict_room, set_room, IsTable, IsDictTable}
use Rattle.ft_layout.specs.Tables as layout
use Rattle.ft_layout.specs.WordChanges.{with_stored}
use Rattle.ft_layout.specs.Containers.{class_mask, used_pair, AreDictEntries, IsDictWords, StandsAs}
use Rattle.ft_layout.proofs.ContentLaws.{stands_for_dict}
use Rattle.ft_layout.proofs.FieldLaws.{sizes_of_class}
use Rattle.ft_layout.proofs.Powers.{slots_range}
use Rattle.ft_layout.proofs.WordLaws.{same_key}
use Rattle.ft_trace.specs.declared.Shape.{Shape}
use Rattle.ft_trace.specs.declared.Snap.{Snap}
use Rattle.ft_trace.specs.declared.View.{View}
use Rattle.ft_trace.specs.Addresses.{container_count, class_of, slots, places, size}
use Rattle.ft_trace.specs.Acts.{has_lock}
use Rattle.ft_trace.specs.Pictures.{root_in, index_field, entry_offset, entry_field, walk_of}
use Rattle.ft_trace.specs.Carefuls.{said_of, HasLiveKey, Reached, Clear, OpensChanged}
use Rattle.ft_trace.specs.Kinds.{under, version_at, IsKeyed}
use Rattle.ft_trace.specs.OddVersions.{Shut}
use Rattle.ft_trace.specs.Holds.{held_unboxed, known_state, AgreesWith}
use Rattle.ft_trace.specs.Traces.{IsReachable}
use Rattle.ft_trace.specs.Grants.{MayWrite}
use Rattle.ft_trace.specs.WholeWrites.{to_table, MayPut, MayPuts, WholeWrite, at_commit, at_end, after_write_of, to_value}
use Rattle.ft_trace.proofs.Cases.{off}
use Rattle.ft_trace.proofs.ValuePlaces.{plain_kind, entry_far}
use Rattle.ft_trace.specs.EntryWrites.{value_puts, entry_closed, dict_set_write, ValuesMayBePut, MayStandIn}
use Rattle.ft_trace.proofs.Known.{in_bank, table_is_long, after_header}
use Rattle.ft_trace.proofs.Tellings.{live_tells, live_is_right, live_below, few_live, key_words, key_reached, key_named, words_clear}
use Rattle.ft_trace.proofs.EntryPuts.{value_open, value_clear, value_late, value_shut, value_time, ver1}
use Rattle.ft_trace.proofs.ListWrites.{may_begin}
use Rattle.ft_trace.proofs.Naming.{one_locked}
use Rattle.ft_model.proofs.SplitDicts.{unsplit_takes, unsplit_leaves}
use Rattle.ft_trace.proofs.KnownContents.{use_of, known_use, known_says, known_shut, in_tables, content_there, table_there, keys_there, content_left}
use Rattle.ft_trace.proofs.WriteFacts.{facts_suffice}
use Rattle.ft_trace.proofs.LookReplies.{value_said}
use Rattle.ft_trace.proofs.FitCalls.{dict_fits_words}

-- ---- laws of tables and of their dicts, as they are cited

abbrev pub EntryVersionsChangeNothing : Type 0
EntryVersionsChangeNothing = (walk : ℕ → List ℕ) (room : ℕ) (texts : List ℕ) (mask : ℕ) (used : List UsedEntry) (words : List ℕ) (place version : ℕ) → ((hash : ℕ) → All (λ slot. slot ≤ mask) (walk hash)) → IsTable walk room texts mask used words → IsTable walk room texts mask used (slice_set words (layout.entry_at mask place 0) version)

abbrev pub WordsFollowAValue : Type 0
WordsFollowAValue =
    (texts block words : List ℕ) (class fill : ℕ) (pairs : DictContent) (says : IsDictWords texts block words (Some class) fill pairs) (place : ℕ) (pair : DictPair) (value : Value) → slice_get says.used place ≡ Some (used_pair pair) → FitsStored (Plain value)
    → IsDictWords texts block (with_stored (class_mask class) words place (Plain value)) (Some class) fill (dict_set pairs pair.key value)

abbrev pub LiveEntriesArePairs : Type 0
LiveEntriesArePairs = (used : List UsedEntry) (pairs : DictContent) (place : ℕ) (entry : UsedEntry) → AreDictEntries used pairs → IsDict pairs.next pairs.pairs → slice_get used place ≡ Some entry → IsTrue (is_live entry) → (pair : DictPair) × (entry ≡ used_pair pair) × (dict_get pairs.pairs pair.key ≡ Some pair.value)

abbrev pub ValuesKeepSerials : Type 0
ValuesKeepSerials =
    (used : List UsedEntry) (pairs : DictContent) (place : ℕ) (pair : DictPair) (value : Value) → AreDictEntries used pairs → IsDict pairs.next pairs.pairs → slice_get used place ≡ Some (used_pair pair)
    → (length (dict_set pairs pair.key value).pairs ≡ length pairs.pairs) × ((dict_set pairs pair.key value).next ≡ pairs.next)

abbrev pub FirstEntriesArePairs : Type 0
FirstEntriesArePairs = (used : List UsedEntry) (pairs : DictContent) (test : UsedEntry → Bool) → AreDictEntries used pairs → find (λ entry. is_live entry && test entry) used ≡ option_map used_pair (find (λ pair. test (used_pair pair)) pairs.pairs)

-- ---- the version of an entry may be put

table_version : EntryVersionsChangeNothing → (walk : ℕ → List ℕ) (room : ℕ) (texts : List ℕ) (c : ℕ) → IsClass c → (used : List UsedEntry) (l : List ℕ) (place x : ℕ) → ((hash : ℕ) → All (λ slot. slot ≤ class_mask c) (walk hash)) → IsTable walk room texts (class_mask c) used (0 ∷ 0 ∷ l) → IsTable walk room texts (class_mask c) used (0 ∷ 0 ∷ slice_set l (entry_offset (slots c) place 0) x)
unfolding slots
table_version versions walk room texts c is_class used l place x within table =
    let r = (slots_range c is_class).0 in
    subst (λ (z : List ℕ). IsTable walk room texts (class_mask c) used z) (after_header l (layout.entry_at (class_mask c) place 0) (entry_offset (slots c) place 0) x (omega (arith, r))) (versions walk room texts (class_mask c) used (0 ∷ 0 ∷ l) place x within table)

pub version_stands : EntryVersionsChangeNothing → (texts block l : List ℕ) (c fill place x : ℕ) → IsClass c → (d : Content) → IsKeyed (kind_of d) → StandsAs texts block (0 ∷ 0 ∷ l) (record { class = Some c; fill = fill; keys = [] }) d → StandsAs texts block (0 ∷ 0 ∷ slice_set l (entry_offset (slots c) place 0) x) (record { class = Some c; fill = fill; keys = [] }) d
version_stands versions texts block l c fill place x is_class (content.Dict pairs) keyed is =
    record { head = is.head; used = is.used; table = table_version versions (λ hash. dict_slots hash (class_mask c) (class_mask c + 14)) (dict_room (class_mask c)) texts c is_class is.used l place x (λ hash. dict_slots-within hash (class_mask c) (class_mask c + 14)) is.table; filled = is.filled; entries = is.entries }
version_stands versions texts block l c fill place x is_class (content.Set elements) keyed is =
    record { head = is.head; used = is.used; table = table_version versions (λ hash. set_slots hash (class_mask c) (class_mask c + 14)) (set_room (class_mask c)) texts c is_class is.used l place x (λ hash. set_slots-within hash (class_mask c) (class_mask c + 14)) is.table; filled = is.filled; entries = is.entries }
version_stands versions texts block l c fill place x is_class (content.List values) keyed is = absurd keyed
version_stands versions texts block l c fill place x is_class (content.Deque deque) keyed is = absurd keyed

-- ---- what words that stand for a dict say under its keys

module _ (first : FirstEntriesArePairs) (texts block : List ℕ) (c fill : ℕ) (is_class : IsClass c) (pairs : DictContent) (ws : List ℕ) (says : IsDictWords texts block (0 ∷ 0 ∷ ws) (Some c) fill pairs) where
  abbrev tried : ℕ → List ℕ
  tried hash = dict_slots hash (class_mask c) (class_mask c + 14)

  pub room_is : dict_room (class_mask c) ≡ places c
  unfolding places
  room_is = (sizes_of_class c is_class).0

  pub dict_right : (p : ℕ) (key : Key) → p < places c → HasLiveKey (slots c) ws p key → under (content.Dict pairs) key ≡ said_of (slots c) ws p
  dict_right p key low live = live_is_right tried (dict_room (class_mask c)) texts c is_class says.used ws says.table used_pair pairs.pairs (λ test. first says.used pairs test says.entries) p key (let r = room_is in omega (arith, r, low)) live

  pub dict_live : (key : Key) → under (content.Dict pairs) key ≢ [] → (p : ℕ) × (p < places c) × HasLiveKey (slots c) ws p key
  dict_live key some = live_below tried (dict_room (class_mask c)) texts c is_class says.used ws says.table used_pair pairs.pairs (λ test. first says.used pairs test says.entries) (places c) (let r = room_is in omega (arith, r)) key some

  within_mask : (hash : ℕ) → All (λ slot. slot ≤ class_mask c) (tried hash)
  within_mask hash = dict_slots-within hash (class_mask c) (class_mask c + 14)

  pub dict_reached : (key : Key) → FitsKey key → under (content.Dict pairs) key ≢ [] → Reached (slots c) (places c) ws (walk_of kind.Dict texts c key) key
  unfolding walk_of
  dict_reached key fits some = key_reached tried (dict_room (class_mask c)) texts c is_class says.used ws says.table within_mask used_pair pairs.pairs (λ test. first says.used pairs test says.entries) (places c) (let r = room_is in omega (arith, r)) key fits some

  pub dict_named : (s p : ℕ) → s < slots c → index_field ws s ≡ suc p → entry_field (slots c) ws p 2 ≢ 0
  dict_named s p less names = key_named tried (dict_room (class_mask c)) texts c is_class says.used ws says.table within_mask s p less names

  -- no more pairs than entries, and so than the largest table has
  pub dict_short : length pairs.pairs ≤ most_pairs
  dict_short =
      let a = few_live tried (dict_room (class_mask c)) texts c is_class says.used ws says.table used_pair pairs.pairs says.entries.live in
      let e = (sizes_of_class c is_class).0 in
      let r = (slots_range c is_class).1 in
      omega (arith, a, e, r)

-- words that stand for what a call leaves, where entries with even versions are as they were while they stood for what
-- it found
pub dict_clear : (first : FirstEntriesArePairs) (texts block before : List ℕ) (c fill more : ℕ) (is_class : IsClass c) (pairs news : DictContent) (ws zs : List ℕ) (says : IsDictWords texts before (0 ∷ 0 ∷ ws) (Some c) fill pairs) (now : IsDictWords texts block (0 ∷ 0 ∷ zs) (Some c) more news)
    → ((q w : ℕ) → q < places c → entry_field (slots c) zs q 0 % 2 ≡ 0 → w < 8 → entry_field (slots c) zs q w ≡ entry_field (slots c) ws q w) → OpensChanged (slots c) (places c) zs (under (content.Dict pairs)) (under (content.Dict news)) → Clear (walk_of kind.Dict texts c) (slots c) (places c) zs (under (content.Dict pairs)) (under (content.Dict news))
dict_clear first texts block before c fill more is_class pairs news ws zs says now same opens =
    words_clear (walk_of kind.Dict texts c) (slots c) (places c) ws zs (under (content.Dict pairs)) (under (content.Dict news)) (dict_right first texts before c fill is_class pairs ws says) (dict_right first texts block c more is_class news zs now) (dict_reached first texts block c more is_class news zs now) same opens

-- ---- d[k] = v, in each history that agrees with what a pass with the lock of the dict knows

module _ (v : View) (o : ℕ) (pairs : DictContent) (low : o < container_count v.shape) (mine : has_lock o v.log ≡ true) (is_dict : (known_state o v).content ≡ content.Dict pairs) (calls : List Call) (agree : AgreesWith v (stored_newest v.shape.starts calls)) where
  abbrev stored : StoredWorld
  stored = stored_newest v.shape.starts calls

  pub dict_found : dict_at stored.world o ≡ pairs
  dict_found = ap dict_of (content_there v o (content.Dict pairs) low mine is_dict calls agree (content.Dict empty_dict))

  module _ (key : Key) (value : Value) where
    abbrev news_is : DictContent
    news_is = dict_set pairs key value

    abbrev set_call : Call
    set_call = call.Dict o (dict.Set key value)

    pub dict_answered : answer stored.world no_hands set_call ≡ puts stored.world no_hands o (content.Dict news_is) reply.Done
    dict_answered = ap (λ (z : DictContent). answer_dict stored.world no_hands o z (dict.Set key value)) dict_found

    dict_left_at : (d : Content) → slice_index_or (after_write stored.world set_call) o d ≡ content.Dict news_is
    dict_left_at = content_left v o (content.Dict pairs) low mine is_dict calls agree set_call reply.Done (content.Dict news_is) dict_answered

    pub dict_left : dict_at (after_write stored.world set_call) o ≡ news_is
    dict_left = ap dict_of (dict_left_at (content.Dict empty_dict))

    pub dict_passes_not : length news_is.pairs ≤ most_pairs → would_pass stored.world set_call ≡ false
    dict_passes_not short = ap (λ (z : Content). passes_cap z || false) (dict_left_at (content.List [])) ∙ ap (λ (z : Bool). z || false) (le-ltb most_pairs (length news_is.pairs) short)

-- ---- d[k] = v, where the key is there

module _ (versions : EntryVersionsChangeNothing) (follow : WordsFollowAValue) (lives : LiveEntriesArePairs) (serials : ValuesKeepSerials) (first : FirstEntriesArePairs) (v : View) (o t place : ℕ) (key : Key) (box : Option ℕ) (value : Value) (pairs : DictContent) (may : MayWrite v o) (is_dict : (known_state o v).content ≡ content.Dict pairs) (names : root_in (held_unboxed o v) ≡ suc t)
    (low : place < places (class_of t)) (live : HasLiveKey (slots (class_of t)) (held_unboxed o v).table place key) (fits_key : FitsKey key) (fits : FitsStored (Plain value)) (differs : dict_get pairs.pairs key ≢ Some value) (stands : MayStandIn v box value) where
  abbrev k : Shape
  k = v.shape

  abbrev c : ℕ
  c = class_of t

  abbrev n : ℕ
  n = slots c

  abbrev m : ℕ
  m = places c

  abbrev ws : List ℕ
  ws = (held_unboxed o v).table

  abbrev b : List ℕ
  b = (held_unboxed o v).block

  abbrev fill : ℕ
  fill = (known_state o v).table.fill

  abbrev news : DictContent
  news = dict_set pairs key value

  abbrev called : Call
  called = call.Dict o (dict.Set key value)

  abbrev write : WholeWrite
  write = dict_set_write v o t place key box value

  class_is : IsClass c
  class_is = (in_bank v o t may.low may.possible may.mine names).0

  long : n + 8 * m ≤ length ws
  long = let l = table_is_long v o t names in omega (arith, l)

  says : IsDictWords k.texts b (0 ∷ 0 ∷ ws) (Some c) fill pairs
  says = known_says v o t (content.Dict pairs) may is_dict names

  shut : Shut (λ q. entry_offset n q 0) m ws
  shut = known_shut v o t (content.Dict pairs) may is_dict names

  -- the pair that the entry is of
  in_order : IsDict pairs.next pairs.pairs
  in_order = stands_for_dict k.texts b (0 ∷ 0 ∷ ws) (Some c) fill pairs says

  abbrev walk : ℕ → List ℕ
  walk hash = dict_slots hash (class_mask c) (class_mask c + 14)

  mine : (pair : DictPair) × (slice_get says.used place ≡ Some (used_pair pair)) × (pair.key ≡ key)
  mine =
      let room : dict_room (class_mask c) ≡ m = room_is first k.texts b c fill class_is pairs ws says in
      let tells = live_tells walk (dict_room (class_mask c)) k.texts c class_is says.used ws says.table place key (omega (arith, room, low)) live in
      let l = lives says.used pairs place tells.entry says.entries in_order tells.at tells.live in
      let w = key_words tells.entry.key key tells.mine in
      (l.0, tells.at ∙ ap (λ (z : UsedEntry). Some z) l.1, ap (λ (z : UsedEntry). z.key) (sym l.1) ∙ same_key tells.entry.key key tells.fits fits_key w.0 w.1)

  next_is : news.next ≡ pairs.next
  next_is = ap (λ (z : Key). (dict_set pairs z value).next) (sym mine.2) ∙ (serials says.used pairs place mine.0 value says.entries in_order mine.1).1

  abbrev ver : ℕ
  ver = entry_field n ws place 0

  abbrev opened : List ℕ
  opened = slice_set ws (entry_offset n place 0) (ver + 1)

  open_says : IsDictWords k.texts b (0 ∷ 0 ∷ opened) (Some c) fill pairs
  open_says = version_stands versions k.texts b ws c fill place (ver + 1) class_is (content.Dict pairs) tt says

  abbrev put : List ℕ
  put = (at_commit v o write).table

  same_words : with_stored (class_mask c) (0 ∷ 0 ∷ opened) place (Plain value) ≡ 0 ∷ 0 ∷ put
  unfolding slots
  same_words =
      let r = (slots_range c class_is).0 in
      ap (λ (l : List ℕ). slice_set l (layout.entry_at (class_mask c) place 5) (stored_payload (Plain value))) (after_header opened (layout.entry_at (class_mask c) place 4) (entry_offset n place 4) (stored_kind (Plain value)) (omega (arith, r)))
      ∙ after_header (slice_set opened (entry_offset n place 4) (stored_kind (Plain value))) (layout.entry_at (class_mask c) place 5) (entry_offset n place 5) (stored_payload (Plain value)) (omega (arith, r))

  put_says : IsDictWords k.texts b (0 ∷ 0 ∷ put) (Some c) fill news
  unfolding open_says version_stands
  put_says =
      let used : slice_get open_says.used place ≡ Some (used_pair mine.0) = mine.1 in
      subst (λ (z : List ℕ × Key). IsDictWords k.texts b z.0 (Some c) fill (dict_set pairs z.1 value)) (λ d. (same_words d, mine.2 d)) (follow k.texts b (0 ∷ 0 ∷ opened) c fill pairs open_says place mine.0 value used fits)

  ends : IsDictWords k.texts b (0 ∷ 0 ∷ (at_end v o write).table) (Some c) fill news
  ends = version_stands versions k.texts b put c fill place (ver + 2) class_is (content.Dict news) tt put_says

  -- ---- the puts

  even : ver % 2 ≡ 0
  even = shut place low

  inside : (w : ℕ) → w < 8 → entry_offset n place w < size c
  inside w few = omega (arith, few, low)

  early : MayPuts kind.Dict t (content.Dict pairs) false (held_unboxed o v) (value_puts n ws place box value)
  early =
      let kind_word = stored_kind (Plain value) in
      let payload = stored_payload (Plain value) in
      let time = value_time n m ws (under (content.Dict pairs)) (under (content.Dict news)) place key kind_word payload low long even live (version_at kind.Dict c) (λ q. refl) in
      let first_ = ver1 n m ws (under (content.Dict pairs)) (under (content.Dict news)) place key kind_word payload low long even live in
      let odd1 : entry_field n opened place 0 % 2 ≡ 1 = let e = even in omega (arith, first_, e) in
      let p2 : MayPut kind.Dict t (content.Dict pairs) false (record { block = b; table = opened }) (to_value box (entry_offset n place 4) (entry_offset n place 5) kind_word payload) = (names, (place, low, refl, omega arith, odd1), plain_kind value, λ e. off e) in
      let p1 : MayPut kind.Dict t (content.Dict pairs) false (held_unboxed o v) (to_table (entry_offset n place 0) (ver + 1)) = (names, inside 0 (omega arith), value_open n m ws (under (content.Dict pairs)) (under (content.Dict news)) place key kind_word payload low long even live, time 0 (ver + 1) (omega arith) (λ _. let e = even in omega (arith, e)), entry_far c place 0 (omega arith) (λ z. omega (arith, z)) (λ z. omega (arith, z))) in
      (p1, (p2, tt))

  -- the words of the entry are of another value
  other : entry_field n ws place 4 ≡ stored_kind (Plain value) → entry_field n ws place 5 ≡ stored_payload (Plain value) → ⊥
  other kind_word payload =
      let words : under (content.Dict pairs) key ≡ said_of n ws place = dict_right first k.texts b c fill class_is pairs ws says place key low live in
      differs (value_said pairs key fits_key (dict_fits_words k.texts b (0 ∷ 0 ∷ ws) c fill pairs says) value fits (entry_field n ws place 4) (entry_field n ws place 5) (entry_field n ws place 6) words kind_word payload)

  clear : Clear (walk_of kind.Dict k.texts c) n m put (under (content.Dict pairs)) (under (content.Dict news))
  clear =
      value_clear n m ws (under (content.Dict pairs)) (under (content.Dict news)) place key (stored_kind (Plain value)) (stored_payload (Plain value)) low long even live
      (λ q a less l. dict_right first k.texts b c fill class_is pairs ws says q a less l)
      (λ q a less l. dict_right first k.texts b c fill class_is news put put_says q a less l)
      (λ a some. dict_live first k.texts b c fill class_is news put put_says a some)
      other shut (walk_of kind.Dict k.texts c)

  late : MayPuts kind.Dict t (content.Dict news) true (at_commit v o write) (entry_closed n ws place)
  late =
      let e = even in
      let careful =
      value_late n m ws (under (content.Dict pairs)) (under (content.Dict news)) place key (stored_kind (Plain value)) (stored_payload (Plain value)) low long even live
      (λ q a less l. dict_right first k.texts b c fill class_is pairs ws says q a less l)
      (λ q a less l. dict_right first k.texts b c fill class_is news put put_says q a less l)
      (λ a some. dict_live first k.texts b c fill class_is news put put_says a some) in
      ((names, inside 0 (omega arith), careful, record { before = λ q less at one. absurd (omega (arith, one, e)); later = λ q less at two. refl }, entry_far c place 0 (omega arith) (λ z. omega (arith, z)) (λ z. omega (arith, z))), tt)

  -- ---- in each history that agrees with what the pass knows

  module _ (calls : List Call) (agree : AgreesWith v (stored_newest k.starts calls)) where
    abbrev found : StoredWorld
    found = stored_newest k.starts calls

    abbrev left : List Content
    left = after_write found.world called

    abbrev T : TableUse
    T = table_at found.tables o

    no_keys : T.keys ≡ []
    no_keys = keys_there v o (content.Dict pairs) may.low may.mine is_dict calls agree may.possible

    left_is : dict_at left o ≡ news
    left_is = dict_left v o pairs may.low may.mine is_dict calls agree key value

    -- no serial is drawn, so no table is taken
    none_drawn : (dict_at left o).next - (dict_at found.world o).next ≡ 0
    none_drawn =
        let a : (dict_at left o).next ≡ news.next = ap (λ (z : DictContent). z.next) left_is in
        let e : (dict_at found.world o).next ≡ pairs.next = ap (λ (z : DictContent). z.next) (dict_found v o pairs may.low may.mine is_dict calls agree) in
        let same = next_is in
        omega (arith, a, e, same)

    takes_none : takes_in found called ≡ None
    takes_none =
        unsplit_takes T (dict.Set key value) (dict_at found.world o) (dict_at left o) no_keys
        ∙ ap (λ (z : ℕ). if outgrows_dict T z then Some (dict_class (length (dict_at left o).pairs)) else None) none_drawn

    table_after : table_at (after_stored found called).tables o ≡ use_of t fill
    table_after =
        let drawn = (dict_at left o).next - (dict_at found.world o).next in
        let count = length (dict_at left o).pairs in
        let fill_is : T.fill + drawn ≡ T.fill = let e = none_drawn in omega (arith, e) in
        ap (λ (z : List TableUse). table_at z o) (unsplit_leaves found.tables o (dict.Set key value) (dict_at found.world o) (dict_at left o) (takes_in found called) no_keys)
        ∙ (get_or-set_same found.tables o (grown_table T (takes_in found called) drawn count) no_table (in_tables v o (content.Dict pairs) may.low may.mine is_dict calls agree)
        ∙ (ap (λ (z : Option ℕ). grown_table T z drawn count) takes_none
        ∙ ((λ d. record { class = T.class; fill = fill_is d; keys = T.keys }) ∙ (table_there v o (content.Dict pairs) may.low may.mine is_dict calls agree ∙ known_use v o t (content.Dict pairs) may is_dict names))))

  pub value_possible : (start number : ℕ) × (s : Snap) × (stop : ℕ) × IsReachable (after_write_of v o t write start number s stop)
  value_possible =
      facts_suffice v o t (content.Dict pairs) (content.Dict news) (use_of t fill) write (may_begin v o may) is_dict
      (record {
        called = record { of = refl; wrote = refl; fits = (fits_key, fits); locks = one_locked o v.log may.mine; replied = λ r e. inr e; declared = λ world one. record { one = one; both = tt; room = tt } };
        root = tt;
        early = early;
        boxes = (stands, tt);
        names = names;
        clear = clear;
        late = late;
        names_still = names;
        ends = ends;
        shut = value_shut n m ws (under (content.Dict pairs)) (under (content.Dict news)) place key (stored_kind (Plain value)) (stored_payload (Plain value)) low long even live shut;
        history = λ calls agree. record {
          answered = dict_answered v o pairs may.low may.mine is_dict calls agree key value;
          table_after = table_after calls agree;
          within = dict_passes_not v o pairs may.low may.mine is_dict calls agree key value (dict_short first k.texts b c fill class_is news put put_says);
          takes = λ class e. absurd (let none = may.none in omega (arith, e, none));
        };
      })

pub values_may_be_put : EntryVersionsChangeNothing → WordsFollowAValue → LiveEntriesArePairs → ValuesKeepSerials → FirstEntriesArePairs → ValuesMayBePut
values_may_be_put versions follow lives serials first v o t place key box value pairs may is_dict names low live fits_key fits differs stands = value_possible versions follow lives serials first v o t place key box value pairs may is_dict names low live fits_key fits differs stands
