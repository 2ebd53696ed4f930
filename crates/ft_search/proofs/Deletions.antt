-- What the deletion of an entry of a dict or a set leaves of its words, and that readers aren't misled by it.
use Rattle.std.proofs.Common.{◌≡◌, ◌≢◌, ℕ, suc, ◌+◌, ◌-◌, ◌*◌, ◌%◌, ◌<◌, ◌≤◌, false, true≢false, List, [], ◌∷◌, length, Option, Some, refl, sym, ap, ◌∙◌, subst, arith, get_or-set_same, get_or-set_other}
use Rattle.std.proofs.lemmas.Option.{get_or_from_slice_get, slice_get_within}
use Rattle.std.specs.Prelude.{All, IsTrue, slice_index, slice_set, slice_get}
use Rattle.ft_model.specs.declared.content.Content.{Content}
use Rattle.ft_model.specs.declared.content.Content.TheVariants as content
use Rattle.ft_model.specs.declared.content.DictPair.{DictPair}
use Rattle.ft_model.specs.declared.content.Element.{Element}
use Rattle.ft_model.specs.declared.data.Key.{Key}
use Rattle.ft_model.specs.declared.script.Kind.{Kind}
use Rattle.ft_model.specs.Classes.{IsClass}
use Rattle.ft_model.specs.Contents.{DictContent, SetContent, dict_del, set_discard}
use Rattle.ft_model.specs.TableUses.{TableUse}
use Rattle.ft_model.specs.Worlds.{kind_of}
use Rattle.ft_hash.specs.Probes.{dict_slots, set_slots}
use Rattle.ft_hash.proofs.Walks.{dict_slots-within, set_slots-within}
use Rattle.ft_layout.specs.Words.{FitsKey, gone_kind, key_kind, key_payload, IsEntry}
use Rattle.ft_layout.specs.Tables.{UsedEntry, IsTable, is_live, dict_room, set_room, entry_word, hash_of, slot_of, slot_with}
use Rattle.ft_layout.specs.Tables as layout
use Rattle.ft_layout.specs.WordChanges.{with_deleted}
use Rattle.ft_layout.specs.Containers.{class_mask, used_pair, used_element, IsBlock, IsDictWords, IsSetWords}
use Rattle.ft_layout.proofs.ContentLaws.{stands_for_dict, stands_for_set}
use Rattle.ft_layout.proofs.Powers.{slots_range}
use Rattle.ft_trace.specs.Acts.{has_committed}
use Rattle.ft_trace.specs.Addresses.{container_count, class_of, slots, size}
use Rattle.ft_trace.specs.Carefuls.{HasLiveKey, IsDead, OpensChanged, said_of}
use Rattle.ft_trace.specs.Kinds.{under, rows, version_at, CarefulAs, ClearAs, IsKeyed}
use Rattle.ft_trace.specs.OddVersions.{Shut}
use Rattle.ft_trace.specs.Pictures.{ContainerWords, root_in, entry_offset, entry_field, Represents}
use Rattle.ft_trace.specs.declared.Shape.{Shape}
use Rattle.ft_trace.specs.declared.View.{View}
use Rattle.ft_trace.specs.Holds.{held_unboxed, known_state}
use Rattle.ft_trace.specs.Traces.{IsReachable}
use Rattle.ft_trace.specs.ContainerStates.{ContainerState, kind_in}
use Rattle.ft_trace.specs.WholeWrites.{to_block, to_table, with_puts, MayPut, MayPuts}
use Rattle.ft_trace.proofs.ByKind.{keyed_fit, keyed_low}
use Rattle.ft_trace.proofs.DictWrites as dict
use Rattle.ft_trace.proofs.DictWrites.{EntryVersionsChangeNothing}
use Rattle.ft_trace.proofs.SetKnown as set
use Rattle.ft_trace.proofs.EntryPuts.{dead_open, dead_kind, dead_same, dead_late, dead_shut, dead_is, dead_opens}
use Rattle.ft_trace.proofs.FitCalls.{dict_fits_words, set_fits_words}
use Rattle.ft_trace.proofs.KeysDeleted as deleted
use Rattle.ft_trace.proofs.SetDiscards as discarded
use Rattle.ft_trace.proofs.Known.{after_header, class_known, past_header, table_is_long}
use Rattle.ft_trace.proofs.ValuePlaces.{keyed_far, plain_kind}
use Rattle.ft_bank.specs.declared.table.Table.{Table}
use Rattle.ft_bank.specs.BoxSteps.{IsOpenValue}
use Rattle.ft_bank.specs.SameBoxes.{SameReferences}
use Rattle.ft_bank.specs.TableNames.{table_id}
use Rattle.ft_bank.specs.Whole.{OnlyLoaded, OnlyPut, OnlyWritten}
use Rattle.ft_bank.specs.WriteSteps.{IsCareful, with_block, with_table}
use Rattle.ft_bank.proofs.KnownAfterWrites.{loaded_put, put_then, put_written, work_knows, written_then}
use Rattle.ft_search.specs.OneEntryWrites.{HasTable, IsLiveEntry, MayWriteEntries, WritesEntries, deletion, raised_at, without_key}
use Rattle.ft_search.proofs.Changing.{Changing, with_count, kind_is, shut_known, put_at, live_item, table_version_put}
use Rattle.ft_search.proofs.Laws.{DictLaws, SetLaws}
use Rattle.ft_search.proofs.Puts.{keyed_careful, keyed_value, keyed_version, table_class, writes_on}

-- ---- what dicts and sets have in common

-- What a dict and a set differ in, where they have the table t: what is had, what is left of it without a key, and how the
-- words of a block and of a table say it, whose entries are those of its items.
record Entries (texts : List ℕ) (t : ℕ) (tab : TableUse) : Type 1 where
  Had : Type 0
  Item : Type 0
  content_of : Had → Content
  keyed : (had : Had) → IsKeyed (kind_of (content_of had))
  count : Had → ℕ
  next : Had → ℕ
  without : Had → Key → Had
  used_item : Item → UsedEntry
  walk : ℕ → List ℕ
  room : ℕ
  versions : EntryVersionsChangeNothing
  within : (hash : ℕ) → All (λ slot. slot ≤ class_mask (class_of t)) (walk hash)
  IsWords : List ℕ → List ℕ → Had → Type 0
  stands : (x : ContainerWords) (had : Had) → IsWords x.block (0 ∷ 0 ∷ x.table) had → Represents texts x (record { content = content_of had; table = tab })
  used : (block words : List ℕ) (had : Had) → IsWords block words had → List UsedEntry
  head : (block words : List ℕ) (had : Had) → IsWords block words had → IsBlock block (Some (class_of t)) (count had) tab.fill (next had)
  table : (block words : List ℕ) (had : Had) (is : IsWords block words had) → IsTable walk room texts (class_mask (class_of t)) (used block words had is) words
  renewed : (block words other : List ℕ) (had : Had) (is : IsWords block words had) → IsTable walk room texts (class_mask (class_of t)) (used block words had is) other → (now : IsWords block other had) × (used block other had now ≡ used block words had is)
  room_is : (block ws : List ℕ) (had : Had) → IsWords block (0 ∷ 0 ∷ ws) had → room ≡ rows (kind_of (content_of had)) (class_of t)
  lives : (block words : List ℕ) (had : Had) (is : IsWords block words had) (place : ℕ) (entry : UsedEntry) → slice_get (used block words had is) place ≡ Some entry → IsTrue (is_live entry) → (item : Item) × (entry ≡ used_item item)
  shorter : (block words : List ℕ) (had : Had) (is : IsWords block words had) (place : ℕ) (item : Item) → slice_get (used block words had is) place ≡ Some (used_item item) → count (without had (used_item item).key) + 1 ≡ count had
  deleted : (block words other : List ℕ) (had : Had) (is : IsWords block words had) (place : ℕ) (item : Item) → slice_get (used block words had is) place ≡ Some (used_item item) → IsBlock other (Some (class_of t)) (count (without had (used_item item).key)) tab.fill (next had)
      → IsWords other (with_deleted (class_mask (class_of t)) words place (used_item item).key) (without had (used_item item).key)
  clear : (block before : List ℕ) (had news : Had) (ws zs : List ℕ) → IsWords before (0 ∷ 0 ∷ ws) had → IsWords block (0 ∷ 0 ∷ zs) news
      → ((q w : ℕ) → q < rows (kind_of (content_of had)) (class_of t) → entry_field (slots (class_of t)) zs q 0 % 2 ≡ 0 → w < 8 → entry_field (slots (class_of t)) zs q w ≡ entry_field (slots (class_of t)) ws q w) → OpensChanged (slots (class_of t)) (rows (kind_of (content_of had)) (class_of t)) zs (under (content_of had)) (under (content_of news)) → ClearAs (kind_of (content_of had)) texts (class_of t) zs (content_of had) (content_of news)
  there : (block ws : List ℕ) (had : Had) → IsWords block (0 ∷ 0 ∷ ws) had → (place : ℕ) (key : Key) → place < rows (kind_of (content_of had)) (class_of t) → HasLiveKey (slots (class_of t)) ws place key → under (content_of had) key ≡ said_of (slots (class_of t)) ws place
  plain : (item : Item) (hash : ℕ) (word : ℕ → ℕ) → IsEntry word (slot_with hash (used_item item).key (used_item item).serial (used_item item).stored) → word 4 ≢ 4
  gone : (block words : List ℕ) (had : Had) → IsWords block words had → (key other : Key) → FitsKey key → (key_kind other ≡ key_kind key) × (key_payload other ≡ key_payload key) → under (content_of (without had key)) other ≡ []

abbrev dict_entries : DictLaws → (texts : List ℕ) (t : ℕ) (tab : TableUse) → IsClass (class_of t) → tab.class ≡ Some (class_of t) → Entries texts t tab
dict_entries laws texts t tab is_class class_eq = record {
  Had = DictContent;
  Item = DictPair;
  content_of = λ had. content.Dict had;
  keyed = λ had. tt;
  count = λ had. length had.pairs;
  next = λ had. had.next;
  without = dict_del;
  used_item = used_pair;
  walk = λ hash. dict_slots hash (class_mask (class_of t)) (class_mask (class_of t) + 14);
  room = dict_room (class_mask (class_of t));
  versions = laws.versions;
  within = λ hash. dict_slots-within hash (class_mask (class_of t)) (class_mask (class_of t) + 14);
  IsWords = λ block words had. IsDictWords texts block words (Some (class_of t)) tab.fill had;
  stands = λ x had is. subst (λ (z : Option ℕ). IsDictWords texts x.block (0 ∷ 0 ∷ x.table) z tab.fill had) (sym class_eq) is;
  used = λ block words had is. is.used;
  head = λ block words had is. is.head;
  table = λ block words had is. is.table;
  renewed = λ block words other had is table. (record { head = is.head; used = is.used; table = table; filled = is.filled; entries = is.entries }, refl);
  room_is = λ block ws had is. dict.room_is laws.first texts block (class_of t) tab.fill is_class had ws is;
  lives = λ block words had is place entry at alive. let l = laws.lives is.used had place entry is.entries (stands_for_dict texts block words (Some (class_of t)) tab.fill had is) at alive in (l.0, l.1);
  shorter = λ block words had is place item at. (laws.shrinks is.used had place item is.entries (stands_for_dict texts block words (Some (class_of t)) tab.fill had is) at).1;
  deleted = λ block words other. laws.deletes texts block words other (class_of t) tab.fill;
  clear = λ block before. dict.dict_clear laws.first texts block before (class_of t) tab.fill tab.fill is_class;
  there = λ block ws had is. dict.dict_right laws.first texts block (class_of t) tab.fill is_class had ws is;
  plain = λ item hash word is four. plain_kind item.value (sym is.value.kind_is ∙ four);
  gone = λ block words had is key other fits. deleted.none_under had key other fits (dict_fits_words texts block words (class_of t) tab.fill had is);
}

abbrev set_entries : SetLaws → (texts : List ℕ) (t : ℕ) (tab : TableUse) → IsClass (class_of t) → tab.class ≡ Some (class_of t) → Entries texts t tab
set_entries laws texts t tab is_class class_eq = record {
  Had = SetContent;
  Item = Element;
  content_of = λ had. content.Set had;
  keyed = λ had. tt;
  count = λ had. length had.elements;
  next = λ had. had.next;
  without = set_discard;
  used_item = used_element;
  walk = λ hash. set_slots hash (class_mask (class_of t)) (class_mask (class_of t) + 14);
  room = set_room (class_mask (class_of t));
  versions = laws.versions;
  within = λ hash. set_slots-within hash (class_mask (class_of t)) (class_mask (class_of t) + 14);
  IsWords = λ block words had. IsSetWords texts block words (Some (class_of t)) tab.fill had;
  stands = λ x had is. subst (λ (z : Option ℕ). IsSetWords texts x.block (0 ∷ 0 ∷ x.table) z tab.fill had) (sym class_eq) is;
  used = λ block words had is. is.used;
  head = λ block words had is. is.head;
  table = λ block words had is. is.table;
  renewed = λ block words other had is table. (record { head = is.head; used = is.used; table = table; filled = is.filled; entries = is.entries }, refl);
  room_is = λ block ws had is. set.room_is laws.first texts block (class_of t) tab.fill is_class had ws is;
  lives = λ block words had is place entry at alive. let l = laws.lives is.used had place entry is.entries (stands_for_set texts block words (Some (class_of t)) tab.fill had is) at alive in (l.0, l.1);
  shorter = λ block words had is place item at. (laws.shrinks is.used had place item is.entries (stands_for_set texts block words (Some (class_of t)) tab.fill had is) at).1;
  deleted = λ block words other. laws.deletes texts block words other (class_of t) tab.fill;
  clear = λ block before. set.set_clear laws.first texts block before (class_of t) tab.fill tab.fill is_class;
  there = λ block ws had is. set.set_right laws.first texts block (class_of t) tab.fill is_class had ws is;
  plain = λ item hash word is four. let z : 0 ≡ 4 = sym is.value.kind_is ∙ four in absurd (omega (arith, z));
  gone = λ block words had is key other fits. discarded.none_under had key other fits (set_fits_words texts block words (class_of t) tab.fill had is);
}

-- ---- a key is taken out

module _ (texts : List ℕ) (x : ContainerWords) (tab : TableUse) (t : ℕ) (is_class : IsClass (class_of t)) (e : Entries texts t tab) (had : e.Had) (says : e.IsWords x.block (0 ∷ 0 ∷ x.table) had) (names : root_in x ≡ suc t) (whole : length x.table ≡ size (class_of t))
    (shut : Shut (version_at (kind_of (e.content_of had)) (class_of t)) (rows (kind_of (e.content_of had)) (class_of t)) x.table) (p : ℕ) (key : Key) (low : p < rows (kind_of (e.content_of had)) (class_of t)) (live : HasLiveKey (slots (class_of t)) x.table p key) (fits : FitsKey key) where
  abbrev k : Kind
  k = kind_of (e.content_of had)

  abbrev c : ℕ
  c = class_of t

  abbrev n : ℕ
  n = slots c

  abbrev m : ℕ
  m = rows k c

  abbrev ws : List ℕ
  ws = x.table

  abbrev b : List ℕ
  b = x.block

  abbrev old : Content
  old = e.content_of had

  abbrev news : e.Had
  news = e.without had key

  abbrev ver : ℕ
  ver = entry_field n ws p 0

  abbrev block : List ℕ
  block = slice_set b 1 (slice_index b 1 - 1)

  abbrev opened : List ℕ
  opened = slice_set ws (entry_offset n p 0) (ver + 1)

  abbrev put : List ℕ
  put = slice_set opened (entry_offset n p 2) (gone_kind key)

  long : n + 8 * m ≤ length ws
  long = let f = keyed_fit k (e.keyed had) c in omega (arith, whole, f)

  shut_at : Shut (λ q. entry_offset n q 0) m ws
  shut_at q less = subst (λ (z : ℕ). slice_index ws z % 2 ≡ 0) (keyed_version k (e.keyed had) c q) (shut q less)

  even : ver % 2 ≡ 0
  even = shut_at p low

  -- the version that was made odd
  odd : entry_field n put p 0 ≡ ver + 1
  odd = get_or-set_other opened (entry_offset n p 2) (entry_offset n p 0) (gone_kind key) 0 (λ e. absurd (omega (arith, e))) ∙ get_or-set_same ws (entry_offset n p 0) (ver + 1) 0 (let l = long in omega (arith, low, l))

  next : ver + 2 ≡ entry_field n put p 0 + 1
  next = let o = odd in omega (arith, o)

  -- the item whose entry it is
  mine : (item : e.Item) × (slice_get (e.used b (0 ∷ 0 ∷ ws) had says) p ≡ Some (e.used_item item)) × ((e.used_item item).key ≡ key)
  mine = let room = e.room_is b ws had says in live_item e.walk e.room texts c is_class (e.used b (0 ∷ 0 ∷ ws) had says) e.used_item ws (e.table b (0 ∷ 0 ∷ ws) had says) p key (omega (arith, room, low)) live fits (e.lives b (0 ∷ 0 ∷ ws) had says p)

  -- its value names no box
  plain_value : entry_field n ws p 4 ≢ 4
  unfolding slots
  plain_value four =
      let used = e.used b (0 ∷ 0 ∷ ws) had says in
      let entry = e.used_item mine.0 in
      let table = e.table b (0 ∷ 0 ∷ ws) had says in
      let word = entry_word (class_mask c) (0 ∷ 0 ∷ ws) p in
      let is : IsEntry word (slot_of texts entry) = subst (λ (z : UsedEntry). IsEntry word (slot_of texts z)) (get_or_from_slice_get used p entry entry mine.1) (table.entries p entry (slice_get_within used p entry mine.1)) in
      let r = (slots_range c is_class).0 in
      let same : word 4 ≡ entry_field n ws p 4 = past_header ws (layout.entry_at (class_mask c) p 4) (entry_offset n p 4) (omega (arith, r)) in
      e.plain mine.0 (hash_of texts entry.key) word is (same ∙ four)

  -- a version that is put into an entry changes nothing
  renewed : (block l : List ℕ) (y : ℕ) (some : e.Had) (is : e.IsWords block (0 ∷ 0 ∷ l) some) → (now : e.IsWords block (0 ∷ 0 ∷ slice_set l (entry_offset n p 0) y) some) × (e.used block (0 ∷ 0 ∷ slice_set l (entry_offset n p 0) y) some now ≡ e.used block (0 ∷ 0 ∷ l) some is)
  renewed block l y some is = e.renewed block (0 ∷ 0 ∷ l) (0 ∷ 0 ∷ slice_set l (entry_offset n p 0) y) some is (table_version_put e.walk e.room texts c is_class (e.used block (0 ∷ 0 ∷ l) some is) e.versions e.within l p y (e.table block (0 ∷ 0 ∷ l) some is))

  shorter : e.count (e.without had (e.used_item mine.0).key) + 1 ≡ slice_index b 1
  shorter = e.shorter b (0 ∷ 0 ∷ ws) had says p mine.0 mine.1 ∙ sym (e.head b (0 ∷ 0 ∷ ws) had says).count_is

  head : IsBlock block (Some c) (e.count (e.without had (e.used_item mine.0).key)) tab.fill (e.next had)
  head =
      let s = shorter in
      let less : slice_index b 1 - 1 ≡ e.count (e.without had (e.used_item mine.0).key) = omega (arith, s) in
      subst (λ (z : ℕ). IsBlock block (Some c) z tab.fill (e.next had)) less (with_count b (Some c) (e.count had) (slice_index b 1 - 1) tab.fill (e.next had) (e.head b (0 ∷ 0 ∷ ws) had says))

  same_words : with_deleted (class_mask c) (0 ∷ 0 ∷ opened) p key ≡ 0 ∷ 0 ∷ put
  unfolding slots
  same_words = let r = (slots_range c is_class).0 in after_header opened (layout.entry_at (class_mask c) p 2) (entry_offset n p 2) (gone_kind key) (omega (arith, r))

  now : e.IsWords block (0 ∷ 0 ∷ put) news
  now =
      let open_says = renewed b ws (ver + 1) had says in
      let used : slice_get (e.used b (0 ∷ 0 ∷ opened) had open_says.0) p ≡ Some (e.used_item mine.0) = ap (λ (z : List UsedEntry). slice_get z p) open_says.1 ∙ mine.1 in
      let made = e.deleted b (0 ∷ 0 ∷ opened) block had open_says.0 p mine.0 used head in
      subst (λ (z : List ℕ). e.IsWords block z news) same_words (subst (λ (z : Key). e.IsWords block (with_deleted (class_mask c) (0 ∷ 0 ∷ opened) p z) (e.without had z)) mine.2 made)

  still_names : slice_index block 0 ≡ suc t
  still_names = get_or-set_other b 1 0 (slice_index b 1 - 1) 0 (λ e. absurd (omega (arith, e))) ∙ names

  inside : (w : ℕ) → w < 8 → entry_offset n p w < size c
  inside w few = keyed_low k (e.keyed had) c p w low few

  early : MayPuts k t old false x (deletion t p key x)
  early =
      let two_divides = even in
      let care1 = keyed_careful k (e.keyed had) c ws old (entry_offset n p 0) (ver + 1) (dead_open n m ws p key low long even live (under old)) in
      let care2 = keyed_careful k (e.keyed had) c opened old (entry_offset n p 2) (gone_kind key) (dead_kind n m ws p key low long even live (under old)) in
      let q1 : MayPut k t old false x (to_block 1 (slice_index b 1 - 1)) = (omega arith, omega arith) in
      let q2 : MayPut k t old false (record { block = block; table = ws }) (to_table (entry_offset n p 0) (ver + 1)) = (still_names, inside 0 (omega arith), care1, record { before = λ q less at one. refl; later = λ q less at two. absurd (omega (arith, two, two_divides)) }, keyed_far k (e.keyed had) c p 0 (omega arith) (λ z. absurd (omega (arith, z))) (λ z. absurd (omega (arith, z)))) in
      let q3 : MayPut k t old false (record { block = block; table = opened }) (to_table (entry_offset n p 2) (gone_kind key)) = (still_names, inside 2 (omega arith), care2, record { before = λ q less at one. refl; later = λ q less at two. absurd (let v = keyed_version k (e.keyed had) c q in omega (arith, at, v)) }, keyed_far k (e.keyed had) c p 2 (omega arith) (λ z. absurd (omega (arith, z))) (λ z. absurd (omega (arith, z)))) in
      (q1, (q2, (q3, tt)))

  none : (a : Key) → IsDead n put p a → under (e.content_of news) a ≡ []
  none a dead = e.gone b (0 ∷ 0 ∷ ws) had says key a fits (dead_is n m ws p key low long even live a dead)

  close : CarefulAs k c put (e.content_of news) (entry_offset n p 0) (entry_field n put p 0 + 1)
  close = subst (λ (z : ℕ). CarefulAs k c put (e.content_of news) (entry_offset n p 0) z) next (keyed_careful k (e.keyed had) c put (e.content_of news) (entry_offset n p 0) (ver + 2) (dead_late n m ws p key low long even live (under (e.content_of news)) none))

  shut_then : Shut (version_at k c) m (slice_set put (entry_offset n p 0) (entry_field n put p 0 + 1))
  shut_then q less = subst (λ (z : ℕ × ℕ). slice_index (slice_set put (entry_offset n p 0) z.0) z.1 % 2 ≡ 0) (λ d. (next d, sym (keyed_version k (e.keyed had) c q) d)) (dead_shut n m ws p key low long even live shut_at q less)

  -- the key was there, and isn't there any more
  opens_changed : OpensChanged n m put (under old) (under (e.content_of news))
  opens_changed =
      dead_opens n m ws p key low long even live (under old) (under (e.content_of news)) shut_at
      (λ bare. let x : said_of n ws p ≡ [] = sym (e.there b ws had says p key low live) ∙ bare in absurd (cc))
      (e.gone b (0 ∷ 0 ∷ ws) had says key key fits (refl, refl))

  key_deleted : Changing texts t x (record { content = old; table = tab }) p (deletion t p key x) (record { content = e.content_of news; table = tab }) × (0 < slice_index b 1) × (entry_field n ws p 4 ≢ 4)
  key_deleted = (
    record {
      puts = early;
      clear = e.clear block b had news ws put says now (dead_same n m ws p key low long even live) opens_changed;
      odd = let o = odd in let two_divides = even in omega (arith, o, two_divides);
      close = close;
      stands = e.stands (raised_at t p (record { block = block; table = put })) news (renewed block put (entry_field n put p 0 + 1) news now).0;
      shut = shut_then;
    },
    (let s = shorter in omega (arith, s)),
    plain_value,
  )

-- ---- by the kind of the content

module _ (dicts : DictLaws) (sets : SetLaws) (texts : List ℕ) (x : ContainerWords) (t : ℕ) (is_class : IsClass (class_of t)) (names : root_in x ≡ suc t) (long : length x.table ≡ size (class_of t)) (p : ℕ) (key : Key) (live : HasLiveKey (slots (class_of t)) x.table p key) (fits : FitsKey key) where
  pub deletes : (c : Content) (tab : TableUse) → IsKeyed (kind_of c) → Represents texts x (record { content = c; table = tab }) → p < rows (kind_of c) (class_of t) → Shut (version_at (kind_of c) (class_of t)) (rows (kind_of c) (class_of t)) x.table
      → Changing texts t x (record { content = c; table = tab }) p (deletion t p key x) (record { content = without_key c key; table = tab }) × (0 < slice_index x.block 1) × (entry_field (slots (class_of t)) x.table p 4 ≢ 4)
  deletes (content.Dict pairs) tab keyed stands low shut =
      let class = class_known texts x (record { content = content.Dict pairs; table = tab }) t stands names in
      let says : IsDictWords texts x.block (0 ∷ 0 ∷ x.table) (Some (class_of t)) tab.fill pairs = subst (λ (z : Option ℕ). IsDictWords texts x.block (0 ∷ 0 ∷ x.table) z tab.fill pairs) class stands in
      key_deleted texts x tab t is_class (dict_entries dicts texts t tab is_class class) pairs says names long shut p key low live fits
  deletes (content.Set elements) tab keyed stands low shut =
      let class = class_known texts x (record { content = content.Set elements; table = tab }) t stands names in
      let says : IsSetWords texts x.block (0 ∷ 0 ∷ x.table) (Some (class_of t)) tab.fill elements = subst (λ (z : Option ℕ). IsSetWords texts x.block (0 ∷ 0 ∷ x.table) z tab.fill elements) class stands in
      key_deleted texts x tab t is_class (set_entries sets texts t tab is_class class) elements says names long shut p key low live fits
  deletes (content.List values) tab keyed stands low shut = absurd keyed
  deletes (content.Deque deque) tab keyed stands low shut = absurd keyed

-- as the pass knows the container
pub deletes_known : DictLaws → SetLaws → (k : Shape) (o : ℕ) (table : Table) (v : View) → v.shape ≡ k → ∥ IsReachable v ∥₁ → MayWriteEntries k o v → HasTable k o table v → (place : ℕ) (key : Key) → IsLiveEntry k o table place key v
    → Changing k.texts (table_id table) (held_unboxed o v) (known_state o v) place (deletion (table_id table) place key (held_unboxed o v)) (record { content = without_key (known_state o v).content key; table = (known_state o v).table }) × (0 < slice_index (held_unboxed o v).block 1) × (entry_field (slots (class_of (table_id table))) (held_unboxed o v).table place 4 ≢ 4)
deletes_known dicts sets k o table v shape possible may has place key entry =
    let t = table_id table in
    let kind_eq : kind_of (known_state o v).content ≡ kind_in k.starts o = kind_is k v o shape possible may.locked in
    deletes dicts sets k.texts (held_unboxed o v) t (table_class k table has.table_in) has.root (table_is_long v o t has.root) place key entry.live entry.fits
    (known_state o v).content (known_state o v).table (subst IsKeyed (sym kind_eq) may.keyed) may.stands
    (subst (λ (z : Kind). place < rows z (class_of t)) (sym kind_eq) entry.low)
    (shut_known k v o t shape possible may.container may.locked (may.even o) has.root)

-- ---- the puts, one after the other

module _ (k : Shape) (o : ℕ) (table : Table) (place : ℕ) (key : Key) (v w1 w2 : View) (count : ℕ) (shape : v.shape ≡ k) (writes : WritesEntries k o table v) (early : has_committed o v.log ≡ false) (only1 : OnlyLoaded v w1) (is : count ≡ slice_index (held_unboxed o v).block 1) (only2 : OnlyPut o w1 w2) (same2 : SameReferences w1 w2) (held2 : held_unboxed o w2 ≡ with_block (held_unboxed o w1) 1 (count - 1))
    (may : MayPuts (kind_in k.starts o) (table_id table) (known_state o v).content false (held_unboxed o v) (deletion (table_id table) place key (held_unboxed o v))) where
  abbrev pt : ℕ
  pt = table_id table

  abbrev pn : ℕ
  pn = slots (class_of pt)

  abbrev counted : ContainerWords
  counted = with_block (held_unboxed o v) 1 (slice_index (held_unboxed o v).block 1 - 1)

  pub counted_words : held_unboxed o w2 ≡ counted
  counted_words = held2 ∙ (λ d. with_block (only1.unboxed o (subst (λ (z : Shape). o < container_count z) (sym shape) writes.container) writes.locked d) 1 (is d - 1))

  pub counted_only : OnlyPut o v w2
  counted_only = put_then v w1 w2 o (loaded_put v w1 o only1) only2

  pub counted_writes : WritesEntries k o table w2
  counted_writes = writes_on k o table v w2 shape counted_only (λ b. same2 b ∙ only1.boxes.references b) (ap root_in counted_words ∙ get_or-set_other (held_unboxed o v).block 1 0 (slice_index (held_unboxed o v).block 1 - 1) 0 (λ e. absurd (omega (arith, e)))) writes

  pub opens : IsCareful w2 o pt (entry_offset pn place 0) (entry_field pn (held_unboxed o w2).table place 0 + 1)
  opens =
      subst (λ (z : ContainerWords). IsCareful w2 o pt (entry_offset pn place 0) (entry_field pn z.table place 0 + 1)) (sym counted_words)
      (put_at k o pt (entry_offset pn place 0) (entry_field pn (held_unboxed o v).table place 0 + 1) false counted (known_state o v).content w2 (counted_only.work.pass.shape ∙ shape) (counted_only.work.committed o ∙ early) counted_words (ap (λ (z : ContainerState). z.content) (work_knows v w2 o counted_only.work)) counted_writes.few may.1.0)

  module _ (w3 : View) (only3 : OnlyPut o w2 w3) (writes3 : WritesEntries k o table w3) (held3 : held_unboxed o w3 ≡ raised_at pt place (held_unboxed o w2)) (gone : ℕ) (is_gone : gone ≡ gone_kind key) where
    abbrev opened' : ContainerWords
    opened' = raised_at pt place counted

    opened_words : held_unboxed o w3 ≡ opened'
    opened_words = held3 ∙ ap (raised_at pt place) counted_words

    opened_only : OnlyPut o v w3
    opened_only = put_then v w2 w3 o counted_only only3

    pub dies : IsCareful w3 o pt (entry_offset pn place 2) gone
    dies =
        subst (λ (z : ℕ). IsCareful w3 o pt (entry_offset pn place 2) z) (sym is_gone)
        (put_at k o pt (entry_offset pn place 2) (gone_kind key) false opened' (known_state o v).content w3 (opened_only.work.pass.shape ∙ shape) (opened_only.work.committed o ∙ early) opened_words (ap (λ (z : ContainerState). z.content) (work_knows v w3 o opened_only.work)) writes3.few may.1.1.0)

    -- the value put in place, where it stood in a box
    pub deleted_only : (w4 w5 : View) → OnlyPut o w3 w4 → OnlyWritten o w4 w5 → OnlyWritten o v w5
    deleted_only w4 w5 only4 only5 = written_then o v w4 w5 (put_written o v w4 (put_then v w3 w4 o opened_only only4)) only5

    pub deleted_words : (w4 : View) → held_unboxed o w4 ≡ with_table (held_unboxed o w3) (entry_offset pn place 2) gone → held_unboxed o w4 ≡ with_puts (held_unboxed o v) (deletion pt place key (held_unboxed o v))
    deleted_words w4 held4 = held4 ∙ (λ d. with_table (opened_words d) (entry_offset pn place 2) (is_gone d))

    -- before that: the version is odd, and the value reads as it did
    module _ (w4 : View) (only4 : OnlyPut o w3 w4) (held4 : held_unboxed o w4 ≡ with_table (held_unboxed o w3) (entry_offset pn place 2) gone) (low : place < rows (kind_in k.starts o) (class_of pt)) where
      shape4 : w4.shape ≡ k
      shape4 = only4.work.pass.shape ∙ (opened_only.work.pass.shape ∙ shape)

      abbrev ver' : ℕ
      ver' = entry_field pn (held_unboxed o v).table place 0

      abbrev put4 : List ℕ
      put4 = slice_set (slice_set (held_unboxed o v).table (entry_offset pn place 0) (ver' + 1)) (entry_offset pn place 2) (gone_kind key)

      long4 : length (held_unboxed o v).table ≡ size (class_of pt)
      long4 = table_is_long v o pt writes.root

      odd4 : (ver' + 1) % 2 ≡ 1
      odd4 =
          let t = may.1.0.3 in
          let kd = kind_in k.starts o in
          let ne : (ver' + 1) % 2 ≢ 0 = λ z. true≢false (sym (t.later place low (sym (keyed_version kd writes.keyed (class_of pt) place)) z)) in
          omega (arith, ne)

      words4 : held_unboxed o w4 ≡ with_puts (held_unboxed o v) (deletion pt place key (held_unboxed o v))
      words4 = deleted_words w4 held4

      pub deleted_open : (word : ℕ) → word ≡ entry_offset pn place 4 → IsOpenValue w4 o pt word
      deleted_open word at =
          let kd = kind_in w4.shape.starts o in
          let keyed : IsKeyed kd = subst (λ (z : Shape). IsKeyed (kind_in z.starts o)) (sym shape4) writes.keyed in
          let inside : entry_offset pn place 0 < length (held_unboxed o v).table = subst (λ (n : ℕ). entry_offset pn place 0 < n) (sym long4) (keyed_low (kind_in k.starts o) writes.keyed (class_of pt) place 0 low (omega arith)) in
          let stands : slice_index put4 (entry_offset pn place 0) ≡ ver' + 1 =
          get_or-set_other (slice_set (held_unboxed o v).table (entry_offset pn place 0) (ver' + 1)) (entry_offset pn place 2) (entry_offset pn place 0) (gone_kind key) 0 (λ e. absurd (omega (arith, e)))
          ∙ get_or-set_same (held_unboxed o v).table (entry_offset pn place 0) (ver' + 1) 0 inside in
          record {
            row = place;
            low = subst (λ (z : Shape). place < rows (kind_in z.starts o) (class_of pt)) (sym shape4) low;
            is = at ∙ sym (keyed_value kd keyed (class_of pt) place);
            odd = ap (λ (i : ℕ). slice_index (held_unboxed o w4).table i % 2) (keyed_version kd keyed (class_of pt) place) ∙ (ap (λ (x : ContainerWords). slice_index x.table (entry_offset pn place 0) % 2) words4 ∙ (ap (λ (n : ℕ). n % 2) stands ∙ odd4));
          }

      pub deleted_value : entry_field pn (held_unboxed o w4).table place 4 ≡ entry_field pn (held_unboxed o v).table place 4
      deleted_value =
          ap (λ (x : ContainerWords). slice_index x.table (entry_offset pn place 4)) words4
          ∙ (get_or-set_other (slice_set (held_unboxed o v).table (entry_offset pn place 0) (ver' + 1)) (entry_offset pn place 2) (entry_offset pn place 4) (gone_kind key) 0 (λ e. absurd (omega (arith, e)))
          ∙ get_or-set_other (held_unboxed o v).table (entry_offset pn place 0) (entry_offset pn place 4) (ver' + 1) 0 (λ e. absurd (omega (arith, e))))
