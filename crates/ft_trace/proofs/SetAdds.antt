-- That a key may be added to a set by a pass that has its lock, where the table has room, as a whole write.
use Rattle.std.proofs.Common.{◌≡◌, ℕ, suc, ◌+◌, ◌-◌, ◌*◌, ◌%◌, ◌<◌, ◌≤◌, Bool, true, false, List, [], ◌∷◌, ◌++◌, length, Option, Some, None, refl, sym, ap, ◌∙◌, inr, arith, get_or-set_same, inl, ◌≢◌, get_or-set_other}
use Rattle.std.specs.Prelude.{◌&&◌, nat_lt, slice_index, slice_set, if◌then◌else◌}
use Rattle.std.proofs.lemmas.Bool.{le-ltb}
use Rattle.ft_model.specs.declared.call.Call.{Call}
use Rattle.ft_model.specs.declared.call.Call.TheVariants as call
use Rattle.ft_model.specs.declared.call.SetCall.TheVariants as set
use Rattle.ft_model.specs.declared.content.Content.{Content}
use Rattle.ft_model.specs.declared.content.Content.TheVariants as content
use Rattle.ft_model.specs.declared.data.Key.{Key}
use Rattle.ft_model.specs.declared.script.Kind.TheVariants as kind
use Rattle.ft_model.specs.Answers.{after_write}
use Rattle.ft_model.specs.Classes.{IsClass, set_entries, set_class}
use Rattle.ft_model.specs.Contents.{SetContent, has_element, set_add}
use Rattle.ft_model.specs.TableUses.{TableUse, StoredWorld, no_table, stored_newest, takes_in, table_at, outgrows_set, grown_table, after_stored}
use Rattle.ft_hash.specs.Probes.{set_slots}
use Rattle.ft_layout.specs.Words.{key_kind, key_payload, FitsKey}
use Rattle.ft_layout.specs.Tables.{hash_of, set_room}
use Rattle.ft_layout.specs.Containers.{class_mask, IsSetWords}
use Rattle.ft_trace.specs.declared.Shape.{Shape}
use Rattle.ft_trace.specs.declared.Snap.{Snap}
use Rattle.ft_trace.specs.declared.View.{View}
use Rattle.ft_trace.specs.Addresses.{class_of, slots, places, size}
use Rattle.ft_trace.specs.Pictures.{root_in, index_field, entry_offset, entry_field, walk_of}
use Rattle.ft_trace.specs.Carefuls.{Careful, Clear}
use Rattle.ft_trace.specs.Kinds.{under}
use Rattle.ft_trace.specs.OddVersions.{Shut}
use Rattle.ft_trace.specs.Holds.{held_unboxed, known_state, AgreesWith}
use Rattle.ft_trace.specs.Traces.{IsReachable}
use Rattle.ft_trace.specs.Grants.{MayWrite}
use Rattle.ft_trace.specs.WholeWrites.{to_table, MayPut, MayPuts, WholeWrite, at_commit, at_end, after_write_of, IsNoValue}
use Rattle.ft_trace.proofs.ValuePlaces.{set_entry_far, set_slot_far}
use Rattle.ft_trace.specs.EntryWrites.{entry_closed}
use Rattle.ft_trace.specs.KeyWrites.{count_puts}
use Rattle.ft_trace.specs.SetWrites.{element_puts, set_add_write, ElementsMayBeAdded}
use Rattle.ft_trace.proofs.Known.{in_bank}
use Rattle.ft_trace.proofs.KeyPuts.{Stage, stage_first, stage_next, new_open, new_key, new_value, new_kind, new_index, new_same, new_late, new_shut, new_opens}
use Rattle.ft_trace.proofs.ListWrites.{may_begin}
use Rattle.ft_trace.proofs.DictWrites.{EntryVersionsChangeNothing, version_stands}
use Rattle.ft_trace.proofs.KeysAdded.{and_false}
use Rattle.ft_trace.proofs.SetKnown.{FirstEntriesAreElements, room_is, set_right, set_short, set_is_long, set_clear, set_found, set_answered, set_left, set_passes_not}
use Rattle.ft_trace.proofs.Tellings.{word_is}
use Rattle.ft_trace.proofs.Naming.{one_locked}
use Rattle.std.specs.Prelude.{◌^◌}
use Rattle.ft_model.specs.Worlds.{set_at}
use Rattle.ft_layout.specs.Words.{FitsKey}
use Rattle.ft_trace.proofs.KnownContents.{use_of, known_use, known_says, known_shut, in_tables, table_there}
use Rattle.ft_trace.proofs.WriteFacts.{facts_suffice}
use Rattle.ft_trace.proofs.KeyedWrites.{put_while_open, counts_may_be_put, root_stays}
use Rattle.ft_trace.proofs.Opened.{set_lacks}
use Rattle.ft_trace.proofs.FitCalls.{set_fits_words}

module _ (versions : EntryVersionsChangeNothing) (first : FirstEntriesAreElements) (v : View) (o t slot : ℕ) (key : Key) (elements : SetContent) (may : MayWrite v o) (is_set : (known_state o v).content ≡ content.Set elements) (names : root_in (held_unboxed o v) ≡ suc t)
    (room : (known_state o v).table.fill < set_entries (class_of t)) (in_index : slot < slots (class_of t)) (free : index_field (held_unboxed o v).table slot ≡ 0) (fits : FitsKey key) (missing : has_element elements.elements key ≡ false)
    (now : IsSetWords v.shape.texts (at_commit v o (set_add_write v o t slot key elements)).block (0 ∷ 0 ∷ (at_commit v o (set_add_write v o t slot key elements)).table) (Some (class_of t)) ((known_state o v).table.fill + 1) (set_add elements key)) where
  abbrev k : Shape
  k = v.shape

  abbrev c : ℕ
  c = class_of t

  abbrev n : ℕ
  n = slots c

  abbrev m : ℕ
  m = set_entries c

  abbrev p : ℕ
  p = (known_state o v).table.fill

  abbrev ws : List ℕ
  ws = (held_unboxed o v).table

  abbrev news : SetContent
  news = set_add elements key

  abbrev called : Call
  called = call.Set o (set.Add key)

  abbrev write : WholeWrite
  write = set_add_write v o t slot key elements

  abbrev block : List ℕ
  block = (at_commit v o write).block

  abbrev put : List ℕ
  put = (at_commit v o write).table

  abbrev ver : ℕ
  ver = entry_field n ws p 0

  class_is : IsClass c
  class_is = (in_bank v o t may.low may.possible may.mine names).0

  at_least : n + 8 * m ≤ length ws
  at_least = set_is_long v o t names

  says : IsSetWords k.texts (held_unboxed o v).block (0 ∷ 0 ∷ ws) (Some c) p elements
  says = known_says v o t (content.Set elements) may is_set names

  shut : Shut (λ q. entry_offset n q 0) m ws
  shut = known_shut v o t (content.Set elements) may is_set names

  even : ver % 2 ≡ 0
  even = shut p room

  -- the entry was never used
  none : entry_field n ws p 2 ≡ 0
  none =
      let fits : set_room (class_mask c) ≡ m = room_is first k.texts (held_unboxed o v).block c p class_is elements ws says in
      let filled = says.filled in
      let u = says.table.unused p (omega (arith, filled)) (omega (arith, fits, room)) in
      sym (word_is (λ hash. set_slots hash (class_mask c) (class_mask c + 14)) (set_room (class_mask c)) k.texts c class_is says.used ws says.table p 2) ∙ u.kind

  next_is : news.next ≡ elements.next + 1
  next_is = ap (λ (b : Bool). SetContent.next (if b then elements else record { next = elements.next + 1; elements = elements.elements ++ record { serial = elements.next; key = key } ∷ [] })) missing

  -- ---- the puts

  abbrev b0 : List ℕ
  b0 = (held_unboxed o v).block

  names_now : slice_index block 0 ≡ suc t
  names_now = root_stays b0 (length elements.elements + 1) (p + 1) (elements.next + 1) ∙ names

  inside : (w : ℕ) → w < 8 → entry_offset n p w < size c
  unfolding places
  inside w few = omega (arith, few, room)

  -- one put into the table
  table_put : (l : List ℕ) (i x : ℕ) → i < size c → Careful n m l (under (content.Set elements)) i x → ((q : ℕ) → i ≡ entry_offset n q 0 → x % 2 ≡ 1) → IsNoValue kind.Set c i → MayPut kind.Set t (content.Set elements) false (record { block = block; table = l }) (to_table i x)
  table_put l i x = put_while_open kind.Set tt t (content.Set elements) (record { block = block; table = l }) i x names_now

  -- the puts of the entry before its kind
  abbrev At : List ℕ → Type 0
  At l = Stage n m ws p slot room in_index at_least even none free l

  abbrev l1 : List ℕ
  l1 = slice_set ws (entry_offset n p 0) (ver + 1)

  abbrev l2 : List ℕ
  l2 = slice_set l1 (entry_offset n p 1) (hash_of k.texts key)

  abbrev l3 : List ℕ
  l3 = slice_set l2 (entry_offset n p 3) (key_payload key)

  abbrev l4 : List ℕ
  l4 = slice_set l3 (entry_offset n p 6) elements.next

  next_stage : (l : List ℕ) → At l → (w x : ℕ) → w < 8 → w ≢ 0 → w ≢ 2 → At (slice_set l (entry_offset n p w) x)
  next_stage = stage_next n m ws p slot room in_index at_least even none free

  s1 : At l1
  s1 = stage_first n m ws p slot room in_index at_least even none free

  s2 : At l2
  s2 = next_stage l1 s1 1 (hash_of k.texts key) (omega arith) (λ e. absurd (omega (arith, e))) (λ e. absurd (omega (arith, e)))

  s3 : At l3
  s3 = next_stage l2 s2 3 (key_payload key) (omega arith) (λ e. absurd (omega (arith, e))) (λ e. absurd (omega (arith, e)))

  s4 : At l4
  s4 = next_stage l3 s3 6 elements.next (omega arith) (λ e. absurd (omega (arith, e))) (λ e. absurd (omega (arith, e)))

  all_puts : MayPuts kind.Set t (content.Set elements) false (record { block = block; table = ws }) (element_puts n ws p slot (hash_of k.texts key) key elements.next)
  all_puts =
      let before = under (content.Set elements) in
      let e = even in
      let of_key = new_key n m ws p slot room in_index at_least even none free before in
      let of_value = new_value n m ws p slot room in_index at_least even none free before in
      let p1 = table_put ws (entry_offset n p 0) (ver + 1) (inside 0 (omega arith)) (new_open n m ws p slot room in_index at_least even none free before) (λ q z. omega (arith, e)) (set_entry_far c p 0 (omega arith) (λ z. omega (arith, z)) (λ z. omega (arith, z))) in
      let p2 = table_put l1 (entry_offset n p 1) (hash_of k.texts key) (inside 1 (omega arith)) (of_key l1 s1 1 (hash_of k.texts key) (inl refl)) (λ q z. absurd (omega (arith, z))) (set_entry_far c p 1 (omega arith) (λ z. omega (arith, z)) (λ z. omega (arith, z))) in
      let p3 = table_put l2 (entry_offset n p 3) (key_payload key) (inside 3 (omega arith)) (of_key l2 s2 3 (key_payload key) (inr refl)) (λ q z. absurd (omega (arith, z))) (set_entry_far c p 3 (omega arith) (λ z. omega (arith, z)) (λ z. omega (arith, z))) in
      let p4 = table_put l3 (entry_offset n p 6) elements.next (inside 6 (omega arith)) (of_value l3 s3 6 elements.next (omega arith) (omega arith)) (λ q z. absurd (omega (arith, z))) (set_entry_far c p 6 (omega arith) (λ z. omega (arith, z)) (λ z. omega (arith, z))) in
      let p5 = table_put l4 (entry_offset n p 2) (key_kind key) (inside 2 (omega arith)) (new_kind n m ws p slot room in_index at_least even none free key l4 s4 before) (λ q z. absurd (omega (arith, z))) (set_entry_far c p 2 (omega arith) (λ z. omega (arith, z)) (λ z. omega (arith, z))) in
      let p6 = table_put (slice_set l4 (entry_offset n p 2) (key_kind key)) slot (p + 1) (omega (arith, in_index)) (new_index n m ws p slot room in_index at_least even none free key l4 s4 before) (λ q z. absurd (omega (arith, z, in_index))) (set_slot_far c slot in_index) in
      (p1, (p2, (p3, (p4, (p5, (p6, tt))))))

  early : MayPuts kind.Set t (content.Set elements) false (held_unboxed o v) (count_puts (length elements.elements + 1) (p + 1) (elements.next + 1) ++ element_puts n ws p slot (hash_of k.texts key) key elements.next)
  early = counts_may_be_put kind.Set t (content.Set elements) b0 ws (length elements.elements + 1) (p + 1) (elements.next + 1) (element_puts n ws p slot (hash_of k.texts key) key elements.next) all_puts

  payload_is : entry_field n l4 p 3 ≡ key_payload key
  payload_is =
      let s = s2.size in
      get_or-set_other l3 (entry_offset n p 6) (entry_offset n p 3) elements.next 0 (λ e. absurd (omega (arith, e)))
      ∙ get_or-set_same l2 (entry_offset n p 3) (key_payload key) 0 (omega (arith, s, room))

  -- nothing is under the key before
  lacks : under (content.Set elements) key ≡ []
  lacks = set_lacks elements key fits (set_fits_words k.texts (held_unboxed o v).block (0 ∷ 0 ∷ ws) c p elements says) missing

  clear : Clear (walk_of kind.Set k.texts c) n m put (under (content.Set elements)) (under (content.Set news))
  clear =
      set_clear first k.texts block b0 c p (p + 1) class_is elements news ws put says now
      (λ q w less two few. new_same n m ws p slot room in_index at_least even none free key l4 s4 q w less two few)
      (new_opens n m ws p slot room in_index at_least even none free key l4 s4 (under (content.Set elements)) (under (content.Set news)) payload_is shut lacks (λ a l. set_right first k.texts block c (p + 1) class_is news put now p a room l))

  late : MayPuts kind.Set t (content.Set news) true (at_commit v o write) (entry_closed n ws p)
  late =
      let e = even in
      let care =
      new_late n m ws p slot room in_index at_least even none free key l4 s4 (under (content.Set news))
      (λ a l. set_right first k.texts block c (p + 1) class_is news put now p a room l) in
      ((names_now, inside 0 (omega arith), care, record { before = λ q less at one. absurd (omega (arith, one, e)); later = λ q less at two. refl }, set_entry_far c p 0 (omega arith) (λ z. omega (arith, z)) (λ z. omega (arith, z))), tt)

  ends : IsSetWords k.texts block (0 ∷ 0 ∷ (at_end v o write).table) (Some c) (p + 1) news
  ends = version_stands versions k.texts block put c (p + 1) p (ver + 2) class_is (content.Set news) tt now

  -- ---- in each history that agrees with what the pass knows

  module _ (calls : List Call) (agree : AgreesWith v (stored_newest k.starts calls)) where
    abbrev found : StoredWorld
    found = stored_newest k.starts calls

    abbrev left : List Content
    left = after_write found.world called

    abbrev T : TableUse
    T = table_at found.tables o

    -- one serial is drawn, and the table has room for it
    one_drawn : (set_at left o).next - (set_at found.world o).next ≡ 1
    one_drawn =
        let a : (set_at left o).next ≡ news.next = ap (λ (z : SetContent). z.next) (set_left v o elements may.low may.mine is_set calls agree key) in
        let e : (set_at found.world o).next ≡ elements.next = ap (λ (z : SetContent). z.next) (set_found v o elements may.low may.mine is_set calls agree) in
        let s = next_is in
        omega (arith, a, e, s)

    not_outgrown : outgrows_set T ((set_at left o).next - (set_at found.world o).next) ≡ false
    not_outgrown =
        let table_is = table_there v o (content.Set elements) may.low may.mine is_set calls agree ∙ known_use v o t (content.Set elements) may is_set names in
        let class_here : T.class ≡ Some c = ap (λ (z : TableUse). z.class) table_is in
        let fill_here : T.fill ≡ p = ap (λ (z : TableUse). z.fill) table_is in
        let drawn = one_drawn in
        (λ d. outgrows_set (record { class = class_here d; fill = fill_here d; keys = T.keys }) (drawn d))
        ∙ (ap (λ (z : Bool). nat_lt 0 1 && z) (le-ltb (3 * 2 ^ c) (5 * (p + 1)) (omega (arith, room))) ∙ and_false (nat_lt 0 1))

    takes_none : takes_in found called ≡ None
    takes_none = ap (λ (z : Bool). if z then Some (set_class (length (set_at left o).elements)) else None) not_outgrown

    table_after : table_at (after_stored found called).tables o ≡ use_of t (p + 1)
    table_after =
        let drawn = (set_at left o).next - (set_at found.world o).next in
        let count = length (set_at left o).elements in
        let table_is = table_there v o (content.Set elements) may.low may.mine is_set calls agree ∙ known_use v o t (content.Set elements) may is_set names in
        let one = one_drawn in
        get_or-set_same found.tables o (grown_table T (takes_in found called) drawn count) no_table (in_tables v o (content.Set elements) may.low may.mine is_set calls agree)
        ∙ (ap (λ (z : Option ℕ). grown_table T z drawn count) takes_none
        ∙ (λ d. record { class = (table_is d).class; fill = (table_is d).fill + one d; keys = (table_is d).keys }))

  pub add_possible : (start number : ℕ) × (s : Snap) × (stop : ℕ) × IsReachable (after_write_of v o t write start number s stop)
  add_possible =
      facts_suffice v o t (content.Set elements) (content.Set news) (use_of t (p + 1)) write (may_begin v o may) is_set
      (record {
        called = record { of = refl; wrote = refl; fits = fits; locks = one_locked o v.log may.mine; replied = λ r e. inr e; declared = λ world one. record { one = one; both = tt; room = tt } };
        root = tt;
        early = early;
        boxes = tt;
        names = names_now;
        clear = clear;
        late = late;
        names_still = names_now;
        ends = ends;
        shut = new_shut n m ws p slot room in_index at_least even none free key l4 s4 shut;
        history = λ calls agree. record {
          answered = set_answered v o elements may.low may.mine is_set calls agree key;
          table_after = table_after calls agree;
          within = set_passes_not v o elements may.low may.mine is_set calls agree key (set_short first k.texts block c (p + 1) class_is news put now);
          takes = λ class e. absurd (let none = may.none in omega (arith, e, none));
        };
      })

pub elements_may_be_added : EntryVersionsChangeNothing → FirstEntriesAreElements → ElementsMayBeAdded
elements_may_be_added versions first v o t slot key elements may is_set names room in_index free fits missing now = add_possible versions first v o t slot key elements may is_set names room in_index free fits missing now
