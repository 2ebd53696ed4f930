-- That a key may be added to a dict by a pass that has its lock, where the table has room, as a whole write.
use Rattle.std.proofs.Common.{◌≡◌, ℕ, suc, ◌+◌, ◌-◌, ◌*◌, ◌%◌, ◌<◌, ◌≤◌, Bool, true, false, List, [], ◌∷◌, ◌++◌, length, Option, Some, None, refl, sym, ap, ◌∙◌, inr, arith, get_or-set_same, inl, ◌≢◌, get_or-set_other}
use Rattle.std.specs.Prelude.{◌&&◌, nat_lt, slice_index, slice_set, if◌then◌else◌}
use Rattle.std.proofs.lemmas.Bool.{le-ltb}
use Rattle.ft_model.specs.declared.call.Call.{Call}
use Rattle.ft_model.specs.declared.call.Call.TheVariants as call
use Rattle.ft_model.specs.declared.call.DictCall.TheVariants as dict
use Rattle.ft_model.specs.declared.content.Content.{Content}
use Rattle.ft_model.specs.declared.content.Content.TheVariants as content
use Rattle.ft_model.specs.declared.data.Key.{Key}
use Rattle.ft_model.specs.declared.data.Value.{Value}
use Rattle.ft_model.specs.declared.script.Kind.TheVariants as kind
use Rattle.ft_model.specs.Answers.{after_write}
use Rattle.ft_model.specs.Classes.{IsClass, dict_entries, dict_class}
use Rattle.ft_model.specs.Contents.{DictContent, has_key, dict_set, with_value}
use Rattle.ft_model.specs.Worlds.{dict_at}
use Rattle.ft_model.specs.TableUses.{TableUse, StoredWorld, no_table, stored_newest, takes_in, table_at, outgrows_dict, grown_table, after_stored}
use Rattle.ft_hash.specs.Probes.{dict_slots}
use Rattle.ft_layout.specs.declared.slot.Stored.TheVariants.{Plain}
use Rattle.ft_layout.specs.Words.{key_kind, key_payload, stored_kind, stored_payload, FitsKey}
use Rattle.ft_layout.specs.Tables.{hash_of, dict_room}
use Rattle.ft_layout.specs.Containers.{class_mask, IsDictWords}
use Rattle.ft_trace.specs.declared.Shape.{Shape}
use Rattle.ft_trace.specs.declared.Snap.{Snap}
use Rattle.ft_trace.specs.declared.View.{View}
use Rattle.ft_trace.specs.Addresses.{class_of, slots, places, size}
use Rattle.ft_trace.specs.Pictures.{root_in, index_field, entry_offset, entry_field, walk_of}
use Rattle.ft_trace.specs.Carefuls.{Careful, Clear}
use Rattle.ft_trace.specs.Kinds.{under}
use Rattle.ft_trace.specs.OddVersions.{Shut}
use Rattle.ft_trace.specs.Holds.{held_unboxed, known_state, AgreesWith}
use Rattle.ft_trace.specs.Traces.{IsReachable}
use Rattle.ft_trace.specs.Grants.{MayWrite}
use Rattle.ft_trace.specs.WholeWrites.{to_table, MayPut, MayPuts, WholeWrite, at_commit, at_end, after_write_of, to_value, IsNoValue}
use Rattle.ft_trace.proofs.Cases.{off}
use Rattle.ft_trace.proofs.ValuePlaces.{plain_kind, entry_far, slot_far}
use Rattle.ft_trace.specs.EntryWrites.{entry_closed, MayStandIn}
use Rattle.ft_trace.specs.KeyWrites.{key_puts, count_puts, dict_add_write, KeysMayBeAdded}
use Rattle.ft_trace.proofs.FitCalls.{dict_fits_words, set_fit}
use Rattle.ft_trace.proofs.Known.{in_bank, table_is_long}
use Rattle.ft_trace.proofs.KeyPuts.{Stage, stage_first, stage_next, new_open, new_key, new_value, new_kind, new_index, new_same, new_late, new_shut, new_opens}
use Rattle.ft_trace.proofs.ListWrites.{may_begin}
use Rattle.ft_trace.proofs.DictWrites.{EntryVersionsChangeNothing, version_stands, FirstEntriesArePairs, dict_right, dict_short, dict_clear, dict_found, dict_answered, dict_left, dict_passes_not, room_is}
use Rattle.ft_trace.proofs.Tellings.{word_is}
use Rattle.ft_trace.proofs.Naming.{one_locked}
use Rattle.ft_model.proofs.SplitDicts.{unsplit_takes, unsplit_leaves}
use Rattle.ft_trace.proofs.KnownContents.{use_of, known_use, known_says, known_shut, in_tables, table_there, keys_there}
use Rattle.ft_trace.proofs.WriteFacts.{facts_suffice}
use Rattle.ft_trace.proofs.KeyedWrites.{put_while_open, counts_may_be_put, root_stays}
use Rattle.ft_trace.proofs.Opened.{dict_lacks}
use Rattle.ft_trace.specs.FitCalls.{FitsValue}

pub and_false : (b : Bool) → (b && false) ≡ false
and_false true = refl
and_false false = refl

module _ (versions : EntryVersionsChangeNothing) (first : FirstEntriesArePairs) (v : View) (o t slot : ℕ) (key : Key) (box : Option ℕ) (value : Value) (pairs : DictContent) (may : MayWrite v o) (is_dict : (known_state o v).content ≡ content.Dict pairs) (names : root_in (held_unboxed o v) ≡ suc t)
    (room : (known_state o v).table.fill < places (class_of t)) (in_index : slot < slots (class_of t)) (free : index_field (held_unboxed o v).table slot ≡ 0) (missing : has_key pairs.pairs key ≡ false)
    (stands : MayStandIn v box value) (now : IsDictWords v.shape.texts (at_commit v o (dict_add_write v o t slot key box value pairs)).block (0 ∷ 0 ∷ (at_commit v o (dict_add_write v o t slot key box value pairs)).table) (Some (class_of t)) ((known_state o v).table.fill + 1) (dict_set pairs key value)) where
  abbrev k : Shape
  k = v.shape

  abbrev c : ℕ
  c = class_of t

  abbrev n : ℕ
  n = slots c

  abbrev m : ℕ
  m = places c

  abbrev p : ℕ
  p = (known_state o v).table.fill

  abbrev ws : List ℕ
  ws = (held_unboxed o v).table

  abbrev news : DictContent
  news = dict_set pairs key value

  abbrev called : Call
  called = call.Dict o (dict.Set key value)

  abbrev write : WholeWrite
  write = dict_add_write v o t slot key box value pairs

  abbrev block : List ℕ
  block = (at_commit v o write).block

  abbrev put : List ℕ
  put = (at_commit v o write).table

  abbrev ver : ℕ
  ver = entry_field n ws p 0

  class_is : IsClass c
  class_is = (in_bank v o t may.low may.possible may.mine names).0

  long : length ws ≡ n + 8 * m
  long = table_is_long v o t names

  says : IsDictWords k.texts (held_unboxed o v).block (0 ∷ 0 ∷ ws) (Some c) p pairs
  says = known_says v o t (content.Dict pairs) may is_dict names

  shut : Shut (λ q. entry_offset n q 0) m ws
  shut = known_shut v o t (content.Dict pairs) may is_dict names

  even : ver % 2 ≡ 0
  even = shut p room

  -- the entry was never used
  none : entry_field n ws p 2 ≡ 0
  none =
      let fits : dict_room (class_mask c) ≡ m = room_is first k.texts (held_unboxed o v).block c p class_is pairs ws says in
      let filled = says.filled in
      let u = says.table.unused p (omega (arith, filled)) (omega (arith, fits, room)) in
      sym (word_is (λ hash. dict_slots hash (class_mask c) (class_mask c + 14)) (dict_room (class_mask c)) k.texts c class_is says.used ws says.table p 2) ∙ u.kind

  next_is : news.next ≡ pairs.next + 1
  next_is = ap (λ (b : Bool). DictContent.next (if b then record { next = pairs.next; pairs = with_value pairs.pairs key value } else record { next = pairs.next + 1; pairs = pairs.pairs ++ record { serial = pairs.next; key = key; value = value } ∷ [] })) missing

  -- ---- the puts

  abbrev b0 : List ℕ
  b0 = (held_unboxed o v).block

  names_now : slice_index block 0 ≡ suc t
  names_now = root_stays b0 (length pairs.pairs + 1) (p + 1) (pairs.next + 1) ∙ names

  inside : (w : ℕ) → w < 8 → entry_offset n p w < size c
  inside w few = omega (arith, few, room)

  -- one put into the table
  table_put : (l : List ℕ) (i x : ℕ) → i < size c → Careful n m l (under (content.Dict pairs)) i x → ((q : ℕ) → i ≡ entry_offset n q 0 → x % 2 ≡ 1) → IsNoValue kind.Dict c i → MayPut kind.Dict t (content.Dict pairs) false (record { block = block; table = l }) (to_table i x)
  table_put l i x = put_while_open kind.Dict tt t (content.Dict pairs) (record { block = block; table = l }) i x names_now

  at_least : n + 8 * m ≤ length ws
  at_least = let l = long in omega (arith, l)

  -- the puts of the entry before its kind
  abbrev At : List ℕ → Type 0
  At l = Stage n m ws p slot room in_index at_least even none free l

  abbrev l1 : List ℕ
  l1 = slice_set ws (entry_offset n p 0) (ver + 1)

  abbrev l2 : List ℕ
  l2 = slice_set l1 (entry_offset n p 1) (hash_of k.texts key)

  abbrev l3 : List ℕ
  l3 = slice_set l2 (entry_offset n p 3) (key_payload key)

  abbrev l4 : List ℕ
  l4 = slice_set l3 (entry_offset n p 4) (stored_kind (Plain value))

  abbrev l5 : List ℕ
  l5 = slice_set l4 (entry_offset n p 5) (stored_payload (Plain value))

  abbrev l6 : List ℕ
  l6 = slice_set l5 (entry_offset n p 6) pairs.next

  next_stage : (l : List ℕ) → At l → (w x : ℕ) → w < 8 → w ≢ 0 → w ≢ 2 → At (slice_set l (entry_offset n p w) x)
  next_stage = stage_next n m ws p slot room in_index at_least even none free

  s1 : At l1
  s1 = stage_first n m ws p slot room in_index at_least even none free

  s2 : At l2
  s2 = next_stage l1 s1 1 (hash_of k.texts key) (omega arith) (λ e. absurd (omega (arith, e))) (λ e. absurd (omega (arith, e)))

  s3 : At l3
  s3 = next_stage l2 s2 3 (key_payload key) (omega arith) (λ e. absurd (omega (arith, e))) (λ e. absurd (omega (arith, e)))

  s4 : At l4
  s4 = next_stage l3 s3 4 (stored_kind (Plain value)) (omega arith) (λ e. absurd (omega (arith, e))) (λ e. absurd (omega (arith, e)))

  s5 : At l5
  s5 = next_stage l4 s4 5 (stored_payload (Plain value)) (omega arith) (λ e. absurd (omega (arith, e))) (λ e. absurd (omega (arith, e)))

  s6 : At l6
  s6 = next_stage l5 s5 6 pairs.next (omega arith) (λ e. absurd (omega (arith, e))) (λ e. absurd (omega (arith, e)))

  puts : MayPuts kind.Dict t (content.Dict pairs) false (record { block = block; table = ws }) (key_puts n ws p slot (hash_of k.texts key) key box value pairs.next)
  puts =
      let before = under (content.Dict pairs) in
      let e = even in
      let of_key = new_key n m ws p slot room in_index at_least even none free before in
      let of_value = new_value n m ws p slot room in_index at_least even none free before in
      let p1 = table_put ws (entry_offset n p 0) (ver + 1) (inside 0 (omega arith)) (new_open n m ws p slot room in_index at_least even none free before) (λ q z. omega (arith, e)) (entry_far c p 0 (omega arith) (λ z. omega (arith, z)) (λ z. omega (arith, z))) in
      let p2 = table_put l1 (entry_offset n p 1) (hash_of k.texts key) (inside 1 (omega arith)) (of_key l1 s1 1 (hash_of k.texts key) (inl refl)) (λ q z. absurd (omega (arith, z))) (entry_far c p 1 (omega arith) (λ z. omega (arith, z)) (λ z. omega (arith, z))) in
      let p3 = table_put l2 (entry_offset n p 3) (key_payload key) (inside 3 (omega arith)) (of_key l2 s2 3 (key_payload key) (inr refl)) (λ q z. absurd (omega (arith, z))) (entry_far c p 3 (omega arith) (λ z. omega (arith, z)) (λ z. omega (arith, z))) in
      let odd3 : entry_field n l3 p 0 % 2 ≡ 1 = let v3 = s3.ver_is in omega (arith, v3, e) in
      let p4 : MayPut kind.Dict t (content.Dict pairs) false (record { block = block; table = l3 }) (to_value box (entry_offset n p 4) (entry_offset n p 5) (stored_kind (Plain value)) (stored_payload (Plain value))) = (names_now, (p, room, refl, omega arith, odd3), plain_kind value, λ e. off e) in
      let p6 = table_put l5 (entry_offset n p 6) pairs.next (inside 6 (omega arith)) (of_value l5 s5 6 pairs.next (omega arith) (omega arith)) (λ q z. absurd (omega (arith, z))) (entry_far c p 6 (omega arith) (λ z. omega (arith, z)) (λ z. omega (arith, z))) in
      let p7 = table_put l6 (entry_offset n p 2) (key_kind key) (inside 2 (omega arith)) (new_kind n m ws p slot room in_index at_least even none free key l6 s6 before) (λ q z. absurd (omega (arith, z))) (entry_far c p 2 (omega arith) (λ z. omega (arith, z)) (λ z. omega (arith, z))) in
      let p8 = table_put (slice_set l6 (entry_offset n p 2) (key_kind key)) slot (p + 1) (omega (arith, in_index)) (new_index n m ws p slot room in_index at_least even none free key l6 s6 before) (λ q z. absurd (omega (arith, z, in_index))) (slot_far c slot in_index) in
      (p1, (p2, (p3, (p4, (p6, (p7, (p8, tt)))))))

  early : MayPuts kind.Dict t (content.Dict pairs) false (held_unboxed o v) (count_puts (length pairs.pairs + 1) (p + 1) (pairs.next + 1) ++ key_puts n ws p slot (hash_of k.texts key) key box value pairs.next)
  early = counts_may_be_put kind.Dict t (content.Dict pairs) b0 ws (length pairs.pairs + 1) (p + 1) (pairs.next + 1) (key_puts n ws p slot (hash_of k.texts key) key box value pairs.next) puts

  fits : FitsKey key × FitsValue value
  fits = set_fit pairs key value missing (dict_fits_words k.texts block (0 ∷ 0 ∷ put) c (p + 1) news now)

  payload_is : entry_field n l6 p 3 ≡ key_payload key
  payload_is =
      let s = s2.size in
      get_or-set_other l5 (entry_offset n p 6) (entry_offset n p 3) pairs.next 0 (λ e. absurd (omega (arith, e)))
      ∙ (get_or-set_other l4 (entry_offset n p 5) (entry_offset n p 3) (stored_payload (Plain value)) 0 (λ e. absurd (omega (arith, e)))
      ∙ (get_or-set_other l3 (entry_offset n p 4) (entry_offset n p 3) (stored_kind (Plain value)) 0 (λ e. absurd (omega (arith, e)))
      ∙ get_or-set_same l2 (entry_offset n p 3) (key_payload key) 0 (omega (arith, s, room))))

  -- nothing is under the key before
  lacks : under (content.Dict pairs) key ≡ []
  lacks = dict_lacks pairs key fits.0 (dict_fits_words k.texts (held_unboxed o v).block (0 ∷ 0 ∷ ws) c p pairs says) missing

  clear : Clear (walk_of kind.Dict k.texts c) n m put (under (content.Dict pairs)) (under (content.Dict news))
  clear =
      dict_clear first k.texts block b0 c p (p + 1) class_is pairs news ws put says now
      (λ q w less two few. new_same n m ws p slot room in_index at_least even none free key l6 s6 q w less two few)
      (new_opens n m ws p slot room in_index at_least even none free key l6 s6 (under (content.Dict pairs)) (under (content.Dict news)) payload_is shut lacks (λ a l. dict_right first k.texts block c (p + 1) class_is news put now p a room l))

  late : MayPuts kind.Dict t (content.Dict news) true (at_commit v o write) (entry_closed n ws p)
  late =
      let e = even in
      let care =
      new_late n m ws p slot room in_index at_least even none free key l6 s6 (under (content.Dict news))
      (λ a l. dict_right first k.texts block c (p + 1) class_is news put now p a room l) in
      ((names_now, inside 0 (omega arith), care, record { before = λ q less at one. absurd (omega (arith, one, e)); later = λ q less at two. refl }, entry_far c p 0 (omega arith) (λ z. omega (arith, z)) (λ z. omega (arith, z))), tt)

  ends : IsDictWords k.texts block (0 ∷ 0 ∷ (at_end v o write).table) (Some c) (p + 1) news
  ends = version_stands versions k.texts block put c (p + 1) p (ver + 2) class_is (content.Dict news) tt now

  -- ---- in each history that agrees with what the pass knows

  module _ (calls : List Call) (agree : AgreesWith v (stored_newest k.starts calls)) where
    abbrev found : StoredWorld
    found = stored_newest k.starts calls

    abbrev left : List Content
    left = after_write found.world called

    abbrev T : TableUse
    T = table_at found.tables o

    no_keys : T.keys ≡ []
    no_keys = keys_there v o (content.Dict pairs) may.low may.mine is_dict calls agree may.possible

    -- one serial is drawn, and the table has room for it
    one_drawn : (dict_at left o).next - (dict_at found.world o).next ≡ 1
    one_drawn =
        let a : (dict_at left o).next ≡ news.next = ap (λ (z : DictContent). z.next) (dict_left v o pairs may.low may.mine is_dict calls agree key value) in
        let e : (dict_at found.world o).next ≡ pairs.next = ap (λ (z : DictContent). z.next) (dict_found v o pairs may.low may.mine is_dict calls agree) in
        let s = next_is in
        omega (arith, a, e, s)

    not_outgrown : outgrows_dict T ((dict_at left o).next - (dict_at found.world o).next) ≡ false
    unfolding places
    not_outgrown =
        let table_is = table_there v o (content.Dict pairs) may.low may.mine is_dict calls agree ∙ known_use v o t (content.Dict pairs) may is_dict names in
        let class_here : T.class ≡ Some c = ap (λ (z : TableUse). z.class) table_is in
        let fill_here : T.fill ≡ p = ap (λ (z : TableUse). z.fill) table_is in
        let drawn = one_drawn in
        (λ d. outgrows_dict (record { class = class_here d; fill = fill_here d; keys = T.keys }) (drawn d))
        ∙ (ap (λ (z : Bool). nat_lt 0 1 && z) (le-ltb (dict_entries c) (p + 1) (omega (arith, room))) ∙ and_false (nat_lt 0 1))

    takes_none : takes_in found called ≡ None
    takes_none =
        unsplit_takes T (dict.Set key value) (dict_at found.world o) (dict_at left o) no_keys
        ∙ ap (λ (z : Bool). if z then Some (dict_class (length (dict_at left o).pairs)) else None) not_outgrown

    table_after : table_at (after_stored found called).tables o ≡ use_of t (p + 1)
    table_after =
        let drawn = (dict_at left o).next - (dict_at found.world o).next in
        let count = length (dict_at left o).pairs in
        let table_is = table_there v o (content.Dict pairs) may.low may.mine is_dict calls agree ∙ known_use v o t (content.Dict pairs) may is_dict names in
        let one = one_drawn in
        ap (λ (z : List TableUse). table_at z o) (unsplit_leaves found.tables o (dict.Set key value) (dict_at found.world o) (dict_at left o) (takes_in found called) no_keys)
        ∙ (get_or-set_same found.tables o (grown_table T (takes_in found called) drawn count) no_table (in_tables v o (content.Dict pairs) may.low may.mine is_dict calls agree)
        ∙ (ap (λ (z : Option ℕ). grown_table T z drawn count) takes_none
        ∙ (λ d. record { class = (table_is d).class; fill = (table_is d).fill + one d; keys = (table_is d).keys })))

  pub add_possible : (start number : ℕ) × (s : Snap) × (stop : ℕ) × IsReachable (after_write_of v o t write start number s stop)
  add_possible =
      facts_suffice v o t (content.Dict pairs) (content.Dict news) (use_of t (p + 1)) write (may_begin v o may) is_dict
      (record {
        called = record { of = refl; wrote = refl; fits = fits; locks = one_locked o v.log may.mine; replied = λ r e. inr e; declared = λ world one. record { one = one; both = tt; room = tt } };
        root = tt;
        early = early;
        boxes = (stands, tt);
        names = names_now;
        clear = clear;
        late = late;
        names_still = names_now;
        ends = ends;
        shut = new_shut n m ws p slot room in_index at_least even none free key l6 s6 shut;
        history = λ calls agree. record {
          answered = dict_answered v o pairs may.low may.mine is_dict calls agree key value;
          table_after = table_after calls agree;
          within = dict_passes_not v o pairs may.low may.mine is_dict calls agree key value (dict_short first k.texts block c (p + 1) class_is news put now);
          takes = λ class e. absurd (let none = may.none in omega (arith, e, none));
        };
      })

pub keys_may_be_added : EntryVersionsChangeNothing → FirstEntriesArePairs → KeysMayBeAdded
keys_may_be_added versions first v o t slot key box value pairs may is_dict names room in_index free missing stands now = add_possible versions first v o t slot key box value pairs may is_dict names room in_index free missing stands now
