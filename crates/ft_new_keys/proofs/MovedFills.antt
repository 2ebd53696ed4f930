-- A fresh table that has got the entries of the table of a dict or a set, with their boxes.
use Rattle.std.proofs.Common.{◌≡◌, ◌≢◌, ℕ, suc, ◌+◌, ◌/◌, ◌%◌, ◌<◌, ◌≤◌, List, [], ◌∷◌, length, filter, Option, Some, refl, sym, ap, ◌∙◌, subst, arith}
use Rattle.std.specs.Prelude.{All, slice_index}
use Rattle.std.proofs.lemmas.List.Elements.{filter_passes}
use Rattle.ft_model.specs.declared.content.Content.{Content}
use Rattle.ft_model.specs.declared.content.Content.TheVariants as content
use Rattle.ft_model.specs.declared.data.Key.{Key}
use Rattle.ft_model.specs.declared.script.Kind.{Kind}
use Rattle.ft_model.specs.Classes.{IsClass}
use Rattle.ft_model.specs.Worlds.{kind_of, length_of, serial_of}
use Rattle.ft_hash.proofs.Walks.{dict_slots-within, set_slots-within}
use Rattle.ft_layout.specs.Containers.{class_mask, IsBlock, StandsAs}
use Rattle.ft_layout.specs.Tables.{UsedEntry, is_live}
use Rattle.ft_keys.specs.declared.walk.Way.{Way}
use Rattle.ft_keys.specs.declared.walk.Way.TheVariants as way
use Rattle.ft_keys.specs.Accesses.{after}
use Rattle.ft_keys.specs.Puts.{PutBelow}
use Rattle.ft_keys.specs.TableChanges.{Moves, Rebuilds}
use Rattle.ft_keys.specs.Ways.{room, walk_slots, IsTableOf}
use Rattle.ft_trace.specs.declared.Shape.{Shape}
use Rattle.ft_trace.specs.declared.View.{View}
use Rattle.ft_trace.specs.Acts.{mem}
use Rattle.ft_trace.specs.Addresses.{class_of, slots, size}
use Rattle.ft_trace.specs.Boxes.{value_at, names_box_at, known_box_word}
use Rattle.ft_trace.specs.ContainerStates.{kind_in}
use Rattle.ft_trace.specs.Holds.{held_words, held_unboxed, known_state, in_hand, hand_unboxed}
use Rattle.ft_trace.specs.Kinds.{rows, IsKeyed}
use Rattle.ft_trace.specs.Pictures.{root_in, entry_field}
use Rattle.ft_trace.specs.Sums.{sum_to}
use Rattle.ft_trace.specs.Traces.{IsReachable}
use Rattle.ft_trace.specs.Unboxed.{unboxed_rows, unboxed_table}
use Rattle.ft_trace.proofs.Known.{class_known}
use Rattle.ft_trace.proofs.Pieces.{table_long}
use Rattle.ft_trace.proofs.PlainPuts.{by_root}
use Rattle.ft_trace.proofs.ReadTables.{read_entry}
use Rattle.ft_bank.specs.declared.table.Table.{Table}
use Rattle.ft_bank.specs.Passes.{view}
use Rattle.ft_bank.specs.TableNames.{table_id}
use Rattle.ft_search.specs.Rounds.{kind_by}
use Rattle.ft_search.proofs.Changing.{kind_is, no_keys}
use Rattle.ft_search.proofs.Puts.{keyed_value, table_class}
use Rattle.ft_search.proofs.Unboxing.{raw_table_long}
use Rattle.ft_table_calls.proofs.PlainTables.{ArePlain, plain_named, plain_reads}
use Rattle.ft_new_keys.specs.declared.fresh.FreshWords.{FreshWords}
use Rattle.ft_new_keys.specs.Fresh.{FreshMade, fresh_words, old_words, HasZeroWords, IsFilledWith}
use Rattle.ft_new_keys.specs.KeyGrowth.{KnowsKeyed}
use Rattle.ft_new_keys.specs.Moving.{live_names_at, live_in_root, HasMoved}
use Rattle.ft_new_keys.proofs.FilledTables.{BlankHolds, LivePairs, LiveElements, KeepsVersions, blank_table, ran_fresh, room_of_way, zero_versions}
use Rattle.ft_new_keys.proofs.MovedTables.{NamesBoxes, all_sum, kind_here, live_sum, named_live, payload_here, raw_is, raws, raws_read, read_is}
use Rattle.ft_new_keys.proofs.NamedValues.{named_fits, named_has_value}
use Rattle.ft_new_keys.proofs.Placed.{use_with}
use Rattle.ft_new_keys.proofs.RawTables.{AllRead, read_live, read_long}

-- the slots that are tried lie in the index
pub within : (by : Way) (class hash : ℕ) → All (λ s. s ≤ class_mask class) (walk_slots by hash (class_mask class))
within way.Dict class hash = dict_slots-within hash (class_mask class) (class_mask class + 14)
within way.Set class hash = set_slots-within hash (class_mask class) (class_mask class + 14)

pub keyed_by : (by : Way) → IsKeyed (kind_by by)
keyed_by way.Dict = tt
keyed_by way.Set = tt

-- ---- lists of words

module _ (box : ℕ → ℕ → ℕ) (by : Way) (kd : Kind) (kd_is : kd ≡ kind_by by) (keyed : IsKeyed kd) (texts : List ℕ) (old_class class : ℕ) (is_old : IsClass old_class) (is_class : IsClass class) (l made : List ℕ) (long : length l ≡ size old_class) (made_long : length made ≡ size class) where
  abbrev walk : ℕ → ℕ → List ℕ
  walk c hash = walk_slots by hash (class_mask c)

  pub room_is : (c : ℕ) → IsClass c → room by (class_mask c) ≡ rows kd c
  room_is c is = room_of_way by c is ∙ ap (λ (z : Kind). rows z c) (sym kd_is)

  -- what the words of the old table read, and of the new one
  abbrev pub old_reads : List ℕ
  old_reads = 0 ∷ 0 ∷ unboxed_rows box kd old_class (rows kd old_class) l

  abbrev pub new_reads : List ℕ
  new_reads = 0 ∷ 0 ∷ unboxed_rows box kd class (rows kd class) made

  abbrev pub OldNames : Type 0
  OldNames = NamesBoxes box kd keyed old_class is_old (walk old_class) (room by (class_mask old_class)) texts (room_is old_class is_old) (within by old_class) l long

  -- the words as they stand are rebuilt
  abbrev pub Rebuilt : ℕ → Type 0
  Rebuilt fill = (used : List UsedEntry) → IsTableOf by texts (class_mask old_class) used (0 ∷ 0 ∷ l) → length used ≡ fill → length (filter is_live used) ≤ room by (class_mask class) → IsTableOf by texts (class_mask class) (filter is_live used) (0 ∷ 0 ∷ made)

  module _ (names : OldNames) (fill : ℕ) (rebuilt : Rebuilt fill) (used : List UsedEntry) (table : IsTableOf by texts (class_mask old_class) used old_reads) (filled : length used ≡ fill) (fits : length (filter is_live used) ≤ rows kd class) where
    abbrev rs : List UsedEntry
    rs = raws box kd keyed old_class is_old (walk old_class) (room by (class_mask old_class)) texts (room_is old_class is_old) (within by old_class) l long used table names

    raw_table : IsTableOf by texts (class_mask old_class) rs (0 ∷ 0 ∷ l)
    raw_table = raw_is box kd keyed old_class is_old (walk old_class) (room by (class_mask old_class)) texts (room_is old_class is_old) (within by old_class) l long used table names

    raw_read : AllRead box rs used
    raw_read = raws_read box kd keyed old_class is_old (walk old_class) (room by (class_mask old_class)) texts (room_is old_class is_old) (within by old_class) l long used table names

    live_read : AllRead box (filter is_live rs) (filter is_live used)
    live_read = read_live box rs used raw_read

    made_table : IsTableOf by texts (class_mask class) (filter is_live rs) (0 ∷ 0 ∷ made)
    made_table =
        let many = read_long box rs used raw_read in
        let live = read_long box (filter is_live rs) (filter is_live used) live_read in
        let r = room_is class is_class in
        rebuilt rs raw_table (many ∙ filled) (omega (arith, live, r, fits))

    pub moved_table : IsTableOf by texts (class_mask class) (filter is_live used) new_reads
    moved_table = read_is box kd keyed class is_class (walk class) (room by (class_mask class)) texts (room_is class is_class) (within by class) made made_long (filter is_live rs) (filter is_live used) made_table live_read (filter_passes is_live used)

    pub moved_names : (b : ℕ) → sum_to (names_box_at b kd class made) (rows kd class) ≡ sum_to (live_names_at b kd old_class l) (rows kd old_class)
    moved_names b =
        all_sum kd keyed class (walk class) (room by (class_mask class)) texts (room_is class is_class) made (filter is_live rs) made_table b (filter_passes is_live rs)
        ∙ (named_live b rs ∙ sym (live_sum kd keyed old_class (walk old_class) (room by (class_mask old_class)) texts (room_is old_class is_old) l rs raw_table b))

  -- ---- what they stand for

  module _ (pairs_live : LivePairs) (elements_live : LiveElements) (names : OldNames) (fill : ℕ) (rebuilt : Rebuilt fill) (block : List ℕ) where
    abbrev Moved : Content → Type 0
    Moved d =
        ((head_block : List ℕ) → IsBlock head_block (Some class) (length_of d) (length_of d) (serial_of d) → StandsAs texts head_block new_reads (use_with class (length_of d)) d)
        × ((b : ℕ) → sum_to (names_box_at b kd class made) (rows kd class) ≡ sum_to (live_names_at b kd old_class l) (rows kd old_class))

    pub moved_content : (d : Content) → kind_of d ≡ kd → StandsAs texts block old_reads (use_with old_class fill) d → length_of d ≤ rows kd class → Moved d
    moved_content d same is few = by_way d by (same ∙ kd_is) refl is few
      where
        by_way : (d : Content) (w : Way) → kind_of d ≡ kind_by w → w ≡ by → StandsAs texts block old_reads (use_with old_class fill) d → length_of d ≤ rows kd class → Moved d
        by_way (content.Dict pairs) way.Dict same e is few =
            let live = pairs_live is.used pairs is.entries in
            let many = live.1 in
            let table : IsTableOf by texts (class_mask old_class) is.used old_reads = subst (λ (z : Way). IsTableOf z texts (class_mask old_class) is.used old_reads) e is.table in
            let made_is = moved_table names fill rebuilt is.used table is.filled (omega (arith, many, few)) in (
              λ head_block head. record { head = head; used = filter is_live is.used; table = subst (λ (z : Way). IsTableOf z texts (class_mask class) (filter is_live is.used) new_reads) (sym e) made_is; filled = live.1; entries = live.0 },
              moved_names names fill rebuilt is.used table is.filled (omega (arith, many, few)),
            )
        by_way (content.Set elements) way.Set same e is few =
            let live = elements_live is.used elements is.entries in
            let many = live.1 in
            let table : IsTableOf by texts (class_mask old_class) is.used old_reads = subst (λ (z : Way). IsTableOf z texts (class_mask old_class) is.used old_reads) e is.table in
            let made_is = moved_table names fill rebuilt is.used table is.filled (omega (arith, many, few)) in (
              λ head_block head. record { head = head; used = filter is_live is.used; table = subst (λ (z : Way). IsTableOf z texts (class_mask class) (filter is_live is.used) new_reads) (sym e) made_is; filled = live.1; entries = live.0 },
              moved_names names fill rebuilt is.used table is.filled (omega (arith, many, few)),
            )
        by_way (content.Dict pairs) way.Set same e is few = absurd (cc)
        by_way (content.Set elements) way.Dict same e is few = absurd (cc)
        by_way (content.List values) way.Dict same e is few = absurd (cc)
        by_way (content.Deque deque) way.Dict same e is few = absurd (cc)
        by_way (content.List values) way.Set same e is few = absurd (cc)
        by_way (content.Deque deque) way.Set same e is few = absurd (cc)

-- ---- what a pass knows that has the lock

module _ (o : ℕ) (old : Table) (x : View) (keyed : KnowsKeyed x.shape o (Some old) x) (possible : ∥ IsReachable x ∥₁) (by : Way) (kind_eq : kind_in x.shape.starts o ≡ kind_by by) (passes : x.shape.passes ≤ 64) (heap : x.shape.heap ≤ 4096) where
  abbrev kd : Kind
  kd = kind_in x.shape.starts o

  abbrev box : ℕ → ℕ → ℕ
  box b i = known_box_word x.shape b i x.log

  abbrev c0 : ℕ
  c0 = class_of (table_id old)

  abbrev l : List ℕ
  l = (held_words o x).table

  abbrev d : Content
  d = (known_state o x).content

  names_old : root_in (held_words o x) ≡ suc (table_id old)
  names_old = keyed.root

  pub is_old : IsClass c0
  is_old = table_class x.shape old (keyed.table_in old refl)

  pub long : length l ≡ size c0
  long = raw_table_long x o (table_id old) names_old

  content_kind : kind_of d ≡ kd
  content_kind = kind_is x.shape x o refl possible keyed.locked

  stands : StandsAs x.shape.texts (held_unboxed o x).block (0 ∷ 0 ∷ unboxed_rows box kd c0 (rows kd c0) l) (use_with c0 (known_state o x).table.fill) d
  stands =
      let class = class_known x.shape.texts (held_unboxed o x) (known_state o x) (table_id old) keyed.stands keyed.root in
      let whole = by_root box kd (root_in (held_words o x)) (table_id old) l names_old in
      subst (λ (z : Option ℕ × List Key × List ℕ). StandsAs x.shape.texts (held_unboxed o x).block (0 ∷ 0 ∷ z.2) (record { class = z.0; fill = (known_state o x).table.fill; keys = z.1 }) d) (λ i. (class i, no_keys x o possible keyed.locked i, whole i)) keyed.stands

  module _ (class : ℕ) (is_class : IsClass class) (made : List ℕ) (made_long : length made ≡ size class) where
    names_boxes : OldNames box by kd kind_eq keyed.keyed x.shape.texts c0 class is_old is_class l made long made_long
    names_boxes p low four =
        let at = kind_here box kd keyed.keyed c0 is_old (λ hash. walk_slots by hash (class_mask c0)) (room by (class_mask c0)) x.shape.texts (room_of_way by c0 is_old ∙ ap (λ (z : Kind). rows z c0) (sym kind_eq)) (within by c0) l long p low in
        let next = payload_here box kd keyed.keyed c0 is_old (λ hash. walk_slots by hash (class_mask c0)) (room by (class_mask c0)) x.shape.texts (room_of_way by c0 is_old ∙ ap (λ (z : Kind). rows z c0) (sym kind_eq)) (within by c0) l long p low in
        let fits = named_fits x o (table_id old) p possible keyed.container keyed.locked names_old low (at ∙ four) passes heap in
        let some_ = named_has_value x o (table_id old) p possible keyed.container keyed.locked names_old low (at ∙ four) in
        subst (λ (b : ℕ). (b / 65536 < 64) × (b % 65536 < 4096) × (1 ≤ box b 1)) next (fits.0, fits.1, some_)

    pub moved_here : (pairs_live : LivePairs) (elements_live : LiveElements) → Rebuilt box by kd kind_eq keyed.keyed x.shape.texts c0 class is_old is_class l made long made_long (known_state o x).table.fill → length_of d ≤ rows kd class
        → ((head_block : List ℕ) → IsBlock head_block (Some class) (length_of d) (length_of d) (serial_of d) → StandsAs x.shape.texts head_block (0 ∷ 0 ∷ unboxed_rows box kd class (rows kd class) made) (use_with class (length_of d)) d)
        × ((b : ℕ) → sum_to (names_box_at b kd class made) (rows kd class) ≡ sum_to (live_names_at b kd c0 l) (rows kd c0))
    moved_here pairs_live elements_live rebuilt few =
        moved_content box by kd kind_eq keyed.keyed x.shape.texts c0 class is_old is_class l made long made_long pairs_live elements_live names_boxes (known_state o x).table.fill rebuilt (held_unboxed o x).block d content_kind stands few

-- ---- the calls that fill the fresh table

module _ (k : Shape) (o : ℕ) (old table : Table) (s t : FreshWords) (shape : (view t.pass.now).shape ≡ k) (keyed : KnowsKeyed k o (Some old) (view t.pass.now)) (possible : ∥ IsReachable (view t.pass.now) ∥₁) (by : Way) (kind_eq : kind_in k.starts o ≡ kind_by by) (passes : k.passes ≤ 64) (heap : k.heap ≤ 4096) (holds : BlankHolds) (pairs_live : LivePairs) (elements_live : LiveElements) (keeps : KeepsVersions) (is_class : IsClass (class_of (table_id table)))
    (names_table : s.table ≡ table) (last : s.mask ≡ class_mask (class_of (table_id table))) (old_last : s.old_mask ≡ class_mask (class_of (table_id old))) (blank : HasZeroWords (class_of (table_id table)) (in_hand (table_id s.table) (view s.pass.now))) (raw : old_words s ≡ 0 ∷ 0 ∷ (held_words o (view t.pass.now)).table) where
  abbrev x : View
  x = view t.pass.now

  abbrev class : ℕ
  class = class_of (table_id table)

  abbrev made : List ℕ
  made = in_hand (table_id table) x

  keyed_x : KnowsKeyed x.shape o (Some old) x
  keyed_x = subst (λ (z : Shape). KnowsKeyed z o (Some old) x) (sym shape) keyed

  kind_x : kind_in x.shape.starts o ≡ kind_by by
  kind_x = ap (λ (z : Shape). kind_in z.starts o) shape ∙ kind_eq

  made_long : length made ≡ size class
  made_long = table_long x.shape (table_id table) (mem x.shape x.log)

  pub moved_by : (n most result : ℕ) → n ≡ (known_state o x).table.fill → length_of (known_state o x).content ≤ rows (kind_by by) class → Moves FreshMade s.mask s t most result (Rebuilds by s.mask n result) → HasMoved k o table x
  moved_by n most result same_fill few moves =
      let r = ran_fresh s moves.calls t moves.runs in
      let is_made : 0 ∷ 0 ∷ made ≡ after s.mask moves.calls (fresh_words s) = ap (λ (z : Table). 0 ∷ 0 ∷ in_hand (table_id z) x) (sym names_table) ∙ (ap (λ (z : Table). 0 ∷ 0 ∷ in_hand (table_id z) x) (sym r.table) ∙ r.words) in
      let done = moves.done (fresh_words s) (old_words s) s.old_mask r.fits r.fits_old in
      let rebuilt : Rebuilt (λ b i. known_box_word x.shape b i x.log) by (kind_in x.shape.starts o) kind_x keyed_x.keyed x.shape.texts (class_of (table_id old)) class (table_class x.shape old (keyed_x.table_in old refl)) is_class (held_words o x).table made (raw_table_long x o (table_id old) keyed_x.root) made_long (known_state o x).table.fill =
      λ used is_table filled fits.
      subst (λ (z : ℕ × List ℕ). IsTableOf by x.shape.texts z.0 (filter is_live used) z.1) (λ i. (last i, sym is_made i))
      (done x.shape.texts used
      (subst (λ (z : ℕ). IsTableOf by x.shape.texts z [] (fresh_words s)) (sym last) (holds _ (room by (class_mask class)) x.shape.texts (class_mask class) (fresh_words s) (blank_table class is_class (in_hand (table_id s.table) (view s.pass.now)) blank)))
      (subst (λ (z : ℕ × List ℕ). IsTableOf by x.shape.texts z.0 used z.1) (λ i. (sym old_last i, sym raw i)) is_table)
      (filled ∙ sym same_fill)
      (subst (λ (z : ℕ). length (filter is_live used) ≤ room by z) (sym last) fits)).0 in
      let few_x : length_of (known_state o x).content ≤ rows (kind_in x.shape.starts o) class = subst (λ (z : Kind). length_of (known_state o x).content ≤ rows z class) (sym kind_x) few in
      let moved = moved_here o old x keyed_x possible by kind_x (subst (λ (z : Shape). z.passes ≤ 64) (sym shape) passes) (subst (λ (z : Shape). z.heap ≤ 4096) (sym shape) heap) class is_class made made_long pairs_live elements_live rebuilt few_x in
      let zeros = zero_versions holds pairs_live elements_live keeps x.shape.texts [] [] class class 0 result moves.calls (in_hand (table_id s.table) (view s.pass.now)) made is_class is_class blank (subst (λ (m : ℕ). PutBelow m result moves.calls) last moves.below) (is_made ∙ ap (λ (m : ℕ). after m moves.calls (fresh_words s)) last) in
      subst (λ (z : Shape). HasMoved z o table x) shape
      (record {
        says = moved.0;
        versions = λ place low. read_entry (λ b i. known_box_word x.shape b i x.log) class (rows (kind_in x.shape.starts o) class) made (kind_in x.shape.starts o) keyed_x.keyed place 0 (omega arith) (λ z. omega (arith, z)) (λ z. omega (arith, z)) ∙ zeros place;
        names = λ b. moved.1 b ∙ sym (ap (λ (z : ℕ). live_in_root b (kind_in x.shape.starts o) z (held_words o x).table) keyed_x.root);
      })

-- ---- a container without a table

pub bare_moved : (k : Shape) (o : ℕ) (table : Table) (x : View) → x.shape ≡ k → IsKeyed (kind_in k.starts o) → kind_of (known_state o x).content ≡ kind_in k.starts o → root_in (held_words o x) ≡ 0 → IsFilledWith k.texts (class_of (table_id table)) (known_state o x).content (in_hand (table_id table) x) → HasMoved k o table x
bare_moved k o table x shape keyed same bare filled =
    let kd : Kind = kind_in k.starts o in
    let class = class_of (table_id table) in
    let made : List ℕ = in_hand (table_id table) x in
    let plain : ArePlain kd class made (rows kd class) = subst (λ (z : Kind). (p : ℕ) → p < rows z class → slice_index made (value_at kd class p) ≢ 4) same (λ p low four. filled.plain p low (ap (slice_index made) (sym (keyed_value kd keyed class p)) ∙ four)) in
    let reads : hand_unboxed o (table_id table) x ≡ made = (λ d. unboxed_table (λ b i. known_box_word x.shape b i x.log) (kind_in (shape d).starts o) (suc (table_id table)) made) ∙ plain_reads (λ b i. known_box_word x.shape b i x.log) kd (table_id table) made plain in
    record {
      says = λ block head. subst (λ (l : List ℕ). StandsAs k.texts block (0 ∷ 0 ∷ l) (use_with class (length_of (known_state o x).content)) (known_state o x).content) (sym reads) (filled.says block head);
      versions = λ place low. ap (λ (l : List ℕ). entry_field (slots class) l place 0) reads ∙ filled.versions place (subst (λ (z : Kind). place < rows z class) (sym same) low);
      names = λ b. plain_named b (table_id table) kd made plain ∙ sym (ap (λ (z : ℕ). live_in_root b kd z (held_words o x).table) bare);
    }
