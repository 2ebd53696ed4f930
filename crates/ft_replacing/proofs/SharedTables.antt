-- A fresh table that has got the entries of the table of a dict as they stand, with new serials: what it stands for, and which
-- boxes it names.
use Rattle.std.proofs.Common.{◌≡◌, ◌≢◌, ℕ, zero, suc, ◌+◌, ◌<◌, ◌≤◌, Bool, true, false, true≢false, cond, List, [], ◌∷◌, map, length, filter, Option, Some, None, refl, sym, ap, ◌∙◌, subst, arith}
use Rattle.std.specs.Prelude.{All, is_some, slice_index, slice_index_or}
use Rattle.std.proofs.lemmas.List.{length-map}
use Rattle.std.proofs.lemmas.List.Elements.{filter_passes}
use mathlib.Core.Logic.{dite}
use Rattle.std.proofs.Math.Decide.{dec_lt}
use Rattle.ft_model.specs.declared.content.Content.TheVariants as content
use Rattle.ft_model.specs.declared.content.DictPair.{DictPair}
use Rattle.ft_model.specs.declared.data.Key.{Key}
use Rattle.ft_model.specs.declared.data.Value.{Value}
use Rattle.ft_model.specs.declared.data.Value.TheVariants as value
use Rattle.ft_model.specs.declared.script.Kind.{Kind}
use Rattle.ft_model.specs.declared.script.Kind.TheVariants as kind
use Rattle.ft_model.specs.Classes.{IsClass}
use Rattle.ft_model.specs.Contents.{DictContent, dict_copy, pairs_from}
use Rattle.ft_layout.specs.declared.slot.Stored.{Stored}
use Rattle.ft_layout.specs.declared.slot.Stored.TheVariants.{Plain}
use Rattle.ft_layout.specs.Containers.{class_mask, used_pair, IsDictWords}
use Rattle.ft_layout.specs.Tables.{UsedEntry, dict_room, entry_word, hash_of, is_live, slot_of, slot_with, IsDictTable}
use Rattle.ft_layout.specs.Words.{IsEntry, stored_kind}
use Rattle.ft_keys.specs.declared.walk.Way.TheVariants as way
use Rattle.ft_keys.specs.Ways.{room, walk_slots}
use Rattle.ft_trace.specs.Addresses.{slots, size}
use Rattle.ft_trace.specs.Boxes.{value_at}
use Rattle.ft_trace.specs.Kinds.{rows, IsKeyed}
use Rattle.ft_trace.specs.Pictures.{entry_field, entry_offset}
use Rattle.ft_trace.specs.Unboxed.{unboxed_rows}
use Rattle.ft_trace.proofs.ReadTables.{read_entry}
use Rattle.ft_new_keys.specs.Fresh.{IsFilledWith}
use Rattle.ft_new_keys.proofs.FilledTables.{room_of_way, table_plain}
use Rattle.ft_new_keys.proofs.MovedFills.{within}
use Rattle.ft_new_keys.proofs.MovedTables.{NamesBoxes, kind_here, payload_here, raw_is, raws, raws_read, read_is}
use Rattle.ft_new_keys.proofs.RawTables.{AllRead, read_live, read_long}
use Rattle.ft_replacing.specs.Internal.Numbering.{renumbered}
use Rattle.ft_replacing.specs.Sharing.{SharesEntries, numbered_from}
use Rattle.ft_replacing.proofs.Numbered.{numbered_long, numbered_other, pairs_live}
use Rattle.ft_replacing.proofs.NumberedEntries.{numbered_at, numbered_many, numbered_pairs, numbered_read, numbered_used}

-- ---- lists of entries

-- an entry that is there is one of the used ones
abbrev IsAmong : List UsedEntry → ℕ → UsedEntry → List UsedEntry → Type 0
IsAmong live p any es = (q : ℕ) × (q < length es) × (slice_index_or live p any ≡ slice_index_or es q any)

among : (b : Bool) (e : UsedEntry) (live es : List UsedEntry) (p : ℕ) (any : UsedEntry) → ((r : ℕ) → r < length live → IsAmong live r any es) → p < length (cond b (e ∷ live) live) → IsAmong (cond b (e ∷ live) live) p any (e ∷ es)
among true e live es zero any more low = (0, omega arith, refl)
among true e live es (suc p) any more low = let f = more p (omega (arith, low)) in (suc f.0, (let less = f.1 in omega (arith, less)), f.2)
among false e live es p any more low = let f = more p low in (suc f.0, (let less = f.1 in omega (arith, less)), f.2)

live_among : (es : List UsedEntry) (p : ℕ) (any : UsedEntry) → p < length (filter is_live es) → IsAmong (filter is_live es) p any es
live_among [] p any low = absurd (omega (arith, low))
live_among (e ∷ es) p any low = among (is_live e) e (filter is_live es) es p any (λ r less. live_among es r any less) low

first_of : (es : List UsedEntry) → 0 < length es → UsedEntry
first_of [] some_ = absurd (omega (arith, some_))
first_of (e ∷ es) some_ = e

-- two entries that store the same have the same words for the value
same_value : (u w : ℕ → ℕ) (hash other : ℕ) (key : Key) (s t : ℕ) (stored : Option Stored) → is_some stored ≡ true → IsEntry u (slot_with hash key s stored) → IsEntry w (slot_with other key t stored) → (u 4 ≡ w 4) × (u 5 ≡ w 5)
same_value u w hash other key s t (Some x) live a b = (a.value.kind_is ∙ sym b.value.kind_is, a.value.payload_is ∙ sym b.value.payload_is)
same_value u w hash other key s t None live a b = absurd (true≢false (sym live))

-- what pairs store is no box
plain_four : (x : Value) → stored_kind (Plain x) ≢ 4
plain_four value.Nothing e = omega (arith, e)
plain_four (value.Int n) e = omega (arith, e)
plain_four (value.Text s) e = omega (arith, e)

pairs_plain : (pairs : List DictPair) → All (λ (e : UsedEntry). (stored : Stored) × (e.stored ≡ Some stored) × (stored_kind stored ≢ 4)) (map used_pair pairs)
pairs_plain [] k d low = absurd (omega (arith, low))
pairs_plain (pair ∷ pairs) zero d low = (Plain pair.value, refl, plain_four pair.value)
pairs_plain (pair ∷ pairs) (suc k) d low = pairs_plain pairs k d (omega (arith, low))

-- pairs with new serials are below the next one
numbered_below : (next : ℕ) (pairs : List DictPair) → All (λ (e : UsedEntry). e.serial < next + length pairs) (map used_pair (pairs_from next pairs))
numbered_below next [] k d low = absurd (omega (arith, low))
numbered_below next (pair ∷ pairs) zero d low = omega arith
numbered_below next (pair ∷ pairs) (suc k) d low =
    let rest = numbered_below (next + 1) pairs k d (omega (arith, low)) in
    omega (arith, rest)

-- ---- the words

module _ (box : ℕ → ℕ → ℕ) (kd : Kind) (kd_is : kd ≡ kind.Dict) (keyed : IsKeyed kd) (texts : List ℕ) (old_class class : ℕ) (is_old : IsClass old_class) (is_class : IsClass class) (l mid : List ℕ) (long : length l ≡ size old_class) (mid_long : length mid ≡ size class) (next : ℕ) where
  abbrev walk : ℕ → ℕ → List ℕ
  walk c hash = walk_slots way.Dict hash (class_mask c)

  pub room_is : (c : ℕ) → IsClass c → room way.Dict (class_mask c) ≡ rows kd c
  room_is c is = room_of_way way.Dict c is ∙ ap (λ (z : Kind). rows z c) (sym kd_is)

  -- what the words of the old table read
  abbrev old_reads : List ℕ
  old_reads = 0 ∷ 0 ∷ unboxed_rows box kd old_class (rows kd old_class) l

  abbrev pub OldNames : Type 0
  OldNames = NamesBoxes box kd keyed old_class is_old (walk old_class) (room way.Dict (class_mask old_class)) texts (room_is old_class is_old) (within way.Dict old_class) l long

  -- the words as they stand are rebuilt
  abbrev pub Rebuilt : ℕ → Type 0
  Rebuilt fill = (used : List UsedEntry) → IsDictTable texts (class_mask old_class) used (0 ∷ 0 ∷ l) → length used ≡ fill → length (filter is_live used) ≤ dict_room (class_mask class) → IsDictTable texts (class_mask class) (filter is_live used) (0 ∷ 0 ∷ mid)

  module _ (names : OldNames) (fill : ℕ) (rebuilt : Rebuilt fill) (block : List ℕ) (pairs : DictContent) (is : IsDictWords texts block old_reads (Some old_class) fill pairs) (few : length pairs.pairs ≤ rows kd class) where
    abbrev rs : List UsedEntry
    rs = raws box kd keyed old_class is_old (walk old_class) (room way.Dict (class_mask old_class)) texts (room_is old_class is_old) (within way.Dict old_class) l long is.used is.table names

    abbrev pub live : List UsedEntry
    live = filter is_live rs

    abbrev made : List ℕ
    made = renumbered (slots class) next (length live) mid

    raw_table : IsDictTable texts (class_mask old_class) rs (0 ∷ 0 ∷ l)
    raw_table = raw_is box kd keyed old_class is_old (walk old_class) (room way.Dict (class_mask old_class)) texts (room_is old_class is_old) (within way.Dict old_class) l long is.used is.table names

    raw_read : AllRead box rs is.used
    raw_read = raws_read box kd keyed old_class is_old (walk old_class) (room way.Dict (class_mask old_class)) texts (room_is old_class is_old) (within way.Dict old_class) l long is.used is.table names

    -- the entries that are there read the pairs
    live_read : AllRead box live (map used_pair pairs.pairs)
    live_read = subst (AllRead box live) is.entries.live (read_live box rs is.used raw_read)

    pub live_many : length live ≡ length pairs.pairs
    live_many = read_long box live (map used_pair pairs.pairs) live_read ∙ length-map pairs.pairs used_pair

    mid_table : IsDictTable texts (class_mask class) live (0 ∷ 0 ∷ mid)
    mid_table =
        let many = read_long box rs is.used raw_read in
        let r = room_is class is_class in
        let n = live_many in
        rebuilt rs raw_table (many ∙ is.filled) (omega (arith, n, r, few))

    last_table : IsDictTable texts (class_mask class) (numbered_from next live) (0 ∷ 0 ∷ made)
    last_table = numbered_used texts class next mid live mid_table

    pub shares_entries : SharesEntries texts next old_class l class made
    shares_entries = record { used = rs; had = raw_table; has = last_table }

    -- what it reads
    made_long : length made ≡ size class
    made_long = numbered_long (slots class) next (length live) mid ∙ mid_long

    abbrev copies : List DictPair
    copies = pairs_from next pairs.pairs

    abbrev new_reads : List ℕ
    new_reads = unboxed_rows box kd class (rows kd class) made

    last_read : AllRead box (numbered_from next live) (map used_pair copies)
    last_read = subst (AllRead box (numbered_from next live)) (numbered_pairs next pairs.pairs) (numbered_read box next live (map used_pair pairs.pairs) live_read)

    copies_live : All (λ (e : UsedEntry). is_live e ≡ true) (map used_pair copies)
    copies_live = subst (All (λ (e : UsedEntry). is_live e ≡ true)) (pairs_live copies) (filter_passes is_live (map used_pair copies))

    reads_table : IsDictTable texts (class_mask class) (map used_pair copies) (0 ∷ 0 ∷ new_reads)
    reads_table = read_is box kd keyed class is_class (walk class) (room way.Dict (class_mask class)) texts (room_is class is_class) (within way.Dict class) made made_long (numbered_from next live) (map used_pair copies) last_table last_read copies_live

    pub shared_filled : ((place : ℕ) → entry_field (slots class) mid place 0 ≡ 0) → (given : DictContent) → given.next ≡ next → IsFilledWith texts class (content.Dict (dict_copy given pairs.pairs)) new_reads
    shared_filled zeros given next_is =
        let same : map used_pair (pairs_from given.next pairs.pairs) ≡ map used_pair copies = ap (λ (n : ℕ). map used_pair (pairs_from n pairs.pairs)) next_is in
        let reads : IsDictTable texts (class_mask class) (map used_pair (pairs_from given.next pairs.pairs)) (0 ∷ 0 ∷ new_reads) = subst (λ (z : List UsedEntry). IsDictTable texts (class_mask class) z (0 ∷ 0 ∷ new_reads)) (sym same) reads_table in
        record {
          says = λ head_block head. record {
            head = head;
            used = map used_pair (pairs_from given.next pairs.pairs);
            table = reads;
            filled = length-map (pairs_from given.next pairs.pairs) used_pair;
            entries = record { live = pairs_live (pairs_from given.next pairs.pairs); below = numbered_below given.next pairs.pairs };
          };
          versions = λ place low.
              read_entry box class (rows kd class) made kd keyed place 0 (omega arith) (λ z. omega (arith, z)) (λ z. omega (arith, z))
              ∙ (numbered_other (slots class) next (length live) mid (entry_offset (slots class) place 0) (λ p less e. absurd (omega (arith, e))) ∙ zeros place);
          plain = λ place low.
              table_plain (walk class) (dict_room (class_mask class)) texts class new_reads (map used_pair (pairs_from given.next pairs.pairs)) reads (pairs_plain (pairs_from given.next pairs.pairs)) place
              (let r = room_of_way way.Dict class is_class in omega (arith, low, r));
        }

    -- ---- the boxes that it names

    -- a row whose value names a box has the value of a row of the old table
    abbrev IsRowOf : ℕ → Type 0
    IsRowOf p = (q : ℕ) × (q < rows kd old_class) × (slice_index l (value_at kd old_class q) ≡ slice_index made (value_at kd class p)) × (slice_index l (suc (value_at kd old_class q)) ≡ slice_index made (suc (value_at kd class p)))

    row_there : (p : ℕ) → p < rows kd class → (any : UsedEntry) → p < length live → IsRowOf p
    row_there p low any less =
        let q = live_among rs p any less in
        let e = slice_index_or live p any in
        let r = raw_table.fill in
        let room_old = room_is old_class is_old in
        let row : q.0 < rows kd old_class = let b = q.1 in omega (arith, b, r, room_old) in
        let many = numbered_many next live in
        let is_live_e : is_some e.stored ≡ true = filter_passes is_live rs p any less in
        let here : IsEntry (entry_word (class_mask class) (0 ∷ 0 ∷ made) p) (slot_with (hash_of texts e.key) e.key (next + p) e.stored) =
        subst (λ (z : UsedEntry). IsEntry (entry_word (class_mask class) (0 ∷ 0 ∷ made) p) (slot_of texts z)) (numbered_at next p live any any less) (last_table.entries p any (omega (arith, less, many))) in
        let there : IsEntry (entry_word (class_mask old_class) (0 ∷ 0 ∷ l) q.0) (slot_with (hash_of texts e.key) e.key e.serial e.stored) =
        subst (λ (z : UsedEntry). IsEntry (entry_word (class_mask old_class) (0 ∷ 0 ∷ l) q.0) (slot_of texts z)) (sym q.2) (raw_table.entries q.0 any q.1) in
        let same = same_value (entry_word (class_mask old_class) (0 ∷ 0 ∷ l) q.0) (entry_word (class_mask class) (0 ∷ 0 ∷ made) p) (hash_of texts e.key) (hash_of texts e.key) e.key e.serial (next + p) e.stored is_live_e there here in (
          q.0,
          row,
          kind_here box kd keyed old_class is_old (walk old_class) (room way.Dict (class_mask old_class)) texts (room_is old_class is_old) (within way.Dict old_class) l long q.0 row
              ∙ (same.0 ∙ sym (kind_here box kd keyed class is_class (walk class) (room way.Dict (class_mask class)) texts (room_is class is_class) (within way.Dict class) made made_long p low)),
          payload_here box kd keyed old_class is_old (walk old_class) (room way.Dict (class_mask old_class)) texts (room_is old_class is_old) (within way.Dict old_class) l long q.0 row
              ∙ (same.1 ∙ sym (payload_here box kd keyed class is_class (walk class) (room way.Dict (class_mask class)) texts (room_is class is_class) (within way.Dict class) made made_long p low)),
        )

    pub row_of : (p : ℕ) → p < rows kd class → slice_index made (value_at kd class p) ≡ 4 → IsRowOf p
    row_of p low four =
        dite (dec_lt p (length live))
        (λ (less : p < length live). row_there p low (first_of live (omega (arith, less))) less)
        (λ past.
        let r = room_is class is_class in
        let many = numbered_many next live in
        let zero_kind = (last_table.unused p (omega (arith, past, many)) (omega (arith, low, r))).value.kind_is in
        let at = kind_here box kd keyed class is_class (walk class) (room way.Dict (class_mask class)) texts (room_is class is_class) (within way.Dict class) made made_long p low in
        let zero_four : 0 ≡ 4 = sym zero_kind ∙ (sym at ∙ four) in
        absurd (omega (arith, zero_four)))
