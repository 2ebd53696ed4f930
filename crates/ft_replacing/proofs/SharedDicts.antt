-- A pass that has filled a fresh table with the entries of the table of a dict as they stand, with new serials: what it knows
-- of the table.
use Rattle.std.proofs.Common.{◌≡◌, ℕ, suc, ◌/◌, ◌%◌, ◌<◌, ◌≤◌, List, [], ◌∷◌, length, filter, Option, Some, refl, sym, ap, ◌∙◌, subst}
use Rattle.std.specs.Prelude.{slice_index}
use Rattle.ft_model.specs.declared.content.Content.{Content}
use Rattle.ft_model.specs.declared.content.Content.TheVariants as content
use Rattle.ft_model.specs.declared.data.Key.{Key}
use Rattle.ft_model.specs.declared.script.Kind.{Kind}
use Rattle.ft_model.specs.declared.script.Kind.TheVariants as kind
use Rattle.ft_model.specs.Classes.{IsClass}
use Rattle.ft_model.specs.Contents.{DictContent, dict_copy}
use Rattle.ft_layout.specs.Containers.{class_mask, IsDictWords, StandsAs}
use Rattle.ft_layout.specs.Tables.{UsedEntry, dict_room, is_live, IsDictTable}
use Rattle.ft_keys.specs.declared.walk.Way.TheVariants as way
use Rattle.ft_keys.specs.Accesses.{after}
use Rattle.ft_keys.specs.Puts.{PutBelow}
use Rattle.ft_keys.specs.TableChanges.{Moves, Rebuilds}
use Rattle.ft_keys.specs.Ways.{room, walk_slots, IsTableOf}
use Rattle.ft_trace.specs.declared.View.{View}
use Rattle.ft_trace.specs.Addresses.{class_of, slots, size}
use Rattle.ft_trace.specs.Boxes.{known_box_word, value_at}
use Rattle.ft_trace.specs.ContainerStates.{kind_in}
use Rattle.ft_trace.specs.Holds.{held_words, held_unboxed, known_state, in_hand}
use Rattle.ft_trace.specs.Kinds.{rows}
use Rattle.ft_trace.specs.Pictures.{root_in, entry_field}
use Rattle.ft_trace.specs.Traces.{IsReachable}
use Rattle.ft_trace.specs.Unboxed.{unboxed_rows}
use Rattle.ft_trace.proofs.Known.{class_known}
use Rattle.ft_trace.proofs.PlainPuts.{by_root}
use Rattle.ft_bank.specs.declared.table.Table.{Table}
use Rattle.ft_bank.specs.Passes.{view}
use Rattle.ft_bank.specs.TableNames.{table_id}
use Rattle.ft_search.proofs.Changing.{no_keys}
use Rattle.ft_search.proofs.Puts.{table_class}
use Rattle.ft_search.proofs.Unboxing.{raw_table_long}
use Rattle.ft_new_keys.specs.declared.fresh.FreshWords.{FreshWords}
use Rattle.ft_new_keys.specs.Fresh.{FreshMade, fresh_words, old_words, HasZeroWords, IsFilledWith}
use Rattle.ft_new_keys.specs.KeyGrowth.{KnowsKeyed}
use Rattle.ft_new_keys.proofs.FilledTables.{BlankHolds, LivePairs, LiveElements, KeepsVersions, blank_table, ran_fresh, zero_versions}
use Rattle.ft_new_keys.proofs.MovedFills.{within}
use Rattle.ft_new_keys.proofs.MovedTables.{kind_here, payload_here}
use Rattle.ft_new_keys.proofs.NamedValues.{named_fits, named_has_value}
use Rattle.ft_replacing.specs.Internal.Numbering.{renumbered}
use Rattle.ft_replacing.specs.Sharing.{IsNamedBy, SharesEntries}
use Rattle.ft_replacing.proofs.SharedTables.{OldNames, Rebuilt, live, live_many, room_is, row_of, shared_filled, shares_entries}

-- ---- the calls that fill the fresh table

module _ (own table : Table) (s t : FreshWords) (holds : BlankHolds) (pairs_live : LivePairs) (elements_live : LiveElements) (keeps : KeepsVersions) (is_class : IsClass (class_of (table_id table))) (names_table : s.table ≡ table) (last : s.mask ≡ class_mask (class_of (table_id table))) (old_last : s.old_mask ≡ class_mask (class_of (table_id own)))
    (blank : HasZeroWords (class_of (table_id table)) (in_hand (table_id s.table) (view s.pass.now))) (l : List ℕ) (raw : old_words s ≡ 0 ∷ 0 ∷ l) (n most result : ℕ) (moves : Moves FreshMade s.mask s t most result (Rebuilds way.Dict s.mask n result)) where
  abbrev class : ℕ
  class = class_of (table_id table)

  abbrev made : List ℕ
  made = in_hand (table_id table) (view t.pass.now)

  is_made : 0 ∷ 0 ∷ made ≡ after s.mask moves.calls (fresh_words s)
  is_made =
      let r = ran_fresh s moves.calls t moves.runs in
      ap (λ (z : Table). 0 ∷ 0 ∷ in_hand (table_id z) (view t.pass.now)) (sym names_table) ∙ (ap (λ (z : Table). 0 ∷ 0 ∷ in_hand (table_id z) (view t.pass.now)) (sym r.table) ∙ r.words)

  pub raw_rebuilt : (texts : List ℕ) (used : List UsedEntry) → IsDictTable texts (class_mask (class_of (table_id own))) used (0 ∷ 0 ∷ l) → length used ≡ n → length (filter is_live used) ≤ dict_room (class_mask class) → IsDictTable texts (class_mask class) (filter is_live used) (0 ∷ 0 ∷ made)
  raw_rebuilt texts used is_table filled fits =
      let r = ran_fresh s moves.calls t moves.runs in
      let done = moves.done (fresh_words s) (old_words s) s.old_mask r.fits r.fits_old in
      subst (λ (z : ℕ × List ℕ). IsTableOf way.Dict texts z.0 (filter is_live used) z.1) (λ i. (last i, sym is_made i))
      (done texts used
      (subst (λ (z : ℕ). IsTableOf way.Dict texts z [] (fresh_words s)) (sym last) (holds _ (room way.Dict (class_mask class)) texts (class_mask class) (fresh_words s) (blank_table class is_class (in_hand (table_id s.table) (view s.pass.now)) blank)))
      (subst (λ (z : ℕ × List ℕ). IsTableOf way.Dict texts z.0 used z.1) (λ i. (sym old_last i, sym raw i)) is_table)
      filled
      (subst (λ (z : ℕ). length (filter is_live used) ≤ room way.Dict z) (sym last) fits)).0

  pub raw_versions : (place : ℕ) → entry_field (slots class) made place 0 ≡ 0
  raw_versions = zero_versions holds pairs_live elements_live keeps [] [] [] class class 0 result moves.calls (in_hand (table_id s.table) (view s.pass.now)) made is_class is_class blank (subst (λ (m : ℕ). PutBelow m result moves.calls) last moves.below) (is_made ∙ ap (λ (m : ℕ). after m moves.calls (fresh_words s)) last)

-- ---- once its entries have new serials

module _ (d : ℕ) (own : Table) (y : View) (keyed : KnowsKeyed y.shape d (Some own) y) (possible : ∥ IsReachable y ∥₁) (dict : kind_in y.shape.starts d ≡ kind.Dict) (passes : y.shape.passes ≤ 64) (heap : y.shape.heap ≤ 4096) (class : ℕ) (is_class : IsClass class) (mid : List ℕ) (mid_long : length mid ≡ size class) (next : ℕ) (pairs : DictContent) (content_is : (known_state d y).content ≡ content.Dict pairs) where
  abbrev kd : Kind
  kd = kind_in y.shape.starts d

  abbrev box : ℕ → ℕ → ℕ
  box b i = known_box_word y.shape b i y.log

  abbrev c0 : ℕ
  c0 = class_of (table_id own)

  abbrev l : List ℕ
  l = (held_words d y).table

  abbrev fill : ℕ
  fill = (known_state d y).table.fill

  names_own : root_in (held_words d y) ≡ suc (table_id own)
  names_own = keyed.root

  pub is_old : IsClass c0
  is_old = table_class y.shape own (keyed.table_in own refl)

  pub long : length l ≡ size c0
  long = raw_table_long y d (table_id own) names_own

  is : IsDictWords y.shape.texts (held_unboxed d y).block (0 ∷ 0 ∷ unboxed_rows box kd c0 (rows kd c0) l) (Some c0) fill pairs
  is =
      let class_is = class_known y.shape.texts (held_unboxed d y) (known_state d y) (table_id own) keyed.stands keyed.root in
      let whole = by_root box kd (root_in (held_words d y)) (table_id own) l names_own in
      subst (λ (z : Option ℕ × List Key × List ℕ × Content). StandsAs y.shape.texts (held_unboxed d y).block (0 ∷ 0 ∷ z.2) (record { class = z.0; fill = fill; keys = z.1 }) z.3) (λ i. (class_is i, no_keys y d possible keyed.locked i, whole i, content_is i)) keyed.stands

  names : OldNames box kd dict keyed.keyed y.shape.texts c0 class is_old is_class l mid long mid_long next
  names p low four =
      let at = kind_here box kd keyed.keyed c0 is_old (λ hash. walk_slots way.Dict hash (class_mask c0)) (room way.Dict (class_mask c0)) y.shape.texts (room_is box kd dict keyed.keyed y.shape.texts c0 class is_old is_class l mid long mid_long next c0 is_old) (within way.Dict c0) l long p low in
      let payload = payload_here box kd keyed.keyed c0 is_old (λ hash. walk_slots way.Dict hash (class_mask c0)) (room way.Dict (class_mask c0)) y.shape.texts (room_is box kd dict keyed.keyed y.shape.texts c0 class is_old is_class l mid long mid_long next c0 is_old) (within way.Dict c0) l long p low in
      let fits = named_fits y d (table_id own) p possible keyed.container keyed.locked names_own low (at ∙ four) passes heap in
      let some_ = named_has_value y d (table_id own) p possible keyed.container keyed.locked names_own low (at ∙ four) in
      subst (λ (b : ℕ). (b / 65536 < 64) × (b % 65536 < 4096) × (1 ≤ box b 1)) payload (fits.0, fits.1, some_)

  module _ (rebuilt : Rebuilt box kd dict keyed.keyed y.shape.texts c0 class is_old is_class l mid long mid_long next fill) (few : length pairs.pairs ≤ rows kind.Dict class) (count : ℕ) (count_is : count ≡ length pairs.pairs) where
    few_rows : length pairs.pairs ≤ rows kd class
    few_rows = subst (λ (z : Kind). length pairs.pairs ≤ rows z class) (sym dict) few

    -- the entries of the dict's table that are there, as they stand
    abbrev there : List UsedEntry
    there = live box kd dict keyed.keyed y.shape.texts c0 class is_old is_class l mid long mid_long next names fill rebuilt (held_unboxed d y).block pairs is few_rows

    count_live : count ≡ length there
    count_live = count_is ∙ sym (live_many box kd dict keyed.keyed y.shape.texts c0 class is_old is_class l mid long mid_long next names fill rebuilt (held_unboxed d y).block pairs is few_rows)

    abbrev last : List ℕ
    last = renumbered (slots class) next count mid

    pub dict_shares : SharesEntries y.shape.texts next c0 l class last
    dict_shares =
        subst (λ (n : ℕ). SharesEntries y.shape.texts next c0 l class (renumbered (slots class) next n mid)) (sym count_live)
        (shares_entries box kd dict keyed.keyed y.shape.texts c0 class is_old is_class l mid long mid_long next names fill rebuilt (held_unboxed d y).block pairs is few_rows)

    pub dict_filled : ((place : ℕ) → entry_field (slots class) mid place 0 ≡ 0) → (given : DictContent) → given.next ≡ next → IsFilledWith y.shape.texts class (content.Dict (dict_copy given pairs.pairs)) (unboxed_rows box kd class (rows kd class) last)
    dict_filled zeros given next_is =
        subst (λ (n : ℕ). IsFilledWith y.shape.texts class (content.Dict (dict_copy given pairs.pairs)) (unboxed_rows box kd class (rows kd class) (renumbered (slots class) next n mid))) (sym count_live)
        (shared_filled box kd dict keyed.keyed y.shape.texts c0 class is_old is_class l mid long mid_long next names fill rebuilt (held_unboxed d y).block pairs is few_rows zeros given next_is)

    pub dict_rows : (p : ℕ) → p < rows kd class → slice_index last (value_at kd class p) ≡ 4 → IsNamedBy y.shape d (slice_index last (suc (value_at kd class p))) y
    dict_rows p low four =
        let same : last ≡ renumbered (slots class) next (length there) mid = ap (λ (n : ℕ). renumbered (slots class) next n mid) count_live in
        let row = row_of box kd dict keyed.keyed y.shape.texts c0 class is_old is_class l mid long mid_long next names fill rebuilt (held_unboxed d y).block pairs is few_rows p low (ap (λ (z : List ℕ). slice_index z (value_at kd class p)) (sym same) ∙ four) in
        record {
          container = keyed.container;
          locked = keyed.locked;
          table = table_id own;
          is_class = is_old;
          root = names_own;
          row = row.0;
          low = row.1;
          kind_is = row.2 ∙ (ap (λ (z : List ℕ). slice_index z (value_at kd class p)) (sym same) ∙ four);
          payload_is = row.3 ∙ ap (λ (z : List ℕ). slice_index z (suc (value_at kd class p))) (sym same);
        }
