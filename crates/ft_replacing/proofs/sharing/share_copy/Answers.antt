use Rattle.std.proofs.Common.{◌≡◌, ℕ, suc, ◌<◌, ◌≤◌, ◌∷◌, List, length, filter, Some, sym, ap, ◌∙◌, subst, arith}
use Rattle.std.specs.Prelude.{slice_index}
use Rattle.ft_model.specs.declared.content.Content.TheVariants as content
use Rattle.ft_model.specs.declared.script.Kind.{Kind}
use Rattle.ft_model.specs.declared.script.Kind.TheVariants as kind
use Rattle.ft_model.specs.Classes.{IsClass}
use Rattle.ft_model.specs.Contents.{DictContent, dict_copy}
use Rattle.ft_model.specs.Worlds.{length_of}
use Rattle.ft_layout.specs.Containers.{class_mask}
use Rattle.ft_layout.specs.Tables.{UsedEntry, dict_room, is_live, IsDictTable}
use Rattle.ft_keys.specs.declared.walk.Way.TheVariants as way
use Rattle.ft_trace.specs.declared.Shape.{Shape}
use Rattle.ft_trace.specs.declared.View.{View}
use Rattle.ft_trace.specs.Acts.{mem}
use Rattle.ft_trace.specs.Addresses.{class_of, size}
use Rattle.ft_trace.specs.Boxes.{known_box_word, value_at}
use Rattle.ft_trace.specs.ContainerStates.{ContainerState, kind_in}
use Rattle.ft_trace.specs.Holds.{hand_unboxed, held_unboxed, held_words, in_hand, known_state}
use Rattle.ft_trace.specs.Kinds.{rows}
use Rattle.ft_trace.specs.Pictures.{ContainerWords}
use Rattle.ft_trace.specs.Unboxed.{unboxed_table}
use Rattle.ft_trace.proofs.Pieces.{table_long}
use Rattle.ft_bank.specs.Passes.{shape_of, view}
use Rattle.ft_bank.specs.TableNames.{table_id}
use Rattle.ft_bank.proofs.TableAddresses.{class_is, named}
use Rattle.ft_search.proofs.Changing.{kind_is}
use Rattle.ft_search.proofs.Puts.{table_class}
use Rattle.ft_table_calls.specs.Adding.{OnlyFilled}
use Rattle.ft_table_calls.proofs.Rooting.{filled_then}
use Rattle.ft_new_keys.specs.Fresh.{IsFilledWith}
use Rattle.ft_new_keys.specs.KeyGrowth.{KnowsKeyed}
use Rattle.ft_new_keys.proofs.FilledTables.{room_of_way}
use Rattle.ft_new_keys.proofs.Grown.{knows_filled, same_filled, words_filled}
use Rattle.ft_new_keys.proofs.Keyed.{counts_known}
use Rattle.ft_replacing.specs.Sharing.{IsNamedBy, SharesEntries}
use Rattle.ft_replacing.proofs.Replaced.{dict_of_kind}
use Rattle.ft_replacing.proofs.SharedDicts.{dict_filled, dict_rows, dict_shares}
use Rattle.ft_replacing.proofs.sharing.share_copy.Goals as goal
use Rattle.ft_replacing.proofs.sharing.share_copy.Goals.{After-blank, After-renumber, After-words_are_of_one_content}

-- ---- before

count_is : (c : After-words_are_of_one_content) → c.args.copying.now.counts.count ≡ length_of (known_state c.args.d (view c.args.pass.now)).content
count_is c =
    let a = c.args in
    (counts_known c.words_are_of_one_content.ensures.head (shape_of a.bank.now) a.d (Some a.own) (view a.pass.now) a.copying.now.counts c.requires.keyed c.requires.counts).0

fill_is : (c : After-words_are_of_one_content) → c.args.copying.now.counts.fill ≡ (known_state c.args.d (view c.args.pass.now)).table.fill
fill_is c =
    let a = c.args in
    let v = view a.pass.now in
    let head = c.words_are_of_one_content.ensures.head (shape_of a.bank.now).texts (held_unboxed a.d v).block (0 ∷ 0 ∷ (held_unboxed a.d v).table) (known_state a.d v).table (known_state a.d v).content c.requires.keyed.stands in
    sym c.requires.counts.1 ∙ head.fill_is

pub share_table-requires-clause-keyed : goal.share_table-requires-clause-keyed
share_table-requires-clause-keyed c =
    let a = c.args in
    knows_filled (shape_of a.bank.now) a.d (Some a.own) (view a.pass.now) (view c.blank.new.pass) c.requires.pass.1 c.blank.ensures.only c.requires.keyed

pub share_table-requires-clause-fresh : goal.share_table-requires-clause-fresh
share_table-requires-clause-fresh c = c.blank.ensures.only.work.hands (table_id c.args.copying.now.table) ∙ c.requires.fresh

pub share_table-requires-clause-fill : goal.share_table-requires-clause-fill
share_table-requires-clause-fill c =
    let a = c.args in
    let same = (same_filled (shape_of a.bank.now) a.d (Some a.own) (view a.pass.now) (view c.blank.new.pass) c.requires.pass.1 c.blank.ensures.only c.requires.keyed).1 in
    fill_is (goal.at.share_table-requires-clause-fill c).After-words_are_of_one_content ∙ ap (λ (z : ContainerState). z.table.fill) (sym same)

pub renumber-requires-clause-fresh : goal.renumber-requires-clause-fresh
renumber-requires-clause-fresh c = c.share_table.ensures.only.work.hands (table_id c.args.copying.now.table) ∙ (c.blank.ensures.only.work.hands (table_id c.args.copying.now.table) ∙ c.requires.fresh)

pub renumber-requires-clause-room : goal.renumber-requires-clause-room
renumber-requires-clause-room c =
    let t = c.args.copying.now.table in
    let room = c.requires.room in
    let class = class_is t c.requires.table.2 in
    let r = room_of_way way.Dict (class_of (table_id t)) (named (shape_of c.args.bank.now) t c.requires.table).0 in
    let same : dict_room (class_mask (class_of (table_id t))) ≡ dict_room (class_mask t.class) = ap (λ (z : ℕ). dict_room (class_mask z)) class in
    omega (arith, room, r, same)

-- ---- after

module _ (c : After-renumber) (counted : c.args.copying.now.counts.count ≡ length_of (known_state c.args.d (view c.args.pass.now)).content) (fill_at : c.args.copying.now.counts.fill ≡ (known_state c.args.d (view c.args.pass.now)).table.fill) where
  abbrev k : Shape
  k = shape_of c.args.bank.now

  abbrev t : ℕ
  t = table_id c.args.copying.now.table

  abbrev v : View
  v = view c.args.pass.now

  abbrev y : View
  y = view c.renumber.new.pass

  abbrev class : ℕ
  class = class_of (table_id c.args.copying.now.table)

  abbrev mid : List ℕ
  mid = in_hand (table_id c.args.copying.now.table) (view c.share_table.new.pass)

  shape : (view c.renumber.new.pass).shape ≡ shape_of c.args.bank.now
  shape = c.renumber.ensures.pass.1

  only : OnlyFilled (view c.args.pass.now) (view c.renumber.new.pass)
  only = filled_then v (view c.share_table.new.pass) y (filled_then v (view c.blank.new.pass) (view c.share_table.new.pass) c.blank.ensures.only c.share_table.ensures.only) c.renumber.ensures.only

  keyed : KnowsKeyed (view c.renumber.new.pass).shape c.args.d (Some c.args.own) (view c.renumber.new.pass)
  keyed = subst (λ (z : Shape). KnowsKeyed z c.args.d (Some c.args.own) y) (sym shape) (knows_filled k c.args.d (Some c.args.own) v y c.requires.pass.1 only c.requires.keyed)

  dict : kind_in (view c.renumber.new.pass).shape.starts c.args.d ≡ kind.Dict
  dict = ap (λ (z : Shape). kind_in z.starts c.args.d) shape ∙ c.requires.dict

  same : known_state c.args.d (view c.renumber.new.pass) ≡ known_state c.args.d (view c.args.pass.now)
  same = (same_filled k c.args.d (Some c.args.own) v y c.requires.pass.1 only c.requires.keyed).1

  words : held_words c.args.d (view c.renumber.new.pass) ≡ held_words c.args.d (view c.args.pass.now)
  words = words_filled k c.args.d (Some c.args.own) v y c.requires.pass.1 only c.requires.keyed

  words_blank : held_words c.args.d (view c.blank.new.pass) ≡ held_words c.args.d (view c.args.pass.now)
  words_blank = words_filled k c.args.d (Some c.args.own) v (view c.blank.new.pass) c.requires.pass.1 c.blank.ensures.only c.requires.keyed

  mid_long : length (in_hand (table_id c.args.copying.now.table) (view c.share_table.new.pass)) ≡ size (class_of (table_id c.args.copying.now.table))
  mid_long = let m = view c.share_table.new.pass in table_long m.shape t (mem m.shape m.log)

  -- the words of the dict as they stand are rebuilt
  rebuilt : (used : List UsedEntry) → IsDictTable (view c.renumber.new.pass).shape.texts (class_mask (class_of (table_id c.args.own))) used (0 ∷ 0 ∷ (held_words c.args.d (view c.renumber.new.pass)).table) → length used ≡ (known_state c.args.d (view c.renumber.new.pass)).table.fill → length (filter is_live used) ≤ dict_room (class_mask (class_of (table_id c.args.copying.now.table))) → IsDictTable (view c.renumber.new.pass).shape.texts (class_mask (class_of (table_id c.args.copying.now.table))) (filter is_live used) (0 ∷ 0 ∷ in_hand (table_id c.args.copying.now.table) (view c.share_table.new.pass))
  rebuilt used table filled fits =
      let e = c.share_table.ensures.rebuilt used in
      let at : IsDictTable k.texts (class_mask (class_of (table_id c.args.own))) used (0 ∷ 0 ∷ (held_words c.args.d (view c.blank.new.pass)).table) = subst (λ (z : Shape × ContainerWords). IsDictTable z.0.texts (class_mask (class_of (table_id c.args.own))) used (0 ∷ 0 ∷ z.1.table)) (λ i. (shape i, (words ∙ sym words_blank) i)) table in
      subst (λ (z : Shape). IsDictTable z.texts (class_mask class) (filter is_live used) (0 ∷ 0 ∷ mid)) (sym shape)
      (e at (filled ∙ (ap (λ (z : ContainerState). z.table.fill) same ∙ sym fill_at)) fits)

  passes : (view c.renumber.new.pass).shape.passes ≤ 64
  passes = subst (λ (z : Shape). z.passes ≤ 64) (sym shape) c.args.bank.now.fits.passes.1

  heap : (view c.renumber.new.pass).shape.heap ≤ 4096
  heap = subst (λ (z : Shape). z.heap ≤ 4096) (sym shape) c.args.bank.now.fits.heap.1

  is_class : IsClass (class_of (table_id c.args.copying.now.table))
  is_class = table_class k c.args.copying.now.table c.requires.table

  -- with the pairs that it has
  module _ (pairs : DictContent) (is : (known_state c.args.d (view c.args.pass.now)).content ≡ content.Dict pairs) where
    content_is : (known_state c.args.d (view c.renumber.new.pass)).content ≡ content.Dict pairs
    content_is = ap (λ (z : ContainerState). z.content) same ∙ is

    count_pairs : c.args.copying.now.counts.count ≡ length pairs.pairs
    count_pairs = counted ∙ ap length_of is

    few : length pairs.pairs ≤ rows kind.Dict (class_of (table_id c.args.copying.now.table))
    few = let n = count_pairs in let r = c.requires.room in omega (arith, n, r)

    filled_at : (given : DictContent) → given.next ≡ c.args.copying.now.next → IsFilledWith (shape_of c.args.bank.now).texts (class_of (table_id c.args.copying.now.table)) (content.Dict (dict_copy given pairs.pairs)) (hand_unboxed c.args.e (table_id c.args.copying.now.table) (view c.renumber.new.pass))
    filled_at given next_is =
        let other : kind_in y.shape.starts c.args.d ≡ kind_in y.shape.starts c.args.e = dict ∙ sym (ap (λ (z : Shape). kind_in z.starts c.args.e) shape ∙ c.requires.other_dict) in
        let at = dict_filled c.args.d c.args.own y keyed c.renumber.new.pass.possible dict passes heap class is_class mid mid_long c.args.copying.now.next pairs content_is rebuilt few c.args.copying.now.counts.count count_pairs c.share_table.ensures.versions given next_is in
        subst (λ (z : Shape × List ℕ). IsFilledWith z.0.texts class (content.Dict (dict_copy given pairs.pairs)) z.1)
        (λ i. (shape i, unboxed_table (λ b j. known_box_word y.shape b j y.log) (other i) (suc t) (sym c.renumber.ensures.words i))) at

    shares_at : SharesEntries (shape_of c.args.bank.now).texts c.args.copying.now.next (class_of (table_id c.args.own)) (held_words c.args.d (view c.args.pass.now)).table (class_of (table_id c.args.copying.now.table)) (in_hand (table_id c.args.copying.now.table) (view c.renumber.new.pass))
    shares_at =
        subst (λ (z : Shape × ContainerWords × List ℕ). SharesEntries z.0.texts c.args.copying.now.next (class_of (table_id c.args.own)) z.1.table class z.2) (λ i. (shape i, words i, sym c.renumber.ensures.words i))
        (dict_shares c.args.d c.args.own y keyed c.renumber.new.pass.possible dict passes heap class is_class mid mid_long c.args.copying.now.next pairs content_is rebuilt few c.args.copying.now.counts.count count_pairs)

    named_at : (p : ℕ) → p < rows (kind_in (view c.renumber.new.pass).shape.starts c.args.d) (class_of (table_id c.args.copying.now.table)) → slice_index (in_hand (table_id c.args.copying.now.table) (view c.renumber.new.pass)) (value_at (kind_in (view c.renumber.new.pass).shape.starts c.args.d) (class_of (table_id c.args.copying.now.table)) p) ≡ 4 → IsNamedBy (view c.renumber.new.pass).shape c.args.d (slice_index (in_hand (table_id c.args.copying.now.table) (view c.renumber.new.pass)) (suc (value_at (kind_in (view c.renumber.new.pass).shape.starts c.args.d) (class_of (table_id c.args.copying.now.table)) p))) (view c.renumber.new.pass)
    named_at =
        subst (λ (z : List ℕ). (p : ℕ) → p < rows (kind_in y.shape.starts c.args.d) class → slice_index z (value_at (kind_in y.shape.starts c.args.d) class p) ≡ 4 → IsNamedBy y.shape c.args.d (slice_index z (suc (value_at (kind_in y.shape.starts c.args.d) class p))) y) (sym c.renumber.ensures.words)
        (dict_rows c.args.d c.args.own y keyed c.renumber.new.pass.possible dict passes heap class is_class mid mid_long c.args.copying.now.next pairs content_is rebuilt few c.args.copying.now.counts.count count_pairs)

  pairs_of : (pairs : DictContent) × ((known_state c.args.d (view c.args.pass.now)).content ≡ content.Dict pairs)
  pairs_of = dict_of_kind (known_state c.args.d v).content (kind_is k v c.args.d c.requires.pass.1 c.args.pass.now.possible c.requires.keyed.locked ∙ c.requires.dict)

pub returns-clause-only : goal.returns-clause-only
returns-clause-only c =
    let at = goal.at.returns-clause-only c in
    only at.After-renumber (count_is at.After-words_are_of_one_content) (fill_is at.After-words_are_of_one_content)

pub returns-clause-filled : goal.returns-clause-filled
returns-clause-filled c pairs given is next =
    let at = goal.at.returns-clause-filled c in
    filled_at at.After-renumber (count_is at.After-words_are_of_one_content) (fill_is at.After-words_are_of_one_content) pairs is given next

pub returns-clause-shares : goal.returns-clause-shares
returns-clause-shares c =
    let at = goal.at.returns-clause-shares c in
    let d = at.After-renumber in
    let n = count_is at.After-words_are_of_one_content in
    let m = fill_is at.After-words_are_of_one_content in
    let pairs = pairs_of d n m in
    shares_at d n m pairs.0 pairs.1

pub returns-clause-named : goal.returns-clause-named
returns-clause-named c p low four =
    let here = goal.at.returns-clause-named c in
    let d = here.After-renumber in
    let n = count_is here.After-words_are_of_one_content in
    let m = fill_is here.After-words_are_of_one_content in
    let k = shape_of c.args.bank.now in
    let y = view c.renumber.new.pass in
    let t = table_id c.args.copying.now.table in
    let class = class_of t in
    let hand = in_hand t y in
    let pairs = pairs_of d n m in
    let same : kind_in y.shape.starts c.args.d ≡ kind_in k.starts c.args.e = dict d n m ∙ sym c.requires.other_dict in
    let at = subst (λ (z : Kind × Shape). (p : ℕ) → p < rows z.0 class → slice_index hand (value_at z.0 class p) ≡ 4 → IsNamedBy z.1 c.args.d (slice_index hand (suc (value_at z.0 class p))) y) (λ i. (same i, shape d n m i)) (named_at d n m pairs.0 pairs.1) in
    (c.args.d, at p low four)
