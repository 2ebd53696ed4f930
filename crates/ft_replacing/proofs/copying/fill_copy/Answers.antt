use Rattle.std.proofs.Common.{◌≡◌, ℕ, sym, ap, ◌∙◌, subst, arith}
use Rattle.ft_model.specs.declared.content.Content.{Content}
use Rattle.ft_model.specs.declared.content.Content.TheVariants as content
use Rattle.ft_model.specs.Contents.{dict_copy}
use Rattle.ft_model.specs.Worlds.{length_of}
use Rattle.ft_layout.specs.Tables.{dict_room}
use Rattle.ft_layout.specs.Containers.{class_mask}
use Rattle.ft_keys.specs.declared.walk.Way.TheVariants as way
use Rattle.ft_trace.specs.Addresses.{class_of, slots}
use Rattle.ft_trace.specs.Holds.{held_unboxed, in_hand, known_state}
use Rattle.ft_bank.specs.Passes.{shape_of, view}
use Rattle.ft_bank.specs.TableNames.{table_id}
use Rattle.ft_bank.proofs.TableAddresses.{class_is, named}
use Rattle.ft_table_calls.proofs.Rooting.{filled_then}
use Rattle.ft_new_keys.specs.Fresh.{IsFilledWith}
use Rattle.ft_new_keys.proofs.FilledTables.{room_of_way}
use Rattle.ft_new_keys.proofs.Keyed.{counts_known}
use Rattle.ft_replacing.specs.Internal.Numbering.{renumbered}
use Rattle.ft_replacing.proofs.Numbered.{numbered_filled}
use Rattle.ft_replacing.proofs.copying.fill_copy.Goals as goal
use Rattle.ft_replacing.proofs.copying.fill_copy.Goals.{After-words_are_of_one_content}

count_is : (c : After-words_are_of_one_content) → c.args.counts.count ≡ length_of (known_state c.args.d (view c.args.pass.now)).content
count_is c =
    let a = c.args in
    (counts_known c.words_are_of_one_content.ensures.head (shape_of a.bank.now) a.d a.from (view a.pass.now) a.counts c.requires.keyed c.requires.counts).0

pub fill-requires-clause-fill : goal.fill-requires-clause-fill
fill-requires-clause-fill c =
    let a = c.args in
    let v = view a.pass.now in
    let head = c.words_are_of_one_content.ensures.head (shape_of a.bank.now).texts (held_unboxed a.d v).block _ (known_state a.d v).table (known_state a.d v).content c.requires.keyed.stands in
    sym c.requires.counts.1 ∙ head.fill_is

pub fill-requires-clause-room : goal.fill-requires-clause-room
fill-requires-clause-room c =
    let few = c.requires.room in
    let n = count_is (goal.at.fill-requires-clause-room c).After-words_are_of_one_content in
    omega (arith, few, n)

pub renumber-requires-clause-fresh : goal.renumber-requires-clause-fresh
renumber-requires-clause-fresh c = c.fill.ensures.only.work.hands (table_id c.args.table) ∙ c.requires.fresh

pub renumber-requires-clause-room : goal.renumber-requires-clause-room
renumber-requires-clause-room c =
    let t = c.args.table in
    let room = c.requires.room in
    let class = class_is t c.requires.table.2 in
    let r = room_of_way way.Dict (class_of (table_id t)) (named (shape_of c.args.bank.now) t c.requires.table).0 in
    let same : dict_room (class_mask (class_of (table_id t))) ≡ dict_room (class_mask t.class) = ap (λ (z : ℕ). dict_room (class_mask z)) class in
    omega (arith, room, r, same)

pub returns-clause-only : goal.returns-clause-only
returns-clause-only c = filled_then (view c.args.pass.now) (view c.fill.new.pass) (view c.renumber.new.pass) c.fill.ensures.only c.renumber.ensures.only

pub returns-clause-filled : goal.returns-clause-filled
returns-clause-filled c pairs given is next =
    let a = c.args in
    let k = shape_of a.bank.now in
    let class = class_of (table_id a.table) in
    let v = view a.pass.now in
    let n : a.counts.count ≡ length_of (content.Dict pairs) = count_is (goal.at.returns-clause-filled c).After-words_are_of_one_content ∙ ap length_of is in
    let before = subst (λ (z : Content). IsFilledWith k.texts class z (in_hand (table_id a.table) (view c.fill.new.pass))) is c.fill.ensures.filled in
    subst (IsFilledWith k.texts class (content.Dict (dict_copy given pairs.pairs)))
    (sym (c.renumber.ensures.words ∙ ap (λ (m : ℕ). renumbered (slots class) a.next m (in_hand (table_id a.table) (view c.fill.new.pass))) n))
    (numbered_filled k.texts class a.next (named k a.table c.requires.table).0 (in_hand (table_id a.table) (view c.fill.new.pass)) pairs given next before)
