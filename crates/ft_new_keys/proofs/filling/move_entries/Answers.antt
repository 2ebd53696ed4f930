use Rattle.std.proofs.Common.{◌≡◌, ◌≤◌, ℕ, ◌∷◌, Option, sym, ap, ◌∙◌, subst}
use Rattle.ft_model.specs.Worlds.{length_of}
use Rattle.ft_layout.specs.Containers.{StandsAs}
use Rattle.ft_trace.specs.Addresses.{class_of}
use Rattle.ft_trace.specs.Holds.{held_unboxed, in_hand, known_state}
use Rattle.ft_trace.specs.Kinds.{rows, IsKeyed}
use Rattle.ft_trace.specs.ContainerStates.{ContainerState}
use Rattle.ft_bank.specs.declared.table.Table.{Table}
use Rattle.ft_bank.specs.Passes.{shape_of, view}
use Rattle.ft_bank.specs.TableNames.{table_id, root_for}
use Rattle.ft_table_calls.proofs.Rooting.{filled_then}
use Rattle.ft_search.specs.Rounds.{kind_by}
use Rattle.ft_search.proofs.Changing.{kind_is}
use Rattle.ft_search.proofs.Puts.{table_class}
use Rattle.ft_boxes.proofs.Steps.{keeps_then}
use Rattle.ft_new_keys.specs.KeyGrowth.{KnowsKeyed}
use Rattle.ft_new_keys.proofs.FilledTables.{bare_filled}
use Rattle.ft_new_keys.proofs.Grown.{knows_filled, same_filled}
use Rattle.ft_new_keys.proofs.Keyed.{no_class}
use Rattle.ft_new_keys.proofs.MovedFills.{bare_moved}
use Rattle.ft_new_keys.proofs.filling.move_entries.Goals as goal
use Rattle.ft_new_keys.proofs.filling.move_entries.Goals.{After-blank}

same : (c : After-blank) → known_state c.args.o (view c.blank.new.pass) ≡ known_state c.args.o (view c.args.pass.now)
same c = (same_filled (shape_of c.args.bank.now) c.args.o c.args.growth.now.old (view c.args.pass.now) (view c.blank.new.pass) c.requires.pass.1 c.blank.ensures.only c.requires.keyed).1

pub move_table-requires-clause-keyed : goal.move_table-requires-clause-keyed
move_table-requires-clause-keyed c =
    let a = c.args in
    subst (λ (z : Option Table). KnowsKeyed (shape_of a.bank.now) a.o z (view c.blank.new.pass)) c.in-Some.is
    (knows_filled (shape_of a.bank.now) a.o a.growth.now.old (view a.pass.now) (view c.blank.new.pass) c.requires.pass.1 c.blank.ensures.only c.requires.keyed)

pub move_table-requires-clause-fresh : goal.move_table-requires-clause-fresh
move_table-requires-clause-fresh c = c.blank.ensures.only.work.hands (table_id c.args.growth.now.table) ∙ c.requires.fresh

pub move_table-requires-clause-fill : goal.move_table-requires-clause-fill
move_table-requires-clause-fill c = c.requires.fill ∙ ap (λ (z : ContainerState). z.table.fill) (sym (same (goal.at.move_table-requires-clause-fill c).After-blank))

pub move_table-requires-clause-room : goal.move_table-requires-clause-room
move_table-requires-clause-room c =
    subst (λ (z : ContainerState). length_of z.content ≤ rows (kind_by c.args.growth.now.way) (class_of (table_id c.args.growth.now.table))) (sym (same (goal.at.move_table-requires-clause-room c).After-blank)) c.requires.room

pub returns-in-Some-clause-only : goal.returns-in-Some-clause-only
returns-in-Some-clause-only c = filled_then (view c.args.pass.now) (view c.blank.new.pass) (view c.move_table.new.pass) c.blank.ensures.only c.move_table.ensures.only

pub returns-in-None-clause-moved : goal.returns-in-None-clause-moved
returns-in-None-clause-moved c =
    let a = c.args in
    let k = shape_of a.bank.now in
    let x = view c.blank.new.pass in
    let table = a.growth.now.table in
    let keyed = knows_filled k a.o a.growth.now.old (view a.pass.now) x c.requires.pass.1 c.blank.ensures.only c.requires.keyed in
    let d = known_state a.o x in
    let bare = keyed.root ∙ ap root_for c.in-None.is in
    let kind_eq = kind_is k x a.o c.blank.ensures.pass.1 c.blank.new.pass.possible keyed.locked in
    let head = c.words_are_of_one_content.ensures.head k.texts (held_unboxed a.o x).block (0 ∷ 0 ∷ (held_unboxed a.o x).table) d.table d.content keyed.stands in
    let none = no_class (held_unboxed a.o x).block d.table.class (length_of d.content) d.table.fill _ head bare in
    let stands = subst (λ (z : Option ℕ). StandsAs k.texts (held_unboxed a.o x).block (0 ∷ 0 ∷ (held_unboxed a.o x).table) (record { class = z; fill = d.table.fill; keys = d.table.keys }) d.content) none keyed.stands in
    bare_moved k a.o table x c.blank.ensures.pass.1 keyed.keyed kind_eq bare
    (bare_filled c.changed_words_are_of_a_table.ensures.blank k.texts (held_unboxed a.o x).block (0 ∷ 0 ∷ (held_unboxed a.o x).table) (class_of (table_id table)) d.table.fill d.table.keys d.content (in_hand (table_id table) x) (table_class k table c.requires.table)
    (subst IsKeyed (sym kind_eq) keyed.keyed) stands c.blank.ensures.blank)

pub returns-in-Some-clause-values : goal.returns-in-Some-clause-values
returns-in-Some-clause-values c =
    let v = view c.args.pass.now in
    let x = view c.blank.new.pass in
    let only = c.blank.ensures.only in
    keeps_then v x (view c.move_table.new.pass) (sym only.work.pass.shape) only.references c.blank.ensures.values c.move_table.ensures.values
