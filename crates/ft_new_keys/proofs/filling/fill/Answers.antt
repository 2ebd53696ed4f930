use Rattle.std.proofs.Common.{◌≡◌, ◌≤◌, ℕ, ◌∷◌, Option, sym, ap, ◌∙◌, subst}
use Rattle.ft_model.specs.Worlds.{length_of}
use Rattle.ft_layout.specs.Containers.{StandsAs}
use Rattle.ft_trace.specs.Addresses.{class_of}
use Rattle.ft_trace.specs.Holds.{held_unboxed, in_hand, known_state}
use Rattle.ft_trace.specs.Kinds.{rows, IsKeyed}
use Rattle.ft_trace.specs.ContainerStates.{ContainerState}
use Rattle.ft_bank.specs.declared.table.Table.{Table}
use Rattle.ft_bank.specs.Passes.{shape_of, view}
use Rattle.ft_bank.specs.TableNames.{table_id, root_for}
use Rattle.ft_table_calls.proofs.Rooting.{filled_then}
use Rattle.ft_search.specs.Rounds.{kind_by}
use Rattle.ft_search.proofs.Changing.{kind_is}
use Rattle.ft_search.proofs.Puts.{table_class}
use Rattle.ft_new_keys.specs.Fresh.{IsFilledWith}
use Rattle.ft_new_keys.specs.KeyGrowth.{KnowsKeyed}
use Rattle.ft_new_keys.proofs.FilledTables.{bare_filled}
use Rattle.ft_new_keys.proofs.Grown.{knows_filled, same_filled}
use Rattle.ft_new_keys.proofs.Keyed.{no_class}
use Rattle.ft_new_keys.proofs.filling.fill.Goals as goal
use Rattle.ft_new_keys.proofs.filling.fill.Goals.{After-blank}

same : (c : After-blank) → known_state c.args.o (view c.blank.new.pass) ≡ known_state c.args.o (view c.args.pass.now)
same c = (same_filled (shape_of c.args.bank.now) c.args.o c.args.old (view c.args.pass.now) (view c.blank.new.pass) c.requires.pass.1 c.blank.ensures.only c.requires.keyed).1

pub copy_entries-requires-clause-keyed : goal.copy_entries-requires-clause-keyed
copy_entries-requires-clause-keyed c =
    let a = c.args in
    subst (λ (z : Option Table). KnowsKeyed (shape_of a.bank.now) a.o z (view c.blank.new.pass)) c.in-Some.is
    (knows_filled (shape_of a.bank.now) a.o a.old (view a.pass.now) (view c.blank.new.pass) c.requires.pass.1 c.blank.ensures.only c.requires.keyed)

pub copy_entries-requires-clause-fresh : goal.copy_entries-requires-clause-fresh
copy_entries-requires-clause-fresh c = c.blank.ensures.only.work.hands (table_id c.args.table) ∙ c.requires.fresh

pub copy_entries-requires-clause-fill : goal.copy_entries-requires-clause-fill
copy_entries-requires-clause-fill c = c.requires.fill ∙ ap (λ (z : ContainerState). z.table.fill) (sym (same (goal.at.copy_entries-requires-clause-fill c).After-blank))

pub copy_entries-requires-clause-room : goal.copy_entries-requires-clause-room
copy_entries-requires-clause-room c =
    subst (λ (z : ContainerState). length_of z.content ≤ rows (kind_by c.args.way) (class_of (table_id c.args.table))) (sym (same (goal.at.copy_entries-requires-clause-room c).After-blank)) c.requires.room

pub returns-in-Some-clause-only : goal.returns-in-Some-clause-only
returns-in-Some-clause-only c = filled_then (view c.args.pass.now) (view c.blank.new.pass) (view c.copy_entries.new.pass) c.blank.ensures.only c.copy_entries.ensures.only

pub returns-in-Some-clause-filled : goal.returns-in-Some-clause-filled
returns-in-Some-clause-filled c =
    let a = c.args in
    subst (λ (z : ContainerState). IsFilledWith (shape_of a.bank.now).texts (class_of (table_id a.table)) z.content (in_hand (table_id a.table) (view c.copy_entries.new.pass))) (same (goal.at.returns-in-Some-clause-filled c).After-blank) c.copy_entries.ensures.filled

pub returns-in-None-clause-filled : goal.returns-in-None-clause-filled
returns-in-None-clause-filled c =
    let a = c.args in
    let k = shape_of a.bank.now in
    let v = view a.pass.now in
    let x = known_state a.o v in
    let keyed = c.requires.keyed in
    let head = c.words_are_of_one_content.ensures.head k.texts (held_unboxed a.o v).block (0 ∷ 0 ∷ (held_unboxed a.o v).table) x.table x.content keyed.stands in
    let none = no_class (held_unboxed a.o v).block x.table.class (length_of x.content) x.table.fill _ head (keyed.root ∙ ap root_for c.in-None.is) in
    let stands = subst (λ (z : Option ℕ). StandsAs k.texts (held_unboxed a.o v).block (0 ∷ 0 ∷ (held_unboxed a.o v).table) (record { class = z; fill = x.table.fill; keys = x.table.keys }) x.content) none keyed.stands in
    bare_filled c.changed_words_are_of_a_table.ensures.blank k.texts (held_unboxed a.o v).block (0 ∷ 0 ∷ (held_unboxed a.o v).table) (class_of (table_id a.table)) x.table.fill x.table.keys x.content (in_hand (table_id a.table) (view c.blank.new.pass)) (table_class k a.table c.requires.table)
    (subst IsKeyed (sym (kind_is k v a.o c.requires.pass.1 a.pass.now.possible keyed.locked)) keyed.keyed) stands c.blank.ensures.blank
