use Rattle.std.proofs.Common.{◌≡◌, ℕ, ◌<◌, Option, Some, refl, sym, ap, ◌∙◌, subst, arith}
use Rattle.std.specs.Prelude.{slice_index}
use Rattle.ft_trace.specs.declared.Act.TheVariants.{ReadTable}
use Rattle.ft_trace.specs.Addresses.{class_of, size}
use Rattle.ft_trace.specs.Holds.{held_words}
use Rattle.ft_trace.specs.Pictures.{item_offset, root_in}
use Rattle.ft_bank.specs.declared.table.Table.{Table}
use Rattle.ft_bank.specs.Passes.{shape_of, view}
use Rattle.ft_bank.specs.TableNames.{table_id, root_for}
use Rattle.ft_bank.specs.Whole.{OnlyLoaded}
use Rattle.ft_bank.proofs.KnownAfterWrites.{loaded_by, loaded_held, loaded_then}
use Rattle.ft_search.proofs.Calling.{loaded_same}
use Rattle.ft_list.specs.Internal.NewListTables.{CopiesItem}
use Rattle.ft_list.proofs.Cares.{inside}
use Rattle.ft_list.proofs.LookRounds.{slots_are}
use Rattle.ft_list.proofs.growth.old_value.Goals as goal
use Rattle.ft_list.proofs.growth.old_value.Goals.{After-read_word-payload}

pub returns-then-place-list_items-clause-copies : goal.returns-then-place-list_items-clause-copies
returns-then-place-list_items-clause-copies c =
    let a = c.args in
    let t = c.in-Some.table in
    let t_in = c.requires.list.table_in t c.in-Some.is in
    let s = slots_are (shape_of a.bank.now) t t_in in
    let e = c.list_items.ensures in
    let up = c.if-place-list_items.true in
    subst (λ (z : Option Table). CopiesItem z (held_words a.o (view a.pass.now)).table a.place 0 0) (sym c.in-Some.is)
    ((λ less. absurd (omega (arith, s, e, up, less))), λ past. (refl, refl))

pub returns-then-place-list_items-clause-only : goal.returns-then-place-list_items-clause-only
returns-then-place-list_items-clause-only c = loaded_same (view c.args.pass.now)

pub returns-in-None-clause-only : goal.returns-in-None-clause-only
returns-in-None-clause-only c = loaded_same (view c.args.pass.now)

pub returns-in-None-clause-copies : goal.returns-in-None-clause-copies
returns-in-None-clause-copies c = subst (λ (z : Option Table). CopiesItem z (held_words c.args.o (view c.args.pass.now)).table c.args.place 0 0) (sym c.in-None.is) (refl, refl)

pub cell_of-start-requires : goal.cell_of-start-requires
cell_of-start-requires c = record { table = c.requires.list.table_in c.in-Some.table c.in-Some.is }

pub read_word-kind-requires-clause-table : goal.read_word-kind-requires-clause-table
read_word-kind-requires-clause-table c = c.requires.list.table_in c.in-Some.table c.in-Some.is

pub read_word-payload-requires-clause-table : goal.read_word-payload-requires-clause-table
read_word-payload-requires-clause-table c = c.requires.list.table_in c.in-Some.table c.in-Some.is

pub read_word-kind-requires-clause-word : goal.read_word-kind-requires-clause-word
read_word-kind-requires-clause-word c =
    let t = c.in-Some.table in
    let t_in = c.requires.list.table_in t c.in-Some.is in
    let s = slots_are (shape_of c.args.bank.now) t t_in in
    let e = c.list_items.ensures in
    let low = c.if-place-list_items.false in
    subst (λ (z : ℕ). z < size (class_of (table_id t))) (sym c.word_at.ensures) (inside (shape_of c.args.bank.now) t t_in c.args.place 1 (omega (arith, s, e, low)) (omega arith))

pub read_word-payload-requires-clause-word : goal.read_word-payload-requires-clause-word
read_word-payload-requires-clause-word c =
    let t = c.in-Some.table in
    let t_in = c.requires.list.table_in t c.in-Some.is in
    let s = slots_are (shape_of c.args.bank.now) t t_in in
    let e = c.list_items.ensures in
    let low = c.if-place-list_items.false in
    subst (λ (z : ℕ). z < size (class_of (table_id t))) (sym c.word_at-in-Some.ensures) (inside (shape_of c.args.bank.now) t t_in c.args.place 2 (omega (arith, s, e, low)) (omega arith))

module _ (c : After-read_word-payload) where
  first : OnlyLoaded (view c.args.pass.now) (view c.read_word-kind.new.pass)
  first = loaded_by (ReadTable (table_id c.in-Some.table) c.word_at.result c.read_word-kind.result) (view c.args.pass.now) (view c.read_word-kind.new.pass) tt c.read_word-kind.ensures.did.1

  both : OnlyLoaded (view c.args.pass.now) (view c.read_word-payload.new.pass)
  both =
      loaded_then (view c.args.pass.now) (view c.read_word-kind.new.pass) (view c.read_word-payload.new.pass) first
      (loaded_by (ReadTable (table_id c.in-Some.table) c.word_at-in-Some.result c.read_word-payload.result) (view c.read_word-kind.new.pass) (view c.read_word-payload.new.pass) tt c.read_word-payload.ensures.did.1)

  names : root_in (held_words c.args.o (view c.args.pass.now)) ≡ root_for (Some c.in-Some.table)
  names = c.requires.list.root ∙ ap root_for c.in-Some.is

  kind_is : c.read_word-kind.result ≡ slice_index (held_words c.args.o (view c.args.pass.now)).table (item_offset c.args.place 1)
  kind_is =
      c.read_word-kind.ensures.held c.args.o c.requires.list.container c.requires.list.locked names
      ∙ ap (λ (z : ℕ). slice_index (held_words c.args.o (view c.args.pass.now)).table z) c.word_at.ensures

  payload_is : c.read_word-payload.result ≡ slice_index (held_words c.args.o (view c.args.pass.now)).table (item_offset c.args.place 2)
  payload_is =
      let o = c.args.o in
      let same = loaded_held (view c.args.pass.now) (view c.read_word-kind.new.pass) o first in
      c.read_word-payload.ensures.held o c.requires.list.container (first.work.pass.locks o ∙ c.requires.list.locked) (ap root_in same ∙ names)
      ∙ ((λ d. slice_index (same d).table (c.word_at-in-Some.ensures d)))

pub returns-else-place-list_items-clause-only : goal.returns-else-place-list_items-clause-only
returns-else-place-list_items-clause-only c = both (goal.at.returns-else-place-list_items-clause-only c).After-read_word-payload

pub returns-else-place-list_items-clause-copies : goal.returns-else-place-list_items-clause-copies
returns-else-place-list_items-clause-copies c =
    let a = c.args in
    let d = (goal.at.returns-else-place-list_items-clause-copies c).After-read_word-payload in
    let t = c.in-Some.table in
    let t_in = c.requires.list.table_in t c.in-Some.is in
    let s = slots_are (shape_of a.bank.now) t t_in in
    let e = c.list_items.ensures in
    let low = c.if-place-list_items.false in
    subst (λ (z : Option Table). CopiesItem z (held_words a.o (view a.pass.now)).table a.place c.read_word-kind.result c.read_word-payload.result) (sym c.in-Some.is)
    ((λ less. (kind_is d, payload_is d)), λ up. absurd (omega (arith, s, e, low, up)))
