use Rattle.std.proofs.Common.{◌≡◌, sym, ◌∙◌}
use Rattle.std.specs.Prelude.{slice_index_or}
use Rattle.std.proofs.lemmas.Option.{none-some}
use Rattle.ft_model.specs.declared.data.Value.TheVariants as value
use Rattle.ft_bank.specs.Passes.{shape_of, view}
use Rattle.ft_list.specs.Indexes.{IsItemAt}
use Rattle.ft_list.specs.ListItemWrites.{known_items}
use Rattle.ft_reads.proofs.Agreeing.{reads_loaded}
use Rattle.ft_list.proofs.Scanning.{item_held}
use Rattle.ft_list.proofs.removals.item_at.Goals as goal

pub unreachable-requires : goal.unreachable-requires
unreachable-requires c =
    let a = c.args in
    let k = shape_of a.bank.now in
    none-some (slice_index_or (known_items a.l (view a.pass.now)) a.place value.Nothing)
    (sym c.in-None.is ∙ item_held k a.l a.place c.read_item.result a.pass.now c.read_item.new.pass c.read_item.ensures.reads c.requires.pass.1 c.requires.may c.requires.place)

pub returns-clause-stack : goal.returns-clause-stack
returns-clause-stack c = c.read_item.ensures.reads.2.2

pub returns-clause-only : goal.returns-clause-only
returns-clause-only c =
    let a = c.args in
    let k = shape_of a.bank.now in
    reads_loaded k a.l (IsItemAt k a.place c.read_item.result) a.pass.now c.read_item.new.pass c.read_item.ensures.reads

pub returns-clause-item : goal.returns-clause-item
returns-clause-item c =
    let a = c.args in
    let k = shape_of a.bank.now in
    let here = sym c.in-Some.is ∙ item_held k a.l a.place c.read_item.result a.pass.now c.read_item.new.pass c.read_item.ensures.reads c.requires.pass.1 c.requires.may c.requires.place in
    let same : c.in-Some.item ≡ slice_index_or (known_items a.l (view a.pass.now)) a.place value.Nothing = cc in
    same
