use Rattle.std.proofs.Common.{ap, ◌∙◌}
use Rattle.ft_trace.specs.declared.Act.TheVariants.{ReadBlock}
use Rattle.ft_trace.specs.declared.View.{View}
use Rattle.ft_bank.specs.Passes.{shape_of, view}
use Rattle.ft_bank.proofs.KnownAfterWrites.{loaded_by}
use Rattle.ft_list.proofs.Lists.{content_of, list_counts, may_loaded, items_loaded}
use Rattle.ft_list.proofs.locked.count_of.Goals as goal

pub returns-clause-only : goal.returns-clause-only
returns-clause-only c =
    loaded_by (ReadBlock c.args.l 1 c.read_block.result) (view c.args.pass.now) (view c.read_block.new.pass) tt c.read_block.ensures.did.1

pub returns-clause-may : goal.returns-clause-may
returns-clause-may c =
    let a = c.args in
    may_loaded (shape_of a.bank.now) a.l (view a.pass.now) (view c.read_block.new.pass) c.requires.pass.1 (loaded_by (ReadBlock a.l 1 c.read_block.result) _ _ tt c.read_block.ensures.did.1) c.requires.may

pub returns-clause-items : goal.returns-clause-items
returns-clause-items c =
    let a = c.args in
    items_loaded a.l (view a.pass.now) (view c.read_block.new.pass) (loaded_by (ReadBlock a.l 1 c.read_block.result) _ _ tt c.read_block.ensures.did.1)

pub returns-clause-count : goal.returns-clause-count
returns-clause-count c =
    let a = c.args in
    let k = shape_of a.bank.now in
    let v = view a.pass.now in
    c.read_block.ensures.held c.requires.may.locked ∙ list_counts k.texts v a.l (content_of k a.l v c.requires.pass.1 a.pass.now.possible c.requires.may) c.requires.may.stands

pub returns-clause-log : goal.returns-clause-log
returns-clause-log c = (c.read_block.result, ap (λ (z : View). z.log) c.read_block.ensures.did.1)
