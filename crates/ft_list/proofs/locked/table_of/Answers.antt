use Rattle.std.proofs.Common.{refl, sym, ap, ◌∙◌}
use Rattle.ft_trace.specs.declared.Act.TheVariants.{ReadBlock}
use Rattle.ft_trace.specs.Pictures.{root_in}
use Rattle.ft_bank.specs.Passes.{shape_of, view}
use Rattle.ft_bank.proofs.KnownAfterWrites.{loaded_by, loaded_held}
use Rattle.ft_list.proofs.Lists.{content_of, list_rooted, may_loaded, items_loaded}
use Rattle.ft_list.proofs.locked.table_of.Goals as goal

pub returns-clause-only : goal.returns-clause-only
returns-clause-only c =
    loaded_by (ReadBlock c.args.l 0 c.read_block-root.result) (view c.args.pass.now) (view c.read_block-root.new.pass) tt c.read_block-root.ensures.did.1

pub returns-clause-may : goal.returns-clause-may
returns-clause-may c =
    let a = c.args in
    may_loaded (shape_of a.bank.now) a.l (view a.pass.now) (view c.read_block-root.new.pass) c.requires.pass.1 (loaded_by (ReadBlock a.l 0 c.read_block-root.result) _ _ tt c.read_block-root.ensures.did.1) c.requires.may

pub returns-clause-items : goal.returns-clause-items
returns-clause-items c =
    let a = c.args in
    items_loaded a.l (view a.pass.now) (view c.read_block-root.new.pass) (loaded_by (ReadBlock a.l 0 c.read_block-root.result) _ _ tt c.read_block-root.ensures.did.1)

pub returns-clause-table : goal.returns-clause-table
returns-clause-table c =
    let a = c.args in
    let k = shape_of a.bank.now in
    let e = c.read_block-root.ensures in
    let is = loaded_by (ReadBlock a.l 0 c.read_block-root.result) (view a.pass.now) (view c.read_block-root.new.pass) tt e.did.1 in
    record {
      table_in = c.in-Some.ensures.in_bank k (λ t x. e.table t refl x);
      root = ap root_in (loaded_held (view a.pass.now) (view c.read_block-root.new.pass) a.l is) ∙ (sym (e.held c.requires.may.locked) ∙ c.in-Some.ensures.named);
    }

pub unreachable-requires : goal.unreachable-requires
unreachable-requires c =
    let a = c.args in
    let k = shape_of a.bank.now in
    let v = view a.pass.now in
    let e = c.read_block-root.ensures in
    let none = c.in-None.ensures.none k (λ t x. e.table t refl x) in
    list_rooted k.texts v a.l (content_of k a.l v c.requires.pass.1 a.pass.now.possible c.requires.may) c.requires.may.stands c.requires.some (sym (e.held c.requires.may.locked) ∙ none)
