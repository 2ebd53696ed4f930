use Rattle.std.proofs.Common.{ap, ◌∙◌}
use Rattle.ft_trace.specs.declared.Shape.{Shape}
use Rattle.ft_trace.specs.ContainerStates.{kind_in}
use Rattle.ft_trace.specs.Pictures.{root_in}
use Rattle.ft_bank.specs.Passes.{shape_of, view}
use Rattle.ft_bank.specs.TableNames.{root_for}
use Rattle.ft_bank.proofs.KnownAfterWrites.{loaded_held}
use Rattle.ft_list.proofs.Lists.{list_content, list_rooted}
use Rattle.ft_list.proofs.boxing.table_in.Goals as goal

pub returns-clause-table : goal.returns-clause-table
returns-clause-table c =
    let e = c.table_at_root.ensures in
    record {
      table_in = e.table c.in-Some.table c.in-Some.is;
      root = ap root_in (loaded_held (view c.args.pass.now) (view c.table_at_root.new.pass) c.args.l e.only) ∙ (e.root ∙ ap root_for c.in-Some.is);
    }

pub unreachable-requires : goal.unreachable-requires
unreachable-requires c =
    let a = c.args in
    let k = shape_of a.bank.now in
    let v = view a.pass.now in
    let may = c.requires.may in
    list_rooted k.texts v a.l (list_content v a.l a.pass.now.possible may.locked (ap (λ (z : Shape). kind_in z.starts a.l) c.requires.pass.1 ∙ may.kind)) may.stands c.requires.some (c.table_at_root.ensures.root ∙ ap root_for c.in-None.is)
