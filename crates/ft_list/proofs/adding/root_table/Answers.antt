use Rattle.std.proofs.Common.{ap, ◌∙◌}
use Rattle.ft_trace.specs.Pictures.{root_in}
use Rattle.ft_bank.specs.Passes.{shape_of, view}
use Rattle.ft_bank.proofs.KnownAfterWrites.{loaded_held}
use Rattle.ft_list.proofs.Lists.{may_loaded}
use Rattle.ft_list.proofs.adding.root_table.Goals as goal

pub returns-clause-list : goal.returns-clause-list
returns-clause-list c =
    let a = c.args in
    let v = view a.pass.now in
    let w = view c.table_at_root.new.pass in
    let e = c.table_at_root.ensures in
    let may = may_loaded (shape_of a.bank.now) a.l v w c.requires.pass.1 e.only c.requires.may in
    record {
      container = may.container;
      kind = may.kind;
      locked = may.locked;
      even = may.even a.l;
      stands = may.stands;
      table_in = e.table;
      root = ap root_in (loaded_held v w a.l e.only) ∙ e.root;
    }
