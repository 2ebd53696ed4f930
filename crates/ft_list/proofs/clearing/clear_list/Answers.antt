use Rattle.std.proofs.Common.{Option, sym, ap, ◌∙◌, subst}
use Rattle.ft_model.specs.declared.call.Call.{Call}
use Rattle.ft_model.specs.declared.reply.Reply.TheVariants as reply
use Rattle.ft_trace.specs.Holds.{known_state}
use Rattle.ft_bank.specs.declared.table.Table.{Table}
use Rattle.ft_bank.specs.Passes.{shape_of, view}
use Rattle.ft_bank.specs.TableNames.{root_for}
use Rattle.ft_search.specs.OneEntryWrites.{Leaves}
use Rattle.ft_list.specs.Internal.NewListTables.{MayAdd}
use Rattle.ft_list.proofs.GrownLists.{add_begins}
use Rattle.ft_list.proofs.Emptying.{bare_leaves}
use Rattle.ft_list.proofs.clearing.clear_list.Goals as goal

pub write_nothing-requires-clause-bare : goal.write_nothing-requires-clause-bare
write_nothing-requires-clause-bare c = c.requires.may.list.root ∙ ap root_for c.in-None.is

pub write_nothing-requires-clause-leaves : goal.write_nothing-requires-clause-leaves
write_nothing-requires-clause-leaves c =
    let a = c.args in
    let v = view a.pass.now in
    let may = subst (λ (z : Option Table). MayAdd (shape_of a.bank.now) a.l z v) c.in-None.is c.requires.may in
    subst (λ (z : Call). Leaves a.l z reply.Done (known_state a.l v) v) (sym c.clear_call.ensures) (bare_leaves (shape_of a.bank.now) a.l v may c.requires.pass.1 a.pass.now.possible)

pub returns-in-None-clause-root : goal.returns-in-None-clause-root
returns-in-None-clause-root c = c.write_nothing.ensures.root ∙ (c.requires.may.list.root ∙ ap root_for c.in-None.is)

pub write_nothing-requires-clause-may : goal.write_nothing-requires-clause-may
write_nothing-requires-clause-may c = add_begins (shape_of c.args.bank.now) c.args.l c.args.old (view c.args.pass.now) c.requires.may

pub clear_table-requires-clause-may : goal.clear_table-requires-clause-may
clear_table-requires-clause-may c = subst (λ (z : Option Table). MayAdd (shape_of c.args.bank.now) c.args.l z (view c.args.pass.now)) c.in-Some.is c.requires.may
