use Rattle.std.proofs.Common.{◌≡◌, true, sym, ◌∙◌, subst}
use Rattle.ft_model.specs.declared.call.Call.{Call}
use Rattle.ft_model.specs.declared.reply.Reply.TheVariants as reply
use Rattle.ft_trace.specs.ContainerStates.{may_empty}
use Rattle.ft_trace.specs.Holds.{known_state}
use Rattle.ft_bank.specs.Passes.{shape_of, view}
use Rattle.ft_table_calls.proofs.Cursors.{given_cursors}
use Rattle.ft_search.specs.OneEntryWrites.{Leaves}
use Rattle.ft_reads.specs.Clears.{IsCleared}
use Rattle.ft_whole_tables.specs.Clearing.{cleared_kept}
use Rattle.ft_whole_tables.proofs.Cleared.{clear_empties, clear_leaves}
use Rattle.ft_whole_tables.proofs.clears.clear_as.Goals as goal

pub clear_keyed-requires-clause-leaves : goal.clear_keyed-requires-clause-leaves
clear_keyed-requires-clause-leaves c =
    let a = c.args in
    let v = view a.pass.now in
    subst (λ (z : Call). Leaves a.c z reply.Done (cleared_kept (known_state a.c v)) v) (sym c.clearing_call-called.ensures) (clear_leaves a.way (shape_of a.bank.now) a.c v c.requires.pass.1 a.pass.now.possible c.requires.may c.requires.kind)

pub clear_keyed-requires-clause-empties : goal.clear_keyed-requires-clause-empties
clear_keyed-requires-clause-empties c = subst (λ (z : Call). may_empty z ≡ true) (sym c.clearing_call-called.ensures) (clear_empties c.args.way c.args.c)

pub returns-clause-cleared : goal.returns-clause-cleared
returns-clause-cleared c = subst (λ (z : Call). IsCleared z c.clear_keyed.result (view c.args.pass.now) (view c.clear_keyed.new.pass)) c.clearing_call-called.ensures c.clear_keyed.ensures.cleared

pub returns-clause-cursors : goal.returns-clause-cursors
returns-clause-cursors c number =
    let x = c.clear_keyed.ensures.cleared.1 in
    given_cursors c.clearing_call-called.result reply.Done c.clear_keyed.result.number x.0 (view c.clear_keyed.new.pass) x.2 number ∙ x.1.work.pass.cursors number
