use Rattle.std.proofs.Common.{sym, subst}
use Rattle.ft_model.specs.declared.call.Call.TheVariants as call
use Rattle.ft_model.specs.declared.call.ListCall.{ListCall}
use Rattle.ft_model.specs.Calls.{other_list}
use Rattle.ft_section.specs.Ready.{MayTry}
use Rattle.ft_table_calls.specs.TriesUnderLocks.{objects_by}
use Rattle.ft_engine.specs.Answering.{IsTryOfCall}
use Rattle.ft_engine.proofs.list_call.try_list.Goals as goal

pub try_append-requires-clause-may : goal.try_append-requires-clause-may
try_append-requires-clause-may c = subst (λ (lc : ListCall). MayTry c.args.bank.now c.args.pass.now (objects_by c.args.l (other_list lc))) c.in-Append.is c.requires.may

pub try_append-requires-clause-list : goal.try_append-requires-clause-list
try_append-requires-clause-list c = c.requires.names.0

pub returns-in-Append : goal.returns-in-Append
returns-in-Append c hands = subst (λ (lc : ListCall). IsTryOfCall c.args.bank.now hands (call.List c.args.l lc) c.args.pass.now c.try_append.new.pass c.try_append.result) (sym c.in-Append.is) (c.try_append.ensures hands)
