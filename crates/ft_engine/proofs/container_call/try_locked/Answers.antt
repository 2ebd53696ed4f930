use Rattle.std.proofs.Common.{◌≡◌, [], ap, sym, subst}
use Rattle.std.specs.Prelude.{None}
use Rattle.ft_model.specs.declared.call.Call.{Call}
use Rattle.ft_model.specs.Calls.{moved_cursor, other_dict, other_list, other_set}
use Rattle.ft_bank.specs.Passes.{shape_of}
use Rattle.ft_engine.specs.Answering.{IsTryOfCall}
use Rattle.ft_engine.specs.Asked.{IsCallIn}
use Rattle.ft_engine.specs.Flights.{objects_of}
use Rattle.ft_table_calls.specs.TriesUnderLocks.{objects_by}
use Rattle.ft_engine.proofs.container_call.try_locked.Goals as goal

pub try_dict-requires-clause-may : goal.try_dict-requires-clause-may
try_dict-requires-clause-may c = c.requires.may (objects_by c.in-Dict.container (other_dict c.in-Dict.asked)) (ap (objects_of []) c.in-Dict.is)

pub try_dict-requires-clause-names : goal.try_dict-requires-clause-names
try_dict-requires-clause-names c = (subst (IsCallIn (shape_of c.args.bank.now) c.requires.names.0) c.in-Dict.is c.requires.names.1).0

pub try_dict-requires-clause-key : goal.try_dict-requires-clause-key
try_dict-requires-clause-key c = (subst (IsCallIn (shape_of c.args.bank.now) c.requires.names.0) c.in-Dict.is c.requires.names.1).2

pub try_dict-requires-clause-no_cursor : goal.try_dict-requires-clause-no_cursor
try_dict-requires-clause-no_cursor c = subst (λ (x : Call). moved_cursor x ≡ None) c.in-Dict.is c.requires.no_cursor

pub try_dict-requires-clause-landed : goal.try_dict-requires-clause-landed
try_dict-requires-clause-landed c = (subst (IsCallIn (shape_of c.args.bank.now) c.requires.names.0) c.in-Dict.is c.requires.names.1).3

pub returns-in-Dict : goal.returns-in-Dict
returns-in-Dict c hands = subst (λ (x : Call). IsTryOfCall c.args.bank.now hands x c.args.pass.now c.try_dict.new.pass c.try_dict.result) (sym c.in-Dict.is) (c.try_dict.ensures hands)

pub try_list-requires-clause-may : goal.try_list-requires-clause-may
try_list-requires-clause-may c = c.requires.may (objects_by c.in-List.container (other_list c.in-List.asked)) (ap (objects_of []) c.in-List.is)

pub try_list-requires-clause-names : goal.try_list-requires-clause-names
try_list-requires-clause-names c = (subst (IsCallIn (shape_of c.args.bank.now) c.requires.names.0) c.in-List.is c.requires.names.1).0

pub try_list-requires-clause-no_cursor : goal.try_list-requires-clause-no_cursor
try_list-requires-clause-no_cursor c = subst (λ (x : Call). moved_cursor x ≡ None) c.in-List.is c.requires.no_cursor

pub returns-in-List : goal.returns-in-List
returns-in-List c hands = subst (λ (x : Call). IsTryOfCall c.args.bank.now hands x c.args.pass.now c.try_list.new.pass c.try_list.result) (sym c.in-List.is) (c.try_list.ensures hands)

pub try_set_call-requires-clause-may : goal.try_set_call-requires-clause-may
try_set_call-requires-clause-may c = c.requires.may (objects_by c.in-Set.container (other_set c.in-Set.asked)) (ap (objects_of []) c.in-Set.is)

pub try_set_call-requires-clause-names : goal.try_set_call-requires-clause-names
try_set_call-requires-clause-names c = (subst (IsCallIn (shape_of c.args.bank.now) c.requires.names.0) c.in-Set.is c.requires.names.1).0

pub try_set_call-requires-clause-key : goal.try_set_call-requires-clause-key
try_set_call-requires-clause-key c = (subst (IsCallIn (shape_of c.args.bank.now) c.requires.names.0) c.in-Set.is c.requires.names.1).2

pub try_set_call-requires-clause-no_cursor : goal.try_set_call-requires-clause-no_cursor
try_set_call-requires-clause-no_cursor c = subst (λ (x : Call). moved_cursor x ≡ None) c.in-Set.is c.requires.no_cursor

pub returns-in-Set : goal.returns-in-Set
returns-in-Set c hands = subst (λ (x : Call). IsTryOfCall c.args.bank.now hands x c.args.pass.now c.try_set_call.new.pass c.try_set_call.result) (sym c.in-Set.is) (c.try_set_call.ensures hands)
