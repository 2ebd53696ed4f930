use Rattle.std.proofs.Common.{sym, subst}
use Rattle.ft_model.specs.declared.call.Call.TheVariants as call
use Rattle.ft_model.specs.declared.call.DictCall.{DictCall}
use Rattle.ft_model.specs.Calls.{other_dict}
use Rattle.ft_bank.specs.Passes.{shape_of}
use Rattle.ft_section.specs.Ready.{MayTry}
use Rattle.ft_table_calls.specs.TriesUnderLocks.{objects_by}
use Rattle.ft_dict.specs.DictMaking.{key_of_dict}
use Rattle.ft_engine.specs.Answering.{IsTryOfCall}
use Rattle.ft_engine.specs.Asked.{HasKeyIn}
use Rattle.ft_engine.proofs.dict_call.try_dict.Goals as goal

pub try_set-requires-clause-may : goal.try_set-requires-clause-may
try_set-requires-clause-may c = subst (λ (dc : DictCall). MayTry c.args.bank.now c.args.pass.now (objects_by c.args.d (other_dict dc))) c.in-Set.is c.requires.may

pub try_set-requires-clause-dict : goal.try_set-requires-clause-dict
try_set-requires-clause-dict c = c.requires.names.0

pub try_set-requires-clause-key : goal.try_set-requires-clause-key
try_set-requires-clause-key c = subst (λ (dc : DictCall). HasKeyIn (shape_of c.args.bank.now) (key_of_dict dc)) c.in-Set.is c.requires.key

pub returns-in-Set : goal.returns-in-Set
returns-in-Set c hands = subst (λ (dc : DictCall). IsTryOfCall c.args.bank.now hands (call.Dict c.args.d dc) c.args.pass.now c.try_set.new.pass c.try_set.result) (sym c.in-Set.is) (c.try_set.ensures hands)
