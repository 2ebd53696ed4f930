use Rattle.std.proofs.Common.{sym, subst}
use Rattle.ft_model.specs.declared.call.Call.TheVariants as call
use Rattle.ft_model.specs.declared.call.SetCall.{SetCall}
use Rattle.ft_model.specs.Calls.{other_set}
use Rattle.ft_bank.specs.Passes.{shape_of}
use Rattle.ft_section.specs.Ready.{MayTry}
use Rattle.ft_table_calls.specs.TriesUnderLocks.{objects_by}
use Rattle.ft_set.specs.SetMaking.{key_of_set}
use Rattle.ft_engine.specs.Answering.{IsTryOfCall}
use Rattle.ft_engine.specs.Asked.{HasKeyIn}
use Rattle.ft_engine.proofs.set_call.try_set_call.Goals as goal

pub try_add-requires-clause-may : goal.try_add-requires-clause-may
try_add-requires-clause-may c = subst (λ (sc : SetCall). MayTry c.args.bank.now c.args.pass.now (objects_by c.args.s (other_set sc))) c.in-Add.is c.requires.may

pub try_add-requires-clause-set : goal.try_add-requires-clause-set
try_add-requires-clause-set c = c.requires.names.0

pub try_add-requires-clause-key : goal.try_add-requires-clause-key
try_add-requires-clause-key c = subst (λ (sc : SetCall). HasKeyIn (shape_of c.args.bank.now) (key_of_set sc)) c.in-Add.is c.requires.key

pub returns-in-Add : goal.returns-in-Add
returns-in-Add c hands = subst (λ (sc : SetCall). IsTryOfCall c.args.bank.now hands (call.Set c.args.s sc) c.args.pass.now c.try_add.new.pass c.try_add.result) (sym c.in-Add.is) (c.try_add.ensures hands)

pub try_discard-requires-clause-may : goal.try_discard-requires-clause-may
try_discard-requires-clause-may c = subst (λ (sc : SetCall). MayTry c.args.bank.now c.args.pass.now (objects_by c.args.s (other_set sc))) c.in-Discard.is c.requires.may

pub try_discard-requires-clause-set : goal.try_discard-requires-clause-set
try_discard-requires-clause-set c = c.requires.names.0

pub try_discard-requires-clause-key : goal.try_discard-requires-clause-key
try_discard-requires-clause-key c = subst (λ (sc : SetCall). HasKeyIn (shape_of c.args.bank.now) (key_of_set sc)) c.in-Discard.is c.requires.key

pub returns-in-Discard : goal.returns-in-Discard
returns-in-Discard c hands = subst (λ (sc : SetCall). IsTryOfCall c.args.bank.now hands (call.Set c.args.s sc) c.args.pass.now c.try_discard.new.pass c.try_discard.result) (sym c.in-Discard.is) (c.try_discard.ensures hands)
