use Rattle.std.proofs.Common.{◌≡◌, sym, subst, ap}
use Rattle.std.specs.Prelude.{is_some}
use Rattle.ft_model.specs.declared.call.Call.{Call}
use Rattle.ft_bank.specs.Passes.{shape_of}
use Rattle.ft_engine.specs.Answering.{IsLookedIfAny}
use Rattle.ft_engine.specs.Contentions.{may_look}
use Rattle.ft_engine.specs.Asked.{IsCallIn}
use Rattle.ft_engine.proofs.looks.look_call.Goals as goal

pub look_dict-requires-clause-names : goal.look_dict-requires-clause-names
look_dict-requires-clause-names c = (subst (IsCallIn (shape_of c.args.bank.now) c.requires.names.0) c.in-Dict.is c.requires.names.1).0

pub look_dict-requires-clause-key : goal.look_dict-requires-clause-key
look_dict-requires-clause-key c = (subst (IsCallIn (shape_of c.args.bank.now) c.requires.names.0) c.in-Dict.is c.requires.names.1).2

pub look_dict-requires-clause-landed : goal.look_dict-requires-clause-landed
look_dict-requires-clause-landed c = (subst (IsCallIn (shape_of c.args.bank.now) c.requires.names.0) c.in-Dict.is c.requires.names.1).3

pub returns-in-Dict-clause-looked : goal.returns-in-Dict-clause-looked
returns-in-Dict-clause-looked c = subst (λ (x : Call). IsLookedIfAny x c.args.pass.now c.look_dict.new.pass c.look_dict.result) (sym c.in-Dict.is) c.look_dict.ensures.looked

pub returns-in-Dict-clause-made : goal.returns-in-Dict-clause-made
returns-in-Dict-clause-made c = subst (λ (x : Call). may_look x ≡ is_some c.look_dict.result) (sym c.in-Dict.is) c.look_dict.ensures.made

pub look_list-requires-clause-names : goal.look_list-requires-clause-names
look_list-requires-clause-names c = (subst (IsCallIn (shape_of c.args.bank.now) c.requires.names.0) c.in-List.is c.requires.names.1).0

pub returns-in-List-clause-looked : goal.returns-in-List-clause-looked
returns-in-List-clause-looked c = subst (λ (x : Call). IsLookedIfAny x c.args.pass.now c.look_list.new.pass c.look_list.result) (sym c.in-List.is) c.look_list.ensures.looked

pub returns-in-List-clause-made : goal.returns-in-List-clause-made
returns-in-List-clause-made c = subst (λ (x : Call). may_look x ≡ is_some c.look_list.result) (sym c.in-List.is) c.look_list.ensures.made

pub look_set-requires-clause-names : goal.look_set-requires-clause-names
look_set-requires-clause-names c = (subst (IsCallIn (shape_of c.args.bank.now) c.requires.names.0) c.in-Set.is c.requires.names.1).0

pub look_set-requires-clause-key : goal.look_set-requires-clause-key
look_set-requires-clause-key c = (subst (IsCallIn (shape_of c.args.bank.now) c.requires.names.0) c.in-Set.is c.requires.names.1).2

pub returns-in-Set-clause-looked : goal.returns-in-Set-clause-looked
returns-in-Set-clause-looked c = subst (λ (x : Call). IsLookedIfAny x c.args.pass.now c.look_set.new.pass c.look_set.result) (sym c.in-Set.is) c.look_set.ensures.looked

pub returns-in-Set-clause-made : goal.returns-in-Set-clause-made
returns-in-Set-clause-made c = subst (λ (x : Call). may_look x ≡ is_some c.look_set.result) (sym c.in-Set.is) c.look_set.ensures.made

pub returns-in-Next-clause-made : goal.returns-in-Next-clause-made
returns-in-Next-clause-made c = ap may_look c.in-Next.is

pub returns-in-Begin-clause-made : goal.returns-in-Begin-clause-made
returns-in-Begin-clause-made c = ap may_look c.in-Begin.is

pub returns-in-End-clause-made : goal.returns-in-End-clause-made
returns-in-End-clause-made c = ap may_look c.in-End.is

pub returns-in-Quiesce-clause-made : goal.returns-in-Quiesce-clause-made
returns-in-Quiesce-clause-made c = ap may_look c.in-Quiesce.is
