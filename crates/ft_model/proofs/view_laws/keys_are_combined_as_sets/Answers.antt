use Rattle.ft_model.proofs.ViewLaws.{and_keys, sub_keys, or_keys, xor_keys}
use Rattle.ft_model.proofs.view_laws.keys_are_combined_as_sets.Goals as goal

pub returns-clause-and : goal.returns-clause-and
returns-clause-and c = and_keys

pub returns-clause-sub : goal.returns-clause-sub
returns-clause-sub c = sub_keys

pub returns-clause-or : goal.returns-clause-or
returns-clause-or c = or_keys

pub returns-clause-xor : goal.returns-clause-xor
returns-clause-xor c = xor_keys
