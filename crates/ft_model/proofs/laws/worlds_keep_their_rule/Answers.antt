use Rattle.ft_model.proofs.FewSerials.{rule_answer, rule_by}
use Rattle.ft_model.proofs.laws.worlds_keep_their_rule.Goals as goal

pub returns-clause-call : goal.returns-clause-call
returns-clause-call c = rule_answer

pub returns-clause-calls : goal.returns-clause-calls
returns-clause-calls c = rule_by
