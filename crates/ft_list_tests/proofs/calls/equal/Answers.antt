use Rattle.ft_section.specs.declared.answers.Objects.TheVariants.{Two}
use Rattle.ft_list_tests.proofs.TwoLists.{may_again}
use Rattle.ft_list_tests.proofs.calls.equal.Goals as goal

pub returns : goal.returns
returns c = record { may = may_again c.args.bank.now (Two c.args.l c.args.m) c.args.pass.now c.try_eq.new.pass c.try_eq.result c.made.result c.try_eq.ensures.sections c.made.ensures }
