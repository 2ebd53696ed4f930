use Rattle.ft_section.specs.declared.answers.Objects.TheVariants.{Two}
use Rattle.ft_list_tests.proofs.TwoLists.{may_again}
use Rattle.ft_list_tests.proofs.calls.extend.Goals as goal

pub returns : goal.returns
returns c = record { may = may_again c.args.bank.now (Two c.args.l c.args.m) c.args.pass.now c.try_extend.new.pass c.try_extend.result c.made.result c.try_extend.ensures.sections c.made.ensures }
