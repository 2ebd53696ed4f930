use Rattle.ft_bank.specs.Passes.{shape_of}
use Rattle.ft_list_tests.proofs.TwoLists.{list_in}
use Rattle.ft_list_tests.proofs.calls.is_list.Goals as goal

pub returns-clause-list : goal.returns-clause-list
returns-clause-list c = list_in (shape_of c.args.bank.now).starts c.requires.lists c.args.l
