use Rattle.ft_bank.specs.Passes.{shape_of}
use Rattle.ft_boxes_tests.proofs.Stores.{one_list}
use Rattle.ft_boxes_tests.proofs.storing.is_list.Goals as goal

pub returns-clause-container : goal.returns-clause-container
returns-clause-container c = (one_list (shape_of c.args.bank.now).starts c.requires).0

pub returns-clause-list : goal.returns-clause-list
returns-clause-list c = (one_list (shape_of c.args.bank.now).starts c.requires).1
