use Rattle.ft_bank.specs.Passes.{shape_of, view}
use Rattle.ft_boxes_tests.proofs.SharedBoxes.{shares_loaded}
use Rattle.ft_boxes_tests.proofs.merges.read_word.Goals as goal

pub returns-clause-shared : goal.returns-clause-shared
returns-clause-shared c = shares_loaded (shape_of c.args.bank.now) c.args.b (view c.args.pass.now) (view c.read_box.new.pass) c.args.count c.requires.pass.1 c.read_box.ensures.only c.requires.shared
