use Rattle.std.proofs.Common.{arith}
use Rattle.ft_bank.specs.Passes.{shape_of}
use Rattle.ft_list.proofs.Cares.{few_slots, inside}
use Rattle.ft_boxes_tests.proofs.seeing.load_word.Goals as goal

pub item_at-requires-clause-place : goal.item_at-requires-clause-place
item_at-requires-clause-place c =
    let f = few_slots (shape_of c.args.bank.now) c.args.table c.requires.table in
    let low = c.requires.index in
    omega (arith, f, low)

pub read_word-requires-clause-word : goal.read_word-requires-clause-word
read_word-requires-clause-word c =
    let i = inside (shape_of c.args.bank.now) c.args.table c.requires.table c.args.index c.args.word c.requires.index c.requires.word in
    let is = c.item_at.ensures in
    omega (arith, i, is)
