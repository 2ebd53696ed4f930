use Rattle.ft_bank.specs.Passes.{shape_of, view}
use Rattle.ft_new_keys.proofs.HeldCalls.{adds_plain, put_added}
use Rattle.ft_new_keys.proofs.HeldKeys.{holds_none, no_box}
use Rattle.ft_new_keys.proofs.keys.add_key.Goals as goal

pub add_new-requires-clause-may : goal.add_new-requires-clause-may
add_new-requires-clause-may c = put_added (shape_of c.args.bank.now) c.args.o c.args.old (view c.args.pass.now) c.requires.may

pub add_new-requires-clause-holds : goal.add_new-requires-clause-holds
add_new-requires-clause-holds c = holds_none (shape_of c.args.bank.now) c.args.stored (view c.args.pass.now) c.requires.pass.1 c.requires.may.boxes

pub add_new-requires-clause-boxing : goal.add_new-requires-clause-boxing
add_new-requires-clause-boxing c b is = absurd (no_box b is)

pub returns-clause-added : goal.returns-clause-added
returns-clause-added c =
    adds_plain (shape_of c.args.bank.now) c.args.o c.args.key c.args.called.now c.args.said.now (view c.args.pass.now) (view c.add_new.new.pass) c.add_new.result c.requires.pass.1 c.requires.may.boxes c.add_new.ensures.put
