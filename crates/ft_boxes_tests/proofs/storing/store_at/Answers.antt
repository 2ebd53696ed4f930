use Rattle.std.proofs.Common.{◌∙◌}
use Rattle.ft_boxes_tests.proofs.Stores.{storing_on, storing_still}
use Rattle.ft_boxes_tests.proofs.storing.store_at.Goals as goal

pub returns-in-HeapFull : goal.returns-in-HeapFull
returns-in-HeapFull c = record { storing = storing_still c.args.bank.now c.args.pass.now c.make.new.pass c.requires.storing c.make.ensures.pass c.make.ensures.sections c.make.ensures.only c.make.ensures.settled c.in-HeapFull.ensures.made.1.references }

pub returns-after-matches : goal.returns-after-matches
returns-after-matches c = record { storing = storing_on c.args.bank.now c.args.pass.now c.make.new.pass c.set_held-reply.new.pass c.requires.storing c.make.ensures.only c.set_held-reply.ensures.pass (c.set_held-reply.ensures.stack ∙ c.make.ensures.sections) _ _ _ _ c.set_held-reply.ensures.made }
