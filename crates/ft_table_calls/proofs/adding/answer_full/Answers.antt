use Rattle.ft_model.specs.declared.reply.Reply.TheVariants as reply
use Rattle.ft_model.specs.declared.reply.Raise.TheVariants as raise
use Rattle.ft_bank.specs.Passes.{view}
use Rattle.ft_table_calls.proofs.MemoryErrors.{answered_at, full_shown}
use Rattle.ft_table_calls.proofs.adding.answer_full.Goals as goal

pub answer_held-requires-clause-shown : goal.answer_held-requires-clause-shown
answer_held-requires-clause-shown c n = full_shown (view c.args.pass.now) n c.args.called.now c.requires.left c.requires.full c.requires.lacks

pub returns-clause-answered : goal.returns-clause-answered
returns-clause-answered c =
    answered_at (view c.args.pass.now) (view c.answer_held.new.pass) c.args.called.now (reply.Raised raise.Heap) _ c.answer_held.ensures.did.1 c.args.pass.now.settled c.answer_held.new.pass.possible
