use Rattle.std.proofs.Common.{subst}
use Rattle.ft_model.specs.declared.call.Call.{Call}
use Rattle.ft_model.specs.Worlds.{HasRoom}
use Rattle.ft_model.proofs.answers.answer_any.Goals as goal

-- src/answers.rt:59:13
pub answer-requires-clause-room : goal.answer-requires-clause-room
answer-requires-clause-room c = subst (λ (called : Call). HasRoom c.args.world.now called) c.in-Dict.is c.requires.room

-- src/answers.rt:64:42
pub answer-requires-in-Set-clause-room : goal.answer-requires-in-Set-clause-room
answer-requires-in-Set-clause-room c = subst (λ (called : Call). HasRoom c.args.world.now called) c.in-Set.is c.requires.room
