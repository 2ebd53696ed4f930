use Rattle.std.specs.Prelude.{length}
use Rattle.ft_model.specs.Answers.{world_by}
use Rattle.ft_model.proofs.FewSerials.{serials_by, room_for}
use Rattle.ft_model.proofs.laws.calls_have_room.Goals as goal

pub returns : goal.returns
returns c = λ kinds calls hands called few declared. room_for (world_by kinds calls) hands (length calls) called few (serials_by kinds calls) declared
