use Rattle.ft_model.proofs.Deques.{rotated_back}
use Rattle.ft_model.proofs.deque_laws.rotations_go_back.Goals as goal

pub returns : goal.returns
returns c = rotated_back
