use Rattle.ft_model.proofs.DequeCursors.{moved_for_good, moved_stays, not_moved}
use Rattle.ft_model.proofs.deque_laws.changed_deques_are_reported_for_good.Goals as goal

pub returns-clause-for_good : goal.returns-clause-for_good
returns-clause-for_good c =
    λ made now later container index before after moved. moved_for_good made now container index before later after moved

pub returns-clause-stays : goal.returns-clause-stays
returns-clause-stays c = moved_stays

pub returns-clause-unchanged : goal.returns-clause-unchanged
returns-clause-unchanged c = not_moved
