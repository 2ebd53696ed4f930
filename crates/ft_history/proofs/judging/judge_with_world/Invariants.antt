use Rattle.ft_history.specs.Internal.Steps.{IsState, IsUnbrokenBefore}
use Rattle.ft_history.proofs.judging.judge_with_world.Given as goal

abbrev pub invariant-loop-place : goal.invariant-loop-place
invariant-loop-place l =
    record {
      unbroken : IsUnbrokenBefore l.storage l.parts l.entries l.place;
      is_state : IsState l.parts l.entries l.place l.state;
    }
