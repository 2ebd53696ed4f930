use Rattle.std.proofs.Common.{refl}
use Rattle.ft_trace.specs.Addresses.{maker_of, place_in}
use Rattle.ft_search.proofs.boxed.box_of.Goals as goal

pub returns-clause-maker : goal.returns-clause-maker
unfolding maker_of
returns-clause-maker c = refl

pub returns-clause-place : goal.returns-clause-place
unfolding place_in
returns-clause-place c = refl
