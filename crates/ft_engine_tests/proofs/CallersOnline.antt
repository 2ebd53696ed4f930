-- The callers of a new engine may go online.
use Rattle.std.proofs.Common.{ℕ, suc, List, [], ◌∷◌}
use Rattle.ft_engine.specs.declared.caller.Caller.{Caller}
use Rattle.ft_engine.specs.declared.engine.Engine.{Engine}
use Rattle.ft_engine.specs.Callers.{AreFreshCallers, AreFreeCallers}

pub free_from : (e : Engine) (room i : ℕ) (cs : List Caller) → AreFreshCallers e room i cs → AreFreeCallers e cs
free_from e room i [] are = tt
free_from e room i (c ∷ cs) are = ((are.0.caller, are.0.flight), free_from e room (suc i) cs are.1)
