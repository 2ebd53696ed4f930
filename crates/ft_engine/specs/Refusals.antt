-- Why a call may not be tried.
use Rattle.std.specs.Prelude.{◌≡◌}
use Rattle.ft_model.specs.declared.call.Call.{Call}
use Rattle.ft_bank.specs.Passes.{shape_of}
use Rattle.ft_bank.specs.PassSections.{stack_of}
use Rattle.ft_engine.specs.declared.caller.Caller.{Caller}
use Rattle.ft_engine.specs.declared.engine.Engine.{Engine}
use Rattle.ft_engine.specs.declared.refusing.Refusal.{Refusal}
use Rattle.ft_engine.specs.declared.refusing.Refusal.TheVariants as refusal
use Rattle.ft_engine.specs.Callers.{bank_of, flight_of, hands_of, left_of, pass_of}
use Rattle.ft_engine.specs.Flights.{AllowsCall}
use Rattle.ft_engine.specs.Asked.{FitsSections, IsCallIn}

-- what is wrong with the call where it is refused so (profile)
abbrev pub IsCause : Engine → Caller → Call → Refusal → Type 0
IsCause e c called refusal.InFlight = AllowsCall (flight_of c) called → ⊥
IsCause e c called refusal.CallsLeft = left_of c ≡ 0
IsCause e c called refusal.Sections = FitsSections (stack_of (pass_of c)) called → ⊥
IsCause e c called refusal.Names = IsCallIn (shape_of (bank_of e)) (hands_of c) called → ⊥
