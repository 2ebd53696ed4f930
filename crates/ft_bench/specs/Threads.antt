-- What the threads of a run need of the callers of its engine.
use Rattle.std.specs.Prelude.{◌<◌, All, List}
use Rattle.ft_trace.specs.Acts.{announces}
use Rattle.ft_bank.specs.Passes.{view}
use Rattle.ft_engine.specs.declared.caller.Caller.{Caller}
use Rattle.ft_engine.specs.declared.engine.Engine.{Engine}
use Rattle.ft_engine.specs.Callers.{pass_of, IsFreeCaller}
use Rattle.ft_bench.specs.declared.worker.Worker.{Worker}

-- a caller that is in no call, and online: it may make a call
abbrev pub IsReadyCaller : Engine → Caller → Type 0
IsReadyCaller e c = IsFreeCaller e c × (0 < announces (view (pass_of c)).log)

-- the caller of each of these threads is in no call
abbrev pub AreWorkers : Engine → List Worker → Type 0
AreWorkers e workers = All (λ w. IsFreeCaller e w.caller) workers

abbrev pub AreReadyCallers : Engine → List Caller → Type 0
AreReadyCallers e callers = All (IsReadyCaller e) callers
