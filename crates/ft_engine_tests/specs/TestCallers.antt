-- What tests keep of the callers of an engine.
use Rattle.std.specs.Prelude.{◌<◌, All, List, IsTrue}
use Rattle.ft_trace.specs.Acts.{announces}
use Rattle.ft_bank.specs.Passes.{view}
use Rattle.ft_engine.specs.declared.engine.Engine.{Engine}
use Rattle.ft_engine.specs.Callers.{IsCallerOf, pass_of}
use Rattle.ft_engine_tests.specs.declared.workers.Worker.{Worker}

-- its caller is one of the engine, and is online where it is said to be
abbrev pub IsWorkerOf : Engine → Worker → Type 0
IsWorkerOf e w = IsCallerOf e w.caller × (IsTrue w.online → 0 < announces (view (pass_of w.caller)).log)

abbrev pub AreWorkersOf : Engine → List Worker → Type 0
AreWorkersOf e workers = All (IsWorkerOf e) workers
