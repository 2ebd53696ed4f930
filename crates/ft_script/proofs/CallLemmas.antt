-- What is reported of a call that is one too many.
use Rattle.std.proofs.Common.{Result, Ok, Err, ap}
use Rattle.ft_model.specs.declared.call.Call.{Call}
use Rattle.ft_script.specs.Drafts.{Draft}
use Rattle.ft_script.specs.declared.fault.Fault.{Fault}
use Rattle.ft_script.specs.declared.fault.LineError.{LineError}
use Rattle.ft_script.specs.declared.fault.LineError.TheVariants as error
use Rattle.ft_script.specs.ScriptLines.{past_limit}
use Rattle.ft_script.specs.Internal.Outcomes.{Fails, GivesWithDraft, limit_error}

pub limit_reported : (read : Result Call LineError) (new : Draft) (given : Result (Call × Draft) Fault) → GivesWithDraft read new given → Fails (limit_error read) (past_limit given)
limit_reported (Ok called) new given same = ap past_limit same
limit_reported (Err error.Memory) new given same = tt
limit_reported (Err (error.Fault found)) new given same = ap past_limit same
