-- Calls that are made at once where no section is open.
use Rattle.std.specs.Prelude.{◌≡◌, List, [], Option, None}
use Rattle.ft_model.specs.declared.call.Call.{Call}
use Rattle.ft_model.specs.declared.cursor.Cursor.{Cursor}
use Rattle.ft_model.specs.Calls.{moved_cursor}
use Rattle.ft_bank.specs.Passes.{view}
use Rattle.ft_bank.specs.PassSections.{stack_of}
use Rattle.ft_section.specs.declared.answers.Step.{Step}
use Rattle.ft_engine.specs.declared.caller.Caller.{Caller}
use Rattle.ft_engine.specs.declared.engine.Engine.{Engine}
use Rattle.ft_engine.specs.Answering.{HasLooked, IsTryOfCall}
use Rattle.ft_engine.specs.Asked.{IsOnContainers}
use Rattle.ft_engine.specs.Attempts.{MayAttempt}
use Rattle.ft_engine.specs.Callers.{IsCallerOf, IsIdle}

-- the call is one on containers, and moves no cursor
pub record IsPlainCall (called : Call) : Type 0 where
  pub containers : IsOnContainers called
  pub no_cursor : moved_cursor called ≡ None

-- The call was tried once, from the first caller, which was in no call and had no section open; the second one has the
-- pass as it was after that, and all else as it was before.
pub record CameAtOnce (e : Engine) (called : Call) (c d : Caller) (came : Step) : Type 0 where
  pub caller : IsCallerOf e c
  pub may : MayAttempt e c called
  pub idle : IsIdle c
  pub none : (stack_of c.pass).sections ≡ []
  pub plain : IsPlainCall called
  pub same : d ≡ record c { pass = d.pass }
  pub looked : HasLooked called (view c.pass) (view d.pass) came
  pub tried : (hands : List (Option Cursor)) → IsTryOfCall e.bank hands called c.pass d.pass came
