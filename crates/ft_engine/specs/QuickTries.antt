-- What the one try of a call that is made at once comes to.
use Rattle.std.specs.Prelude.{◌≡◌, ℕ, Option, Some, None, true}
use Rattle.ft_model.specs.declared.call.Call.{Call}
use Rattle.ft_model.specs.declared.reply.Reply.TheVariants as reply
use Rattle.ft_section.specs.declared.answers.Step.{Step}
use Rattle.ft_engine.specs.declared.caller.Caller.{Caller}
use Rattle.ft_engine.specs.declared.calling.Called.{Called}
use Rattle.ft_engine.specs.declared.calling.Called.TheVariants as called
use Rattle.ft_engine.specs.declared.engine.Engine.{Engine}
use Rattle.ft_engine.specs.declared.quick.Quick.{Quick}
use Rattle.ft_engine.specs.declared.quick.Quick.TheVariants as quick
use Rattle.ft_engine.specs.AtOnce.{CameAtOnce}
use Rattle.ft_engine.specs.MadeCalls.{IsCallFor}

-- what a call answers that was the write of this number, and has nothing to show
abbrev pub wrote_alone : ℕ → Called
wrote_alone number = called.Done reply.Done (record { number = number; wrote = true }) None

-- One try of the call led from the first caller to the second: with a number the call is done, a write with nothing to
-- show; without one it came to this step.
abbrev pub IsTriedAtOnce : Engine → Call → Option ℕ → Step → Caller → Caller → Type 0
IsTriedAtOnce e asked (Some number) rest c d = IsCallFor e asked (wrote_alone number) c d
IsTriedAtOnce e asked None rest c d = CameAtOnce e asked c d rest

-- the same of a call that was tried only where it is one of the writes that are made most
abbrev pub IsQuick : Engine → Call → Quick → Step → Caller → Caller → Type 0
IsQuick e asked (quick.Wrote number) rest c d = IsCallFor e asked (wrote_alone number) c d
IsQuick e asked quick.Came rest c d = CameAtOnce e asked c d rest
IsQuick e asked quick.Other rest c d = d ≡ c
