-- What a call answers that is made under the locks of its containers and leaves each of them its table.
use Rattle.std.specs.Prelude.{◌≡◌, ◌⊎◌, ℕ, true, false, None}
use Rattle.ft_model.specs.declared.call.Call.{Call}
use Rattle.ft_model.specs.declared.reply.Reply.{Reply}
use Rattle.ft_model.specs.Answers.{is_write}
use Rattle.ft_model.specs.Calls.{moved_cursor}
use Rattle.ft_model.specs.Histories.{IsReplied}
use Rattle.ft_model.specs.TableUses.{StoredWorld}
use Rattle.ft_trace.specs.declared.View.{View}
use Rattle.ft_trace.specs.Acts.{stage, debt}
use Rattle.ft_trace.specs.Causes.{HasCause}
use Rattle.ft_trace.specs.ContainerStates.{reply_in}
use Rattle.ft_bank.specs.Answered.{Answered}
use Rattle.ft_bank.specs.SameBoxes.{SameReferences}
use Rattle.ft_bank.specs.Whole.{Wrote}
use Rattle.ft_bank.specs.WriteSteps.{MayHave}
use Rattle.ft_section.specs.declared.answers.Stamp.{Stamp}

-- the plain containers reply so to the call, whatever the bank has that agrees with what the pass knows (Python manual,
-- Built-in Types)
abbrev pub IsReplyTo : Call → Reply → View → Type 0
IsReplyTo called said v = (stored : StoredWorld) → MayHave v stored → reply_in stored called ≡ said

-- The call is no write: the plain containers reply so to it and keep what they have, whatever the bank has that agrees
-- with what the pass knows; the reply is no MemoryError.
pub record IsShownBy (called : Call) (said : Reply) (v : View) : Type 0 where
  pub read : is_write called said ≡ false
  pub cursor : moved_cursor called ≡ None
  pub plain : (stored : StoredWorld) → reply_in stored called ≡ said → IsReplied called said (reply_in stored called)
  pub replied : IsReplyTo called said v
  pub cause : (stored : StoredWorld) (w : View) (n : ℕ) → HasCause stored w called said n

-- no table came into the pass's hands, and none left them; it holds the same references of boxes (profile)
pub record KeepsTables (v w : View) : Type 0 where
  pub hands : (t : ℕ) → stage t w.log ≡ stage t v.log
  pub debt : debt w.log ≡ debt v.log
  pub references : SameReferences v w

-- A pass with the locks of a call made it, as one whole write, or as an entry that isn't a write at a load of the
-- counter. Its reply is the one of the plain containers, and it is a write where the call is of a changing kind and the
-- reply is no exception. No table changed hands. (profile)
pub record MadeAs (called : Call) (said : Reply) (stamp : Stamp) (v w : View) : Type 0 where
  pub made : ((stamp.wrote ≡ true) × Wrote called said stamp.number v w)
      ⊎ ((stamp.wrote ≡ false) × Answered called said stamp.number v w)
  pub replied : IsReplyTo called said v
  pub wrote : stamp.wrote ≡ is_write called said
  pub tables : KeepsTables v w
