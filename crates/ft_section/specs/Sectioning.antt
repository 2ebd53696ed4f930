-- The entries of sections, and what a pass keeps of a section that it opens.
use Rattle.std.specs.Prelude.{◌≡◌, ◌==◌, ℕ, Some, None, false, if◌then◌else◌}
use Rattle.ft_bank.specs.declared.sections.Taking.{Taking}
use Rattle.ft_model.specs.declared.call.Call.{Call}
use Rattle.ft_model.specs.declared.call.Call.TheVariants as call
use Rattle.ft_model.specs.declared.reply.Reply.{Reply}
use Rattle.ft_model.specs.declared.reply.Reply.TheVariants as reply
use Rattle.ft_model.specs.Answers.{is_write}
use Rattle.ft_model.specs.Calls.{moved_cursor}
use Rattle.ft_model.specs.Histories.{IsReplied}
use Rattle.ft_model.specs.TableUses.{StoredWorld}
use Rattle.ft_section.specs.declared.answers.Ended.{Ended}
use Rattle.ft_section.specs.declared.answers.Ended.TheVariants as ended
use Rattle.ft_section.specs.declared.answers.Stamp.{Stamp}
use Rattle.ft_section.specs.declared.answers.Objects.{Objects}
use Rattle.ft_section.specs.declared.answers.Objects.TheVariants.{One, Two}
use Rattle.ft_section.specs.LockTakings.{lower_of, upper_of}
use Rattle.ft_trace.specs.declared.Act.TheVariants.{ReadCounter, Answer}
use Rattle.ft_trace.specs.declared.View.{View}
use Rattle.ft_trace.specs.Acts.{view_after}
use Rattle.ft_trace.specs.Causes.{HasCause}
use Rattle.std.specs.Prelude.{length}
use Rattle.ft_trace.specs.Entries.{IsNumber}
use Rattle.ft_trace.specs.OwnOrder.{HasWritesOn}
use Rattle.ft_trace.specs.BegunSections.{Begun}
use Rattle.ft_trace.specs.Traces.{history, Sure}

-- the call that begins a section on these containers
abbrev pub begin_of : Objects → Call
begin_of (One o) = call.Begin o None
begin_of (Two a b) = call.Begin a (Some b)

-- what the entry of an `end` says
abbrev pub reply_of : Ended → Reply
reply_of (ended.Kept s) = reply.Kept
reply_of (ended.Suspended k s) = reply.Suspended k

-- what an `end` answers where this many calls in its section had to wait (C API, critical sections; the count: profile)
abbrev pub ended_by : ℕ → Stamp → Ended
ended_by marks s = if marks == 0 then ended.Kept s else ended.Suspended marks s

-- the pass has loaded the counter, and then made the entry of the call with that number
abbrev pub answered_view : Call → Reply → ℕ → View → View
answered_view called said n v = view_after (Answer called said n) (view_after (ReadCounter n) v)

-- the call isn't a write and asks no cursor, and a pass with this view may reply so whatever the containers have, at a
-- load of the counter
pub record IsSaid (called : Call) (said : Reply) (v : View) : Type 0 where
  pub read : is_write called said ≡ false
  pub replied : (plain : Reply) → IsReplied called said plain
  pub cause : (stored : StoredWorld) (n : ℕ) → HasCause stored (view_after (ReadCounter n) v) called said n
  pub no_cursor : moved_cursor called ≡ None

-- the locks of a call on these containers: the lower one first, and where there is one alone its lock noted once
pub record AreNoted (objects : Objects) (own : Taking) : Type 0 where
  pub lower : own.lower ≡ lower_of objects
  pub upper : own.upper ≡ upper_of objects
  pub once : own.lower ≡ own.upper → own.took_upper ≡ false

-- Whatever other passes did, each write from the stamp of the `begin` on that names a container of the section is one
-- of the pass's own entries: no other pass wrote on them. (C API, critical sections)
abbrev pub IsUntouched : Begun → View → Type 0
IsUntouched b v =
    Sure v (λ es. HasWritesOn (IsNumber (history es)) v.entries b.containers b.stamp (length (history es)))
