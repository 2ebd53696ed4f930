-- Awaits: what they ask of a caller and of a note of another one.
use Rattle.std.specs.Prelude.{◌≡◌, ◌<◌, ◌≤◌, ℕ}
use Rattle.ft_model.specs.declared.call.Call.{Call}
use Rattle.ft_model.specs.declared.call.Call.TheVariants as call
use Rattle.ft_trace.specs.Acts.{announces}
use Rattle.ft_bank.specs.declared.note.Note.{Note}
use Rattle.ft_bank.specs.Notes.{IsNoteOf, TellsOf}
use Rattle.ft_bank.specs.Passes.{view}
use Rattle.ft_engine.specs.declared.caller.Caller.{Caller}
use Rattle.ft_engine.specs.declared.engine.Engine.{Engine}
use Rattle.ft_engine.specs.Callers.{IsIdle, bank_of, left_of, pass_of, thread_of}

-- the call is an `await` of a call of a thread, by its index from 1, and the note tells that the thread has made it
-- (profile)
pub record IsAwaitTold (called : Call) (note : Note) : Type 0 where
  pub thread : ℕ
  pub index : ℕ
  pub await : called ≡ call.Await thread index
  pub some : 1 ≤ index
  pub tells : TellsOf note thread index

-- The caller is in no call, is online and has a call left. The note is of a caller of the engine, of a thread before the
-- caller's own, and tells of the call that is awaited. (profile)
pub record MayLearnAt (e : Engine) (c : Caller) (called : Call) (note : Note) : Type 0 where
  pub idle : IsIdle c
  pub online : 0 < announces (view (pass_of c)).log
  pub left : 0 < left_of c
  pub told : IsAwaitTold called note
  pub earlier : told.thread < thread_of c
  pub of : IsNoteOf (bank_of e) note
