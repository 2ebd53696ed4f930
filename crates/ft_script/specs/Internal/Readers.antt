-- What a reader of transcripts has of its script, and which lines it takes. (profile)
use Rattle.std.specs.Prelude.{◌≡◌, ◌≢◌, ◌==◌, ◌-◌, ℕ, Bool, true, false, not, List, [], ◌∷◌, ◌++◌, map, length, take, Result, Ok, Err}
use Rattle.std.specs.List.{list_all}
use Rattle.ft_model.specs.declared.call.Call.{Call}
use Rattle.ft_model.specs.declared.entry.Entry.{Entry}
use Rattle.ft_model.specs.declared.script.ScriptParts.{ScriptParts}
use Rattle.ft_script.specs.Drafts.{Draft}
use Rattle.ft_script.specs.declared.fault.Fault.{Fault}
use Rattle.ft_script.specs.declared.fault.LineError.{LineError}
use Rattle.ft_script.specs.declared.fault.LineError.TheVariants as error
use Rattle.ft_script.specs.declared.transcript.TranscriptFault.{TranscriptFault}
use Rattle.ft_script.specs.declared.transcript.TranscriptFault.TheVariants as found
use Rattle.ft_script.specs.Drafts.{draft_at, draft_with_all}
use Rattle.ft_script.specs.ScriptLines.{just_call}
use Rattle.ft_script.specs.Texts.{entry_line}
use Rattle.ft_script.specs.Transcripts.{IsReadable, IsContentLine}

-- the draft declares what the script has, and the cursors of each thread stand beside it
pub record IsReaderOf (script : ScriptParts) (draft : Draft) (cursors : List (List (List ℕ))) : Type 0 where
  pub draft_is : draft ≡ draft_with_all script
  pub cursors_are : cursors ≡ map (λ thread. thread.cursors) script.threads

-- reading a call left the draft as it was
abbrev pub IsUnchanged : Draft → Result (Call × Draft) Fault → Type 0
IsUnchanged draft read = (called : Call) × (read ≡ Ok (called, draft))

-- reading these words as a call of the thread adds no string and no cursor
abbrev pub AddsNothing : ScriptParts → ℕ → List (List ℕ) → Type 0
AddsNothing script thread words = IsUnchanged (draft_at script thread) (just_call (draft_at script thread) words)

-- this is the line of no entry
abbrev pub NoEntry : ScriptParts → List ℕ → Type 0
NoEntry script text = (entry : Entry) → IsReadable script entry → text ≢ entry_line script entry

-- and of no content
abbrev pub NoContent : ScriptParts → List ℕ → Type 0
NoContent script text = (content : List ℕ) → IsContentLine script content → text ≢ content ++ 10 ∷ []

-- where memory did not run out, this holds
abbrev pub IfFault : LineError → Type 0 → Type 0
IfFault error.Memory P = Unit {0}
IfFault (error.Fault fault) P = P

-- an entry is read of its line where no content stands above it
pub record AddsEntry (script : ScriptParts) (text : List ℕ) (entries : List Entry) (world : List (List ℕ))
    (entries_after : List Entry) (world_after : List (List ℕ)) : Type 0 where
  pub entry : Entry
  pub readable : IsReadable script entry
  pub printed : text ≡ entry_line script entry
  pub first : world ≡ []
  pub entries_are : entries_after ≡ entries ++ entry ∷ []
  pub world_is : world_after ≡ world

-- the line of a content is kept
pub record AddsContent (script : ScriptParts) (text : List ℕ) (entries : List Entry) (world : List (List ℕ))
    (entries_after : List Entry) (world_after : List (List ℕ)) : Type 0 where
  pub content : List ℕ
  pub readable : IsContentLine script content
  pub printed : text ≡ content ++ 10 ∷ []
  pub entries_are : entries_after ≡ entries
  pub world_is : world_after ≡ world ++ content ∷ []

-- ---- lines

abbrev pub is_feedless : List ℕ → Bool
is_feedless text = list_all (λ b. not (b == 10)) text

-- a text without line feeds, and a line feed after it
abbrev pub IsLine : List ℕ → Type 0
IsLine line = (text : List ℕ) × (line ≡ text ++ 10 ∷ []) × (is_feedless text ≡ true)

-- all but the last byte
abbrev pub but_feed : List ℕ → List ℕ
but_feed line = take (length line - 1) line

-- a line's answer, with the line's number
abbrev pub reported_line : Result (Unit {0}) LineError → ℕ → Result (Unit {0}) TranscriptFault
reported_line (Ok x) number = Ok x
reported_line (Err error.Memory) number = Err found.Memory
reported_line (Err (error.Fault fault)) number = Err (found.Line number)

-- no content was read, unless memory ran out
abbrev pub refused : LineError → Result Bool LineError
refused error.Memory = Err error.Memory
refused (error.Fault fault) = Ok false
