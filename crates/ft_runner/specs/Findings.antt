-- What `check` finds. (profile)
use Rattle.std.specs.Prelude.{◌≡◌, ◌≢◌, ◌⊎◌, ℕ, ◌+◌, List, [], ◌∷◌, ◌++◌, map, length, take, drop, codes, slice_get, Ok}
use Rattle.std.specs.Fmt.{decimal}
use Rattle.std.specs.List.{zip}
use Rattle.ft_model.specs.declared.content.Content.{Content}
use Rattle.ft_model.specs.declared.entry.Entry.{Entry}
use Rattle.ft_model.specs.declared.entry.Rule.{Rule}
use Rattle.ft_model.specs.declared.entry.Rule.TheVariants as rule
use Rattle.ft_model.specs.declared.entry.Storage.{Storage}
use Rattle.ft_model.specs.declared.entry.Storage.TheVariants as storage
use Rattle.ft_model.specs.declared.script.ScriptParts.{ScriptParts}
use Rattle.ft_model.specs.Histories.{writes, world_at, IsLegal}
use Rattle.ft_history.specs.Verdicts.{IsVerdict}
use Rattle.ft_history.specs.declared.verdict.Verdict.{Verdict}
use Rattle.ft_history.specs.declared.verdict.Verdict.TheVariants as verdict
use Rattle.ft_script.specs.ReadScripts.{read_script}
use Rattle.ft_script.specs.Texts.{world_line}
use Rattle.ft_script.specs.Transcripts.{IsFirstBad, IsTranscript}
use Rattle.ft_runner.specs.Checking.{HasNoSeparator, IsSeparator}

-- how the containers of histories are stored: on tables, so that MemoryErrors have a place
abbrev pub stored : Storage
stored = storage.Tables

-- ---- the input

-- the bytes are a script, the line, and these bytes after it
pub record IsParted (bytes : List ℕ) (script : ScriptParts) (after : List ℕ) : Type 0 where
  pub place : ℕ
  pub separator : IsSeparator bytes place
  pub script_read : read_script (take place bytes) ≡ Ok script
  pub after_it : after ≡ drop (place + 4) bytes

-- the bytes are a script, the line, and a transcript of the script: these entries, and these lines of contents
pub record IsInput (bytes : List ℕ) (script : ScriptParts) (entries : List Entry) (lines : List (List ℕ)) : Type 0 where
  pub after : List ℕ
  pub parted : IsParted bytes script after
  pub transcript_read : IsTranscript script after entries lines

-- the first line of the transcript that is none, or the first where no line is `---`
abbrev pub IsBadAt : List ℕ → ℕ → Type 0
IsBadAt bytes line =
    (HasNoSeparator bytes × (line ≡ 1) × (script : ScriptParts) × (read_script bytes ≡ Ok script))
    ⊎ ((script : ScriptParts) × (after : List ℕ) × IsParted bytes script after × IsFirstBad script after line)

-- ---- the contents

-- the lines of contents that the transcript has, with their line feeds
abbrev pub given_lines : List (List ℕ) → List (List ℕ)
given_lines lines = map (λ text. text ++ 10 ∷ []) lines

-- the lines of these contents
abbrev pub world_lines : ScriptParts → List Content → List (List ℕ)
world_lines script world = map (λ shown. world_line script shown.0 shown.1) (zip script.containers world)

-- the lines that the transcript has to have: those of the contents after all writes
abbrev pub wanted_lines : ScriptParts → List Entry → List (List ℕ)
wanted_lines script entries = world_lines script (world_at script entries (length (writes entries)))

-- the first place at which two lists differ: one has another line there than the other, or none
pub record IsFirstDifference (given wanted : List (List ℕ)) (place : ℕ) : Type 0 where
  pub same : take place given ≡ take place wanted
  pub differs : slice_get given place ≢ slice_get wanted place

-- ---- the verdict

-- the first rule that is broken, and where: one of the entries, or after them that of a line of contents
abbrev pub IsBrokenBy : ScriptParts → List Entry → List (List ℕ) → ℕ → Rule → Type 0
IsBrokenBy script entries lines place broken =
    IsVerdict stored script entries (verdict.Not place broken)
    ⊎ ((broken ≡ rule.World) × IsLegal stored script entries × (line : ℕ)
    × (place ≡ length entries + 1 + line)
    × IsFirstDifference (given_lines lines) (wanted_lines script entries) line)

-- a legal history with the contents that it leaves, or the first rule that is broken
abbrev pub IsVerdictOn : ScriptParts → List Entry → List (List ℕ) → Verdict → Type 0
IsVerdictOn script entries lines verdict.Legal =
    IsLegal stored script entries × (given_lines lines ≡ wanted_lines script entries)
IsVerdictOn script entries lines (verdict.Not place broken) = IsBrokenBy script entries lines place broken

-- what is found of the transcript that the bytes have
pub record IsFound (bytes : List ℕ) (found : Verdict) : Type 0 where
  pub script : ScriptParts
  pub entries : List Entry
  pub lines : List (List ℕ)
  pub input : IsInput bytes script entries lines
  pub verdict_on : IsVerdictOn script entries lines found

-- ---- what is written

abbrev pub rule_word : Rule → List ℕ
rule_word rule.Whole = codes "whole"
rule_word rule.Stamp = codes "stamp"
rule_word rule.Order = codes "order"
rule_word rule.Reply = codes "reply"
rule_word rule.Await = codes "await"
rule_word rule.Mark = codes "mark"
rule_word rule.Kept = codes "kept"
rule_word rule.Suspended = codes "suspended"
rule_word rule.Memory = codes "memory"
rule_word rule.Missing = codes "missing"
rule_word rule.World = codes "world"

abbrev pub legal_line : List ℕ
legal_line = codes "legal\n"

abbrev pub broken_line : ℕ → Rule → List ℕ
broken_line place broken = codes "not legal at " ++ decimal place ++ codes ": " ++ rule_word broken ++ codes "\n"
