-- Which script a text is, or its first fault. (profile)
use Rattle.std.specs.Prelude.{ℕ, ◌+◌, ◌-◌, ◌^◌, ◌==◌, nat_lt, min, List, [], ◌∷◌, length, take, count_by, Result, Ok, Err, if◌then◌else◌}
use Rattle.std.specs.Str.Lossy.{utf8_valid_len}
use Rattle.ft_model.specs.declared.script.ScriptParts.{ScriptParts}
use Rattle.ft_script.specs.Drafts.{Draft}
use Rattle.ft_script.specs.declared.fault.Fault.{Fault}
use Rattle.ft_script.specs.declared.fault.Fault.TheVariants as fault
use Rattle.ft_script.specs.declared.fault.ScriptFault.{ScriptFault}
use Rattle.ft_script.specs.Faults.{fault_at}
use Rattle.ft_script.specs.Lines.{lines_of}
use Rattle.ft_script.specs.Drafts.{empty_draft, script_of, end_thread}
use Rattle.ft_script.specs.ScriptLines.{read_line}

-- the number of the next line, which stands still at the greatest of 32 bits
abbrev pub line_after : ℕ → ℕ
line_after number = min (number + 1) (2 ^ 32 - 1)

-- what is reported of a line
abbrev pub reported_at : {X : Type 0} → ℕ → Result X Fault → Result X ScriptFault
reported_at number (Ok x) = Ok x
reported_at number (Err found) = Err (fault_at number found)

-- the draft after the lines, of which the first has this number, or the first fault; a thread's calls that don't end
-- are reported one past the last line
unfoldable pub read_lines : ℕ → Draft → List (List ℕ) → Result Draft ScriptFault
read_lines number draft [] = reported_at number (end_thread draft)
read_lines number draft (line ∷ lines) =
    elim (reported_at number (read_line draft line)) [
      | Ok next ↦ read_lines
          (line_after number) next lines
      | Err found ↦ Err found
    ]

-- the line of the first byte that isn't UTF-8
abbrev pub bad_line : List ℕ → ℕ
bad_line bytes = line_after (count_by (λ b. b == 10) (take (utf8_valid_len bytes) bytes))

-- the script that a text is, or its first fault; bytes that aren't UTF-8 are reported before all others
unfoldable pub read_script : List ℕ → Result ScriptParts ScriptFault
read_script bytes =
    if nat_lt (utf8_valid_len bytes) (length bytes) then Err (fault_at (bad_line bytes) fault.Encoding)
    else (elim (read_lines 1 empty_draft (lines_of bytes)) [ Ok draft ↦ Ok (script_of draft) | Err found ↦ Err found ])
