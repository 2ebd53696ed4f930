-- From the parts of an input to what is found of it.
use Rattle.std.proofs.Common.{◌≡◌, ◌⊎◌, ◌∙◌, ℕ, ◌+◌, List, take, drop, Ok, refl, sym, ap, subst, inl, inr}
use Rattle.ft_history.specs.declared.verdict.Verdict.{Verdict}
use Rattle.ft_model.specs.declared.entry.Entry.{Entry}
use Rattle.ft_model.specs.declared.script.ScriptParts.{ScriptParts}
use Rattle.ft_script.specs.declared.transcript.TranscriptFault.{TranscriptFault}
use Rattle.ft_script.specs.declared.transcript.TranscriptFault.TheVariants as transcript
use Rattle.ft_script.specs.ReadScripts.{read_script}
use Rattle.ft_script.specs.Transcripts.{IsFirstBad, IsTranscript}
use Rattle.ft_runner.specs.Checking.{HasNoSeparator, IsSeparator, IsScriptPart}
use Rattle.ft_runner.specs.Findings.{IsBadAt, IsFound, IsParted, IsVerdictOn}
use Rattle.ft_runner.proofs.SeparatorLemmas.{one_script}

-- the line that a fault of a transcript tells
pub reported_line : {P : ℕ → Type 0} (f : TranscriptFault) (line : ℕ) → f ≡ transcript.Line line → (f ≡ transcript.Memory) ⊎ ((number : ℕ) × (f ≡ transcript.Line number) × P number) → P line
reported_line {P} f line is (inl memory) = absurd (let other : transcript.Line line ≡ transcript.Memory = sym is ∙ memory in cc)
reported_line {P} f line is (inr reported) = let same : reported.0 ≡ line = (let lines : transcript.Line reported.0 ≡ transcript.Line line = sym reported.1 ∙ is in cc) in subst P same reported.2

-- ---- the input

module _ (bytes text : List ℕ) (script : ScriptParts) (part : IsScriptPart bytes text) (read : read_script text ≡ Ok script) where
  pub missing_line : HasNoSeparator bytes → IsBadAt bytes 1
  missing_line none = inl (none, refl, script, ap read_script (one_script bytes bytes text (inl (none, refl)) part) ∙ read)

  parted : (place : ℕ) → IsSeparator bytes place → IsParted bytes script (drop (place + 4) bytes)
  parted place separator =
      record {
        place = place;
        separator = separator;
        script_read = ap read_script (one_script bytes (take place bytes) text (inr (place, separator, refl)) part) ∙ read;
        after_it = refl;
      }

  module _ (place : ℕ) (separator : IsSeparator bytes place) (after : List ℕ) (is : after ≡ drop (place + 4) bytes) where
    parted_there : IsParted bytes script after
    parted_there = subst (IsParted bytes script) (sym is) (parted place separator)

    pub bad_line : (line : ℕ) → IsFirstBad script after line → IsBadAt bytes line
    bad_line line bad = inr (script, after, parted_there, bad)

    pub found_there : (entries : List Entry) (lines : List (List ℕ)) (found : Verdict) → IsTranscript script after entries lines → IsVerdictOn script entries lines found → IsFound bytes found
    found_there entries lines found reads verdict_on =
        record {
          script = script;
          entries = entries;
          lines = lines;
          input = record { after = after; parted = parted_there; transcript_read = reads };
          verdict_on = verdict_on;
        }
