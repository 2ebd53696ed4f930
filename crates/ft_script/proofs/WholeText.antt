-- What a whole text is read as.
use Rattle.std.proofs.Common.{◌≡◌, ℕ, ◌<◌, true, false, List, length, Result, Ok, Err, refl, sym, ap, ◌∙◌, subst, inl, inr, arith}
use Rattle.std.specs.Prelude.{nat_lt}
use Rattle.std.specs.Str.{IsUtf8, IsValidUpTo}
use Rattle.std.specs.Str.Lossy.{utf8_valid_len}
use Rattle.std.proofs.lemmas.Bool.{lt-ltb, le-ltb, cases_lt}
use Rattle.std.proofs.lemmas.List.{take_all}
use Rattle.std.proofs.lemmas.Str.{utf8_valid_len-IsUtf8}
use Rattle.ft_model.specs.declared.script.ScriptParts.{ScriptParts}
use Rattle.ft_script.specs.Drafts.{Draft}
use Rattle.ft_script.specs.declared.fault.Fault.TheVariants as fault
use Rattle.ft_script.specs.declared.fault.ScriptFault.{ScriptFault}
use Rattle.ft_script.specs.Faults.{fault_at}
use Rattle.ft_script.specs.Lines.{lines_of}
use Rattle.ft_script.specs.Drafts.{empty_draft, script_of}
use Rattle.ft_script.specs.ReadScripts.{bad_line, read_lines, read_script}

abbrev parts_of : Result Draft ScriptFault → Result ScriptParts ScriptFault
parts_of read = elim read [ Ok draft ↦ Ok (script_of draft) | Err found ↦ Err found ]

is_read : (bytes : List ℕ) → nat_lt (utf8_valid_len bytes) (length bytes) ≡ false → read_script bytes ≡ parts_of (read_lines 1 empty_draft (lines_of bytes))
unfolding read_script
is_read bytes whole = rw whole refl

is_bad : (bytes : List ℕ) → nat_lt (utf8_valid_len bytes) (length bytes) ≡ true → read_script bytes ≡ Err (fault_at (bad_line bytes) fault.Encoding)
unfolding read_script
is_bad bytes part = rw part refl

whole_utf8 : (bytes : List ℕ) → IsUtf8 bytes → nat_lt (utf8_valid_len bytes) (length bytes) ≡ false
whole_utf8 bytes is = let same : utf8_valid_len bytes ≡ length bytes = utf8_valid_len-IsUtf8 bytes is in le-ltb (utf8_valid_len bytes) (length bytes) (omega arith)

pub script_read : (bytes : List ℕ) (read : Result Draft ScriptFault) (parts : ScriptParts) → IsUtf8 bytes → read_lines 1 empty_draft (lines_of bytes) ≡ read → parts_of read ≡ Ok parts → read_script bytes ≡ Ok parts
script_read bytes read parts is lines made = is_read bytes (whole_utf8 bytes is) ∙ ap parts_of lines ∙ made

pub script_refused : (bytes : List ℕ) (found : ScriptFault) → IsUtf8 bytes → read_lines 1 empty_draft (lines_of bytes) ≡ Err found → read_script bytes ≡ Err found
script_refused bytes found is lines = is_read bytes (whole_utf8 bytes is) ∙ ap parts_of lines

abbrev reported : ℕ → Result ScriptParts ScriptFault
reported line = Err (fault_at line fault.Encoding)

pub script_bad : (bytes : List ℕ) (n line : ℕ) → (IsUtf8 bytes → ⊥) → IsValidUpTo bytes n → n ≡ utf8_valid_len bytes → line ≡ bad_line bytes → read_script bytes ≡ Err (fault_at line fault.Encoding)
script_bad bytes n line not valid is where_ =
    elim (cases_lt (utf8_valid_len bytes) (length bytes)) [
      | inl lt ↦ is_bad bytes (lt-ltb (utf8_valid_len bytes) (length bytes) lt) ∙ ap reported (sym where_)
      | inr le ↦ absurd (not (subst (λ (l : List ℕ). IsUtf8 l) (take_all n bytes (let low : n < length bytes = valid.short in omega arith)) valid.front))
    ]
