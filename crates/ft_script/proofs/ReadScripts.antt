-- What is read is a script.
use Rattle.std.proofs.Common.{◌≡◌, ℕ, zero, suc, ◌≤◌, Bool, true, false, List, length, take, Result, Ok, Err, refl, ap, subst, arith, cond}
use Rattle.std.specs.Prelude.{All, is_ok, nat_lt}
use Rattle.std.specs.Str.{is_utf8, IsUtf8}
use Rattle.std.specs.Str.Lossy.{utf8_valid_len, valid_len_up_to}
use Rattle.std.proofs.lemmas.Bool.{false≢true, ltb-false}
use Rattle.std.proofs.lemmas.List.{take_all}
use Rattle.std.proofs.lemmas.Str.{IsUtf8-from_is_utf8, IsUtf8-nil}
use Rattle.ft_model.specs.declared.script.ScriptParts.{ScriptParts}
use Rattle.ft_model.specs.Scripts.{IsScript}
use Rattle.ft_script.specs.Drafts.{Draft}
use Rattle.ft_script.specs.declared.fault.ScriptFault.{ScriptFault}
use Rattle.ft_script.specs.Drafts.{empty_draft, script_of}
use Rattle.ft_script.specs.Lines.{lines_of}
use Rattle.ft_script.specs.ReadScripts.{read_lines, read_script}
use Rattle.ft_script.specs.ScriptTexts.{HasText}
use Rattle.ft_script.proofs.KeptDrafts.{HasWideCalls}
use Rattle.ft_script.proofs.KeptScripts.{read_has_text}

-- ---- bytes whose longest front in UTF-8 is all of them

front_within : (bytes : List ℕ) (most : ℕ) → valid_len_up_to bytes most ≤ most
front_within bytes zero = omega arith
front_within bytes (suc n) =
    let below = front_within bytes n in
    elim (is_utf8 (take (suc n) bytes)) as (λ b. cond b (suc n) (valid_len_up_to bytes n) ≤ suc n) [ true ↦ omega arith | false ↦ omega arith ]

front_encoded : (bytes : List ℕ) (most : ℕ) → most ≤ valid_len_up_to bytes most → IsUtf8 (take most bytes)
front_encoded bytes zero whole = IsUtf8-nil
front_encoded bytes (suc n) whole =
    elim (is_utf8 (take (suc n) bytes)) as (λ b. is_utf8 (take (suc n) bytes) ≡ b → suc n ≤ cond b (suc n) (valid_len_up_to bytes n) → IsUtf8 (take (suc n) bytes)) [
      | true ↦ λ encoded all. IsUtf8-from_is_utf8 (take (suc n) bytes) encoded
      | false ↦ λ other all. absurd (omega (arith, front_within bytes n))
    ] refl whole

encoded : (bytes : List ℕ) → length bytes ≤ utf8_valid_len bytes → IsUtf8 bytes
unfolding utf8_valid_len
encoded bytes whole = subst IsUtf8 (take_all (length bytes) bytes (omega arith)) (front_encoded bytes (length bytes) whole)

-- ---- the script

abbrev made_of : {D : Type 0} → (D → ScriptParts) → Result D ScriptFault → Result ScriptParts ScriptFault
made_of make read = elim read [ Ok draft ↦ Ok (make draft) | Err found ↦ Err found ]

refused : (found : ScriptFault) (script : ScriptParts) → ◌≡◌ {A = Result ScriptParts ScriptFault} (Err found) (Ok script) → ⊥
refused found script same = false≢true (ap (λ (r : Result ScriptParts ScriptFault). is_ok r) same)

made : {D : Type 0} (make : D → ScriptParts) (read : Result D ScriptFault) (script : ScriptParts) → made_of make read ≡ Ok script → (draft : D) × (read ≡ Ok draft) × (script ≡ make draft)
made make (Ok draft) script same = (draft, refl, cc)
made make (Err found) script same = absurd (refused found script same)

not_refused : (short : Bool) (found : ScriptFault) (read : Result ScriptParts ScriptFault) (script : ScriptParts) → cond short (Err found) read ≡ Ok script → (short ≡ false) × (read ≡ Ok script)
not_refused true found read script same = absurd (refused found script same)
not_refused false found read script same = (refl, same)

-- a text that is read is in UTF-8, and its lines come to a draft
pub record IsRead (bytes : List ℕ) (script : ScriptParts) : Type 0 where
  pub utf8 : IsUtf8 bytes
  pub draft : Draft
  pub lines : read_lines 1 empty_draft (lines_of bytes) ≡ Ok draft
  pub parts : script ≡ script_of draft

pub is_read : (bytes : List ℕ) (script : ScriptParts) → read_script bytes ≡ Ok script → IsRead bytes script
unfolding read_script
is_read bytes script read =
    let all = not_refused (nat_lt (utf8_valid_len bytes) (length bytes)) _ (made_of script_of (read_lines 1 empty_draft (lines_of bytes))) script read in
    let is = made script_of (read_lines 1 empty_draft (lines_of bytes)) script all.1 in
    record { utf8 = encoded bytes (ltb-false _ _ all.0); draft = is.0; lines = is.1; parts = is.2 }

pub script_has_text : (bytes : List ℕ) (script : ScriptParts) → read_script bytes ≡ Ok script → HasText script
script_has_text bytes script read = let is = is_read bytes script read in read_has_text bytes is.draft script is.utf8 is.lines is.parts

pub script_read : (bytes : List ℕ) (script : ScriptParts) → read_script bytes ≡ Ok script → IsScript script
script_read bytes script read = (script_has_text bytes script read).rule

pub script_wide : (bytes : List ℕ) (script : ScriptParts) → read_script bytes ≡ Ok script → All HasWideCalls script.threads
script_wide bytes script read = (script_has_text bytes script read).wide
