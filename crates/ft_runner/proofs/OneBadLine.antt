-- A text has one first bad line at most.
use Rattle.std.proofs.Common.{◌≡◌, ◌∙◌, ◌≤◌, ℕ, ◌+◌, ◌-◌, ◌^◌, List, [], ◌∷◌, ◌++◌, length, take, min, Result, refl, sym, ap, ap₂, subst, arith, append_assoc, inl, inr}
use Rattle.std.specs.Prelude.{is_ok}
use Rattle.std.proofs.lemmas.Bool.{cases_lt, true≢false}
use Rattle.std.proofs.lemmas.List.{append-nil}
use Rattle.ft_model.specs.declared.entry.Entry.{Entry}
use Rattle.ft_model.specs.declared.script.ScriptParts.{ScriptParts}
use Rattle.ft_model.specs.Scripts.{IsScript}
use Rattle.ft_script.specs.declared.fault.ScriptFault.{ScriptFault}
use Rattle.ft_script.specs.ReadScripts.{read_script}
use Rattle.ft_script.specs.Texts.{entry_line}
use Rattle.ft_script.specs.Transcripts.{IsFirstBad, IsTranscript}
use Rattle.ft_script.proofs.ReadScripts.{script_read}
use Rattle.ft_script.proofs.TranscriptLaws.{not_bad, one_of_two}
use Rattle.ft_runner.specs.Findings.{IsBadAt}
use Rattle.ft_runner.specs.Reports.{IsScriptFault}
use Rattle.ft_runner.proofs.OneFinding.{one_parting}
use Rattle.ft_runner.proofs.SeparatorLemmas.{no_separator, one_script}

-- the longer of two fronts of one text goes on from the shorter one
goes_on : (front more other rest : List ℕ) → front ++ more ≡ other ++ rest → length front ≤ length other → (between : List ℕ) × (front ++ between ≡ other) × (more ≡ between ++ rest)
goes_on [] more other rest same low = (other, refl, same)
goes_on (x ∷ front) more [] rest same low = absurd (omega (arith, low))
goes_on (x ∷ front) more (y ∷ other) rest same low =
    let tails : front ++ more ≡ other ++ rest = cc in
    let heads : x ≡ y = cc in
    let there = goes_on front more other rest tails (omega (arith, low)) in
    (there.0, ap₂ (λ (a : ℕ) (b : List ℕ). a ∷ b) heads there.1, there.2)

module _ (script : ScriptParts) (rule : IsScript script) (bytes : List ℕ) where
  -- the front of the later one is a transcript, and bad where the earlier one is
  none_between : (p q : ℕ) (one : IsFirstBad script bytes p) (other : IsFirstBad script bytes q) (x : ℕ) (between : List ℕ) → one.front ++ (x ∷ between) ≡ other.front → one.rest ≡ (x ∷ between) ++ other.rest → ⊥
  none_between p q one other x between front rest =
      not_bad script other.front other.entries other.world p rule other.before (record {
        entries = one.entries;
        world = one.world;
        front = one.front;
        rest = x ∷ between;
        parts = sym front;
        before = one.before;
        left = λ none. let it : x ∷ between ≡ [] = none in cc;
        no_entry = λ empty entry more readable is. one.no_entry empty entry (more ++ other.rest) readable (rest ∙ ap (λ (bs : List ℕ). bs ++ other.rest) is ∙ append_assoc (entry_line script entry) more other.rest);
        no_content = λ text more content is. one.no_content text (more ++ other.rest) content (rest ∙ ap (λ (bs : List ℕ). bs ++ other.rest) is ∙ append_assoc text (10 ∷ more) other.rest);
        counted = one.counted;
      })

  one_after : (p q : ℕ) (one : IsFirstBad script bytes p) (other : IsFirstBad script bytes q) → length one.front ≤ length other.front → p ≡ q
  one_after p q one other low =
      let there = goes_on one.front one.rest other.front other.rest (sym one.parts ∙ other.parts) low in
      elim there.0 as (λ (between : List ℕ). one.front ++ between ≡ other.front → one.rest ≡ between ++ other.rest → p ≡ q) [
        | [] ↦ λ front rest.
            let same : other.front ≡ one.front = sym front ∙ append-nil one.front in
            let both = one_of_two script one.front one.entries other.entries one.world other.world rule one.before (subst (λ text. IsTranscript script text other.entries other.world) same other.before) in
            one.counted ∙ ap₂ (λ (entries : List Entry) (world : List (List ℕ)). min (length entries + length world + 1) (2 ^ 32 - 1)) both.0 both.1 ∙ sym other.counted
        | x ∷ between ↦ λ front rest. absurd (none_between p q one other x between front rest)
      ] there.1 there.2

  pub one_first_bad : (p q : ℕ) → IsFirstBad script bytes p → IsFirstBad script bytes q → p ≡ q
  one_first_bad p q one other =
      elim (cases_lt (length other.front) (length one.front)) [
        | inl before ↦ sym (one_after q p other one (omega (arith, before)))
        | inr not_before ↦ one_after p q one other (omega (arith, not_before))
      ]

pub one_bad_line : (bytes : List ℕ) (p q : ℕ) → IsBadAt bytes p → IsBadAt bytes q → p ≡ q
one_bad_line bytes p q (inl one) (inl other) = one.1 ∙ sym other.1
one_bad_line bytes p q (inl one) (inr other) = absurd (no_separator bytes other.2.place one.0 other.2.separator)
one_bad_line bytes p q (inr one) (inl other) = absurd (no_separator bytes one.2.place other.0 one.2.separator)
one_bad_line bytes p q (inr one) (inr other) =
    let parts = one_parting bytes one.0 other.0 one.1 other.1 one.2 other.2 in
    let bad = subst (λ text. IsFirstBad one.0 text q) (sym parts.after) (subst (λ s. IsFirstBad s other.1 q) (sym parts.script) other.3) in
    one_first_bad one.0 (script_read (take one.2.place bytes) one.0 one.2.script_read) one.1 p q one.3 bad

-- a text with a bad line is a script's
pub no_fault_before : (bytes : List ℕ) (line : ℕ) (refused : ScriptFault) → IsBadAt bytes line → IsScriptFault bytes refused → ⊥
no_fault_before bytes line refused (inl missing) first =
    let part = one_script bytes bytes first.0 (inl (missing.0, refl)) first.1 in
    true≢false (ap (λ (r : Result ScriptParts ScriptFault). is_ok r) (sym missing.3 ∙ ap read_script part ∙ first.2.first))
no_fault_before bytes line refused (inr bad) first =
    let part = one_script bytes (take bad.2.place bytes) first.0 (inr (bad.2.place, bad.2.separator, refl)) first.1 in
    true≢false (ap (λ (r : Result ScriptParts ScriptFault). is_ok r) (sym bad.2.script_read ∙ ap read_script part ∙ first.2.first))
