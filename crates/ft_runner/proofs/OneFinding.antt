-- What is found of an input is one verdict.
use Rattle.std.proofs.Common.{◌≡◌, ◌∙◌, ℕ, ◌+◌, ◌<◌, List, length, take, drop, Result, Ok, refl, sym, ap, subst, inl, inr}
use Rattle.std.specs.Prelude.{is_ok, slice_get}
use Rattle.std.proofs.lemmas.Bool.{cases_order, true≢false}
use Rattle.ft_history.proofs.OneVerdict.{one_verdict}
use Rattle.ft_history.specs.declared.verdict.Verdict.{Verdict}
use Rattle.ft_history.specs.declared.verdict.Verdict.TheVariants as verdict
use Rattle.ft_model.specs.declared.entry.Entry.{Entry}
use Rattle.ft_model.specs.declared.script.ScriptParts.{ScriptParts}
use Rattle.ft_model.specs.Scripts.{IsScript}
use Rattle.ft_script.specs.declared.fault.ScriptFault.{ScriptFault}
use Rattle.ft_script.specs.ReadScripts.{read_script}
use Rattle.ft_script.specs.Transcripts.{IsFirstBad, IsTranscript}
use Rattle.ft_script.proofs.TranscriptLaws.{not_bad, one_of_two}
use Rattle.ft_turns.proofs.EntriesHaveRightReplies.{slice_get-take}
use Rattle.ft_runner.specs.Findings.{stored, IsBadAt, IsFirstDifference, IsFound, IsInput, IsParted, IsVerdictOn}
use Rattle.ft_runner.specs.Reports.{IsScriptFault}
use Rattle.ft_runner.proofs.SeparatorLemmas.{no_separator, one_separator, one_script}
use Rattle.ft_script.proofs.ReadScripts.{script_read}

-- ---- the first difference

alike_before : (given wanted : List (List ℕ)) (p q : ℕ) → p < q → IsFirstDifference given wanted q → slice_get given p ≡ slice_get wanted p
alike_before given wanted p q before is = sym (slice_get-take given q p before) ∙ ap (λ front. slice_get front p) is.same ∙ slice_get-take wanted q p before

one_place : (given wanted : List (List ℕ)) (p q : ℕ) → IsFirstDifference given wanted p → IsFirstDifference given wanted q → p ≡ q
one_place given wanted p q one other =
    elim (cases_order p q) [
      | inl same ↦ same
      | inr apart ↦ elim apart [
        | inl before ↦ absurd (one.differs (alike_before given wanted p q before other))
        | inr after ↦ absurd (other.differs (alike_before given wanted q p after one))
      ]
    ]

-- ---- the verdict

module _ (script : ScriptParts) (entries : List Entry) (lines : List (List ℕ)) where
  one_verdict_on : (one other : Verdict) → IsVerdictOn script entries lines one → IsVerdictOn script entries lines other → one ≡ other
  one_verdict_on verdict.Legal verdict.Legal a b = refl
  one_verdict_on verdict.Legal (verdict.Not q s) a (inl b) = one_verdict stored script entries verdict.Legal (verdict.Not q s) a.0 b
  one_verdict_on verdict.Legal (verdict.Not q s) a (inr b) = absurd (b.4.differs (ap (λ texts. slice_get texts b.2) a.1))
  one_verdict_on (verdict.Not p r) verdict.Legal (inl a) b = one_verdict stored script entries (verdict.Not p r) verdict.Legal a b.0
  one_verdict_on (verdict.Not p r) verdict.Legal (inr a) b = absurd (a.4.differs (ap (λ texts. slice_get texts a.2) b.1))
  one_verdict_on (verdict.Not p r) (verdict.Not q s) (inl a) (inl b) = one_verdict stored script entries (verdict.Not p r) (verdict.Not q s) a b
  one_verdict_on (verdict.Not p r) (verdict.Not q s) (inl a) (inr b) = absurd (let same : verdict.Not p r ≡ verdict.Legal = one_verdict stored script entries (verdict.Not p r) verdict.Legal a b.1 in cc)
  one_verdict_on (verdict.Not p r) (verdict.Not q s) (inr a) (inl b) = absurd (let same : verdict.Legal ≡ verdict.Not q s = one_verdict stored script entries verdict.Legal (verdict.Not q s) a.1 b in cc)
  one_verdict_on (verdict.Not p r) (verdict.Not q s) (inr a) (inr b) =
      let line : a.2 ≡ b.2 = one_place _ _ a.2 b.2 a.4 b.4 in
      let place : p ≡ q = a.3 ∙ ap (λ n. length entries + 1 + n) line ∙ sym b.3 in
      let rules : r ≡ s = a.0 ∙ sym b.0 in
      cc

-- ---- the input

pub record IsSameParts (one other : ScriptParts) (above below : List ℕ) : Type 0 where
  pub script : one ≡ other
  pub after : above ≡ below

pub one_parting : (bytes : List ℕ) (one other : ScriptParts) (above below : List ℕ) → IsParted bytes one above → IsParted bytes other below → IsSameParts one other above below
one_parting bytes one other above below a b =
    let place : a.place ≡ b.place = one_separator bytes a.place b.place a.separator b.separator in
    let read : ◌≡◌ {A = Result ScriptParts ScriptFault} (Ok one) (Ok other) = sym a.script_read ∙ ap (λ n. read_script (take n bytes)) place ∙ b.script_read in
    record {
      script = cc;
      after = a.after_it ∙ ap (λ n. drop (n + 4) bytes) place ∙ sym b.after_it;
    }

module _ (bytes : List ℕ) (script : ScriptParts) (entries : List Entry) (lines : List (List ℕ)) (input : IsInput bytes script entries lines) where
  is : IsScript script
  is = script_read (take input.parted.place bytes) script input.parted.script_read

  pub one_finding : (one other : Verdict) → IsVerdictOn script entries lines one → IsFound bytes other → one ≡ other
  one_finding one other on found =
      let there = found.input in
      let parts = one_parting bytes script found.script input.after there.after input.parted there.parted in
      let reads = subst (λ text. IsTranscript script text found.entries found.lines) (sym parts.after) (subst (λ s. IsTranscript s there.after found.entries found.lines) (sym parts.script) there.transcript_read) in
      let same = one_of_two script input.after entries found.entries lines found.lines is input.transcript_read reads in
      let with_script = subst (λ s. IsVerdictOn s found.entries found.lines other) (sym parts.script) found.verdict_on in
      let with_entries = subst (λ es. IsVerdictOn script es found.lines other) (sym same.0) with_script in
      one_verdict_on script entries lines one other on (subst (λ ls. IsVerdictOn script entries ls other) (sym same.1) with_entries)

  pub no_bad_line : (line : ℕ) → IsBadAt bytes line → ⊥
  no_bad_line line (inl missing) = no_separator bytes input.parted.place missing.0 input.parted.separator
  no_bad_line line (inr bad) =
      let parts = one_parting bytes script bad.0 input.after bad.1 input.parted bad.2 in
      not_bad script input.after entries lines line is input.transcript_read (subst (λ text. IsFirstBad script text line) (sym parts.after) (subst (λ s. IsFirstBad s bad.1 line) (sym parts.script) bad.3))

  pub no_script_fault : (refused : ScriptFault) → IsScriptFault bytes refused → ⊥
  no_script_fault refused first =
      let part = one_script bytes (take input.parted.place bytes) first.0 (inr (input.parted.place, input.parted.separator, refl)) first.1 in
      true≢false (ap (λ (r : Result ScriptParts ScriptFault). is_ok r) (sym input.parted.script_read ∙ ap read_script part ∙ first.2.first))
