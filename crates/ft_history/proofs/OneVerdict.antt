-- A history has one verdict.
use Rattle.std.proofs.Common.{◌≡◌, ℕ, ◌-◌, List, refl, sym, ap, subst, ◌∙◌, arith, inl, inr, if◌then◌else◌, ◌==◌}
use Rattle.std.proofs.lemmas.Bool.{cases_order}
use Rattle.ft_model.specs.declared.entry.Entry.{Entry}
use Rattle.ft_model.specs.declared.entry.Rule.{Rule}
use Rattle.ft_model.specs.declared.entry.Rule.TheVariants as rule
use Rattle.ft_model.specs.declared.entry.Storage.{Storage}
use Rattle.ft_model.specs.declared.script.ScriptParts.{ScriptParts}
use Rattle.ft_model.specs.Judging.{IsFirstBroken, rank_of}
use Rattle.ft_history.specs.declared.verdict.Verdict.{Verdict}
use Rattle.ft_history.specs.declared.verdict.Verdict.TheVariants as verdict
use Rattle.ft_history.specs.Verdicts.{IsVerdict}
use Rattle.ft_history.proofs.Unbroken.{unbroken_of_legal}

-- the rule of a rank
abbrev rule_of : ℕ → Rule
rule_of n =
    if n == 0 then rule.Whole else (
    if n == 1 then rule.Stamp else (
    if n == 2 then rule.Order else (
    if n == 3 then rule.Reply else (
    if n == 4 then rule.Await else (
    if n == 5 then rule.Mark else (
    if n == 6 then rule.Kept else (
    if n == 7 then rule.Suspended else (
    if n == 8 then rule.Memory else (
    if n == 9 then rule.Missing else (
    rule.World))))))))))

rule_of-rank_of : (r : Rule) → rule_of (rank_of r) ≡ r
rule_of-rank_of rule.Whole = refl
rule_of-rank_of rule.Stamp = refl
rule_of-rank_of rule.Order = refl
rule_of-rank_of rule.Reply = refl
rule_of-rank_of rule.Await = refl
rule_of-rank_of rule.Mark = refl
rule_of-rank_of rule.Kept = refl
rule_of-rank_of rule.Suspended = refl
rule_of-rank_of rule.Memory = refl
rule_of-rank_of rule.Missing = refl
rule_of-rank_of rule.World = refl

pub same_rule : (r q : Rule) → rank_of r ≡ rank_of q → r ≡ q
same_rule r q same = sym (rule_of-rank_of r) ∙ ap rule_of same ∙ rule_of-rank_of q

module _ (storage : Storage) (script : ScriptParts) (entries : List Entry) where
  same_place : (p q : ℕ) (r s : Rule) → IsFirstBroken storage script entries p r → IsFirstBroken storage script entries q s → p ≡ q
  same_place p q r s one other =
      elim (cases_order p q) [
        | inl same ↦ same
        | inr apart ↦ elim apart [
          | inl before ↦ absurd (one.broken (other.before.earlier p r before))
          | inr after ↦ absurd (other.broken (one.before.earlier q s after))
        ]
      ]

  first_rule : (p : ℕ) (r s : Rule) → IsFirstBroken storage script entries p r → IsFirstBroken storage script entries p s → r ≡ s
  first_rule p r s one other =
      elim (cases_order (rank_of r) (rank_of s)) [
        | inl same ↦ same_rule r s same
        | inr apart ↦ elim apart [
          | inl before ↦ absurd (one.broken (other.before.here r before))
          | inr after ↦ absurd (other.broken (one.before.here s after))
        ]
      ]

  pub one_verdict : (v w : Verdict) → IsVerdict storage script entries v → IsVerdict storage script entries w → v ≡ w
  one_verdict verdict.Legal verdict.Legal one other = refl
  one_verdict verdict.Legal (verdict.Not place rule) legal broken = absurd (broken.1.broken (unbroken_of_legal storage script entries legal (place - 1) rule))
  one_verdict (verdict.Not place rule) verdict.Legal broken legal = absurd (broken.1.broken (unbroken_of_legal storage script entries legal (place - 1) rule))
  one_verdict (verdict.Not p r) (verdict.Not q s) one other =
      let places : p - 1 ≡ q - 1 = same_place (p - 1) (q - 1) r s one.1 other.1 in
      let same : p ≡ q = omega (arith, one.0, other.0) in
      let rules : r ≡ s = first_rule (p - 1) r s one.1 (subst (λ k. IsFirstBroken storage script entries k s) (sym places) other.1) in
      cc
