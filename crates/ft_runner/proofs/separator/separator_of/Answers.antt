use Rattle.std.proofs.Common.{◌∙◌, sym, ap, arith, inl, inr}
use Rattle.std.proofs.lemmas.Bool.{cases_lt}
use Rattle.ft_runner.specs.Checking.{is_separator_at}
use Rattle.ft_runner.proofs.separator.separator_of.Goals as goal

pub returns-then-is_separator_at : goal.returns-then-is_separator_at
returns-then-is_separator_at c = record { inside = c.loop-place-test.true; here = sym c.is_separator_at.ensures ∙ c.if-is_separator_at.true; first = c.loop-place.invariant }

pub loop-place-preserved : goal.loop-place-preserved
loop-place-preserved c earlier low =
    elim (cases_lt earlier c.loop-place.place) [
      | inl before ↦ c.loop-place.invariant earlier before
      | inr not_before ↦ ap (is_separator_at c.args.bytes.now) (omega arith) ∙ sym c.is_separator_at.ensures ∙ c.if-is_separator_at.false
    ]

pub returns : goal.returns
returns c place low = c.loop-place.invariant place (omega (arith, c.loop-place-test.false, c.loop-place.auto.place-end))
