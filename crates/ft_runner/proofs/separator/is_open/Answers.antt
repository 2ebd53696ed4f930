use Rattle.std.proofs.Common.{◌∙◌, sym, ap, arith, inl, inr}
use Rattle.std.proofs.lemmas.Bool.{cases_lt}
use Rattle.ft_runner.specs.Internal.Filling.{is_open_at}
use Rattle.ft_runner.proofs.OpenLines.{long_is_shut}
use Rattle.ft_runner.proofs.separator.is_open.Goals as goal

pub loop-place-init : goal.loop-place-init
loop-place-init c earlier low = long_is_shut c.args.bytes.now earlier (omega (arith, low))

pub returns-then-is_open_at : goal.returns-then-is_open_at
returns-then-is_open_at c = (c.loop-place.place, omega (arith, c.loop-place-test.true), sym c.is_open_at.ensures ∙ c.if-is_open_at.true)

pub loop-place-preserved : goal.loop-place-preserved
loop-place-preserved c earlier low =
    elim (cases_lt earlier c.loop-place.place) [
      | inl before ↦ c.loop-place.invariant earlier before
      | inr not_before ↦ ap (is_open_at c.args.bytes.now) (omega arith) ∙ sym c.is_open_at.ensures ∙ c.if-is_open_at.false
    ]

pub returns : goal.returns
returns c place low = c.loop-place.invariant place (omega (arith, low, c.loop-place-test.false))
