use Rattle.std.proofs.Common.{◌≡◌, ◌∙◌, sym}
use Rattle.ft_script.proofs.WordLemmas.{same_text}
use Rattle.ft_script.proofs.NumberLemmas.{no_natural, never_fails, parsed}
use Rattle.ft_script.proofs.replies.any_natural_in.Goals as goal

pub returns-then-not-is_decimal : goal.returns-then-not-is_decimal
returns-then-not-is_decimal c = no_natural c.args.token.now (sym c.is_decimal.ensures ∙ c.if-not-is_decimal.true)

pub returns-in_err-ok : goal.returns-in_err-ok
returns-in_err-ok c =
    absurd (never_fails c.args.token.now c.from_utf8.result _ _ (sym c.is_decimal.ensures ∙ c.if-not-is_decimal.false) c.from_utf8.ensures.cases (sym c.ok.ensures.value ∙ c.in_err-ok.was))

pub returns : goal.returns
returns c =
    let same : c.in_ok-ok.field-0.now ≡ c.args.token.now = same_text c.args.token.now c.in_ok-ok.field-0 c.from_utf8.result _ c.from_utf8.ensures.cases (sym c.ok.ensures.value ∙ c.in_ok-ok.was) in
    c.ok-2.ensures.value ∙ parsed c.args.token.now c.parse.result (sym c.is_decimal.ensures ∙ c.if-not-is_decimal.false) (rw same at c.parse.ensures.value.0)
