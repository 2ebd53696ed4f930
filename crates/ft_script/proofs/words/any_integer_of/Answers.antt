use Rattle.std.proofs.Common.{◌≡◌, ◌∙◌, sym}
use Rattle.ft_script.proofs.WordLemmas.{no_integer, never_fails, same_text, parsed}
use Rattle.ft_script.proofs.words.any_integer_of.Goals as goal

pub returns-then-not-is_integer : goal.returns-then-not-is_integer
returns-then-not-is_integer c = no_integer c.args.word.now (sym c.is_integer.ensures ∙ c.if-not-is_integer.true)

pub returns-in_err-ok : goal.returns-in_err-ok
returns-in_err-ok c =
    absurd (never_fails c.args.word.now c.from_utf8.result _ _ (sym c.is_integer.ensures ∙ c.if-not-is_integer.false) c.from_utf8.ensures.cases (sym c.ok.ensures.value ∙ c.in_err-ok.was))

pub returns : goal.returns
returns c =
    let same : c.in_ok-ok.field-0.now ≡ c.args.word.now = same_text c.args.word.now c.in_ok-ok.field-0 c.from_utf8.result _ c.from_utf8.ensures.cases (sym c.ok.ensures.value ∙ c.in_ok-ok.was) in
    c.ok-2.ensures.value ∙ parsed c.args.word.now c.parse.result (sym c.is_integer.ensures ∙ c.if-not-is_integer.false) (rw same at c.parse.ensures.value.0)
