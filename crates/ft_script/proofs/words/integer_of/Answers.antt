use Rattle.std.proofs.Common.{◌∙◌, arith, sym}
use Rattle.ft_script.proofs.ShortNumbers.{no_short_integer, short_integer}
use Rattle.ft_script.proofs.words.integer_of.Goals as goal

pub returns-in_err-short_value-in-49-to-57 : goal.returns-in_err-short_value-in-49-to-57
returns-in_err-short_value-in-49-to-57 c =
    c.from_residual.ensures ∙ no_short_integer c.args.word.now (omega arith) c.if-word-le18.true (omega arith) (omega arith) (sym c.short_value.ensures.value ∙ c.in_err-short_value-in-49-to-57.was)

pub returns-in_ok-short_value-in-49-to-57 : goal.returns-in_ok-short_value-in-49-to-57
returns-in_ok-short_value-in-49-to-57 c =
    short_integer c.args.word.now c.in_ok-short_value-in-49-to-57.field-0 (omega arith) c.if-word-le18.true (omega arith) (omega arith) c.in_ok-short_value-in-49-to-57.ensures.small
    (sym c.short_value.ensures.value ∙ c.in_ok-short_value-in-49-to-57.was)
