use Rattle.std.proofs.Common.{◌≡◌, ◌∙◌, ◌<◌, ◌^◌, true, sym, arith}
use Rattle.ft_model.specs.Names.{is_digit}
use Rattle.ft_script.proofs.ShortNumbers.{one_read, value_low}
use Rattle.ft_script.proofs.words.short_value.Goals as goal

pub overflow_mul-value : goal.overflow_mul-value
overflow_mul-value c =
    let low : c.loop-byte.value < 10 ^ 17 = value_low c.args.digits.now c.loop-byte.byte-index c.loop-byte.value 17 (omega arith) c.loop-byte.invariant in
    omega arith

pub overflow_add-value : goal.overflow_add-value
overflow_add-value c =
    let low : c.loop-byte.value < 10 ^ 17 = value_low c.args.digits.now c.loop-byte.byte-index c.loop-byte.value 17 (omega arith) c.loop-byte.invariant in
    omega arith

pub loop-byte-preserved : goal.loop-byte-preserved
loop-byte-preserved c =
    rw c.from.ensures (one_read c.args.digits.now c.loop-byte.byte-index c.loop-byte.value c.loop-byte-test.true (sym c.is_ascii_digit.ensures.value ∙ c.if-not-is_ascii_digit.false) c.loop-byte.invariant)

pub returns-clause-small : goal.returns-clause-small
returns-clause-small c = value_low c.args.digits.now c.loop-byte.byte-index c.loop-byte.value 18 (omega arith) c.loop-byte.invariant
