use Rattle.std.proofs.Common.{◌≡◌, ℕ, ◌+◌, ◌*◌, sym, ap, ◌∙◌, subst, arith}
use Rattle.ft_trace.specs.declared.Shape.{Shape}
use Rattle.ft_trace.specs.Bits.{bit}
use Rattle.ft_bank.specs.Passes.{view}
use Rattle.ft_bank.specs.Retired.{table_of_bit}
use Rattle.ft_bank.specs.TableNames.{table_id, IsTableIn}
use Rattle.ft_bank.proofs.Retiring.{bits_of}
use Rattle.ft_qsbr.specs.Sweeping.{bit_index, Swept}
use Rattle.ft_qsbr.proofs.Sweeps.{bit_is_set, bit_is_clear, index_bit, none_kept, swept_none}
use Rattle.ft_qsbr.proofs.sweeping.sweep_bit.Goals as goal

pub returns-then-retired-bit-eq0-clause-swept : goal.returns-then-retired-bit-eq0-clause-swept
returns-then-retired-bit-eq0-clause-swept c =
    let v = view c.args.pass.now in
    let w = c.args.word in
    let b = c.args.bit in
    let n = c.retired.result in
    swept_none c.args.least (64 * w + b) (64 * w + b + 1) v
    (λ t table low less has.
    let at = index_bit t w b c.requires.bit (omega (arith, low, less)) in
    let one = none_kept v w n c.retired.ensures.all t table at.0 has in
    bit_is_clear n b c.if-retired-bit-eq0.true (ap (λ (z : ℕ). bit z n) (sym at.1) ∙ one))

pub give_past-requires-clause-table : goal.give_past-requires-clause-table
give_past-requires-clause-table c =
    let s = c.retired.ensures.some c.args.bit c.requires.bit (bit_is_set c.retired.result c.args.bit c.if-retired-bit-eq0.false) in
    subst (λ (z : Shape). IsTableIn z (table_of_bit c.args.word c.args.bit)) c.requires.pass.1 s.0

pub give_past-requires-clause-kept : goal.give_past-requires-clause-kept
give_past-requires-clause-kept c = (c.retired.ensures.some c.args.bit c.requires.bit (bit_is_set c.retired.result c.args.bit c.if-retired-bit-eq0.false)).1

pub returns-clause-swept : goal.returns-clause-swept
returns-clause-swept c =
    let w = c.args.word in
    let b = c.args.bit in
    let at = bits_of w b c.requires.word c.requires.bit in
    let fw = at.0 in
    let fb = at.1 in
    let is : bit_index (table_id (table_of_bit w b)) ≡ 64 * w + b = omega (arith, fw, fb) in
    subst (λ (z : ℕ). Swept c.args.least z (z + 1) (view c.args.pass.now) (view c.give_past.new.pass)) is c.give_past.ensures.swept
