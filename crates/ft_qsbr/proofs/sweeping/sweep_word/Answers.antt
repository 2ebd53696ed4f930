use Rattle.std.proofs.Common.{◌≡◌, ℕ, ◌+◌, ◌*◌, subst, arith}
use Rattle.ft_trace.specs.Addresses.{free_bit_of}
use Rattle.ft_bank.specs.Passes.{view}
use Rattle.ft_qsbr.specs.Sweeping.{Swept}
use Rattle.ft_qsbr.proofs.Sweeps.{gave_none, gave_then, index_word, none_kept, none_set, seen_after, swept_none, swept_then}
use Rattle.ft_qsbr.proofs.sweeping.sweep_word.Goals as goal

pub loop-bit-init : goal.loop-bit-init
loop-bit-init c = record {
  pass = c.requires.pass;
  few = omega arith;
  gave = gave_none c.args.pass.now;
  swept = swept_none c.args.least (64 * c.args.word) (64 * c.args.word + 0) (view c.args.pass.now) (λ t table low less has. absurd (omega (arith, low, less)));
}

pub sweep_bit-freed-requires-clause-seen : goal.sweep_bit-freed-requires-clause-seen
sweep_bit-freed-requires-clause-seen c = seen_after c.args.least (64 * c.args.word) (64 * c.args.word + c.loop-bit.bit) (view c.args.pass.now) (view c.loop-bit.pass) c.loop-bit.invariant.swept c.requires.seen

pub sweep_bit-freed-requires-clause-idle : goal.sweep_bit-freed-requires-clause-idle
sweep_bit-freed-requires-clause-idle c = c.loop-bit.invariant.swept.idle c.requires.idle

pub loop-bit-preserved : goal.loop-bit-preserved
loop-bit-preserved c =
    let i = c.loop-bit.invariant in
    let m = 64 * c.args.word in
    let b = c.loop-bit.bit in
    let next : m + b + 1 ≡ m + (b + 1) = omega arith in
    let few = i.few in
    let more = c.sweep_bit-freed.ensures.few in record {
      pass = c.sweep_bit-freed.ensures.pass;
      few = omega (arith, few, more);
      gave = gave_then c.loop-bit.freed c.sweep_bit-freed.result c.args.pass.now c.loop-bit.pass c.sweep_bit-freed.new.pass i.gave c.sweep_bit-freed.ensures.gave;
      swept = subst (λ (n : ℕ). Swept c.args.least m n (view c.args.pass.now) (view c.sweep_bit-freed.new.pass)) next
          (swept_then c.args.least m (m + b) (m + b + 1) (view c.args.pass.now) (view c.loop-bit.pass) (view c.sweep_bit-freed.new.pass) (omega arith) (omega arith) i.swept c.sweep_bit-freed.ensures.swept);
    }

pub returns-then-retired-eq0-clause-swept : goal.returns-then-retired-eq0-clause-swept
returns-then-retired-eq0-clause-swept c =
    let v = view c.args.pass.now in
    let w = c.args.word in
    let n = c.retired.result in
    swept_none c.args.least (64 * w) (64 * w + 64) v (λ t table low less has. none_set n (free_bit_of t) c.if-retired-eq0.true (none_kept v w n c.retired.ensures.all t table (index_word t w low less) has))
