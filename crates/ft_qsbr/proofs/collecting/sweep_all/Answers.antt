use Rattle.std.proofs.Common.{◌≡◌, ℕ, ◌+◌, ◌*◌, subst, arith}
use Rattle.ft_bank.specs.Passes.{view}
use Rattle.ft_qsbr.specs.Sweeping.{Swept}
use Rattle.ft_qsbr.proofs.Sweeps.{gave_none, gave_then, seen_after, swept_none, swept_then}
use Rattle.ft_qsbr.proofs.collecting.sweep_all.Goals as goal

pub loop-word-init : goal.loop-word-init
loop-word-init c = record {
  pass = c.requires.pass;
  few = omega arith;
  gave = gave_none c.args.pass.now;
  swept = swept_none c.args.least 0 (64 * 0) (view c.args.pass.now) (λ t table low less has. absurd (omega (arith, less)));
}

pub sweep_word-freed-requires-clause-seen : goal.sweep_word-freed-requires-clause-seen
sweep_word-freed-requires-clause-seen c = seen_after c.args.least 0 (64 * c.loop-word.word) (view c.args.pass.now) (view c.loop-word.pass) c.loop-word.invariant.swept c.requires.seen

pub sweep_word-freed-requires-clause-idle : goal.sweep_word-freed-requires-clause-idle
sweep_word-freed-requires-clause-idle c = c.loop-word.invariant.swept.idle c.requires.idle

pub loop-word-preserved : goal.loop-word-preserved
loop-word-preserved c =
    let i = c.loop-word.invariant in
    let w = c.loop-word.word in
    let next : 64 * w + 64 ≡ 64 * (w + 1) = omega arith in
    let few = i.few in
    let more = c.sweep_word-freed.ensures.few in record {
      pass = c.sweep_word-freed.ensures.pass;
      few = omega (arith, few, more);
      gave = gave_then c.loop-word.freed c.sweep_word-freed.result c.args.pass.now c.loop-word.pass c.sweep_word-freed.new.pass i.gave c.sweep_word-freed.ensures.gave;
      swept = subst (λ (n : ℕ). Swept c.args.least 0 n (view c.args.pass.now) (view c.sweep_word-freed.new.pass)) next
          (swept_then c.args.least 0 (64 * w) (64 * w + 64) (view c.args.pass.now) (view c.loop-word.pass) (view c.sweep_word-freed.new.pass) (omega arith) (omega arith) i.swept c.sweep_word-freed.ensures.swept);
    }
