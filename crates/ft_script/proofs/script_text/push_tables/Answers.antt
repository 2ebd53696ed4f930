use Rattle.std.proofs.Common.{ℕ, ◌+◌, ap}
use Rattle.ft_script.proofs.PrintedLines.{table_printed}
use Rattle.ft_script.proofs.script_text.push_tables.Goals as goal

pub loop-place-preserved : goal.loop-place-preserved
loop-place-preserved c =
    table_printed c.args.out.now.items c.loop-place.out.items c.push_line.new.out.items c.args.counts.now c.loop-place.place _ _ c.loop-place-test.true (ap (λ (n : ℕ). n + c.loop-place.place) c.from.ensures) c.from-in-loop-place.ensures c.loop-place.invariant c.in_ok-push_line.ensures
