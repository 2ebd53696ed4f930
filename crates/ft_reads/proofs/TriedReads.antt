-- The try of a clear leaves the cursors of its pass.
use Rattle.std.proofs.Common.{ℕ}
use Rattle.ft_model.specs.declared.call.Call.{Call}
use Rattle.ft_trace.specs.declared.View.{View}
use Rattle.ft_section.specs.declared.answers.Objects.TheVariants.{One}
use Rattle.ft_section.specs.declared.answers.Step.{Step}
use Rattle.ft_table_calls.specs.declared.made.Made.{Made}
use Rattle.ft_table_calls.specs.declared.made.Made.TheVariants as made
use Rattle.ft_table_calls.specs.Adding.{KeepsCursors}
use Rattle.ft_table_calls.specs.TriesUnderLocks.{IsTry}
use Rattle.ft_table_calls.proofs.TriedCalls.{try_keeps}
use Rattle.ft_reads.specs.Clears.{IsClear}

cleared : (called : Call) (made : Made) (b a : View) → IsClear called made b a → KeepsCursors b a
cleared called (made.Done said stamp) b a x = x.2
cleared called (made.Moved first second) b a x = absurd x
cleared called made.NoMemory b a x = absurd x

pub clear_keeps : (o : ℕ) (called : Call) (v w : View) (r : Step) → IsTry (One o) (IsClear called) v w r → KeepsCursors v w
clear_keeps o called v w r x = try_keeps (One o) (IsClear called) v w (cleared called) r x
