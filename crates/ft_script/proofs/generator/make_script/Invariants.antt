use Rattle.std.proofs.Common.{◌≡◌, ◌++◌, map}
use Rattle.std.specs.List.{range_with_len}
use Rattle.ft_script.specs.Generator.{calls_above, made_thread, number_at}
use Rattle.ft_script.proofs.MadeLines.{thread_text}
use Rattle.ft_script.proofs.generator.make_script.Given as goal

abbrev pub invariant-loop-thread : goal.invariant-loop-thread
invariant-loop-thread l =
    (l.number ≡ number_at l.calls (calls_above l.calls l.thread)) × (l.text.items ≡ l.initial.text.items ++ thread_text (map (made_thread l.calls) (range_with_len 0 l.thread)))
