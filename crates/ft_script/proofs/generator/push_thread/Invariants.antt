use Rattle.std.proofs.Common.{◌≡◌, ◌++◌, map}
use Rattle.std.specs.List.{flat_map}
use Rattle.ft_script.specs.Generator.{made_calls, made_head, number_at}
use Rattle.ft_script.specs.Texts.{call_words, line}
use Rattle.ft_script.proofs.generator.push_thread.Given as goal

abbrev pub invariant-loop : goal.invariant-loop
invariant-loop l =
    (l.number ≡ number_at l.first l.counter) × (l.out.items ≡ l.initial.out.items ++ flat_map line (map (call_words made_head 0) (made_calls l.first l.counter)))
