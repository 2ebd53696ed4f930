use Rattle.std.proofs.Common.{◌≡◌, ◌++◌, take}
use Rattle.std.specs.List.{flat_map}
use Rattle.ft_script.specs.Texts.{call_words, line}
use Rattle.ft_script.proofs.script_text.push_calls.Given as goal

abbrev pub invariant-loop-call : goal.invariant-loop-call
invariant-loop-call l = l.out.items ≡ l.initial.out.items ++ flat_map (λ called. line (call_words l.script l.place called)) (take l.call-index l.calls)
