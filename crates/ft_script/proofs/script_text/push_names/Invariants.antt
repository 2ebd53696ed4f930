use Rattle.std.proofs.Common.{◌≡◌, ◌++◌, ◌∷◌, take}
use Rattle.std.specs.List.{flat_map}
use Rattle.ft_script.specs.Texts.{thread_name}
use Rattle.ft_script.proofs.script_text.push_names.Given as goal

abbrev pub invariant-loop-turn : goal.invariant-loop-turn
invariant-loop-turn l = l.out.items ≡ l.initial.out.items ++ flat_map (λ turn. 32 ∷ thread_name l.script turn) (take l.turn-index l.turns)
