use Rattle.std.proofs.Common.{◌≡◌, ◌-◌, ◌*◌, ◌++◌}
use Rattle.ft_trace.specs.Addresses.{heap_words, listed}
use Rattle.ft_bank.specs.Shapes.{plan}
use Rattle.ft_bank.proofs.StartWords.{heaps_word}
use Rattle.ft_bank.proofs.opening.push_heaps.Given as goal

-- with the words that are left they are all
abbrev pub invariant-loop-at : goal.invariant-loop-at
invariant-loop-at l =
    l.words.items ++ listed (heaps_word (plan l.fn.shape)) l.at ((plan l.fn.shape).passes * heap_words (plan l.fn.shape) - l.at)
    ≡ l.fn.words.items ++ listed (heaps_word (plan l.fn.shape)) 0 ((plan l.fn.shape).passes * heap_words (plan l.fn.shape))
