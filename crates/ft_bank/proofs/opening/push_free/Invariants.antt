use Rattle.std.proofs.Common.{◌≡◌, ◌-◌, ◌++◌}
use Rattle.ft_trace.specs.Addresses.{free_words}
use Rattle.ft_bank.proofs.opening.push_free.Given as goal

-- with the words that are left they are all
abbrev pub invariant-loop-word : goal.invariant-loop-word
invariant-loop-word l = l.words.items ++ free_words l.tables l.word (224 - l.word) ≡ l.fn.words.items ++ free_words l.tables 0 224
