-- The laws of delayed reuse, in every trace in which a pass knows what it knows. (PEP 703, QSBR)
use Rattle.std.specs.Prelude.{◌≡◌, ◌≢◌, ℕ, true}
use Rattle.ft_trace.specs.declared.View.{View}
use Rattle.ft_trace.specs.Addresses.{IsTableName, bits, free_word_of, free_bit_of}
use Rattle.ft_trace.specs.Acts.{clear, reads, stage}
use Rattle.ft_trace.specs.Bits.{bit}
use Rattle.ft_trace.specs.TraceLaws.{HasView}
use Rattle.ft_trace.specs.Traces.{Sure, word}

-- a table that the pass has found in a root since it last announced isn't free
abbrev pub FoundAreKept : View → Type 0
FoundAreKept v =
    (t : ℕ) → IsTableName v.shape t → reads t v.log ≡ true
    → Sure v (λ es. bit (free_bit_of t) (word v.shape es (bits (free_word_of t))) ≢ 1)

-- a table that the pass retired has not been found by a pass since that last announced which was found past the goal
abbrev pub ClearedAreNotRead : View → Type 0
ClearedAreNotRead v =
    (t p : ℕ) → IsTableName v.shape t → stage t v.log ≡ 4 → clear t p v.log ≡ true
    → Sure v (λ es. (j : ℕ) (u : View) → HasView v.shape es j u → u.number ≡ p → reads t u.log ≡ true → ⊥)
