use Rattle.std.proofs.Common.{◌≡◌, ℕ, ◌+◌, ◌-◌, ◌*◌, ◌/◌, ◌%◌, List, ◌∷◌, ◌++◌, sym, ap, ◌∙◌, arith}
use Rattle.std.specs.Prelude.{slice_index, min}
use Rattle.ft_trace.specs.Addresses.{free_bits, free_words}
use Rattle.ft_trace.specs.Bits.{full}
use Rattle.ft_bank.proofs.StartWords.{snoc_over, words_next, words_end, least_is}
use Rattle.ft_bank.proofs.opening.push_free.Goals as goal

pub loop-word-preserved : goal.loop-word-preserved
loop-word-preserved c =
    let xs = c.loop-word.words.items in
    let i = c.loop-word.word in
    let tables = c.args.tables.now in
    let rest = free_words tables (i + 1) (224 - (i + 1)) in
    let at : i / 16 ≡ 3 + i / 16 - 3 = omega arith in
    let more = c.saturating_sub-more.ensures ∙ ap (λ (z : ℕ). slice_index tables z - 64 * (i % 16)) at in
    let word : c.ones.result ≡ free_bits tables i = c.ones.ensures ∙ ap full (c.min.ensures ∙ (ap (λ (z : ℕ). min z 64) more ∙ least_is (slice_index tables (3 + i / 16 - 3) - 64 * (i % 16)))) in
    let next = ap (λ (z : ℕ). z ∷ rest) word ∙ sym (words_next tables i (omega (arith, c.loop-word-test.true))) in
    ap (λ (l : List ℕ). l ++ rest) c.in_ok-push.ensures.items ∙ (snoc_over xs rest c.ones.result ∙ (ap (λ (l : List ℕ). xs ++ l) next ∙ c.loop-word.invariant))

pub returns : goal.returns
returns c = words_end c.loop-word.words.items c.args.tables.now c.loop-word.word _ (omega (arith, c.loop-word-test.false, c.loop-word.auto.word-end)) c.loop-word.invariant
