use Rattle.std.proofs.Common.{ℕ, ◌+◌, ◌-◌, List, ◌∷◌, ◌++◌, sym, ap, ◌∙◌, arith}
use Rattle.ft_trace.specs.Addresses.{free_counts}
use Rattle.ft_bank.proofs.StartWords.{snoc_over, counts_next}
use Rattle.ft_bank.proofs.opening.push_counts.Goals as goal

pub loop-class-preserved : goal.loop-class-preserved
loop-class-preserved c =
    let xs = c.loop-class.words.items in
    let i = c.loop-class.class in
    let tables = c.args.tables.now in
    let rest = free_counts tables (3 + (i + 1)) (14 - (i + 1)) in
    let next = ap (λ (z : ℕ). z ∷ rest) c.from.ensures ∙ sym (counts_next tables i (omega (arith, c.loop-class-test.true))) in
    ap (λ (l : List ℕ). l ++ rest) c.in_ok-push.ensures.items ∙ (snoc_over xs rest c.from.result ∙ (ap (λ (l : List ℕ). xs ++ l) next ∙ c.loop-class.invariant))
