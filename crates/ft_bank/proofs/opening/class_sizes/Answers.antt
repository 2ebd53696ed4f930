use Rattle.std.proofs.Common.{ℕ, ◌+◌, ◌-◌, List, ◌∷◌, ◌++◌, sym, ap, ◌∙◌, arith}
use Rattle.ft_bank.specs.TableNames.{sizes_from}
use Rattle.ft_bank.proofs.StartWords.{snoc_over}
use Rattle.ft_bank.proofs.TableAddresses.{sizes_next}
use Rattle.ft_bank.proofs.opening.class_sizes.Goals as goal

pub loop-class-preserved : goal.loop-class-preserved
loop-class-preserved c =
    let xs = c.loop-class.sizes.items in
    let i = c.loop-class.class in
    let rest = sizes_from (3 + (i + 1)) (14 - (i + 1)) in
    let word = c.table_size.ensures.is in
    let next = ap (λ (z : ℕ). z ∷ rest) word ∙ sym (sizes_next i (omega (arith, c.loop-class-test.true))) in
    ap (λ (l : List ℕ). l ++ rest) c.in_ok-push.ensures.items ∙ (snoc_over xs rest c.table_size.result ∙ (ap (λ (l : List ℕ). xs ++ l) next ∙ c.loop-class.invariant))
