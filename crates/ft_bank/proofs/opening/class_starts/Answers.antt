use Rattle.std.proofs.Common.{◌≡◌, ℕ, ◌+◌, ◌-◌, List, length, ◌∷◌, ◌++◌, sym, ap, ◌∙◌, arith}
use Rattle.std.proofs.lemmas.List.{length-map}
use Rattle.ft_model.specs.Worlds.{start_as}
use Rattle.ft_layout.specs.Starts.{table_start}
use Rattle.ft_bank.specs.Shapes.{plan}
use Rattle.ft_bank.specs.TableNames.{starts_from}
use Rattle.ft_bank.proofs.StartWords.{snoc_over}
use Rattle.ft_bank.proofs.TableAddresses.{starts_next, start_first}
use Rattle.ft_bank.proofs.opening.class_starts.Goals as goal

pub loop-class-preserved : goal.loop-class-preserved
loop-class-preserved c =
    let k = plan c.args.shape.now in
    let xs = c.loop-class.starts.items in
    let i = c.loop-class.class in
    let rest = starts_from k (3 + (i + 1)) (14 - (i + 1)) in
    let many = length-map c.args.shape.now.kinds.items start_as in
    let count : c.len-containers.result ≡ length k.starts = omega (arith, many, c.len-containers.ensures, c.args.shape.now.kinds.ok.0) in
    let word = c.table_start.ensures.is ∙ ((λ d. table_start (count d) k.heap k.passes (c.as_slice-tables.ensures.value d) (3 + i) 0) ∙ start_first k (3 + i)) in
    let next = ap (λ (z : ℕ). z ∷ rest) word ∙ sym (starts_next k i (omega (arith, c.loop-class-test.true))) in
    ap (λ (l : List ℕ). l ++ rest) c.in_ok-push.ensures.items ∙ (snoc_over xs rest c.table_start.result ∙ (ap (λ (l : List ℕ). xs ++ l) next ∙ c.loop-class.invariant))
