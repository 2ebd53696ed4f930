use Rattle.std.proofs.Common.{◌+◌, ◌*◌, ◌∙◌, length, ap, sym}
use Rattle.std.proofs.Math.Logic.{∥∥₁_elim}
use Rattle.std.proofs.Math.Nat.{ℕ_set}
use Rattle.ft_trace.specs.declared.Shape.{Shape}
use Rattle.ft_trace.specs.Acts.{all_entries}
use Rattle.ft_trace.proofs.Rule as rule
use Rattle.ft_bank.specs.Passes.{view}
use Rattle.ft_bank.proofs.bank.Bank.close.Goals as goal

pub returns-clause-count : goal.returns-clause-count
returns-clause-count c =
    let v = view c.args.pass in
    let calls = ap (λ (k : Shape). k.passes * k.calls) c.requires.pass.1 in
    let all = c.requires.all ∙ ap (λ (k : Shape). k.passes) (sym c.requires.pass.1) in
    ∥∥₁_elim c.args.pass.possible (ℕ_set (length (all_entries v) + v.left) (v.shape.passes * v.shape.calls)) (λ p. rule.calls_are_counted v.shape p.0 p.2.0 p.1 v p.2.1 all) ∙ calls
