use Rattle.std.proofs.Common.{◌≡◌, ℕ, List, Bor, length, take, sym, ap, ◌∙◌, ◌-◌, arith}
use Rattle.std.proofs.lemmas.List.{length-map, take-map}
use Rattle.ft_script.proofs.TokenLists.{shown}
use Rattle.ft_script.proofs.replies.but_last.Goals as goal

pub returns : goal.returns
returns c =
    let tokens = c.args.tokens.now in
    let e : c.saturating_sub.result ≡ length (shown tokens) - 1 = omega (arith, length-map tokens (λ (t : Bor (List ℕ)). t.now)) in
    sym (take-map (λ (t : Bor (List ℕ)). t.now) c.saturating_sub.result tokens) ∙ ap (λ (n : ℕ). take n (shown tokens)) e
