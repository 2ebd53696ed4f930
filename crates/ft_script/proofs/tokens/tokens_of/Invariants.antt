use Rattle.std.proofs.Common.{◌≡◌, ◌≤◌, ℕ, List, map, drop, Bor}
use Rattle.ft_script.specs.Internal.Tokens.{tokens_of, tokens_from}
use Rattle.ft_script.proofs.WordCuts.{part}
use Rattle.ft_script.proofs.TokenCuts.{resumed}
use Rattle.ft_script.proofs.tokens.tokens_of.Given as goal

abbrev pub invariant-loop-i : goal.invariant-loop-i
invariant-loop-i l = record {
  same : resumed (map (λ (token : Bor (List ℕ)). token.now) l.tokens.items) l.place (part l.line l.start l.i) (tokens_from l.place (drop l.i l.line)) ≡ tokens_of l.line;
  low : l.start ≤ l.i;
}
