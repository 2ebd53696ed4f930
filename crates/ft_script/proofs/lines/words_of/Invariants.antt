use Rattle.std.proofs.Common.{◌≡◌, ◌≤◌, ℕ, List, map, drop, Bor}
use Rattle.ft_script.specs.Lines.{words_of, words_from}
use Rattle.ft_script.proofs.WordCuts.{resumed, part}
use Rattle.ft_script.proofs.lines.words_of.Given as goal

abbrev pub invariant-loop-i : goal.invariant-loop-i
invariant-loop-i l = record {
  same : resumed (map (λ (word : Bor (List ℕ)). word.now) l.words.items) l.place (part l.line l.start l.i) (words_from l.place (drop l.i l.line)) ≡ words_of l.line;
  low : l.start ≤ l.i;
}
