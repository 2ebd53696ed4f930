use Rattle.std.proofs.Common.{◌≡◌, ℕ, ◌≤◌, List, length, map, drop, Bor}
use Rattle.ft_script.specs.Internal.Outcomes.{draft_of}
use Rattle.ft_script.specs.ScriptLines.{read_turns}
use Rattle.ft_script.proofs.draft.Draft.turns.Given as goal

abbrev pub invariant-loop-name : goal.invariant-loop-name
invariant-loop-name l =
    (read_turns (draft_of l.self) (map (λ (word : Bor (List ℕ)). word.now) (drop l.name-index l.names)) ≡ read_turns (draft_of l.fn.self) (map (λ (word : Bor (List ℕ)). word.now) l.names))
    × (length l.self.threads ≤ 64)
