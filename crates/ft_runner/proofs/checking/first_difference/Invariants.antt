use Rattle.std.proofs.Common.{◌≡◌, ◌≤◌, Vec, Global, ℕ, map, take, length}
use Rattle.ft_runner.specs.Findings.{given_lines, world_lines}
use Rattle.ft_runner.proofs.checking.first_difference.Given as goal

-- the lines so far are alike
abbrev pub invariant-loop-container : goal.invariant-loop-container
invariant-loop-container l =
    record {
      count : l.place ≡ length l.yielded;
      within : l.place ≤ length l.lines;
      same : take l.place (given_lines (map (λ (line : Vec ℕ Global). line.items) l.lines)) ≡ take l.place (world_lines l.script l.world);
    }
