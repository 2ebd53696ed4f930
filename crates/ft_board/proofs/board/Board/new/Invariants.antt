use Rattle.std.proofs.Common.{◌≡◌, ℕ, take}
use Rattle.std.specs.Prelude.{sum, map}
use Rattle.ft_board.specs.Awaits.{await_count, count_awaits}
use Rattle.ft_board.proofs.board.Board.new.Given as goal

abbrev pub invariant-loop-own : goal.invariant-loop-own
invariant-loop-own g l =
    (thread index : ℕ)
    → await_count l.board thread index
    ≡ sum (map (λ own. count_awaits thread index own.calls) (take l.own-index l.script.threads))
