use Rattle.std.proofs.Common.{◌≡◌, ◌+◌, ℕ, take}
use Rattle.ft_board.specs.Awaits.{await_count, count_awaits}
use Rattle.ft_board.proofs.board.Board.reserve_all.Given as goal

abbrev pub invariant-loop-call : goal.invariant-loop-call
invariant-loop-call g l =
    (thread index : ℕ)
    → await_count l.self thread index
    ≡ await_count l.initial.self thread index + count_awaits thread index (take l.call-index l.calls)
