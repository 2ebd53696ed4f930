use Rattle.std.proofs.Common.{◌≡◌, ◌++◌, take}
use Rattle.std.specs.List.{flat_map}
use Rattle.ft_runner.specs.Making.{row_text}
use Rattle.ft_runner.proofs.making.push_rows.Given as goal

abbrev pub invariant-loop-word : goal.invariant-loop-word
invariant-loop-word l = l.out.items ≡ l.initial.out.items ++ flat_map (λ row. row_text (row.0.now, row.1)) (take l.word-index l.rows)
