use Rattle.std.proofs.Common.{◌≡◌, ◌++◌, take}
use Rattle.std.specs.List.{flat_map}
use Rattle.ft_script.specs.ScriptTexts.{tables_lines}
use Rattle.ft_script.specs.Texts.{line}
use Rattle.ft_script.proofs.script_text.push_tables.Given as goal

abbrev pub invariant-loop-place : goal.invariant-loop-place
invariant-loop-place l = l.out.items ≡ l.initial.out.items ++ flat_map line (tables_lines 3 (take l.place l.counts))
