use Rattle.std.proofs.Common.{◌≡◌, ◌++◌, take, map}
use Rattle.ft_script.specs.Texts.{argument_text}
use Rattle.ft_script.proofs.Printed.{each_after}
use Rattle.ft_script.proofs.forms.push_form.Given as goal

abbrev pub invariant-loop-argument : goal.invariant-loop-argument
invariant-loop-argument l = l.out.items ≡ l.initial.out.items ++ each_after 32 (map (argument_text l.script l.thread) (take l.argument-index l.arguments))
