use Rattle.ft_script.proofs.Printed.{printed_words}
use Rattle.ft_script.specs.Texts.{argument_text}
use Rattle.ft_script.proofs.forms.push_form.Goals as goal

pub returns : goal.returns
returns c = printed_words _ _ _ c.args.word.now (argument_text c.args.script.now c.args.thread) c.args.arguments.now c.loop-argument.argument-index c.loop-argument-test.false c.in_ok-extend_from_slice.ensures.items c.loop-argument.invariant
