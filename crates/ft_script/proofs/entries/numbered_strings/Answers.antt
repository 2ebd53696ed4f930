use Rattle.std.proofs.Common.{◌∙◌}
use Rattle.ft_script.proofs.PartTexts.{text_missing}
use Rattle.ft_script.proofs.entries.numbered_strings.Goals as goal

pub add-requires-clause-new : goal.add-requires-clause-new
add-requires-clause-new c = rw c.loop-text.invariant (text_missing c.args.texts.now c.loop-text.text-index _ c.as_slice.result.now c.requires.differ c.loop-text-test.true (c.as_slice.ensures ∙ c.text-item.is))
