use Rattle.std.proofs.Common.{◌∙◌, ap, map}
use Rattle.std.proofs.lemmas.List.{take_all}
use Rattle.ft_script.specs.Drafts.{only_named}
use Rattle.ft_script.proofs.entries.named_threads.Goals as goal

pub returns : goal.returns
returns c = c.from_vec.ensures ∙ c.loop-thread.invariant ∙ ap (map only_named) (take_all c.loop-thread.thread-index c.args.threads.now c.loop-thread-test.false)
