use Rattle.std.proofs.Common.{refl}
use Rattle.ft_trace.specs.declared.Act.TheVariants.{ReadCounter}
use Rattle.ft_search.proofs.LookSteps.{can_look_next}
use Rattle.ft_search.proofs.words.TableWords.stamp.Goals as goal

pub returns-clause-can : goal.returns-clause-can
returns-clause-can c = can_look_next c.args.self.now _ (ReadCounter c.stamp.result) c.requires.can (record { bank = refl; pass = refl; o = refl; table = refl; mask = refl; start = refl }) tt tt c.stamp.ensures.did
