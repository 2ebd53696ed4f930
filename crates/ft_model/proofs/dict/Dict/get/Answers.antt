use Rattle.std.proofs.Common.{sym, ap, ◌∙◌}
use Rattle.std.specs.Prelude.{option_map}
use Rattle.ft_model.specs.declared.content.DictPair.{DictPair}
use Rattle.ft_model.specs.Contents.{DictContent, dict_get}
use Rattle.ft_model.proofs.PlacedPairs.{found_in, missing_in}
use Rattle.ft_model.proofs.dict.Dict.get.Goals as goal

pub returns-in-Some-clause-answer : goal.returns-in-Some-clause-answer
returns-in-Some-clause-answer c = ap (option_map (λ (pair : DictPair). pair.value)) c.in-Some.ensures.member ∙ ap (λ (d : DictContent). dict_get d.pairs c.args.key) c.self.view_is

pub returns-in-Some-clause-found : goal.returns-in-Some-clause-found
returns-in-Some-clause-found c = found_in c.args.self.now.pairs c.args.key c.in-Some.pair.value (sym (returns-in-Some-clause-answer c))

pub returns-in-None-clause-answer : goal.returns-in-None-clause-answer
returns-in-None-clause-answer c = ap (option_map (λ (pair : DictPair). pair.value)) c.in-None.ensures.member ∙ ap (λ (d : DictContent). dict_get d.pairs c.args.key) c.self.view_is

pub returns-in-None-clause-missing : goal.returns-in-None-clause-missing
returns-in-None-clause-missing c = missing_in c.args.self.now.pairs c.args.key (sym (returns-in-None-clause-answer c))
