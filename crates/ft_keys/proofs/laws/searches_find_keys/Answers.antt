use Rattle.ft_keys.proofs.Loading.{loads-find}
use Rattle.ft_keys.proofs.laws.searches_find_keys.Goals as goal

pub returns : goal.returns
returns c mask key first left found calls words is fits loads answers = loads-find mask key first left found calls loads words is fits answers
