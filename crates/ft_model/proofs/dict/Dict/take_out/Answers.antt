use Rattle.std.proofs.Common.{not, ap, ◌∙◌, List}
use Rattle.ft_model.specs.declared.content.DictPair.{DictPair}
use Rattle.ft_model.specs.Contents.{DictContent, is_at, dict_del}
use Rattle.ft_model.proofs.Dicts.{IsDict-filter}
use Rattle.ft_model.proofs.dict.Dict.take_out.Goals as goal

pub invariant_of-self : goal.invariant_of-self
invariant_of-self c = rw c.take_out.ensures (IsDict-filter c.self.inside.next c.self.inside.pairs (λ (pair : DictPair). not (is_at c.args.key pair)) c.self.invariant)

pub returns : goal.returns
returns c =
    ap (λ (pairs : List DictPair). let r : DictContent = record { next = c.self.inside.next; pairs = pairs } in r) c.take_out.ensures
    ∙ ap (λ (d : DictContent). dict_del d c.args.key) c.self.view_is
