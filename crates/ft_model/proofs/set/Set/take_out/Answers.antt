use Rattle.std.proofs.Common.{not, ap, ◌∙◌, List}
use Rattle.ft_model.specs.declared.content.Element.{Element}
use Rattle.ft_model.specs.Keys.{same_key}
use Rattle.ft_model.specs.Contents.{SetContent, set_discard}
use Rattle.ft_model.proofs.Sets.{IsSet-filter}
use Rattle.ft_model.proofs.set.Set.take_out.Goals as goal

pub invariant_of-self : goal.invariant_of-self
invariant_of-self c = rw c.take_out.ensures (IsSet-filter c.self.inside.next c.self.inside.elements (λ (element : Element). not (same_key element.key c.args.key)) c.self.invariant)

pub returns : goal.returns
returns c =
    ap (λ (elements : List Element). let r : SetContent = record { next = c.self.inside.next; elements = elements } in r) c.take_out.ensures
    ∙ ap (λ (s : SetContent). set_discard s c.args.key) c.self.view_is
