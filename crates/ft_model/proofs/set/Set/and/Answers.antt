use Rattle.std.proofs.Common.{ap, subst, ◌∙◌}
use Rattle.ft_model.specs.declared.content.Element.{Element}
use Rattle.ft_model.specs.Contents.{SetContent, IsSet, has_element, those_in}
use Rattle.ft_model.proofs.Sets.{IsSet-filter}
use Rattle.ft_model.proofs.SetLaws.{and_members}
use Rattle.ft_model.proofs.PlacedElements.{are_elements}
use Rattle.ft_model.proofs.set.Set.and.Goals as goal

pub from_slice-requires : goal.from_slice-requires
from_slice-requires c =
    let is_set = subst (λ (s : SetContent). IsSet c.self.inside.next s.elements) c.self.view_is c.self.invariant in
    rw (c.deref.ensures.value, c.in_ok-common.ensures) (are_elements _ _ (IsSet-filter c.self.inside.next c.args.self.now.elements (λ (element : Element). has_element c.args.other.now.elements element.key) is_set))

pub invariant_of-self : goal.invariant_of-self
invariant_of-self c =
    let is_set = subst (λ (s : SetContent). IsSet c.self.inside.next s.elements) c.self.view_is c.self.invariant in
    rw (c.in_ok-elements.ensures, c.deref.ensures.value, c.in_ok-common.ensures) (IsSet-filter c.self.inside.next c.args.self.now.elements (λ (element : Element). has_element c.args.other.now.elements element.key) is_set)

pub returns-clause-ok : goal.returns-clause-ok
returns-clause-ok c = rw (c.in_ok-elements.ensures, c.deref.ensures.value, c.in_ok-common.ensures) (ap (λ (s : SetContent). let r : SetContent = record { next = s.next; elements = those_in c.args.other.now.elements c.args.self.now.elements } in r) c.self.view_is)

pub returns-clause-members : goal.returns-clause-members
returns-clause-members c = λ key. ap (λ (s : SetContent). has_element s.elements key) (returns-clause-ok c) ∙ and_members c.args.self.now c.args.other.now.elements key
