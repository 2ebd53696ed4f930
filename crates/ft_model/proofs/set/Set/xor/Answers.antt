use Rattle.std.proofs.Common.{arith, refl, ap, subst, ◌≡◌, length}
use Rattle.ft_model.specs.Contents.{SetContent, IsSet, those_not_in}
use Rattle.ft_model.proofs.Copies.{length-elements_from}
use Rattle.ft_model.proofs.Sets.{IsSet-xor}
use Rattle.ft_model.proofs.PlacedElements.{are_elements}
use Rattle.ft_model.proofs.set.Set.xor.Goals as goal

pub from_slice-requires : goal.from_slice-requires
from_slice-requires c =
    let is_set = subst (λ (s : SetContent). IsSet s.next s.elements) c.self.view_is c.self.invariant in
    rw (c.deref-2.ensures.value, c.in_ok-joined.ensures, c.in_ok-kept.ensures, c.deref.ensures.value, c.in_ok-added.ensures.added) (are_elements _ _ (IsSet-xor c.args.self.now.next c.args.other.now.next c.args.self.now.elements c.args.other.now.elements is_set c.added.ensures.is_set))

count : (c : goal.After-drop-added-2) → c.len.result ≡ length (those_not_in c.args.self.now.elements c.args.other.now.elements)
count c =
    let size : c.len.result ≡ length c.in_ok-added.added.items = omega arith in
    rw (size, c.in_ok-added.ensures.added) (length-elements_from c.args.self.now.next (those_not_in c.args.self.now.elements c.args.other.now.elements))

pub invariant_of-self : goal.invariant_of-self
invariant_of-self c =
    let size = count c in
    let next = ap (λ (s : SetContent). s.next) c.self.view_is in
    let is_set = subst (λ (s : SetContent). IsSet s.next s.elements) c.self.view_is c.self.invariant in
    rw (c.in_ok-elements.ensures, c.deref-2.ensures.value, c.in_ok-joined.ensures, c.in_ok-kept.ensures, c.deref.ensures.value, c.in_ok-added.ensures.added, size, next) (IsSet-xor c.args.self.now.next c.args.other.now.next c.args.self.now.elements c.args.other.now.elements is_set c.added.ensures.is_set)

pub returns-clause-ok : goal.returns-clause-ok
returns-clause-ok c =
    let size = count c in
    let next = ap (λ (s : SetContent). s.next) c.self.view_is in
    rw (c.in_ok-elements.ensures, c.deref-2.ensures.value, c.in_ok-joined.ensures, c.in_ok-kept.ensures, c.deref.ensures.value, c.in_ok-added.ensures.added, size, next) refl
