-- That elements of a set are members with a key and a serial, and stay a set where one is taken out.
use Rattle.std.proofs.Common.{◌≢◌, ℕ, ◌<◌, List, [], ◌∷◌, length, drop, arith}
use Rattle.std.specs.List.{remove}
use Rattle.std.proofs.lemmas.List.Quantifiers.{all_pairs_remove}
use Rattle.ft_model.specs.declared.content.Element.{Element}
use Rattle.ft_model.specs.Contents.{IsSet}
use Rattle.ft_model.specs.Members.{AreMembers}
use Rattle.ft_model.proofs.PlacedMembers.{All-remove}

pub are_elements : (next : ℕ) (elements : List Element) → IsSet next elements → AreMembers (λ element. element.key) (λ element. element.serial) elements
are_elements next elements is_set = record { distinct = is_set.distinct; rising = is_set.rising }

pub IsSet-remove : (next : ℕ) (elements : List Element) (i : ℕ) → i < length elements → IsSet next elements → IsSet next (remove elements i)
IsSet-remove next elements i low is_set =
    record {
      distinct = all_pairs_remove (λ (a b : Element). a.key ≢ b.key) elements i low is_set.distinct;
      rising = all_pairs_remove (λ (a b : Element). a.serial < b.serial) elements i low is_set.rising;
      below = All-remove (λ (element : Element). element.serial < next) elements i low is_set.below;
    }

pub IsSet-drop : (next : ℕ) (elements : List Element) → IsSet next elements → IsSet next (drop 1 elements)
IsSet-drop next [] is_set = is_set
IsSet-drop next (element ∷ elements) is_set = IsSet-remove next (element ∷ elements) 0 (omega arith) is_set
