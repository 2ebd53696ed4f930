-- Lists that get new serials, one after the other.
use Rattle.std.proofs.Common.{◌≡◌, ℕ, suc, zero, ◌+◌, ◌<◌, List, [], ◌∷◌, length, get_or, refl, sym, ap, ◌∙◌, arith, add-zero}
use Rattle.ft_model.specs.declared.content.DictPair.{DictPair}
use Rattle.ft_model.specs.declared.content.Element.{Element}
use Rattle.ft_model.specs.Contents.{IsDict, pairs_from, elements_from}

abbrev numbered : DictPair → ℕ → DictPair
numbered pair serial = record { serial = serial; key = pair.key; value = pair.value }

pub length-pairs_from : (next : ℕ) (pairs : List DictPair) → length (pairs_from next pairs) ≡ length pairs
length-pairs_from next [] = refl
length-pairs_from next (pair ∷ pairs) = ap suc (length-pairs_from (next + 1) pairs)

pub get-pairs_from : (next : ℕ) (pairs : List DictPair) (k : ℕ) (d : DictPair) → k < length pairs → get_or (pairs_from next pairs) k d ≡ numbered (get_or pairs k d) (next + k)
get-pairs_from next [] k d low = absurd (omega arith)
get-pairs_from next (pair ∷ pairs) zero d low = ap (λ n. numbered pair n) (sym (add-zero next))
get-pairs_from next (pair ∷ pairs) (suc k) d low = get-pairs_from (next + 1) pairs k d (omega arith) ∙ ap (λ n. numbered (get_or pairs k d) n) (omega arith)

-- a copy of the pairs of a dict, with new serials, are those of a dict
pub IsDict_copy : (next other : ℕ) (pairs : List DictPair) → IsDict other pairs → IsDict (next + length pairs) (pairs_from next pairs)
IsDict_copy next other pairs is_dict =
    let long : length (pairs_from next pairs) ≡ length pairs = length-pairs_from next pairs in
    let key_at : (k : ℕ) (d : DictPair) → k < length pairs → (get_or (pairs_from next pairs) k d).key ≡ (get_or pairs k d).key = λ k d low. ap (λ (p : DictPair). p.key) (get-pairs_from next pairs k d low) in
    let serial_at : (k : ℕ) (d : DictPair) → k < length pairs → (get_or (pairs_from next pairs) k d).serial ≡ next + k = λ k d low. ap (λ (p : DictPair). p.serial) (get-pairs_from next pairs k d low) in
    record {
      distinct = λ i j d lt within same. is_dict.distinct i j d lt (omega arith) (sym (key_at i d (omega arith)) ∙ same ∙ key_at j d (omega arith));
      rising = λ i j d lt within. rw (serial_at i d (omega arith), serial_at j d (omega arith)) (omega arith);
      below = λ k d within. rw (serial_at k d (omega arith)) (omega arith);
    }

-- ---- elements

abbrev renumbered : Element → ℕ → Element
renumbered element serial = record { serial = serial; key = element.key }

pub length-elements_from : (next : ℕ) (elements : List Element) → length (elements_from next elements) ≡ length elements
length-elements_from next [] = refl
length-elements_from next (element ∷ elements) = ap suc (length-elements_from (next + 1) elements)

pub get-elements_from : (next : ℕ) (elements : List Element) (k : ℕ) (d : Element) → k < length elements → get_or (elements_from next elements) k d ≡ renumbered (get_or elements k d) (next + k)
get-elements_from next [] k d low = absurd (omega arith)
get-elements_from next (element ∷ elements) zero d low = ap (λ n. renumbered element n) (sym (add-zero next))
get-elements_from next (element ∷ elements) (suc k) d low = get-elements_from (next + 1) elements k d (omega arith) ∙ ap (λ n. renumbered (get_or elements k d) n) (omega arith)
