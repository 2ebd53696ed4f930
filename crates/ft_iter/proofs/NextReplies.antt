-- From the pair or the element that follows to what `next` answers.
use Rattle.std.proofs.Common.{◌≡◌, ℕ, Bool, List, length, Option, Some, None, sym, ap, subst, eq-eqb}
use Rattle.std.specs.Prelude.{option_map, ◌==◌, if◌then◌else◌}
use Rattle.ft_model.specs.declared.content.DictPair.{DictPair}
use Rattle.ft_model.specs.declared.content.Element.{Element}
use Rattle.ft_model.specs.declared.cursor.CursorState.TheVariants as walk
use Rattle.ft_model.specs.declared.cursor_calls.Advanced.{Advanced}
use Rattle.ft_model.specs.Cursors.{CursorStep, dict_next, dict_walk, next_pair, set_next, set_walk, next_element}
use Rattle.ft_layout.specs.Containers.{used_pair, used_element}
use Rattle.ft_layout.specs.declared.slot.Pair.{Pair}
use Rattle.ft_iter.specs.Moves.{IsStep}
use Rattle.ft_keys.specs.TableChanges.{entry_of_pair}

some-one : {A : Type 0} (x y : A) → Some x ≡ Some y → x ≡ y
some-one x y e = cc

same-then : (n size : ℕ) (one other : CursorStep) → n ≡ size → (if n == size then one else other) ≡ one
same-then n size one other is = ap (λ (b : Bool). if b then one else other) (eq-eqb n size is)

pub dict-gives : (pairs : List DictPair) (o size expected : ℕ) (last : Option ℕ) (pair : Pair) (result : Advanced) → length pairs ≡ size → option_map entry_of_pair (Some pair) ≡ option_map used_pair (next_pair pairs last)
    → ((p : DictPair) → entry_of_pair pair ≡ used_pair p → IsStep result (dict_walk (Some p) o size expected last)) → IsStep result (dict_next pairs o walk.Live size expected last)
dict-gives pairs o size expected last pair result same next gives =
    subst (IsStep result) (sym (same-then (length pairs) size (dict_walk (next_pair pairs last) o size expected last) _ same)) (by (next_pair pairs last) next)
  where
    by : (z : Option DictPair) → option_map entry_of_pair (Some pair) ≡ option_map used_pair z → IsStep result (dict_walk z o size expected last)
    by None e = absurd (let none : Some (entry_of_pair pair) ≡ None = e in cc)
    by (Some p) e = gives p (some-one (entry_of_pair pair) (used_pair p) e)

pub set-gives : (elements : List Element) (o size : ℕ) (last : Option ℕ) (pair : Pair) (result : Advanced) → length elements ≡ size → option_map entry_of_pair (Some pair) ≡ option_map used_element (next_element elements last)
    → ((e : Element) → entry_of_pair pair ≡ used_element e → IsStep result (set_walk (Some e) o size last)) → IsStep result (set_next elements o walk.Live size last)
set-gives elements o size last pair result same next gives =
    subst (IsStep result) (sym (same-then (length elements) size (set_walk (next_element elements last) o size last) _ same)) (by (next_element elements last) next)
  where
    by : (z : Option Element) → option_map entry_of_pair (Some pair) ≡ option_map used_element z → IsStep result (set_walk z o size last)
    by None e = absurd (let none : Some (entry_of_pair pair) ≡ None = e in cc)
    by (Some p) e = gives p (some-one (entry_of_pair pair) (used_element p) e)
