-- From the place of the entry that follows to its pair.
use Rattle.std.proofs.Common.{◌≡◌, ℕ, pos, Bool, true, false, true≢false, cond, List, [], ◌∷◌, Option, Some, None, refl, sym, ap, ◌∙◌, subst}
use Rattle.std.specs.Prelude.{◌↔◌, filter, slice_index_or, option_map}
use Rattle.std.specs.List.{find}
use Rattle.ft_model.specs.declared.data.Key.{Key}
use Rattle.ft_model.specs.declared.data.Key.TheVariants as key
use Rattle.ft_model.specs.Cursors.{is_after}
use Rattle.ft_layout.specs.declared.slot.Pair.{Pair}
use Rattle.ft_layout.specs.declared.slot.Slot.TheVariants.{Live}
use Rattle.ft_layout.specs.declared.slot.Stored.{Stored}
use Rattle.ft_layout.specs.Tables.{UsedEntry, is_live, hash_of, slot_with, entry_word}
use Rattle.ft_layout.specs.Words.{IsEntry}
use Rattle.ft_iter.specs.Seeking.{SameMarks, Seeks, SaysPair, GivesPair}
use Rattle.ft_keys.specs.TableChanges.{entry_of_pair}

some-same : {A : Type 0} (x y : A) → Some x ≡ Some y → x ≡ y
some-same x y e = cc

-- what is found in a filtered list passes the filter
pub found-passes : {A : Type 0} (f g : A → Bool) (xs : List A) (x : A) → find f (filter g xs) ≡ Some x → g x ≡ true
found-passes f g [] x is = absurd (let none : None ≡ Some x = is in cc)
found-passes f g (y ∷ ys) x is = by (g y) refl (λ more. found-passes f g ys x more) is
  where
    here : (b : Bool) → g y ≡ true → (find f (filter g ys) ≡ Some x → g x ≡ true) → cond b (Some y) (find f (filter g ys)) ≡ Some x → g x ≡ true
    here true passes rest e = subst (λ z. g z ≡ true) (some-same y x e) passes
    here false passes rest e = rest e

    by : (b : Bool) → g y ≡ b → (find f (filter g ys) ≡ Some x → g x ≡ true) → find f (cond b (y ∷ filter g ys) (filter g ys)) ≡ Some x → g x ≡ true
    by true passes rest e = here (f y) passes rest e
    by false passes rest e = rest e

-- the pair of an entry that is there
of-entry : (word : ℕ → ℕ) (hash : ℕ) (k : Key) (serial : ℕ) (stored : Option Stored) (given : Option Pair) → IsEntry word (slot_with hash k serial stored) → is_live (record { key = k; serial = serial; stored = stored }) ≡ true
    → ((pair : Pair) → IsEntry word (Live pair) ↔ (given ≡ Some pair)) → option_map entry_of_pair given ≡ Some (record { key = k; serial = serial; stored = stored })
of-entry word hash k serial (Some value) given is live says = ap (option_map entry_of_pair) ((says (record { hash = hash; key = k; value = value; serial = serial })).0 is)
of-entry word hash k serial None given is live says = absurd (true≢false (sym live))

pub gives-pair : (mask : ℕ) (ws read : List ℕ) (fill : ℕ) (last : Option ℕ) (place : ℕ) (given : Option Pair) → SameMarks mask ws read → Seeks mask ws fill last (Some place) → SaysPair mask read place given → GivesPair mask read fill last given
gives-pair mask ws read fill last place given same seeks says way texts used table filled =
    let s = seeks read same way texts used table filled in
    let any : UsedEntry = record { key = key.Int (pos 0); serial = 0; stored = None } in
    let e = slice_index_or used place any in
    let is = s.1 any in
    let live = found-passes (λ entry. is_after last entry.serial) is_live used e is in
    is ∙ sym (of-entry (entry_word mask read place) (hash_of texts e.key) e.key e.serial e.stored given (table.entries place any s.0) live says)

pub gives-none : (mask : ℕ) (ws read : List ℕ) (fill : ℕ) (last : Option ℕ) → SameMarks mask ws read → Seeks mask ws fill last None → GivesPair mask read fill last None
gives-none mask ws read fill last same seeks way texts used table filled = seeks read same way texts used table filled
