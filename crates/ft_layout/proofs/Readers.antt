-- Words of an entry or an item that were taken one at a time say what the entry or item of these words says.
use Rattle.std.proofs.Common.{◌≡◌, ◌↔◌, ℕ, zero, suc, ◌+◌, ◌<◌, ◌≤◌, List, [], ◌∷◌, Option, Some, refl, sym, arith}
use Rattle.std.specs.Prelude.{All, slice_index}
use Rattle.ft_layout.specs.declared.slot.Slot.{Slot}
use Rattle.ft_layout.specs.declared.slot.Stored.{Stored}
use Rattle.ft_layout.specs.Words.{IsEntry, IsItem}
use Rattle.ft_layout.specs.TakenWords.{TakenWord, ShowsWords, entry_addresses, item_addresses}
use Rattle.ft_layout.proofs.TableLaws.{entry_moves}

abbrev took : ℕ → ℕ → TakenWord
took at word = record { at = at; word = word }

module _ {S : Type 0} (gave : S → ℕ → ℕ → S → Type 0) (start : ℕ) where
  module _ (hash kind payload value_kind value serial : ℕ) where
    abbrev words : List ℕ
    words = 0 ∷ hash ∷ kind ∷ payload ∷ value_kind ∷ value ∷ serial ∷ 0 ∷ []

    abbrev taken : List TakenWord
    taken = took (start + 6) serial ∷ took (start + 5) value ∷ took (start + 4) value_kind ∷ took (start + 3) payload ∷ took (start + 2) kind ∷ took (start + 1) hash ∷ []

    same_words : (word : ℕ → ℕ) → All (λ t. word t.at ≡ t.word) taken → (w : ℕ) → 1 ≤ w → w < 7 → word (start + w) ≡ slice_index words w
    same_words word all zero some few = absurd (omega arith)
    same_words word all (suc zero) some few = all 5 (took 0 0) (omega arith)
    same_words word all (suc (suc zero)) some few = all 4 (took 0 0) (omega arith)
    same_words word all (suc (suc (suc zero))) some few = all 3 (took 0 0) (omega arith)
    same_words word all (suc (suc (suc (suc zero)))) some few = all 2 (took 0 0) (omega arith)
    same_words word all (suc (suc (suc (suc (suc zero))))) some few = all 1 (took 0 0) (omega arith)
    same_words word all (suc (suc (suc (suc (suc (suc zero)))))) some few = all 0 (took 0 0) (omega arith)
    same_words word all (suc (suc (suc (suc (suc (suc (suc w))))))) some few = absurd (omega arith)

    pub entry_shown : (a b c d e f g : S) → gave a (start + 1) hash b → gave b (start + 2) kind c → gave c (start + 3) payload d → gave d (start + 4) value_kind e → gave e (start + 5) value f → gave f (start + 6) serial g
        → (result : Option Slot) → ((slot : Slot) → IsEntry (slice_index words) slot ↔ (result ≡ Some slot))
        → ShowsWords gave a g (entry_addresses start) (λ word. (slot : Slot) → IsEntry (λ i. word (start + i)) slot ↔ (result ≡ Some slot))
    entry_shown a b c d e f g first second third fourth fifth sixth result says = record {
      taken = taken;
      takes = (f, (e, (d, (c, (b, (a, refl, first), second), third), fourth), fifth), sixth);
      order = refl;
      shown = λ word all slot.
          let same = same_words word all in (
            λ is. (says slot).0 (entry_moves (λ i. word (start + i)) (slice_index words) same slot is),
            λ is. entry_moves (slice_index words) (λ i. word (start + i)) (λ w some few. sym (same w some few)) slot ((says slot).1 is),
          );
    }

  module _ (kind payload : ℕ) where
    pub item_shown : (a b c : S) → gave a (start + 1) kind b → gave b (start + 2) payload c
        → (result : Option Stored) → ((stored : Stored) → IsItem (slice_index (0 ∷ kind ∷ payload ∷ 0 ∷ [])) stored ↔ (result ≡ Some stored))
        → ShowsWords gave a c (item_addresses start) (λ word. (stored : Stored) → IsItem (λ i. word (start + i)) stored ↔ (result ≡ Some stored))
    item_shown a b c first second result says = record {
      taken = took (start + 2) payload ∷ took (start + 1) kind ∷ [];
      takes = (b, (a, refl, first), second);
      order = refl;
      shown = λ word all stored.
          let one : word (start + 1) ≡ kind = all 1 (took 0 0) (omega arith) in
          let two : word (start + 2) ≡ payload = all 0 (took 0 0) (omega arith) in
          rw (one, two) (says stored);
    }
