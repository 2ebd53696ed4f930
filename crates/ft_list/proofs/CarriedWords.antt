-- The words of a value that is put into an item, while the items after it are carried on.
use Rattle.std.proofs.Common.{◌≡◌, ◌≢◌, ℕ, zero, suc, ◌+◌, ◌<◌, ◌≤◌, Bool, true, false, true≢false, List, length, sym, ap, ◌∙◌, arith, inl, inr}
use Rattle.std.proofs.lemmas.Bool.{cases_eq, cases_lt}
use Rattle.std.specs.List.{insert}
use Rattle.ft_model.specs.declared.data.Value.{Value}
use Rattle.ft_layout.specs.declared.slot.Stored.{Stored}
use Rattle.ft_layout.specs.declared.slot.Stored.TheVariants.{Boxed, Empty, Plain}
use Rattle.ft_trace.specs.declared.View.{View}
use Rattle.ft_trace.specs.Holds.{held_unboxed}
use Rattle.ft_trace.specs.Pictures.{item_field}
use Rattle.ft_bank.specs.BoxSteps.{kind_read, payload_read}
use Rattle.ft_list.specs.HeldValues.{HasWordsFrom}
use Rattle.ft_list.specs.ListItemWrites.{stored_item}
use Rattle.ft_list.specs.Internal.Carrying.{CarriesValue, HasWordsBefore, KeepsItemValues, KeepsOtherItems}
use Rattle.ft_list.proofs.ItemWordsPut.{insert_past, stored_none}

abbrev is_empty : Stored → Bool
is_empty Empty = true
is_empty (Plain value) = false
is_empty (Boxed b) = false

-- nothing is stored past the items of a list
pub none_there : (values : List Value) (p : ℕ) (value : Value) → length values ≤ p → stored_item values p ≢ Plain value
none_there values p value past e = true≢false (ap is_empty (sym (stored_none values p past) ∙ e))

module _ (o : ℕ) (values : List Value) (place : ℕ) (value : Value) (given : ℕ × ℕ) where
  pub words_next : (at : ℕ) (carried next : ℕ × ℕ) (x z : View) → place ≤ at → HasWordsBefore o values place at value given carried x → CarriesValue o at carried next x z → KeepsOtherItems o at x z
      → (((p : ℕ) → place ≤ p → p < at → stored_item values p ≡ Plain value) → kind_read x carried.0 carried.1 ≡ item_field (held_unboxed o x).table at 1 → payload_read x carried.0 carried.1 ≡ item_field (held_unboxed o x).table at 2 → stored_item values at ≡ Plain value)
      → HasWordsBefore o values place (at + 1) value given next z
  words_next at carried next x z from (inl b) (inl c) others alone = inr ((at, from, b.2, c.0 ∙ b.0, c.1 ∙ b.1), omega arith)
  words_next at carried next x z from (inl b) (inr c) others alone =
      inl (
        c.0 ∙ b.0,
        c.1 ∙ b.1,
        λ p up low. elim (cases_eq p at) [ inl e ↦ ap (stored_item values) e ∙ alone b.2 c.2 c.3 | inr ne ↦ b.2 p up (omega (arith, low, ne)) ],
      )
  words_next at carried next x z from (inr b) c others alone =
      let low = b.1 in
      let ne : b.0.0 ≢ at = λ e. absurd (omega (arith, e, low)) in
      inr ((b.0.0, b.0.1, b.0.2, others b.0.0 1 ne (omega arith) (omega arith) ∙ b.0.3, others b.0.0 2 ne (omega arith) (omega arith) ∙ b.0.4), omega (arith, low))

  -- past the items of the list
  pub words_end : (at : ℕ) (carried : ℕ × ℕ) (w : View) → place ≤ length values → length values < at → HasWordsBefore o values place at value given carried w → HasWordsFrom o values place value given.0 given.1 w
  words_end at carried w low past (inl b) = absurd (none_there values (length values) value (omega arith) (b.2 (length values) low past))
  words_end at carried w low past (inr b) = b.0

-- steps that leave the values of the items
pub words_kept : (o : ℕ) (values : List Value) (place : ℕ) (value : Value) (kind payload : ℕ) (v w : View) → KeepsItemValues o v w → HasWordsFrom o values place value kind payload v → HasWordsFrom o values place value kind payload w
words_kept o values place value kind payload v w keeps h =
    (h.0, h.1, h.2, keeps h.0 1 (omega arith) (omega arith) ∙ h.3, keeps h.0 2 (omega arith) (omega arith) ∙ h.4)

-- the item that has them is one of the list's, or the one after the last
pub words_low : (o : ℕ) (values : List Value) (place : ℕ) (value : Value) (kind payload : ℕ) (w : View) → place ≤ length values → (h : HasWordsFrom o values place value kind payload w) → h.0 ≤ length values
words_low o values place value kind payload w low h = elim (cases_lt (length values) h.0) [
  | inl less ↦ absurd (none_there values (length values) value (omega arith) (h.2 (length values) low less))
  | inr more ↦ more
]

-- past the place of an insertion, after items that store the value, the list is to store it too
pub carried_same : (values : List Value) (place at : ℕ) (value : Value) → place ≤ length values → place < at → ((p : ℕ) → place ≤ p → p < at → stored_item values p ≡ Plain value) → stored_item (insert values place value) at ≡ Plain value
carried_same values place zero value low up same = absurd (omega (arith, up))
carried_same values place (suc q) value low up same =
    let n : q + 1 ≡ suc q = omega arith in
    ap (stored_item (insert values place value)) (sym n) ∙ (sym (insert_past values place value q low (omega (arith, up))) ∙ same q (omega (arith, up)) (omega arith))
