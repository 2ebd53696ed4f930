-- Each word of a table is one field's, and the sizes by class are those by the last slot.
use Rattle.std.proofs.Common.{◌≡◌, ℕ, ◌+◌, ◌-◌, ◌/◌, ◌%◌, ◌<◌, ◌≤◌, refl, ap, ◌∙◌, inl, inr, arith}
use Rattle.std.proofs.lemmas.Bool.{cases_lt}
use Rattle.ft_model.specs.Classes.{IsClass, dict_entries, set_entries, list_items}
use Rattle.ft_layout.specs.Sizes.{table_size}
use Rattle.ft_layout.specs.Tables.{dict_room, set_room, table_length, entry_at}
use Rattle.ft_layout.specs.Fields.{Field, IsField, field_at, ItemField, IsItemField, item_field_at}
use Rattle.ft_layout.specs.Fields.Field.{Header, Index, Entry}
use Rattle.ft_layout.specs.Fields.ItemField.{ItemHeader, Item}
use Rattle.ft_layout.specs.Containers.{class_mask}
use Rattle.ft_layout.proofs.Powers.{slots_range}

module _ (mask : ℕ) where
  same_entry : (p x q y : ℕ) → x < 8 → y < 8 → entry_at mask p x ≡ entry_at mask q y → Entry p x ≡ Entry q y
  same_entry p x q y low less e =
      let place : p ≡ q = omega arith in
      let word : x ≡ y = omega arith in
      ap (λ (n : ℕ). Entry n x) place ∙ ap (Entry q) word

  pub one_field : (a b : Field) → IsField mask a → IsField mask b → field_at mask a ≡ field_at mask b → a ≡ b
  one_field (Header m) (Header n) f g e = ap Header e
  one_field (Index s) (Index t) f g e = let same : s ≡ t = omega arith in ap Index same
  one_field (Entry p x) (Entry q y) f g e = same_entry p x q y f.1 g.1 e
  one_field (Header m) (Index t) f g e = absurd (omega arith)
  one_field (Header m) (Entry q y) f g e = absurd (omega arith)
  one_field (Index s) (Header n) f g e = absurd (omega arith)
  one_field (Index s) (Entry q y) f g e = absurd (omega arith)
  one_field (Entry p x) (Header n) f g e = absurd (omega arith)
  one_field (Entry p x) (Index t) f g e = absurd (omega arith)

  pub some_field : (word : ℕ) → word < table_length mask → (field : Field) × IsField mask field × (field_at mask field ≡ word)
  some_field word low =
      elim (cases_lt word 2) [
        | inl header ↦ (Header word, header, refl)
        | inr a ↦ elim (cases_lt word (mask + 3)) [
          | inl index ↦ (Index (word - 2), omega arith, omega arith)
          | inr b ↦ (Entry ((word - (mask + 3)) / 8) ((word - (mask + 3)) % 8), (omega arith, omega arith), omega arith)
        ]
      ]

  pub field_within : (field : Field) → IsField mask field → field_at mask field < table_length mask
  field_within (Header n) f = omega arith
  field_within (Index s) f = omega arith
  field_within (Entry p x) f = let a = f.0 in let b = f.1 in omega arith

  pub one_item_field : (a b : ItemField) → IsItemField mask a → IsItemField mask b → item_field_at a ≡ item_field_at b → a ≡ b
  one_item_field (ItemHeader m) (ItemHeader n) f g e = ap ItemHeader e
  one_item_field (Item p x) (Item q y) f g e =
      let a = f.1 in
      let b = g.1 in
      let place : p ≡ q = omega arith in
      let word : x ≡ y = omega arith in
      ap (λ (n : ℕ). Item n x) place ∙ ap (Item q) word
  one_item_field (ItemHeader m) (Item q y) f g e = absurd (omega arith)
  one_item_field (Item p x) (ItemHeader n) f g e = absurd (omega arith)

  pub item_field_within : 7 ≤ mask → (field : ItemField) → IsItemField mask field → item_field_at field < table_length mask
  item_field_within least (ItemHeader n) f = omega arith
  item_field_within least (Item p x) f = let a = f.0 in let b = f.1 in omega arith

  pub set_fits : set_room mask ≤ dict_room mask
  set_fits = omega arith

pub sizes_of_class : (class : ℕ) → IsClass class → (dict_room (class_mask class) ≡ dict_entries class) × (set_room (class_mask class) ≡ set_entries class) × (class_mask class + 1 ≡ list_items class) × (table_length (class_mask class) ≡ table_size class)
sizes_of_class class is = let r = slots_range class is in (omega arith, omega arith, omega arith, omega arith)
