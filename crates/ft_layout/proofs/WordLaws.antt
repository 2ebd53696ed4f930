-- Words say one thing at most of a key, of what is stored, of an entry.
use Rattle.std.proofs.Common.{◌≡◌, ℕ, ◌+◌, ◌*◌, ◌≤◌, Option, Some, None, refl, sym, ap, ◌∙◌, subst, arith}
use Rattle.std.specs.Prelude.{FitsSigned, ◌↔◌, ℤ, slice_index}
use Rattle.std.specs.Int.{w64, cast_unsigned, cast_signed}
use Rattle.std.proofs.lemmas.Int.{to_z-of_z}
use Rattle.ft_model.specs.declared.data.Sym.{Sym}
use Rattle.ft_model.specs.declared.data.Key.{Key}
use Rattle.ft_model.specs.declared.data.Key.TheVariants as key
use Rattle.ft_model.specs.declared.data.Value.{Value}
use Rattle.ft_model.specs.declared.data.Value.TheVariants as value
use Rattle.ft_layout.specs.declared.slot.Ref.{Ref}
use Rattle.ft_layout.specs.declared.slot.Stored.{Stored}
use Rattle.ft_layout.specs.declared.slot.Stored.TheVariants.{Empty, Plain, Boxed}
use Rattle.ft_layout.specs.declared.slot.Pair.{Pair}
use Rattle.ft_layout.specs.declared.slot.Slot.{Slot}
use Rattle.ft_layout.specs.declared.slot.Slot.TheVariants.{Never, Live, Gone}
use Rattle.ft_layout.specs.Words.{FitsKey, key_kind, gone_kind, key_payload, FitsStored, stored_kind, stored_payload, IsStored, IsLive, IsGone, IsEntry, IsItem, IsKey, IsGoneKey, IsText, FitsPair, entry_words, item_words}

-- two integers of 64 bits with one two's complement
same_integer : (a b : ℤ) → FitsSigned w64 a → FitsSigned w64 b → cast_unsigned w64 a ≡ cast_unsigned w64 b → a ≡ b
same_integer a b f g e = sym (to_z-of_z w64 a f) ∙ (ap (cast_signed w64) e ∙ to_z-of_z w64 b g)

same_sym : (s t : Sym) → s.0 ≡ t.0 → s ≡ t
same_sym s t e = ap (λ (n : ℕ). let r : Sym = record { 0 = n } in r) e

pub same_key : (a b : Key) → FitsKey a → FitsKey b → key_kind a ≡ key_kind b → key_payload a ≡ key_payload b → a ≡ b
same_key (key.Int x) (key.Int y) f g k p = ap key.Int (same_integer x y f g p)
same_key (key.Text s) (key.Text t) f g k p = ap key.Text (same_sym s t p)
same_key (key.Int x) (key.Text t) f g k p = absurd (omega arith)
same_key (key.Text s) (key.Int y) f g k p = absurd (omega arith)

pub gone_is : (a : Key) → gone_kind a ≡ key_kind a + 2
gone_is (key.Int x) = refl
gone_is (key.Text s) = refl

pub kind_range : (a : Key) → (1 ≤ key_kind a) × (key_kind a ≤ 2)
kind_range (key.Int x) = (omega arith, omega arith)
kind_range (key.Text s) = (omega arith, omega arith)

same_value : (a b : Value) → FitsStored (Plain a) → FitsStored (Plain b) → stored_kind (Plain a) ≡ stored_kind (Plain b) → stored_payload (Plain a) ≡ stored_payload (Plain b) → a ≡ b
same_value value.Nothing value.Nothing f g k p = refl
same_value (value.Int x) (value.Int y) f g k p = ap value.Int (same_integer x y f g p)
same_value (value.Text s) (value.Text t) f g k p = ap value.Text (same_sym s t p)
same_value value.Nothing (value.Int y) f g k p = absurd (omega arith)
same_value value.Nothing (value.Text t) f g k p = absurd (omega arith)
same_value (value.Int x) value.Nothing f g k p = absurd (omega arith)
same_value (value.Int x) (value.Text t) f g k p = absurd (omega arith)
same_value (value.Text s) value.Nothing f g k p = absurd (omega arith)
same_value (value.Text s) (value.Int y) f g k p = absurd (omega arith)

pub key_is_one : (kind payload : ℕ) (a b : Key) → IsKey kind payload a → IsKey kind payload b → a ≡ b
key_is_one kind payload a b f g = same_key a b f.fits g.fits (sym f.kind_is ∙ g.kind_is) (sym f.payload_is ∙ g.payload_is)

pub gone_key_is_one : (kind payload : ℕ) (a b : Key) → IsGoneKey kind payload a → IsGoneKey kind payload b → a ≡ b
gone_key_is_one kind payload a b f g =
    let kinds : key_kind a ≡ key_kind b = let x = gone_is a in let y = gone_is b in let h = f.kind_is in let i = g.kind_is in omega arith in
    same_key a b f.fits g.fits kinds (sym f.payload_is ∙ g.payload_is)

-- the kinds of a value
plain_range : (a : Value) → (1 ≤ stored_kind (Plain a)) × (stored_kind (Plain a) ≤ 3)
plain_range value.Nothing = (omega arith, omega arith)
plain_range (value.Int x) = (omega arith, omega arith)
plain_range (value.Text s) = (omega arith, omega arith)

same_box : (a b : Ref) → FitsStored (Boxed a) → FitsStored (Boxed b) → a.pass * 65536 + a.place ≡ b.pass * 65536 + b.place → a ≡ b
same_box a b f g e =
    let pass : a.pass ≡ b.pass = omega arith in
    let place : a.place ≡ b.place = omega arith in
    ap (λ (n : ℕ). let r : Ref = record { pass = n; place = a.place } in r) pass ∙ ap (λ (n : ℕ). let r : Ref = record { pass = b.pass; place = n } in r) place

pub same_stored : (a b : Stored) → FitsStored a → FitsStored b → stored_kind a ≡ stored_kind b → stored_payload a ≡ stored_payload b → a ≡ b
same_stored Empty Empty f g k p = refl
same_stored (Plain a) (Plain b) f g k p = ap Plain (same_value a b f g k p)
same_stored (Boxed a) (Boxed b) f g k p = ap Boxed (same_box a b f g p)
same_stored Empty (Plain b) f g k p = absurd (let r = plain_range b in omega arith)
same_stored Empty (Boxed b) f g k p = absurd (omega arith)
same_stored (Plain a) Empty f g k p = absurd (let r = plain_range a in omega arith)
same_stored (Plain a) (Boxed b) f g k p = absurd (let r = plain_range a in omega arith)
same_stored (Boxed a) Empty f g k p = absurd (omega arith)
same_stored (Boxed a) (Plain b) f g k p = absurd (let r = plain_range b in omega arith)

pub stored_is_one : (kind payload : ℕ) (a b : Stored) → IsStored kind payload a → IsStored kind payload b → a ≡ b
stored_is_one kind payload a b f g = same_stored a b f.fits g.fits (sym f.kind_is ∙ g.kind_is) (sym f.payload_is ∙ g.payload_is)

abbrev pair_with : ℕ → Key → Stored → ℕ → Pair
pair_with hash key value serial = record { hash = hash; key = key; value = value; serial = serial }

same_pair : (a b : Pair) → a.hash ≡ b.hash → a.key ≡ b.key → a.value ≡ b.value → a.serial ≡ b.serial → a ≡ b
same_pair a b h k v s =
    ap (λ (n : ℕ). pair_with n a.key a.value a.serial) h ∙ (ap (λ (x : Key). pair_with b.hash x a.value a.serial) k ∙ (ap (λ (x : Stored). pair_with b.hash b.key x a.serial) v ∙ ap (λ (n : ℕ). pair_with b.hash b.key b.value n) s))

module _ (word : ℕ → ℕ) where
  live_is_one : (a b : Pair) → IsLive word a → IsLive word b → a ≡ b
  live_is_one a b f g = same_pair a b (sym f.hash ∙ g.hash) (key_is_one (word 2) (word 3) a.key b.key f.key g.key) (stored_is_one (word 4) (word 5) a.value b.value f.value g.value) (sym f.serial ∙ g.serial)

  gone_is_one : (a b : Key) (m n : ℕ) → IsGone word a m → IsGone word b n → Gone a m ≡ Gone b n
  gone_is_one a b m n f g = ap (λ (k : Key). Gone k m) (gone_key_is_one (word 2) (word 3) a b f.key_is g.key_is) ∙ ap (λ (k : ℕ). Gone b k) (sym f.serial_is ∙ g.serial_is)

  -- the kinds of each slot
  pub live_kind : (a : Pair) → IsLive word a → (1 ≤ word 2) × (word 2 ≤ 2)
  live_kind a f = let r = kind_range a.key in let k = f.key.kind_is in (omega arith, omega arith)

  pub gone_kinds : (a : Key) (n : ℕ) → IsGone word a n → (3 ≤ word 2) × (word 2 ≤ 4)
  gone_kinds a n f = let r = kind_range a in let q = gone_is a in let k = f.key_is.kind_is in (omega arith, omega arith)

  -- words say one thing of an entry
  pub entry_is_one : (s t : Slot) → IsEntry word s → IsEntry word t → s ≡ t
  entry_is_one Never Never f g = refl
  entry_is_one (Live a) (Live b) f g = ap Live (live_is_one a b f g)
  entry_is_one (Gone a m) (Gone b n) f g = gone_is_one a b m n f g
  entry_is_one Never (Live b) f g = absurd (let r = live_kind b g in let k = f.kind in omega arith)
  entry_is_one Never (Gone b n) f g = absurd (let r = gone_kinds b n g in let k = f.kind in omega arith)
  entry_is_one (Live a) Never f g = absurd (let r = live_kind a f in let k = g.kind in omega arith)
  entry_is_one (Live a) (Gone b n) f g = absurd (let r = live_kind a f in let q = gone_kinds b n g in omega arith)
  entry_is_one (Gone a m) Never f g = absurd (let r = gone_kinds a m f in let k = g.kind in omega arith)
  entry_is_one (Gone a m) (Live b) f g = absurd (let r = live_kind b g in let q = gone_kinds a m f in omega arith)

  -- what is read is the one thing that the words say
  pub entry_read : (s : Slot) → IsEntry word s → (slot : Slot) → IsEntry word slot ↔ (Some s ≡ Some slot)
  entry_read s f slot = (λ g. ap Some (entry_is_one s slot f g), λ e. let same : s ≡ slot = cc in subst (IsEntry word) same f)

  pub entry_unread : (answer : Option Slot) → answer ≡ None → ((slot : Slot) → IsEntry word slot → ⊥) → (slot : Slot) → IsEntry word slot ↔ (answer ≡ Some slot)
  entry_unread answer is none slot = (λ g. absurd (none slot g), λ e. absurd cc)

pub stored_read : (kind payload : ℕ) (s : Stored) → IsStored kind payload s → (stored : Stored) → IsStored kind payload stored ↔ (Some s ≡ Some stored)
stored_read kind payload s f stored = (λ g. ap Some (stored_is_one kind payload s stored f g), λ e. let same : s ≡ stored = cc in subst (IsStored kind payload) same f)

pub stored_unread : (kind payload : ℕ) (answer : Option Stored) → answer ≡ None → ((stored : Stored) → IsStored kind payload stored → ⊥) → (stored : Stored) → IsStored kind payload stored ↔ (answer ≡ Some stored)
stored_unread kind payload answer is none stored = (λ g. absurd (none stored g), λ e. absurd cc)

-- what has the kind of a string is one
pub stored_is_text : (payload : ℕ) (stored : Stored) → {kind : ℕ} → IsStored kind payload stored → kind ≡ 3 → (s : Sym) × IsText payload s
stored_is_text payload Empty is k = absurd (let h = is.kind_is in omega arith)
stored_is_text payload (Plain value.Nothing) is k = absurd (let h = is.kind_is in omega arith)
stored_is_text payload (Plain (value.Int x)) is k = absurd (let h = is.kind_is in omega arith)
stored_is_text payload (Plain (value.Text s)) is k = (s, (is.fits, is.payload_is))
stored_is_text payload (Boxed r) is k = absurd (let h = is.kind_is in omega arith)

-- whatever the words say of an entry, something is stored in it, if nothing
pub entry_stores : (word : ℕ → ℕ) (slot : Slot) → IsEntry word slot → (stored : Stored) × IsStored (word 4) (word 5) stored
entry_stores word Never is = (Empty, is.value)
entry_stores word (Live pair) is = (pair.value, is.value)
entry_stores word (Gone k n) is = (is.left, is.value)

-- the words that a pair is written in say that pair
pub entry_written : (pair : Pair) → FitsPair pair → IsEntry (slice_index (entry_words pair)) (Live pair)
entry_written pair fits = record {
  hash = refl;
  key = record { fits = fits.0; kind_is = refl; payload_is = refl };
  value = record { fits = fits.1; kind_is = refl; payload_is = refl };
  serial = refl;
}

pub item_written : (stored : Stored) → FitsStored stored → IsItem (slice_index (item_words stored)) stored
item_written stored fits = record { fits = fits; kind_is = refl; payload_is = refl }

-- ---- what is read of a kind and a payload

pub key_read : (kind payload : ℕ) (k : Key) → IsKey kind payload k → (other : Key) → IsKey kind payload other ↔ (Some k ≡ Some other)
key_read kind payload k f other = (λ g. ap Some (key_is_one kind payload k other f g), λ e. let same : k ≡ other = cc in subst (IsKey kind payload) same f)

pub key_unread : (kind payload : ℕ) (answer : Option Key) → answer ≡ None → ((k : Key) → IsKey kind payload k → ⊥) → (other : Key) → IsKey kind payload other ↔ (answer ≡ Some other)
key_unread kind payload answer is none other = (λ g. absurd (none other g), λ e. absurd cc)

-- what has the kind of a string is one
pub key_is_text : (payload : ℕ) (k : Key) → {kind : ℕ} → IsKey kind payload k → kind ≡ 2 → (s : Sym) × IsText payload s
key_is_text payload (key.Int x) is k = absurd (let h = is.kind_is in omega arith)
key_is_text payload (key.Text s) is k = (s, (is.fits, is.payload_is))

-- the kind of a deleted key is that of the key and two more
pub key_from_gone : (kind other payload : ℕ) (k : Key) → kind ≡ other + 2 → IsGoneKey kind payload k → IsKey other payload k
key_from_gone kind other payload k more is = record { fits = is.fits; kind_is = let g = gone_is k in let i = is.kind_is in omega arith; payload_is = is.payload_is }

pub gone_from_key : (kind other payload : ℕ) (k : Key) → kind ≡ other + 2 → IsKey other payload k → IsGoneKey kind payload k
gone_from_key kind other payload k more is = record { fits = is.fits; kind_is = let g = gone_is k in let i = is.kind_is in omega arith; payload_is = is.payload_is }
