-- What single puts make of a table: a value, a deletion, a version, a goal.
use Rattle.std.proofs.Common.{◌≡◌, ◌≢◌, ℕ, ◌+◌, ◌*◌, ◌<◌, ◌≤◌, List, length, get_or, set, All, Some, sym, ap, ◌∙◌, subst, inl, inr, arith}
use Rattle.std.specs.Prelude.{◌⊎◌, IsTrue, slice_get, slice_index}
use Rattle.std.proofs.lemmas.List.{length-set, get_or-set_same, get_or-set_other}
use Rattle.ft_model.specs.declared.data.Key.{Key}
use Rattle.ft_model.specs.declared.data.Value.{Value}
use Rattle.ft_layout.specs.declared.slot.Stored.{Stored}
use Rattle.ft_layout.specs.declared.slot.Stored.TheVariants.{Empty, Plain}
use Rattle.ft_layout.specs.declared.slot.Slot.TheVariants.{Never}
use Rattle.ft_layout.specs.Words.{FitsStored, gone_kind, stored_kind, stored_payload, IsLive, IsEntry}
use Rattle.ft_layout.specs.Tables.{table_length, HasNoVersions, HasNoItemVersions, dict_room, index_at, entry_at, item_at, entry_word, item_word, UsedEntry, is_live, deleted, hash_of, slot_of, IsTable, IsListTable}
use Rattle.ft_layout.specs.WordChanges.{IsBlankTable, ChangesEntry, ChangesItem, SaysUsed, SaysStored, KeepsKey, with_item, SameEntries, SameItems, with_stored, with_deleted}
use Rattle.ft_layout.proofs.TableLaws.{entry_moves, meets_moves, changed_table}
use Rattle.ft_layout.proofs.ListTableLaws.{item_moves}
use Rattle.ft_layout.proofs.FollowLaws.{there}

-- ---- goals and versions

module _ (walk : ℕ → List ℕ) (room : ℕ) (texts : List ℕ) (mask : ℕ) (in_walk : (hash : ℕ) → All (λ s. s ≤ mask) (walk hash)) (used : List UsedEntry) (old new : List ℕ) (same : SameEntries mask old new) (table : IsTable walk room texts mask used old) where
  entry_same : (place w : ℕ) → 1 ≤ w → w < 7 → entry_word mask old place w ≡ entry_word mask new place w
  entry_same place w some few = sym (same.words place w some (omega (arith, few)))

  pub same_table : IsTable walk room texts mask used new
  same_table = record {
    size = same.size ∙ table.size;
    head = same.head ∙ table.head;
    spare = λ p low. same.words p 7 (omega arith) (omega arith) ∙ table.spare p low;
    fill = table.fill;
    entries = λ p any low. entry_moves (entry_word mask old p) (entry_word mask new p) (entry_same p) (slot_of texts (get_or used p any)) (table.entries p any low);
    unused = λ p past low. entry_moves (entry_word mask old p) (entry_word mask new p) (entry_same p) Never (table.unused p past low);
    hashes = λ p any low. same.words p 1 (omega arith) (omega arith) ∙ table.hashes p any low;
    distinct = table.distinct;
    rising = table.rising;
    names = λ s low. subst (λ (n : ℕ). n ≤ length used) (sym (same.index s low)) (table.names s low);
    once = λ s t low less named e. table.once s t low less (λ none. named (same.index s low ∙ none)) (sym (same.index s low) ∙ (e ∙ same.index t less));
    met = λ p any low. meets_moves mask old new (λ s small _. same.index s small) (walk (hash_of texts (get_or used p any).key)) p (in_walk (hash_of texts (get_or used p any).key)) (table.met p any low);
  }

pub same_list : (mask : ℕ) (values : List Value) (old new : List ℕ) → SameItems old new → IsListTable mask values old → IsListTable mask values new
same_list mask values old new same table = record {
  size = same.size ∙ table.size;
  head = same.head ∙ table.head;
  spare = λ p low. same.words p 3 (omega arith) (omega arith) ∙ table.spare p low;
  fill = table.fill;
  items = λ p any low. item_moves (item_word old p) (item_word new p) (λ w some few. same.words p w some (omega (arith, few))) (Plain (get_or values p any)) (table.items p any low);
  unused = λ p past low. item_moves (item_word old p) (item_word new p) (λ w some few. same.words p w some (omega (arith, few))) Empty (table.unused p past low);
}

module _ (words : List ℕ) (x : ℕ) where
  pub entry_version : (mask place : ℕ) → SameEntries mask words (set words (entry_at mask place 0) x)
  entry_version mask place = record {
    size = length-set words (entry_at mask place 0) x;
    head = get_or-set_other words (entry_at mask place 0) 0 x 0 (λ e. omega arith);
    index = λ s low. get_or-set_other words (entry_at mask place 0) (index_at s) x 0 (λ e. omega arith);
    words = λ p w some few. get_or-set_other words (entry_at mask place 0) (entry_at mask p w) x 0 (λ e. omega arith);
  }

  pub item_version : (place : ℕ) → SameItems words (set words (item_at place 0) x)
  item_version place = record {
    size = length-set words (item_at place 0) x;
    head = get_or-set_other words (item_at place 0) 0 x 0 (λ e. omega arith);
    words = λ p w some few. get_or-set_other words (item_at place 0) (item_at p w) x 0 (λ e. omega arith);
  }

  pub goal_of_entries : (mask : ℕ) → SameEntries mask words (set words 1 x)
  goal_of_entries mask = record {
    size = length-set words 1 x;
    head = get_or-set_other words 1 0 x 0 (λ e. omega arith);
    index = λ s low. get_or-set_other words 1 (index_at s) x 0 (λ e. omega arith);
    words = λ p w some few. get_or-set_other words 1 (entry_at mask p w) x 0 (λ e. omega arith);
  }

  pub goal_of_items : SameItems words (set words 1 x)
  goal_of_items = record {
    size = length-set words 1 x;
    head = get_or-set_other words 1 0 x 0 (λ e. omega arith);
    words = λ p w some few. get_or-set_other words 1 (item_at p w) x 0 (λ e. omega arith);
  }

-- ---- values and deletions

abbrev live_entry : Key → ℕ → Stored → UsedEntry
live_entry key serial stored = record { key = key; serial = serial; stored = Some stored }

outside : (mask place i : ℕ) → (i < entry_at mask place 0) ⊎ (entry_at mask place 8 ≤ i) → (w : ℕ) → w < 8 → i ≢ entry_at mask place w
outside mask place i (inl below) w few e = omega (arith, below, few, e)
outside mask place i (inr above) w few e = omega (arith, above, few, e)

module _ (walk : ℕ → List ℕ) (room : ℕ) (texts : List ℕ) (mask : ℕ) (in_walk : (hash : ℕ) → All (λ s. s ≤ mask) (walk hash)) (fits_room : room ≤ dict_room mask) (used : List UsedEntry) (words : List ℕ) (table : IsTable walk room texts mask used words)
    (place : ℕ) (key : Key) (serial : ℕ) (before : Stored) (at : slice_get used place ≡ Some (live_entry key serial before)) where
  low : place < length used
  low = (there used place (live_entry key serial before) at).0

  is : (any : UsedEntry) → get_or used place any ≡ live_entry key serial before
  is = (there used place (live_entry key serial before) at).1

  inside : place < room
  inside = let f = table.fill in omega (arith, low)

  wide : length words ≡ 8 * dict_room mask + mask + 3
  wide = table.size

  was : IsLive (entry_word mask words place) (record { hash = hash_of texts key; key = key; value = before; serial = serial })
  was = subst (λ (u : UsedEntry). IsEntry (entry_word mask words place) (slot_of texts u)) (is (live_entry key serial before)) (table.entries place (live_entry key serial before) low)

  spare_word : entry_word mask words place 7 ≡ 0
  spare_word = table.spare place inside

  module _ (after : Stored) (fits : FitsStored after) where
    abbrev news : List ℕ
    news = with_stored mask words place after

    abbrev half : List ℕ
    half = set words (entry_at mask place 4) (stored_kind after)

    else : (i : ℕ) → i ≢ entry_at mask place 4 → i ≢ entry_at mask place 5 → slice_index news i ≡ slice_index words i
    else i a b = get_or-set_other half (entry_at mask place 5) i (stored_payload after) 0 b ∙ get_or-set_other words (entry_at mask place 4) i (stored_kind after) 0 a

    kind : entry_word mask news place 4 ≡ stored_kind after
    kind = get_or-set_other half (entry_at mask place 5) (entry_at mask place 4) (stored_payload after) 0 (λ e. omega arith) ∙ get_or-set_same words (entry_at mask place 4) (stored_kind after) 0 (omega (arith, wide, inside, fits_room))

    payload : entry_word mask news place 5 ≡ stored_payload after
    payload = get_or-set_same half (entry_at mask place 5) (stored_payload after) 0 (omega (arith, wide, inside, fits_room, length-set words (entry_at mask place 4) (stored_kind after)))

    changes : ChangesEntry mask place words news
    changes = record {
      size = length-set half (entry_at mask place 5) (stored_payload after) ∙ length-set words (entry_at mask place 4) (stored_kind after);
      rest = λ i out. else i (outside mask place i out 4 (omega arith)) (outside mask place i out 5 (omega arith));
    }

    now : SaysUsed texts mask news place (live_entry key serial after)
    now = record {
      says = record {
        hash = else (entry_at mask place 1) (λ e. omega arith) (λ e. omega arith) ∙ was.hash;
        key = record {
          fits = was.key.fits;
          kind_is = else (entry_at mask place 2) (λ e. omega arith) (λ e. omega arith) ∙ was.key.kind_is;
          payload_is = else (entry_at mask place 3) (λ e. omega arith) (λ e. omega arith) ∙ was.key.payload_is;
        };
        value = record { fits = fits; kind_is = kind; payload_is = payload };
        serial = else (entry_at mask place 6) (λ e. omega arith) (λ e. omega arith) ∙ was.serial;
      };
      hash = else (entry_at mask place 1) (λ e. omega arith) (λ e. omega arith) ∙ was.hash;
      spare = else (entry_at mask place 7) (λ e. omega arith) (λ e. omega arith) ∙ spare_word;
    }

    stays : (any : UsedEntry) → KeepsKey (get_or used place any) (live_entry key serial after)
    stays any = record {
      key = sym (ap (λ (u : UsedEntry). u.key) (is any));
      serial = sym (ap (λ (u : UsedEntry). u.serial) (is any));
      live = λ yes. subst (λ (u : UsedEntry). IsTrue (is_live u)) (sym (is any)) yes;
    }

    pub value_put : IsTable walk room texts mask (set used place (live_entry key serial after)) news
    value_put = changed_table walk room texts mask in_walk used words news table place low (live_entry key serial after) changes stays now

  abbrev dead : UsedEntry
  dead = deleted (live_entry key serial before)

  abbrev gone_words : List ℕ
  gone_words = with_deleted mask words place key

  other : (i : ℕ) → i ≢ entry_at mask place 2 → slice_index gone_words i ≡ slice_index words i
  other i ne = get_or-set_other words (entry_at mask place 2) i (gone_kind key) 0 ne

  pub key_deleted : IsTable walk room texts mask (set used place dead) gone_words
  key_deleted =
      changed_table walk room texts mask in_walk used words gone_words table place low dead
      (record { size = length-set words (entry_at mask place 2) (gone_kind key); rest = λ i out. other i (outside mask place i out 2 (omega arith)) })
      (λ any. record { key = sym (ap (λ (u : UsedEntry). u.key) (is any)); serial = sym (ap (λ (u : UsedEntry). u.serial) (is any)); live = λ no. absurd cc })
      (record {
        says = record {
          key_is = record {
            fits = was.key.fits;
            kind_is = get_or-set_same words (entry_at mask place 2) (gone_kind key) 0 (omega (arith, wide, inside, fits_room));
            payload_is = other (entry_at mask place 3) (λ e. omega arith) ∙ was.key.payload_is;
          };
          left = before;
          value = record {
            fits = was.value.fits;
            kind_is = other (entry_at mask place 4) (λ e. omega arith) ∙ was.value.kind_is;
            payload_is = other (entry_at mask place 5) (λ e. omega arith) ∙ was.value.payload_is;
          };
          serial_is = other (entry_at mask place 6) (λ e. omega arith) ∙ was.serial;
        };
        hash = other (entry_at mask place 1) (λ e. omega arith) ∙ was.hash;
        spare = other (entry_at mask place 7) (λ e. omega arith) ∙ spare_word;
      })

-- ---- items

module _ (mask : ℕ) (wide : 7 ≤ mask) (values : List Value) (words : List ℕ) (table : IsListTable mask values words) (place : ℕ) (low : place ≤ mask) (stored : Stored) (fits : FitsStored stored) where
  abbrev half_item : List ℕ
  half_item = set words (item_at place 1) (stored_kind stored)

  other_word : (i : ℕ) → i ≢ item_at place 1 → i ≢ item_at place 2 → slice_index (with_item words place stored) i ≡ slice_index words i
  other_word i a b = get_or-set_other half_item (item_at place 2) i (stored_payload stored) 0 b ∙ get_or-set_other words (item_at place 1) i (stored_kind stored) 0 a

  outside_item : (i : ℕ) → (i < item_at place 0) ⊎ (item_at place 4 ≤ i) → (w : ℕ) → w < 4 → i ≢ item_at place w
  outside_item i (inl below) w few e = omega (arith, below, few, e)
  outside_item i (inr above) w few e = omega (arith, above, few, e)

  pub item_changes : ChangesItem place words (with_item words place stored)
  item_changes = record {
    size = length-set half_item (item_at place 2) (stored_payload stored) ∙ length-set words (item_at place 1) (stored_kind stored);
    rest = λ i out. other_word i (outside_item i out 1 (omega arith)) (outside_item i out 2 (omega arith));
  }

  pub item_says : SaysStored (with_item words place stored) place stored
  item_says =
      let long : length words ≡ table_length mask = table.size in
      record {
        says = record {
          fits = fits;
          kind_is = get_or-set_other half_item (item_at place 2) (item_at place 1) (stored_payload stored) 0 (λ e. omega arith) ∙ get_or-set_same words (item_at place 1) (stored_kind stored) 0 (omega (arith, long));
          payload_is = get_or-set_same half_item (item_at place 2) (stored_payload stored) 0 (omega (arith, long, length-set words (item_at place 1) (stored_kind stored)));
        };
        spare = other_word (item_at place 3) (λ e. omega arith) (λ e. omega arith) ∙ table.spare place low;
      }

-- ---- blank tables

pub blank_versions : (mask room : ℕ) (words : List ℕ) → IsBlankTable mask words → HasNoVersions room mask words × HasNoItemVersions mask words
blank_versions mask room words blank = (
  record { zeros = λ p low. blank.zeros (entry_at mask p 0) (inr (omega arith)) },
  record { zeros = λ p low. blank.zeros (item_at p 0) (inr (omega arith)) },
)
