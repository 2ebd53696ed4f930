-- Elements of a set, as the words of its table say them: which keys it has, and what an entry is.
use Rattle.std.proofs.Common.{◌≡◌, ◌≢◌, ℕ, zero, suc, ◌<◌, Bool, true, false, true≢false, cond, List, [], ◌∷◌, map, length, Option, Some, None, refl, sym, ap, ◌∙◌, subst, arith}
use Rattle.std.specs.Prelude.{◌&&◌, ◌||◌, All, IsTrue, filter, is_some, not, slice_index_or, if◌then◌else◌}
use Rattle.ft_model.specs.declared.content.Content.{Content}
use Rattle.ft_model.specs.declared.content.Content.TheVariants as content
use Rattle.ft_model.specs.declared.content.Element.{Element}
use Rattle.ft_model.specs.declared.data.Key.{Key}
use Rattle.ft_model.specs.declared.data.Key.TheVariants as key
use Rattle.ft_model.specs.declared.script.Kind.TheVariants as kind
use Rattle.ft_model.specs.Contents.{IsSet, SetContent, has_element}
use Rattle.ft_model.specs.Keys.{same_key}
use Rattle.ft_model.specs.Worlds.{length_of, set_of}
use Rattle.ft_model.proofs.KeyLemmas.{same_key-true}
use Rattle.ft_layout.specs.declared.slot.Slot.TheVariants.{Never}
use Rattle.ft_layout.specs.declared.slot.Stored.{Stored}
use Rattle.ft_layout.specs.declared.slot.Stored.TheVariants.{Empty}
use Rattle.ft_layout.specs.Containers.{class_mask, used_element, IsSetWords}
use Rattle.ft_layout.specs.Tables.{UsedEntry, is_live, hash_of, slot_with, entry_word, IsSetTable}
use Rattle.ft_layout.specs.Words.{IsEntry, IsKey, key_kind, gone_kind}
use Rattle.ft_layout.proofs.ContentLaws.{stands_for_set}
use Rattle.ft_trace.specs.declared.Shape.{Shape}
use Rattle.ft_trace.specs.declared.View.{View}
use Rattle.ft_trace.specs.Addresses.{class_of}
use Rattle.ft_trace.specs.Holds.{held_unboxed, known_state}
use Rattle.ft_trace.specs.Traces.{IsReachable}
use Rattle.ft_trace.specs.Pictures.{Represents}
use Rattle.ft_trace.specs.ContainerStates.{kind_in}
use Rattle.ft_trace.proofs.Known.{class_known}
use Rattle.ft_bank.specs.declared.table.Table.{Table}
use Rattle.ft_bank.specs.TableNames.{table_id}
use Rattle.ft_new_keys.specs.KeyGrowth.{KnowsKeyed}
use Rattle.ft_new_keys.proofs.Placed.{none_used}
use Rattle.ft_merging.proofs.ThinningEnds.{is_set}
use Rattle.ft_merging.proofs.JoinedSame.{known_bare, no_length}
use Rattle.ft_parting.specs.Internal.Choosing.{apart_pair}

-- ---- a set

module _ (k : Shape) (t : ℕ) (v : View) (shape : v.shape ≡ k) (possible : ∥ IsReachable v ∥₁) (is : kind_in k.starts t ≡ kind.Set) where
  abbrev set : SetContent
  set = set_of (known_state t v).content

  pub set_stands : (own : Option Table) → KnowsKeyed k t own v → IsSetWords k.texts (held_unboxed t v).block (0 ∷ 0 ∷ (held_unboxed t v).table) (known_state t v).table.class (known_state t v).table.fill set
  set_stands own keyed =
      let here : Represents k.texts (held_unboxed t v) (record { content = content.Set set; table = (known_state t v).table }) = subst (λ (z : Content). Represents k.texts (held_unboxed t v) (record { content = z; table = (known_state t v).table })) (is_set k v t shape possible keyed.locked is) keyed.stands in
      here

  pub set_words : (table : Table) → KnowsKeyed k t (Some table) v → IsSetWords k.texts (held_unboxed t v).block (0 ∷ 0 ∷ (held_unboxed t v).table) (Some (class_of (table_id table))) (known_state t v).table.fill set
  set_words table keyed =
      subst (λ (z : Option ℕ). IsSetWords k.texts (held_unboxed t v).block (0 ∷ 0 ∷ (held_unboxed t v).table) z (known_state t v).table.fill set) (class_known k.texts (held_unboxed t v) (known_state t v) (table_id table) keyed.stands keyed.root) (set_stands (Some table) keyed)

  -- its table's entries
  pub set_says : (table : Table) → KnowsKeyed k t (Some table) v → (used : List UsedEntry) × IsSetTable k.texts (class_mask (class_of (table_id table))) used (0 ∷ 0 ∷ (held_unboxed t v).table) × (filter is_live used ≡ map used_element set.elements)
  set_says table keyed = let says = set_words table keyed in (says.used, says.table, says.entries.live)

  -- it is a set, also where it has no table
  pub set_rule : (own : Option Table) → KnowsKeyed k t own v → IsSet set.next set.elements
  set_rule own keyed = stands_for_set k.texts (held_unboxed t v).block (0 ∷ 0 ∷ (held_unboxed t v).table) (known_state t v).table.class (known_state t v).table.fill set (set_stands own keyed)

  -- where it has none it has no elements
  pub none_there : KnowsKeyed k t None v → set.elements ≡ []
  none_there keyed =
      no_length set.elements
      (sym (ap length_of (is_set k v t shape possible keyed.locked is)) ∙ known_bare k t v shape possible keyed.keyed keyed.locked keyed.stands keyed.root)

-- ---- which keys it has

or_both : (a b : Bool) → a ≡ false → b ≡ false → (a || b) ≡ false
or_both true b x y = absurd (true≢false x)
or_both false b x y = y

not_same : (a b : Key) → a ≢ b → same_key a b ≡ false
not_same a b ne = by (same_key a b) refl
  where
    by : (c : Bool) → same_key a b ≡ c → c ≡ false
    by true e = absurd (ne (same_key-true a b e))
    by false e = refl

pub missing : (elements : List Element) (key : Key) → All (λ (entry : UsedEntry). entry.key ≢ key) (map used_element elements) → has_element elements key ≡ false
missing [] key none = refl
missing (element ∷ elements) key none =
    or_both (same_key element.key key) (has_element elements key) (not_same element.key key (none 0 (used_element element) (omega arith)))
    (missing elements key (λ i d low. none (suc i) d (omega (arith, low))))

rest : (key : Key) (e : UsedEntry) (es : List UsedEntry) (b : Bool) → All (λ (x : UsedEntry). x.key ≢ key) (cond b (e ∷ es) es) → All (λ (x : UsedEntry). x.key ≢ key) es
rest key e es true h = λ i d low. h (suc i) d (omega (arith, low))
rest key e es false h = h

first : (key : Key) (e : UsedEntry) (es : List UsedEntry) (b : Bool) → IsTrue b → All (λ (x : UsedEntry). x.key ≢ key) (cond b (e ∷ es) es) → e.key ≢ key
first key e es true is h = h 0 e (omega arith)
first key e es false is h = absurd (true≢false (sym is))

nowhere : (key : Key) (used : List UsedEntry) → All (λ (x : UsedEntry). x.key ≢ key) (filter is_live used) → (place : ℕ) (any : UsedEntry) → place < length used → IsTrue (is_live (slice_index_or used place any)) → (slice_index_or used place any).key ≢ key
nowhere key [] none place any low live = absurd (omega (arith, low))
nowhere key (e ∷ es) none zero any low live = first key e (filter is_live es) (is_live e) live none
nowhere key (e ∷ es) none (suc place) any low live = nowhere key es (rest key e (filter is_live es) (is_live e) none) place any (omega (arith, low)) live

pub found_at : (elements : List Element) (used : List UsedEntry) (key : Key) → filter is_live used ≡ map used_element elements → (place : ℕ) (any : UsedEntry) → place < length used → (slice_index_or used place any).key ≡ key → IsTrue (is_live (slice_index_or used place any)) → has_element elements key ≡ true
found_at elements used key live place any low same there = by (has_element elements key) refl
  where
    by : (b : Bool) → has_element elements key ≡ b → b ≡ true
    by true e = refl
    by false e = absurd (nowhere key used (subst (All (λ (x : UsedEntry). x.key ≢ key)) (sym live) (none_used used_element elements key e)) place any low there same)

-- ---- an entry

kinds_apart : (a b : Key) → key_kind a ≢ gone_kind b
kinds_apart (key.Int x) (key.Int y) e = absurd (omega (arith, e))
kinds_apart (key.Int x) (key.Text y) e = absurd (omega (arith, e))
kinds_apart (key.Text x) (key.Int y) e = absurd (omega (arith, e))
kinds_apart (key.Text x) (key.Text y) e = absurd (omega (arith, e))

kind_some : (a : Key) → key_kind a ≢ 0
kind_some (key.Int x) e = absurd (omega (arith, e))
kind_some (key.Text x) e = absurd (omega (arith, e))

-- what the words of an entry that was used say
module _ (texts words : List ℕ) (mask place : ℕ) where
  abbrev word : ℕ → ℕ
  word = entry_word mask words place

  -- a live one has its key, its hash and its serial; one that was deleted has no key
  pub live_words : (entry : UsedEntry) (stored : Option Stored) → entry.stored ≡ stored → IsEntry word (slot_with (hash_of texts entry.key) entry.key entry.serial stored) → IsTrue (is_some stored) → IsKey (word 2) (word 3) entry.key × (word 1 ≡ hash_of texts entry.key) × (word 6 ≡ entry.serial)
  live_words entry (Some x) e is live = (is.key, is.hash, is.serial)
  live_words entry None e is live = absurd (true≢false (sym live))

  pub gone_words : (entry : UsedEntry) (stored : Option Stored) → IsEntry word (slot_with (hash_of texts entry.key) entry.key entry.serial stored) → (a : Key) → IsKey (word 2) (word 3) a → IsTrue (is_some stored)
  gone_words entry (Some x) is a stated = refl
  gone_words entry None is a stated = absurd (kinds_apart a entry.key (sym stated.kind_is ∙ is.key_is.kind_is))

  pub never_words : IsEntry word Never → (a : Key) → IsKey (word 2) (word 3) a → ⊥
  never_words is a stated = kind_some a (sym stated.kind_is ∙ is.kind)

-- ---- the pair that goes to a fresh table

apart_some : (texts : List ℕ) (others : List Element) (entry : UsedEntry) (live found : Bool) → is_live entry ≡ live → has_element others entry.key ≡ found → apart_pair texts others entry ≡ (if live && not found then Some (record { hash = hash_of texts entry.key; key = entry.key; value = Empty; serial = entry.serial }) else None)
apart_some texts others entry live found is has = λ i. if is i && not (has i) then Some (record { hash = hash_of texts entry.key; key = entry.key; value = Empty; serial = entry.serial }) else None

pub apart_dead : (texts : List ℕ) (others : List Element) (entry : UsedEntry) → is_live entry ≡ false → apart_pair texts others entry ≡ None
apart_dead texts others entry dead = apart_some texts others entry false (has_element others entry.key) dead refl

pub apart_found : (texts : List ℕ) (others : List Element) (entry : UsedEntry) → has_element others entry.key ≡ true → apart_pair texts others entry ≡ None
apart_found texts others entry has = by (is_live entry) refl
  where
    by : (b : Bool) → is_live entry ≡ b → apart_pair texts others entry ≡ None
    by true e = apart_some texts others entry true true e has
    by false e = apart_some texts others entry false true e has

pub apart_here : (texts : List ℕ) (others : List Element) (entry : UsedEntry) → IsTrue (is_live entry) → has_element others entry.key ≡ false → apart_pair texts others entry ≡ Some (record { hash = hash_of texts entry.key; key = entry.key; value = Empty; serial = entry.serial })
apart_here texts others entry live has = apart_some texts others entry true false live has
