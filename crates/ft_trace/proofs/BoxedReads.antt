-- What was read in a box that an entry or item names, while the entry or item keeps its version, stands there all the while.
use Rattle.std.proofs.Common.{◌≡◌, ◌⊎◌, ℕ, suc, ◌<◌, ◌%◌, List, ◌++◌, length, refl, sym, ap, ◌∙◌, subst, arith}
use Rattle.std.specs.Prelude.{slice_index}
use Rattle.ft_model.specs.declared.script.Kind.{Kind}
use Rattle.ft_model.specs.declared.script.Kind.TheVariants as kind
use Rattle.ft_trace.specs.declared.Shape.{Shape}
use Rattle.ft_trace.specs.Addresses.{box_word, container_count, class_of, slots}
use Rattle.ft_trace.specs.Ages.{age}
use Rattle.ft_trace.specs.ContainerStates.{kind_in}
use Rattle.ft_trace.specs.Pictures.{entry_offset, item_offset}
use Rattle.ft_trace.specs.Kinds.{rows, version_at, IsKeyed, IsItems}
use Rattle.ft_trace.specs.Boxes.{value_at}
use Rattle.ft_trace.specs.Unboxed.{unboxed_kind, unboxed_payload, unboxed_rows}
use Rattle.ft_trace.specs.Traces.{Event, word, Valid}
use Rattle.ft_trace.proofs.Contents.{tab}
use Rattle.ft_trace.proofs.TablePlaces.{root}
use Rattle.ft_trace.proofs.Spots.{Under}
use Rattle.ft_trace.proofs.ReadTables.{rows_at}
use Rattle.ft_trace.proofs.QuietEntries.{quiet_entries_keep_boxes}

-- from one moment to a later one, at which the entry or item has the same version
pub box_quiet : (k : Shape) (older now : List Event) → Valid k now → Under older now → (o : ℕ) → o < container_count k → (t p i b : ℕ) → root k older o ≡ suc t → age older t ≡ age now t → p < rows (kind_in k.starts o) (class_of t)
    → slice_index (tab k older t) (version_at (kind_in k.starts o) (class_of t) p) % 2 ≡ 0
    → slice_index (tab k now t) (version_at (kind_in k.starts o) (class_of t) p) ≡ slice_index (tab k older t) (version_at (kind_in k.starts o) (class_of t) p)
    → slice_index (tab k older t) (value_at (kind_in k.starts o) (class_of t) p) ≡ 4
    → slice_index (tab k older t) (suc (value_at (kind_in k.starts o) (class_of t) p)) ≡ b
    → (i ≡ 1) ⊎ (i ≡ 2) → word k now (box_word b i) ≡ word k older (box_word b i)
box_quiet k older now valid u o low t p i b names aged less even same four is which =
    let V : ℕ = version_at (kind_in k.starts o) (class_of t) p in
    let q =
    quiet_entries_keep_boxes k u.newer older (subst (Valid k) (sym u.is) valid) o low t p i names (ap (λ (l : List Event). age l t) u.is ∙ sym aged) less even
    (ap (λ (l : List Event). slice_index (tab k l t) V) u.is ∙ same) four which in
    subst (λ (l : List Event). word k l (box_word b i) ≡ word k older (box_word b i)) u.is
    (subst (λ (z : ℕ). word k (u.newer ++ older) (box_word z i) ≡ word k older (box_word z i)) is q)

-- where the words of an entry lie, and of an item
pub keyed_places : (kind : Kind) → IsKeyed kind → (c p : ℕ) → (version_at kind c p ≡ entry_offset (slots c) p 0) × (value_at kind c p ≡ entry_offset (slots c) p 4) × (suc (value_at kind c p) ≡ entry_offset (slots c) p 5)
keyed_places kind.Dict is c p = (refl, refl, omega arith)
keyed_places kind.Set is c p = (refl, refl, omega arith)
keyed_places kind.List is c p = absurd is
keyed_places (kind.Deque bound) is c p = absurd is

pub items_places : (kind : Kind) → IsItems kind → (c p : ℕ) → (version_at kind c p ≡ item_offset p 0) × (value_at kind c p ≡ item_offset p 1) × (suc (value_at kind c p) ≡ item_offset p 2) × (rows kind c ≡ slots c)
items_places kind.List is c p = (refl, refl, omega arith, refl)
items_places kind.Dict is c p = absurd is
items_places kind.Set is c p = absurd is
items_places (kind.Deque bound) is c p = absurd is

-- what the two words of a value read, at their places
pub value_read : (box : ℕ → ℕ → ℕ) (kind : Kind) (c m p : ℕ) (table : List ℕ) (place next : ℕ) → value_at kind c p ≡ place → suc (value_at kind c p) ≡ next → p < m → suc (value_at kind c p) < length table
    → (slice_index (unboxed_rows box kind c m table) place ≡ unboxed_kind box (slice_index table place) (slice_index table next)) × (slice_index (unboxed_rows box kind c m table) next ≡ unboxed_payload box (slice_index table place) (slice_index table next))
value_read box kind c m p table place next e f less long =
    subst (λ (z : ℕ × ℕ). (slice_index (unboxed_rows box kind c m table) z.0 ≡ unboxed_kind box (slice_index table z.0) (slice_index table z.1)) × (slice_index (unboxed_rows box kind c m table) z.1 ≡ unboxed_payload box (slice_index table z.0) (slice_index table z.1)))
    (λ d. (e d, f d)) (rows_at box kind c m p table less long)
