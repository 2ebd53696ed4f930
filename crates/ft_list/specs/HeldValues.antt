-- Calls that put a value in a list which stands in a box, for a pass that holds the box's one reference.
use Rattle.std.specs.Prelude.{◌≡◌, ◌⊎◌, ℕ, ◌+◌, ◌<◌, ◌≤◌, nat_lt, Bool, true, false, List, length, Option}
use Rattle.ft_model.specs.declared.call.Call.{Call}
use Rattle.ft_model.specs.declared.data.Value.{Value}
use Rattle.ft_model.specs.declared.reply.Reply.{Reply}
use Rattle.ft_model.specs.declared.reply.Reply.TheVariants as reply
use Rattle.ft_model.specs.Answers.{is_write}
use Rattle.ft_model.specs.Classes.{most_items}
use Rattle.ft_model.specs.TableUses.{list_takes}
use Rattle.ft_layout.specs.declared.slot.Ref.{Ref}
use Rattle.ft_layout.specs.declared.slot.Stored.{Stored}
use Rattle.ft_layout.specs.declared.slot.Stored.TheVariants.{Boxed, Plain}
use Rattle.ft_layout.specs.Words.{stored_kind, stored_payload}
use Rattle.ft_trace.specs.declared.Shape.{Shape}
use Rattle.ft_trace.specs.declared.View.{View}
use Rattle.ft_trace.specs.Acts.{debt, stage}
use Rattle.ft_trace.specs.Boxes.{names_box, references_held, IsDoneWithBoxes}
use Rattle.ft_trace.specs.Holds.{held_words, known_state}
use Rattle.ft_trace.specs.BoxWords.{box_kind}
use Rattle.ft_trace.specs.Pictures.{item_field}
use Rattle.ft_bank.specs.Answered.{Answered}
use Rattle.ft_bank.specs.BoxSteps.{box_id}
use Rattle.ft_bank.specs.Whole.{OnlyBoxed, OnlyLoaded, Wrote}
use Rattle.ft_boxes.specs.References.{HoldsOneLess}
use Rattle.ft_section.specs.declared.answers.Stamp.{Stamp}
use Rattle.ft_search.specs.MadeCalls.{IsReplyTo}
use Rattle.ft_table_calls.specs.declared.adding.Added.{Added}
use Rattle.ft_table_calls.specs.declared.adding.Added.TheVariants as added
use Rattle.ft_table_calls.specs.Adding.{IsAddedWith, KeepsCursors}
use Rattle.ft_list.specs.ListItemWrites.{known_items, stored_item}

-- the item at this place of the list o names this box
abbrev pub NamesBoxAtPlace : ℕ → ℕ → Ref → View → Type 0
NamesBoxAtPlace o place b v =
    (item_field (held_words o v).table place 1 ≡ box_kind) × (item_field (held_words o v).table place 2 ≡ box_id b)

-- The value with this kind and this payload, as its words stand, is that of the item at this place of the list o. Where the
-- list, which had these values, has an equal one there already, and maybe at the next places, it is that of the first item
-- after them.
abbrev pub HasWordsFrom : ℕ → List Value → ℕ → Value → ℕ → ℕ → View → Type 0
HasWordsFrom o values place value kind payload w =
    (at : ℕ) × (place ≤ at) × ((p : ℕ) → place ≤ p → p < at → stored_item values p ≡ Plain value)
    × (item_field (held_words o w).table at 1 ≡ kind) × (item_field (held_words o w).table at 2 ≡ payload)

-- The items of the list o from this place on have the values that so many first ones of the list m had, as their words
-- stand: where such a value stands in a box, both lists name that box.
abbrev pub SharesItems : ℕ → ℕ → ℕ → ℕ → View → View → Type 0
SharesItems o first m count v w =
    (p : ℕ) → p < count
    → (item_field (held_words o w).table (first + p) 1 ≡ item_field (held_words m v).table p 1)
    × (item_field (held_words o w).table (first + p) 2 ≡ item_field (held_words m v).table p 2)

-- A pass with the locks of a call made it, as one whole write, or as an entry that isn't a write at a load of the counter;
-- before that it may have dropped a reference for a box. Its reply is the one of the plain containers, and it is a write
-- where the call is of a changing kind and the reply is no exception. No table changed hands, and the pass is done with
-- boxes. (profile)
pub record MadeHeld (k : Shape) (called : Call) (said : Reply) (stamp : Stamp) (v w : View) : Type 0 where
  pub before : View
  pub boxed : OnlyBoxed v before
  pub made : ((stamp.wrote ≡ true) × Wrote called said stamp.number before w)
      ⊎ ((stamp.wrote ≡ false) × Answered called said stamp.number before w)
  pub replied : IsReplyTo called said v
  pub wrote : stamp.wrote ≡ is_write called said
  pub hands : (t : ℕ) → stage t w.log ≡ stage t v.log
  pub debt : debt w.log ≡ debt v.log
  pub boxes : IsDoneWithBoxes k w.log

-- ---- calls that add an item

-- The pass holds the references that it held, but for one of the box that this names, if it names one.
abbrev pub GivesReference : Shape → Stored → View → View → Type 0
GivesReference k stored v w =
    (b : ℕ) → references_held k b w.log + names_box b (stored_kind stored) (stored_payload stored)
    ≡ references_held k b v.log

-- What a call comes to that adds what this stores: the same as where it stores a value in place, but that the reference
-- for a box is the container's once it was made. (profile)
abbrev pub IsAddedStoring : Shape → Option ℕ → Bool → Stored → Call → View → View → Added → Type 0
IsAddedStoring k takes over stored called v w what =
    IsAddedWith (GivesReference k stored) k takes over called reply.Done v w what

-- after loads, by the class of the table that the list o takes for its items and one more
abbrev pub AddsStored : Shape → ℕ → Stored → Call → View → View → Added → Type 0
AddsStored k o stored called v w what =
    (u : View) × OnlyLoaded v u
    × IsAddedStoring k (list_takes (known_state o v).table (length (known_items o v) + 1))
    (nat_lt most_items (length (known_items o v) + 1)) stored called u w what

-- Once the call was made the box is that of the item at this place, where the list had no equal value there; else the
-- reference for it was dropped after the call. (profile)
abbrev pub HasStored : ℕ → ℕ → Value → Ref → View → View → View → Added → Type 0
HasStored o place value b v u w (added.Made stamp) =
    (w ≡ u) × HasWordsFrom o (known_items o v) place value box_kind (box_id b) w
HasStored o place value b v u w (added.NoTable class stamp) = OnlyBoxed u w
HasStored o place value b v u w (added.Over stamp) = OnlyBoxed u w
HasStored o place value b v u w (added.NoPlace stamp) = ⊥
HasStored o place value b v u w (added.Moved c d) = OnlyBoxed u w

-- What a call that adds one item to the list o comes to under the lock, where the item's value stands in this box, for
-- which the pass has one reference less then: the item has it, or it was dropped. The pass has the cursors that it had,
-- and is done with boxes.
pub record AddsHeldItem
    (k : Shape) (o place : ℕ) (value : Value) (b : Ref) (called : Call) (v w : View) (what : Added) : Type 0 where
  pub done : View
  pub added : AddsStored k o (Boxed b) called v done what
  pub stored : HasStored o place value b v done w what
  pub references : HoldsOneLess b v w
  pub cursors : KeepsCursors v w
  pub boxes : IsDoneWithBoxes k w.log
