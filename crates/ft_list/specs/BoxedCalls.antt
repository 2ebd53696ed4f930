-- Calls that put a value in a list which belongs in a box: the pass that calls makes the box.
use Rattle.std.specs.Prelude.{◌≡◌, ◌≢◌, ◌⊎◌, ℕ, ℤ, ◌+◌, nat_lt, false, length, Some, None}
use Rattle.ft_model.specs.declared.call.Call.{Call}
use Rattle.ft_model.specs.declared.call.Call.TheVariants as call
use Rattle.ft_model.specs.declared.call.ListCall.TheVariants as list
use Rattle.ft_model.specs.declared.data.Value.{Value}
use Rattle.ft_model.specs.declared.reply.Reply.{Reply}
use Rattle.ft_model.specs.declared.reply.Reply.TheVariants as reply
use Rattle.ft_model.specs.declared.reply.Raise.TheVariants as raise
use Rattle.ft_model.specs.Classes.{most_items}
use Rattle.ft_model.specs.Lists.{index_in}
use Rattle.ft_layout.specs.declared.slot.Ref.{Ref}
use Rattle.ft_layout.specs.declared.slot.Stored.TheVariants.{Plain}
use Rattle.ft_trace.specs.declared.Shape.{Shape}
use Rattle.ft_trace.specs.declared.View.{View}
use Rattle.ft_bank.specs.Whole.{OnlyBoxed}
use Rattle.ft_section.specs.declared.answers.Stamp.{Stamp}
use Rattle.ft_search.specs.MadeCalls.{MadeAs}
use Rattle.ft_table_calls.specs.declared.adding.Added.{Added}
use Rattle.ft_table_calls.specs.declared.adding.Added.TheVariants as added
use Rattle.ft_table_calls.specs.Adding.{AnsweredFull}
use Rattle.ft_list.specs.HeldValues.{AddsHeldItem, MadeHeld, NamesBoxAtPlace}
use Rattle.ft_list.specs.ListGrowth.{AddsItems}
use Rattle.ft_list.specs.ListItemWrites.{known_items, stored_item}

-- What a call that adds one item to the list o comes to under the lock, whose value belongs in a box. It would leave
-- too much; or the pass found its own heap full; or it made a box, and it came to what it comes to with one. (profile)
abbrev pub AddsBoxed : Shape → ℕ → ℕ → Value → Call → View → View → Added → Type 0
AddsBoxed k o place value called v w (added.Over stamp) = AddsItems k o called 1 v w (added.Over stamp)
AddsBoxed k o place value called v w (added.NoPlace stamp) =
    (nat_lt most_items (length (known_items o v) + 1) ≡ false)
    × AnsweredFull called (reply.Raised raise.Heap) stamp v w
AddsBoxed k o place value called v w what =
    (nat_lt most_items (length (known_items o v) + 1) ≡ false)
    × ((u : View) × OnlyBoxed v u × ((b : Ref) × AddsHeldItem k o place value b called u w what))

-- What a call comes to under the lock that has the item at this place store this value, which belongs in a box. The
-- pass found its own heap full; or it made a box, and the call was made with it: the item names a box then, unless it
-- had an equal value already. (profile)
abbrev pub SetsBoxedAt : Shape → ℕ → ℕ → Value → Call → Reply → Stamp → View → View → Type 0
SetsBoxedAt k o place value called said stamp v w =
    AnsweredFull called said stamp v w
    ⊎ ((u : View) × OnlyBoxed v u × MadeHeld k called said stamp u w
    × (stored_item (known_items o v) place ≢ Plain value → (b : Ref) × NamesBoxAtPlace o place b w))

-- What `l[i] = v` comes to under the lock, where v belongs in a box. An index that names no item raises, as where the
-- value doesn't belong in one; else it comes to that. (profile)
abbrev pub SetsBoxed : Shape → ℕ → ℤ → Value → Reply → Stamp → View → View → Type 0
SetsBoxed k o index value said stamp v w =
    ((index_in (length (known_items o v)) index ≡ None)
    × MadeAs (call.List o (list.Set index value)) said stamp v w)
    ⊎ ((place : ℕ) × (index_in (length (known_items o v)) index ≡ Some place)
    × SetsBoxedAt k o place value (call.List o (list.Set index value)) said stamp v w)
