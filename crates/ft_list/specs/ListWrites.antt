-- What calls do to a list, and what a pass is to have that makes one.
use Rattle.std.specs.Prelude.{◌≡◌, ◌⊎◌, ℕ, ◌<◌, nat_lt, true, false, List, length, IfSome, Some, None, []}
use Rattle.ft_model.specs.declared.call.Call.{Call}
use Rattle.ft_model.specs.declared.call.Call.TheVariants as call
use Rattle.ft_model.specs.declared.call.ListCall.{ListCall}
use Rattle.ft_model.specs.declared.call.TableChange.TheVariants as change
use Rattle.ft_model.specs.declared.content.Content.{Content}
use Rattle.ft_model.specs.declared.content.Content.TheVariants as content
use Rattle.ft_model.specs.declared.data.Value.{Value}
use Rattle.ft_model.specs.declared.reply.Raise.TheVariants as raise
use Rattle.ft_model.specs.declared.reply.Reply.{Reply}
use Rattle.ft_model.specs.declared.reply.Reply.TheVariants as reply
use Rattle.ft_model.specs.declared.script.Kind.TheVariants as kind
use Rattle.ft_model.specs.Answers.{answer_list, puts, shows, is_raised}
use Rattle.ft_model.specs.Calls.{is_changing_list, other_list, cursor_of_list, list_change}
use Rattle.ft_model.specs.Classes.{most_items}
use Rattle.ft_model.specs.TableUses.{StoredWorld, table_at, takes_in, would_pass, after_stored}
use Rattle.ft_model.specs.Worlds.{no_hands, IsOfKind}
use Rattle.ft_trace.specs.declared.Shape.{Shape}
use Rattle.ft_trace.specs.declared.View.{View}
use Rattle.ft_trace.specs.Addresses.{container_count}
use Rattle.ft_trace.specs.Acts.{has_lock, is_writing, owes}
use Rattle.ft_trace.specs.FitCalls.{FitsListCall}
use Rattle.ft_trace.specs.BegunSections.{HasLocksOf}
use Rattle.ft_trace.specs.Boxes.{IsDoneWithBoxes, IsSettled}
use Rattle.ft_trace.specs.ContainerStates.{kind_in}
use Rattle.ft_trace.specs.Pictures.{Represents}
use Rattle.ft_trace.specs.Holds.{held_unboxed, known_state}
use Rattle.ft_bank.specs.Answered.{Answered}
use Rattle.ft_bank.specs.SameBoxes.{HoldsFew}
use Rattle.ft_bank.specs.Whole.{Wrote}
use Rattle.ft_bank.specs.WriteSteps.{MayHave}
use Rattle.ft_bank.specs.declared.bank.Bank.{Bank}
use Rattle.ft_bank.specs.declared.pass.Pass.{Pass}
use Rattle.ft_bank.specs.Passes.{shape_of}
use Rattle.ft_section.specs.declared.answers.Stamp.{Stamp}
use Rattle.ft_section.specs.declared.answers.Objects.TheVariants.{One}
use Rattle.ft_section.specs.Ready.{MayTry}

-- The pass may write the list o: it has its lock, and its words stand for what the pass knows of it; it writes no
-- container, has lowered no count of a class that it hasn't raised again, holds no reference for a box and makes none,
-- and has a call left. (profile)
pub record MayWriteList (k : Shape) (o : ℕ) (v : View) : Type 0 where
  pub container : o < container_count k
  pub kind : kind_in k.starts o ≡ kind.List
  pub locked : has_lock o v.log ≡ true
  pub even : (p : ℕ) → is_writing p v.log ≡ false
  pub stands : Represents k.texts (held_unboxed o v) (known_state o v)
  pub owes : owes v.log ≡ 0
  pub boxes : IsDoneWithBoxes k v.log
  pub left : 0 < v.left

-- Or it may hold few references for boxes, where what it has to do with its own boxes is settled. (profile)
pub record MayBeginList (k : Shape) (o : ℕ) (v : View) : Type 0 where
  pub container : o < container_count k
  pub kind : kind_in k.starts o ≡ kind.List
  pub locked : has_lock o v.log ≡ true
  pub even : (p : ℕ) → is_writing p v.log ≡ false
  pub stands : Represents k.texts (held_unboxed o v) (known_state o v)
  pub owes : owes v.log ≡ 0
  pub settled : IsSettled v.log
  pub few : HoldsFew v
  pub left : 0 < v.left

-- A call is a write of the list o: the plain containers reply so to it, where the list has these values, and it has
-- `news` then, whatever else the bank has that agrees with what the pass knows; the pass has the locks of the
-- containers that it names, and no container passes its greatest length. (Python manual, Mutable Sequence Types)
pub record IsListWrite (o : ℕ) (lc : ListCall) (said : Reply) (values news : List Value) (v : View) : Type 0 where
  pub changing : is_changing_list lc ≡ true
  pub raises : is_raised said ≡ false
  pub cursor : cursor_of_list lc ≡ None
  pub fits : FitsListCall lc
  pub locks : HasLocksOf (call.List o lc) v.log
  pub answered : (stored : StoredWorld) → MayHave v stored
      → answer_list stored.world no_hands o values lc ≡ puts stored.world no_hands o (content.List news) said
  pub other : (stored : StoredWorld) → MayHave v stored
      → IfSome (other_list lc) (λ p. IsOfKind stored.world kind.List p)
  pub caps : (stored : StoredWorld) → MayHave v stored → would_pass stored.world (call.List o lc) ≡ false

-- and it leaves the list's table
pub record Changes (o : ℕ) (lc : ListCall) (said : Reply) (values news : List Value) (v : View) : Type 0 where
  pub write : IsListWrite o lc said values news v
  pub table : (stored : StoredWorld) → MayHave v stored
      → table_at (after_stored stored (call.List o lc)).tables o ≡ table_at stored.tables o

-- or the list takes a table of this class for it
pub record Grows (o : ℕ) (lc : ListCall) (values news : List Value) (class : ℕ) (v : View) : Type 0 where
  pub write : IsListWrite o lc reply.Done values news v
  pub takes : (stored : StoredWorld) → MayHave v stored → takes_in stored (call.List o lc) ≡ Some class
  pub table : (stored : StoredWorld) → MayHave v stored
      → table_at (after_stored stored (call.List o lc)).tables o ≡ record { class = Some class; fill = 0; keys = [] }

-- A call adds to the list o: where the list has these values, the plain containers reply that it is done, and the list
-- has `news` then, whatever else the bank has that agrees with what the pass knows; the pass has the locks of the
-- containers that it names, and no other one is longer then than the largest table holds. (Python manual, Mutable
-- Sequence Types)
pub record Adds (o : ℕ) (lc : ListCall) (values news : List Value) (v : View) : Type 0 where
  pub changing : is_changing_list lc ≡ true
  pub grows : list_change lc ≡ change.Grows
  pub cursor : cursor_of_list lc ≡ None
  pub fits : FitsListCall lc
  pub locks : HasLocksOf (call.List o lc) v.log
  pub answered : (stored : StoredWorld) → MayHave v stored
      → answer_list stored.world no_hands o values lc ≡ puts stored.world no_hands o (content.List news) reply.Done
  pub other : (stored : StoredWorld) → MayHave v stored
      → IfSome (other_list lc) (λ p. IsOfKind stored.world kind.List p)
  pub caps : (stored : StoredWorld) → MayHave v stored
      → would_pass stored.world (call.List o lc) ≡ nat_lt most_items (length news)

-- The plain containers raise this to the call, where the list has these values, and leave all as it is. (Python manual,
-- Built-in Exceptions)
pub record Raises (o : ℕ) (lc : ListCall) (said : Reply) (values : List Value) : Type 0 where
  pub raises : (said ≡ reply.Raised raise.NoIndex) ⊎ (said ≡ reply.Raised raise.NoValue)
  pub caps : (world : List Content) → would_pass world (call.List o lc) ≡ false
  pub answered : (world : List Content) → answer_list world no_hands o values lc ≡ shows world no_hands said

-- A call under the lock was made, with this reply and this stamp: as one whole write, or as an entry that isn't a
-- write, at a load of the counter. (profile)
abbrev pub Made : Call → Reply → Stamp → View → View → Type 0
Made called said stamp v w =
    ((stamp.wrote ≡ true) × Wrote called said stamp.number v w)
    ⊎ ((stamp.wrote ≡ false) × Answered called said stamp.number v w)

-- the pass may try calls on this list of the bank
pub record MayCallList (b : Bank) (p : Pass) (l : ℕ) : Type 0 where
  pub may : MayTry b p (One l)
  pub low : l < container_count (shape_of b)
  pub kind : kind_in (shape_of b).starts l ≡ kind.List
