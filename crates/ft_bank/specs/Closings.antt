-- What contracts see in a closed bank.
use Rattle.std.specs.Prelude.{◌≡◌, ℕ, suc, All, List, [], ◌∷◌, Some, slice_get}
use Rattle.std.specs.List.{flat_map}
use Rattle.ft_model.specs.declared.call.Call.{Call}
use Rattle.ft_trace.specs.declared.Entry.{Entry}
use Rattle.ft_trace.specs.declared.Owner.{Owner}
use Rattle.ft_trace.specs.declared.Presence.{Presence}
use Rattle.ft_trace.specs.declared.Presence.TheVariants as presence
use Rattle.ft_trace.specs.declared.Shape.{Shape}
use Rattle.ft_trace.specs.declared.Told.{Told}
use Rattle.ft_trace.specs.Acts.{all_lists, tells}
use Rattle.ft_trace.specs.InOrder.{AreInOrder}
use Rattle.ft_trace.specs.Owners.{had_locks, found_owners}
use Rattle.ft_trace.specs.HeapErrors.{HeapErrorsFollowBoxings}
use Rattle.ft_trace.specs.OwnOrder.{AreInOwnOrder, IsWriteIn}
use Rattle.ft_trace.specs.ToldEntries.{AgreeOnPasses, AreAwaitsTold}
use Rattle.ft_bank.specs.Shapes.{plan}
use Rattle.ft_bank.specs.declared.closed.Closed.{Closed}

abbrev pub shape_in : Closed → Shape
shape_in c = plan c.shape

-- the entries of each pass, newest first: those of the pass that closed the bank, and those of each that it took in
abbrev pub lists_in : Closed → List (List Entry)
lists_in c = all_lists c.pass.seat.me.0

-- the entries of all passes
abbrev pub entries_in : Closed → List Entry
entries_in c = flat_map (λ entries. entries) (lists_in c)

-- the locks that passes have had, and the passes that were found with locks
abbrev pub had_in : Closed → List Owner
had_in c = had_locks c.pass.seat.me.0.number c.pass.seat.me.0.log

abbrev pub found_in : Closed → List Owner
found_in c = found_owners c.pass.seat.me.0.log

-- what the passes tell of themselves, and what they were told of each other
abbrev pub told_of : Closed → List Told
told_of c = tells c.pass.seat.me.0

-- There are writes, the oldest first, beside which all these entries stand: each write is that of one entry, and each
-- entry has the reply of the plain containers at its stamp, or that of a section, or a MemoryError with its cause
-- there. The stamps of each pass rise, and inside a section that it says it kept no other pass wrote on the section's
-- containers; before a MemoryError of a heap as many of its writes put a value in a box as its heap has places.
abbrev pub HasWholeHistory : Closed → Type 0
HasWholeHistory c =
    ∥ ((calls : List Call) × AreInOrder (shape_in c) calls (entries_in c)
    × All (AreInOwnOrder (IsWriteIn calls)) (lists_in c)
    × All (HeapErrorsFollowBoxings (shape_in c) calls) (lists_in c)) ∥₁

-- what was told of one pass agrees, and each `await` was told of the call that it names
abbrev pub HasToldAwaits : Closed → Type 0
HasToldAwaits c = ∥ AgreeOnPasses (told_of c) × All (AreAwaitsTold (told_of c)) (lists_in c) ∥₁

-- The pass is offline, and was online from before its first entry until after its last; or it made none, and was never
-- online. (PEP 703, QSBR)
abbrev pub HasBeenOnline : Presence → Type 0
HasBeenOnline presence.Before = Unit {0}
HasBeenOnline presence.Over = Unit {0}
HasBeenOnline _ = ⊥

-- what is told of the thread's pass says that it had made all these entries, and been online for them
abbrev pub IsToldOnline : List Told → ℕ → List Entry → Type 0
IsToldOnline told thread entries =
    (place : ℕ) × (one : Told) × (slice_get told place ≡ Some one) × (one.pass ≡ suc thread)
    × (one.entries ≡ entries) × HasBeenOnline one.presence

-- so it says of the passes from this thread on, which made these entries
abbrev pub AreToldOnline : List Told → ℕ → List (List Entry) → Type 0
AreToldOnline told thread [] = Unit {0}
AreToldOnline told thread (own ∷ lists) = IsToldOnline told thread own × AreToldOnline told (suc thread) lists

-- each pass was online from before its first entry until after its last, and offline when the bank was closed
abbrev pub PassesWereOnline : Closed → Type 0
PassesWereOnline c = AreToldOnline (told_of c) 0 (lists_in c)
