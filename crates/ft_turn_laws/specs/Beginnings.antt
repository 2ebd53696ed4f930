-- Callers before the first turn, and the floor on its way from one caller to the next.
use Rattle.std.specs.Prelude.{◌≡◌, ◌≢◌, ℕ, ◌+◌, ◌<◌, ◌≤◌, true, List, [], length, None, Some, slice_get}
use Rattle.ft_model.specs.declared.entry.Entry.{Entry}
use Rattle.ft_model.specs.declared.script.ScriptParts.{ScriptParts}
use Rattle.ft_trace.specs.declared.View.{View}
use Rattle.ft_trace.specs.Acts.{floor_words, seen_writes}
use Rattle.ft_trace.specs.Addresses.{container_count}
use Rattle.ft_bank.specs.declared.tokens.Tokens.{Tokens}
use Rattle.ft_bank.specs.Passes.{shape_of, view}
use Rattle.ft_bank.specs.PassSections.{no_sections, stack_of}
use Rattle.ft_engine.specs.declared.caller.Caller.{Caller}
use Rattle.ft_engine.specs.declared.engine.Engine.{Engine}
use Rattle.ft_engine.specs.Callers.{IsCallerOf, IsFreshCaller, bank_of, pass_of, thread_of}
use Rattle.ft_engine.specs.Resting.{HandsOn, HasFloor, IsAsBefore, IsWoken}
use Rattle.ft_turn_laws.specs.Ordered.{nobody}
use Rattle.ft_turn_laws.specs.LockOwners.{owners_in}
use Rattle.ft_turn_laws.specs.Standing.{Standing, standing_of}
use Rattle.ft_turn_laws.specs.Turns.{AreInStep}

-- ---- the start

-- a caller of a new engine has made no call, and is in none
abbrev pub FreshCallersAreNobody : Type 0
FreshCallersAreNobody = (e : Engine) (room i : ℕ) (c : Caller) → IsFreshCaller e room i c → standing_of c [] ≡ nobody

-- where no caller has made a call and no lock is taken, the callers stand as the threads do before the first turn
abbrev pub NewCallersAreInStep : Type 0
NewCallersAreInStep =
    (script : ScriptParts) (v : View) (standings : List Standing) → length standings ≡ length script.threads
    → ((thread : ℕ) (standing : Standing) → slice_get standings thread ≡ Some standing → standing ≡ nobody)
    → ((o : ℕ) → o < length script.containers → owners_in v o ≡ None)
    → AreInStep script [] v standings

-- ---- the floor

-- the second pass knows the words of the bank as the first one knew them, and has seen as much
pub record HasFloorFrom (v w : View) : Type 0 where
  pub shape : w.shape ≡ v.shape
  pub words : floor_words w.shape w.number w.log ≡ floor_words v.shape v.number v.log
  pub seen : seen_writes v ≤ seen_writes w

-- so it changes nothing who of them has the floor
abbrev pub FloorsAreHandedOn : Type 0
FloorsAreHandedOn =
    (script : ScriptParts) (turns : List ℕ) (v w : View) (standings : List Standing) → HasFloorFrom v w
    → AreInStep script turns v standings → AreInStep script turns w standings

-- A caller that is woken by the tokens of one that had the floor has it so.
abbrev pub WokenCallersHaveFloor : Type 0
WokenCallersHaveFloor =
    (e : Engine) (c d : Caller) (t : Tokens) → IsCallerOf e c → IsCallerOf e d → HasFloor c → HandsOn c t
    → IsWoken t d → HasFloorFrom (view (pass_of c)) (view (pass_of d))

-- a caller that has only handed tokens on, or taken some, stands as before
abbrev pub RestingCallersStand : Type 0
RestingCallersStand =
    (c d : Caller) (mine : List Entry) → IsAsBefore c d
    → (thread_of d ≡ thread_of c) × (standing_of d mine ≡ standing_of c mine)

-- ---- no lock is taken

-- none of the first that many threads has a lock
abbrev pub NoneOwns : View → ℕ → Type 0
NoneOwns v count = (o thread : ℕ) → o < container_count v.shape → thread < count → owners_in v o ≢ Some thread

-- A caller that has been given the floor, and that has no lock itself, knows that of one thread more.
abbrev pub OneMoreOwnsNone : Type 0
OneMoreOwnsNone =
    (e : Engine) (v : View) (c : Caller) → IsCallerOf e c → stack_of (pass_of c) ≡ no_sections
    → (view (pass_of c)).has_floor ≡ true → HasFloorFrom v (view (pass_of c)) → NoneOwns v (thread_of c)
    → NoneOwns (view (pass_of c)) (thread_of c + 1)

-- so when all callers have had the floor once, no lock is taken
abbrev pub LocksOfNobodyAreFree : Type 0
LocksOfNobodyAreFree =
    (e : Engine) (c : Caller) → IsCallerOf e c → (view (pass_of c)).has_floor ≡ true
    → NoneOwns (view (pass_of c)) (shape_of (bank_of e)).passes
    → (o : ℕ) → o < container_count (shape_of (bank_of e)) → owners_in (view (pass_of c)) o ≡ None
