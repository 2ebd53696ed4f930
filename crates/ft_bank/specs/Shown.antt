-- What a pass's log has to show for the entry of a call that isn't a write: laws whose conclusion is the condition of
-- `Bank::answer`.
use Rattle.std.specs.Prelude.{◌≡◌, ◌⊎◌, ℕ, pos, ◌+◌, ◌*◌, ◌^◌, ◌<◌, ◌≤◌, true, false, List, [], ◌∷◌, ◌++◌, Option, Some, None, is_some}
use Rattle.std.specs.Option.{unwrap_or}
use Rattle.ft_model.specs.declared.call.Call.{Call}
use Rattle.ft_model.specs.declared.call.Call.TheVariants as call
use Rattle.ft_model.specs.declared.call.DictCall.TheVariants as dict
use Rattle.ft_model.specs.declared.call.ListCall.TheVariants as list
use Rattle.ft_model.specs.declared.call.SetCall.TheVariants as set
use Rattle.ft_model.specs.declared.cursor.Cursor.{Cursor}
use Rattle.ft_model.specs.declared.data.Key.{Key}
use Rattle.ft_model.specs.declared.data.Value.{Value}
use Rattle.ft_model.specs.declared.reply.Reply.{Reply}
use Rattle.ft_model.specs.declared.reply.Reply.TheVariants as reply
use Rattle.ft_model.specs.declared.reply.Raise.TheVariants as raise
use Rattle.ft_model.specs.declared.script.Kind.TheVariants as kind
use Rattle.ft_model.specs.Answers.{is_write}
use Rattle.ft_model.specs.Calls.{moved_cursor}
use Rattle.ft_model.specs.Histories.{IsReplied}
use Rattle.ft_model.specs.TableUses.{StoredWorld, CanLackMemory, takes_in, would_pass}
use Rattle.ft_model.specs.Worlds.{serial_of}
use Rattle.ft_layout.specs.declared.slot.Stored.TheVariants.{Empty, Plain}
use Rattle.ft_layout.specs.Words.{FitsKey, IsStored}
use Rattle.ft_trace.specs.declared.Act.{Act}
use Rattle.ft_trace.specs.declared.Act.TheVariants.{ReadCounter, Lock, Unlock, TakeTable}
use Rattle.ft_trace.specs.declared.View.{View}
use Rattle.ft_trace.specs.Acts.{has_lock, told_in}
use Rattle.ft_trace.specs.Addresses.{container_count, class_of, slots}
use Rattle.ft_trace.specs.Causes.{AreOfOneCall, CanLackPlace, Loaded, FoundEmpty, HasCause, HeapIsFull, IsToldOf}
use Rattle.ft_trace.specs.Hands.{cursor_in, MovesCursor}
use Rattle.ft_trace.specs.HeldReads.{IsEntryReadHeld, IsItemReadHeld}
use Rattle.ft_trace.specs.Holds.{known_state}
use Rattle.ft_trace.specs.LoggedLookUps.{Hit, Bare, ItemHit, ItemPast}
use Rattle.ft_trace.specs.Kinds.{rows}
use Rattle.ft_trace.specs.LookReplies.{IsValueRead, IsItemRead, IsAbsent, key_reply, item_reply}
use Rattle.ft_trace.specs.LoggedReads.{LookedAtOne, LookedAtBoth}
use Rattle.ft_trace.specs.Traces.{IsReachable}
use Rattle.ft_trace.specs.ContainerStates.{kind_in, reply_in}
use Rattle.ft_bank.specs.Reads.{IsShown, IsCursorShown}
use Rattle.ft_bank.specs.WriteSteps.{MayHave}

-- a pass may ask of the container o: it has a call left, and a load of the counter since its last entry gave the stamp
pub record MayAsk (v : View) (o n : ℕ) : Type 0 where
  pub low : o < container_count v.shape
  pub left : 0 < v.left
  pub loaded : Loaded n v.log

-- the reply stands by itself: whatever a bank has and a pass knows, it has its cause
abbrev pub NeedsNoCause : Call → Reply → Type 0
NeedsNoCause called said = (stored : StoredWorld) (v : View) (n : ℕ) → HasCause stored v called said n

-- ---- keys

-- the calls that look up a key in a dict may be answered so, where this is at the key
pub record KeyIsShown (v : View) (o : ℕ) (key : Key) (found : Option Value) (n : ℕ) : Type 0 where
  pub get : IsShown v (call.Dict o (dict.Get key)) (key_reply found) n
  pub get_or : (default : Value)
      → IsShown v (call.Dict o (dict.GetOr key default)) (reply.Value (unwrap_or found default)) n
  pub has : IsShown v (call.Dict o (dict.Has key)) (reply.Truth (is_some found)) n

-- a key that was found in a dict, with the value whose words were read, in place or in a box
abbrev pub DictHitsAreShown : Type 0
DictHitsAreShown =
    (v : View) (o t place : ℕ) (key : Key) (n : ℕ) → MayAsk v o n → kind_in v.shape.starts o ≡ kind.Dict → FitsKey key
    → place < rows kind.Dict (class_of t) → (h : Hit v.log o t place key n)
    → IsShown v (call.Dict o (dict.Has key)) (reply.Truth true) n
    × ((kind payload : ℕ)
    → IsValueRead t place kind payload h.mid ⊎ IsEntryReadHeld v.shape v.log o t place key n h kind payload
    → (value : Value)
    → IsStored kind payload (Plain value) → KeyIsShown v o key (Some value) n)

-- the words that were read of its value are those of one
abbrev pub ValuesAreRead : Type 0
ValuesAreRead =
    (v : View) (o t place : ℕ) (key : Key) (n : ℕ) → IsReachable v → o < container_count v.shape
    → kind_in v.shape.starts o ≡ kind.Dict → FitsKey key → place < rows kind.Dict (class_of t)
    → (h : Hit v.log o t place key n) (kind payload : ℕ)
    → IsValueRead t place kind payload h.mid ⊎ IsEntryReadHeld v.shape v.log o t place key n h kind payload
    → (value : Value) × IsStored kind payload (Plain value)

-- a key that was found in a set
abbrev pub SetHitsAreShown : Type 0
SetHitsAreShown =
    (v : View) (o t place : ℕ) (key : Key) (n : ℕ) → MayAsk v o n → kind_in v.shape.starts o ≡ kind.Set → FitsKey key
    → place < rows kind.Set (class_of t) → Hit v.log o t place key n
    → IsShown v (call.Set o (set.Has key)) (reply.Truth true) n

-- a key that was not found on its probe, or where the root was read 0
abbrev pub MissesAreShown : Type 0
MissesAreShown =
    (v : View) (o : ℕ) (key : Key) (n : ℕ) → MayAsk v o n → FitsKey key
    → ((t : ℕ) × IsAbsent v.shape v.log o t key n) ⊎ Bare v.log o n
    → (kind_in v.shape.starts o ≡ kind.Dict → KeyIsShown v o key None n)
    × (kind_in v.shape.starts o ≡ kind.Set → IsShown v (call.Set o (set.Has key)) (reply.Truth false) n)

-- ---- items

-- an item whose words were read, by whether they are those of a value or of nothing
abbrev pub ItemsAreShown : Type 0
ItemsAreShown =
    (v : View) (o t place n : ℕ) → MayAsk v o n → kind_in v.shape.starts o ≡ kind.List
    → place < rows kind.List (class_of t) → (h : ItemHit v.log o t place n) (kind payload : ℕ)
    → IsItemRead t place kind payload h.mid ⊎ IsItemReadHeld v.shape v.log o t place n h kind payload
    → ((value : Value) → IsStored kind payload (Plain value)
    → IsShown v (call.List o (list.Get (pos place))) (item_reply (Some value)) n)
    × (IsStored kind payload Empty → IsShown v (call.List o (list.Get (pos place))) (item_reply None) n)

-- and they are one of the two
abbrev pub ItemsAreRead : Type 0
ItemsAreRead =
    (v : View) (o t place n : ℕ) → IsReachable v → o < container_count v.shape → kind_in v.shape.starts o ≡ kind.List
    → place < rows kind.List (class_of t) → (h : ItemHit v.log o t place n) (kind payload : ℕ)
    → IsItemRead t place kind payload h.mid ⊎ IsItemReadHeld v.shape v.log o t place n h kind payload
    → ((value : Value) × IsStored kind payload (Plain value)) ⊎ IsStored kind payload Empty

-- an index past the table of the list, or where the root was read 0
abbrev pub PastItemsAreShown : Type 0
PastItemsAreShown =
    (v : View) (o index n : ℕ) → MayAsk v o n → kind_in v.shape.starts o ≡ kind.List
    → ((t : ℕ) × (slots (class_of t) ≤ index) × ItemPast v.log o t n) ⊎ Bare v.log o n
    → IsShown v (call.List o (list.Get (pos index))) (item_reply None) n

-- ---- whole containers

-- a reply that was read between two equal even loads of a container's version, and stands by itself
abbrev pub LooksAreShown : Type 0
LooksAreShown =
    (v : View) (call : Call) (o : ℕ) (said : Reply) (n : ℕ) → MayAsk v o n → is_write call said ≡ false
    → moved_cursor call ≡ None → NeedsNoCause call said → IsReplied call said said
    → LookedAtOne v.shape call o said n v.log → IsShown v call said n

-- and one that was read of two containers
abbrev pub LooksAtBothAreShown : Type 0
LooksAtBothAreShown =
    (v : View) (call : Call) (o p : ℕ) (said : Reply) (n : ℕ) → MayAsk v o n → p < container_count v.shape
    → is_write call said ≡ false → moved_cursor call ≡ None → NeedsNoCause call said → IsReplied call said said
    → LookedAtBoth v.shape call o p said n v.log → IsShown v call said n

-- ---- under locks

-- none of these takes a lock or a table, or lets go of a lock
abbrev pub KeepLocks : List Act → Type 0
KeepLocks [] = Unit {0}
KeepLocks (Lock o f s ∷ log) = ⊥
KeepLocks (Unlock o ∷ log) = ⊥
KeepLocks (TakeTable t f s ∷ log) = ⊥
KeepLocks (act ∷ log) = KeepLocks log

-- a load of the counter since the last entry gave the stamp, and the pass has had since then the locks that it has
pub record LoadedUnderLocks (v : View) (n : ℕ) : Type 0 where
  pub left : 0 < v.left
  pub newer : List Act
  pub rest : List Act
  pub is : v.log ≡ newer ++ ReadCounter n ∷ rest
  pub own : AreOfOneCall newer
  pub locks : KeepLocks newer

-- a reply with its cause, whatever the bank has that agrees with what the pass knows
abbrev pub RepliesUnderLocksAreShown : Type 0
RepliesUnderLocksAreShown =
    (v : View) (call : Call) (said : Reply) (n : ℕ) → LoadedUnderLocks v n → is_write call said ≡ false
    → moved_cursor call ≡ None
    → ((stored : StoredWorld) → MayHave v stored
    → IsReplied call said (reply_in stored call) × HasCause stored v call said n)
    → IsShown v call said n

-- an `iter` or a `next` of the cursor that the pass has under this number, answered so by whatever the bank has that
-- agrees with what the pass knows
abbrev pub CursorsUnderLocksAreShown : Type 0
CursorsUnderLocksAreShown =
    (v : View) (call : Call) (said : Reply) (n number : ℕ) (cursor : Cursor) → LoadedUnderLocks v n
    → moved_cursor call ≡ Some number
    → ((stored : StoredWorld) → MayHave v stored
    → MovesCursor stored.world call number (cursor_in number v.log) said cursor)
    → IsCursorShown v call said n number cursor

-- a MemoryError of a class whose count was found 0, to a call that would take a table of it
abbrev pub MemoryErrorsAreShown : Type 0
MemoryErrorsAreShown =
    (v : View) (call : Call) (class n : ℕ) → LoadedUnderLocks v n → FoundEmpty class n v.log
    → ((stored : StoredWorld) → MayHave v stored
    → CanLackMemory stored.world call × (would_pass stored.world call ≡ false) × (takes_in stored call ≡ Some class))
    → IsShown v call (reply.Raised (raise.Memory class)) n

-- a MemoryError of a call that would leave more than the largest table holds
abbrev pub OversAreShown : Type 0
OversAreShown =
    (v : View) (call : Call) (n : ℕ) → LoadedUnderLocks v n
    → ((stored : StoredWorld) → MayHave v stored
    → CanLackMemory stored.world call × (would_pass stored.world call ≡ true))
    → IsShown v call (reply.Raised raise.Over) n

-- a MemoryError of a heap that was found full, to a call that would put a value in a box
abbrev pub HeapErrorsAreShown : Type 0
HeapErrorsAreShown =
    (v : View) (call : Call) (n : ℕ) → LoadedUnderLocks v n → HeapIsFull v.shape v.number v.log
    → ((stored : StoredWorld) → MayHave v stored
    → CanLackPlace stored.world call × (would_pass stored.world call ≡ false))
    → IsShown v call (reply.Raised raise.Heap) n

-- ---- awaits

-- an `await` of a call that the pass was told of before it loaded the counter, which gave the stamp
abbrev pub AwaitsAreShown : Type 0
AwaitsAreShown =
    (v : View) (thread index n : ℕ) (newer rest : List Act) → 0 < v.left → v.log ≡ newer ++ ReadCounter n ∷ rest
    → AreOfOneCall newer → IsToldOf (told_in rest) thread index
    → IsShown v (call.Await thread index) reply.Done n

-- ---- serials

-- The next serial of a container whose lock the pass has is low: as many more as the largest table has slots can be
-- drawn.
abbrev pub SerialsHaveRoom : Type 0
SerialsHaveRoom =
    (v : View) (o : ℕ) → ∥ IsReachable v ∥₁ → v.shape.passes * v.shape.calls < 2 ^ 46 → has_lock o v.log ≡ true
    → serial_of (known_state o v).content + 2 ^ 16 < 2 ^ 63
