-- What a call comes to under its locks that may take a table for the container that it changes.
use Rattle.std.specs.Prelude.{◌≡◌, ◌≢◌, ℕ, zero, suc, ◌+◌, Bool, true, false, List, Option, Some, None}
use Rattle.ft_model.specs.declared.call.Call.{Call}
use Rattle.ft_model.specs.declared.reply.Raise.TheVariants as raise
use Rattle.ft_model.specs.declared.reply.Reply.{Reply}
use Rattle.ft_model.specs.declared.reply.Reply.TheVariants as reply
use Rattle.ft_trace.specs.declared.Act.{Act}
use Rattle.ft_trace.specs.declared.Act.TheVariants.{PutHeader, Retire}
use Rattle.ft_trace.specs.declared.Shape.{Shape}
use Rattle.ft_trace.specs.declared.View.{View}
use Rattle.ft_trace.specs.Acts.{has_goal, view_after}
use Rattle.ft_trace.specs.Causes.{HeapIsFull}
use Rattle.ft_trace.specs.Hands.{cursor_in}
use Rattle.ft_trace.specs.Holds.{held_words}
use Rattle.ft_trace.specs.Pictures.{root_in}
use Rattle.ft_trace.specs.ContainerStates.{changes}
use Rattle.ft_bank.specs.declared.table.Table.{Table}
use Rattle.ft_bank.specs.declared.takings.Took.{Took}
use Rattle.ft_bank.specs.declared.takings.Took.TheVariants as took
use Rattle.ft_bank.specs.Answered.{Answered}
use Rattle.ft_bank.specs.SameBoxes.{SameReferences, SameMade}
use Rattle.ft_bank.specs.Series.{noted_all}
use Rattle.ft_bank.specs.TableNames.{table_id}
use Rattle.ft_bank.specs.Takings.{HasNotMoved, HasTook, IsTaking, KeepsBut, StaysIn}
use Rattle.ft_bank.specs.Whole.{OnlyBoxed, SamePass, SameWork, Wrote}
use Rattle.ft_bank.specs.WriteSteps.{KeepsUnwritten}
use Rattle.ft_section.specs.declared.answers.Stamp.{Stamp}
use Rattle.ft_qsbr.specs.Collecting.{Collected, StaysOrGoes}
use Rattle.ft_table_calls.specs.declared.adding.Added.{Added}
use Rattle.ft_table_calls.specs.declared.adding.Added.TheVariants as added

-- ---- steps of such a call

-- After a collection of retired tables a taking of a table of this class came to this. With the floor it found no word
-- changed. Besides, the pass has what it had. (profile)
pub record TriedTaking (k : Shape) (class : ℕ) (result : Took) (v w : View) : Type 0 where
  pub mid : View
  pub freed : ℕ
  pub collected : Collected v mid freed
  pub acts : List Act
  pub did : w ≡ noted_all acts mid
  pub taking : IsTaking class result acts
  pub has : HasTook k class result mid w
  pub floor : v.has_floor ≡ true → HasNotMoved result
  pub same : SamePass v w
  pub keeps : KeepsBut (λ t. (has_goal t v.log ≡ false) × StaysIn result t) v w
  pub hands : (t : ℕ) → StaysIn result t → StaysOrGoes v w t

-- The pass has loaded words of the bank and put words of tables that are fresh in its hand, and done nothing else: of
-- each container whose lock it has and that it doesn't write it knows the same, and it holds the same references of
-- boxes. (profile)
pub record OnlyFilled (v w : View) : Type 0 where
  pub work : SameWork v w
  pub references : SameReferences v w
  pub made : SameMade v w
  pub keeps : KeepsUnwritten v w

-- the table that a root named is retired, if it named one
abbrev pub Retires : ℕ → View → View → Type 0
Retires zero v w = w ≡ v
Retires (suc t) v w = (n : ℕ) × (w ≡ view_after (PutHeader t (n + 1)) (view_after (Retire t n) v))

-- The pass has the cursors that it had, so that its walks go on after the call. (Python manual, Iterator Types)
abbrev pub KeepsCursors : View → View → Type 0
KeepsCursors v w = (number : ℕ) → cursor_in number w.log ≡ cursor_in number v.log

-- ---- the call

-- The pass made the call as one whole write, which left the root of the container, and which did this to references of
-- boxes. (profile)
pub record WroteInPlace
    (R : View → View → Type 0) (called : Call) (said : Reply) (number : ℕ) (v w : View)
    : Type 0 where
  pub wrote : Wrote called said number v w
  pub root : root_in (held_words (changes called) w) ≡ root_in (held_words (changes called) v)
  pub references : R v w

-- The pass took a table of this class and made the call as one whole write that put it into the root of the container
-- in the place of another table or of none, and which did this to references of boxes; then it retired the table that
-- the root named before. (profile)
pub record Grew
    (R : View → View → Type 0) (k : Shape) (class : ℕ) (called : Call) (said : Reply) (number : ℕ) (v w : View)
    : Type 0 where
  pub table : Table
  pub taken : View
  pub tried : TriedTaking k class (took.Taken table) v taken
  pub other : root_in (held_words (changes called) taken) ≢ suc (table_id table)
  pub done : View
  pub wrote : Wrote called said number taken done
  pub root : root_in (held_words (changes called) done) ≡ suc (table_id table)
  pub references : R taken done
  pub retired : Retires (root_in (held_words (changes called) taken)) done w

-- The pass made the call as one whole write that left the container no table, and holds the same references of boxes as
-- before; then it retired the table that the container had, if it had one. (profile)
pub record GaveUp (called : Call) (said : Reply) (number : ℕ) (v w : View) : Type 0 where
  pub done : View
  pub wrote : Wrote called said number v done
  pub root : root_in (held_words (changes called) done) ≡ 0
  pub references : SameReferences v done
  pub retired : Retires (root_in (held_words (changes called) v)) done w

-- the write of a call that takes no table, or one of this class
abbrev pub WroteWith : (View → View → Type 0) → Shape → Option ℕ → Call → Reply → ℕ → View → View → Type 0
WroteWith R k None called said number v w = WroteInPlace R called said number v w
WroteWith R k (Some class) called said number v w = Grew R k class called said number v w

-- What a call comes to under its locks that takes no table or one of this class, and that would leave more than the
-- largest table holds or not. It was made as a write with this reply, which did this to references of boxes. Or the count
-- of its class was 0 at the one load of this call. Or it would leave too much. Or tables of its class were taken or given
-- by others meanwhile. It takes no place of a heap.
abbrev pub IsAddedWith
    : (View → View → Type 0) → Shape → Option ℕ → Bool → Call → Reply → View → View → Added → Type 0
IsAddedWith R k takes over called said v w (added.Made stamp) =
    (over ≡ false) × (stamp.wrote ≡ true) × WroteWith R k takes called said stamp.number v w
IsAddedWith R k takes over called said v w (added.NoTable class stamp) =
    (over ≡ false) × (stamp.wrote ≡ false) × (takes ≡ Some class)
    × ((u : View) × TriedTaking k class took.AllTaken v u
    × Answered called (reply.Raised (raise.Memory class)) stamp.number u w)
IsAddedWith R k takes over called said v w (added.Over stamp) =
    (over ≡ true) × (stamp.wrote ≡ false) × Answered called (reply.Raised raise.Over) stamp.number v w
IsAddedWith R k takes over called said v w (added.NoPlace stamp) = ⊥
IsAddedWith R k takes over called said v w (added.Moved a b) =
    (over ≡ false) × ((class : ℕ) × (takes ≡ Some class) × TriedTaking k class (took.Moved a b) v w)

-- the same of a write after which the pass holds the same references of boxes as before
abbrev pub IsAdded : Shape → Option ℕ → Bool → Call → Reply → View → View → Added → Type 0
IsAdded k takes over called said v w what = IsAddedWith SameReferences k takes over called said v w what

-- The pass has taken steps with boxes and found its own heap full, so the call was answered a MemoryError of the heap.
-- (profile)
pub record AnsweredFull (called : Call) (said : Reply) (stamp : Stamp) (v w : View) : Type 0 where
  pub said_is : said ≡ reply.Raised raise.Heap
  pub unwritten : stamp.wrote ≡ false
  pub before : View
  pub boxed : OnlyBoxed v before
  pub full : HeapIsFull before.shape before.number before.log
  pub answered : Answered called said stamp.number before w

-- the call was made
abbrev pub WasMade : Added → Type 0
WasMade what = (stamp : Stamp) × (what ≡ added.Made stamp)
