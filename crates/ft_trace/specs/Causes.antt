-- What a pass's view shows for the reply of a call that isn't a write.
use Rattle.std.specs.Prelude.{◌≡◌, ◌≢◌, ℕ, suc, ◌+◌, ◌-◌, ◌/◌, ◌<◌, ◌≤◌, true, false, List, [], ◌∷◌, ◌++◌, length, Some, slice_get}
use Rattle.ft_model.specs.declared.call.Call.{Call}
use Rattle.ft_model.specs.declared.call.Call.TheVariants as call
use Rattle.ft_model.specs.declared.reply.Reply.{Reply}
use Rattle.ft_model.specs.declared.reply.Reply.TheVariants as reply
use Rattle.ft_model.specs.declared.reply.Raise.TheVariants as raise
use Rattle.ft_model.specs.declared.content.Content.{Content}
use Rattle.ft_model.specs.Answers.{answer, is_raised}
use Rattle.ft_model.specs.Boxings.{boxes}
use Rattle.ft_model.specs.TableUses.{StoredWorld, CanLackMemory, takes_in, would_pass}
use Rattle.ft_model.specs.Worlds.{no_hands}
use Rattle.ft_trace.specs.declared.Act.{Act}
use Rattle.ft_trace.specs.declared.Act.TheVariants.{Commit, Answer, AnswerCursor, ReadCounter, ReadCount, ReadFreePlaces, GivePlace}
use Rattle.ft_trace.specs.declared.Shape.{Shape}
use Rattle.ft_trace.specs.declared.Told.{Told}
use Rattle.ft_trace.specs.declared.View.{View}
use Rattle.ft_trace.specs.Acts.{owes, told_in}
use Rattle.ft_trace.specs.Boxes.{place_use, use_taken}
use Rattle.ft_trace.specs.BegunSections.{begun, IsInnermostHeld}

-- none of these makes an entry
abbrev pub AreOfOneCall : List Act → Type 0
AreOfOneCall [] = Unit {0}
AreOfOneCall (Commit c r f s ∷ l) = ⊥
AreOfOneCall (Answer c r n ∷ l) = ⊥
AreOfOneCall (AnswerCursor c r n number had left ∷ l) = ⊥
AreOfOneCall (act ∷ l) = AreOfOneCall l

-- a load of the counter since the last entry gave n
pub record Loaded (n : ℕ) (log : List Act) : Type 0 where
  pub newer : List Act
  pub rest : List Act
  pub is : log ≡ newer ++ ReadCounter n ∷ rest
  pub own : AreOfOneCall newer

-- since the last entry the count of the class was found 0, by a pass that had lowered no count since its last commit
-- that it hadn't raised again, and after that the counter was n
pub record FoundEmpty (class n : ℕ) (log : List Act) : Type 0 where
  pub newer : List Act
  pub mid : List Act
  pub rest : List Act
  pub is : log ≡ newer ++ ReadCounter n ∷ (mid ++ ReadCount class 0 ∷ rest)
  pub own : AreOfOneCall newer × AreOfOneCall mid
  pub none : owes rest ≡ 0

-- none of these gives a place of a heap back
abbrev pub GiveNoPlace : List Act → Type 0
GiveNoPlace [] = Unit {0}
GiveNoPlace (GivePlace b ∷ l) = ⊥
GiveNoPlace (act ∷ l) = GiveNoPlace l

-- since the last entry the pass found word w of the bits of the heap q 0, and it has given no place back since it did
pub record FoundNoPlace (q w : ℕ) (log : List Act) : Type 0 where
  pub newer : List Act
  pub rest : List Act
  pub is : log ≡ newer ++ ReadFreePlaces q w 0 ∷ rest
  pub own : AreOfOneCall newer
  pub kept : GiveNoPlace newer

-- each word of the bits of its own heap, and it has taken no place that no write of its has stored
pub record HeapIsFull (k : Shape) (number : ℕ) (log : List Act) : Type 0 where
  pub words : (w : ℕ) → w < k.heap / 64 → FoundNoPlace (number - 1) w log
  pub untaken : (b : ℕ) → place_use b log ≢ use_taken

-- a MemoryError of a heap stands on a call that would put a value in a box, and that raises nothing else there
pub record CanLackPlace (world : List Content) (called : Call) : Type 0 where
  pub boxes : boxes world called ≡ true
  pub raises_nothing : is_raised (answer world no_hands called).reply ≡ false

-- as many entries were told of the pass of this thread, which has the thread's number and one, as the index says, which
-- counts from 1
pub record IsToldOf (told : List Told) (thread index : ℕ) : Type 0 where
  pub place : ℕ
  pub one : Told
  pub at : slice_get told place ≡ Some one
  pub pass : one.pass ≡ suc thread
  pub some : 1 ≤ index
  pub many : index ≤ length one.entries

-- and the stamp is at least how many writes that pass had seen then
pub record WasTold (told : List Told) (thread index stamp : ℕ) : Type 0 where
  pub of : IsToldOf told thread index
  pub late : of.one.seen ≤ stamp

-- A MemoryError of a class stands on a call that would take a table of it, where its count was found 0; one of a
-- content past the largest table exactly where the call would leave that; and one of a heap on a call that would put a
-- value in a box, where the pass found its own heap full. An `end` says kept where the pass has had the locks of the section
-- since its `begin`. An `await` is done once the pass was told of the call that it names, and its stamp is not below what
-- that one's pass had seen.
abbrev pub HasCause : StoredWorld → View → Call → Reply → ℕ → Type 0
HasCause stored v call (reply.Raised (raise.Memory class)) n =
    CanLackMemory stored.world call
    × (would_pass stored.world call ≡ false)
    × (takes_in stored call ≡ Some class)
    × FoundEmpty class n v.log
HasCause stored v call (reply.Raised raise.Over) n =
    CanLackMemory stored.world call × (would_pass stored.world call ≡ true)
HasCause stored v call (reply.Raised raise.Heap) n =
    CanLackPlace stored.world call
    × (would_pass stored.world call ≡ false)
    × HeapIsFull v.shape v.number v.log
HasCause stored v call reply.Kept n = (would_pass stored.world call ≡ false) × IsInnermostHeld (begun v.log)
HasCause stored v (call.Await thread index) reply.Done n = WasTold (told_in v.log) thread index n
HasCause stored v call said n = would_pass stored.world call ≡ false

-- what the stamp of the next entry is at least: one more than the number of the last entry that is a write, or the
-- stamp of one that isn't
abbrev pub least_stamp : List Act → ℕ
least_stamp [] = 0
least_stamp (Commit c r f s ∷ l) = f + 1
least_stamp (Answer c r n ∷ l) = n
least_stamp (AnswerCursor c r n number had left ∷ l) = n
least_stamp (act ∷ l) = least_stamp l
