-- What a log shows of an container read without its lock.
use Rattle.std.specs.Prelude.{◌≡◌, ◌≢◌, ◌⊎◌, ℕ, suc, ◌%◌, ◌<◌, List, ◌∷◌, ◌++◌, slice_index}
use Rattle.ft_model.specs.declared.call.Call.{Call}
use Rattle.ft_model.specs.declared.reply.Reply.{Reply}
use Rattle.ft_model.specs.TableUses.{StoredWorld}
use Rattle.ft_trace.specs.declared.Act.{Act}
use Rattle.ft_trace.specs.declared.Act.TheVariants.{Version, ReadBlock, ReadRoot, ReadTable, ReadCounter, ReadBox}
use Rattle.ft_trace.specs.Boxes.{named_in_root}
use Rattle.ft_trace.specs.Unboxed.{unboxed}
use Rattle.ft_trace.specs.declared.Shape.{Shape}
use Rattle.ft_trace.specs.Addresses.{IsTableName, IsBoxName, class_of, size}
use Rattle.std.specs.Prelude.{None}
use Rattle.ft_model.specs.Worlds.{length_of, kind_of}
use Rattle.ft_trace.specs.ContainerStates.{ContainerState, state_at, reply_in, kind_in}
use Rattle.ft_trace.specs.Pictures.{ContainerWords, root_in, Represents}

-- the log has these actions, newest first, between two loads of the version of o that found the same even number
pub record Between (log : List Act) (o : ℕ) (mid : List Act) : Type 0 where
  pub version : ℕ
  pub even : version % 2 ≡ 0
  pub newer : List Act
  pub rest : List Act
  pub is : log ≡ newer ++ Version o version ∷ (mid ++ Version o version ∷ rest)

-- the action is among these
pub record Among (a : Act) (mid : List Act) : Type 0 where
  pub newer : List Act
  pub rest : List Act
  pub is : mid ≡ newer ++ a ∷ rest

-- the reads among these found what the picture has
pub record Agrees (k : Shape) (o : ℕ) (mid : List Act) (x : ContainerWords) : Type 0 where
  pub root : (f : ℕ) → Among (ReadRoot o f) mid → f ≡ root_in x
  pub block : (i f : ℕ) → i < 6 → Among (ReadBlock o i f) mid → f ≡ slice_index x.block i
  pub table : (t i f : ℕ) → IsTableName k t → i < size (class_of t) → root_in x ≡ suc t → Among (ReadTable t i f) mid
      → f ≡ slice_index x.table i

-- Each box that x names is one of the bank, and the reads of it among these found what `box` tells: what was read of
-- another box says nothing.
abbrev pub AgreesBoxes : Shape → ℕ → List Act → ContainerWords → (ℕ → ℕ → ℕ) → Type 0
AgreesBoxes k o mid x box =
    (b : ℕ) → named_in_root b (kind_in k.starts o) (root_in x) x.table ≢ 0
    → IsBoxName k b × ((i f : ℕ) → (i ≡ 1) ⊎ (i ≡ 2) → Among (ReadBox b i f) mid → f ≡ box b i)

-- there is no table and nothing in the container
abbrev pub IsNothing : ContainerState → Type 0
IsNothing kept = (kept.table.class ≡ None) × (length_of kept.content ≡ 0)

-- the call has this reply wherever o is of its kind and has words that answer as the reads of mid did
abbrev pub AnswersOn : Shape → Call → ℕ → Reply → List Act → Type 0
AnswersOn k call o r mid =
    (x : ContainerWords) (box : ℕ → ℕ → ℕ) (t : StoredWorld) → kind_of (state_at t o).content ≡ kind_in k.starts o
    → Represents k.texts (unboxed box (kind_in k.starts o) x) (state_at t o) → Agrees k o mid x
    → AgreesBoxes k o mid x box
    → reply_in t call ≡ r

-- the reply to a call about o was read between two equal even loads of its version, and the counter loaded between them
pub record LookedAtOne (k : Shape) (call : Call) (o : ℕ) (r : Reply) (number : ℕ) (log : List Act) : Type 0 where
  pub mid : List Act
  pub between : Between log o mid
  pub stamp : Among (ReadCounter number) mid
  pub answers : AnswersOn k call o r mid

-- the reply to a call about o and p was read likewise, of each between two loads of its version, and both times the
-- counter was this
pub record LookedAtBoth (k : Shape) (call : Call) (o p : ℕ) (r : Reply) (number : ℕ) (log : List Act) : Type 0 where
  pub one : List Act
  pub other : List Act
  pub between : Between log o one × Between log p other
  pub stamp : Among (ReadCounter number) one × Among (ReadCounter number) other
  pub answers : (x y : ContainerWords) (box more : ℕ → ℕ → ℕ) (t : StoredWorld)
      → kind_of (state_at t o).content ≡ kind_in k.starts o
      → kind_of (state_at t p).content ≡ kind_in k.starts p
      → Represents k.texts (unboxed box (kind_in k.starts o) x) (state_at t o)
      → Represents k.texts (unboxed more (kind_in k.starts p) y) (state_at t p)
      → Agrees k o one x → Agrees k p other y → AgreesBoxes k o one x box → AgreesBoxes k p other y more
      → reply_in t call ≡ r
