-- Reads of a container's words, by a pass with its lock or without it.
use Rattle.std.specs.Prelude.{◌≡◌, ◌≢◌, ℕ, true, ◌<◌, List}
use Rattle.ft_trace.specs.declared.Act.{Act}
use Rattle.ft_trace.specs.declared.Shape.{Shape}
use Rattle.ft_trace.specs.declared.View.{View}
use Rattle.ft_trace.specs.Acts.{has_lock}
use Rattle.ft_trace.specs.Addresses.{container_count, IsBoxName}
use Rattle.ft_trace.specs.Boxes.{known_box_word, named_in_root}
use Rattle.ft_trace.specs.ContainerStates.{kind_in}
use Rattle.ft_trace.specs.Holds.{held_words}
use Rattle.ft_trace.specs.LoggedReads.{Agrees, AgreesBoxes}
use Rattle.ft_trace.specs.Pictures.{ContainerWords, root_in}
use Rattle.ft_trace.specs.Unboxed.{unboxed}
use Rattle.ft_bank.specs.declared.pass.Pass.{Pass}
use Rattle.ft_bank.specs.Passes.{view}
use Rattle.ft_bank.specs.Series.{DidAll}
use Rattle.ft_search.specs.KeyLooks.{AreLooks}

-- each box that these words of the container o name is one of the bank
abbrev pub NamesBoxes : Shape → ℕ → ContainerWords → Type 0
NamesBoxes k o x = (b : ℕ) → named_in_root b (kind_in k.starts o) (root_in x) x.table ≢ 0 → IsBoxName k b

-- Words of the container o, and boxes, answer as these loads were answered, and each box that the words name is one of
-- the bank.
abbrev pub AgreesRead : Shape → ℕ → List Act → ContainerWords → (ℕ → ℕ → ℕ) → Type 0
AgreesRead k o part x box = Agrees k o part x × AgreesBoxes k o part x box

-- this is so of all words of the container o that answer so, as they read through boxes that answer so
abbrev pub ShowsRead : Shape → ℕ → List Act → (ContainerWords → Type 0) → Type 0
ShowsRead k o part shows =
    (x : ContainerWords) (box : ℕ → ℕ → ℕ) → AgreesRead k o part x box → shows (unboxed box (kind_in k.starts o) x)

-- what the pass knows of each container whose lock it has, and of boxes, answers so
abbrev pub HeldAgrees : Shape → List Act → View → Type 0
HeldAgrees k part v =
    v.shape ≡ k → (c : ℕ) → c < container_count k → has_lock c v.log ≡ true
    → AgreesRead k c part (held_words c v) (λ b i. known_box_word v.shape b i v.log)

-- The pass only loaded words, and this is so of all words of the container o that answer so, as they read. What the
-- pass knows of each container whose lock it has answers so. (profile)
abbrev pub Reads : Shape → ℕ → (ContainerWords → Type 0) → Pass → Pass → Type 0
Reads k o shows p q =
    (part : List Act) × AreLooks part × DidAll part p q × ShowsRead k o part shows × HeldAgrees k part (view p)
