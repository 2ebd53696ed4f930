-- Reads of two containers.
use Rattle.std.specs.Prelude.{◌≡◌, ◌⊎◌, ℕ, false, List}
use Rattle.ft_model.specs.declared.call.Call.{Call}
use Rattle.ft_trace.specs.declared.Act.{Act}
use Rattle.ft_trace.specs.declared.Shape.{Shape}
use Rattle.ft_trace.specs.declared.View.{View}
use Rattle.ft_trace.specs.ContainerStates.{kind_in}
use Rattle.ft_trace.specs.Unboxed.{unboxed}
use Rattle.ft_trace.specs.Pictures.{ContainerWords}
use Rattle.ft_bank.specs.declared.pass.Pass.{Pass}
use Rattle.ft_bank.specs.Answered.{Answered}
use Rattle.ft_bank.specs.LastLoads.{IsLastBetween}
use Rattle.ft_bank.specs.Passes.{view}
use Rattle.ft_bank.specs.Series.{DidAll}
use Rattle.ft_section.specs.declared.answers.Look.{Look}
use Rattle.ft_section.specs.declared.answers.Look.TheVariants as look
use Rattle.ft_search.specs.Lengths.{IsStopped}
use Rattle.ft_search.specs.KeyLooks.{AreLooks}
use Rattle.ft_reads.specs.Reads.{AgreesRead, HeldAgrees}

-- this is so of all words of the containers o and m that answer so, as they read through boxes that answer so
abbrev pub ShowsReadOfBoth : Shape → ℕ → ℕ → List Act → (ContainerWords → ContainerWords → Type 0) → Type 0
ShowsReadOfBoth k o m part shows =
    (x y : ContainerWords) (box more : ℕ → ℕ → ℕ) → AgreesRead k o part x box → AgreesRead k m part y more
    → shows (unboxed box (kind_in k.starts o) x) (unboxed more (kind_in k.starts m) y)

-- The pass only loaded words, and this is so of all words of the containers o and m that answer so, as they read. What
-- the pass knows of each container whose lock it has answers so. (profile)
abbrev pub ReadsBoth : Shape → ℕ → ℕ → (ContainerWords → ContainerWords → Type 0) → Pass → Pass → Type 0
ReadsBoth k o m shows p q =
    (part : List Act) × AreLooks part × DidAll part p q × ShowsReadOfBoth k o m part shows
    × HeldAgrees k part (view p)

-- What a call answers that reads two containers, each between two loads of its version. It gave a reply, which is the
-- one that its entry has, at the counter that it loaded last, and of each of the two between two loads of its version
-- that gave the same even number; or the version of one of the two stopped it. It takes no memory.
abbrev pub IsGlanceOfBoth : ℕ → ℕ → Call → View → View → Look → Type 0
IsGlanceOfBoth o m called v w (look.Done said stamp) =
    (x : Answered called said stamp.number v w) × (stamp.wrote ≡ false)
    × IsLastBetween o stamp.number x.part × IsLastBetween m stamp.number x.part
IsGlanceOfBoth o m called v w (look.Contended a b) = IsStopped o a b v w ⊎ IsStopped m a b v w
IsGlanceOfBoth o m called v w look.NoMemory = ⊥
