-- How many pairs, items or elements a container has: what a call answers that asks for it without the lock.
use Rattle.std.specs.Prelude.{◌≡◌, ◌≢◌, ◌⊎◌, ℕ, false, ◌%◌, List, ◌∷◌, ◌++◌}
use Rattle.ft_model.specs.declared.call.Call.{Call}
use Rattle.ft_model.specs.declared.call.Call.TheVariants as call
use Rattle.ft_model.specs.declared.call.DictCall.TheVariants as dict
use Rattle.ft_model.specs.declared.call.ListCall.TheVariants as list
use Rattle.ft_model.specs.declared.call.SetCall.TheVariants as set
use Rattle.ft_model.specs.declared.script.Kind.{Kind}
use Rattle.ft_model.specs.declared.script.Kind.TheVariants as kind
use Rattle.ft_trace.specs.declared.Act.{Act}
use Rattle.ft_trace.specs.declared.Act.TheVariants.{Version, ReadBlock, ReadCounter}
use Rattle.ft_trace.specs.declared.View.{View}
use Rattle.ft_trace.specs.LoggedReads.{Between, Among}
use Rattle.ft_bank.specs.Answered.{Answered}
use Rattle.ft_bank.specs.LastLoads.{IsLastBetween}
use Rattle.ft_bank.specs.Whole.{OnlyLoaded}
use Rattle.ft_section.specs.declared.answers.Look.{Look}
use Rattle.ft_section.specs.declared.answers.Look.TheVariants as look
use Rattle.ft_search.specs.declared.lens.Counted.{Counted}
use Rattle.ft_search.specs.declared.lens.Counted.TheVariants.{Seen, Contended}
use Rattle.ft_search.specs.KeyLooks.{AreLooks}
use Rattle.ft_model.specs.declared.call.DequeCall.TheVariants as deque

-- the call that asks how many pairs, items or elements the container o has, which is of this kind (Python manual,
-- Built-in Functions: len)
abbrev pub len_of : Kind → ℕ → Call
len_of kind.Dict o = call.Dict o dict.Len
len_of kind.List o = call.List o list.Len
len_of (kind.Deque bound) o = call.Deque o deque.Len
len_of kind.Set o = call.Set o set.Len

-- Two loads of the version of the container gave a and then b, and a is odd or they differ.
pub record StopsAtVersion (o a b : ℕ) (part : List Act) : Type 0 where
  pub newer : List Act
  pub mid : List Act
  pub rest : List Act
  pub is : part ≡ newer ++ Version o b ∷ (mid ++ Version o a ∷ rest)
  pub moved : (a % 2 ≢ 0) ⊎ (b ≢ a)

-- Between two loads of the version of the container that gave the same even number, the loads gave this as the number
-- of its pairs, items or elements, and n as the counter, which was not loaded again.
pub record ShowsCount (o count n : ℕ) (part : List Act) : Type 0 where
  pub mid : List Act
  pub between : Between part o mid
  pub read : Among (ReadBlock o 1 count) mid
  pub counted : Among (ReadCounter n) mid
  pub last : IsLastBetween o n part

-- what these loads show of the container
abbrev pub ShowsCounted : ℕ → List Act → Counted → Type 0
ShowsCounted o part (Seen count n) = ShowsCount o count n part
ShowsCounted o part (Contended a b) = StopsAtVersion o a b part

-- The pass loaded words of the bank and did nothing else, and the version of the container stopped the look.
pub record IsStopped (o a b : ℕ) (v w : View) : Type 0 where
  pub loaded : OnlyLoaded v w
  pub part : List Act
  pub looks : AreLooks part
  pub own : w.log ≡ part ++ v.log
  pub stops : StopsAtVersion o a b part

-- What a call answers that reads a container between two loads of its version. It gave a reply, which is the one that
-- its entry has, at the counter that it loaded last, between two loads of the version that gave the same even number; or
-- it was contended. It takes no memory.
abbrev pub IsGlanceOf : ℕ → Call → View → View → Look → Type 0
IsGlanceOf o called v w (look.Done said stamp) =
    (x : Answered called said stamp.number v w) × (stamp.wrote ≡ false) × IsLastBetween o stamp.number x.part
IsGlanceOf o called v w (look.Contended a b) = IsStopped o a b v w
IsGlanceOf o called v w look.NoMemory = ⊥
