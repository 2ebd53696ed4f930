-- Each MemoryError of a heap stands after as many writes of its pass that put a value in a box as its heap has places.
use Rattle.std.specs.Prelude.{◌≡◌, ℕ, ◌≤◌, ◌&&◌, Bool, All, List, [], ◌∷◌, reverse, take}
use Rattle.std.specs.List.{count_by}
use Rattle.ft_model.specs.declared.call.Call.{Call}
use Rattle.ft_model.specs.declared.reply.Reply.TheVariants as reply
use Rattle.ft_model.specs.declared.reply.Raise.TheVariants as raise
use Rattle.ft_model.specs.declared.script.Start.{Start}
use Rattle.ft_model.specs.Answers.{world_by}
use Rattle.ft_model.specs.Boxings.{boxes}
use Rattle.ft_trace.specs.declared.Entry.{Entry}
use Rattle.ft_trace.specs.declared.Shape.{Shape}
use Rattle.ft_trace.specs.declared.View.{View}
use Rattle.ft_trace.specs.Acts.{all_lists}
use Rattle.ft_trace.specs.TraceLaws.{HasView}
use Rattle.ft_trace.specs.Traces.{Event, history, Valid}

-- whether the entry is a write that put a value in a box, where the calls are all writes in their order
abbrev pub has_boxed : List Start → List Call → Entry → Bool
has_boxed starts calls e = e.wrote && boxes (world_by starts (take e.stamp calls)) e.call

-- Entries of one pass, newest first: before each MemoryError of a heap it made at least as many such writes as its heap
-- has places, since none of the places was free and each that isn't was stored by a write of its own. (profile)
abbrev pub HeapErrorsFollowBoxings : Shape → List Call → List Entry → Type 0
HeapErrorsFollowBoxings k calls [] = Unit {0}
HeapErrorsFollowBoxings k calls (e ∷ before) =
    (e.reply ≡ reply.Raised raise.Heap → k.heap ≤ count_by (has_boxed k.starts calls) before)
    × HeapErrorsFollowBoxings k calls before

-- those of each pass, those that a view took in with others as well as its own
abbrev pub HeapErrorsAreEarned : Type 0
HeapErrorsAreEarned =
    (k : Shape) (es : List Event) → Valid k es → (j : ℕ) (u : View) → HasView k es j u
    → All (HeapErrorsFollowBoxings k (reverse (history es))) (all_lists u)
