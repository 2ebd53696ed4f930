-- When an entry with a MemoryError is right, and when one without.
use Rattle.std.specs.Prelude.{◌≡◌, ℕ, ◌+◌, ◌-◌, ◌≤◌, true, false, List, [], ◌∷◌, Some}
use Rattle.ft_model.specs.declared.call.Call.{Call}
use Rattle.ft_model.specs.declared.reply.Reply.{Reply}
use Rattle.ft_model.specs.declared.reply.Reply.TheVariants as reply
use Rattle.ft_model.specs.declared.reply.Raise.TheVariants as raise
use Rattle.ft_model.specs.Classes.{IsClass}
use Rattle.ft_model.specs.TableUses.{CanLackMemory, would_pass, takes_in, takes_newest, stored_newest}
use Rattle.ft_trace.specs.declared.Entry.{Entry}
use Rattle.ft_trace.specs.declared.Shape.{Shape}
use Rattle.ft_trace.specs.declared.View.{View}
use Rattle.ft_trace.specs.Addresses.{tables_in}
use Rattle.ft_trace.specs.Acts.{all_entries}
use Rattle.ft_trace.specs.Causes.{CanLackPlace}
use Rattle.ft_trace.specs.ContainerStates.{first_writes}
use Rattle.ft_trace.specs.Traces.{Event, history, Valid}
use Rattle.ft_trace.specs.TraceLaws.{HasView}

-- After these writes, newest first, the call may have this reply. A MemoryError of a class stands on a call that can
-- add, raises nothing else, passes no greatest length and would take a table of the class, where writes took the tables
-- of the class but for one for each other pass. One of a content past the largest table stands exactly where the call
-- would leave that, and one of a heap on a call that would put a value in a box, and raises nothing else. (profile)
abbrev pub IsEarnedSo : Shape → List Call → Call → Reply → Type 0
IsEarnedSo k cs call (reply.Raised (raise.Memory class)) =
    CanLackMemory (stored_newest k.starts cs).world call
    × (would_pass (stored_newest k.starts cs).world call ≡ false)
    × (takes_in (stored_newest k.starts cs) call ≡ Some class)
    × IsClass class
    × (tables_in k class ≤ takes_newest k.starts class cs + (k.passes - 1))
IsEarnedSo k cs call (reply.Raised raise.Over) =
    CanLackMemory (stored_newest k.starts cs).world call × (would_pass (stored_newest k.starts cs).world call ≡ true)
IsEarnedSo k cs call (reply.Raised raise.Heap) =
    CanLackPlace (stored_newest k.starts cs).world call × (would_pass (stored_newest k.starts cs).world call ≡ false)
IsEarnedSo k cs call said = would_pass (stored_newest k.starts cs).world call ≡ false

-- each of these entries, after as many writes as its stamp says
abbrev pub AllEarned : Shape → List Call → List Entry → Type 0
AllEarned k cs [] = Unit {0}
AllEarned k cs (e ∷ es) = IsEarnedSo k (first_writes e.stamp cs) e.call e.reply × AllEarned k cs es

-- each entry with a MemoryError has its cause at its stamp, and each other passes no greatest length
abbrev pub EntriesAreEarned : Type 0
EntriesAreEarned =
    (k : Shape) (es : List Event) → Valid k es → (j : ℕ) (u : View) → HasView k es j u
    → AllEarned k (history es) (all_entries u)
