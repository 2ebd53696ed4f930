-- That in the order of the turns each call that is awaited stands before the call that awaits it.
use Rattle.std.specs.Prelude.{◌≡◌, ℕ, ◌≤◌, List, [], ◌∷◌, ◌++◌, length, Some}
use Rattle.ft_model.specs.declared.script.ScriptParts.{ScriptParts}
use Rattle.ft_model.specs.Scripts.{IsScript}
use Rattle.ft_turns.specs.Orders.{last_machine, Awaited, awaited}
use Rattle.ft_turns.specs.Ends.{places_of}

-- after these calls an await has its answer fixed: so many of the thread that it names are among them
abbrev pub AwaitsDone : ScriptParts → List (ℕ × ℕ) → ℕ × ℕ → Type 0
AwaitsDone script seen called =
    (one : Awaited) → awaited script called.0 called.1 ≡ Some one → one.index ≤ length (places_of one.thread seen)

-- of these, after those
abbrev pub AreAwaitsDone : ScriptParts → List (ℕ × ℕ) → List (ℕ × ℕ) → Type 0
AreAwaitsDone script seen [] = Unit {0}
AreAwaitsDone script seen (called ∷ answered) =
    AwaitsDone script seen called × AreAwaitsDone script (seen ++ called ∷ []) answered

abbrev pub AwaitedCallsComeFirst : Type 0
AwaitedCallsComeFirst =
    (script : ScriptParts) → IsScript script → AreAwaitsDone script [] (last_machine script).answered
