-- What a call that has its answer leaves of its caller's sections, before the innermost one is taken up again.
use Rattle.std.specs.Prelude.{◌≡◌, List, [], ◌∷◌, ◌++◌}
use Rattle.ft_model.specs.declared.call.Call.{Call}
use Rattle.ft_model.specs.declared.call.Call.TheVariants as call
use Rattle.ft_bank.specs.declared.sections.OpenSection.{OpenSection}
use Rattle.ft_bank.specs.declared.sections.Taking.{Taking}
use Rattle.ft_bank.specs.PassSections.{Stack, nothing_taken}
use Rattle.ft_section.specs.declared.answers.Objects.{Objects}
use Rattle.ft_section.specs.Locking.{with_own}
use Rattle.ft_section.specs.Sectioning.{AreNoted}
use Rattle.ft_table_calls.specs.TriesUnderLocks.{objects_by}

-- a section on these containers is open more, the innermost: it has noted the locks that its `begin` took, and none of
-- its calls has waited (C API, critical sections)
abbrev pub Opens : Objects → Stack → Stack → Type 0
Opens objects s t =
    (own : Taking) × AreNoted objects own
    × (t ≡ record s { sections = s.sections ++ record { locks = own; marks = 0 } ∷ []; own = nothing_taken })

-- the innermost section isn't open any more (C API, critical sections)
abbrev pub Closes : Stack → Stack → Type 0
Closes s t =
    (outer : List OpenSection) × (top : OpenSection) × (s.sections ≡ outer ++ top ∷ [])
    × (t ≡ record s { sections = outer })

-- the sections after the answer of a call: any other call leaves them, and has let go of the locks that it took itself
abbrev pub StackAfter : Call → Stack → Stack → Type 0
StackAfter (call.Begin first second) s t = Opens (objects_by first second) s t
StackAfter call.End s t = Closes s t
StackAfter (call.Dict o dc) s t = t ≡ with_own s nothing_taken
StackAfter (call.List o lc) s t = t ≡ with_own s nothing_taken
StackAfter (call.Set o sc) s t = t ≡ with_own s nothing_taken
StackAfter (call.Deque o qc) s t = t ≡ with_own s nothing_taken
StackAfter (call.Next number) s t = t ≡ with_own s nothing_taken
StackAfter call.Quiesce s t = t ≡ with_own s nothing_taken
StackAfter (call.Await thread index) s t = t ≡ with_own s nothing_taken
StackAfter call.Dump s t = t ≡ with_own s nothing_taken
