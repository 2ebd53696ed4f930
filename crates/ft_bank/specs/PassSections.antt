-- What a pass keeps of its critical sections.
use Rattle.std.specs.Prelude.{◌+◌, ◌-◌, ◌^◌, ◌==◌, ◌&&◌, ℕ, List, [], ◌∷◌, Option, None, false, min, if◌then◌else◌}
use Rattle.ft_bank.specs.declared.pass.Pass.{Pass}
use Rattle.ft_bank.specs.declared.sections.OpenSection.{OpenSection}
use Rattle.ft_bank.specs.declared.sections.Taking.{Taking}

-- What a pass keeps of its sections: those that are open, the outermost first; the locks that the call in flight took
-- itself; and the call's mark, the pass that it waited for first. (C API, critical sections)
pub record Stack : Type 0 where
  pub sections : List OpenSection
  pub own : Taking
  pub mark : Option ℕ

-- 1 where the lock of o was taken so, and else 0
abbrev pub taken_in : ℕ → Taking → ℕ
taken_in o t =
    (if t.took_lower && (t.lower == o) then 1 else 0) + (if t.took_upper && (t.upper == o) then 1 else 0)

-- how many open sections note the lock of o as taken
abbrev pub noted_in : ℕ → List OpenSection → ℕ
noted_in o [] = 0
noted_in o (s ∷ sections) = taken_in o s.locks + noted_in o sections

-- a section that has let its locks go and counts that number of marked calls more, as far as 32 bits can say it
abbrev pub suspended : ℕ → OpenSection → OpenSection
suspended marks s =
    record {
      locks = record s.locks { took_lower = false; took_upper = false };
      marks = min (s.marks + marks) (2 ^ 32 - 1);
    }

abbrev pub stack_of : Pass → Stack
stack_of p = record { sections = p.sections.value; own = p.own; mark = p.mark }

-- no lock was taken
abbrev pub nothing_taken : Taking
nothing_taken = record { lower = 0; upper = 0; took_lower = false; took_upper = false }

-- no section, no lock of a call, and no mark
abbrev pub no_sections : Stack
no_sections = record { sections = []; own = nothing_taken; mark = None }
