-- The count word of a class against the bits of its tables, and the takings and givings in flight.
use Rattle.std.specs.Prelude.{ℕ, suc, ◌+◌, ◌-◌, ◌*◌, ◌==◌, cond, List, [], ◌∷◌}
use Rattle.ft_trace.specs.declared.Shape.{Shape}
use Rattle.ft_trace.specs.declared.View.{View}
use Rattle.ft_trace.specs.declared.Act.{Act}
use Rattle.ft_trace.specs.declared.Act.TheVariants.{Commit}
use Rattle.ft_trace.specs.Bits.{bit}
use Rattle.ft_trace.specs.Addresses.{bits}
use Rattle.ft_trace.specs.Acts.{flight, owes}
use Rattle.ft_trace.specs.Sums.{sum_to}
use Rattle.ft_trace.specs.Traces.{Event, did, forked, joined, sent, word}

-- how many bits of a word are set, and of the sixteen free words of the class
abbrev pub ones : ℕ → ℕ
ones n = sum_to (λ b. bit b n) 64

abbrev pub word_bits : Shape → List Event → ℕ → ℕ
word_bits k es c = sum_to (λ j. ones (word k es (bits (16 * (c - 3) + j)))) 16

-- a taking of the class in flight: it has lowered the count, and has neither a bit nor raised it again
abbrev pub taking : ℕ → View → ℕ
taking c u = cond (flight u.log == 2 * c + 1) 1 0

-- a giving in flight: it has set its bit, and not raised the count
abbrev pub giving : ℕ → View → ℕ
giving c u = cond (flight u.log == 2 * c + 2) 1 0

-- the view has lowered the count since its last commit, and has not raised it again
abbrev pub owing : ℕ → View → ℕ
owing c u = cond (owes u.log == suc c) 1 0

-- how many commits were of passes that had lowered the count of the class
abbrev pub took_next : ℕ → View → Act → ℕ → ℕ
took_next c v (Commit d r f s) n = owing c v + n
took_next c v act n = n

abbrev pub took : ℕ → List Event → ℕ
took c [] = 0
took c (did id v a ∷ es) = took_next c v a (took c es)
took c (forked id v ∷ es) = took c es
took c (joined id v other w ∷ es) = took c es
took c (sent id v given ∷ es) = took c es
