-- Where each table is, and how often it was taken, as one number that never falls: 0 free, 1 fresh in a hand, 2
-- current, 3 taken out of a root, 4 retired, 5 free again, and so on.
use Rattle.std.specs.Prelude.{ℕ, suc, ◌+◌, ◌-◌, ◌%◌, ◌==◌, Bool, cond, List, [], ◌∷◌}
use Rattle.ft_trace.specs.declared.Act.{Act}
use Rattle.ft_trace.specs.declared.Act.TheVariants.{TakeTable, GiveTable, PutRoot, Retire, ReadRoot}
use Rattle.ft_trace.specs.Bits.{bit}
use Rattle.ft_trace.specs.Addresses.{free_bit_of}
use Rattle.ft_trace.specs.Acts.{reads}
use Rattle.ft_trace.specs.Traces.{Event, did, forked, joined, sent}

abbrev pub aged : Act → ℕ → ℕ → ℕ
aged (TakeTable p f s) t g = cond (p == t) (cond (bit (free_bit_of t) f == 1) (g + 1) g) g
aged (GiveTable p) t g = cond (p == t) (g + 5 - g % 5) g
aged (PutRoot o r old) t g = cond (r == suc t) (g + 1) (cond (old == suc t) (g + 1) g)
aged (Retire p f) t g = cond (p == t) (g + 1) g
aged act t g = g

abbrev pub age : List Event → ℕ → ℕ
age [] t = 0
age (did id v a ∷ es) t = aged a t (age es t)
age (forked id v ∷ es) t = age es t
age (joined id v other w ∷ es) t = age es t
age (sent id v given ∷ es) t = age es t

-- the seat that has it, or the container whose root names it; of a table that went over at a join the seat before
abbrev pub gone_to : ℕ → Act → ℕ → ℕ → ℕ
gone_to id (TakeTable p f s) t w = cond (p == t) (cond (bit (free_bit_of t) f == 1) id w) w
gone_to id (PutRoot o r old) t w = cond (r == suc t) o (cond (old == suc t) id w)
gone_to id act t w = w

abbrev pub whose : List Event → ℕ → ℕ
whose [] t = 0
whose (did id v a ∷ es) t = gone_to id a t (whose es t)
whose (forked id v ∷ es) t = whose es t
whose (joined id v other w ∷ es) t = whose es t
whose (sent id v given ∷ es) t = whose es t

-- the age that the table had when the pass at seat j found it in a root, for the first time since it last announced
abbrev pub seen_next : Act → Bool → ℕ → ℕ → ℕ → ℕ
seen_next (ReadRoot o f) r t g s = cond (f == suc t) (cond r s g) s
seen_next act r t g s = s

abbrev pub seen : List Event → ℕ → ℕ → ℕ
seen [] j t = 0
seen (did id v a ∷ es) j t = cond (id == j) (seen_next a (reads t v.log) t (age es t) (seen es j t)) (seen es j t)
seen (forked id v ∷ es) j t = seen es j t
seen (joined id v other w ∷ es) j t = seen es j t
seen (sent id v given ∷ es) j t = seen es j t

-- all actions, newest first
abbrev pub all_acts : List Event → List Act
all_acts [] = []
all_acts (did id v a ∷ es) = a ∷ all_acts es
all_acts (forked id v ∷ es) = all_acts es
all_acts (joined id v other w ∷ es) = all_acts es
all_acts (sent id v given ∷ es) = all_acts es
