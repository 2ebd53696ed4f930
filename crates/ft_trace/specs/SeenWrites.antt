-- What passes have seen of each other's writes: by notes, by joins and by the counter.
use Rattle.std.specs.Prelude.{◌≡◌, ℕ, ◌≤◌, List, ◌∷◌, ◌++◌}
use Rattle.ft_model.specs.declared.call.Call.{Call}
use Rattle.ft_model.specs.declared.reply.Reply.{Reply}
use Rattle.ft_trace.specs.declared.Act.{Act}
use Rattle.ft_trace.specs.declared.Act.TheVariants.{Commit, ReadCounter}
use Rattle.ft_trace.specs.declared.Shape.{Shape}
use Rattle.ft_trace.specs.declared.Snap.{Snap}
use Rattle.ft_trace.specs.declared.View.{View}
use Rattle.ft_trace.specs.Addresses.{counter}
use Rattle.ft_trace.specs.Acts.{seen_writes, view_after, both, sender, note, shown}
use Rattle.ft_trace.specs.TraceLaws.{HasView}
use Rattle.ft_trace.specs.Traces.{Event, did, word, Valid}

-- No pass has seen more writes than there are, and no note says more. So the next load of the counter gives a pass at
-- least the number of writes that it has seen, and its next write gets at least that number.
abbrev pub SeenIsLow : Type 0
SeenIsLow =
    (k : Shape) (es : List Event) → Valid k es
    → ((j : ℕ) (u : View) → HasView k es j u → seen_writes u ≤ word k es counter)
    × ((id n : ℕ) (v : View) → Valid k (did id v (ReadCounter n) ∷ es) → seen_writes v ≤ n)
    × ((id n : ℕ) (v : View) (c : Call) (r : Reply) (s : Snap) → Valid k (did id v (Commit c r n s) ∷ es)
    → seen_writes v ≤ n)

-- What a pass has seen never falls, and a note says all that its maker has seen. Who takes in a pass or a note has seen
-- all that the other had: so two that meet stand in one history that begins with what each had seen.
pub record SeenIsHandedOn : Type 0 where
  pub acts : (a : Act) (v : View) → seen_writes v ≤ seen_writes (view_after a v)
  pub notes : (given : ℕ) (v : View) → seen_writes (note given v) ≡ seen_writes v
  pub senders : (given : ℕ) (v : View) → seen_writes (sender given v) ≡ seen_writes v
  pub own : (v w : View) → seen_writes v ≤ seen_writes (both v w)
  pub others : (v w : View) → seen_writes w ≤ seen_writes (both v w)

-- each load of the counter gives at least the number of writes that the log showed before it
abbrev pub LoadsSeeAll : Type 0
LoadsSeeAll =
    (k : Shape) (es : List Event) → Valid k es → (j : ℕ) (u : View) → HasView k es j u → (newer rest : List Act) (n : ℕ)
    → u.log ≡ newer ++ ReadCounter n ∷ rest → shown rest ≤ n
