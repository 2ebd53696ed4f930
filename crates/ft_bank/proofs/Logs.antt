-- Logs that only grow.
use Rattle.std.proofs.Common.{◌≡◌, List, [], ◌∷◌, ◌++◌, refl, sym, ap, subst, inl, inr, ⊎_elim}
use Rattle.ft_trace.specs.declared.Act.{Act}
use Rattle.ft_trace.specs.declared.View.{View}
use Rattle.ft_bank.specs.Logs.{HasGrown, WasLog}
use Rattle.ft_bank.specs.Series.{noted_all}

was_now : (log : List Act) → WasLog log log
was_now [] = refl
was_now (a ∷ log) = inl refl

-- it has grown by what is newer
was_then : (newer log old : List Act) → WasLog old log → WasLog old (newer ++ log)
was_then [] log old was = was
was_then (a ∷ newer) log old was = inr (was_then newer log old was)

pub grown_by : (newer : List Act) (v w : View) → w.log ≡ newer ++ v.log → HasGrown v w
grown_by newer v w is old was = subst (WasLog old) (sym is) (was_then newer v.log old was)

pub noted_grown : (acts : List Act) (v w : View) → w ≡ noted_all acts v → HasGrown v w
noted_grown acts v w is old was = subst (λ (u : View). WasLog old u.log) (sym is) (all acts)
  where
    all : (acts : List Act) → WasLog old (noted_all acts v).log
    all [] = was
    all (a ∷ acts) = inr (all acts)

-- what is newer than an earlier log
newer_than : (log old : List Act) → WasLog old log → (newer : List Act) × (log ≡ newer ++ old)
newer_than [] old was = ([], sym was)
newer_than (a ∷ log) old was =
    ⊎_elim
    (λ (is : old ≡ a ∷ log). ([], sym is))
    (λ (more : WasLog old log). let r = newer_than log old more in (a ∷ r.0, ap (λ (l : List Act). a ∷ l) r.1))
    was

pub newer_part : (v w : View) → HasGrown v w → (newer : List Act) × (w.log ≡ newer ++ v.log)
newer_part v w grown = newer_than w.log v.log (grown v.log (was_now v.log))
