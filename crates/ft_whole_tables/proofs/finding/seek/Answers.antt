use Rattle.std.proofs.Common.{ℕ, List, sym, subst}
use Rattle.ft_keys.specs.Accesses.{AreAnswered}
use Rattle.ft_keys.specs.Searches.{Searched}
use Rattle.ft_search.proofs.Running.{ran}
use Rattle.ft_whole_tables.proofs.finding.seek.Goals as goal

pub returns-clause-same : goal.returns-clause-same
returns-clause-same g c = let s = c.find_live.ensures.shows in (ran c.args.words.now s.calls c.find_live.new.words s.runs).0

pub returns-clause-ran : goal.returns-clause-ran
returns-clause-ran g c =
    let s = c.find_live.ensures.shows in
    (s.calls, s.runs, s.loads, subst (λ (m : ℕ). (ws : List ℕ) → AreAnswered m s.calls ws → Searched m ws c.args.key c.args.walk.now.left c.find_live.new.walk.left c.find_live.result) (sym c.requires.mask) s.shown)
