use Rattle.std.proofs.Common.{◌≡◌, ◌≤◌, List, ◌∷◌, drop, ℕ, length}
use Rattle.ft_trace.specs.declared.Act.{Act}
use Rattle.ft_bank.specs.Passes.{shape_of}
use Rattle.ft_bank.specs.TableNames.{table_id}
use Rattle.ft_search.specs.LookSteps.{CanLook}
use Rattle.ft_search.specs.TableWords.{SamePlace}
use Rattle.ft_search.specs.SearchCosts.{MayWalkOn, SpendsSearch}
use Rattle.ft_search.specs.Rounds.{Walked, TurnsAfter}
use Rattle.std.specs.Prelude.{None}
use Rattle.ft_search.proofs.rounds.search_walk.Given as goal

abbrev pub invariant-walk : goal.invariant-walk
invariant-walk l =
    record {
      can : CanLook l.words;
      same : SamePlace l.fn.words l.words;
      mask : l.words.mask ≡ l.walk.mask;
      front : l.walk.left ≡ l.slot ∷ drop 1 l.walk.left;
      low : l.slot ≤ l.walk.mask;
      turns : (earlier : List Act) → Walked (shape_of l.fn.words.bank.now) l.fn.words.o (table_id l.fn.words.table) l.key earlier l.fn.walk.left
          → TurnsAfter (shape_of l.fn.words.bank.now) l.fn.words.o (table_id l.fn.words.table) l.key earlier l.walk.left None l.fn.words.pass.now l.words.pass.now;
      spends : (walked : List ℕ) (acts : List Act) → MayWalkOn (table_id l.fn.words.table) walked acts l.fn.walk.left
          → SpendsSearch (table_id l.fn.words.table) walked acts l.walk.left None l.fn.words.pass.now l.words.pass.now;
    }

abbrev pub decreases-walk : goal.decreases-walk
decreases-walk l = length l.walk.left
