use Rattle.std.proofs.Common.{◌≡◌, ℕ, suc, List, ◌∷◌}
use Rattle.ft_trace.specs.declared.Act.{Act}
use Rattle.ft_trace.specs.declared.Act.TheVariants.{ReadRoot}
use Rattle.ft_trace.specs.Addresses.{IsTableName}
use Rattle.ft_bank.specs.Passes.{shape_of, view, IsPassOf}
use Rattle.ft_bank.specs.Series.{DidAll}
use Rattle.ft_search.specs.LookSteps.{AreLookSteps, OnlyLooked}
use Rattle.ft_search.proofs.Rounding.{rounds_left}
use Rattle.ft_list.proofs.looks.find_item.Given as goal

abbrev pub invariant-rounds : goal.invariant-rounds
invariant-rounds l =
    record {
      pass : IsPassOf l.bank l.pass;
      table : (t : ℕ) → l.root ≡ suc t → IsTableName (shape_of l.bank) t;
      made : (part : List Act) × AreLookSteps part × OnlyLooked (view l.fn.pass) (view l.pass) × DidAll (ReadRoot l.o l.root ∷ part) l.fn.pass l.pass;
    }

abbrev pub decreases-rounds : goal.decreases-rounds
decreases-rounds l = rounds_left (view l.pass).log l.root
