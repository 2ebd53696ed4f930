-- What stays of a table's index while a pass that found it in a root loads its words. (profile)
use Rattle.std.specs.Prelude.{◌≡◌, ℕ, suc, ◌<◌, List, ◌∷◌, ◌++◌}
use Rattle.ft_trace.specs.declared.Act.{Act}
use Rattle.ft_trace.specs.declared.Act.TheVariants.{ReadRoot, ReadTable}
use Rattle.ft_trace.specs.declared.View.{View}
use Rattle.ft_trace.specs.Addresses.{class_of, slots}
use Rattle.ft_trace.specs.LoggedLookUps.{Online}
use Rattle.ft_trace.specs.Kinds.{IsKeyed}
use Rattle.ft_trace.specs.ContainerStates.{kind_in}

-- An index word that the pass found used it finds the same ever after, where the root of the dict or set named the
-- table before and the pass has announced nothing in between, whether the root names the table still or not.
abbrev pub UsedSlotsStay : View → Type 0
UsedSlotsStay v =
    (o t slot later earlier : ℕ) (newer mid inner rest : List Act) → IsKeyed (kind_in v.shape.starts o)
    → slot < slots (class_of t)
    → v.log ≡ newer ++ ReadTable t slot later ∷ (mid ++ ReadTable t slot (suc earlier) ∷ (inner
    ++ ReadRoot o (suc t) ∷ rest))
    → Online mid → Online inner → later ≡ suc earlier
