-- The steps by which a pass raises and drops counts of boxes. (PEP 703, "Biased Reference Counting")
use Rattle.std.specs.Prelude.{List, [], ◌∷◌}
use Rattle.ft_trace.specs.declared.Act.{Act}
use Rattle.ft_trace.specs.declared.Act.TheVariants.{ReadBox, RaiseLocal, DropLocal, ClearLocal, MergeCounts, RaiseShared, DropShared, GivePlace}
use Rattle.ft_bank.specs.declared.pass.Pass.{Pass}
use Rattle.ft_bank.specs.Series.{DidAll}

-- only loads of words of boxes, raises and drops of their counts, merges, and places given back
abbrev pub AreBoxSteps : List Act → Type 0
AreBoxSteps [] = Unit {0}
AreBoxSteps (ReadBox b i f ∷ l) = AreBoxSteps l
AreBoxSteps (RaiseLocal b x ∷ l) = AreBoxSteps l
AreBoxSteps (DropLocal b x ∷ l) = AreBoxSteps l
AreBoxSteps (ClearLocal b ∷ l) = AreBoxSteps l
AreBoxSteps (MergeCounts b d f ∷ l) = AreBoxSteps l
AreBoxSteps (RaiseShared b old f ∷ l) = AreBoxSteps l
AreBoxSteps (DropShared b f ∷ l) = AreBoxSteps l
AreBoxSteps (GivePlace b ∷ l) = AreBoxSteps l
AreBoxSteps (act ∷ l) = ⊥

-- the pass took such steps, and did nothing else
abbrev pub TookBoxSteps : Pass → Pass → Type 0
TookBoxSteps p q = (part : List Act) × AreBoxSteps part × DidAll part p q
