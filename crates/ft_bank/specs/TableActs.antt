-- What a pass did to tables, as its log tells it.
use Rattle.std.specs.Prelude.{List, [], ◌∷◌}
use Rattle.ft_trace.specs.declared.Act.{Act}
use Rattle.ft_trace.specs.declared.Act.TheVariants.{LowerCount, RaiseCount, TakeTable, GiveTable, Retire, Announce}

abbrev pub table_acts_next : Act → List Act → List Act
table_acts_next (LowerCount c old f) acts = LowerCount c old f ∷ acts
table_acts_next (RaiseCount c f) acts = RaiseCount c f ∷ acts
table_acts_next (TakeTable t f s) acts = TakeTable t f s ∷ acts
table_acts_next (GiveTable t) acts = GiveTable t ∷ acts
table_acts_next (Retire t f) acts = Retire t f ∷ acts
table_acts_next (Announce p x) acts = Announce p x ∷ acts
table_acts_next act acts = acts

-- The newest first: the counts of free tables that it tried to lower and raised, the tables that it tried to take, gave
-- back and retired, and the numbers that it announced.
abbrev pub table_acts : List Act → List Act
table_acts [] = []
table_acts (act ∷ log) = table_acts_next act (table_acts log)
