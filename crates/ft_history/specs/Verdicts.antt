-- What a verdict says of a history. (profile)
use Rattle.std.specs.Prelude.{◌-◌, ◌≤◌, List}
use Rattle.ft_model.specs.declared.entry.Entry.{Entry}
use Rattle.ft_model.specs.declared.entry.Storage.{Storage}
use Rattle.ft_model.specs.declared.script.ScriptParts.{ScriptParts}
use Rattle.ft_model.specs.Histories.{IsLegal}
use Rattle.ft_model.specs.Judging.{IsFirstBroken}
use Rattle.ft_history.specs.declared.verdict.Verdict.{Verdict}
use Rattle.ft_history.specs.declared.verdict.Verdict.TheVariants as verdict

-- it is legal, or this is the first rule that is broken and the first place, counted from 1, where one is
abbrev pub IsVerdict : Storage → ScriptParts → List Entry → Verdict → Type 0
IsVerdict storage script entries verdict.Legal = IsLegal storage script entries
IsVerdict storage script entries (verdict.Not place rule) =
    (1 ≤ place) × IsFirstBroken storage script entries (place - 1) rule
