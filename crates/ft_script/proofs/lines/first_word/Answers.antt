use Rattle.std.proofs.Common.{ℕ, not, eqb, List, length, rules, tests}
use Rattle.std.proofs.lemmas.Iterator.Search.{find_from_yields_List}
use Rattle.std.proofs.lemmas.Iterator.Splits.{YieldsList-from_slice_split}
use Rattle.ft_script.proofs.lines.first_word.Goals as goal

pub returns : goal.returns
returns c =
    find_from_yields_List (λ (word : List ℕ). not (eqb (length word) 0)) _ _ c.find.result c.find.ensures.ran
    (YieldsList-from_slice_split _ (λ (b : ℕ). eqb b 32) c.args.line.now c.split.ensures.rest c.split.ensures.done c.split.ensures.closure (λ x b q k. search (rules, tests)))
    (λ x b q k. search (rules, tests))
