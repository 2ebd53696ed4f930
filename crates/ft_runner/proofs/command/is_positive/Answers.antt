use Rattle.std.proofs.Common.{◌≡◌, ◌-◌, length, take, drop, arith, rules, tests}
use Rattle.std.proofs.lemmas.Iterator.{YieldsList-from_slice}
use Rattle.std.proofs.lemmas.Iterator.Search.{all_from_yields_List}
use Rattle.std.specs.List.{list_all}
use Rattle.ft_model.specs.Names.{is_digit}
use Rattle.ft_script.proofs.WordLemmas.{is_positive-rest}
use Rattle.ft_runner.proofs.command.is_positive.Goals as goal

pub returns-in-49-to-57 : goal.returns-in-49-to-57
returns-in-49-to-57 c =
    let word = c.args.word.now in
    let rest = take (length word - 1) (drop 1 word) in
    let all : c.all.result ≡ list_all is_digit rest = all_from_yields_List is_digit _ _ c.all.result c.all.ensures.ran (YieldsList-from_slice rest cc) (λ x b q k. search (rules, tests)) in
    is_positive-rest word c.all.result (omega arith) (omega arith) (omega arith) all
