use Rattle.std.proofs.Common.{◌≡◌, arith, rules, tests}
use Rattle.std.proofs.lemmas.Iterator.{YieldsList-from_slice}
use Rattle.std.proofs.lemmas.Iterator.Search.{all_from_yields_List}
use Rattle.std.specs.List.{list_all}
use Rattle.ft_model.specs.Names.{is_digit}
use Rattle.ft_script.proofs.NumberLemmas.{decimal_by}
use Rattle.ft_script.proofs.replies.is_decimal.Goals as goal

pub returns-in-len1-up : goal.returns-in-len1-up
returns-in-len1-up c =
    let token = c.args.token.now in
    let all : c.all.result ≡ list_all is_digit token = all_from_yields_List is_digit _ _ c.all.result c.all.ensures.ran (YieldsList-from_slice token cc) (λ x b q k. search (rules, tests)) in
    decimal_by token c.all.result (omega arith) all
