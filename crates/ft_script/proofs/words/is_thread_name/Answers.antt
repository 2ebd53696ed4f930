use Rattle.std.proofs.Common.{◌≡◌, ◌-◌, length, take, drop, arith, rules, tests}
use Rattle.std.proofs.lemmas.Iterator.{YieldsList-from_slice}
use Rattle.std.proofs.lemmas.Iterator.Search.{all_from_yields_List}
use Rattle.std.specs.List.{list_all}
use Rattle.ft_model.specs.Names.{is_thread_byte}
use Rattle.ft_script.proofs.WordLemmas.{is_thread_name-rest}
use Rattle.ft_script.proofs.words.is_thread_name.Goals as goal

pub returns-then-all : goal.returns-then-all
returns-then-all c =
    let word = c.args.word.now in
    let rest = take (length word - 1) (drop 1 word) in
    let all : c.all.result ≡ list_all is_thread_byte rest = all_from_yields_List is_thread_byte _ _ c.all.result c.all.ensures.ran (YieldsList-from_slice rest cc) (λ x b q k. search (rules, tests)) in
    is_thread_name-rest word c.all.result (omega arith) (omega arith) (omega arith) all c.if-all.true
