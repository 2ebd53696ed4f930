use Rattle.std.proofs.Common.{◌≡◌, ◌∙◌, sym, rules, tests, eqb}
use Rattle.std.specs.List.{position}
use Rattle.std.proofs.lemmas.Iterator.{YieldsList-from_slice}
use Rattle.std.proofs.lemmas.Iterator.Search.{position_from_yields_List}
use Rattle.ft_script.proofs.LineSplits.{split_found, split_missing}
use Rattle.ft_script.proofs.transcript.split_line.Goals as goal

pub returns-in-Some : goal.returns-in-Some
returns-in-Some c =
    let text = c.args.text.now in
    let e : c.position.result ≡ position (λ b. eqb b 10) text = position_from_yields_List (λ b. eqb b 10) _ _ c.position.result c.position.ensures.ran (YieldsList-from_slice text cc) (λ x b q k. search (rules, tests)) in
    split_found text c.in-Some.feed (sym e ∙ c.in-Some.is)

pub returns-in-None : goal.returns-in-None
returns-in-None c =
    let text = c.args.text.now in
    let e : c.position.result ≡ position (λ b. eqb b 10) text = position_from_yields_List (λ b. eqb b 10) _ _ c.position.result c.position.ensures.ran (YieldsList-from_slice text cc) (λ x b q k. search (rules, tests)) in
    split_missing text (sym e ∙ c.in-None.is)
