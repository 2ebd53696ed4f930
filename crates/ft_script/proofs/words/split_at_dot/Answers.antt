use Rattle.std.proofs.Common.{◌≡◌, ◌∙◌, sym, rules, tests, eqb}
use Rattle.std.specs.List.{position}
use Rattle.std.proofs.lemmas.Iterator.{YieldsList-from_slice}
use Rattle.std.proofs.lemmas.Iterator.Search.{position_from_yields_List}
use Rattle.ft_script.proofs.TokenLists.{before_some, after_some, before_no, after_no}
use Rattle.ft_script.proofs.words.split_at_dot.Goals as goal

pub returns-in-Some-clause-before : goal.returns-in-Some-clause-before
returns-in-Some-clause-before c =
    let token = c.args.token.now in
    let e : c.position.result ≡ position (λ b. eqb b 46) token = position_from_yields_List (λ b. eqb b 46) _ _ c.position.result c.position.ensures.ran (YieldsList-from_slice token cc) (λ x b q k. search (rules, tests)) in
    before_some (λ b. eqb b 46) token c.in-Some.dot (sym e ∙ c.in-Some.is)

pub returns-in-Some-clause-after : goal.returns-in-Some-clause-after
returns-in-Some-clause-after c =
    let token = c.args.token.now in
    let e : c.position.result ≡ position (λ b. eqb b 46) token = position_from_yields_List (λ b. eqb b 46) _ _ c.position.result c.position.ensures.ran (YieldsList-from_slice token cc) (λ x b q k. search (rules, tests)) in
    after_some (λ b. eqb b 46) token c.in-Some.dot (sym e ∙ c.in-Some.is)

pub returns-in-None-clause-before : goal.returns-in-None-clause-before
returns-in-None-clause-before c =
    let token = c.args.token.now in
    let e : c.position.result ≡ position (λ b. eqb b 46) token = position_from_yields_List (λ b. eqb b 46) _ _ c.position.result c.position.ensures.ran (YieldsList-from_slice token cc) (λ x b q k. search (rules, tests)) in
    before_no (λ b. eqb b 46) token (sym e ∙ c.in-None.is)

pub returns-in-None-clause-after : goal.returns-in-None-clause-after
returns-in-None-clause-after c =
    let token = c.args.token.now in
    let e : c.position.result ≡ position (λ b. eqb b 46) token = position_from_yields_List (λ b. eqb b 46) _ _ c.position.result c.position.ensures.ran (YieldsList-from_slice token cc) (λ x b q k. search (rules, tests)) in
    after_no (λ b. eqb b 46) token (sym e ∙ c.in-None.is)
