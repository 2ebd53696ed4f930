use Rattle.std.proofs.Common.{◌≡◌, ℕ, List, Bor, ◌∙◌, sym, rules, tests}
use Rattle.std.specs.List.{position}
use Rattle.std.specs.Str.{bytes_eq}
use Rattle.std.proofs.lemmas.Iterator.{YieldsList-from_slice}
use Rattle.std.proofs.lemmas.Iterator.Search.{position_from_yields_List}
use Rattle.ft_script.proofs.TokenLists.{before_found, after_found, before_missing, after_missing}
use Rattle.ft_script.proofs.tokens.split_at_word.Goals as goal

pub returns-in-Some-clause-before : goal.returns-in-Some-clause-before
returns-in-Some-clause-before c =
    let word = c.args.word.now in
    let tokens = c.args.tokens.now in
    let e : c.position.result ≡ position (λ (t : Bor (List ℕ)). bytes_eq t.now word) tokens = position_from_yields_List (λ (t : Bor (List ℕ)). bytes_eq t.now word) _ _ c.position.result c.position.ensures.ran (YieldsList-from_slice tokens cc) (λ x b q k. search (rules, tests)) in
    before_found word tokens c.in-Some.place (sym e ∙ c.in-Some.is)

pub returns-in-Some-clause-after : goal.returns-in-Some-clause-after
returns-in-Some-clause-after c =
    let word = c.args.word.now in
    let tokens = c.args.tokens.now in
    let e : c.position.result ≡ position (λ (t : Bor (List ℕ)). bytes_eq t.now word) tokens = position_from_yields_List (λ (t : Bor (List ℕ)). bytes_eq t.now word) _ _ c.position.result c.position.ensures.ran (YieldsList-from_slice tokens cc) (λ x b q k. search (rules, tests)) in
    after_found word tokens c.in-Some.place (sym e ∙ c.in-Some.is)

pub returns-in-None-clause-before : goal.returns-in-None-clause-before
returns-in-None-clause-before c =
    let word = c.args.word.now in
    let tokens = c.args.tokens.now in
    let e : c.position.result ≡ position (λ (t : Bor (List ℕ)). bytes_eq t.now word) tokens = position_from_yields_List (λ (t : Bor (List ℕ)). bytes_eq t.now word) _ _ c.position.result c.position.ensures.ran (YieldsList-from_slice tokens cc) (λ x b q k. search (rules, tests)) in
    before_missing word tokens (sym e ∙ c.in-None.is)

pub returns-in-None-clause-after : goal.returns-in-None-clause-after
returns-in-None-clause-after c =
    let word = c.args.word.now in
    let tokens = c.args.tokens.now in
    let e : c.position.result ≡ position (λ (t : Bor (List ℕ)). bytes_eq t.now word) tokens = position_from_yields_List (λ (t : Bor (List ℕ)). bytes_eq t.now word) _ _ c.position.result c.position.ensures.ran (YieldsList-from_slice tokens cc) (λ x b q k. search (rules, tests)) in
    after_missing word tokens (sym e ∙ c.in-None.is)
