-- Sections let their locks go one after the other.
use Rattle.std.proofs.Common.{◌≢◌, ◌<◌, ◌+◌, ℕ, List, length, get_or, take, sym, ap, ◌∙◌, arith}
use Rattle.ft_bank.specs.declared.bank.Bank.{Bank}
use Rattle.ft_bank.specs.declared.pass.Pass.{Pass}
use Rattle.ft_bank.specs.declared.sections.OpenSection.{OpenSection}
use Rattle.ft_bank.specs.Passes.{view}
use Rattle.ft_bank.specs.PassSections.{Stack, taken_in, noted_in}
use Rattle.ft_section.specs.Locking.{KeepsStack, LetGo, MayLetGo}
use Rattle.ft_section.proofs.Notes.{noted_before, noted_all, noted_more}
use Rattle.ft_section.proofs.Releases.{let_then, let_as}

-- where the sections before a place have let their locks go, the one there may
pub may_go : (b : Bank) (p q : Pass) (xs : List OpenSection) (i : ℕ) (d : OpenSection) → i < length xs → MayLetGo (λ o. noted_in o xs) b p → KeepsStack p q → LetGo (λ o. noted_in o (take i xs)) (view p) (view q) → MayLetGo (λ o. taken_in o (get_or xs i d).locks) b q
may_go b p q xs i d within may same go =
    let part : (o : ℕ) → taken_in o (get_or xs i d).locks ≢ 0 → noted_in o xs ≢ 0 = λ o some_one none.
    some_one (let a = noted_all o xs i in let m = noted_more o xs i d within in omega (arith, a, m, none)) in
    record {
      pass = (same.0 ∙ may.pass.0, go.locked.shape ∙ may.pass.1);
      even = λ o. go.locked.writes o ∙ may.even o;
      low = λ o some_one. may.low o (part o some_one);
      count = λ o. let a = noted_all o xs i in let m = noted_more o xs i d within in let c = go.count o in let k = may.count o in omega (arith, a, m, c, k);
      struck = λ o some_one. ap (λ (s : Stack). noted_in o s.sections) same.1 ∙ may.struck o (part o some_one);
    }

pub gone : (p q r : Pass) (xs : List OpenSection) (i : ℕ) (d : OpenSection) → i < length xs → LetGo (λ o. noted_in o (take i xs)) (view p) (view q) → LetGo (λ o. taken_in o (get_or xs i d).locks) (view q) (view r) → LetGo (λ o. noted_in o (take (i + 1) xs)) (view p) (view r)
gone p q r xs i d within before this =
    let_as (view p) (view r) (λ o. noted_in o (take i xs) + taken_in o (get_or xs i d).locks) (λ o. noted_in o (take (i + 1) xs)) (λ o. sym (noted_before o xs i d within))
    (let_then (view p) (view q) (view r) (λ o. noted_in o (take i xs)) (λ o. taken_in o (get_or xs i d).locks) before this)
