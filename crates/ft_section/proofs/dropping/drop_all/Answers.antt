use Rattle.std.proofs.Common.{◌+◌, List, sym, ◌∙◌, subst}
use Rattle.ft_bank.specs.declared.sections.OpenSection.{OpenSection}
use Rattle.ft_bank.specs.declared.sections.Taking.{Taking}
use Rattle.ft_bank.specs.Passes.{view}
use Rattle.ft_bank.specs.PassSections.{stack_of, taken_in, noted_in}
use Rattle.ft_section.specs.Locking.{LetGo, MayLetGo}
use Rattle.ft_section.proofs.Droppings.{all_noted, may_drop, none_left, dropped}
use Rattle.ft_trace.specs.declared.View.{View}
use Rattle.ft_section.proofs.dropping.drop_all.Goals as goal
use Rattle.ft_section.proofs.dropping.drop_all.Goals.{After-let_each_go}

pub let_each_go-requires : goal.let_each_go-requires
let_each_go-requires c =
    let b = c.args.bank.now in
    let q = c.forget.new.pass in
    let s = stack_of c.args.pass.now in
    let noted = c.as_slice.ensures.«open» ∙ (c.copied-sections.ensures ∙ c.sections.ensures) in
    let k = c.forget.ensures.view in
    subst (λ (xs : List OpenSection). MayLetGo (λ o. noted_in o xs + taken_in o c.own-own.result) b q) (sym noted)
    (subst (λ (t : Taking). MayLetGo (λ o. noted_in o s.sections + taken_in o t) b q) (sym c.own-own.ensures) (may_drop b c.args.pass.now q c.requires k.0 k.1 c.forget.ensures.stack))

-- the locks that it noted are let go
gone : (c : After-let_each_go) → LetGo (all_noted (stack_of c.args.pass.now)) (view c.args.pass.now) (view c.let_each_go.new.pass)
gone c =
    let v = view c.forget.new.pass in
    let w = view c.let_each_go.new.pass in
    let s = stack_of c.args.pass.now in
    let noted = c.as_slice.ensures.«open» ∙ (c.copied-sections.ensures ∙ c.sections.ensures) in
    subst (λ (x : View). LetGo (all_noted s) x w) c.forget.ensures.view.1
    (subst (λ (t : Taking). LetGo (λ o. noted_in o s.sections + taken_in o t) v w) c.own-own.ensures
    (subst (λ (xs : List OpenSection). LetGo (λ o. noted_in o xs + taken_in o c.own-own.result) v w) noted c.let_each_go.ensures.go))

pub returns-clause-free : goal.returns-clause-free
returns-clause-free c = none_left (view c.args.pass.now) (view c.let_each_go.new.pass) (stack_of c.args.pass.now) c.requires.1 (gone c)

pub returns-clause-ready : goal.returns-clause-ready
returns-clause-ready c =
    let k = c.let_each_go.ensures.stack in
    dropped c.args.bank.now c.args.pass.now c.let_each_go.new.pass c.requires (k.0 ∙ c.forget.ensures.view.0) (k.1 ∙ c.forget.ensures.stack) (gone c)

pub returns-clause-owners : goal.returns-clause-owners
returns-clause-owners c = (gone c).owners
