use Rattle.std.proofs.Common.{Bool, subst, sym}
use Rattle.std.specs.Prelude.{if◌then◌else◌}
use Rattle.ft_bank.specs.Passes.{view}
use Rattle.ft_section.specs.Locking.{LetGo, MayLetGo, at_one}
use Rattle.ft_section.proofs.Releases.{let_none}
use Rattle.ft_section.proofs.letting.let_go_where.Goals as goal

pub let_one_go-requires : goal.let_one_go-requires
let_one_go-requires c =
    subst (λ (b : Bool). MayLetGo (λ p. if b then at_one c.args.o p else 0) c.args.bank.now c.args.pass.now) c.if-taken.true c.requires

pub returns-then-taken-clause-go : goal.returns-then-taken-clause-go
returns-then-taken-clause-go c =
    subst (λ (b : Bool). LetGo (λ p. if b then at_one c.args.o p else 0) (view c.args.pass.now) (view c.let_one_go.new.pass)) (sym c.if-taken.true) c.let_one_go.ensures.go

pub returns-else-taken-clause-go : goal.returns-else-taken-clause-go
returns-else-taken-clause-go c =
    let v = view c.args.pass.now in
    subst (λ (b : Bool). LetGo (λ p. if b then at_one c.args.o p else 0) v v) (sym c.if-taken.false) (let_none v)
