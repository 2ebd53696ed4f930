use Rattle.std.proofs.Common.{◌+◌, ℕ}
use Rattle.std.specs.Prelude.{if◌then◌else◌}
use Rattle.ft_bank.specs.Passes.{view}
use Rattle.ft_bank.specs.PassSections.{taken_in}
use Rattle.ft_section.specs.Locking.{at_one}
use Rattle.ft_section.proofs.Releases.{let_then, let_as, two_taken}
use Rattle.ft_section.proofs.letting.let_taking_go.Goals as goal

pub returns-clause-go : goal.returns-clause-go
returns-clause-go c =
    let t = c.args.taking in
    let f : ℕ → ℕ = λ p. if t.took_lower then at_one t.lower p else 0 in
    let g : ℕ → ℕ = λ p. if t.took_upper then at_one t.upper p else 0 in
    let_as (view c.args.pass.now) (view c.let_go_where-2.new.pass) (λ o. f o + g o) (λ o. taken_in o t) (λ o. two_taken o t)
    (let_then (view c.args.pass.now) (view c.let_go_where.new.pass) (view c.let_go_where-2.new.pass) f g c.let_go_where.ensures.go c.let_go_where-2.ensures.go)
