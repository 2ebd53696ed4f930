use Rattle.ft_bank.specs.Passes.{view}
use Rattle.ft_bank.specs.PassSections.{taken_in, noted_in}
use Rattle.ft_section.proofs.Releases.{let_then}
use Rattle.ft_section.proofs.letting.let_each_go.Goals as goal

pub returns-clause-go : goal.returns-clause-go
returns-clause-go c =
    let_then (view c.args.pass.now) (view c.let_all_go.new.pass) (view c.let_taking_go.new.pass) (λ o. noted_in o c.args.sections.now) (λ o. taken_in o c.args.taking) c.let_all_go.ensures.go c.let_taking_go.ensures.go
