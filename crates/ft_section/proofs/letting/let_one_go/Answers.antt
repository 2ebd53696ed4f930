use Rattle.std.proofs.Common.{◌≡◌, true, subst, sym, arith}
use Rattle.ft_section.specs.Locking.{LetGo, at_one}
use Rattle.ft_bank.specs.Passes.{view}
use Rattle.ft_trace.specs.Acts.{has_lock}
use Rattle.ft_section.proofs.InCalls.{has_counted}
use Rattle.ft_section.proofs.Releases.{at_self, let_one}
use Rattle.ft_section.proofs.letting.let_one_go.Goals as goal

pub unlock-requires-clause-container : goal.unlock-requires-clause-container
unlock-requires-clause-container c = c.requires.low c.args.o (at_self c.args.o)

pub returns-clause-go : goal.returns-clause-go
returns-clause-go c =
    let v = view c.args.pass.now in
    let o = c.args.o in
    let has : has_lock o v.log ≡ true = has_counted o v (λ none. at_self o (let a = c.requires.count o in omega (arith, a, none))) in
    subst (LetGo (at_one o) v) (sym c.unlock.ensures.1) (let_one v o has)
