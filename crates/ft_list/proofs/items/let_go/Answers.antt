use Rattle.std.proofs.Common.{subst}
use Rattle.ft_trace.specs.declared.Shape.{Shape}
use Rattle.ft_trace.specs.Addresses.{IsBoxName}
use Rattle.ft_bank.specs.Passes.{view}
use Rattle.ft_search.proofs.Overs.{boxed_held}
use Rattle.ft_search.proofs.Owning.{held_is_box}
use Rattle.ft_list.proofs.items.let_go.Goals as goal

pub release-requires-clause-name : goal.release-requires-clause-name
release-requires-clause-name c =
    let v = view c.args.pass.now in
    subst (λ (z : Shape). IsBoxName z c.args.value.1) c.requires.pass.1 (held_is_box v c.args.value.1 c.args.pass.now.possible (c.requires.own c.if-value-eq-BOX_KIND.true).0)

pub returns-then-value-eq-BOX_KIND-clause-words : goal.returns-then-value-eq-BOX_KIND-clause-words
returns-then-value-eq-BOX_KIND-clause-words c = boxed_held (view c.args.pass.now) (view c.release.new.pass) c.args.o c.release.ensures.only
