use Rattle.std.proofs.Common.{rules, ◌≡◌, false, sym, ◌∙◌}
use Rattle.ft_model.proofs.set.Set.add.Goals as goal

pub push-requires-clause-absent : goal.push-requires-clause-absent
push-requires-clause-absent c =
    let no : c.has.result ≡ false = search rules in
    sym c.has.ensures ∙ no
