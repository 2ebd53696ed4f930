use Rattle.std.proofs.Common.{sym, subst}
use Rattle.ft_runner.specs.Findings.{stored}
use Rattle.ft_model.specs.Parts.{IsWorldOf}
use Rattle.ft_history.specs.Verdicts.{IsVerdict}
use Rattle.ft_runner.proofs.WorldLemmas.{world_of_legal}
use Rattle.ft_runner.proofs.checking.verdict_on.Goals as goal

pub first_difference-requires : goal.first_difference-requires
first_difference-requires c =
    let script = c.args.script.now in
    let entries = c.args.entries.now in
    let legal = subst (IsVerdict stored script entries) c.in_default.is c.in_ok-judged.ensures.verdict in
    subst (λ parts. IsWorldOf parts c.in_ok-judged.judged.world) (sym c.parts.ensures.parts) (subst (IsWorldOf script) (sym (c.in_ok-judged.ensures.world c.in_default.is)) (world_of_legal script entries c.requires legal))
