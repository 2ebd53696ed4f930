use Rattle.std.proofs.Common.{ℕ, ◌<◌, sym, ap, ◌∙◌, subst}
use Rattle.ft_trace.specs.declared.View.{View}
use Rattle.ft_trace.specs.Acts.{flight}
use Rattle.ft_bank.specs.Passes.{view}
use Rattle.ft_qsbr.specs.Collecting.{Collected}
use Rattle.ft_qsbr.proofs.announcing.quiesce.Goals as goal

pub collect-requires-clause-idle : goal.collect-requires-clause-idle
collect-requires-clause-idle c = ap (λ (u : View). flight u.log) c.enter.ensures.did.1.1 ∙ c.requires.idle

pub returns-clause-did : goal.returns-clause-did
returns-clause-did c =
    let e = c.enter.ensures.did in
    (e.0, c.collect.result, subst (λ (u : View). Collected u (view c.collect.new.pass) c.collect.result) e.1.1 c.collect.ensures.collected)

pub returns-clause-online : goal.returns-clause-online
returns-clause-online c = subst (λ (z : ℕ). 0 < z) (sym c.collect.ensures.collected.keeps.announces) c.enter.ensures.online
