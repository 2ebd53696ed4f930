use Rattle.std.proofs.Common.{refl, ap, ◌∙◌, subst, inl}
use Rattle.ft_trace.specs.declared.View.{View}
use Rattle.ft_trace.specs.Acts.{flight, announces}
use Rattle.ft_bank.specs.Passes.{view}
use Rattle.ft_qsbr.specs.Collecting.{Collected}
use Rattle.ft_qsbr.proofs.announcing.leave.Goals as goal

pub announce-requires-clause-may : goal.announce-requires-clause-may
announce-requires-clause-may c = inl refl

pub collect-requires-clause-idle : goal.collect-requires-clause-idle
collect-requires-clause-idle c = ap (λ (u : View). flight u.log) c.announce.ensures.did.1 ∙ c.requires.idle

pub returns-clause-did : goal.returns-clause-did
returns-clause-did c = (c.collect.result, subst (λ (u : View). Collected u (view c.collect.new.pass) c.collect.result) c.announce.ensures.did.1 c.collect.ensures.collected)

pub returns-clause-offline : goal.returns-clause-offline
returns-clause-offline c = c.collect.ensures.collected.keeps.announces ∙ ap (λ (u : View). announces u.log) c.announce.ensures.did.1
