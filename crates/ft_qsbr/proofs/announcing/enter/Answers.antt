use Rattle.std.proofs.Common.{ℕ, ◌<◌, [], sym, ap, ◌∙◌, subst, inr}
use Rattle.ft_trace.specs.declared.View.{View}
use Rattle.ft_trace.specs.declared.Act.TheVariants.{Announce}
use Rattle.ft_trace.specs.Acts.{announces, view_after}
use Rattle.ft_bank.specs.Passes.{view}
use Rattle.ft_bank.specs.Takings.{Each}
use Rattle.ft_bank.proofs.Freeing.{held_then}
use Rattle.ft_qsbr.proofs.announcing.enter.Goals as goal

pub announce-requires-clause-may : goal.announce-requires-clause-may
announce-requires-clause-may c = inr (record { newer = []; rest = (view c.args.pass.now).log; is = ap (λ (u : View). u.log) c.write_number-number.ensures.did.1 })

pub returns-clause-did : goal.returns-clause-did
returns-clause-did c =
    let d = c.write_number-number.ensures.did in
    let e = c.announce.ensures.did in
    let n = c.write_number-number.result in
    (n, (e.0 ∙ d.0, e.1 ∙ ap (λ (u : View). view_after (Announce u.number n) u) d.1, e.2 ∙ d.2))

pub returns-clause-online : goal.returns-clause-online
returns-clause-online c = subst (λ (z : ℕ). 0 < z) (sym (ap (λ (u : View). announces u.log) c.announce.ensures.did.1)) c.write_number-number.ensures.some

pub returns-clause-keeps : goal.returns-clause-keeps
returns-clause-keeps c = held_then Each Each _ _ _ c.write_number-number.ensures.keeps.held c.announce.ensures.keeps (λ t of. of)

pub returns-clause-debt : goal.returns-clause-debt
returns-clause-debt c = c.announce.ensures.debt ∙ c.write_number-number.ensures.keeps.debt
