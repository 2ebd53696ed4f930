use Rattle.std.proofs.Common.{sym, ap, ◌∙◌}
use Rattle.ft_trace.specs.declared.Shape.{Shape}
use Rattle.ft_trace.specs.declared.View.{View}
use Rattle.ft_trace.specs.Acts.{flight}
use Rattle.ft_bank.specs.Passes.{view}
use Rattle.ft_qsbr.proofs.Collections.{collection}
use Rattle.ft_qsbr.proofs.Numbers.{seen_of, flight_loads}
use Rattle.ft_qsbr.proofs.collecting.collect.Goals as goal

pub sweep_all-requires-clause-seen : goal.sweep_all-requires-clause-seen
sweep_all-requires-clause-seen c =
    let d = c.least_announced-least.ensures.did in
    seen_of d.0 c.least_announced-least.result (view c.args.pass.now) (view c.least_announced-least.new.pass) d.2.1 (d.1 ∙ sym (ap (λ (z : Shape). z.passes) c.least_announced-least.ensures.pass.1)) d.3

pub sweep_all-requires-clause-idle : goal.sweep_all-requires-clause-idle
sweep_all-requires-clause-idle c =
    let d = c.least_announced-least.ensures.did in
    ap (λ (u : View). flight u.log) d.2.1 ∙ (flight_loads d.0 (view c.args.pass.now) ∙ c.requires.idle)

pub returns-clause-collected : goal.returns-clause-collected
returns-clause-collected c =
    let d = c.least_announced-least.ensures.did in
    let e = c.sweep_all.ensures.gave in
    collection (view c.args.pass.now) (view c.least_announced-least.new.pass) (view c.sweep_all.new.pass) d.0 c.least_announced-least.result e.0 c.sweep_all.result c.requires.idle (d.1 ∙ sym (ap (λ (z : Shape). z.passes) c.requires.pass.1)) d.2.1 c.least_announced-least.ensures.keeps d.3 e.1.1 e.2 e.3 c.sweep_all.ensures.swept

pub returns-clause-sections : goal.returns-clause-sections
returns-clause-sections c = c.sweep_all.ensures.gave.1.2 ∙ c.least_announced-least.ensures.did.2.2
