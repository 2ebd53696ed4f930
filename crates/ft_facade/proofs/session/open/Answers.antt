use Rattle.std.proofs.Common.{subst, sym, ap, ◌∙◌}
use Rattle.std.specs.Arc.{arc_value}
use Rattle.ft_bank.specs.Passes.{shape_of}
use Rattle.ft_engine.specs.declared.engine.Engine.{Engine}
use Rattle.ft_engine.specs.Callers.{AreFreshCallers, bank_of}
use Rattle.ft_facade.proofs.SessionLemmas.{are_sessions}
use Rattle.ft_facade.proofs.session.open.Goals as goal

pub returns-clause-sessions : goal.returns-clause-sessions
returns-clause-sessions c =
    let callers = subst (λ (e : Engine). AreFreshCallers e c.args.cursors 0 c.in_ok-engine.callers.items) (sym c.in-Ok.ensures.ok) c.in_ok-engine.ensures.callers in
    are_sessions (arc_value c.in-Ok.engine) c.args.cursors 0 c.in_ok-sessions.sessions.items (c.in_ok-sessions.ensures.fresh c.args.cursors callers)

pub returns-clause-opened : goal.returns-clause-opened
returns-clause-opened c =
    let callers = subst (λ (e : Engine). AreFreshCallers e c.args.cursors 0 c.in_ok-engine.callers.items) (sym c.in-Ok.ensures.ok) c.in_ok-engine.ensures.callers in (
      arc_value c.in-Ok.engine,
      ap (λ (e : Engine). shape_of (bank_of e)) c.in-Ok.ensures.ok ∙ c.in_ok-engine.ensures.shape,
      c.in_ok-sessions.ensures.fresh c.args.cursors callers,
    )
