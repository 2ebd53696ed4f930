use Rattle.std.proofs.Common.{◌≡◌, ◌+◌, suc, ℕ, [], ◌∷◌, ◌++◌, length, ap, sym, ◌∙◌, subst, arith}
use Rattle.std.specs.Arc.{arc_value}
use Rattle.std.specs.Vec.Iter.{into_iter_items}
use Rattle.std.proofs.lemmas.List.{length_push}
use Rattle.ft_engine.specs.Callers.{AreFreshCallers, IsFreshCaller}
use Rattle.ft_facade.specs.declared.session.Session.{Session}
use Rattle.ft_facade.specs.Sessions.{AreFreshSessions, IsFreshSession}
use Rattle.ft_facade.proofs.SessionLemmas.{fresh_push}
use Rattle.ft_facade.proofs.session.sessions_of.Goals as goal

pub loop-caller-preserved : goal.loop-caller-preserved
loop-caller-preserved c =
    let at = c.loop-caller in
    let e = arc_value c.args.engine.now in
    let n = length at.sessions.items in
    let steps : into_iter_items at.caller-iterator ≡ c.in-Some.caller ∷ into_iter_items c.next.new.self = c.in-Some.ensures.steps.0 in
    let s : Session = c.in_ok-session.session in
    let items : c.push.new.self.items ≡ at.sessions.items ++ s ∷ [] = c.in_ok-push.ensures.items in
    let more : length c.push.new.self.items ≡ n + 1 = ap length items ∙ length_push at.sessions.items s in
    let short = ap length steps in
    let was = at.invariant.1 in (
      λ room are.
          let before = at.invariant.0 room are in
          let fresh = subst (AreFreshCallers e room n) steps before.0 in
          let new : IsFreshSession e room n s = record {
            engine = c.in_ok-session.ensures.engine;
            caller = subst (IsFreshCaller e room n) (sym c.in_ok-session.ensures.caller) fresh.0;
            offline = c.in_ok-session.ensures.offline;
          } in (
            subst (λ (k : ℕ). AreFreshCallers e room k (into_iter_items c.next.new.self)) (let q : suc n ≡ length c.push.new.self.items = omega (arith, more) in q) fresh.1,
            subst (AreFreshSessions e room 0) (sym items) (fresh_push e room 0 at.sessions.items s before.1 (subst (λ (k : ℕ). IsFreshSession e room k s) (let q : n ≡ 0 + n = omega arith in q) new)),
          ),
      omega (arith, more, short, was),
    )
