use Rattle.std.proofs.Common.{◌≡◌, suc, List, ◌∷◌, All, subst, arith}
use Rattle.std.specs.Vec.Iter.{into_iter_items}
use Rattle.std.proofs.lemmas.List.Elements.{All-set}
use Rattle.ft_facade.specs.declared.session.Session.{Session}
use Rattle.ft_facade.specs.Sessions.{IsSession}
use Rattle.ft_c.specs.Handles.{IsHandle}
use Rattle.ft_c.proofs.opening.hand_out.Goals as goal

later : (items rest : List Session) (s : Session) → items ≡ s ∷ rest → All IsSession items → All IsSession rest
later items rest s steps all k d low = subst (λ (xs : List Session). All IsSession xs) steps all (suc k) d (omega (arith, low))

pub loop-session-preserved-then-place-out : goal.loop-session-preserved-then-place-out
loop-session-preserved-then-place-out c =
    let at = c.loop-session in (
      later (into_iter_items at.session-iterator) (into_iter_items c.next.new.self) c.in-Some.session c.in-Some.ensures.steps.0 at.invariant.0,
      All-set IsHandle at.out at.place c.in_ok-out.field-0 c.in_ok-out.ensures at.invariant.1,
    )

pub loop-session-preserved-else-place-out : goal.loop-session-preserved-else-place-out
loop-session-preserved-else-place-out c =
    let at = c.loop-session in (
      later (into_iter_items at.session-iterator) (into_iter_items c.next.new.self) c.in-Some.session c.in-Some.ensures.steps.0 at.invariant.0,
      at.invariant.1,
    )

pub loop-session-preserved-else-place-out-2 : goal.loop-session-preserved-else-place-out-2
loop-session-preserved-else-place-out-2 c =
    let at = c.loop-session in (
      later (into_iter_items at.session-iterator) (into_iter_items c.next.new.self) c.in-Some.session c.in-Some.ensures.steps.0 at.invariant.0,
      at.invariant.1,
    )

pub loop-session-preserved-else-place-out-3 : goal.loop-session-preserved-else-place-out-3
loop-session-preserved-else-place-out-3 c =
    let at = c.loop-session in (
      later (into_iter_items at.session-iterator) (into_iter_items c.next.new.self) c.in-Some.session c.in-Some.ensures.steps.0 at.invariant.0,
      at.invariant.1,
    )

pub loop-session-preserved-else-place-out-4 : goal.loop-session-preserved-else-place-out-4
loop-session-preserved-else-place-out-4 c =
    let at = c.loop-session in (
      later (into_iter_items at.session-iterator) (into_iter_items c.next.new.self) c.in-Some.session c.in-Some.ensures.steps.0 at.invariant.0,
      at.invariant.1,
    )

pub loop-session-preserved-else-place-out-5 : goal.loop-session-preserved-else-place-out-5
loop-session-preserved-else-place-out-5 c =
    let at = c.loop-session in (
      later (into_iter_items at.session-iterator) (into_iter_items c.next.new.self) c.in-Some.session c.in-Some.ensures.steps.0 at.invariant.0,
      at.invariant.1,
    )

pub loop-session-preserved : goal.loop-session-preserved
loop-session-preserved c =
    let at = c.loop-session in (
      later (into_iter_items at.session-iterator) (into_iter_items c.next.new.self) c.in-Some.session c.in-Some.ensures.steps.0 at.invariant.0,
      at.invariant.1,
    )
