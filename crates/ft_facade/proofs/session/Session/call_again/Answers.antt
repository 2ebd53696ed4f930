use Rattle.std.proofs.Common.{refl}
use Rattle.ft_facade.proofs.SessionLemmas.{place_after, same_after}
use Rattle.ft_facade.proofs.StepLemmas.{more_after, more_of, some_after, some_none}
use Rattle.ft_facade.proofs.session.Session.call_again.Goals as goal

pub loop-init : goal.loop-init
loop-init g c = (c.requires, refl, record { thread = refl; next = refl; parts = refl; taken = refl }, some_none c.args.self.now.caller)

pub loop-preserved : goal.loop-preserved
loop-preserved g c =
    let s = c.args.self.now in let m = c.loop.self in let d = c.call_and_rest.new.self in let was = c.loop.invariant in (
      c.call_and_rest.ensures.session,
      same_after s m d was.1 c.call_and_rest.ensures.same,
      place_after s.caller m.caller d.caller was.2 c.call_and_rest.ensures.place,
      some_after s.caller m.caller d.caller was.3 c.in_default.ensures.some,
    )

pub returns-in-Some-clause-kept : goal.returns-in-Some-clause-kept
returns-in-Some-clause-kept g c =
    let was = c.loop.invariant in
    more_after c.args.made.now c.in-Some.stepped c.args.self.now.caller c.loop.self.caller c.call_and_rest.new.self.caller was.2.thread was.3 c.in-Some.ensures.kept

pub returns-clause-kept : goal.returns-clause-kept
returns-clause-kept g c =
    let was = c.loop.invariant in
    more_after c.args.made.now c.call.result c.args.self.now.caller c.loop.self.caller c.call.new.self.caller was.2.thread was.3
    (more_of c.args.made.now c.call.result c.loop.self.caller c.call.new.self.caller c.call.ensures.kept)
