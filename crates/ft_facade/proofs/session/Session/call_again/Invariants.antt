use Rattle.std.proofs.Common.{◌≡◌}
use Rattle.ft_facade.specs.Kept.{KeepsSome}
use Rattle.ft_facade.specs.Sessions.{IsSession, StaysInPlace, with_caller}
use Rattle.ft_facade.proofs.session.Session.call_again.Given as goal

abbrev pub invariant-loop : goal.invariant-loop
invariant-loop g l =
    IsSession l.self
    × (l.self ≡ with_caller l.fn.self l.self.caller)
    × StaysInPlace l.fn.self.caller l.self.caller
    × KeepsSome l.fn.self.caller l.self.caller
