use Rattle.std.proofs.Common.{◌≡◌, refl, ap, ◌∙◌, arith}
use Rattle.ft_model.specs.Worlds.{start_hands}
use Rattle.ft_engine.specs.declared.caller.Flight.TheVariants as flight
use Rattle.ft_engine.proofs.Callers.{fresh}
use Rattle.ft_engine.proofs.engine.Engine.caller.Goals as goal

pub returns : goal.returns
returns c i opening =
    let full : c.loop.counter ≡ c.args.cursors = omega (arith, c.loop-test.false, c.loop.auto.counter-end) in
    fresh c.args.self.now c.args.cursors i (record { pass = c.args.pass; cursors = c.loop.room; calls = c.args.calls; made = 0; flight = flight.Idle }) opening (c.loop.invariant ∙ ap start_hands full) c.requires.calls c.ranges.calls.fits refl refl
