use Rattle.std.proofs.Common.{◌+◌, ◌∙◌, ap, inl, inr, refl}
use Rattle.ft_engine.specs.declared.caller.Flight.TheVariants as flight
use Rattle.ft_engine.specs.Flights.{objects_of}
use Rattle.ft_engine.proofs.TriedAgain.{moved_again, waiting_again}
use Rattle.ft_engine.proofs.Callers.{answered_kept, left_kept, moved_caller, waiting_kept}
use Rattle.ft_engine.proofs.engine.Engine.answer.Goals as goal

pub returns-in-Done-clause-kept : goal.returns-in-Done-clause-kept
returns-in-Done-clause-kept c mine kept =
    let old = c.args.caller.now in
    answered_kept c.args.self.now old (record { pass = c.make.new.pass; cursors = c.make.new.cursors; calls = old.calls; made = old.made + 1; flight = flight.Answered c.args.call.now c.in-Done.reply c.in-Done.stamp }) c.args.call.now c.in-Done.reply c.in-Done.stamp mine c.requires.caller c.requires.unanswered c.requires.may.next c.in-Done.ensures.tried.0 c.in-Done.ensures.tried.2 refl kept

pub returns-in-NotYet-clause-ended : goal.returns-in-NotYet-clause-ended
returns-in-NotYet-clause-ended c mine kept =
    let old = c.args.caller.now in
    let t = c.in-NotYet.ensures.tried in
    waiting_kept c.args.self.now old (record { pass = c.make.new.pass; cursors = c.make.new.cursors; calls = old.calls; made = old.made; flight = flight.Tried c.args.call.now }) c.args.call.now t.0 c.in-NotYet.object c.in-NotYet.owner mine c.requires.caller c.requires.unanswered c.requires.may.next (c.requires.may.left c.requires.unanswered) t.1 t.2 t.4 refl kept

pub returns-in-Moved-clause-caller : goal.returns-in-Moved-clause-caller
returns-in-Moved-clause-caller c =
    let old = c.args.caller.now in
    let t = c.in-Moved.ensures.tried in
    moved_caller c.args.self.now old (record { pass = c.make.new.pass; cursors = c.make.new.cursors; calls = old.calls; made = old.made; flight = flight.Tried c.args.call.now }) c.args.call.now t.0 c.requires.caller (ap (λ hands. objects_of hands c.args.call.now) c.in-Moved.ensures.stays ∙ t.1) t.2 c.in-Moved.ensures.hands refl refl refl

pub returns-in-NotYet-clause-looked : goal.returns-in-NotYet-clause-looked
returns-in-NotYet-clause-looked c may is = c.in-NotYet.ensures.looked may

pub returns-in-NotYet-clause-again : goal.returns-in-NotYet-clause-again
returns-in-NotYet-clause-again c again =
    let old = c.args.caller.now in
    let t = c.in-NotYet.ensures.tried in
    waiting_again c.args.self.now old (record { pass = c.make.new.pass; cursors = c.make.new.cursors; calls = old.calls; made = old.made; flight = flight.Tried c.args.call.now }) c.args.call.now t.0 c.in-NotYet.object c.in-NotYet.owner c.requires.may c.requires.unanswered t.2 c.in-NotYet.ensures.stays refl refl refl

pub returns-in-Moved-clause-again : goal.returns-in-Moved-clause-again
returns-in-Moved-clause-again c again =
    let old = c.args.caller.now in
    let t = c.in-Moved.ensures.tried in
    moved_again c.args.self.now old (record { pass = c.make.new.pass; cursors = c.make.new.cursors; calls = old.calls; made = old.made; flight = flight.Tried c.args.call.now }) c.args.call.now c.requires.may c.requires.unanswered t.2 c.in-Moved.ensures.stays refl refl refl

pub returns-in-Moved-clause-ended : goal.returns-in-Moved-clause-ended
returns-in-Moved-clause-ended c mine kept =
    let old = c.args.caller.now in
    let t = c.in-Moved.ensures.tried in
    left_kept c.args.self.now old (record { pass = c.make.new.pass; cursors = c.make.new.cursors; calls = old.calls; made = old.made; flight = flight.Tried c.args.call.now }) c.args.call.now mine c.requires.caller c.requires.unanswered c.requires.may.next t.2 t.4 (inl refl) kept

pub returns-in-NoMemory-clause-ended : goal.returns-in-NoMemory-clause-ended
returns-in-NoMemory-clause-ended c mine kept =
    let old = c.args.caller.now in
    let t = c.in-NoMemory.ensures.tried in
    left_kept c.args.self.now old (record { pass = c.make.new.pass; cursors = c.make.new.cursors; calls = old.calls; made = old.made; flight = flight.Refused c.args.call.now }) c.args.call.now mine c.requires.caller c.requires.unanswered c.requires.may.next t.0 t.1 (inr refl) kept
