use Rattle.std.proofs.Common.{◌≡◌, ◌-◌, refl, sym, ap, ◌∙◌}
use Rattle.ft_bank.specs.Passes.{view}
use Rattle.ft_bank.specs.PassSections.{stack_of}
use Rattle.ft_section.specs.Floors.{first_owned}
use Rattle.ft_section.proofs.FloorLogs.{back_had, not_yet_back}
use Rattle.ft_engine.specs.declared.caller.Flight.TheVariants as flight
use Rattle.ft_engine.specs.Callers.{thread_of}
use Rattle.ft_engine.proofs.Callers.{done_kept_owners, ended_kept, waits_caller, waits_kept}
use Rattle.ft_engine.proofs.SectionCalls.{only_stays}
use Rattle.ft_engine.proofs.engine.Engine.take_up.Goals as goal

pub returns-in-Answered-clause-same : goal.returns-in-Answered-clause-same
returns-in-Answered-clause-same c = record { pass = only_stays (view c.args.caller.now.pass) (view c.resume.new.pass) c.in-Back.ensures.locked; room = refl }

pub returns-in-Answered-clause-kept : goal.returns-in-Answered-clause-kept
returns-in-Answered-clause-kept c called mine next kept =
    let old = c.args.caller.now in
    let q = c.resume.new.pass in
    let locked = c.in-Back.ensures.locked in
    let is = sym c.replace-flight.ensures.value ∙ c.in-Answered.is in (
      ended_kept (thread_of old) ((view q).number - 1) (view old.pass).entries (view q).entries (stack_of old.pass) (stack_of q) old.flight c.replace-flight.new.dest c.in-Answered.field-0 called c.in-Answered.reply c.in-Answered.stamp c.in-Back.mark mine kept.0
          is next c.in-Back.ensures.stack c.in-Back.ensures.mark (ap (λ n. n - 1) locked.number) locked.entries c.replace-flight.ensures.after,
      done_kept_owners old q c.replace-flight.new.dest c.in-Answered.field-0 called c.in-Answered.reply c.in-Answered.stamp c.in-Back.mark mine locked c.in-Back.ensures.only c.in-Back.ensures.owners is next c.in-Back.ensures.stack c.in-Back.ensures.mark c.replace-flight.ensures.after kept.1,
    )

pub returns-in-NotYet-clause-caller : goal.returns-in-NotYet-clause-caller
returns-in-NotYet-clause-caller c = waits_caller c.args.self.now c.args.caller.now c.resume.new.pass c.requires.caller c.requires.answered c.in-NotYet.ensures.locked c.in-NotYet.ensures.lacked c.in-NotYet.ensures.may

pub returns-in-NotYet-clause-same : goal.returns-in-NotYet-clause-same
returns-in-NotYet-clause-same c = record { pass = only_stays (view c.args.caller.now.pass) (view c.resume.new.pass) c.in-NotYet.ensures.locked; room = refl }

pub returns-in-NotYet-clause-kept : goal.returns-in-NotYet-clause-kept
returns-in-NotYet-clause-kept c called mine next kept =
    waits_kept c.args.self.now c.args.caller.now c.resume.new.pass c.in-NotYet.object c.in-NotYet.owner mine c.requires.caller c.requires.answered c.in-NotYet.ensures.locked c.in-NotYet.ensures.lacked c.in-NotYet.ensures.needed c.in-NotYet.ensures.only c.in-NotYet.ensures.found c.in-NotYet.ensures.waiting kept

pub returns-in-Answered-clause-taken : goal.returns-in-Answered-clause-taken
returns-in-Answered-clause-taken c called said stamp is =
    let same : flight.Answered called said stamp ≡ flight.Answered c.in-Answered.field-0 c.in-Answered.reply c.in-Answered.stamp =
    sym is ∙ (sym c.replace-flight.ensures.value ∙ c.in-Answered.is) in
    let s = stack_of c.args.caller.now.pass in (
      (
        cc,
        cc,
        c.in-Back.ensures.mark,
        c.in-Back.ensures.stack,
        λ has outer top cut. back_had s.mark c.in-Back.mark (first_owned top.locks.lower top.locks.upper (view c.args.caller.now.pass)) (c.in-Back.ensures.known has outer top cut),
      ),
      tt,
    )

pub returns-in-NotYet-clause-taken : goal.returns-in-NotYet-clause-taken
returns-in-NotYet-clause-taken c called said stamp is =
    let s = stack_of c.args.caller.now.pass in (
      (
        c.in-NotYet.ensures.waiting,
        c.in-NotYet.ensures.kept,
        λ has outer top cut. not_yet_back s.mark c.in-NotYet.object c.in-NotYet.owner (first_owned top.locks.lower top.locks.upper (view c.args.caller.now.pass)) (c.in-NotYet.ensures.known has outer top cut),
        c.in-NotYet.ensures.needed,
      ),
      is,
    )
