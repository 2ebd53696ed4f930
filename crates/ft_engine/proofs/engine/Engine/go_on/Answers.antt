use Rattle.std.proofs.Common.{sym, subst}
use Rattle.ft_engine.specs.AtOnce.{CameAtOnce}
use Rattle.ft_engine.specs.Calling.{IsBetween}
use Rattle.ft_engine.specs.MadeCalls.{IsCallFor}
use Rattle.ft_engine.specs.declared.calling.Called.TheVariants as called
use Rattle.ft_engine.proofs.MadeCalls.{call_for, came_done, came_moved, came_refused, came_waits}
use Rattle.ft_engine.proofs.engine.Engine.go_on.Goals as goal

pub returns-in-Done : goal.returns-in-Done
returns-in-Done g c first came =
    let a = c.args in
    came_done a.self.now a.call.now first a.caller.now c.in-Done.said c.in-Done.stamp (subst (CameAtOnce a.self.now a.call.now first a.caller.now) c.in-Done.is came)

pub returns-in-NoMemory : goal.returns-in-NoMemory
returns-in-NoMemory g c first came =
    let a = c.args in
    subst (IsCallFor a.self.now a.call.now called.NoMemory first) (sym c.refuse.ensures)
    (came_refused a.self.now a.call.now first a.caller.now (subst (CameAtOnce a.self.now a.call.now first a.caller.now) c.in-NoMemory.is came))

pub call_on-requires-clause-caller : goal.call_on-requires-clause-caller
call_on-requires-clause-caller g c =
    let a = c.args in
    let x = c.requires.came in
    let between = subst (IsBetween a.self.now a.call.now x.0) (sym c.keep.ensures)
    (came_waits a.self.now a.call.now x.0 a.caller.now c.in-NotYet.object c.in-NotYet.field-1 (subst (CameAtOnce a.self.now a.call.now x.0 a.caller.now) c.in-NotYet.is x.1)) in
    between.caller

pub call_on-requires-clause-may : goal.call_on-requires-clause-may
call_on-requires-clause-may g c =
    let a = c.args in
    let x = c.requires.came in
    let between = subst (IsBetween a.self.now a.call.now x.0) (sym c.keep.ensures)
    (came_waits a.self.now a.call.now x.0 a.caller.now c.in-NotYet.object c.in-NotYet.field-1 (subst (CameAtOnce a.self.now a.call.now x.0 a.caller.now) c.in-NotYet.is x.1)) in
    between.may

pub returns-in-NotYet : goal.returns-in-NotYet
returns-in-NotYet g c first came =
    let a = c.args in
    let between = subst (IsBetween a.self.now a.call.now first) (sym c.keep.ensures)
    (came_waits a.self.now a.call.now first a.caller.now c.in-NotYet.object c.in-NotYet.field-1 (subst (CameAtOnce a.self.now a.call.now first a.caller.now) c.in-NotYet.is came)) in
    let x = c.call_on.ensures first between in
    call_for a.self.now a.call.now c.call_on.result first x.0 c.call_on.new.caller x.1 x.2

pub call_on-requires-in-Moved-clause-caller : goal.call_on-requires-in-Moved-clause-caller
call_on-requires-in-Moved-clause-caller g c =
    let a = c.args in
    let x = c.requires.came in
    let between = subst (IsBetween a.self.now a.call.now x.0) (sym c.keep-in-Moved.ensures)
    (came_moved a.self.now a.call.now x.0 a.caller.now c.in-Moved.field-0 c.in-Moved.field-1 (subst (CameAtOnce a.self.now a.call.now x.0 a.caller.now) c.in-Moved.is x.1)) in
    between.caller

pub call_on-requires-in-Moved-clause-may : goal.call_on-requires-in-Moved-clause-may
call_on-requires-in-Moved-clause-may g c =
    let a = c.args in
    let x = c.requires.came in
    let between = subst (IsBetween a.self.now a.call.now x.0) (sym c.keep-in-Moved.ensures)
    (came_moved a.self.now a.call.now x.0 a.caller.now c.in-Moved.field-0 c.in-Moved.field-1 (subst (CameAtOnce a.self.now a.call.now x.0 a.caller.now) c.in-Moved.is x.1)) in
    between.may

pub returns-in-Moved : goal.returns-in-Moved
returns-in-Moved g c first came =
    let a = c.args in
    let between = subst (IsBetween a.self.now a.call.now first) (sym c.keep-in-Moved.ensures)
    (came_moved a.self.now a.call.now first a.caller.now c.in-Moved.field-0 c.in-Moved.field-1 (subst (CameAtOnce a.self.now a.call.now first a.caller.now) c.in-Moved.is came)) in
    let x = c.call_on-in-Moved.ensures first between in
    call_for a.self.now a.call.now c.call_on-in-Moved.result first x.0 c.call_on-in-Moved.new.caller x.1 x.2
