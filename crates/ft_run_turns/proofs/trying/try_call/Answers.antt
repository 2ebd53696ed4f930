use Rattle.std.proofs.Common.{true, false, arith, sym, subst, ◌∙◌}
use Rattle.std.proofs.lemmas.Bool.{false≢true}
use Rattle.ft_run_turns.specs.Internal.CallerSeats.{HasTried}
use Rattle.ft_run_turns.proofs.NextCalls.{may_try}
use Rattle.ft_run_turns.proofs.Seated.{for_bank, goes_between, leaves_between, left_goes_on, tries_go_on, waits_between}
use Rattle.ft_run_turns.proofs.trying.try_call.Goals as goal

pub try_once-requires-clause-may : goal.try_once-requires-clause-may
try_once-requires-clause-may c =
    may_try c.args.engine.now c.args.script.now c.args.thread c.args.caller.now c.args.entries.now.items c.requires.script c.requires.bank c.requires.thread c.requires.between c.args.call.now c.requires.call c.requires.other

pub returns-then-last-clause-between : goal.returns-then-last-clause-between
returns-then-last-clause-between c =
    let e = c.args.engine.now in
    let script = c.args.script.now in
    let i = c.args.thread in
    let a = c.args.caller.now in
    let d = c.try_once.new.caller in
    let mine = c.args.entries.now.items in
    let after = c.try_once.new.entries.items in
    let called = c.args.call.now in
    let has : HasTried e called a mine d after true = subst (λ went. HasTried e called a mine d after went) c.if-ended.true c.in_ok-ended.ensures in
    let x = c.leave.ensures in
    leaves_between e script i a d mine after called c.requires.between c.requires.call c.requires.other has (c.requires.last.0 c.if-last.true) c.leave.new.caller x.same x.caller x.kept x.offline x.merged x.presence

pub returns-then-last-clause-turn : goal.returns-then-last-clause-turn
returns-then-last-clause-turn c =
    let e = c.args.engine.now in
    let script = c.args.script.now in
    let i = c.args.thread in
    let a = c.args.caller.now in
    let d = c.try_once.new.caller in
    let mine = c.args.entries.now.items in
    let after = c.try_once.new.entries.items in
    let called = c.args.call.now in
    let has : HasTried e called a mine d after true = subst (λ went. HasTried e called a mine d after went) c.if-ended.true c.in_ok-ended.ensures in
    let x = c.leave.ensures in
    left_goes_on e script i a d c.leave.new.caller mine after c.requires.bank has.turn.tried.caller x.caller x.same x.floor (has.turn.tried.same.pass.floor ∙ c.requires.floor)
    (tries_go_on e script i a d mine after called true (for_bank e script c.requires.bank (let t = c.requires.thread in omega (arith, t))) c.requires.between c.requires.call has)

pub returns-else-last-clause-between : goal.returns-else-last-clause-between
returns-else-last-clause-between c =
    let e = c.args.engine.now in
    let script = c.args.script.now in
    let i = c.args.thread in
    let a = c.args.caller.now in
    let d = c.try_once.new.caller in
    let mine = c.args.entries.now.items in
    let after = c.try_once.new.entries.items in
    let called = c.args.call.now in
    let has : HasTried e called a mine d after true = subst (λ went. HasTried e called a mine d after went) c.if-ended.true c.in_ok-ended.ensures in
    goes_between e script i a d mine after called c.requires.between c.requires.call c.requires.other has (λ all. false≢true (sym c.if-last.false ∙ c.requires.last.1 all))

pub returns-else-last-clause-turn : goal.returns-else-last-clause-turn
returns-else-last-clause-turn c =
    let e = c.args.engine.now in
    let script = c.args.script.now in
    let i = c.args.thread in
    let a = c.args.caller.now in
    let d = c.try_once.new.caller in
    let mine = c.args.entries.now.items in
    let after = c.try_once.new.entries.items in
    let called = c.args.call.now in
    let has : HasTried e called a mine d after true = subst (λ went. HasTried e called a mine d after went) c.if-ended.true c.in_ok-ended.ensures in
    tries_go_on e script i a d mine after called true (for_bank e script c.requires.bank (let t = c.requires.thread in omega (arith, t))) c.requires.between c.requires.call has

pub returns-else-ended-clause-between : goal.returns-else-ended-clause-between
returns-else-ended-clause-between c =
    let e = c.args.engine.now in
    let script = c.args.script.now in
    let i = c.args.thread in
    let a = c.args.caller.now in
    let d = c.try_once.new.caller in
    let mine = c.args.entries.now.items in
    let after = c.try_once.new.entries.items in
    let called = c.args.call.now in
    let has : HasTried e called a mine d after false = subst (λ went. HasTried e called a mine d after went) c.if-ended.false c.in_ok-ended.ensures in
    waits_between e script i a d mine after called c.requires.between c.requires.call c.requires.other has

pub returns-else-ended-clause-turn : goal.returns-else-ended-clause-turn
returns-else-ended-clause-turn c =
    let e = c.args.engine.now in
    let script = c.args.script.now in
    let i = c.args.thread in
    let a = c.args.caller.now in
    let d = c.try_once.new.caller in
    let mine = c.args.entries.now.items in
    let after = c.try_once.new.entries.items in
    let called = c.args.call.now in
    let has : HasTried e called a mine d after false = subst (λ went. HasTried e called a mine d after went) c.if-ended.false c.in_ok-ended.ensures in
    tries_go_on e script i a d mine after called false (for_bank e script c.requires.bank (let t = c.requires.thread in omega (arith, t))) c.requires.between c.requires.call has
