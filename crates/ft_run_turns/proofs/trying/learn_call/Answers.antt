use Rattle.std.proofs.Common.{◌≡◌, arith, ap, subst, sym, ◌∙◌, Option}
use Rattle.std.specs.Option.{unwrap_or}
use Rattle.std.proofs.lemmas.Bool.{false≢true}
use Rattle.ft_model.specs.declared.call.Call.{Call}
use Rattle.ft_model.specs.declared.call.Call.TheVariants as call
use Rattle.ft_run_turns.specs.Internal.CallerSeats.{HasLearned}
use Rattle.ft_run_turns.proofs.NextCalls.{may_learn}
use Rattle.ft_run_turns.proofs.Seated.{for_bank, learn_goes_on, learned_between, learned_leaves, left_goes_on}
use Rattle.ft_run_turns.proofs.trying.learn_call.Goals as goal

pub learn_once-requires-clause-may : goal.learn_once-requires-clause-may
learn_once-requires-clause-may c =
    let n = c.requires.note in
    let await : c.args.call.now ≡ call.Await n.0.thread n.0.index = ap (λ (o : Option Call). unwrap_or o c.args.call.now) n.1 in
    may_learn c.args.engine.now c.args.script.now c.args.thread c.args.caller.now c.args.entries.now.items c.requires.script c.requires.bank c.requires.thread c.requires.between c.args.call.now c.requires.call c.args.note n.0 await n.2 n.3

pub returns-then-last-clause-between : goal.returns-then-last-clause-between
returns-then-last-clause-between c =
    let e = c.args.engine.now in
    let script = c.args.script.now in
    let i = c.args.thread in
    let a = c.args.caller.now in
    let d = c.learn_once.new.caller in
    let mine = c.args.entries.now.items in
    let after = c.learn_once.new.entries.items in
    let n = c.requires.note in
    let await : c.args.call.now ≡ call.Await n.0.thread n.0.index = ap (λ (o : Option Call). unwrap_or o c.args.call.now) n.1 in
    let has : HasLearned e (call.Await n.0.thread n.0.index) a mine d after = subst (λ called. HasLearned e called a mine d after) await c.in_ok-learn_once.ensures in
    let x = c.leave.ensures in
    learned_leaves e script i a d mine after n.0.thread n.0.index c.requires.between (c.requires.call ∙ n.1) has (c.requires.last.0 c.if-last.true) c.leave.new.caller x.same x.caller x.kept x.offline x.merged x.presence

pub returns-then-last-clause-turn : goal.returns-then-last-clause-turn
returns-then-last-clause-turn c =
    let e = c.args.engine.now in
    let script = c.args.script.now in
    let i = c.args.thread in
    let a = c.args.caller.now in
    let d = c.learn_once.new.caller in
    let mine = c.args.entries.now.items in
    let after = c.learn_once.new.entries.items in
    let n = c.requires.note in
    let await : c.args.call.now ≡ call.Await n.0.thread n.0.index = ap (λ (o : Option Call). unwrap_or o c.args.call.now) n.1 in
    let has : HasLearned e (call.Await n.0.thread n.0.index) a mine d after = subst (λ called. HasLearned e called a mine d after) await c.in_ok-learn_once.ensures in
    let x = c.leave.ensures in
    left_goes_on e script i a d c.leave.new.caller mine after c.requires.bank has.learn.tried.caller x.caller x.same x.floor (has.learn.tried.same.pass.floor ∙ c.requires.floor)
    (learn_goes_on e script i a d mine after n.0.thread n.0.index (for_bank e script c.requires.bank (let t = c.requires.thread in omega (arith, t))) c.requires.between (c.requires.call ∙ n.1) has)

pub returns-else-last-clause-between : goal.returns-else-last-clause-between
returns-else-last-clause-between c =
    let e = c.args.engine.now in
    let script = c.args.script.now in
    let i = c.args.thread in
    let a = c.args.caller.now in
    let d = c.learn_once.new.caller in
    let mine = c.args.entries.now.items in
    let after = c.learn_once.new.entries.items in
    let n = c.requires.note in
    let await : c.args.call.now ≡ call.Await n.0.thread n.0.index = ap (λ (o : Option Call). unwrap_or o c.args.call.now) n.1 in
    let has : HasLearned e (call.Await n.0.thread n.0.index) a mine d after = subst (λ called. HasLearned e called a mine d after) await c.in_ok-learn_once.ensures in
    learned_between e script i a d mine after n.0.thread n.0.index c.requires.between (c.requires.call ∙ n.1) has (λ all. false≢true (sym c.if-last.false ∙ c.requires.last.1 all))

pub returns-else-last-clause-turn : goal.returns-else-last-clause-turn
returns-else-last-clause-turn c =
    let e = c.args.engine.now in
    let script = c.args.script.now in
    let i = c.args.thread in
    let a = c.args.caller.now in
    let d = c.learn_once.new.caller in
    let mine = c.args.entries.now.items in
    let after = c.learn_once.new.entries.items in
    let n = c.requires.note in
    let await : c.args.call.now ≡ call.Await n.0.thread n.0.index = ap (λ (o : Option Call). unwrap_or o c.args.call.now) n.1 in
    let has : HasLearned e (call.Await n.0.thread n.0.index) a mine d after = subst (λ called. HasLearned e called a mine d after) await c.in_ok-learn_once.ensures in
    learn_goes_on e script i a d mine after n.0.thread n.0.index (for_bank e script c.requires.bank (let t = c.requires.thread in omega (arith, t))) c.requires.between (c.requires.call ∙ n.1) has
