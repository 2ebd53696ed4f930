use Rattle.std.proofs.Common.{◌-◌, ◌++◌, ap, refl, arith}
use Rattle.ft_trace.specs.declared.View.{View}
use Rattle.ft_bank.specs.Passes.{view}
use Rattle.ft_engine.proofs.Callers.{joined_caller}
use Rattle.ft_engine.proofs.KeptLists.{joined_in, joined_state}
use Rattle.ft_engine.proofs.Presences.{joined_online}
use Rattle.ft_engine.proofs.SoFar.{all_answers_right}
use Rattle.ft_engine.proofs.engine.Engine.join.Goals as goal

pub returns-clause-caller : goal.returns-clause-caller
returns-clause-caller c =
    let x = c.join.ensures.view in
    joined_caller c.args.self.now c.args.caller.now c.join.new.pass (view c.args.other.pass) x.0 c.requires.caller c.requires.idle c.join.ensures.pass c.join.ensures.sections x.1

pub returns-clause-thread : goal.returns-clause-thread
returns-clause-thread c = ap (λ (v : View). v.number - 1) c.join.ensures.view.1

pub returns-clause-kept : goal.returns-clause-kept
returns-clause-kept c mine theirs are more next =
    joined_state c.args.caller.now (record c.args.caller.now { pass = c.join.new.pass }) c.args.other mine theirs (joined_in (view c.args.caller.now.pass) (view c.args.other.pass) (view c.join.new.pass) c.join.ensures.view.0 c.join.ensures.view.1) c.join.ensures.sections refl
    (λ none. absurd (let e = c.args.other.pass.numbered in omega (arith, e, none))) c.requires.done.idle are more next

pub returns-clause-tokens : goal.returns-clause-tokens
returns-clause-tokens c = ap (λ (v : View). v.tokens) c.join.ensures.view.1

pub returns-clause-right : goal.returns-clause-right
returns-clause-right c mine theirs are more next =
    let joined = record c.args.caller.now { pass = c.join.new.pass } in
    all_answers_right joined (mine ++ theirs) c.requires.idle (returns-clause-kept c mine theirs are more next)

pub returns-clause-online : goal.returns-clause-online
returns-clause-online c were theirs next =
    joined_online c.args.caller.now (record c.args.caller.now { pass = c.join.new.pass }) c.args.other (joined_in (view c.args.caller.now.pass) (view c.args.other.pass) (view c.join.new.pass) c.join.ensures.view.0 c.join.ensures.view.1)
    (λ none. absurd (let e = c.args.other.pass.numbered in omega (arith, e, none))) were theirs next
