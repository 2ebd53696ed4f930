use Rattle.std.proofs.Common.{◌≡◌, ℕ, ◌+◌, ◌-◌, true, sym, ap, ◌∙◌, arith}
use Rattle.ft_trace.specs.declared.View.{View}
use Rattle.ft_trace.specs.declared.Act.TheVariants.{PutHeader, Retire}
use Rattle.ft_trace.specs.Acts.{debt, goal, has_goal, view_after, stage}
use Rattle.ft_trace.proofs.Cases.{hit}
use Rattle.ft_bank.specs.Passes.{view}
use Rattle.ft_bank.specs.TableNames.{table_id}
use Rattle.ft_bank.specs.Takings.{Each, NotTable}
use Rattle.ft_bank.proofs.Freeing.{held_then}
use Rattle.ft_qsbr.proofs.PassesStay.{retirement_same}
use Rattle.ft_qsbr.proofs.retiring.retire.Goals as ask

pub put_goal-requires-clause-retired : ask.put_goal-requires-clause-retired
put_goal-requires-clause-retired c =
    let t = table_id c.args.table in
    ap (λ (u : View). stage t u.log) c.retire-goal.ensures.did.2.1 ∙ hit t 4 (stage t (view c.args.pass.now).log)

pub put_goal-requires-clause-goal : ask.put_goal-requires-clause-goal
put_goal-requires-clause-goal c =
    let t = table_id c.args.table in
    let d = c.retire-goal.ensures.did in
    d.1 ∙ sym (ap (λ (u : View). goal t u.log) d.2.1 ∙ hit t (d.0 + 1) (goal t (view c.args.pass.now).log))

pub returns-clause-did : ask.returns-clause-did
returns-clause-did c =
    let t = table_id c.args.table in
    let d = c.retire-goal.ensures.did in
    let e = c.put_goal.ensures.did in
    let v = view c.args.pass.now in (
      d.0,
      (
        e.0 ∙ d.2.0,
        e.1 ∙ (ap (λ (u : View). view_after (PutHeader t c.retire-goal.result) u) d.2.1 ∙ ap (λ (n : ℕ). view_after (PutHeader t n) (view_after (Retire t d.0) v)) d.1),
        e.2 ∙ d.2.2,
      ),
      ap (λ (u : View). goal t u.log) e.1 ∙ (ap (λ (u : View). goal t u.log) d.2.1 ∙ hit t (d.0 + 1) (goal t v.log)),
    )

pub returns-clause-retired : ask.returns-clause-retired
returns-clause-retired c =
    let t = table_id c.args.table in
    let d = c.retire-goal.ensures.did in
    let e = c.put_goal.ensures.did in
    let m = view c.retire-goal.new.pass in (
      ap (λ (u : View). stage t u.log) e.1 ∙ (ap (λ (u : View). stage t u.log) d.2.1 ∙ hit t 4 (stage t (view c.args.pass.now).log)),
      ap (λ (u : View). has_goal t u.log) e.1 ∙ hit t true (has_goal t m.log),
    )

pub returns-clause-debt : ask.returns-clause-debt
returns-clause-debt c =
    let d = c.retire-goal.ensures.did in
    let one : debt (view c.retire-goal.new.pass).log ≡ debt (view c.args.pass.now).log - 1 = ap (λ (u : View). debt u.log) d.2.1 in
    let two = c.put_goal.ensures.keeps.debt in
    let some_one = c.requires.debt in
    omega (arith, one, two, some_one)

pub returns-clause-announces : ask.returns-clause-announces
returns-clause-announces c = c.put_goal.ensures.keeps.announces ∙ c.retire-goal.ensures.announces

pub returns-clause-keeps : ask.returns-clause-keeps
returns-clause-keeps c = held_then (NotTable c.args.table) Each _ _ _ c.retire-goal.ensures.keeps c.put_goal.ensures.keeps.held (λ t of. tt)

pub returns-clause-same : ask.returns-clause-same
returns-clause-same c =
    let t = table_id c.args.table in
    let d = returns-clause-did c in
    retirement_same t d.0 (d.0 + 1) (view c.args.pass.now) (view c.put_goal.new.pass) d.1.1
