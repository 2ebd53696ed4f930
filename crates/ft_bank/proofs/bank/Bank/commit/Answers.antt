use Rattle.std.proofs.Common.{◌<◌, ◌*◌, ◌^◌, sym, subst}
use Rattle.ft_trace.specs.declared.Shape.{Shape}
use Rattle.ft_trace.specs.declared.View.{View}
use Rattle.ft_bank.specs.Passes.{view}
use Rattle.ft_bank.specs.WriteSteps.{Committed}
use Rattle.ft_bank.proofs.Readying.{commit_ready, commit_leaves}
use Rattle.ft_bank.proofs.Seen.{commit_sees}
use Rattle.ft_bank.proofs.bank.Bank.commit.Goals as goal

pub commit_as-requires-clause-ready : goal.commit_as-requires-clause-ready
commit_as-requires-clause-ready c =
    let v = view c.args.pass.now in
    let few : v.shape.passes * v.shape.calls < 2 ^ 46 = subst (λ (z : Shape). z.passes * z.calls < 2 ^ 46) (sym c.requires.pass.1) c.args.self.now.few in
    commit_ready v c.args.call.now c.args.reply.now few c.requires.may

pub returns-clause-committed : goal.returns-clause-committed
returns-clause-committed c =
    let v = view c.args.pass.now in
    let d = c.commit_as.ensures.did in
    subst (λ (w : View). Committed v w c.args.call.now) (sym d.1.1) (commit_leaves v c.args.call.now c.args.reply.now c.commit_as.result d.0 d.2)

pub returns-clause-seen : goal.returns-clause-seen
returns-clause-seen c =
    let d = c.commit_as.ensures.did in
    commit_sees (view c.args.pass.now) c.args.call.now c.args.reply.now c.commit_as.result d.0 d.2
