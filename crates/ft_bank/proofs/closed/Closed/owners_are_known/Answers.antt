use Rattle.std.proofs.Common.{◌≡◌, true, ap, ◌∙◌, sym}
use Rattle.std.proofs.Math.Bool.{Bool-set}
use Rattle.std.proofs.Math.Logic.{∥∥₁_elim}
use Rattle.ft_trace.specs.declared.Shape.{Shape}
use Rattle.ft_trace.specs.Owners.{is_owner_in, had_locks}
use Rattle.ft_trace.specs.Traces.{IsReachable}
use Rattle.ft_trace.proofs.FoundOwners.{one_knows_all_owners}
use Rattle.ft_bank.proofs.closed.Closed.owners_are_known.Goals as goal

pub returns : goal.returns
returns c o q is =
    let b = c.args.self.now in
    let v = b.pass.seat.me.0 in
    let all : v.parts ≡ v.shape.passes = b.all ∙ sym (ap (λ (z : Shape). z.passes) b.of) in
    ∥∥₁_elim b.pass.possible (Bool-set (is_owner_in o q (had_locks v.number v.log)) true) (λ (x : IsReachable v).
    one_knows_all_owners v.shape x.0 x.2.0 x.1 v x.2.1 all o q is)
