use Rattle.std.proofs.Math.Logic.{∥∥₁_map}
use Rattle.ft_trace.specs.Acts.{all_lists}
use Rattle.ft_trace.specs.Traces.{IsReachable}
use Rattle.ft_trace.proofs.AwaitsTold.{awaits_were_told, telling}
use Rattle.ft_trace.proofs.ToldEntries.{told_entries_are_seen}
use Rattle.ft_bank.proofs.closed.Closed.awaits_are_told.Goals as goal

pub returns : goal.returns
returns c =
    let v = c.args.self.now.pass.seat.me.0 in
    ∥∥₁_map c.args.self.now.pass.possible (λ (x : IsReachable v). (
      λ m n a b is_a is_b same. (told_entries_are_seen v.shape x.0 x.2.0 x.1 x.1 v v x.2.1 x.2.1 m n a b is_a is_b same).1,
      telling v (all_lists v) (awaits_were_told v.shape x.0 x.2.0 x.1 v x.2.1),
    ))
