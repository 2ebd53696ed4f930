use Rattle.std.proofs.Common.{◌≡◌, ap, ◌∙◌, sym, subst, reverse}
use Rattle.std.proofs.Math.Logic.{∥∥₁_map}
use Rattle.ft_trace.specs.declared.Shape.{Shape}
use Rattle.std.specs.Prelude.{All}
use Rattle.ft_trace.specs.Acts.{all_entries, all_lists}
use Rattle.ft_trace.specs.HeapErrors.{HeapErrorsFollowBoxings}
use Rattle.ft_trace.specs.InOrder.{AreInOrder}
use Rattle.ft_trace.specs.Traces.{history, IsReachable}
use Rattle.ft_trace.proofs.Earnings.{entries_are_earned}
use Rattle.ft_trace.proofs.HeapErrors.{heap_errors_are_earned}
use Rattle.ft_trace.proofs.InOrder.{numbered_entries_are_in_order}
use Rattle.ft_trace.proofs.OwnOrder.{own_entries_are_in_order}
use Rattle.ft_trace.proofs.Rule.{one_pass_has_all_entries}
use Rattle.ft_bank.proofs.closed.Closed.entries_are_whole.Goals as goal

pub returns : goal.returns
returns c =
    let b = c.args.self.now in
    let v = b.pass.seat.me.0 in
    let all : v.parts ≡ v.shape.passes = b.all ∙ sym (ap (λ (z : Shape). z.passes) b.of) in
    ∥∥₁_map b.pass.possible (λ (x : IsReachable v).
    let numbered = one_pass_has_all_entries v.shape x.0 x.2.0 x.1 v x.2.1 all in
    let earned = entries_are_earned v.shape x.0 x.2.0 x.1 v x.2.1 in
    (reverse (history x.0), subst (λ (z : Shape). AreInOrder z (reverse (history x.0)) (all_entries v)) b.of (numbered_entries_are_in_order v.shape (history x.0) (all_entries v) numbered earned), (own_entries_are_in_order v.shape x.0 x.2.0 x.1 v x.2.1).1, subst (λ (z : Shape). All (HeapErrorsFollowBoxings z (reverse (history x.0))) (all_lists v)) b.of (heap_errors_are_earned v.shape x.0 x.2.0 x.1 v x.2.1)))
