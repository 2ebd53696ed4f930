use Rattle.std.proofs.Common.{◌≡◌, ◌∙◌, sym, ap, subst, reverse}
use Rattle.std.proofs.Math.Logic.{∥∥₁_map}
use Rattle.ft_trace.specs.declared.Shape.{Shape}
use Rattle.ft_trace.specs.Acts.{all_entries, all_lists}
use Rattle.ft_trace.specs.Traces.{history, IsReachable}
use Rattle.ft_trace.proofs.Earnings.{entries_are_earned}
use Rattle.ft_trace.proofs.HeapErrors.{heap_errors_are_earned}
use Rattle.ft_trace.proofs.InOrder.{numbered_entries_are_in_order}
use Rattle.ft_trace.proofs.OwnOrder.{own_entries_are_in_order}
use Rattle.ft_trace.proofs.Rule.{one_pass_has_all_entries}
use Rattle.ft_bank.specs.Closings.{found_in, had_in, told_of}
use Rattle.ft_bank_history.specs.Numbering.{IsFor}
use Rattle.ft_bank_history.proofs.NumberedEntries.{entries_are_numbered}
use Rattle.ft_bank_history.proofs.Replies.{all_replied}
use Rattle.ft_bank_history.proofs.numbering.closed_entries_are_numbered.Goals as goal

pub returns : goal.returns
returns c script kept for_it are asks count =
    let b = c.args.closed.now in
    let v = b.pass.seat.me.0 in
    let all : v.parts ≡ v.shape.passes = b.all ∙ sym (ap (λ (z : Shape). z.passes) b.of) in
    ∥∥₁_map b.pass.possible (λ (x : IsReachable v).
    let numbered = one_pass_has_all_entries v.shape x.0 x.2.0 x.1 v x.2.1 all in
    let earned = entries_are_earned v.shape x.0 x.2.0 x.1 v x.2.1 in
    let in_order = numbered_entries_are_in_order v.shape (history x.0) (all_entries v) numbered earned in
    let own = (own_entries_are_in_order v.shape x.0 x.2.0 x.1 v x.2.1).1 in
    let full = heap_errors_are_earned v.shape x.0 x.2.0 x.1 v x.2.1 in
    (reverse (history x.0), entries_are_numbered v.shape script (reverse (history x.0)) (all_lists v) kept (had_in b) (found_in b) (told_of b) (subst (IsFor script) (sym b.of) for_it) in_order own full (all_replied v.shape x.0 x.2.0 x.1 v x.2.1) are asks count))
