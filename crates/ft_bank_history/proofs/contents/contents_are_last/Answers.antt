use Rattle.std.proofs.Common.{◌∙◌, List, ap, map, subst, reverse}
use Rattle.std.proofs.Math.Logic.{∥∥₁_map}
use Rattle.ft_model.specs.declared.call.Call.{Call}
use Rattle.ft_model.specs.declared.script.Start.{Start}
use Rattle.ft_model.specs.Answers.{shown_of, world_by}
use Rattle.ft_trace.specs.Acts.{all_entries, all_lists, tells}
use Rattle.ft_trace.specs.InOrder.{AreInOrder}
use Rattle.ft_trace.specs.Owners.{found_owners, had_locks}
use Rattle.ft_trace.specs.Traces.{history, IsReachable}
use Rattle.ft_trace.proofs.Earnings.{entries_are_earned}
use Rattle.ft_trace.proofs.HeapErrors.{heap_errors_are_earned}
use Rattle.ft_trace.proofs.InOrder.{numbered_entries_are_in_order}
use Rattle.ft_trace.proofs.OwnOrder.{own_entries_are_in_order}
use Rattle.ft_trace.proofs.Rule.{one_pass_has_all_entries}
use Rattle.ft_bank.specs.Passes.{view}
use Rattle.ft_bank_history.proofs.LastContents.{last_world, no_writes}
use Rattle.ft_bank_history.proofs.NumberedEntries.{entries_are_numbered}
use Rattle.ft_bank_history.proofs.Replies.{all_replied}
use Rattle.ft_bank_history.proofs.contents.contents_are_last.Goals as goal

pub returns-clause-last : goal.returns-clause-last
returns-clause-last c is script kept all for_it are asks count shown =
    let p = c.args.pass.now in
    let v = view p in
    ∥∥₁_map p.possible (λ (x : IsReachable v).
    let numbered = one_pass_has_all_entries v.shape x.0 x.2.0 x.1 v x.2.1 is.all in
    let earned = entries_are_earned v.shape x.0 x.2.0 x.1 v x.2.1 in
    let in_order = numbered_entries_are_in_order v.shape (history x.0) (all_entries v) numbered earned in
    let own = (own_entries_are_in_order v.shape x.0 x.2.0 x.1 v x.2.1).1 in
    let full = heap_errors_are_earned v.shape x.0 x.2.0 x.1 v x.2.1 in
    let calls = reverse (history x.0) in (
      calls,
      entries_are_numbered v.shape script calls (all_lists v) kept (had_locks v.number v.log) (found_owners v.log) (tells v) for_it in_order own full (all_replied v.shape x.0 x.2.0 x.1 v x.2.1) are asks count,
      last_world v x is all shown ∙ ap (λ (starts : List Start). map shown_of (world_by starts calls)) for_it.starts,
    ))

pub returns-clause-none : goal.returns-clause-none
returns-clause-none c is all none shown =
    let p = c.args.pass.now in
    let v = view p in
    ∥∥₁_map p.possible (λ (x : IsReachable v).
    let numbered = one_pass_has_all_entries v.shape x.0 x.2.0 x.1 v x.2.1 is.all in
    let earned = entries_are_earned v.shape x.0 x.2.0 x.1 v x.2.1 in
    let in_order = numbered_entries_are_in_order v.shape (history x.0) (all_entries v) numbered earned in
    let nil = no_writes v.shape (reverse (history x.0)) (subst (AreInOrder v.shape (reverse (history x.0))) none in_order) in
    last_world v x is all shown ∙ ap (λ (cs : List Call). map shown_of (world_by v.shape.starts cs)) nil)
