-- The entries that a caller kept of its pass are right by the writes so far, in each trace in which the pass is.
use Rattle.std.proofs.Common.{ℕ, List, subst}
use Rattle.std.specs.Prelude.{All}
use Rattle.std.specs.List.{flat_map}
use Rattle.std.proofs.lemmas.List.Elements.{All-head}
use Rattle.ft_model.specs.declared.entry.Entry.{Entry as NamedEntry}
use Rattle.ft_model.specs.declared.reply.Raise.TheVariants as raise
use Rattle.ft_model.specs.declared.reply.Reply.TheVariants as reply
use Rattle.ft_trace.specs.declared.Act.TheVariants.{Answer}
use Rattle.ft_trace.specs.declared.Entry.{Entry}
use Rattle.ft_trace.specs.declared.Owner.{Owner}
use Rattle.ft_trace.specs.declared.Told.{Told}
use Rattle.ft_trace.specs.declared.View.{View}
use Rattle.ft_trace.specs.Acts.{all_entries, all_lists}
use Rattle.ft_trace.specs.Causes.{FoundEmpty}
use Rattle.ft_trace.specs.HeapErrors.{HeapErrorsFollowBoxings}
use Rattle.ft_trace.specs.InOrder.{StandsInOrder}
use Rattle.ft_trace.specs.OwnOrder.{AreInOwnOrder, IsWriteIn}
use Rattle.ft_trace.specs.Traces.{Sure, history}
use Rattle.ft_trace.proofs.ClosedEntries.{all_right}
use Rattle.ft_trace.proofs.Earnings.{entries_are_earned}
use Rattle.ft_trace.proofs.EarlierMoments.{was}
use Rattle.ft_trace.proofs.HeapErrors.{heap_errors_are_earned}
use Rattle.ft_trace.proofs.InOrder.{all_stand}
use Rattle.ft_trace.proofs.OwnOrder.{own_entries_are_in_order}
use Rattle.ft_bank_history.specs.Numbering.{HaveNamedEntries}
use Rattle.ft_bank_history.specs.SoFar.{AreAllRightSoFar, AreRightSoFar, MemoryErrorsAreFound, writes_so_far}
use Rattle.ft_bank_history.proofs.NumberedEntries.{IsKept, numbered_from, numbered_thread}
use Rattle.ft_bank_history.proofs.Replies.{all_replied, own_replied}
use Rattle.ft_bank_history.proofs.ReversedLists.{all_parts}

-- each entry stands in order among the writes
each_stands : (v : View) → Sure v (λ es. All (StandsInOrder v.shape (writes_so_far es)) (all_entries v))
each_stands v es id knows =
    all_stand v.shape (history es) (all_entries v) (all_right v.shape es knows.0 id v knows.1) (entries_are_earned v.shape es knows.0 id v knows.1)

pub right_so_far : (v : View) (thread : ℕ) (mine : List NamedEntry) → IsKept thread mine v.entries → AreRightSoFar v thread mine
right_so_far v thread mine kept script for_it asks es id knows =
    let k = v.shape in
    let calls = writes_so_far es in
    numbered_thread k script calls for_it thread mine v.entries kept asks (own_replied k es knows.0 id v knows.1)
    (all_parts (StandsInOrder k calls) v.entries (flat_map (λ (l : List Entry). l) v.lists) (each_stands v es id knows)).0
    (All-head (AreInOwnOrder (IsWriteIn calls)) v.entries v.lists (own_entries_are_in_order k es knows.0 id v knows.1).1)
    (All-head (HeapErrorsFollowBoxings k calls) v.entries v.lists (heap_errors_are_earned k es knows.0 id v knows.1))

pub lists_right_so_far : (v : View) (first : ℕ) (lists : List (List NamedEntry)) (had found : List Owner) (told : List Told) → HaveNamedEntries first lists (all_lists v) had found told → AreAllRightSoFar v first lists
lists_right_so_far v first lists had found told are i mine at script for_it asks es id knows =
    let k = v.shape in
    numbered_from k script (writes_so_far es) for_it first lists (all_lists v) had found told are (all_replied k es knows.0 id v knows.1) (each_stands v es id knows) (own_entries_are_in_order k es knows.0 id v knows.1).1 (heap_errors_are_earned k es knows.0 id v knows.1) i mine at asks

pub memory_errors_are_found : (v : View) → MemoryErrorsAreFound v
memory_errors_are_found v called class n newer rest is es id knows =
    let w = was v.shape es knows.0 id v knows.1 newer (Answer called (reply.Raised (raise.Memory class)) n) rest is in
    subst (FoundEmpty class n) w.log (w.may tt).4.3
