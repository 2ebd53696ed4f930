-- Entries of passes, beside the writes in their order, are numbered entries of a script.
use Rattle.std.proofs.Common.{◌≡◌, ℕ, zero, suc, ◌+◌, ◌≤◌, Bool, true, false, cond, List, [], ◌∷◌, ◌++◌, map, drop, take, reverse, Some, refl, sym, ap, ◌∙◌, subst, arith, append-nil}
use Rattle.std.specs.Prelude.{◌&&◌, All, ◌==◌, ◌||◌, fold, length, slice_get}
use Rattle.std.specs.List.{count_by, flat_map, list_any, range_with_len, sum_by}
use Rattle.std.proofs.lemmas.List.{reverse-append, reverse-reverse, map-append}
use Rattle.std.proofs.lemmas.List.Elements.{All-head, All-tail, All-weaker}
use Rattle.std.proofs.lemmas.List.Sums.{sum_by-cons, sum_by-append}
use mathlib.Core.List.{reverse-cons}
use Rattle.ft_model.specs.declared.call.Call.{Call}
use Rattle.ft_model.specs.declared.call.Call.TheVariants as call
use Rattle.ft_model.specs.declared.entry.Entry.{Entry as NamedEntry}
use Rattle.ft_model.specs.declared.entry.Storage.TheVariants as storage
use Rattle.ft_model.specs.declared.reply.Reply.{Reply}
use Rattle.ft_model.specs.declared.reply.Reply.TheVariants as reply
use Rattle.ft_model.specs.declared.script.ScriptParts.{ScriptParts}
use Rattle.ft_model.specs.declared.reply.Raise.TheVariants as raise
use Rattle.ft_model.specs.declared.script.Start.{Start}
use Rattle.ft_model.specs.Boxings.{boxes, boxings, has_boxed as named_boxed}
use Rattle.ft_model.specs.Answers.{answer, world_by}
use Rattle.ft_model.specs.Calls.{containers_of}
use Rattle.ft_model.specs.Histories.{names, cursors_of, hands_by, IsReplied, IsCountedAs, EachAt, IfEnds, IfInnermost}
use Rattle.ft_model.specs.Numbers.{is_number, after_begins, begins_of, marks_since, IsKeptFrom, IsRightAfter, IsNumberedThread}
use Rattle.ft_model.specs.TableUses.{Supply, stored_by, IsEarnedReply, IsFittingReply}
use Rattle.ft_model.specs.Worlds.{starts_of}
use Rattle.ft_trace.specs.declared.Entry.{Entry}
use Rattle.ft_trace.specs.declared.Owner.{Owner}
use Rattle.ft_trace.specs.declared.Shape.{Shape}
use Rattle.ft_trace.specs.declared.Told.{Told}
use Rattle.ft_trace.specs.Entries.{total, number_count}
use Rattle.ft_trace.specs.HeapErrors.{has_boxed, HeapErrorsFollowBoxings}
use Rattle.ft_trace.specs.InOrder.{StandsInOrder}
use Rattle.ft_trace.specs.OwnOrder.{number_after as own_after, is_write_of, after_begins as own_begins, begins_in, FollowsOwn, AreInOwnOrder, IsWriteIn}
use Rattle.ft_trace.specs.BegunSections.{is_among}
use Rattle.ft_trace.proofs.Cases.{hit}
use Rattle.ft_trace.proofs.Totals.{total-append}
use Rattle.ft_trace.specs.OwnCursors.{plain_entry, AsksWithin}
use Rattle.ft_bank_history.specs.Numbering.{IsFor, AreReplied, HasNamedEntries, HaveNamedEntries, EntriesAreNumbered}
use Rattle.ft_bank_history.proofs.ReversedLists.{at_split, all_parts, all_at, turned, all_back, any_back}

-- ---- sections

begins_one : (x : NamedEntry) (c : Call) (acc : List NamedEntry) → map plain_entry (after_begins x c acc) ≡ own_begins (plain_entry x) c (map plain_entry acc)
begins_one x (call.Begin a b) acc = refl
begins_one x call.End [] = refl
begins_one x call.End (y ∷ acc) = refl
begins_one x (call.Dict o c) acc = refl
begins_one x (call.List o c) acc = refl
begins_one x (call.Set o c) acc = refl
begins_one x (call.Deque o c) acc = refl
begins_one x (call.Next c) acc = refl
begins_one x call.Quiesce acc = refl
begins_one x (call.Await thread index) acc = refl
begins_one x call.Dump acc = refl

begins_from : (acc : List NamedEntry) (older : List Entry) → map plain_entry acc ≡ begins_in older → (xs : List NamedEntry) → map plain_entry (fold (λ begins entry. after_begins entry entry.call begins) acc xs) ≡ begins_in (reverse (map plain_entry xs) ++ older)
begins_from acc older same [] = same
begins_from acc older same (x ∷ xs) =
    begins_from (after_begins x x.call acc) (plain_entry x ∷ older) (begins_one x x.call acc ∙ ap (own_begins (plain_entry x) x.call) same) xs
    ∙ ap begins_in (sym (turned plain_entry x xs older))

begins_same : (xs : List NamedEntry) → map plain_entry (begins_of xs) ≡ begins_in (reverse (map plain_entry xs))
begins_same xs = begins_from [] [] refl xs ∙ ap begins_in (append-nil (reverse (map plain_entry xs)))

pick : (b c : Bool) → c ≡ true → cond b true c ≡ true
pick true c e = refl
pick false c e = e

-- a container of the section that the call names
abbrev NamedIn : Call → List ℕ → Type 0
NamedIn called os = (o : ℕ) × (is_among o os ≡ true) × (names o called ≡ true)

named_by : (called : Call) (p : ℕ) (ps : List ℕ) (b : Bool) → names p called ≡ b → (b || list_any (λ o. names o called) ps) ≡ true → (list_any (λ o. names o called) ps ≡ true → NamedIn called ps) → NamedIn called (p ∷ ps)
named_by called p ps true is e more = (p, hit p true (is_among p ps), is)
named_by called p ps false is e more = let r = more e in (r.0, pick (p == r.0) (is_among r.0 ps) r.1, r.2)

named_one : (called : Call) (os : List ℕ) → list_any (λ o. names o called) os ≡ true → NamedIn called os
named_one called [] e = absurd (cc)
named_one called (p ∷ ps) e = named_by called p ps (names p called) refl e (named_one called ps)

-- what an entry counts that waited in the section that it ends (C API, critical sections)
abbrev Counts : List NamedEntry → NamedEntry → NamedEntry → Type 0
Counts before entry begun = IsCountedAs (marks_since entry.thread before begun) entry.reply

-- what a caller keeps of its own entries, whatever they say of locks
pub record IsKept (thread : ℕ) (mine : List NamedEntry) (entries : List Entry) : Type 0 where
  pub same : map plain_entry mine ≡ reverse entries
  pub own : All (λ entry. entry.thread ≡ thread) mine
  pub indexes : map (λ entry. entry.index) mine ≡ range_with_len 1 (length mine)
  pub counted : EachAt mine (λ place entry. IfEnds (begins_of (take place mine)) entry.call
      (λ begun. IsCountedAs (marks_since entry.thread (take place mine) begun) entry.reply))

kept_by_names : (thread : ℕ) (mine : List NamedEntry) (entries : List Entry) (had found : List Owner) (told : List Told) → HasNamedEntries thread mine entries had found told → IsKept thread mine entries
kept_by_names thread mine entries had found told are = record { same = are.same; own = are.own; indexes = are.indexes; counted = are.counted }

-- ---- boxings

take_take : {A : Type 0} (l : List A) (m n : ℕ) → m ≤ n → take m (take n l) ≡ take m l
take_take [] zero zero low = refl
take_take [] zero (suc n) low = refl
take_take [] (suc m) zero low = absurd (omega (arith, low))
take_take [] (suc m) (suc n) low = refl
take_take (x ∷ l) zero zero low = refl
take_take (x ∷ l) zero (suc n) low = refl
take_take (x ∷ l) (suc m) zero low = absurd (omega (arith, low))
take_take (x ∷ l) (suc m) (suc n) low = ap (λ (r : List _). x ∷ r) (take_take l m n (omega (arith, low)))

-- how many entries put a value in a box, counted by the writes up to a stamp that none of them passes
boxed_back : (starts : List Start) (calls : List Call) (stamp : ℕ) (mine : List NamedEntry) → All (λ e. own_after (plain_entry e) ≤ stamp) mine → count_by (has_boxed starts calls) (reverse (map plain_entry mine)) ≡ boxings starts (take stamp calls) mine
boxed_back starts calls stamp [] low = refl
boxed_back starts calls stamp (m ∷ mine) low =
    let P : NamedEntry → Type 0 = λ e. own_after (plain_entry e) ≤ stamp in
    let first = All-head P m mine low in
    let below : m.stamp ≤ stamp = stamp_low m first in
    let a : ◌≡◌ {A = ℕ} (count_by (has_boxed starts calls) (reverse (map plain_entry (m ∷ mine)))) (count_by (has_boxed starts calls) (reverse (map plain_entry mine) ++ plain_entry m ∷ [])) = ap (count_by (has_boxed starts calls)) (reverse-cons (plain_entry m) (map plain_entry mine)) in
    let b = sum_by-append (λ (e : Entry). cond {A = ℕ} (has_boxed starts calls e) 1 0) (reverse (map plain_entry mine)) (plain_entry m ∷ []) in
    let one = sum_by-cons (λ (e : Entry). cond {A = ℕ} (has_boxed starts calls e) 1 0) (plain_entry m) [] in
    let none : sum_by (λ (e : Entry). cond {A = ℕ} (has_boxed starts calls e) 1 0) [] ≡ 0 = refl in
    let c = sum_by-cons (λ (e : NamedEntry). cond {A = ℕ} (named_boxed starts (take stamp calls) e) 1 0) m mine in
    let same : ◌≡◌ {A = ℕ} (cond (has_boxed starts calls (plain_entry m)) 1 0) (cond (named_boxed starts (take stamp calls) m) 1 0) = ap (λ (z : List Call). cond {A = ℕ} (m.wrote && boxes (world_by starts z) m.call) 1 0) (sym (take_take calls m.stamp stamp below)) in
    let rest = boxed_back starts calls stamp mine (All-tail P m mine low) in
    omega (arith, a, b, one, none, c, same, rest)
  where
    stamp_low : (e : NamedEntry) → own_after (plain_entry e) ≤ stamp → e.stamp ≤ stamp
    stamp_low e low = by e.wrote low
      where
        by : (w : Bool) → cond w (e.stamp + 1) e.stamp ≤ stamp → e.stamp ≤ stamp
        by true low = omega (arith, low)
        by false low = low

-- ---- one entry

full_at : (k : Shape) (calls : List Call) (newer : List Entry) (e : Entry) (older : List Entry) → HeapErrorsFollowBoxings k calls (newer ++ e ∷ older) → e.reply ≡ reply.Raised raise.Heap → k.heap ≤ count_by (has_boxed k.starts calls) older
full_at k calls [] e older all = all.0
full_at k calls (x ∷ newer) e older all = full_at k calls newer e older all.1

own_at : (W : ℕ → Call → Type 0) (newer : List Entry) (e : Entry) (older : List Entry) → AreInOwnOrder W (newer ++ e ∷ older) → FollowsOwn W older e
own_at W [] e older own = own.0
own_at W (x ∷ newer) e older own = own_at W newer e older own.1

module _ (k : Shape) (script : ScriptParts) (calls : List Call) (for_it : IsFor script k) where
  starts : List Start
  starts = starts_of script.containers

  -- an entry after those that its caller kept before it
  module _ (before : List NamedEntry) (entry : NamedEntry) (stands : StandsInOrder k calls (plain_entry entry)) (follows : FollowsOwn (IsWriteIn calls) (reverse (map plain_entry before)) (plain_entry entry)) (full : entry.reply ≡ reply.Raised raise.Heap → k.heap ≤ count_by (has_boxed k.starts calls) (reverse (map plain_entry before))) where
    writes_kept : (begun : NamedEntry) (begins : List NamedEntry) → begins_of before ≡ begun ∷ begins → entry.call ≡ call.End → (said : Reply) → entry.reply ≡ said → IsKeptFrom calls before begun entry.stamp said
    writes_kept begun begins opens is_end reply.Kept is_kept = λ number called low past is named.
        let n = named_one called (containers_of begun.call) named in
        any_back plain_entry (is_write_of number) before
        (follows.kept is_end is_kept (plain_entry begun) (map plain_entry begins) (sym (begins_same before) ∙ ap (map plain_entry) opens) n.0 number called n.1 n.2 low past is)
    writes_kept begun begins opens is_end said is_said = tt

    kept_begun : (begins : List NamedEntry) → begins_of before ≡ begins → entry.call ≡ call.End → IfInnermost begins (λ begun. IsKeptFrom calls before begun entry.stamp entry.reply)
    kept_begun [] opens is_end = tt
    kept_begun (begun ∷ begins) opens is_end = writes_kept begun begins opens is_end entry.reply refl

    kept_by : (c : Call) → entry.call ≡ c → IfEnds (begins_of before) c (λ begun. IsKeptFrom calls before begun entry.stamp entry.reply)
    kept_by call.End is = kept_begun (begins_of before) refl is
    kept_by (call.Begin a b) is = tt
    kept_by (call.Dict o c) is = tt
    kept_by (call.List o c) is = tt
    kept_by (call.Set o c) is = tt
    kept_by (call.Deque o c) is = tt
    kept_by (call.Next c) is = tt
    kept_by call.Quiesce is = tt
    kept_by (call.Await thread index) is = tt
    kept_by call.Dump is = tt

    boxed_before : entry.reply ≡ reply.Raised raise.Heap → k.heap ≤ boxings k.starts (take entry.stamp calls) before
    boxed_before is = let low = full is in let same = boxed_back k.starts calls entry.stamp before (all_back plain_entry (λ earlier. own_after earlier ≤ entry.stamp) before follows.rises) in omega (arith, low, same)

    pub right_after : IsReplied entry.call entry.reply (answer (world_by k.starts (take entry.stamp calls)) (hands_by k.starts calls (cursors_of script entry.thread) before) entry.call).reply → IfEnds (begins_of before) entry.call (λ begun. Counts before entry begun) → IsRightAfter storage.Tables script calls before entry
    right_after replied counted =
        let upto = take entry.stamp calls in
        let earned = stands.earned before boxed_before in
        record {
          within = stands.within;
          rises = all_back plain_entry (λ earlier. own_after earlier ≤ entry.stamp) before follows.rises;
          wrote = stands.wrote;
          reply = subst (λ (z : List Start). IsReplied entry.call entry.reply (answer (world_by z upto) (hands_by z calls (cursors_of script entry.thread) before) entry.call).reply) for_it.starts replied;
          kept = kept_by entry.call refl;
          counted = counted;
          earned = subst (λ (z : List Start × Supply). IsEarnedReply z.0 z.1 upto before entry.call entry.reply) (λ d. (for_it.starts d, record { tables = for_it.tables d; threads = for_it.passes d; heap = for_it.heap d })) earned;
          fitting = subst (λ (z : List Start). IsFittingReply (stored_by z upto) entry.call entry.reply) for_it.starts stands.fitting;
        }

  -- ---- one pass

  module _ (thread : ℕ) (mine : List NamedEntry) (own : List Entry) (kept : IsKept thread mine own) (asks : All (AsksWithin (cursors_of script thread)) mine) (replied : (room : ℕ) → AreReplied k.starts calls room own) (stand : All (StandsInOrder k calls) own) (ordered : AreInOwnOrder (IsWriteIn calls) own) (full : HeapErrorsFollowBoxings k calls own) where
    own_is : own ≡ reverse (map plain_entry mine)
    own_is = sym (reverse-reverse own) ∙ ap reverse (sym kept.same)

    -- its entries as those of a view, split at one
    split_at : (place : ℕ) (entry : NamedEntry) → slice_get mine place ≡ Some entry → own ≡ reverse (map plain_entry (drop (suc place) mine)) ++ plain_entry entry ∷ reverse (map plain_entry (take place mine))
    split_at place entry at =
        let cut = at_split mine place entry at in
        let before = take place mine in
        let after = drop (suc place) mine in
        own_is
        ∙ (ap (λ (l : List NamedEntry). reverse (map plain_entry l)) cut
        ∙ (ap reverse (map-append plain_entry before (entry ∷ after))
        ∙ (reverse-append (map plain_entry before) (plain_entry entry ∷ map plain_entry after)
        ∙ turned plain_entry entry after (reverse (map plain_entry before)))))

    right_at : EachAt mine (λ place entry. IsRightAfter storage.Tables script calls (take place mine) entry)
    right_at place entry at =
        let cut = split_at place entry at in
        let newer = reverse (map plain_entry (drop (suc place) mine)) in
        let older = reverse (map plain_entry (take place mine)) in
        let s = All-head (StandsInOrder k calls) (plain_entry entry) older (all_parts (StandsInOrder k calls) newer (plain_entry entry ∷ older) (subst (All (StandsInOrder k calls)) cut stand)).1 in
        let f = own_at (IsWriteIn calls) newer (plain_entry entry) older (subst (AreInOwnOrder (IsWriteIn calls)) cut ordered) in
        let named : entry.thread ≡ thread = all_at (λ e. e.thread ≡ thread) mine place entry at kept.own in
        right_after (take place mine) entry s f (full_at k calls newer (plain_entry entry) older (subst (HeapErrorsFollowBoxings k calls) cut full))
        (subst (λ (z : ℕ). IsReplied entry.call entry.reply (answer (world_by k.starts (take entry.stamp calls)) (hands_by k.starts calls (cursors_of script z) (take place mine)) entry.call).reply) (sym named) (replied (cursors_of script thread) mine kept.same asks place entry at))
        (kept.counted place entry at)

    pub numbered_thread : IsNumberedThread storage.Tables script calls thread mine
    numbered_thread = record {
      own = kept.own;
      indexes = kept.indexes;
      numbers = all_back plain_entry (λ e. e.wrote ≡ true → slice_get calls e.stamp ≡ Some e.call) mine
          (subst (All (λ e. e.wrote ≡ true → slice_get calls e.stamp ≡ Some e.call)) own_is (All-weaker (StandsInOrder k calls) (λ e. e.wrote ≡ true → slice_get calls e.stamp ≡ Some e.call) (λ e s. s.number) own stand));
      right = right_at;
    }

  -- ---- all passes

  pub numbered_from : (first : ℕ) (kept : List (List NamedEntry)) (lists : List (List Entry)) (had found : List Owner) (told : List Told) → HaveNamedEntries first kept lists had found told → All (λ own. (room : ℕ) → AreReplied k.starts calls room own) lists → All (StandsInOrder k calls) (flat_map (λ own. own) lists) → All (AreInOwnOrder (IsWriteIn calls)) lists → All (HeapErrorsFollowBoxings k calls) lists → (i : ℕ) (mine : List NamedEntry) → slice_get kept i ≡ Some mine → All (AsksWithin (cursors_of script (first + i))) mine → IsNumberedThread storage.Tables script calls (first + i) mine
  numbered_from first [] lists had found told are replied stand ordered full i mine at asks = absurd (cc)
  numbered_from first (m ∷ kept) [] had found told are replied stand ordered full i mine at asks = absurd are
  numbered_from first (m ∷ kept) (own ∷ lists) had found told are replied stand ordered full zero mine at asks =
      let same : m ≡ mine = cc in
      let here : first ≡ first + 0 = omega arith in
      let s = (all_parts (StandsInOrder k calls) own (flat_map (λ l. l) lists) stand).0 in
      let o = All-head (AreInOwnOrder (IsWriteIn calls)) own lists ordered in
      subst (λ (z : ℕ × List NamedEntry). IsNumberedThread storage.Tables script calls z.0 z.1) (λ d. (here d, same d)) (numbered_thread first m own (kept_by_names first m own had found told are.0) (subst (λ (z : ℕ × List NamedEntry). All (AsksWithin (cursors_of script z.0)) z.1) (λ d. (sym here d, sym same d)) asks) (All-head (λ l. (room : ℕ) → AreReplied k.starts calls room l) own lists replied) s o (All-head (HeapErrorsFollowBoxings k calls) own lists full))
  numbered_from first (m ∷ kept) (own ∷ lists) had found told are replied stand ordered full (suc i) mine at asks =
      let next : suc first + i ≡ first + suc i = omega arith in
      subst (λ (z : ℕ). IsNumberedThread storage.Tables script calls z mine) next
      (numbered_from (suc first) kept lists had found told are.1 (All-tail (λ l. (room : ℕ) → AreReplied k.starts calls room l) own lists replied) (all_parts (StandsInOrder k calls) own (flat_map (λ l. l) lists) stand).1 (All-tail (AreInOwnOrder (IsWriteIn calls)) own lists ordered) (All-tail (HeapErrorsFollowBoxings k calls) own lists full) i mine at (subst (λ (z : ℕ). All (AsksWithin (cursors_of script z)) mine) (sym next) asks))

-- ---- how many are the write of a number

abbrev count_of : ℕ → NamedEntry → ℕ
count_of n e = cond (is_number n e) 1 0

count_own : (n : ℕ) (mine : List NamedEntry) → total (number_count n) (reverse (map plain_entry mine)) ≡ sum_by (count_of n) mine
count_own n [] = refl
count_own n (m ∷ mine) =
    let a = ap (total (number_count n)) (reverse-cons (plain_entry m) (map plain_entry mine)) ∙ total-append (number_count n) (reverse (map plain_entry mine)) (plain_entry m ∷ []) in
    let b = count_own n mine in
    let c = sum_by-cons (count_of n) m mine in
    let d : number_count n (plain_entry m) ≡ count_of n m = refl in
    omega (arith, a, b, c, d)

count_all : (n first : ℕ) (kept : List (List NamedEntry)) (lists : List (List Entry)) (had found : List Owner) (told : List Told) → HaveNamedEntries first kept lists had found told → total (number_count n) (flat_map (λ own. own) lists) ≡ sum_by (count_of n) (flat_map (λ mine. mine) kept)
count_all n first [] [] had found told are = refl
count_all n first [] (own ∷ lists) had found told are = absurd are
count_all n first (m ∷ kept) [] had found told are = absurd are
count_all n first (m ∷ kept) (own ∷ lists) had found told are =
    let own_is : own ≡ reverse (map plain_entry m) = sym (reverse-reverse own) ∙ ap reverse (sym are.0.same) in
    let a = total-append (number_count n) own (flat_map (λ l. l) lists) in
    let b = ap (total (number_count n)) own_is ∙ count_own n m in
    let c = count_all n (suc first) kept lists had found told are.1 in
    let d = sum_by-append (count_of n) m (flat_map (λ mine. mine) kept) in
    omega (arith, a, b, c, d)

pub entries_are_numbered : EntriesAreNumbered
entries_are_numbered k script calls lists kept had found told for_it in_order ordered full replied are asks count = record {
  count = count;
  threads = λ thread mine at.
      let same : 0 + thread ≡ thread = omega arith in
      subst (λ (z : ℕ). IsNumberedThread storage.Tables script calls z mine) same (numbered_from k script calls for_it 0 kept lists had found told are replied in_order.each ordered full thread mine at (subst (λ (z : ℕ). All (AsksWithin (cursors_of script z)) mine) (sym same) (asks thread mine at)));
  once = λ number low. sym (count_all number 0 kept lists had found told are) ∙ in_order.once number low;
}
