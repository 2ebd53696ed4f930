-- The entries of each pass are in its order.
use Rattle.std.proofs.Common.{◌≡◌, ⊎_elim, ℕ, ◌+◌, ◌<◌, ◌≤◌, le_trans, le_refl, true, false, true≢false, List, [], ◌∷◌, ◌++◌, map, drop, length, reverse, refl, sym, ap, ◌∙◌, subst, arith}
use Rattle.std.specs.Prelude.{All, Some}
use Rattle.std.specs.List.{flat_map}
use Rattle.std.proofs.lemmas.List.Elements.{All-nil, All-cons, All-head, All-tail, All-append, All-weaker}
use mathlib.Core.Option.{some}
use mathlib.Core.Logic.{dite}
use native.Mathlib.Decide.{ℕ_discrete}
use lib.ListN.{get_elem?}
use Rattle.ft_model.specs.declared.call.Call.{Call}
use Rattle.ft_model.specs.declared.call.Call.TheVariants as call
use Rattle.ft_model.specs.declared.reply.Reply.{Reply}
use Rattle.ft_model.specs.declared.reply.Reply.TheVariants as reply
use Rattle.ft_model.specs.declared.script.Start.{Start}
use Rattle.ft_model.specs.Answers.{is_write}
use Rattle.ft_model.specs.Calls.{containers_of, moved_cursor}
use Rattle.ft_model.specs.TableUses.{StoredWorld, stored_newest}
use Rattle.ft_trace.specs.declared.Act.{Act}
use Rattle.ft_trace.specs.declared.Act.TheVariants.{Unlock, Commit, Answer, AnswerCursor}
use Rattle.ft_trace.specs.declared.Entry.{Entry}
use Rattle.ft_trace.specs.declared.Shape.{Shape}
use Rattle.ft_trace.specs.declared.View.{View}
use Rattle.ft_trace.specs.Acts.{place, Reports, starter, view_after, maker, made, both, spent, sender, note, all_lists, lists_of}
use Rattle.ft_trace.specs.Causes.{HasCause, least_stamp}
use Rattle.ft_trace.specs.Entries.{IsNumber, AllRight}
use Rattle.ft_trace.specs.OwnOrder.{number_after, after_begins, begins_in, FollowsOwn, AreInOwnOrder, IsWriteIn, OwnEntriesAreInOrder, OwnOrderStays}
use Rattle.ft_trace.specs.BegunSections.{Begun, begun, begun_by, is_among, without, IsInnermostHeld}
use Rattle.ft_trace.specs.Traces.{Event, did, forked, joined, sent, run, word, writes_of, history, May, Valid}
use Rattle.ft_trace.specs.ContainerStates.{first_writes}
use Rattle.ft_trace.proofs.Cases.{here, miss, off}
use Rattle.ft_trace.proofs.ClosedEntries.{all_right}
use Rattle.ft_trace.proofs.Contents.{counted}
use Rattle.ft_trace.proofs.InOrder.{order_numbered, get_front}
use Rattle.ft_trace.proofs.KeptSections.{EachHeld, each_held, own_writes}
use Rattle.ft_trace.proofs.Sizes.{set_views, one_more, one_view}
use Rattle.ft_trace.proofs.RisingStamps.{least_low, loaded_up}

-- ---- stamps

-- each entry of a pass was made by the time that its log says
abbrev Made : ℕ → View → Type 0
Made j u = All (λ e. number_after e ≤ least_stamp u.log) u.entries

made_by : (k : Shape) (es : List Event) → Valid k es → (id : ℕ) (v : View) → get_elem? (run k es).views id ≡ some v → (b : Act) → Reports b (word k es (place b)) → May k (run k es) (history es) v b → Made id v → Made id (view_after b v)
made_by k es valid id v at (Commit c r f s) found may old =
    let low = least_low k es valid id v at in
    let is : f ≡ length (history es) = found ∙ counted k es valid in
    let now = counted k es valid in
    All-cons (λ e. number_after e ≤ f + 1) (record { call = c; reply = r; stamp = f; wrote = true }) v.entries (le_refl (f + 1))
    (All-weaker (λ e. number_after e ≤ least_stamp v.log) (λ e. number_after e ≤ f + 1) (λ e before. omega (arith, before, low, is, now)) v.entries old)
made_by k es valid id v at (Answer c r n) found may old =
    let up = loaded_up k es valid id v at n may.3 in
    All-cons (λ e. number_after e ≤ n) (record { call = c; reply = r; stamp = n; wrote = false }) v.entries (le_refl n)
    (All-weaker (λ e. number_after e ≤ least_stamp v.log) (λ e. number_after e ≤ n) (λ e before. le_trans before up) v.entries old)
made_by k es valid id v at (AnswerCursor c r n number had left) found may old =
    let up = loaded_up k es valid id v at n may.3 in
    All-cons (λ e. number_after e ≤ n) (record { call = c; reply = r; stamp = n; wrote = false }) v.entries (le_refl n)
    (All-weaker (λ e. number_after e ≤ least_stamp v.log) (λ e. number_after e ≤ n) (λ e before. le_trans before up) v.entries old)
made_by k es valid id v at act found may old = old

made_all : (k : Shape) (es : List Event) → Valid k es → (j : ℕ) (u : View) → get_elem? (run k es).views j ≡ some u → Made j u
made_all k [] valid = one_view Made (starter k) (All-nil (λ e. number_after e ≤ 0))
made_all k (did id v a ∷ es) valid =
    let old = made_all k es valid.0 in
    set_views Made _ id (view_after a v) (made_by k es valid.0 id v valid.1.0 a valid.1.2 valid.1.3 (old id v valid.1.0)) (λ j u _ e. old j u e)
made_all k (forked id v ∷ es) valid =
    let old = made_all k es valid.0 in
    one_more Made _ (made v) (All-nil (λ e. number_after e ≤ 0)) (set_views Made _ id (maker v) (old id v valid.1.0) (λ j u _ e. old j u e))
made_all k (sent id v given ∷ es) valid =
    let old = made_all k es valid.0 in
    one_more Made _ (note given v) (All-nil (λ e. number_after e ≤ 0)) (set_views Made _ id (sender given v) (old id v valid.1.0) (λ j u _ e. old j u e))
made_all k (joined id v other w ∷ es) valid =
    let old = made_all k es valid.0 in
    set_views Made _ other spent (All-nil (λ e. number_after e ≤ 0)) (λ j u _. set_views Made _ id (both v w) (old id v valid.1.0) (λ j u _ e. old j u e) j u)

-- ---- sections by entries and by the log

abbrev Alike : List Entry → List Begun → Type 0
Alike [] [] = Unit {0}
Alike [] (b ∷ bs) = ⊥
Alike (e ∷ es) [] = ⊥
Alike (e ∷ es) (b ∷ bs) = (containers_of e.call ≡ b.containers) × (e.stamp ≡ b.stamp) × Alike es bs

alike_drop : (es : List Entry) (bs : List Begun) → Alike es bs → Alike (drop 1 es) (drop 1 bs)
alike_drop [] [] a = tt
alike_drop [] (b ∷ bs) a = absurd a
alike_drop (e ∷ es) [] a = absurd a
alike_drop (e ∷ es) (b ∷ bs) a = a.2

alike_without : (p : ℕ) (es : List Entry) (bs : List Begun) → Alike es bs → Alike es (map (without p) bs)
alike_without p [] [] a = tt
alike_without p [] (b ∷ bs) a = absurd a
alike_without p (e ∷ es) [] a = absurd a
alike_without p (e ∷ es) (b ∷ bs) a = (a.0, a.1, alike_without p es bs a.2)

alike_write : (c : Call) (e : Entry) (r : Reply) → is_write c r ≡ true → (begins : List Entry) → after_begins e c begins ≡ begins
alike_write (call.Begin x y) e r wrote begins = off wrote
alike_write call.End e r wrote begins = off wrote
alike_write (call.Dict o c) e r wrote begins = refl
alike_write (call.List o c) e r wrote begins = refl
alike_write (call.Set o c) e r wrote begins = refl
alike_write (call.Deque o c) e r wrote begins = refl
alike_write (call.Next c) e r wrote begins = refl
alike_write call.Quiesce e r wrote begins = refl
alike_write (call.Await thread index) e r wrote begins = refl
alike_write call.Dump e r wrote begins = refl

alike_call : (c : Call) (r : Reply) (n : ℕ) (l : List Act) (es : List Entry) (bs : List Begun) → Alike es bs → Alike (after_begins (record { call = c; reply = r; stamp = n; wrote = false }) c es) (begun_by c n l bs)
alike_call (call.Begin x y) r n l es bs a = (refl, refl, a)
alike_call call.End r n l es bs a = alike_drop es bs a
alike_call (call.Dict o c) r n l es bs a = a
alike_call (call.List o c) r n l es bs a = a
alike_call (call.Set o c) r n l es bs a = a
alike_call (call.Deque o c) r n l es bs a = a
alike_call (call.Next c) r n l es bs a = a
alike_call call.Quiesce r n l es bs a = a
alike_call (call.Await thread index) r n l es bs a = a
alike_call call.Dump r n l es bs a = a

-- an `iter` or a `next` begins and ends no section
alike_cursor : (c : Call) (n : ℕ) → moved_cursor c ≡ Some n → (e : Entry) (begins : List Entry) → after_begins e c begins ≡ begins
alike_cursor (call.Begin x y) n moved e begins = absurd (cc)
alike_cursor call.End n moved e begins = absurd (cc)
alike_cursor (call.Dict o c) n moved e begins = refl
alike_cursor (call.List o c) n moved e begins = refl
alike_cursor (call.Set o c) n moved e begins = refl
alike_cursor (call.Deque o c) n moved e begins = refl
alike_cursor (call.Next c) n moved e begins = refl
alike_cursor call.Quiesce n moved e begins = refl
alike_cursor (call.Await thread index) n moved e begins = refl
alike_cursor call.Dump n moved e begins = refl

abbrev AlikeIn : ℕ → View → Type 0
AlikeIn j u = Alike (begins_in u.entries) (begun u.log)

alike_by : (k : Shape) (es : List Event) (id : ℕ) (v : View) (b : Act) → May k (run k es) (history es) v b → AlikeIn id v → AlikeIn id (view_after b v)
alike_by k es id v (Commit c r f s) may old = subst (λ (l : List Entry). Alike l (begun v.log)) (sym (alike_write c (record { call = c; reply = r; stamp = f; wrote = true }) r may.0 (begins_in v.entries))) old
alike_by k es id v (Answer c r n) may old = alike_call c r n v.log (begins_in v.entries) (begun v.log) old
alike_by k es id v (AnswerCursor c r n number had left) may old = subst (λ (l : List Entry). Alike l (begun v.log)) (sym (alike_cursor c number may.0 (record { call = c; reply = r; stamp = n; wrote = false }) (begins_in v.entries))) old
alike_by k es id v (Unlock p) may old = alike_without p (begins_in v.entries) (begun v.log) old
alike_by k es id v act may old = old

alike : (k : Shape) (es : List Event) → Valid k es → (j : ℕ) (u : View) → get_elem? (run k es).views j ≡ some u → AlikeIn j u
alike k [] valid = one_view AlikeIn (starter k) tt
alike k (did id v a ∷ es) valid =
    let old = alike k es valid.0 in
    set_views AlikeIn _ id (view_after a v) (alike_by k es id v a valid.1.3 (old id v valid.1.0)) (λ j u _ e. old j u e)
alike k (forked id v ∷ es) valid =
    let old = alike k es valid.0 in
    one_more AlikeIn _ (made v) tt (set_views AlikeIn _ id (maker v) (old id v valid.1.0) (λ j u _ e. old j u e))
alike k (sent id v given ∷ es) valid =
    let old = alike k es valid.0 in
    one_more AlikeIn _ (note given v) tt (set_views AlikeIn _ id (sender given v) (old id v valid.1.0) (λ j u _ e. old j u e))
alike k (joined id v other w ∷ es) valid =
    let old = alike k es valid.0 in
    set_views AlikeIn _ other spent tt (λ j u _. set_views AlikeIn _ id (both v w) (old id v valid.1.0) (λ j u _ e. old j u e) j u)

-- the innermost section by the log, where the entries have it
alike_first : (e : Entry) (es : List Entry) (bs : List Begun) → Alike (e ∷ es) bs → (b : Begun) × (rest : List Begun) × (bs ≡ b ∷ rest) × (containers_of e.call ≡ b.containers) × (e.stamp ≡ b.stamp)
alike_first e es [] a = absurd a
alike_first e es (b ∷ bs) a = (b, bs, refl, a.0, a.1)

-- ---- later writes

-- what is known of writes up to a stamp is known of other writes that are the same up to there
follows_where : (P Q : ℕ → Call → Type 0) (before : List Entry) (e : Entry) → ((n : ℕ) (called : Call) → n < e.stamp → Q n called → P n called) → FollowsOwn P before e → FollowsOwn Q before e
follows_where P Q before e same f = record {
  rises = f.rises;
  kept = λ is_end is_kept begun outer opens o n called among named low past is. f.kept is_end is_kept begun outer opens o n called among named low past (same n called past is);
}

own_where : (P Q : ℕ → Call → Type 0) (m : ℕ) (entries : List Entry) → All (λ e. e.stamp ≤ m) entries → ((n : ℕ) (called : Call) → n < m → Q n called → P n called) → AreInOwnOrder P entries → AreInOwnOrder Q entries
own_where P Q m [] low same own = tt
own_where P Q m (e ∷ before) low same own =
    let top = All-head (λ e. e.stamp ≤ m) e before low in (
      follows_where P Q before e (λ n called past is. same n called (le_trans past top) is) own.0,
      own_where P Q m before (All-tail (λ e. e.stamp ≤ m) e before low) same own.1,
    )

right_low : (starts : List Start) (cs : List Call) (entries : List Entry) → AllRight starts cs entries → All (λ e. e.stamp ≤ length cs) entries
right_low starts cs [] all = All-nil (λ e. e.stamp ≤ length cs)
right_low starts cs (e ∷ entries) all = All-cons (λ e. e.stamp ≤ length cs) e entries all.0.low (right_low starts cs entries all.1)

pub right_parts : (starts : List Start) (cs : List Call) (xs ys : List Entry) → AllRight starts cs (xs ++ ys) → AllRight starts cs xs × AllRight starts cs ys
right_parts starts cs [] ys all = (tt, all)
right_parts starts cs (x ∷ xs) ys all = let r = right_parts starts cs xs ys all.1 in ((all.0, r.0), r.1)

older_number : (b : Act) (cs : List Call) (n : ℕ) (called : Call) → n < length cs → IsNumber (writes_of b cs) n called → IsNumber cs n called
older_number (Commit c r f s) cs n called low is = ⊎_elim (λ (e : (n ≡ length cs) × (called ≡ c)). let at = e.0 in absurd (omega (arith, at, low))) (λ older. older) is
older_number act cs n called low is = is

own_stays : (starts : List Start) (b : Act) (cs : List Call) (entries : List Entry) → AllRight starts cs entries → AreInOwnOrder (IsNumber cs) entries → AreInOwnOrder (IsNumber (writes_of b cs)) entries
own_stays starts b cs entries right own = own_where (IsNumber cs) (IsNumber (writes_of b cs)) (length cs) entries (right_low starts cs entries right) (older_number b cs) own

pub own_order_stays : OwnOrderStays
own_order_stays calls more entries low own =
    own_where (IsWriteIn calls) (IsWriteIn (calls ++ more)) (length calls) entries low (λ n called within is. sym (get_front calls more n within) ∙ is) own

-- ---- one more entry

kept_cause : (stored : StoredWorld) (v : View) (c : Call) (r : Reply) (n : ℕ) → r ≡ reply.Kept → HasCause stored v c r n → IsInnermostHeld (begun v.log)
kept_cause stored v c r n is cause = (subst (λ (z : Reply). HasCause stored v c z n) is cause).1

own_next : (k : Shape) (es : List Event) → Valid k es → (id : ℕ) (v : View) → get_elem? (run k es).views id ≡ some v → (b : Act) → Reports b (word k es (place b)) → May k (run k es) (history es) v b → AreInOwnOrder (IsNumber (writes_of b (history es))) v.entries → AreInOwnOrder (IsNumber (writes_of b (history es))) (view_after b v).entries
own_next k es valid id v at (Commit c r f s) found may old =
    let low = least_low k es valid id v at in
    let before = made_all k es valid id v at in (
      record {
        rises = All-weaker (λ e. number_after e ≤ least_stamp v.log) (λ e. number_after e ≤ f) (λ e past. omega (arith, past, low, found)) v.entries before;
        kept = λ is_end _ _ _ _. absurd (true≢false (sym may.0 ∙ ap (λ (z : Call). is_write z r) is_end));
      },
      old,
    )
own_next k es valid id v at (Answer c r n) found may old =
    let before = made_all k es valid id v at in
    let up = loaded_up k es valid id v at n may.3 in (
      record {
        rises = All-weaker (λ e. number_after e ≤ least_stamp v.log) (λ e. number_after e ≤ n) (λ e past. le_trans past up) v.entries before;
        kept = λ is_end is_kept first outer opens o m called among named low past is.
            let f = alike_first first outer (begun v.log) (subst (λ (l : List Entry). Alike l (begun v.log)) opens (alike k es valid id v at)) in
            let held = kept_cause (stored_newest k.starts (first_writes n (history es))) v c r n is_kept may.4 f.0 f.1 f.2 in
            let since = (subst (EachHeld v.log) f.2 (each_held v.log)).0 held o (ap (is_among o) (sym f.3) ∙ among) in
            own_writes k es valid o f.0.stamp id v at since m called named (subst (λ (z : ℕ). z ≤ m) f.4 low) is;
      },
      old,
    )
own_next k es valid id v at (AnswerCursor c r n number had left) found may old =
    let before = made_all k es valid id v at in
    let up = loaded_up k es valid id v at n may.3 in (
      record {
        rises = All-weaker (λ e. number_after e ≤ least_stamp v.log) (λ e. number_after e ≤ n) (λ e past. le_trans past up) v.entries before;
        kept = λ is_end _ _ _ _. absurd (let moved : moved_cursor call.End ≡ Some number = ap moved_cursor (sym is_end) ∙ may.0 in cc);
      },
      old,
    )
own_next k es valid id v at act found may old = old

-- ---- all passes

abbrev InOrder : Shape → List Event → ℕ → View → Type 0
InOrder k es j u = All (AreInOwnOrder (IsNumber (history es))) (all_lists u)

right_lists : (k : Shape) (b : Act) (cs : List Call) (lists : List (List Entry)) → AllRight k.starts cs (flat_map (λ (m : List Entry). m) lists) → All (AreInOwnOrder (IsNumber cs)) lists → All (AreInOwnOrder (IsNumber (writes_of b cs))) lists
right_lists k b cs [] right all = All-nil (AreInOwnOrder (IsNumber (writes_of b cs)))
right_lists k b cs (l ∷ lists) right all =
    let p = right_parts k.starts cs l (flat_map (λ (m : List Entry). m) lists) right in
    All-cons (AreInOwnOrder (IsNumber (writes_of b cs))) l lists
    (own_stays k.starts b cs l p.0 (All-head (AreInOwnOrder (IsNumber cs)) l lists all))
    (right_lists k b cs lists p.1 (All-tail (AreInOwnOrder (IsNumber cs)) l lists all))

pub given_lists : (P : List Entry → Type 0) (w : View) → All P (all_lists w) → All P (lists_of w)
given_lists P w all =
    dite (ℕ_discrete w.number 0)
    (λ (e : w.number ≡ 0). subst (All P) (sym (here w.number 0 w.lists (all_lists w) e)) (All-tail P w.entries w.lists all))
    (λ ne. subst (All P) (sym (miss w.number 0 w.lists (all_lists w) ne)) all)

in_order : (k : Shape) (es : List Event) → Valid k es → (j : ℕ) (u : View) → get_elem? (run k es).views j ≡ some u → InOrder k es j u
in_order k [] valid = one_view (InOrder k []) (starter k) (All-cons (AreInOwnOrder (IsNumber [])) [] [] tt (All-nil (AreInOwnOrder (IsNumber []))))
in_order k (did id v a ∷ es) valid =
    let old = in_order k es valid.0 in
    let right = all_right k es valid.0 in
    let P : List Entry → Type 0 = AreInOwnOrder (IsNumber (writes_of a (history es))) in
    let mine = right_lists k a (history es) (all_lists v) (right id v valid.1.0) (old id v valid.1.0) in
    set_views (InOrder k (did id v a ∷ es)) _ id (view_after a v)
    (All-cons P (view_after a v).entries v.lists (own_next k es valid.0 id v valid.1.0 a valid.1.2 valid.1.3 (All-head P v.entries v.lists mine)) (All-tail P v.entries v.lists mine))
    (λ j u _ e. right_lists k a (history es) (all_lists u) (right j u e) (old j u e))
in_order k (forked id v ∷ es) valid =
    let old = in_order k es valid.0 in
    let P : List Entry → Type 0 = AreInOwnOrder (IsNumber (history es)) in
    one_more (InOrder k es) _ (made v) (All-cons P [] [] tt (All-nil P)) (set_views (InOrder k es) _ id (maker v) (old id v valid.1.0) (λ j u _ e. old j u e))
in_order k (sent id v given ∷ es) valid =
    let old = in_order k es valid.0 in
    let P : List Entry → Type 0 = AreInOwnOrder (IsNumber (history es)) in
    one_more (InOrder k es) _ (note given v) (All-cons P [] [] tt (All-nil P)) (set_views (InOrder k es) _ id (sender given v) (old id v valid.1.0) (λ j u _ e. old j u e))
in_order k (joined id v other w ∷ es) valid =
    let old = in_order k es valid.0 in
    let P : List Entry → Type 0 = AreInOwnOrder (IsNumber (history es)) in
    let mine = old id v valid.1.0 in
    set_views (InOrder k es) _ other spent (All-cons P [] [] tt (All-nil P))
    (λ j u _. set_views (InOrder k es) _ id (both v w)
    (All-cons P v.entries (v.lists ++ lists_of w) (All-head P v.entries v.lists mine) (All-append P v.lists (lists_of w) (All-tail P v.entries v.lists mine) (given_lists P w (old other w valid.1.2))))
    (λ j u _ e. old j u e) j u)

-- by writes from the first to the newest
by_order : (cs : List Call) (l : List Entry) → AreInOwnOrder (IsNumber cs) l → AreInOwnOrder (IsWriteIn (reverse cs)) l
by_order cs [] own = tt
by_order cs (e ∷ l) own = (follows_where (IsNumber cs) (IsWriteIn (reverse cs)) l e (λ n called past is. order_numbered cs n called is) own.0, by_order cs l own.1)

pub own_entries_are_in_order : OwnEntriesAreInOrder
own_entries_are_in_order k es valid j u at =
    let all = in_order k es valid j u at in
    (all, All-weaker (AreInOwnOrder (IsNumber (history es))) (AreInOwnOrder (IsWriteIn (reverse (history es)))) (by_order (history es)) (all_lists u) all)
