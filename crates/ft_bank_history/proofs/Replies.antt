-- Each pass's entries have replies by the hands that it had, and keep them as more writes are made.
use Rattle.std.proofs.Common.{◌≡◌, ℕ, suc, ◌≤◌, cond, List, [], ◌∷◌, ◌++◌, length, map, reverse, take, drop, Option, refl, sym, ap, ◌∙◌, subst}
use Rattle.std.specs.Prelude.{All, fold}
use Rattle.std.specs.List.{flat_map}
use Rattle.std.proofs.lemmas.List.{reverse-reverse, take-append-le}
use Rattle.std.proofs.lemmas.List.Elements.{All-nil, All-cons, All-head, All-tail, All-append}
use mathlib.Core.Option.{some}
use mathlib.Core.Logic.{dite}
use mathlib.Core.List.{reverse-cons}
use native.Mathlib.Decide.{ℕ_discrete}
use lib.ListN.{get_elem?, length-reverse}
use Rattle.ft_model.specs.declared.call.Call.{Call}
use Rattle.ft_model.specs.declared.content.Content.{Content}
use Rattle.ft_model.specs.declared.cursor.Cursor.{Cursor}
use Rattle.ft_model.specs.declared.entry.Entry.{Entry as NamedEntry}
use Rattle.ft_model.specs.declared.script.Start.{Start}
use Rattle.ft_model.specs.Answers.{answer, world_by, is_memory}
use Rattle.ft_model.specs.Histories.{after_stamped, hands_by, IsReplied}
use Rattle.ft_model.specs.Worlds.{start_hands}
use Rattle.ft_trace.specs.declared.Act.{Act}
use Rattle.ft_trace.specs.declared.Act.TheVariants.{Commit}
use Rattle.ft_trace.specs.declared.Entry.{Entry}
use Rattle.ft_trace.specs.declared.Shape.{Shape}
use Rattle.ft_trace.specs.declared.View.{View}
use Rattle.ft_trace.specs.Acts.{entries_next, starter, view_after, maker, made, both, spent, sender, note, all_lists, all_entries, lists_of}
use Rattle.ft_trace.specs.Entries.{AllRight}
use Rattle.ft_trace.specs.Hands.{own_entries}
use Rattle.ft_trace.specs.OwnCursors.{plain_entry}
use Rattle.ft_trace.specs.Traces.{Event, did, forked, joined, sent, run, writes_of, history, Valid}
use Rattle.ft_trace.proofs.Cases.{here, miss}
use Rattle.ft_trace.proofs.ClosedEntries.{all_right}
use Rattle.ft_trace.proofs.OwnCursors.{cursors_are_hands}
use Rattle.ft_trace.proofs.Sizes.{set_views, one_more, one_view}
use Rattle.ft_bank_history.specs.Numbering.{AreReplied}
use Rattle.ft_bank_history.proofs.ReversedLists.{at_split, all_parts, all_at, all_back, map_back}

-- ---- more writes

module _ (starts : List Start) (calls more : List Call) where
  same_world : (n : ℕ) → n ≤ length calls → world_by starts (take n calls) ≡ world_by starts (take n (calls ++ more))
  same_world n low = ap (world_by starts) (sym (take-append-le n calls more low))

  same_hands : (hands : List (Option Cursor)) (before : List NamedEntry) → All (λ e. e.stamp ≤ length calls) before → fold (after_stamped starts calls) hands before ≡ fold (after_stamped starts (calls ++ more)) hands before
  same_hands hands [] low = refl
  same_hands hands (e ∷ before) low =
      ap (λ (w : List Content). fold (after_stamped starts calls) (cond (is_memory e.reply) hands (answer w hands e.call).hands) before) (same_world e.stamp (All-head (λ (x : NamedEntry). x.stamp ≤ length calls) e before low))
      ∙ same_hands (after_stamped starts (calls ++ more) hands e) before (All-tail (λ (x : NamedEntry). x.stamp ≤ length calls) e before low)

  replies_stay : (room : ℕ) (own : List Entry) → All (λ e. e.stamp ≤ length calls) own → AreReplied starts calls room own → AreReplied starts (calls ++ more) room own
  replies_stay room own low replied mine is asks place e at =
      let before = take place mine in
      let own_is : own ≡ reverse (map plain_entry mine) = sym (reverse-reverse own) ∙ ap reverse (sym is) in
      let all : All (λ x. x.stamp ≤ length calls) mine = all_back plain_entry (λ x. x.stamp ≤ length calls) mine (subst (All (λ x. x.stamp ≤ length calls)) own_is low) in
      let front = (all_parts (λ x. x.stamp ≤ length calls) before (e ∷ drop (suc place) mine) (subst (All (λ x. x.stamp ≤ length calls)) (at_split mine place e at) all)).0 in
      subst (IsReplied e.call e.reply)
      (ap (λ (w : List Content). (answer w (hands_by starts calls room before) e.call).reply) (same_world e.stamp (all_at (λ x. x.stamp ≤ length calls) mine place e at all))
      ∙ ap (λ (hands : List (Option Cursor)). (answer (world_by starts (take e.stamp (calls ++ more))) hands e.call).reply) (same_hands (start_hands room) before front))
      (replied mine is asks place e at)

-- ---- in a trace

-- stamps are not past the writes
low_parts : (starts : List Start) (cs : List Call) (xs ys : List Entry) → AllRight starts cs (xs ++ ys) → All (λ e. e.stamp ≤ length (reverse cs)) xs × AllRight starts cs ys
low_parts starts cs [] ys all = (All-nil (λ e. e.stamp ≤ length (reverse cs)), all)
low_parts starts cs (x ∷ xs) ys all =
    let r = low_parts starts cs xs ys all.1 in
    (All-cons (λ e. e.stamp ≤ length (reverse cs)) x xs (subst (λ (n : ℕ). x.stamp ≤ n) (sym (length-reverse cs)) all.0.low) r.0, r.1)

-- the lists of other passes that a view has
abbrev Replied : List Start → List Call → List Entry → Type 0
Replied starts cs own = (room : ℕ) → AreReplied starts (reverse cs) room own

list_stays : (starts : List Start) (b : Act) (cs : List Call) (own : List Entry) → All (λ e. e.stamp ≤ length (reverse cs)) own → Replied starts cs own → Replied starts (writes_of b cs) own
list_stays starts (Commit c r f s) cs own low replied = λ room. subst (λ (l : List Call). AreReplied starts l room own) (sym (reverse-cons c cs)) (replies_stay starts (reverse cs) (c ∷ []) room own low (replied room))
list_stays starts act cs own low replied = replied

lists_stay : (starts : List Start) (b : Act) (cs : List Call) (lists : List (List Entry)) → AllRight starts cs (flat_map (λ l. l) lists) → All (Replied starts cs) lists → All (Replied starts (writes_of b cs)) lists
lists_stay starts b cs [] right all = All-nil (Replied starts (writes_of b cs))
lists_stay starts b cs (own ∷ lists) right all =
    let p = low_parts starts cs own (flat_map (λ l. l) lists) right in
    All-cons (Replied starts (writes_of b cs)) own lists (list_stays starts b cs own p.0 (All-head (Replied starts cs) own lists all)) (lists_stay starts b cs lists p.1 (All-tail (Replied starts cs) own lists all))

-- a view's own entries are those of its log
abbrev OfLog : ℕ → View → Type 0
OfLog j u = u.entries ≡ own_entries u.log

of_log : (k : Shape) (es : List Event) → Valid k es → (j : ℕ) (u : View) → get_elem? (run k es).views j ≡ some u → OfLog j u
of_log k [] valid = one_view OfLog (starter k) refl
of_log k (did id v a ∷ es) valid = let old = of_log k es valid.0 in set_views OfLog _ id (view_after a v) (ap (entries_next a) (old id v valid.1.0)) (λ j u _ e. old j u e)
of_log k (forked id v ∷ es) valid = let old = of_log k es valid.0 in one_more OfLog _ (made v) refl (set_views OfLog _ id (maker v) (old id v valid.1.0) (λ j u _ e. old j u e))
of_log k (sent id v given ∷ es) valid = let old = of_log k es valid.0 in one_more OfLog _ (note given v) refl (set_views OfLog _ id (sender given v) (old id v valid.1.0) (λ j u _ e. old j u e))
of_log k (joined id v other w ∷ es) valid = let old = of_log k es valid.0 in set_views OfLog _ other spent refl (λ j u _. set_views OfLog _ id (both v w) (old id v valid.1.0) (λ j u _ e. old j u e) j u)

pub own_replied : (k : Shape) (es : List Event) → Valid k es → (j : ℕ) (u : View) → get_elem? (run k es).views j ≡ some u → Replied k.starts (history es) u.entries
own_replied k es valid j u at room mine is asks =
    (cursors_are_hands k es valid j u at room mine (map_back plain_entry mine ∙ (ap reverse is ∙ (reverse-reverse u.entries ∙ of_log k es valid j u at))) asks).1

given_replied : (P : List Entry → Type 0) (w : View) → P w.entries → All P w.lists → All P (lists_of w)
given_replied P w own all =
    dite (ℕ_discrete w.number 0)
    (λ (e : w.number ≡ 0). subst (All P) (sym (here w.number 0 w.lists (all_lists w) e)) all)
    (λ ne. subst (All P) (sym (miss w.number 0 w.lists (all_lists w) ne)) (All-cons P w.entries w.lists own all))

pub lists_replied : (k : Shape) (es : List Event) → Valid k es → (j : ℕ) (u : View) → get_elem? (run k es).views j ≡ some u → All (Replied k.starts (history es)) u.lists
lists_replied k [] valid = one_view (λ j u. All (Replied k.starts []) u.lists) (starter k) (All-nil (Replied k.starts []))
lists_replied k (did id v a ∷ es) valid =
    let old = lists_replied k es valid.0 in
    let right = all_right k es valid.0 in
    let P : ℕ → View → Type 0 = λ j u. All (Replied k.starts (writes_of a (history es))) u.lists in
    let stay : (u : View) → AllRight k.starts (history es) (all_entries u) → All (Replied k.starts (history es)) u.lists → All (Replied k.starts (writes_of a (history es))) u.lists = λ u r all.
    lists_stay k.starts a (history es) u.lists (low_parts k.starts (history es) u.entries (flat_map (λ (l : List Entry). l) u.lists) r).1 all in
    set_views P _ id (view_after a v) (stay v (right id v valid.1.0) (old id v valid.1.0)) (λ j u _ e. stay u (right j u e) (old j u e))
lists_replied k (forked id v ∷ es) valid =
    let old = lists_replied k es valid.0 in
    let P : ℕ → View → Type 0 = λ j u. All (Replied k.starts (history es)) u.lists in
    one_more P _ (made v) (All-nil (Replied k.starts (history es))) (set_views P _ id (maker v) (old id v valid.1.0) (λ j u _ e. old j u e))
lists_replied k (sent id v given ∷ es) valid =
    let old = lists_replied k es valid.0 in
    let P : ℕ → View → Type 0 = λ j u. All (Replied k.starts (history es)) u.lists in
    one_more P _ (note given v) (All-nil (Replied k.starts (history es))) (set_views P _ id (sender given v) (old id v valid.1.0) (λ j u _ e. old j u e))
lists_replied k (joined id v other w ∷ es) valid =
    let old = lists_replied k es valid.0 in
    let R = Replied k.starts (history es) in
    let P : ℕ → View → Type 0 = λ j u. All (Replied k.starts (history es)) u.lists in
    set_views P _ other spent (All-nil R)
    (λ j u _. set_views P _ id (both v w) (All-append R v.lists (lists_of w) (old id v valid.1.0) (given_replied R w (own_replied k es valid.0 other w valid.1.2) (old other w valid.1.2))) (λ j u _ e. old j u e) j u)

pub all_replied : (k : Shape) (es : List Event) → Valid k es → (j : ℕ) (u : View) → get_elem? (run k es).views j ≡ some u → All (Replied k.starts (history es)) (all_lists u)
all_replied k es valid j u at = All-cons (Replied k.starts (history es)) u.entries u.lists (own_replied k es valid j u at) (lists_replied k es valid j u at)
