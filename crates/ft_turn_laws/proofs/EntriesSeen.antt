-- A pass has seen as many writes as there were after each entry of its own.
use Rattle.std.proofs.Common.{◌≡◌, ℕ, max, ◌+◌, ◌≤◌, le_trans, true, false, List, [], ◌∷◌, ◌++◌, sym, subst, arith}
use Rattle.std.specs.Prelude.{All}
use Rattle.std.proofs.lemmas.List.Elements.{All-nil, All-cons, All-weaker}
use mathlib.Core.Option.{some}
use lib.ListN.{get_elem?}
use Rattle.ft_trace.specs.declared.Act.{Act}
use Rattle.ft_trace.specs.declared.Act.TheVariants.{ReadCounter, Commit, Answer, AnswerCursor}
use Rattle.ft_trace.specs.declared.Shape.{Shape}
use Rattle.ft_trace.specs.declared.View.{View}
use Rattle.ft_trace.specs.Acts.{starter, view_after, maker, made, both, spent, sender, note, seen_writes, shown}
use Rattle.ft_trace.specs.OwnOrder.{number_after}
use Rattle.ft_trace.specs.Traces.{Event, did, forked, joined, sent, run, history, May, IsReachable, Valid}
use Rattle.ft_trace.proofs.Seeing.{shown_up}
use Rattle.ft_trace.proofs.Sizes.{set_views, one_more, one_view}

-- a load that the log has is shown by it
shown_part : (newer rest : List Act) (n : ℕ) → n ≤ shown (newer ++ ReadCounter n ∷ rest)
shown_part [] rest n = omega arith
shown_part (a ∷ newer) rest n = le_trans (shown_part newer rest n) (shown_up a (newer ++ ReadCounter n ∷ rest))

abbrev Seen : ℕ → View → Type 0
Seen j u = All (λ e. number_after e ≤ shown u.log) u.entries

seen_by : (k : Shape) (es : List Event) (v : View) (b : Act) → May k (run k es) (history es) v b → Seen 0 v → Seen 0 (view_after b v)
seen_by k es v (Commit c r f s) may old =
    All-cons (λ e. number_after e ≤ max (shown v.log) (f + 1)) (record { call = c; reply = r; stamp = f; wrote = true }) v.entries (omega arith)
    (All-weaker (λ e. number_after e ≤ shown v.log) (λ e. number_after e ≤ max (shown v.log) (f + 1)) (λ e before. omega (arith, before)) v.entries old)
seen_by k es v (Answer c r n) may old =
    let l = may.3 in
    All-cons (λ e. number_after e ≤ shown v.log) (record { call = c; reply = r; stamp = n; wrote = false }) v.entries
    (subst (λ log. n ≤ shown log) (sym l.is) (shown_part l.newer l.rest n)) old
seen_by k es v (AnswerCursor c r n number had left) may old =
    let l = may.3 in
    All-cons (λ e. number_after e ≤ shown v.log) (record { call = c; reply = r; stamp = n; wrote = false }) v.entries
    (subst (λ log. n ≤ shown log) (sym l.is) (shown_part l.newer l.rest n)) old
seen_by k es v act may old = All-weaker (λ e. number_after e ≤ shown v.log) (λ e. number_after e ≤ shown (act ∷ v.log)) (λ e before. le_trans before (shown_up act v.log)) v.entries old

seen_all : (k : Shape) (es : List Event) → Valid k es → (j : ℕ) (u : View) → get_elem? (run k es).views j ≡ some u → Seen j u
seen_all k [] valid = one_view Seen (starter k) (All-nil (λ e. number_after e ≤ 0))
seen_all k (did id v a ∷ es) valid =
    let old = seen_all k es valid.0 in
    set_views Seen _ id (view_after a v) (seen_by k es v a valid.1.3 (old id v valid.1.0)) (λ j u _ e. old j u e)
seen_all k (forked id v ∷ es) valid =
    let old = seen_all k es valid.0 in
    one_more Seen _ (made v) (All-nil (λ e. number_after e ≤ 0)) (set_views Seen _ id (maker v) (old id v valid.1.0) (λ j u _ e. old j u e))
seen_all k (sent id v given ∷ es) valid =
    let old = seen_all k es valid.0 in
    one_more Seen _ (note given v) (All-nil (λ e. number_after e ≤ 0)) (set_views Seen _ id (sender given v) (old id v valid.1.0) (λ j u _ e. old j u e))
seen_all k (joined id v other w ∷ es) valid =
    let old = seen_all k es valid.0 in
    set_views Seen _ other spent (All-nil (λ e. number_after e ≤ 0)) (λ j u _. set_views Seen _ id (both v w) (old id v valid.1.0) (λ j u _ e. old j u e) j u)

pub entries_seen : (v : View) → IsReachable v → All (λ e. number_after e ≤ seen_writes v) v.entries
entries_seen v p =
    All-weaker (λ e. number_after e ≤ shown v.log) (λ e. number_after e ≤ seen_writes v) (λ e before. omega (arith, before)) v.entries
    (seen_all v.shape p.0 p.2.0 p.1 v p.2.1)
