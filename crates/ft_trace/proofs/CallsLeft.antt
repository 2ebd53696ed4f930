-- Each call that a pass has no longer left stands in one entry.
use Rattle.std.proofs.Common.{◌≡◌, ℕ, ◌+◌, ◌*◌, ◌<◌, List, [], ◌∷◌, ◌++◌, length, refl, sym, ap, ◌∙◌, arith}
use Rattle.std.proofs.lemmas.List.{length-append}
use Rattle.std.specs.List.{flat_map}
use mathlib.Core.Option.{some}
use mathlib.Core.Logic.{dite}
use native.Mathlib.Decide.{ℕ_discrete}
use lib.ListN.{get_elem?}
use Rattle.ft_model.specs.declared.call.Call.{Call}
use Rattle.ft_trace.specs.declared.Act.{Act}
use Rattle.ft_trace.specs.declared.Act.TheVariants.{Commit, Answer, AnswerCursor}
use Rattle.ft_trace.specs.declared.Entry.{Entry}
use Rattle.ft_trace.specs.declared.Shape.{Shape}
use Rattle.ft_trace.specs.declared.View.{View}
use Rattle.ft_trace.specs.Acts.{view_after, entries_next, left_next, starter, maker, made, both, spent, sender, note, all_entries}
use Rattle.ft_trace.specs.Entries.{total}
use Rattle.ft_trace.specs.Traces.{Moment, Event, did, forked, joined, sent, run, history, May, Valid}
use Rattle.ft_trace.proofs.AllEntries.{next_all, has_none, both_all}
use Rattle.ft_trace.proofs.Budgets.{some_part}
use Rattle.ft_trace.proofs.Sizes.{set_views, one_more, one_view}
use Rattle.ft_trace.proofs.Totals.{total_set, total_two, total_alone, total_forked, total_joined, parts_total}

-- the calls that the pass has left, and its entries
abbrev weighs : View → ℕ
weighs u = u.left + length (all_entries u)

weighs_by : (k : Shape) (m : Moment) (cs : List Call) (v : View) (es : List Entry) (b : Act) → May k m cs v b → left_next b v.left + length (entries_next b es) ≡ v.left + length es
weighs_by k m cs v es (Commit c r f s) may = let room = may.3 in omega (arith, room)
weighs_by k m cs v es (Answer c r n) may = let room = may.5 in omega (arith, room)
weighs_by k m cs v es (AnswerCursor c r n m' had left) may = let room = may.5 in omega (arith, room)
weighs_by k m cs v es act may = refl

weighs_all : (k : Shape) (es : List Event) → Valid k es → total weighs (run k es).views ≡ k.passes * k.calls
weighs_all k [] valid = omega arith
weighs_all k (did id v a ∷ es) valid =
    let t = total_set weighs (run k es).views id v (view_after a v) valid.1.0 in
    let old = weighs_all k es valid.0 in
    let by = weighs_by k (run k es) (history es) v (all_entries v) a valid.1.3 in
    let next : length (all_entries (view_after a v)) ≡ length (entries_next a (all_entries v)) = ap (λ (l : List Entry). length l) (sym (next_all a v.entries (flat_map (λ (l : List Entry). l) v.lists))) in
    omega (arith, t, old, by, next)
weighs_all k (forked id v ∷ es) valid =
    let room = valid.1.4 in
    let t = total_forked weighs (run k es).views id v (maker v) (made v) valid.1.0 (omega (arith, room)) in
    t ∙ weighs_all k es valid.0
weighs_all k (sent id v given ∷ es) valid = total_forked weighs (run k es).views id v (sender given v) (note given v) valid.1.0 (omega arith) ∙ weighs_all k es valid.0
weighs_all k (joined id v other w ∷ es) valid =
    let all : length (all_entries (both v w)) ≡ length (all_entries v) + length (all_entries w) = ap (λ (l : List Entry). length l) (both_all v w (has_none k es valid.0 other w valid.1.2).entries) ∙ length-append (all_entries v) (all_entries w) in
    total_joined weighs (run k es).views id other v w (both v w) spent valid.1.0 valid.1.1 valid.1.2 (omega (arith, all)) ∙ weighs_all k es valid.0

-- a note and a spent pass have no calls
no_calls : (k : Shape) (es : List Event) → Valid k es → (j : ℕ) (u : View) → get_elem? (run k es).views j ≡ some u → u.number ≡ 0 → u.left ≡ 0
no_calls k [] valid = one_view (λ j u. u.number ≡ 0 → u.left ≡ 0) (starter k) (λ e. absurd (omega (arith, e)))
no_calls k (did id v a ∷ es) valid = set_views (λ j u. u.number ≡ 0 → u.left ≡ 0) _ id (view_after a v) (λ e. absurd (valid.1.1 e)) (λ j u _ e. no_calls k es valid.0 j u e)
no_calls k (forked id v ∷ es) valid =
    one_more (λ j u. u.number ≡ 0 → u.left ≡ 0) _ (made v) (λ e. absurd (valid.1.2 e))
    (set_views (λ j u. u.number ≡ 0 → u.left ≡ 0) _ id (maker v) (λ e. absurd (valid.1.1 e)) (λ j u _ e. no_calls k es valid.0 j u e))
no_calls k (sent id v given ∷ es) valid =
    one_more (λ j u. u.number ≡ 0 → u.left ≡ 0) _ (note given v) (λ _. refl)
    (set_views (λ j u. u.number ≡ 0 → u.left ≡ 0) _ id (sender given v) (λ e. absurd (valid.1.1 e)) (λ j u _ e. no_calls k es valid.0 j u e))
no_calls k (joined id v other w ∷ es) valid =
    set_views (λ j u. u.number ≡ 0 → u.left ≡ 0) _ other spent (λ _. refl)
    (λ j u _. set_views (λ j u. u.number ≡ 0 → u.left ≡ 0) _ id (both v w) (λ e. absurd (valid.1.3 e)) (λ j u _ e. no_calls k es valid.0 j u e) j u)

-- who stands for all passes has them all
pub all_counted : (k : Shape) (es : List Event) → Valid k es → 0 < k.passes → (id : ℕ) (v : View) → get_elem? (run k es).views id ≡ some v → v.parts ≡ k.passes → length (all_entries v) + v.left ≡ k.passes * k.calls
all_counted k es valid some_pass id v at all =
    let alone = total_alone weighs (run k es).views id v at (λ j u ne e.
    let two = total_two (λ (z : View). z.parts) (run k es).views id j v u (λ x. ne (sym x)) at e in
    let sum = parts_total k es valid in
    let none : u.number ≡ 0 = dite (ℕ_discrete u.number 0) (λ z. z) (λ live. let more = some_part k es some_pass valid j u e live in absurd (omega (arith, two, sum, more, all))) in
    let empty = has_none k es valid j u e in
    let entries : length (all_entries u) ≡ 0 = (λ d. length (empty.entries none d ++ flat_map (λ (l : List Entry). l) (empty.lists none d))) in
    let left = no_calls k es valid j u e none in
    omega (arith, entries, left)) in
    let sum = weighs_all k es valid in
    omega (arith, alone, sum)
