-- The write number has room: no more tables are retired than there are writes and passes.
use Rattle.std.proofs.Common.{◌≡◌, ◌≢◌, ℕ, eqb, ◌+◌, ◌-◌, ◌*◌, ◌<◌, ◌≤◌, Bool, true, false, cond, List, [], ◌∷◌, set, refl, ap, ◌∙◌, arith}
use mathlib.Core.Option.{some}
use mathlib.Core.Logic.{dite}
use native.Mathlib.Decide.{ℕ_discrete}
use lib.ListN.{get_elem?}
use Rattle.ft_trace.specs.declared.Shape.{Shape}
use Rattle.ft_trace.specs.declared.View.{View}
use Rattle.ft_trace.specs.declared.Act.{Act}
use Rattle.ft_trace.specs.declared.Act.TheVariants.{Answer, AnswerCursor, PutRoot, Commit, Retire, WriteNumber}
use Rattle.ft_trace.specs.Addresses.{write_number}
use Rattle.ft_trace.specs.Acts.{used, debt, starter, view_after, maker, made, both, spent, sender, note}
use Rattle.ft_trace.specs.Entries.{total}
use Rattle.ft_trace.specs.Traces.{Event, did, forked, joined, sent, run, word, history, May, Valid}
use Rattle.ft_trace.proofs.Sizes.{set_views, one_more, one_view}
use Rattle.ft_trace.proofs.Cases.{here, miss}
use Rattle.ft_trace.proofs.OneWord.{stays, moves, loaded}
use Rattle.ft_trace.proofs.OddVersions.{one_up}
use Rattle.atomic_table.proofs.Lists.{set_else}
use Rattle.ft_trace.proofs.Totals.{total_set, total_forked}

-- a live view stands for some pass
pub some_part : (k : Shape) (es : List Event) → 0 < k.passes → Valid k es → (j : ℕ) (u : View) → get_elem? (run k es).views j ≡ some u → u.number ≢ 0 → 0 < u.parts
some_part k [] pos valid = one_view (λ j u. u.number ≢ 0 → 0 < u.parts) (starter k) (λ _. pos)
some_part k (did id v a ∷ es) pos valid = let old = some_part k es pos valid.0 in set_views (λ j u. u.number ≢ 0 → 0 < u.parts) _ id (view_after a v) (old id v valid.1.0) (λ j u _ e. old j u e)
some_part k (forked id v ∷ es) pos valid =
    let old = some_part k es pos valid.0 in
    let more = valid.1.3 in
    one_more (λ j u. u.number ≢ 0 → 0 < u.parts) _ (made v) (λ _. omega arith) (set_views (λ j u. u.number ≢ 0 → 0 < u.parts) _ id (maker v) (λ _. omega arith) (λ j u _ e. old j u e))
some_part k (sent id v given ∷ es) pos valid =
    let old = some_part k es pos valid.0 in
    one_more (λ j u. u.number ≢ 0 → 0 < u.parts) _ (note given v) (λ no. absurd (no refl)) (set_views (λ j u. u.number ≢ 0 → 0 < u.parts) _ id (sender given v) (old id v valid.1.0) (λ j u _ e. old j u e))
some_part k (joined id v other w ∷ es) pos valid =
    let old = some_part k es pos valid.0 in
    set_views (λ j u. u.number ≢ 0 → 0 < u.parts) _ other spent (λ no. absurd (no refl)) (λ j u _. set_views (λ j u. u.number ≢ 0 → 0 < u.parts) _ id (both v w) (λ live. let h = old id v valid.1.0 live in omega arith) (λ j u _ e. old j u e) j u)

abbrev once : Bool → ℕ
once b = cond b 1 0

-- the tables that the pass may still retire
abbrev pub budget : View → ℕ
budget u = u.left + (u.parts - once (used u.log)) + debt u.log

once_low : (b : Bool) → once b ≤ 1
once_low true = omega arith
once_low false = omega arith

by_root : (b : Bool) (old d parts left : ℕ) → 0 < parts → (old ≢ 0 → b ≡ false) → left + (parts - once (cond (eqb old 0) b true)) + cond (eqb old 0) d (d + 1) ≡ left + (parts - once b) + d
by_root b old d parts left some_one spare =
    dite (ℕ_discrete old 0)
    (λ (e : old ≡ 0). let x : cond (eqb old 0) b true ≡ b = here old 0 b true e in let y : cond (eqb old 0) d (d + 1) ≡ d = here old 0 d (d + 1) e in let z : once (cond (eqb old 0) b true) ≡ once b = ap once x in omega (arith, y, z))
    (λ ne.
    let x : cond (eqb old 0) b true ≡ true = miss old 0 b true ne in
    let y : cond (eqb old 0) d (d + 1) ≡ d + 1 = miss old 0 d (d + 1) ne in
    let z : once (cond (eqb old 0) b true) ≡ 1 = ap once x in
    let w : once b ≡ 0 = ap once (spare ne) in
    omega (arith, y, z, w, some_one))

-- one action
spends : (k : Shape) (es : List Event) (id : ℕ) (v : View) → 0 < v.parts → (a : Act) → May k (run k es) (history es) v a → word k (did id v a ∷ es) write_number + budget (view_after a v) ≤ word k es write_number + budget v
spends k es id v some_one (PutRoot o r old) may =
    let g = stays k es id v (PutRoot o r old) may write_number tt (λ e. absurd (cc)) in
    let b = by_root (used v.log) old (debt v.log) v.parts v.left some_one may.5 in
    omega (arith, g, b)
spends k es id v some_one (Commit c r f s) may =
    let g = stays k es id v (Commit c r f s) may write_number tt (λ e. absurd (cc)) in
    let room = may.3 in
    let low = once_low (used v.log) in
    omega (arith, g, room, low, some_one)
spends k es id v some_one (Answer c r n) may = let g = stays k es id v (Answer c r n) may write_number tt (λ e. absurd (cc)) in omega (arith, g)
spends k es id v some_one (AnswerCursor c r n m had left) may = let g = stays k es id v (AnswerCursor c r n m had left) may write_number tt (λ e. absurd (cc)) in omega (arith, g)
spends k es id v some_one (Retire t f) may =
    let g : word k (did id v (Retire t f) ∷ es) write_number ≡ word k es write_number + 1 = moves k es id v (Retire t f) may ∙ one_up (word k es write_number) may.2 in
    let owed = may.3 in
    omega (arith, g, owed)
spends k es id v some_one (WriteNumber f) may = let g = loaded k es id v (WriteNumber f) (λ n. refl) write_number in omega (arith, g)
spends k es id v some_one act may = let g = stays k es id v act may write_number tt (λ e. absurd (cc)) in omega (arith, g)

pub budgets : (k : Shape) (es : List Event) → 0 < k.passes → Valid k es → word k es write_number + total budget (run k es).views ≤ 1 + k.passes * k.calls + k.passes
budgets k [] pos valid = omega arith
budgets k (did id v a ∷ es) pos valid =
    let t = total_set budget (run k es).views id v (view_after a v) valid.1.0 in
    let old = budgets k es pos valid.0 in
    let by = spends k es id v (some_part k es pos valid.0 id v valid.1.0 valid.1.1) a valid.1.3 in
    omega (arith, t, old, by)
budgets k (forked id v ∷ es) pos valid =
    let old = budgets k es pos valid.0 in
    let more = valid.1.3 in
    let room = valid.1.4 in
    let low = once_low (used v.log) in
    let t = total_forked budget (run k es).views id v (maker v) (made v) valid.1.0 (omega arith) in
    omega (arith, t, old)
budgets k (sent id v given ∷ es) pos valid =
    let old = budgets k es pos valid.0 in
    let t = total_forked budget (run k es).views id v (sender given v) (note given v) valid.1.0 (omega arith) in
    omega (arith, t, old)
budgets k (joined id v other w ∷ es) pos valid =
    let old = budgets k es pos valid.0 in
    let one = some_part k es pos valid.0 id v valid.1.0 valid.1.3 in
    let low = once_low (used v.log) in
    let none : once (used w.log) ≡ 0 = ap once valid.1.5.2 in
    let a = total_set budget (run k es).views id v (both v w) valid.1.0 in
    let b = total_set budget (set (run k es).views id (both v w)) other w spent (set_else (run k es).views id other (both v w) valid.1.1 ∙ valid.1.2) in
    omega (arith, old, one, low, none, a, b)

pub goals_room : (k : Shape) (es : List Event) → 0 < k.passes → Valid k es → word k es write_number ≤ 1 + k.passes * k.calls + k.passes
goals_room k es pos valid = let b = budgets k es pos valid in omega (arith, b)

-- no number is above the passes
pub number_low : (k : Shape) (es : List Event) → 0 < k.passes → Valid k es → (j : ℕ) (u : View) → get_elem? (run k es).views j ≡ some u → u.number ≤ k.passes
number_low k [] pos valid = one_view (λ j u. u.number ≤ k.passes) (starter k) (omega arith)
number_low k (did id v a ∷ es) pos valid = let old = number_low k es pos valid.0 in set_views (λ j u. u.number ≤ k.passes) _ id (view_after a v) (old id v valid.1.0) (λ j u _ e. old j u e)
number_low k (forked id v ∷ es) pos valid = let old = number_low k es pos valid.0 in one_more (λ j u. u.number ≤ k.passes) _ (made v) valid.1.5 (set_views (λ j u. u.number ≤ k.passes) _ id (maker v) (old id v valid.1.0) (λ j u _ e. old j u e))
number_low k (sent id v given ∷ es) pos valid = let old = number_low k es pos valid.0 in one_more (λ j u. u.number ≤ k.passes) _ (note given v) (omega arith) (set_views (λ j u. u.number ≤ k.passes) _ id (sender given v) (old id v valid.1.0) (λ j u _ e. old j u e))
number_low k (joined id v other w ∷ es) pos valid = let old = number_low k es pos valid.0 in set_views (λ j u. u.number ≤ k.passes) _ other spent (omega arith) (λ j u _. set_views (λ j u. u.number ≤ k.passes) _ id (both v w) (old id v valid.1.0) (λ j u _ e. old j u e) j u)
