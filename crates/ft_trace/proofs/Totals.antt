-- Sums over all views.
use Rattle.std.proofs.Common.{le_refl, ◌≡◌, ◌≢◌, ℕ, zero, suc, ◌+◌, ◌*◌, ◌≤◌, List, [], ◌∷◌, ◌++◌, length, set, refl, sym, ap, ◌∙◌, arith}
use mathlib.Core.Option.{some, some-ne-none, some-injective}
use lib.ListN.{get_elem?}
use Rattle.ft_trace.specs.declared.Shape.{Shape}
use Rattle.ft_trace.specs.declared.View.{View}
use Rattle.ft_trace.specs.declared.Act.{Act}
use Rattle.ft_trace.specs.declared.Act.TheVariants.{Commit, Answer, AnswerCursor}
use Rattle.ft_model.specs.declared.call.Call.{Call}
use Rattle.ft_trace.specs.declared.Entry.{Entry}
use Rattle.std.specs.List.{flat_map}
use Rattle.ft_trace.specs.Acts.{view_after, entries_next, left_next, maker, made, both, spent, sender, note, all_entries}
use Rattle.ft_trace.proofs.AllEntries.{next_all, has_none, both_all}
use Rattle.ft_trace.specs.Traces.{Moment, Event, did, forked, joined, sent, run, writes_of, history, May, Valid}
use Rattle.ft_trace.specs.Entries.{total}
use Rattle.atomic_table.proofs.Lists.{set_else}

-- all entries, newest first
abbrev pub trace_entries : List Event → List Entry
trace_entries [] = []
trace_entries (did id v a ∷ es) = entries_next a (trace_entries es)
trace_entries (forked id v ∷ es) = trace_entries es
trace_entries (joined id v other w ∷ es) = trace_entries es
trace_entries (sent id v given ∷ es) = trace_entries es

pub total-append : {A : Type 0} (f : A → ℕ) (xs ys : List A) → total f (xs ++ ys) ≡ total f xs + total f ys
total-append f [] ys = omega arith
total-append f (x ∷ xs) ys = let t = total-append f xs ys in omega arith

module _ (f : View → ℕ) where
  pub total_set : (l : List View) (i : ℕ) (v w : View) → get_elem? l i ≡ some v → total f (set l i w) + f v ≡ total f l + f w
  total_set [] i v w e = absurd (some-ne-none v (sym e))
  total_set (x ∷ xs) zero v w e = let same : f x ≡ f v = ap f (some-injective x v e) in omega arith
  total_set (x ∷ xs) (suc i) v w e = let t = total_set xs i v w e in omega arith

  -- two places
  pub total_two : (l : List View) (i j : ℕ) (v u : View) → i ≢ j → get_elem? l i ≡ some v → get_elem? l j ≡ some u → f v + f u ≤ total f l
  total_two [] i j v u ne e d = absurd (some-ne-none v (sym e))
  total_two (x ∷ xs) zero zero v u ne e d = absurd (ne refl)
  total_two (x ∷ xs) zero (suc j) v u ne e d = let same : f x ≡ f v = ap f (some-injective x v e) in let t = total_one xs j u d in omega arith
    where
      total_one : (l : List View) (j : ℕ) (u : View) → get_elem? l j ≡ some u → f u ≤ total f l
      total_one [] j u d = absurd (some-ne-none u (sym d))
      total_one (y ∷ ys) zero u d = let same : f y ≡ f u = ap f (some-injective y u d) in omega arith
      total_one (y ∷ ys) (suc j) u d = let t = total_one ys j u d in omega arith
  total_two (x ∷ xs) (suc i) zero v u ne e d = let same : f x ≡ f u = ap f (some-injective x u d) in let t = total_one xs i v e in omega arith
    where
      total_one : (l : List View) (j : ℕ) (u : View) → get_elem? l j ≡ some u → f u ≤ total f l
      total_one [] j u d = absurd (some-ne-none u (sym d))
      total_one (y ∷ ys) zero u d = let same : f y ≡ f u = ap f (some-injective y u d) in omega arith
      total_one (y ∷ ys) (suc j) u d = let t = total_one ys j u d in omega arith
  total_two (x ∷ xs) (suc i) (suc j) v u ne e d = let t = total_two xs i j v u (λ h. ne (ap suc h)) e d in omega arith

  -- where all others have nothing
  pub total_alone : (l : List View) (i : ℕ) (v : View) → get_elem? l i ≡ some v → ((j : ℕ) (u : View) → j ≢ i → get_elem? l j ≡ some u → f u ≡ 0) → total f l ≡ f v
  total_alone [] i v e none = absurd (some-ne-none v (sym e))
  total_alone (x ∷ xs) zero v e none = let same : f x ≡ f v = ap f (some-injective x v e) in let t = total_none xs (λ j u d. none (suc j) u (λ h. omega arith) d) in omega arith
    where
      total_none : (l : List View) → ((j : ℕ) (u : View) → get_elem? l j ≡ some u → f u ≡ 0) → total f l ≡ 0
      total_none [] all = refl
      total_none (y ∷ ys) all = let a : f y ≡ 0 = all 0 y refl in let t = total_none ys (λ j u d. all (suc j) u d) in omega arith
  total_alone (x ∷ xs) (suc i) v e none = let a : f x ≡ 0 = none 0 x (λ h. omega arith) refl in let t = total_alone xs i v e (λ j u ne d. none (suc j) u (λ h. ne (omega arith)) d) in omega arith

  -- the sum after each event, where the event keeps what stands in sum
  pub total_forked : (l : List View) (i : ℕ) (v w n : View) → get_elem? l i ≡ some v → f w + f n ≡ f v → total f (set l i w ++ n ∷ []) ≡ total f l
  total_forked l i v w n at cut = let t = total_set l i v w at in omega (arith, total-append f (set l i w) (n ∷ []))

  pub total_joined : (l : List View) (i j : ℕ) (v w b s : View) → get_elem? l i ≡ some v → j ≢ i → get_elem? l j ≡ some w → f b + f s ≡ f v + f w → total f (set (set l i b) j s) ≡ total f l
  total_joined l i j v w b s at ne there glue = let t = total_set l i v b at in let d = total_set (set l i b) j w s (set_else l i j b ne ∙ there) in omega arith

abbrev pub weight : (Entry → ℕ) → View → ℕ
weight h u = total h (all_entries u)

pub parts_total : (k : Shape) (es : List Event) → Valid k es → total (λ (u : View). u.parts) (run k es).views ≡ k.passes
parts_total k [] valid = omega arith
parts_total k (did id v a ∷ es) valid = let t = total_set (λ (u : View). u.parts) (run k es).views id v (view_after a v) valid.1.0 in let old = parts_total k es valid.0 in omega arith
parts_total k (forked id v ∷ es) valid = let may = valid.1.3 in total_forked (λ (u : View). u.parts) (run k es).views id v (maker v) (made v) valid.1.0 (omega arith) ∙ parts_total k es valid.0
parts_total k (sent id v given ∷ es) valid = total_forked (λ (u : View). u.parts) (run k es).views id v (sender given v) (note given v) valid.1.0 (omega arith) ∙ parts_total k es valid.0
parts_total k (joined id v other w ∷ es) valid = total_joined (λ (u : View). u.parts) (run k es).views id other v w (both v w) spent valid.1.0 valid.1.1 valid.1.2 (omega arith) ∙ parts_total k es valid.0

left_by : (k : Shape) (m : Moment) (cs : List Call) (v : View) (b : Act) → May k m cs v b → left_next b v.left + length (writes_of b cs) ≤ v.left + length cs
left_by k m cs v (Commit c r f s) may = let room = may.3 in omega arith
left_by k m cs v (Answer c r n) may = omega arith
left_by k m cs v (AnswerCursor c r n m' had left) may = omega arith
left_by k m cs v act may = le_refl (v.left + length cs)

-- the writes made and the calls that are left
pub left_total : (k : Shape) (es : List Event) → Valid k es → total (λ (u : View). u.left) (run k es).views + length (history es) ≤ k.passes * k.calls
left_total k [] valid = omega arith
left_total k (did id v a ∷ es) valid =
    let t = total_set (λ (u : View). u.left) (run k es).views id v (view_after a v) valid.1.0 in
    let old = left_total k es valid.0 in
    let by = left_by k (run k es) (history es) v a valid.1.3 in
    omega arith
left_total k (forked id v ∷ es) valid =
    let may = valid.1.4 in
    let t = total_forked (λ (u : View). u.left) (run k es).views id v (maker v) (made v) valid.1.0 (omega arith) in
    let old = left_total k es valid.0 in
    omega (arith, t, old)
left_total k (sent id v given ∷ es) valid =
    let t = total_forked (λ (u : View). u.left) (run k es).views id v (sender given v) (note given v) valid.1.0 (omega arith) in
    let old = left_total k es valid.0 in
    omega (arith, t, old)
left_total k (joined id v other w ∷ es) valid =
    let t = total_joined (λ (u : View). u.left) (run k es).views id other v w (both v w) spent valid.1.0 valid.1.1 valid.1.2 (omega arith) in
    let old = left_total k es valid.0 in
    omega (arith, t, old)

weight_by : (h : Entry → ℕ) (b : Act) (es fs : List Entry) → total h (entries_next b es) + total h fs ≡ total h (entries_next b fs) + total h es
weight_by h (Commit c r f s) es fs = omega arith
weight_by h (Answer c x n) es fs = omega arith
weight_by h (AnswerCursor c x n m had left) es fs = omega arith
weight_by h act es fs = omega arith

-- the views have the entries of the trace, and no others
pub entries_total : (h : Entry → ℕ) (k : Shape) (es : List Event) → Valid k es → total (weight h) (run k es).views ≡ total h (trace_entries es)
entries_total h k [] valid = refl
entries_total h k (did id v a ∷ es) valid =
    let t = total_set (weight h) (run k es).views id v (view_after a v) valid.1.0 in
    let old = entries_total h k es valid.0 in
    let by = weight_by h a (all_entries v) (trace_entries es) in
    let next : total h (all_entries (view_after a v)) ≡ total h (entries_next a (all_entries v)) = ap (total h) (sym (next_all a v.entries (flat_map (λ (l : List Entry). l) v.lists))) in
    omega (arith, t, old, by, next)
entries_total h k (forked id v ∷ es) valid = total_forked (weight h) (run k es).views id v (maker v) (made v) valid.1.0 (omega arith) ∙ entries_total h k es valid.0
entries_total h k (sent id v given ∷ es) valid = total_forked (weight h) (run k es).views id v (sender given v) (note given v) valid.1.0 (omega arith) ∙ entries_total h k es valid.0
entries_total h k (joined id v other w ∷ es) valid =
    let all : total h (all_entries (both v w)) ≡ total h (all_entries v) + total h (all_entries w) = ap (total h) (both_all v w (has_none k es valid.0 other w valid.1.2).entries) ∙ total-append h (all_entries v) (all_entries w) in
    total_joined (weight h) (run k es).views id other v w (both v w) spent valid.1.0 valid.1.1 valid.1.2 (omega (arith, all)) ∙ entries_total h k es valid.0
