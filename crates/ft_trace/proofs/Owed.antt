-- The tables of a class less its count: writes took them, or a view has lowered the count since its last commit.
use Rattle.std.proofs.Common.{◌≡◌, ◌≢◌, ℕ, zero, suc, eqb, ◌+◌, ◌-◌, ◌≤◌, cond, List, [], ◌∷◌, ◌++◌, refl, sym, ap, ◌∙◌, subst, arith, Option, Some}
use mathlib.Core.Option.{some, some-ne-none, some-injective}
use mathlib.Core.Logic.{dite}
use native.Mathlib.Decide.{ℕ_discrete}
use lib.ListN.{get_elem?}
use prog.Atomic.{either}
use Rattle.ft_trace.specs.declared.Shape.{Shape}
use Rattle.ft_trace.specs.declared.View.{View}
use Rattle.ft_trace.specs.declared.Act.{Act}
use Rattle.ft_trace.specs.declared.Act.TheVariants.{LowerCount, RaiseCount, ReadCount, Commit}
use Rattle.ft_trace.specs.Addresses.{tables_in, count_of_class}
use Rattle.ft_trace.specs.Acts.{owes, owes_next, view_after, maker, made, both, spent, sender, note}
use Rattle.ft_trace.specs.Entries.{total}
use Rattle.ft_trace.specs.Counts.{owing, took}
use Rattle.ft_trace.specs.Traces.{Event, did, forked, joined, sent, run, word, history, May, Valid}
use Rattle.ft_model.specs.Classes.{IsClass}
use Rattle.ft_model.specs.TableUses.{is_class, takes_in, stored_newest, takes_newest}
use Rattle.ft_trace.proofs.Announcing.{fits}
use Rattle.ft_trace.proofs.Cases.{miss, here, same_or}
use Rattle.ft_trace.proofs.Addresses.{count_first}
use Rattle.ft_trace.proofs.Seats.{seated}
use Rattle.ft_trace.proofs.OneWord.{stays, moves, loaded}
use Rattle.ft_trace.proofs.Totals.{total_set, total_forked, total_joined, parts_total}
use Rattle.ft_trace.proofs.EarlierMoments.{was}
use Rattle.ft_trace.proofs.Budgets.{some_part}
use Rattle.ft_trace.proofs.Counts.{raise_room}

abbrev pub own : ℕ → ℕ → ℕ
own c n = cond (eqb n (suc c)) 1 0

own_is : (c n : ℕ) → n ≡ suc c → own c n ≡ 1
own_is c n e = here n (suc c) 1 0 e

own_not : (c n : ℕ) → n ≢ suc c → own c n ≡ 0
own_not c n ne = miss n (suc c) 1 0 ne

pub own_low : (c n : ℕ) → own c n ≤ 1
own_low c n = dite (ℕ_discrete n (suc c)) (λ (e : n ≡ suc c). let h = own_is c n e in omega (arith, h)) (λ ne. let h = own_not c n ne in omega (arith, h))

module _ (k : Shape) (es : List Event) (id : ℕ) (v : View) (c : ℕ) (low : IsClass c) where
  abbrev C : ℕ
  C = word k es (count_of_class c)

  abbrev C' : Act → ℕ
  C' a = word k (did id v a ∷ es) (count_of_class c)

  abbrev O : ℕ
  O = own c (owes v.log)

  abbrev O' : Act → ℕ
  O' a = own c (owes_next a (owes v.log))

  abbrev T : ℕ
  T = took c es

  abbrev T' : Act → ℕ
  T' a = took c (did id v a ∷ es)

  abbrev Step : Act → Type 0
  Step a = Valid k (did id v a ∷ es) → C + (T + O) ≤ C' a + (T' a + O' a)

  by_lower : (d old f : ℕ) → Step (LowerCount d old f)
  by_lower d old f ok =
      let A : Act = LowerCount d old f in
      let may = ok.1.3 in
      let found : f ≡ word k es (count_of_class d) = ok.1.2 in
      let up = may.1 in
      let idle = may.3 in
      let b : O ≡ 0 = own_not c (owes v.log) (λ z. omega (arith, idle, z)) in
      dite (ℕ_discrete d c)
      (λ (same : d ≡ c).
      let w : word k es (count_of_class d) ≡ C = ap (λ (z : ℕ). word k es (count_of_class z)) same in
      let m : C' A ≡ either (eqb (word k es (count_of_class d)) old) (old - 1) (word k es (count_of_class d)) = ap (λ (z : ℕ). word k (did id v A ∷ es) (count_of_class z)) (sym same) ∙ moves k es id v A may in
      dite (ℕ_discrete f old)
      (λ (e : f ≡ old).
      let x : either (eqb (word k es (count_of_class d)) old) (old - 1) (word k es (count_of_class d)) ≡ old - 1 = here (word k es (count_of_class d)) old (old - 1) (word k es (count_of_class d)) (sym found ∙ e) in
      let n : O' A ≡ 1 = ap (own c) (here f old (suc d) (owes v.log) e) ∙ own_is c (suc d) (ap suc same) in
      omega (arith, up, b, m, x, w, found, e, n))
      (λ no.
      let x : either (eqb (word k es (count_of_class d)) old) (old - 1) (word k es (count_of_class d)) ≡ word k es (count_of_class d) = miss (word k es (count_of_class d)) old (old - 1) (word k es (count_of_class d)) (λ z. no (found ∙ z)) in
      let p : 0 ≤ O' A = omega arith in
      omega (arith, b, m, x, w, p)))
      (λ ne. let stay = stays k es id v A may (count_of_class c) low (λ z. ne (cc)) in let p : 0 ≤ O' A = omega arith in omega (arith, b, stay, p))

  by_raise : (d f : ℕ) → Step (RaiseCount d f)
  by_raise d f =
      same_or (λ (z : ℕ). Step (RaiseCount z f)) d c
      (λ ok.
      let A : Act = RaiseCount c f in
      let r = (raise_room k es id v c f ok).1 in
      let o = own_low c (owes v.log) in
      let p : 0 ≤ O' A = omega arith in
      omega (arith, r, o, p))
      (λ ne ok.
      let A : Act = RaiseCount d f in
      let stay = stays k es id v A ok.1.3 (count_of_class c) low (λ z. ne (cc)) in
      dite (ℕ_discrete (owes v.log) (suc d))
      (λ (e : owes v.log ≡ suc d). let b : O ≡ 0 = own_not c (owes v.log) (λ z. ne (omega (arith, e, z))) in let p : 0 ≤ O' A = omega arith in omega (arith, stay, b, p))
      (λ far. let b : O' A ≡ O = ap (own c) (miss (owes v.log) (suc d) 0 (owes v.log) far) in omega (arith, stay, b)))

  step : (a : Act) → Step a
  step (LowerCount d old f) = by_lower d old f
  step (RaiseCount d f) = by_raise d f
  step (ReadCount d f) = λ ok. let m = loaded k es id v (ReadCount d f) (λ n. refl) (count_of_class c) in omega (arith, m)
  step (Commit d r f s) = λ ok. let m = stays k es id v (Commit d r f s) ok.1.3 (count_of_class c) low (λ e. absurd (cc)) in let p : 0 ≤ O' (Commit d r f s) = omega arith in omega (arith, m, p)
  step act = λ ok. let m = stays k es id v act ok.1.3 (count_of_class c) low (λ e. absurd (cc)) in omega (arith, m)

pub owed : (k : Shape) (es : List Event) → Valid k es → (c : ℕ) → IsClass c → tables_in k c ≤ word k es (count_of_class c) + (took c es + total (owing c) (run k es).views)
owed k [] valid c low = let b : word k [] (count_of_class c) ≡ tables_in k c = count_first k c low in omega (arith, b)
owed k (did id v a ∷ es) valid c low =
    let old = owed k es valid.0 c low in
    let t = total_set (owing c) (run k es).views id v (view_after a v) valid.1.0 in
    let s = step k es id v c low a valid in
    omega (arith, old, t, s)
owed k (forked id v ∷ es) valid c low =
    let old = owed k es valid.0 c low in
    let z : own c 0 ≡ 0 = own_not c 0 (λ z. omega arith) in
    let t = total_forked (owing c) (run k es).views id v (maker v) (made v) valid.1.0 (omega (arith, z)) in
    omega (arith, old, t)
owed k (sent id v given ∷ es) valid c low =
    let old = owed k es valid.0 c low in
    let z : own c 0 ≡ 0 = own_not c 0 (λ z. omega arith) in
    let t = total_forked (owing c) (run k es).views id v (sender given v) (note given v) valid.1.0 (omega (arith, z)) in
    omega (arith, old, t)
owed k (joined id v other w ∷ es) valid c low =
    let old = owed k es valid.0 c low in
    let z : own c 0 ≡ 0 = own_not c 0 (λ z. omega arith) in
    let none : owing c w ≡ 0 = ap (own c) valid.1.5.4 ∙ z in
    let t = total_joined (owing c) (run k es).views id other v w (both v w) spent valid.1.0 valid.1.1 valid.1.2 (omega (arith, z, none)) in
    omega (arith, old, t)

-- ---- a count that was found 0

-- a view owes no more than the passes that it stands for
owing_low : (k : Shape) (es : List Event) → Valid k es → (c j : ℕ) (u : View) → get_elem? (run k es).views j ≡ some u → owing c u ≤ u.parts
owing_low k es valid c j u at =
    dite (ℕ_discrete u.number 0)
    (λ (none : u.number ≡ 0). let z : owing c u ≡ 0 = ap (λ (l : List Act). own c (owes l)) ((seated k es valid j u at).silent none) ∙ own_not c 0 (λ z. omega arith) in omega (arith, z))
    (λ live. let a = own_low c (owes u.log) in let b = some_part k es (fits k es valid).some_pass valid j u at live in omega (arith, a, b))

most_total : (f g : View → ℕ) (ys : List View) → ((j : ℕ) (u : View) → get_elem? ys j ≡ some u → f u ≤ g u) → total f ys ≤ total g ys
most_total f g [] all = omega arith
most_total f g (y ∷ ys) all = let a = all 0 y refl in let t = most_total f g ys (λ j u d. all (suc j) u d) in omega (arith, a, t)

less_total : (f g : View → ℕ) (l : List View) → ((j : ℕ) (u : View) → get_elem? l j ≡ some u → f u ≤ g u) → (i : ℕ) (v : View) → get_elem? l i ≡ some v → f v + 1 ≤ g v → total f l + 1 ≤ total g l
less_total f g [] each i v e less = absurd (some-ne-none v (sym e))
less_total f g (x ∷ xs) each zero v e less =
    let same : x ≡ v = some-injective x v e in
    let one : f x + 1 ≤ g x = subst (λ (z : View). f z + 1 ≤ g z) (sym same) less in
    let rest = most_total f g xs (λ j u d. each (suc j) u d) in
    omega (arith, one, rest)
less_total f g (x ∷ xs) each (suc i) v e less = let a = each 0 x refl in let t = less_total f g xs (λ j u d. each (suc j) u d) i v e less in omega (arith, a, t)

-- where a pass that has lowered no count since its last commit finds the count 0, writes took the tables of the class, but for one for each other pass
pub earned : (k : Shape) (es : List Event) → Valid k es → (c : ℕ) → IsClass c → (id : ℕ) (v : View) → get_elem? (run k es).views id ≡ some v → v.number ≢ 0 → owes v.log ≡ 0 → word k es (count_of_class c) ≡ 0 → tables_in k c ≤ took c es + (k.passes - 1)
earned k es valid c low id v at live none empty =
    let all = owed k es valid c low in
    let mine : owing c v ≡ 0 = ap (own c) none ∙ own_not c 0 (λ z. omega arith) in
    let one = some_part k es (fits k es valid).some_pass valid id v at live in
    let few = less_total (owing c) (λ (u : View). u.parts) (run k es).views (owing_low k es valid c) id v at (omega (arith, mine, one)) in
    let parts = parts_total k es valid in
    omega (arith, all, few, parts, empty)

took_one : (c : ℕ) (e : Event) (es : List Event) → took c es ≤ took c (e ∷ es)
took_one c (did id v a) es = by a
  where
    by : (a : Act) → took c es ≤ took c (did id v a ∷ es)
    by (Commit d r f s) = omega arith
    by act = omega arith
took_one c (forked id v) es = omega arith
took_one c (sent id v given) es = omega arith
took_one c (joined id v other w) es = omega arith

took_up : (c : ℕ) (newer older : List Event) → took c older ≤ took c (newer ++ older)
took_up c [] older = omega arith
took_up c (e ∷ newer) older = let a = took_up c newer older in let b = took_one c e (newer ++ older) in omega (arith, a, b)

-- from then on, by the pass's log: it read that the count was 0, and had lowered none since its last commit
pub earned_since : (k : Shape) (es : List Event) → Valid k es → (j : ℕ) (u : View) → get_elem? (run k es).views j ≡ some u → (c : ℕ) → IsClass c → (newer rest : List Act) → u.log ≡ newer ++ ReadCount c 0 ∷ rest → owes rest ≡ 0 → tables_in k c ≤ took c es + (k.passes - 1)
earned_since k es valid j u at c low newer rest is none =
    let w = was k es valid j u at newer (ReadCount c 0) rest is in
    let then_ = earned k w.older w.valid c low j w.view w.at w.live (ap owes w.log ∙ none) (sym w.tells) in
    let up : took c w.older ≤ took c es = subst (λ (z : List Event). took c w.older ≤ took c z) w.split (took_up c w.newer w.older) in
    omega (arith, then_, up)

-- what a write counts that takes this, if it takes one
abbrev taken_one : ℕ → Option ℕ → ℕ
taken_one c taken = cond (is_class c taken) 1 0

took_by : (k : Shape) (es : List Event) (id : ℕ) (v : View) (c : ℕ) (b : Act) → May k (run k es) (history es) v b → took c es ≤ takes_newest k.starts c (history es) → took c (did id v b ∷ es) ≤ takes_newest k.starts c (history (did id v b ∷ es))
took_by k es id v c (Commit d r f s) may old =
    dite (ℕ_discrete (owes v.log) (suc c))
    (λ (e : owes v.log ≡ suc c).
    let is : takes_in (stored_newest k.starts (history es)) d ≡ Some c = may.8 c e in
    let one : taken_one c (takes_in (stored_newest k.starts (history es)) d) ≡ 1 = ap (taken_one c) is ∙ here c c 1 0 refl in
    let y = own_low c (owes v.log) in
    omega (arith, one, y, old))
    (λ ne. let y : own c (owes v.log) ≡ 0 = own_not c (owes v.log) ne in let p : 0 ≤ taken_one c (takes_in (stored_newest k.starts (history es)) d) = omega arith in omega (arith, y, old, p))
took_by k es id v c act may old = old

-- what logs say of takings is what the writes take by the rule of tables
pub took_low : (k : Shape) (es : List Event) → Valid k es → (c : ℕ) → took c es ≤ takes_newest k.starts c (history es)
took_low k [] valid c = omega arith
took_low k (did id v a ∷ es) valid c = took_by k es id v c a valid.1.3 (took_low k es valid.0 c)
took_low k (forked id v ∷ es) valid c = took_low k es valid.0 c
took_low k (sent id v given ∷ es) valid c = took_low k es valid.0 c
took_low k (joined id v other w ∷ es) valid c = took_low k es valid.0 c
