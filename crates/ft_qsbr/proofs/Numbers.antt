-- Loads of announced numbers, and what they tell of a retired table.
use Rattle.std.proofs.Common.{◌≡◌, ◌⊎◌, ℕ, ◌+◌, ◌<◌, ◌≤◌, Bool, true, false, cond, eqb, nat_lt, List, [], ◌∷◌, length, refl, sym, ap, ◌∙◌, subst, ⊎_elim, arith, le-ltb}
use Rattle.std.specs.Prelude.{Option}
use mathlib.Core.Logic.{dite}
use native.Mathlib.Decide.{ℕ_discrete}
use Rattle.ft_trace.specs.declared.View.{View}
use Rattle.ft_trace.specs.Acts.{clear, flight, goal, has_goal, owes}
use Rattle.ft_trace.proofs.Cases.{miss, here}
use Rattle.ft_bank.specs.Series.{noted_all}
use Rattle.ft_qsbr.specs.Collecting.{loads_of, AllPast, IsPast, IsLeast}
use Rattle.ft_qsbr.specs.Sweeping.{HasSeen}

abbrev pub loaded : List ℕ → View → View
loaded numbers v = noted_all (loads_of numbers) v

-- they leave what the log says of tables
pub goal_loads : (numbers : List ℕ) (v : View) (t : ℕ) → goal t (loaded numbers v).log ≡ goal t v.log
goal_loads [] v t = refl
goal_loads (n ∷ ns) v t = goal_loads ns v t

pub has_loads : (numbers : List ℕ) (v : View) (t : ℕ) → has_goal t (loaded numbers v).log ≡ has_goal t v.log
has_loads [] v t = refl
has_loads (n ∷ ns) v t = has_loads ns v t

pub flight_loads : (numbers : List ℕ) (v : View) → flight (loaded numbers v).log ≡ flight v.log
flight_loads [] v = refl
flight_loads (n ∷ ns) v = flight_loads ns v

pub owes_loads : (numbers : List ℕ) (v : View) → owes (loaded numbers v).log ≡ owes v.log
owes_loads [] v = refl
owes_loads (n ∷ ns) v = owes_loads ns v

-- a number that is past the goal shows that its pass is clear of the table
past_goal : (n g : ℕ) (b : Bool) → (n ≡ 0) ⊎ (g ≤ n) → cond (eqb n 0) true (cond (nat_lt n g) b true) ≡ true
past_goal n g b past =
    dite (ℕ_discrete n 0) (λ (e : n ≡ 0). here n 0 true (cond (nat_lt n g) b true) e)
    (λ ne.
    let below : nat_lt n g ≡ false = ⊎_elim (λ (e : n ≡ 0). absurd (ne e)) (λ (up : g ≤ n). le-ltb n g up) past in
    miss n 0 true (cond (nat_lt n g) b true) ne ∙ ap (λ (z : Bool). cond z b true) below)

-- where all numbers are past the goal, each pass is clear of the table
pub clear_loads : (numbers : List ℕ) (v : View) (t p : ℕ) → AllPast (goal t v.log) numbers → 0 < p → p ≤ length numbers → clear t p (loaded numbers v).log ≡ true
clear_loads [] v t p past some_one low = absurd (omega (arith, some_one, low))
clear_loads (n ∷ ns) v t p past some_one low =
    let l = (loaded ns v).log in
    let g = goal t l in
    let b = clear t p l in
    dite (ℕ_discrete (length ns + 1) p)
    (λ (e : length ns + 1 ≡ p). here (length ns + 1) p (cond (eqb n 0) true (cond (nat_lt n g) b true)) b e ∙ past_goal n g b (subst (λ (z : ℕ). (n ≡ 0) ⊎ (z ≤ n)) (sym (goal_loads ns v t)) past.0))
    (λ ne. miss (length ns + 1) p (cond (eqb n 0) true (cond (nat_lt n g) b true)) b ne ∙ clear_loads ns v t p past.1 some_one (omega (arith, low, ne)))

-- one more number
pub least_more : (numbers : List ℕ) (n : ℕ) (least result : Option ℕ) → ((g : ℕ) → (IsPast result g → ((n ≡ 0) ⊎ (g ≤ n)) × IsPast least g) × ((n ≡ 0) ⊎ (g ≤ n) → IsPast least g → IsPast result g)) → IsLeast least numbers → IsLeast result (n ∷ numbers)
least_more numbers n least result lower old g = (
  (λ past. let l = (lower g).0 past in (l.0, (old g).0 l.1)),
  (λ all. (lower g).1 all.0 ((old g).1 all.1)),
)

-- what the pass has then found of the tables that it keeps
pub seen_of : (numbers : List ℕ) (least : Option ℕ) (v w : View) → w ≡ loaded numbers v → length numbers ≡ w.shape.passes → IsLeast least numbers → HasSeen least w
seen_of numbers least v w is many of t p table has past some_one low =
    let g : goal t w.log ≡ goal t v.log = ap (λ (u : View). goal t u.log) is ∙ goal_loads numbers v t in
    let all = (of (goal t v.log)).0 (subst (IsPast least) g past) in
    ap (λ (u : View). clear t p u.log) is ∙ clear_loads numbers v t p all some_one (omega (arith, low, many))
