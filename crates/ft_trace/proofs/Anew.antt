-- A root that changed names a table that the pass has not found in a root since it last announced; so it changes at most twice for each table.
use Rattle.std.proofs.Common.{◌≡◌, ℕ, zero, suc, eqb, ◌+◌, ◌<◌, ◌≤◌, Bool, true, false, cond, List, [], ◌∷◌, ◌++◌, refl, sym, ap, ◌∙◌, arith, append_assoc, le_refl}
use mathlib.Core.Option.{some}
use mathlib.Core.Logic.{dite}
use native.Mathlib.Decide.{ℕ_discrete}
use lib.ListN.{get_elem?}
use Rattle.ft_trace.specs.declared.Shape.{Shape}
use Rattle.ft_trace.specs.declared.View.{View}
use Rattle.ft_trace.specs.declared.Act.{Act}
use Rattle.ft_trace.specs.declared.Act.TheVariants.{Announce, ReadRoot}
use Rattle.ft_trace.specs.Acts.{reads}
use Rattle.ft_trace.specs.Addresses.{IsTableName, container_count}
use Rattle.ft_trace.specs.LoggedLookUps.{Online, LookUpWindow, ReadsNoRoot, IsNew}
use Rattle.ft_trace.specs.Traces.{Event, run, Valid}
use Rattle.ft_trace.proofs.Cases.{miss, here}
use Rattle.ft_trace.proofs.EarlierMoments.{was}
use Rattle.ft_trace.proofs.TablePlaces.{root, root_table}
use Rattle.ft_trace.proofs.Spots.{root_again}

-- how many of the first tables the pass has not found in a root since it last announced
abbrev pub unread : ℕ → List Act → ℕ
unread zero l = 0
unread (suc t) l = cond (reads t l) 0 1 + unread t l

reads_stay : (t : ℕ) (mid l : List Act) → ReadsNoRoot mid → reads t (mid ++ l) ≡ reads t l
reads_stay t [] l q = refl
reads_stay t (ReadRoot o f ∷ mid) l q = absurd q
reads_stay t (Announce p x ∷ mid) l q = absurd q
reads_stay t (act ∷ mid) l q = reads_stay t mid l q

stays_online : (mid : List Act) (a : Act) → ReadsNoRoot mid → Online (a ∷ []) → Online (mid ++ a ∷ [])
stays_online [] a q on = on
stays_online (ReadRoot o f ∷ mid) a q on = absurd q
stays_online (Announce p x ∷ mid) a q on = absurd q
stays_online (act ∷ mid) a q on = stays_online mid a q on

-- the table of a root
pub found_table : (k : Shape) (es : List Event) → Valid k es → (j : ℕ) (u : View) → get_elem? (run k es).views j ≡ some u → (o t : ℕ) → o < container_count k → (rest : List Act) → u.log ≡ ReadRoot o (suc t) ∷ rest → IsTableName k t
found_table k es valid j u at o t low rest is =
    let w = was k es valid j u at [] (ReadRoot o (suc t)) rest is in
    root_table k w.older w.valid o low t (sym w.tells)

pub is_new : (k : Shape) (es : List Event) → Valid k es → (j : ℕ) (u : View) → get_elem? (run k es).views j ≡ some u → (o r : ℕ) → o < container_count k → (l : List Act) → u.log ≡ ReadRoot o r ∷ l → IsNew o r l
is_new k es valid j u at o r low l is t f mid rest names ne log q =
    let whole : u.log ≡ ReadRoot o (suc t) ∷ (mid ++ ReadRoot o f ∷ rest) = is ∙ (ap (λ (z : ℕ). ReadRoot o z ∷ l) names ∙ ap (λ (z : List Act). ReadRoot o (suc t) ∷ z) log) in
    ap (reads t) log ∙ (reads_stay t mid (ReadRoot o f ∷ rest) q ∙ (miss f (suc t) true (reads t rest) (λ e. ne (e ∙ sym names)) ∙ by (reads t rest) refl whole))
  where
    by : (b : Bool) → reads t rest ≡ b → u.log ≡ ReadRoot o (suc t) ∷ (mid ++ ReadRoot o f ∷ rest) → b ≡ false
    by false e whole = refl
    by true e whole =
        let walk = mid ++ ReadRoot o f ∷ [] in
        let win : LookUpWindow u.log o t walk = record { newer = []; rest = rest; is = whole ∙ ap (λ (z : List Act). ReadRoot o (suc t) ∷ z) (sym (append_assoc mid (ReadRoot o f ∷ []) rest)); online = stays_online mid (ReadRoot o f) q tt; before = e } in
        let h = root_again k es valid j u at o t low walk win mid (ReadRoot o f) [] refl in
        let tells : f ≡ root k h.0 o = h.3 in
        absurd (ne (tells ∙ (h.4 ∙ sym names)))

-- ---- the measure

abbrev weight : Bool → ℕ
weight b = cond b 0 1

sum_same : (a b c d : ℕ) → a ≡ b → c ≡ d → a + c ≡ b + d
sum_same a b c d p q = omega (arith, p, q)

sum_low : (a b c d : ℕ) → a ≤ b → c ≤ d → a + c ≤ b + d
sum_low a b c d p q = omega (arith, p, q)

sum_less : (a b c d : ℕ) → a ≤ b → c < d → a + c < b + d
sum_less a b c d p q = omega (arith, p, q)

sum_one : (a b c d : ℕ) → a ≡ 0 → b ≡ 1 → c ≤ d → a + c < b + d
sum_one a b c d p q r = omega (arith, p, q, r)

pub unread_stay : (n : ℕ) (mid l : List Act) → ReadsNoRoot mid → unread n (mid ++ l) ≡ unread n l
unread_stay zero mid l q = refl
unread_stay (suc t) mid l q = let a : weight (reads t (mid ++ l)) ≡ weight (reads t l) = ap weight (reads_stay t mid l q) in let b : unread t (mid ++ l) ≡ unread t l = unread_stay t mid l q in sum_same (weight (reads t (mid ++ l))) (weight (reads t l)) (unread t (mid ++ l)) (unread t l) a b

less_read : (b c : Bool) → weight (cond b true c) ≤ weight c
less_read true true = let z : 0 ≤ 0 = omega arith in z
less_read true false = let z : 0 ≤ 1 = omega arith in z
less_read false c = le_refl (weight c)

pub unread_find : (n o f : ℕ) (l : List Act) → unread n (ReadRoot o f ∷ l) ≤ unread n l
unread_find zero o f l = omega arith
unread_find (suc t) o f l = sum_low _ _ _ _ (less_read (eqb f (suc t)) (reads t l)) (unread_find t o f l)

pub unread_less : (n o t : ℕ) (l : List Act) → t < n → reads t l ≡ false → unread n (ReadRoot o (suc t) ∷ l) < unread n l
unread_less zero o t l low new = absurd (omega arith)
unread_less (suc m) o t l low new =
    dite (ℕ_discrete t m)
    (λ (e : t ≡ m).
    sum_one (weight (reads m (ReadRoot o (suc t) ∷ l))) (weight (reads m l)) (unread m (ReadRoot o (suc t) ∷ l)) (unread m l)
    (ap weight (here (suc t) (suc m) true (reads m l) (ap suc e)))
    (ap weight (ap (λ (z : ℕ). reads z l) (sym e) ∙ new))
    (unread_find m o (suc t) l))
    (λ ne. sum_less (weight (reads m (ReadRoot o (suc t) ∷ l))) (weight (reads m l)) (unread m (ReadRoot o (suc t) ∷ l)) (unread m l) (less_read (eqb (suc t) (suc m)) (reads m l)) (unread_less m o t l (omega arith) new))
