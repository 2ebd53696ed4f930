-- A lock word names a pass exactly where that pass has the lock.
use Rattle.std.proofs.Common.{◌≡◌, ◌≢◌, ℕ, eqb, eq-eqb, ne_eqb, ◌<◌, Bool, true, false, cond, List, [], ◌∷◌, set, sym, ap, ◌∙◌, subst, refl}
use mathlib.Core.Option.{some, some-injective}
use mathlib.Core.Logic.{dite}
use native.Mathlib.Decide.{ℕ_discrete}
use lib.ListN.{get_elem?}
use prog.Atomic.{either}
use Rattle.ft_trace.specs.declared.Shape.{Shape}
use Rattle.ft_trace.specs.declared.View.{View}
use Rattle.ft_trace.specs.declared.Act.{Act}
use Rattle.ft_trace.specs.declared.Act.TheVariants.{Lock, Unlock}
use Rattle.ft_trace.specs.Addresses.{lock_of, container_count}
use Rattle.ft_trace.specs.Acts.{place, Reports, has_lock, has_lock_next, starter, view_after, maker, made, both, spent, sender, note}
use Rattle.ft_trace.specs.Traces.{Event, did, forked, joined, sent, run, word, history, May, Valid}
use Rattle.ft_trace.proofs.Sizes.{set_at, set_views, one_more, one_view}
use Rattle.atomic_table.proofs.Lists.{set_else, at_longer}
use Rattle.ft_trace.proofs.Cases.{hit, miss, here, off, same_or}
use Rattle.ft_trace.proofs.Addresses.{lock_first}
use Rattle.ft_trace.proofs.OneWord.{stays, moves}
use Rattle.ft_trace.proofs.Seats.{same_seat, holder_lives}

-- what the action is to the lock of o
module _ (o : ℕ) (F : Act → Type 0) (lock : (f : ℕ) (s : _) → F (Lock o f s)) (unlock : F (Unlock o)) (other : (a : Act) → ((b : Bool) → has_lock_next o a b ≡ b) → place a ≢ lock_of o → F a) where
  pub on_lock : (a : Act) → F a
  on_lock (Lock p f s) = same_or (λ (z : ℕ). F (Lock z f s)) p o (lock f s) (λ ne. other (Lock p f s) (λ b. miss p o _ b ne) (λ e. ne (cc)))
  on_lock (Unlock p) = same_or (λ (z : ℕ). F (Unlock z)) p o unlock (λ ne. other (Unlock p) (λ b. miss p o _ b ne) (λ e. ne (cc)))
  on_lock act = other act (λ b. refl) (λ e. absurd (cc))

-- the pass has the lock only where the word is its number
abbrev pub Names : Shape → List Event → ℕ → ℕ → View → Type 0
Names k es o j u = has_lock o u.log ≡ true → word k es (lock_of o) ≡ u.number

pub names : (k : Shape) (es : List Event) → Valid k es → (o : ℕ) → o < container_count k → (j : ℕ) (u : View) → get_elem? (run k es).views j ≡ some u → Names k es o j u
names k [] valid o low = one_view (Names k [] o) (starter k) (λ no. off no)
names k (did id v a ∷ es) valid o low =
    let old = names k es valid.0 o low in
    let at = word k es (lock_of o) in
    let F : Act → Type 0 = λ b. Reports b (word k es (place b)) → May k (run k es) (history es) v b → (j : ℕ) (u : View) → get_elem? (run k (did id v b ∷ es)).views j ≡ some u → Names k (did id v b ∷ es) o j u in
    on_lock o F
    (λ f s found may. let moved = moves k es id v (Lock o f s) may in
    dite (ℕ_discrete at 0)
    (λ (free : at ≡ 0).
    set_views (Names k (did id v (Lock o f s) ∷ es) o) _ id (view_after (Lock o f s) v) (λ _. moved ∙ ap (λ (b : Bool). either b v.number at) (eq-eqb at 0 free))
    (λ j u apart e mine. absurd (holder_lives k es valid.0 j u e o mine (sym (old j u e mine) ∙ free))))
    (λ (taken : at ≢ 0).
    set_views (Names k (did id v (Lock o f s) ∷ es) o) _ id (view_after (Lock o f s) v)
    (λ mine. let b = has_lock o v.log in off (sym (hit o (cond (eqb f 0) true b) b ∙ (miss f 0 true b (λ e. taken (sym found ∙ e)) ∙ may.1)) ∙ mine))
    (λ j u apart e mine. moved ∙ (ap (λ (b : Bool). either b v.number at) (ne_eqb at 0 taken) ∙ old j u e mine))))
    (λ found may.
    set_views (Names k (did id v (Unlock o) ∷ es) o) _ id (view_after (Unlock o) v)
    (λ mine. off (sym (hit o false (has_lock o v.log)) ∙ mine))
    (λ j u apart e mine. absurd (apart (same_seat k es valid.0 j id u v e valid.1.0 (holder_lives k es valid.0 j u e o mine) (sym (old j u e mine) ∙ old id v valid.1.0 may.1)))))
    (λ b same apart found may.
    let stay = stays k es id v b may (lock_of o) low apart in
    set_views (Names k (did id v b ∷ es) o) _ id (view_after b v) (λ mine. stay ∙ old id v valid.1.0 (sym (same (has_lock o v.log)) ∙ mine)) (λ j u _ e mine. stay ∙ old j u e mine))
    a valid.1.2 valid.1.3
names k (forked id v ∷ es) valid o low =
    let old = names k es valid.0 o low in
    one_more (Names k (forked id v ∷ es) o) _ (made v) (λ no. off no) (set_views (Names k (forked id v ∷ es) o) _ id (maker v) (old id v valid.1.0) (λ j u _ e. old j u e))
names k (sent id v given ∷ es) valid o low =
    let old = names k es valid.0 o low in
    one_more (Names k (sent id v given ∷ es) o) _ (note given v) (λ no. off no) (set_views (Names k (sent id v given ∷ es) o) _ id (sender given v) (old id v valid.1.0) (λ j u _ e. old j u e))
names k (joined id v other w ∷ es) valid o low =
    let old = names k es valid.0 o low in
    set_views (Names k (joined id v other w ∷ es) o) _ other spent (λ no. off no)
    (λ j u _. set_views (Names k (joined id v other w ∷ es) o) _ id (both v w) (old id v valid.1.0) (λ j u _ e. old j u e) j u)

-- where the word is not 0, a pass has the lock
abbrev pub Holder : List View → ℕ → Type 0
Holder views o = (j : ℕ) × (u : View) × (get_elem? views j ≡ some u) × (has_lock o u.log ≡ true)

-- a holder other than the pass that acts stays
pub other_holds : (views : List View) (o id : ℕ) (w v : View) → get_elem? views id ≡ some v → (has_lock o v.log ≡ true → has_lock o w.log ≡ true) → Holder views o → Holder (set views id w) o
other_holds views o id w v at keeps h =
    dite (ℕ_discrete h.0 id)
    (λ (e : h.0 ≡ id).
    let u : h.1 ≡ v = some-injective h.1 v (sym h.2 ∙ (ap (get_elem? views) e ∙ at)) in
    (id, w, set_at views id v w at, keeps (subst (λ (z : View). has_lock o z.log ≡ true) u h.3)))
    (λ ne. (h.0, h.1, set_else views id h.0 w ne ∙ h.2, h.3))

pub holder : (k : Shape) (es : List Event) → Valid k es → (o : ℕ) → o < container_count k → word k es (lock_of o) ≢ 0 → Holder (run k es).views o
holder k [] valid o low some_one = absurd (some_one (lock_first k o low))
holder k (did id v a ∷ es) valid o low here =
    let old = holder k es valid.0 o low in
    let at = word k es (lock_of o) in
    let F : Act → Type 0 = λ b. Reports b (word k es (place b)) → May k (run k es) (history es) v b → word k (did id v b ∷ es) (lock_of o) ≢ 0 → Holder (run k (did id v b ∷ es)).views o in
    on_lock o F
    (λ f s found may some_one.
    dite (ℕ_discrete at 0)
    (λ (free : at ≡ 0).
    let b = has_lock o v.log in
    (id, view_after (Lock o f s) v, set_at (run k es).views id v (view_after (Lock o f s) v) valid.1.0, hit o (cond (eqb f 0) true b) b ∙ ap (λ (z : Bool). cond z true b) (eq-eqb f 0 (found ∙ free))))
    (λ (taken : at ≢ 0). other_holds (run k es).views o id (view_after (Lock o f s) v) v valid.1.0 (λ mine. off (sym may.1 ∙ mine)) (old taken)))
    (λ found may some_one. absurd (some_one (moves k es id v (Unlock o) may)))
    (λ b same apart found may some_one.
    other_holds (run k es).views o id (view_after b v) v valid.1.0 (λ mine. same (has_lock o v.log) ∙ mine) (old (λ e. some_one (stays k es id v b may (lock_of o) low apart ∙ e))))
    a valid.1.2 valid.1.3 here
holder k (forked id v ∷ es) valid o low some_one =
    let h = other_holds (run k es).views o id (maker v) v valid.1.0 (λ mine. mine) (holder k es valid.0 o low some_one) in
    (h.0, h.1, at_longer (set (run k es).views id (maker v)) (made v ∷ []) h.0 h.1 h.2, h.3)
holder k (sent id v given ∷ es) valid o low some_one =
    let h = other_holds (run k es).views o id (sender given v) v valid.1.0 (λ mine. mine) (holder k es valid.0 o low some_one) in
    (h.0, h.1, at_longer (set (run k es).views id (sender given v)) (note given v ∷ []) h.0 h.1 h.2, h.3)
holder k (joined id v other w ∷ es) valid o low some_one =
    let h = other_holds (run k es).views o id (both v w) v valid.1.0 (λ mine. mine) (holder k es valid.0 o low some_one) in
    other_holds (set (run k es).views id (both v w)) o other spent w (set_else (run k es).views id other (both v w) valid.1.1 ∙ valid.1.2) (λ mine. off (sym (valid.1.5.0 o) ∙ mine)) h

-- one pass at most has a lock
pub one_holder : (k : Shape) (es : List Event) → Valid k es → (o : ℕ) → o < container_count k → (i j : ℕ) (u w : View) → get_elem? (run k es).views i ≡ some u → get_elem? (run k es).views j ≡ some w → has_lock o u.log ≡ true → has_lock o w.log ≡ true → i ≡ j
one_holder k es valid o low i j u w at there mine theirs =
    same_seat k es valid i j u w at there (holder_lives k es valid i u at o mine) (sym (names k es valid o low i u at mine) ∙ names k es valid o low j w there theirs)
