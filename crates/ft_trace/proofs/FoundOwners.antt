-- Whoever was found with a lock had taken it.
use Rattle.std.proofs.Common.{◌≡◌, ◌≢◌, ℕ, eqb, ◌<◌, true, List, [], ◌∷◌, ◌++◌, set, ⊎_elim, sym, ap, ◌∙◌, subst}
use Rattle.std.proofs.lemmas.Bool.{eqb-true}
use mathlib.Core.Option.{some, some-injective}
use mathlib.Core.Logic.{dite}
use native.Mathlib.Decide.{ℕ_discrete}
use lib.ListN.{get_elem?}
use Rattle.atomic_table.proofs.Lists.{set_else, at_longer}
use Rattle.ft_trace.specs.declared.Act.{Act}
use Rattle.ft_trace.specs.declared.Act.TheVariants.{Lock, TookOver}
use Rattle.ft_trace.specs.declared.Owner.{Owner}
use Rattle.ft_trace.specs.declared.Shape.{Shape}
use Rattle.ft_trace.specs.declared.View.{View}
use Rattle.ft_trace.specs.Addresses.{lock_of, container_count}
use Rattle.ft_trace.specs.Acts.{place, Reports, starter, view_after, maker, made, both, spent, sender, note}
use Rattle.ft_trace.specs.TraceLaws.{FoundOwnersHadLocks, OneKnowsAllOwners}
use Rattle.ft_trace.specs.Owners.{is_owner_in, had_locks, found_owners, found_owners_next}
use Rattle.ft_trace.specs.Traces.{Event, did, forked, joined, sent, run, word, history, May, Valid}
use Rattle.ft_trace.proofs.Cases.{miss, here, off}
use Rattle.ft_trace.proofs.Owning.{one_or, in_left, in_right, in_either, had_grows, has_had}
use Rattle.ft_trace.proofs.Sizes.{set_at, set_views, one_more, one_view}
use Rattle.ft_trace.proofs.Locks.{names, holder}
use Rattle.ft_trace.proofs.Seats.{seated}
use Rattle.ft_trace.proofs.Rule.{one_pass_is_alone}

-- ---- views

-- a view says that the pass q has had the lock of o
abbrev pub Had : List View → ℕ → ℕ → Type 0
Had views o q = (i : ℕ) × (w : View) × (get_elem? views i ≡ some w) × (is_owner_in o q (had_locks w.number w.log) ≡ true)

-- it stays said
keeps_had : (views : List View) (o q id : ℕ) (w v : View) → get_elem? views id ≡ some v → (is_owner_in o q (had_locks v.number v.log) ≡ true → is_owner_in o q (had_locks w.number w.log) ≡ true) → Had views o q → Had (set views id w) o q
keeps_had views o q id w v at keeps h =
    dite (ℕ_discrete h.0 id)
    (λ (e : h.0 ≡ id).
    let u : h.1 ≡ v = some-injective h.1 v (sym h.2 ∙ (ap (get_elem? views) e ∙ at)) in
    (id, w, set_at views id v w at, keeps (subst (λ (z : View). is_owner_in o q (had_locks z.number z.log) ≡ true) u h.3)))
    (λ ne. (h.0, h.1, set_else views id h.0 w ne ∙ h.2, h.3))

longer : (views : List View) (o q : ℕ) (w : View) → Had views o q → Had (views ++ w ∷ []) o q
longer views o q w h = (h.0, h.1, at_longer views (w ∷ []) h.0 h.1 h.2, h.3)

-- whom the view has found had the lock
abbrev Finds : Shape → List Event → ℕ → View → Type 0
Finds k es j u = (o q : ℕ) → is_owner_in o q (found_owners u.log) ≡ true → Had (run k es).views o q

module _ (k : Shape) (es : List Event) (valid : Valid k es) (id : ℕ) (v : View) (seat : get_elem? (run k es).views id ≡ some v) (o q : ℕ) where
  abbrev Before : Type 0
  Before = Had (run k es).views o q

  later_had : (a : Act) → Before → Had (run k (did id v a ∷ es)).views o q
  later_had a h = keeps_had (run k es).views o q id (view_after a v) v seat (had_grows o q v.number a (had_locks v.number v.log)) h

  -- the lock word names its holder
  locked_by : (p f : ℕ) → p < container_count k → f ≡ word k es (lock_of p) → f ≢ 0 → eqb p o ≡ true → eqb f q ≡ true → Before
  locked_by p f low found taken same_o same_q =
      let h = holder k es valid p low (λ e. taken (found ∙ e)) in
      let named : f ≡ h.1.number = found ∙ names k es valid p low h.0 h.1 h.2 h.3 in
      let had : is_owner_in p h.1.number (had_locks h.1.number h.1.log) ≡ true = has_had p h.1.number h.1.log h.3 in
      (h.0, h.1, h.2, subst (λ (z : ℕ). is_owner_in z q (had_locks h.1.number h.1.log) ≡ true) (eqb-true p o same_o) (subst (λ (z : ℕ). is_owner_in p z (had_locks h.1.number h.1.log) ≡ true) (sym named ∙ eqb-true f q same_q) had))

  step : (a : Act) → Reports a (word k es (place a)) → May k (run k es) (history es) v a → Finds k es id v → is_owner_in o q (found_owners_next a (found_owners v.log)) ≡ true → Before
  step (Lock p f s) found may old is =
      let owners = found_owners v.log in
      let one : Owner = record { container = p; pass = f } in
      dite (ℕ_discrete f 0)
      (λ (free : f ≡ 0). old o q (sym (ap (is_owner_in o q) (here f 0 owners (one ∷ owners) free)) ∙ is))
      (λ (taken : f ≢ 0).
      ⊎_elim (λ (z : (eqb p o ≡ true) × (eqb f q ≡ true)). locked_by p f may.0 found taken z.0 z.1)
      (λ (z : is_owner_in o q owners ≡ true). old o q z)
      (one_or o q (eqb p o) (eqb f q) (is_owner_in o q owners) (sym (ap (is_owner_in o q) (miss f 0 owners (one ∷ owners) taken)) ∙ is)))
  step (TookOver tables had others told) found may old is = absurd may
  step a found may old is = old o q is

-- two passes that become one know what both knew
joined_had : (views : List View) (id other : ℕ) (v w : View) → get_elem? views id ≡ some v → other ≢ id → get_elem? views other ≡ some w → (o q : ℕ) → Had views o q → Had (set (set views id (both v w)) other spent) o q
joined_had views id other v w seat apart its o q h =
    let mine : get_elem? (set (set views id (both v w)) other spent) id ≡ some (both v w) = set_else (set views id (both v w)) other id spent (λ e. apart (sym e)) ∙ set_at views id v (both v w) seat in
    let had_v = had_locks v.number v.log in
    let had_w = had_locks w.number w.log in
    dite (ℕ_discrete h.0 other)
    (λ (e : h.0 ≡ other).
    let is : h.1 ≡ w = some-injective h.1 w (sym h.2 ∙ (ap (get_elem? views) e ∙ its)) in
    (id, both v w, mine, in_left o q had_w had_v (subst (λ (z : View). is_owner_in o q (had_locks z.number z.log) ≡ true) is h.3)))
    (λ ne.
    dite (ℕ_discrete h.0 id)
    (λ (e : h.0 ≡ id).
    let is : h.1 ≡ v = some-injective h.1 v (sym h.2 ∙ (ap (get_elem? views) e ∙ seat)) in
    (id, both v w, mine, in_right o q had_w had_v (subst (λ (z : View). is_owner_in o q (had_locks z.number z.log) ≡ true) is h.3)))
    (λ far. (h.0, h.1, set_else (set views id (both v w)) other h.0 spent ne ∙ (set_else views id h.0 (both v w) far ∙ h.2), h.3)))

finds : (k : Shape) (es : List Event) → Valid k es → (j : ℕ) (u : View) → get_elem? (run k es).views j ≡ some u → Finds k es j u
finds k [] valid = one_view (Finds k []) (starter k) (λ o q e. off e)
finds k (did id v a ∷ es) valid =
    let old = finds k es valid.0 in
    set_views (Finds k (did id v a ∷ es)) _ id (view_after a v)
    (λ o q e. later_had k es valid.0 id v valid.1.0 o q a (step k es valid.0 id v valid.1.0 o q a valid.1.2 valid.1.3 (old id v valid.1.0) e))
    (λ j u _ at o q e. later_had k es valid.0 id v valid.1.0 o q a (old j u at o q e))
finds k (forked id v ∷ es) valid =
    let old = finds k es valid.0 in
    let P : ℕ → View → Type 0 = Finds k (forked id v ∷ es) in
    let up : (o q : ℕ) → Had (run k es).views o q → Had (run k (forked id v ∷ es)).views o q = λ o q h. longer (set (run k es).views id (maker v)) o q (made v) (keeps_had (run k es).views o q id (maker v) v valid.1.0 (λ e. e) h) in
    one_more P _ (made v) (λ o q e. off e) (set_views P _ id (maker v) (λ o q e. up o q (old id v valid.1.0 o q e)) (λ j u _ at o q e. up o q (old j u at o q e)))
finds k (sent id v given ∷ es) valid =
    let old = finds k es valid.0 in
    let P : ℕ → View → Type 0 = Finds k (sent id v given ∷ es) in
    let up : (o q : ℕ) → Had (run k es).views o q → Had (run k (sent id v given ∷ es)).views o q = λ o q h. longer (set (run k es).views id (sender given v)) o q (note given v) (keeps_had (run k es).views o q id (sender given v) v valid.1.0 (λ e. e) h) in
    one_more P _ (note given v) (λ o q e. off e) (set_views P _ id (sender given v) (λ o q e. up o q (old id v valid.1.0 o q e)) (λ j u _ at o q e. up o q (old j u at o q e)))
finds k (joined id v other w ∷ es) valid =
    let old = finds k es valid.0 in
    let P : ℕ → View → Type 0 = Finds k (joined id v other w ∷ es) in
    let up = joined_had (run k es).views id other v w valid.1.0 valid.1.1 valid.1.2 in
    set_views P _ other spent (λ o q e. off e)
    (λ j u _. set_views P _ id (both v w)
    (λ o q e. ⊎_elim (λ its. up o q (old other w valid.1.2 o q its)) (λ mine. up o q (old id v valid.1.0 o q mine)) (in_either o q (found_owners w.log) (found_owners v.log) e))
    (λ j u _ at o q e. up o q (old j u at o q e)) j u)

pub found_owners_had_locks : FoundOwnersHadLocks
found_owners_had_locks k es valid j u at o q is = finds k es valid j u at o q is

pub one_knows_all_owners : OneKnowsAllOwners
one_knows_all_owners k es valid j u at all o q is =
    let h = finds k es valid j u at o q is in
    let live : u.number ≢ 0 = λ none. off (sym (ap (λ (l : List Act). is_owner_in o q (found_owners l)) ((seated k es valid j u at).silent none)) ∙ is) in
    dite (ℕ_discrete h.0 j)
    (λ (e : h.0 ≡ j).
    let same : h.1 ≡ u = some-injective h.1 u (sym h.2 ∙ (ap (get_elem? (run k es).views) e ∙ at)) in
    subst (λ (z : View). is_owner_in o q (had_locks z.number z.log) ≡ true) same h.3)
    (λ ne.
    let none = one_pass_is_alone k es valid j u at live all h.0 h.1 h.2 ne in
    off (sym (ap (λ (l : List Act). is_owner_in o q (had_locks h.1.number l)) ((seated k es valid h.0 h.1 h.2).silent none)) ∙ h.3))
