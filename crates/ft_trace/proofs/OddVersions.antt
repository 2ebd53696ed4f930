-- A version is odd exactly while a pass writes.
use Rattle.std.proofs.Common.{◌≡◌, ◌≢◌, ◌⊎◌, ℕ, eqb, ◌+◌, ◌%◌, ◌^◌, ◌<◌, ◌≤◌, Bool, true, false, cond, List, [], ◌∷◌, ◌++◌, set, refl, sym, ap, ◌∙◌, subst, inl, inr, ⊎_elim, arith, le_refl, le_trans}
use mathlib.Core.Option.{some, some-injective}
use mathlib.Core.Logic.{dite}
use native.Mathlib.Decide.{ℕ_discrete}
use lib.ListN.{get_elem?}
use Rattle.ft_trace.specs.declared.Shape.{Shape}
use Rattle.ft_trace.specs.declared.View.{View}
use Rattle.ft_trace.specs.declared.Act.{Act}
use Rattle.ft_trace.specs.declared.Act.TheVariants.{StartWrite, StopWrite, Version}
use Rattle.ft_trace.specs.Addresses.{version_of, container_count}
use Rattle.ft_trace.specs.Acts.{has_lock, is_writing, is_writing_next, starter, view_after, maker, made, both, spent, sender, note}
use Rattle.ft_trace.specs.Traces.{Moment, Event, did, forked, joined, sent, run, word, history, May, Valid}
use Rattle.ft_trace.proofs.Sizes.{set_at, set_views, one_more, one_view}
use Rattle.atomic_table.proofs.Lists.{set_else, at_longer}
use Rattle.ft_trace.proofs.Cases.{hit, miss, same_or, off, not_true}
use Rattle.ft_trace.proofs.Addresses.{version_first}
use Rattle.ft_trace.proofs.OneWord.{stays, moves, loaded}
use Rattle.ft_trace.proofs.Locks.{on_lock, one_holder}

pub one_up : (n : ℕ) → n + 1 < 2 ^ 64 → (n + 1) % 2 ^ 64 ≡ n + 1
one_up n low = omega arith

-- who begins to write has the lock
start_or : (o : ℕ) (k : Shape) (m : Moment) (cs : _) (v : View) (b : Act) → May k m cs v b → is_writing_next o b (is_writing o v.log) ≡ true → (has_lock o v.log ≡ true) ⊎ (is_writing o v.log ≡ true)
start_or o k m cs v (StartWrite p f) may mine = same_or (λ (z : ℕ). has_lock z v.log ≡ true → (has_lock o v.log ≡ true) ⊎ (is_writing o v.log ≡ true)) p o inl (λ ne _. inr (sym (miss p o true (is_writing o v.log) ne) ∙ mine)) may.1
start_or o k m cs v (StopWrite p f) may mine = same_or (λ (z : ℕ). cond (eqb z o) false (is_writing o v.log) ≡ true → (has_lock o v.log ≡ true) ⊎ (is_writing o v.log ≡ true)) p o (λ e. off (sym (hit o false (is_writing o v.log)) ∙ e)) (λ ne e. inr (sym (miss p o false (is_writing o v.log) ne) ∙ e)) mine
start_or o k m cs v act may mine = inr mine

abbrev pub Covered : ℕ → ℕ → View → Type 0
Covered o j u = is_writing o u.log ≡ true → has_lock o u.log ≡ true

pub writer_has : (k : Shape) (es : List Event) → Valid k es → (o : ℕ) → (j : ℕ) (u : View) → get_elem? (run k es).views j ≡ some u → is_writing o u.log ≡ true → has_lock o u.log ≡ true
writer_has k [] valid o = one_view (Covered o) (starter k) (λ no. off no)
writer_has k (did id v a ∷ es) valid o =
    let old = writer_has k es valid.0 o in
    let F : Act → Type 0 = λ b. May k (run k es) (history es) v b → is_writing o (b ∷ v.log) ≡ true → has_lock o (b ∷ v.log) ≡ true in
    set_views (Covered o) _ id (view_after a v)
    (on_lock o F
    (λ f s may mine. off (sym may.1 ∙ old id v valid.1.0 mine))
    (λ may mine. off (sym may.2 ∙ mine))
    (λ b same apart may mine. same (has_lock o v.log) ∙ ⊎_elim (λ x. x) (λ was. old id v valid.1.0 was) (start_or o k (run k es) (history es) v b may mine))
    a valid.1.3)
    (λ j u _ e. old j u e)
writer_has k (forked id v ∷ es) valid o =
    let old = writer_has k es valid.0 o in
    one_more (Covered o) _ (made v) (λ no. off no) (set_views (Covered o) _ id (maker v) (old id v valid.1.0) (λ j u _ e. old j u e))
writer_has k (sent id v given ∷ es) valid o =
    let old = writer_has k es valid.0 o in
    one_more (Covered o) _ (note given v) (λ no. off no) (set_views (Covered o) _ id (sender given v) (old id v valid.1.0) (λ j u _ e. old j u e))
writer_has k (joined id v other w ∷ es) valid o =
    let old = writer_has k es valid.0 o in
    set_views (Covered o) _ other spent (λ no. off no) (λ j u _. set_views (Covered o) _ id (both v w) (old id v valid.1.0) (λ j u _ e. old j u e) j u)

abbrev pub version : Shape → List Event → ℕ → ℕ
version k es o = word k es (version_of o)

-- what the action is to the version of o
module _ (k : Shape) (es : List Event) (id : ℕ) (v : View) (o : ℕ) (low : o < container_count k) (F : Act → Type 0) (start : (f : ℕ) → F (StartWrite o f)) (stop : (f : ℕ) → F (StopWrite o f))
    (other : (a : Act) → ((b : Bool) → is_writing_next o a b ≡ b) → (May k (run k es) (history es) v a → version k (did id v a ∷ es) o ≡ version k es o) → F a) where
  pub on_seq : (a : Act) → F a
  on_seq (StartWrite p f) = same_or (λ (z : ℕ). F (StartWrite z f)) p o (start f) (λ ne. other (StartWrite p f) (λ b. miss p o true b ne) (λ may. stays k es id v (StartWrite p f) may (version_of o) low (λ e. ne (cc))))
  on_seq (StopWrite p f) = same_or (λ (z : ℕ). F (StopWrite z f)) p o (stop f) (λ ne. other (StopWrite p f) (λ b. miss p o false b ne) (λ may. stays k es id v (StopWrite p f) may (version_of o) low (λ e. ne (cc))))
  on_seq (Version p f) = other (Version p f) (λ b. refl) (λ may. loaded k es id v (Version p f) (λ n. refl) (version_of o))
  on_seq act = other act (λ b. refl) (λ may. stays k es id v act may (version_of o) low (λ e. absurd (cc)))

abbrev pub Writer : List View → ℕ → Type 0
Writer views o = (j : ℕ) × (u : View) × (get_elem? views j ≡ some u) × (is_writing o u.log ≡ true)

other_writes : (views : List View) (o id : ℕ) (w v : View) → get_elem? views id ≡ some v → (is_writing o v.log ≡ true → is_writing o w.log ≡ true) → Writer views o → Writer (set views id w) o
other_writes views o id w v at keeps h =
    dite (ℕ_discrete h.0 id)
    (λ (e : h.0 ≡ id).
    let u : h.1 ≡ v = some-injective h.1 v (sym h.2 ∙ (ap (get_elem? views) e ∙ at)) in
    (id, w, set_at views id v w at, keeps (subst (λ (z : View). is_writing o z.log ≡ true) u h.3)))
    (λ ne. (h.0, h.1, set_else views id h.0 w ne ∙ h.2, h.3))

pub record Versioned (k : Shape) (es : List Event) (o : ℕ) : Type 0 where
  pub idle : version k es o % 2 ≡ 0 → (j : ℕ) (u : View) → get_elem? (run k es).views j ≡ some u → is_writing o u.log ≡ false
  pub busy : version k es o % 2 ≡ 1 → Writer (run k es).views o

-- the writer is the only one
one_writer : (k : Shape) (es : List Event) → Valid k es → (o : ℕ) → o < container_count k → (j id : ℕ) (u v : View) → get_elem? (run k es).views j ≡ some u → get_elem? (run k es).views id ≡ some v → is_writing o u.log ≡ true → has_lock o v.log ≡ true → j ≡ id
one_writer k es valid o low j id u v at there mine theirs = one_holder k es valid o low j id u v at there (writer_has k es valid o j u at mine) theirs

pub versioned : (k : Shape) (es : List Event) → Valid k es → (o : ℕ) → o < container_count k → Versioned k es o
versioned k [] valid o low = record {
  idle = λ _. one_view (λ j u. is_writing o u.log ≡ false) (starter k) refl;
  busy = λ odd. let e : version k [] o ≡ 0 = version_first k o low in absurd (omega (arith, odd, ap (λ (n : ℕ). n % 2) e));
}
versioned k (did id v a ∷ es) valid o low =
    let old = versioned k es valid.0 o low in
    let F : Act → Type 0 = λ b. May k (run k es) (history es) v b → Versioned k (did id v b ∷ es) o in
    on_seq k es id v o low F
    (λ f may.
    let n = version k es o in
    let up : version k (did id v (StartWrite o f) ∷ es) o ≡ n + 1 = moves k es id v (StartWrite o f) may ∙ one_up n may.3 in
    let even : n % 2 ≡ 1 → ⊥ = λ odd.
    let h = old.busy odd in
    let same : h.0 ≡ id = one_writer k es valid.0 o low h.0 id h.1 v h.2 valid.1.0 h.3 may.1 in
    let u : h.1 ≡ v = some-injective h.1 v (sym h.2 ∙ (ap (get_elem? (run k es).views) same ∙ valid.1.0)) in
    off (sym (may.2 o) ∙ subst (λ (z : View). is_writing o z.log ≡ true) u h.3) in
    record {
      idle = λ now. absurd (even (omega (arith, now, ap (λ (z : ℕ). z % 2) up)));
      busy = λ _. (id, view_after (StartWrite o f) v, set_at (run k es).views id v (view_after (StartWrite o f) v) valid.1.0, hit o true (is_writing o v.log));
    })
    (λ f may.
    let n = version k es o in
    let up : version k (did id v (StopWrite o f) ∷ es) o ≡ n + 1 = moves k es id v (StopWrite o f) may ∙ one_up n may.4 in
    let odd : n % 2 ≡ 0 → ⊥ = λ even. off (sym (old.idle even id v valid.1.0) ∙ may.1) in
    record {
      idle = λ _. set_views (λ j u. is_writing o u.log ≡ false) _ id (view_after (StopWrite o f) v) (hit o false (is_writing o v.log))
          (λ j u apart e. not_true (is_writing o u.log) (λ mine. apart (one_writer k es valid.0 o low j id u v e valid.1.0 mine (writer_has k es valid.0 o id v valid.1.0 may.1))));
      busy = λ now. absurd (odd (omega (arith, now, ap (λ (z : ℕ). z % 2) up)));
    })
    (λ b keeps same_by may.
    let same = same_by may in
    record {
      idle = λ even. let was : version k es o % 2 ≡ 0 = ap (λ (n : ℕ). n % 2) (sym same) ∙ even in set_views (λ j u. is_writing o u.log ≡ false) _ id (view_after b v) (keeps (is_writing o v.log) ∙ old.idle was id v valid.1.0) (λ j u _ e. old.idle was j u e);
      busy = λ odd. let was : version k es o % 2 ≡ 1 = ap (λ (n : ℕ). n % 2) (sym same) ∙ odd in other_writes (run k es).views o id (view_after b v) v valid.1.0 (λ mine. keeps (is_writing o v.log) ∙ mine) (old.busy was);
    })
    a valid.1.3
versioned k (forked id v ∷ es) valid o low =
    let old = versioned k es valid.0 o low in
    let P : ℕ → View → Type 0 = λ j u. is_writing o u.log ≡ false in
    record {
      idle = λ even. one_more P _ (made v) refl (set_views P _ id (maker v) (old.idle even id v valid.1.0) (λ j u _ e. old.idle even j u e));
      busy = λ odd. let h = other_writes (run k es).views o id (maker v) v valid.1.0 (λ mine. mine) (old.busy odd) in (h.0, h.1, at_longer (set (run k es).views id (maker v)) (made v ∷ []) h.0 h.1 h.2, h.3);
    }
versioned k (sent id v given ∷ es) valid o low =
    let old = versioned k es valid.0 o low in
    let P : ℕ → View → Type 0 = λ j u. is_writing o u.log ≡ false in
    record {
      idle = λ even. one_more P _ (note given v) refl (set_views P _ id (sender given v) (old.idle even id v valid.1.0) (λ j u _ e. old.idle even j u e));
      busy = λ odd. let h = other_writes (run k es).views o id (sender given v) v valid.1.0 (λ mine. mine) (old.busy odd) in (h.0, h.1, at_longer (set (run k es).views id (sender given v)) (note given v ∷ []) h.0 h.1 h.2, h.3);
    }
versioned k (joined id v other w ∷ es) valid o low =
    let old = versioned k es valid.0 o low in
    let P : ℕ → View → Type 0 = λ j u. is_writing o u.log ≡ false in
    record {
      idle = λ even. set_views P _ other spent refl (λ j u _. set_views P _ id (both v w) (old.idle even id v valid.1.0) (λ j u _ e. old.idle even j u e) j u);
      busy = λ odd.
          other_writes (set (run k es).views id (both v w)) o other spent w (set_else (run k es).views id other (both v w) valid.1.1 ∙ valid.1.2)
          (λ mine. off (sym (valid.1.5.0 o) ∙ writer_has k es valid.0 o other w valid.1.2 mine))
          (other_writes (run k es).views o id (both v w) v valid.1.0 (λ mine. mine) (old.busy odd));
    }

writing_is_odd' : (n : ℕ) → n % 2 ≢ 0 → n % 2 ≡ 1
writing_is_odd' n ne = omega arith

pub writing_is_odd : (k : Shape) (es : List Event) → Valid k es → (o : ℕ) → o < container_count k → (id : ℕ) (v : View) → get_elem? (run k es).views id ≡ some v → is_writing o v.log ≡ true → version k es o % 2 ≡ 0 → ⊥
writing_is_odd k es valid o low id v at mine even = off (sym ((versioned k es valid o low).idle even id v at) ∙ mine)

-- a version never falls
pub rises_one : (k : Shape) (es : List Event) (e : Event) → Valid k (e ∷ es) → (o : ℕ) → o < container_count k → version k es o ≤ version k (e ∷ es) o
rises_one k es (did id v a) valid o low =
    let V = version k es o in
    let F : Act → Type 0 = λ b. May k (run k es) (history es) v b → V ≤ version k (did id v b ∷ es) o in
    on_seq k es id v o low F
    (λ f may. let up : version k (did id v (StartWrite o f) ∷ es) o ≡ V + 1 = moves k es id v (StartWrite o f) may ∙ one_up V may.3 in omega (arith, up))
    (λ f may. let up : version k (did id v (StopWrite o f) ∷ es) o ≡ V + 1 = moves k es id v (StopWrite o f) may ∙ one_up V may.4 in omega (arith, up))
    (λ b _ same may. let e = same may in omega (arith, e))
    a valid.1.3
rises_one k es (forked id v) valid o low = le_refl (version k es o)
rises_one k es (sent id v given) valid o low = le_refl (version k es o)
rises_one k es (joined id v other w) valid o low = le_refl (version k es o)

pub rises : (k : Shape) (newer older : List Event) → Valid k (newer ++ older) → (o : ℕ) → o < container_count k → version k older o ≤ version k (newer ++ older) o
rises k [] older valid o low = le_refl (version k older o)
rises k (e ∷ newer) older valid o low = le_trans (rises k newer older valid.0 o low) (rises_one k (newer ++ older) e valid o low)
