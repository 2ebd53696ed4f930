-- Where a root is 0 while its container is being written, the writer gave up its table, or there was none.
use Rattle.std.proofs.Common.{◌≡◌, ◌≢◌, ◌⊎◌, inl, inr, ⊎_elim, ℕ, ◌<◌, Bool, true, false, eqb, eq-eqb, List, [], ◌∷◌, refl, sym, ap, ◌∙◌, subst, arith}
use mathlib.Core.Option.{some}
use lib.ListN.{get_elem?}
use Rattle.ft_trace.specs.declared.Act.{Act}
use Rattle.ft_trace.specs.Owners.{had_locks, found_owners}
use Rattle.ft_trace.specs.declared.Act.TheVariants.{StartWrite, StopWrite, PutRoot, PutBlock, ReadBlock, ReadRoot, Commit, TookOver}
use Rattle.ft_trace.specs.declared.Shape.{Shape}
use Rattle.ft_trace.specs.declared.View.{View}
use Rattle.ft_trace.specs.Acts.{is_writing, is_writing_next, has_emptied, has_emptied_next, view_after, starter, maker, made, note, sender, both, spent, hands_over, tells}
use Rattle.ft_trace.specs.Addresses.{block, container_count}
use Rattle.ft_trace.specs.Roots.{OfOneWrite, BeganBare, ZeroRootsHaveCauses, RetiredTablesAreApart}
use Rattle.ft_trace.specs.Traces.{Event, did, forked, sent, joined, run, history, May, Valid}
use Rattle.ft_trace.proofs.Cases.{hit, miss, off, same_or}
use Rattle.ft_trace.proofs.HeldWords.{holder_even}
use Rattle.ft_trace.proofs.Locks.{one_holder}
use Rattle.ft_trace.proofs.EarlierMoments.{was}
use Rattle.ft_trace.proofs.TablePlaces.{root, placed}
use Rattle.ft_trace.proofs.Rule.{zero_roots_have_nothing}
use Rattle.ft_trace.proofs.Sizes.{set_views, one_more, one_view}
use Rattle.ft_trace.proofs.OddVersions.{writer_has}
use Rattle.ft_trace.proofs.OneWord.{stays, moves, loaded}

-- an action that begins or ends no write of o, and puts no root of it
pub record Beside (k : Shape) (es : List Event) (id : ℕ) (v : View) (o : ℕ) (a : Act) : Type 0 where
  pub writing : (b : Bool) → is_writing_next o a b ≡ b
  pub emptied : (b : Bool) → has_emptied_next o a b ≡ b
  pub one : (l : List Act) → OfOneWrite o l → OfOneWrite o (a ∷ l)
  pub root : May k (run k es) (history es) v a → root k (did id v a ∷ es) o ≡ root k es o

module _ (k : Shape) (es : List Event) (id : ℕ) (v : View) (o : ℕ) (low : o < container_count k) (F : Act → Type 0) (start : (f : ℕ) → F (StartWrite o f)) (stop : (f : ℕ) → F (StopWrite o f)) (put : (r old : ℕ) → F (PutRoot o r old)) (other : (a : Act) → Beside k es id v o a → F a) where
  on_write : (a : Act) → F a
  on_write (StartWrite p f) = same_or (λ (z : ℕ). F (StartWrite z f)) p o (start f) (λ ne. other (StartWrite p f) (record { writing = λ b. miss p o true b ne; emptied = λ b. miss p o false b ne; one = λ l one. (ne, one); root = λ may. stays k es id v (StartWrite p f) may (block o 0) (low, omega arith) (λ e. absurd (cc)) }))
  on_write (StopWrite p f) = same_or (λ (z : ℕ). F (StopWrite z f)) p o (stop f) (λ ne. other (StopWrite p f) (record { writing = λ b. miss p o false b ne; emptied = λ b. refl; one = λ l one. (ne, one); root = λ may. stays k es id v (StopWrite p f) may (block o 0) (low, omega arith) (λ e. absurd (cc)) }))
  on_write (PutRoot p r old) = same_or (λ (z : ℕ). F (PutRoot z r old)) p o (put r old) (λ ne. other (PutRoot p r old) (record { writing = λ b. refl; emptied = λ b. miss p o (eqb r 0) b ne; one = λ l one. one; root = λ may. stays k es id v (PutRoot p r old) may (block o 0) (low, omega arith) (λ e. ne (cc)) }))
  on_write (PutBlock p i x) = other (PutBlock p i x) (record { writing = λ b. refl; emptied = λ b. refl; one = λ l one. one; root = λ may. stays k es id v (PutBlock p i x) may (block o 0) (low, omega arith) (λ e. may.3 (cc)) })
  on_write (ReadBlock p i f) = other (ReadBlock p i f) (record { writing = λ b. refl; emptied = λ b. refl; one = λ l one. one; root = λ may. loaded k es id v (ReadBlock p i f) (λ n. refl) (block o 0) })
  on_write (ReadRoot p f) = other (ReadRoot p f) (record { writing = λ b. refl; emptied = λ b. refl; one = λ l one. one; root = λ may. loaded k es id v (ReadRoot p f) (λ n. refl) (block o 0) })
  on_write act = other act (record { writing = λ b. refl; emptied = λ b. refl; one = λ l one. one; root = λ may. stays k es id v act may (block o 0) (low, omega arith) (λ e. absurd (cc)) })

abbrev Cause : Shape → List Event → ℕ → ℕ → View → Type 0
Cause k es o j u = is_writing o u.log ≡ true → root k es o ≡ 0 → (has_emptied o u.log ≡ true) ⊎ BeganBare k es o j u.log

-- one more event of another view, or that changes no log
began_later : (k : Shape) (es : List Event) (e : Event) (o j : ℕ) (log : List Act) → BeganBare k es o j log → BeganBare k (e ∷ es) o j log
began_later k es e o j log b = record { newer = e ∷ b.newer; older = b.older; view = b.view; found = b.found; split = ap (λ (l : List Event). e ∷ l) b.split; own = b.own; is = b.is; one = b.one; nothing = b.nothing }

cause_later : (k : Shape) (es : List Event) (e : Event) (o j : ℕ) (u : View) → root k (e ∷ es) o ≡ root k es o → Cause k es o j u → Cause k (e ∷ es) o j u
cause_later k es e o j u same old writes none = ⊎_elim (λ z. inl z) (λ b. inr (began_later k es e o j u.log b)) (old writes (sym same ∙ none))

-- who takes in another pass goes on with its own write
cause_joined : (k : Shape) (es : List Event) (id : ℕ) (v : View) (other : ℕ) (w : View) (o : ℕ) → Cause k es o id v → Cause k (joined id v other w ∷ es) o id (both v w)
cause_joined k es id v other w o old writes none =
    ⊎_elim (λ z. inl z)
    (λ b. inr (record { newer = joined id v other w ∷ b.newer; older = b.older; view = b.view; found = b.found; split = ap (λ (l : List Event). joined id v other w ∷ l) b.split; own = TookOver (hands_over w.log) (had_locks w.number w.log) (found_owners w.log) (tells w) ∷ b.own; is = ap (λ (l : List Act). TookOver (hands_over w.log) (had_locks w.number w.log) (found_owners w.log) (tells w) ∷ l) b.is; one = b.one; nothing = b.nothing }))
    (old writes none)

pub causes : (k : Shape) (es : List Event) → Valid k es → (o : ℕ) → o < container_count k → (j : ℕ) (u : View) → get_elem? (run k es).views j ≡ some u → Cause k es o j u
causes k [] valid o low = one_view (λ j u. Cause k [] o j u) (starter k) (λ no. off no)
causes k (did id v a ∷ es) valid o low =
    let old = causes k es valid.0 o low in
    let P : Act → ℕ → View → Type 0 = λ b j u. Cause k (did id v b ∷ es) o j u in
    let F : Act → Type 0 = λ b. May k (run k es) (history es) v b → (j : ℕ) (u : View) → get_elem? (run k (did id v b ∷ es)).views j ≡ some u → P b j u in
    -- no other pass writes o while this one has its lock
    let others : (b : Act) → is_writing o v.log ≡ true → (j : ℕ) (u : View) → j ≢ id → get_elem? (run k es).views j ≡ some u → P b j u = λ b mine j u ne e theirs.
    absurd (ne (one_holder k es valid.0 o low j id u v e valid.1.0 (writer_has k es valid.0 o j u e theirs) (writer_has k es valid.0 o id v valid.1.0 mine))) in
    on_write k es id v o low F
    (λ f may.
    let same : root k (did id v (StartWrite o f) ∷ es) o ≡ root k es o = stays k es id v (StartWrite o f) may (block o 0) (low, omega arith) (λ e. absurd (cc)) in
    set_views (P (StartWrite o f)) _ id (view_after (StartWrite o f) v)
    (λ writes none.
    let even = holder_even k es valid.0 o low id v valid.1.0 may.1 (may.2 o) in
    inr (record { newer = []; older = es; view = v; found = f; split = refl; own = []; is = refl; one = tt; nothing = zero_roots_have_nothing k es valid.0 o low even (sym same ∙ none) }))
    (λ j u ne e. cause_later k es (did id v (StartWrite o f)) o j u same (old j u e)))
    (λ f may.
    let same : root k (did id v (StopWrite o f) ∷ es) o ≡ root k es o = stays k es id v (StopWrite o f) may (block o 0) (low, omega arith) (λ e. absurd (cc)) in
    set_views (P (StopWrite o f)) _ id (view_after (StopWrite o f) v)
    (λ writes none. off (sym (hit o false (is_writing o v.log)) ∙ writes))
    (λ j u ne e. cause_later k es (did id v (StopWrite o f)) o j u same (old j u e)))
    (λ r past may.
    let now : root k (did id v (PutRoot o r past) ∷ es) o ≡ r = moves k es id v (PutRoot o r past) may in
    set_views (P (PutRoot o r past)) _ id (view_after (PutRoot o r past) v)
    (λ writes none. inl (hit o (eqb r 0) (has_emptied o v.log) ∙ eq-eqb r 0 (sym now ∙ none)))
    (λ j u ne e. others (PutRoot o r past) may.1 j u ne e))
    (λ b beside may.
    let same = beside.root may in
    set_views (P b) _ id (view_after b v)
    (λ writes none.
    ⊎_elim
    (λ z. inl (beside.emptied (has_emptied o v.log) ∙ z))
    (λ z. inr (record { newer = did id v b ∷ z.newer; older = z.older; view = z.view; found = z.found; split = ap (λ (l : List Event). did id v b ∷ l) z.split; own = b ∷ z.own; is = ap (λ (l : List Act). b ∷ l) z.is; one = beside.one z.own z.one; nothing = z.nothing }))
    (old id v valid.1.0 (sym (beside.writing (is_writing o v.log)) ∙ writes) (sym same ∙ none)))
    (λ j u ne e. cause_later k es (did id v b) o j u same (old j u e)))
    a valid.1.3
causes k (forked id v ∷ es) valid o low =
    let old = causes k es valid.0 o low in
    let P : ℕ → View → Type 0 = λ j u. Cause k (forked id v ∷ es) o j u in
    one_more P _ (made v) (λ no. off no) (set_views P _ id (maker v) (cause_later k es (forked id v) o id v refl (old id v valid.1.0)) (λ j u _ e. cause_later k es (forked id v) o j u refl (old j u e)))
causes k (sent id v given ∷ es) valid o low =
    let old = causes k es valid.0 o low in
    let P : ℕ → View → Type 0 = λ j u. Cause k (sent id v given ∷ es) o j u in
    one_more P _ (note given v) (λ no. off no) (set_views P _ id (sender given v) (cause_later k es (sent id v given) o id v refl (old id v valid.1.0)) (λ j u _ e. cause_later k es (sent id v given) o j u refl (old j u e)))
causes k (joined id v other w ∷ es) valid o low =
    let old = causes k es valid.0 o low in
    let P : ℕ → View → Type 0 = λ j u. Cause k (joined id v other w ∷ es) o j u in
    set_views P _ other spent (λ no. off no) (λ j u _. set_views P _ id (both v w) (cause_joined k es id v other w o (old id v valid.1.0)) (λ j u _ e. cause_later k es (joined id v other w) o j u refl (old j u e)) j u)

pub zero_roots_have_causes : ZeroRootsHaveCauses
zero_roots_have_causes k es valid o low j u at = (
  causes k es valid o low j u at,
  λ newer rest c r f s is same emptied.
      let w = was k es valid j u at newer (Commit c r f s) rest is in
      (w.may tt).10 (subst (λ (z : ℕ). has_emptied z w.view.log ≡ true) (sym same) (ap (has_emptied o) w.log ∙ emptied)),
)

pub retired_tables_are_apart : RetiredTablesAreApart
retired_tables_are_apart k es valid t table four =
    let p = placed k es valid t table in
    (λ free. let z = p.free_is free in absurd (omega (arith, z, four)), λ o low names. let z = (p.roots o low names).0 in absurd (omega (arith, z, four)))
