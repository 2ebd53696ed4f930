-- That the write of a container which opened an entry or item commits while it is open.
use Rattle.std.proofs.Common.{◌≡◌, ◌⊎◌, ℕ, suc, ◌+◌, ◌%◌, ◌<◌, ◌≤◌, true, false, true≢false, List, [], ◌∷◌, ◌++◌, set, refl, sym, ap, ◌∙◌, subst, inl, inr, ⊎_elim, arith, get_or-set_other, get_or-set_same}
use Rattle.std.specs.Prelude.{slice_index, slice_set}
use mathlib.Core.Option.{some, some-injective}
use mathlib.Core.Logic.{dite}
use native.Mathlib.Decide.{ℕ_discrete}
use lib.ListN.{get_elem?}
use Rattle.ft_model.specs.declared.call.Call.{Call}
use Rattle.ft_model.specs.declared.reply.Reply.{Reply}
use Rattle.ft_trace.specs.declared.Act.{Act}
use Rattle.ft_trace.specs.declared.Act.TheVariants.{PutTable, Commit, StartWrite, StopWrite}
use Rattle.ft_trace.specs.declared.Shape.{Shape}
use Rattle.ft_trace.specs.declared.Snap.{Snap}
use Rattle.ft_trace.specs.declared.View.{View}
use Rattle.ft_trace.specs.Acts.{is_writing, is_writing_next, has_committed, has_committed_next, view_after, maker, made, both, spent, sender, note}
use Rattle.ft_trace.specs.Addresses.{block, class_of, container_count}
use Rattle.ft_trace.specs.Ages.{age}
use Rattle.ft_trace.specs.ContainerStates.{kind_in, changes}
use Rattle.ft_trace.specs.Kinds.{rows, version_at}
use Rattle.ft_trace.specs.OpenedEntries.{OpensChangedBy, OpenedAreCommitted}
use Rattle.ft_trace.specs.StoppedLookUps.{IsOpenAs}
use Rattle.ft_trace.specs.Traces.{Event, did, forked, joined, sent, run, history, May, CarefulFor, TimelyFor, Valid}
use Rattle.ft_trace.proofs.Cases.{miss, off}
use Rattle.ft_trace.proofs.Ages.{ages_one}
use Rattle.ft_trace.proofs.ReadTables.{raw_careful_for}
use Rattle.ft_trace.proofs.ByKind.{as_version, row_low}
use Rattle.ft_trace.proofs.Contents.{tab}
use Rattle.ft_trace.proofs.EarlierMoments.{valid_rest}
use Rattle.ft_trace.proofs.Locks.{one_holder}
use Rattle.ft_trace.proofs.OddVersions.{writer_has}
use Rattle.ft_trace.proofs.OneWrite.{one_write}
use Rattle.ft_trace.proofs.OpenedChange.{commits_change_the_opened}
use Rattle.ft_trace.proofs.Pieces.{table_long}
use Rattle.atomic_table.proofs.Lists.{set_else, at_longer}
use Rattle.ft_trace.proofs.OneWord.{stays}
use Rattle.ft_trace.proofs.Sizes.{set_at}
use Rattle.ft_trace.proofs.Sounds.{content, on_cells, put_tab}
use Rattle.ft_trace.proofs.TablePlaces.{root, on_root, root_table, placed}

-- ---- who writes o and has not committed since

abbrev pub Early : List View → ℕ → Type 0
Early views o = (j : ℕ) × (u : View) × (get_elem? views j ≡ some u) × (is_writing o u.log ≡ true) × (has_committed o u.log ≡ false)

early_set : (views : List View) (o id : ℕ) (w v : View) → get_elem? views id ≡ some v → (is_writing o v.log ≡ true → has_committed o v.log ≡ false → (is_writing o w.log ≡ true) × (has_committed o w.log ≡ false)) → Early views o → Early (set views id w) o
early_set views o id w v at keeps h =
    dite (ℕ_discrete h.0 id)
    (λ (e : h.0 ≡ id).
    let u : h.1 ≡ v = some-injective h.1 v (sym h.2 ∙ (ap (get_elem? views) e ∙ at)) in
    let k = keeps (subst (λ (z : View). is_writing o z.log ≡ true) u h.3) (subst (λ (z : View). has_committed o z.log ≡ false) u h.4) in
    (id, w, set_at views id v w at, k.0, k.1))
    (λ ne. (h.0, h.1, set_else views id h.0 w ne ∙ h.2, h.3, h.4))

early_longer : (views more : List View) (o : ℕ) → Early views o → Early (views ++ more) o
early_longer views more o h = (h.0, h.1, at_longer views more h.0 h.1 h.2, h.3, h.4)

-- a step of a pass that writes o: a commit, or one that leaves it so
early_act : (k : Shape) (es : List Event) (o : ℕ) (v : View) (b : Act) → May k (run k es) (history es) v b → is_writing o v.log ≡ true → has_committed o v.log ≡ false
    → ((c : Call) × (r : Reply) × (f : ℕ) × (s : Snap) × (b ≡ Commit c r f s)) ⊎ ((is_writing_next o b (is_writing o v.log) ≡ true) × (has_committed_next o b (has_committed o v.log) ≡ false))
early_act k es o v (Commit c r f s) may w e = inl (c, r, f, s, refl)
early_act k es o v (StartWrite q f) may w e =
    dite (ℕ_discrete q o)
    (λ (same : q ≡ o). off (sym (may.2 o) ∙ w))
    (λ ne. inr (miss q o true (is_writing o v.log) ne ∙ w, miss q o false (has_committed o v.log) ne ∙ e))
early_act k es o v (StopWrite q f) may w e =
    dite (ℕ_discrete q o)
    (λ (same : q ≡ o). off (sym e ∙ subst (λ (z : ℕ). has_committed z v.log ≡ true) same may.2))
    (λ ne. inr (miss q o false (is_writing o v.log) ne ∙ w, e))
early_act k es o v act may w e = inr (w, e)

-- ---- an entry is open, and the write of its container has not committed

-- a step leaves the table where it is
pub same_age : (k : Shape) (e : Event) (es : List Event) → Valid k (e ∷ es) → (o t : ℕ) → o < container_count k → root k es o ≡ suc t → root k (e ∷ es) o ≡ suc t → age (e ∷ es) t ≡ age es t
same_age k e es valid o t low was now =
    let table = root_table k es (valid_rest k (e ∷ []) es valid) o low t was in
    let a = ((placed k es (valid_rest k (e ∷ []) es valid) t table).roots o low was).0 in
    let b = ((placed k (e ∷ es) valid t table).roots o low now).0 in
    let step = ages_one e es t in
    let up = step.up in
    ⊎_elim (λ (h : age (e ∷ es) t ≤ age es t + 1). omega (arith, a, b, up, h)) (λ (h : age (e ∷ es) t % 5 ≡ 0). absurd (omega (arith, b, h))) step.small

-- the version is x, and the table has this age
pub record Opening (k : Shape) (es : List Event) (o t p x g : ℕ) : Type 0 where
  pub open_here : IsOpenAs k es o t p x
  pub aged : age es t ≡ g
  pub early : Early (run k es).views o

-- the event is a commit of a pass that writes o
abbrev pub Commits : Event → ℕ → Type 0
Commits e o = (h : ℕ) × (u : View) × (c : Call) × (r : Reply) × (f : ℕ) × (s : Snap) × (e ≡ did h u (Commit c r f s)) × (is_writing o u.log ≡ true)

module _ (k : Shape) (o t p : ℕ) (low : o < container_count k) (small : p < rows (kind_in k.starts o) (class_of t)) where
  module _ (x g : ℕ) where
    abbrev V : ℕ
    V = version_at (kind_in k.starts o) (class_of t) p

    module _ (es : List Event) (id : ℕ) (v : View) (opened : Opening k es o t p x g) where
      names : root k es o ≡ suc t
      names = opened.open_here.0

      -- a pass that writes o is the one that has not committed
      pub writer_is : Valid k es → get_elem? (run k es).views id ≡ some v → is_writing o v.log ≡ true → (opened.early.0 ≡ id) × (has_committed o v.log ≡ false)
      writer_is valid at mine =
          let h = opened.early in
          let same : h.0 ≡ id = one_holder k es valid o low h.0 id h.1 v h.2 at (writer_has k es valid o h.0 h.1 h.2 h.3) (writer_has k es valid o id v at mine) in
          let u : h.1 ≡ v = some-injective h.1 v (sym h.2 ∙ (ap (get_elem? (run k es).views) same ∙ at)) in
          (same, subst (λ (z : View). has_committed o z.log ≡ false) u h.4)

      -- its version stays
      still_open : (b : Act) → Valid k (did id v b ∷ es) → IsOpenAs k (did id v b ∷ es) o t p x
      still_open =
          let F : Act → Type 0 = λ b. Valid k (did id v b ∷ es) → IsOpenAs k (did id v b ∷ es) o t p x in
          on_root k es id v o low F
          (λ r old ok. let two = ok.1.3.4 t (ok.1.3.2 ∙ names) p small in let is = opened.open_here.1 in let one = opened.open_here.2 in absurd (omega (arith, two, is, one)))
          (λ b stay ok.
          let table = root_table k es ok.0 o low t names in
          let G : Act → Type 0 = λ b. Valid k (did id v b ∷ es) → slice_index (tab k (did id v b ∷ es) t) V ≡ x in (
            stay ok.1.3 ∙ names,
            on_cells k es id v t table G
                (λ q i y ok.
                let may = ok.1.3 in
                let its = placed k es ok.0 t table in
                let same : q ≡ o = sym (its.roots q may.0 may.4).1 ∙ (its.roots o low names).1 in
                let writing : is_writing o v.log ≡ true = subst (λ (z : ℕ). is_writing z v.log ≡ true) same may.3 in
                let timely : TimelyFor k o t i y (has_committed o v.log) = subst (λ (z : ℕ). TimelyFor k z t i y (has_committed z v.log)) same may.6 in
                let care = subst (λ (z : ℕ). CarefulFor k (run k es).words z t (content k es z) i y) same may.5 in
                let ws = tab k es t in
                let is = put_tab k es id v q t i y table may.2 in
                dite (ℕ_discrete i V)
                (λ (e : i ≡ V).
                let up : y ≡ slice_index ws V + 1 = as_version (kind_in k.starts o) (class_of t) ws i y (raw_careful_for k es o t (content k es o) i y care) p small e in
                let was = opened.open_here.1 in
                let one = opened.open_here.2 in
                absurd (true≢false (sym (timely.later p small e (omega (arith, up, was, one))) ∙ (writer_is ok.0 ok.1.0 writing).1)))
                (λ ne. ap (λ (z : List ℕ). slice_index z V) is ∙ (get_or-set_other ws i V y 0 (λ e. ne (sym e)) ∙ opened.open_here.1)))
                (λ i y ok. let one = ok.1.3.2 in let its = placed k es ok.0 t table in let a = (its.hands id v ok.1.0 (λ z. absurd (omega (arith, z, one)))).0 in let b = (its.roots o low names).0 in absurd (omega (arith, a, b, one)))
                (λ b same_by ok. ap (λ (z : List ℕ). slice_index z V) (same_by ok.1.3) ∙ opened.open_here.1)
                b ok,
            opened.open_here.2,
          ))

      opens_did : (a : Act) → Valid k (did id v a ∷ es) → Commits (did id v a) o ⊎ Opening k (did id v a ∷ es) o t p x g
      opens_did a valid =
          let h = opened.early in
          let still = still_open a valid in
          let aged : age (did id v a ∷ es) t ≡ g = same_age k (did id v a) es valid o t low names still.0 ∙ opened.aged in
          dite (ℕ_discrete h.0 id)
          (λ (e : h.0 ≡ id).
          let u : h.1 ≡ v = some-injective h.1 v (sym h.2 ∙ (ap (get_elem? (run k es).views) e ∙ valid.1.0)) in
          let w : is_writing o v.log ≡ true = subst (λ (z : View). is_writing o z.log ≡ true) u h.3 in
          let not_yet : has_committed o v.log ≡ false = subst (λ (z : View). has_committed o z.log ≡ false) u h.4 in
          ⊎_elim
          (λ (c : (c : Call) × (r : Reply) × (f : ℕ) × (s : Snap) × (a ≡ Commit c r f s)). inl (id, v, c.0, c.1, c.2, c.3, ap (λ (z : Act). did id v z) c.4, w))
          (λ (n : (is_writing_next o a (is_writing o v.log) ≡ true) × (has_committed_next o a (has_committed o v.log) ≡ false)). inr (record { open_here = still; aged = aged; early = (id, view_after a v, set_at (run k es).views id v (view_after a v) valid.1.0, n.0, n.1) }))
          (early_act k es o v a valid.1.3 w not_yet))
          (λ ne. inr (record { open_here = still; aged = aged; early = (h.0, h.1, set_else (run k es).views id h.0 (view_after a v) ne ∙ h.2, h.3, h.4) }))

    pub opens_next : (e : Event) (es : List Event) → Valid k (e ∷ es) → Opening k es o t p x g → Commits e o ⊎ Opening k (e ∷ es) o t p x g
    opens_next (did id v a) es valid opened = opens_did es id v opened a valid
    opens_next (forked id v) es valid opened = inr (record {
      open_here = opened.open_here;
      aged = opened.aged;
      early = early_longer (set (run k es).views id (maker v)) (made v ∷ []) o (early_set (run k es).views o id (maker v) v valid.1.0 (λ w n. (w, n)) opened.early);
    })
    opens_next (sent id v given) es valid opened = inr (record {
      open_here = opened.open_here;
      aged = opened.aged;
      early = early_longer (set (run k es).views id (sender given v)) (note given v ∷ []) o (early_set (run k es).views o id (sender given v) v valid.1.0 (λ w n. (w, n)) opened.early);
    })
    opens_next (joined id v other w) es valid opened = inr (record {
      open_here = opened.open_here;
      aged = opened.aged;
      early = early_set (set (run k es).views id (both v w)) o other spent w (set_else (run k es).views id other (both v w) valid.1.1 ∙ valid.1.2)
          (λ mine n. off (sym (valid.1.5.0 o) ∙ writer_has k es valid.0 o other w valid.1.2 mine))
          (early_set (run k es).views o id (both v w) v valid.1.0 (λ w n. (w, n)) opened.early);
    })

    -- the commit, seen from later
    pub record Found (newer es : List Event) : Type 0 where
      pub later : List Event
      pub sooner : List Event
      pub h : ℕ
      pub u : View
      pub c : Call
      pub r : Reply
      pub f : ℕ
      pub s : Snap
      pub split : newer ≡ later ++ did h u (Commit c r f s) ∷ sooner
      pub opened : Opening k (sooner ++ es) o t p x g
      pub valid : Valid k (did h u (Commit c r f s) ∷ (sooner ++ es))
      pub writing : is_writing o u.log ≡ true

    pub opens_until : (newer es : List Event) → Valid k (newer ++ es) → Opening k es o t p x g → Found newer es ⊎ Opening k (newer ++ es) o t p x g
    opens_until [] es valid opened = inr opened
    opens_until (e ∷ newer) es valid opened =
        ⊎_elim
        (λ (y : Found newer es). inl (record {
          later = e ∷ y.later;
          sooner = y.sooner;
          h = y.h;
          u = y.u;
          c = y.c;
          r = y.r;
          f = y.f;
          s = y.s;
          split = ap (λ (l : List Event). e ∷ l) y.split;
          opened = y.opened;
          valid = y.valid;
          writing = y.writing;
        }))
        (λ (y : Opening k (newer ++ es) o t p x g).
        ⊎_elim
        (λ (c : Commits e o). inl (record {
          later = [];
          sooner = newer;
          h = c.0;
          u = c.1;
          c = c.2;
          r = c.3;
          f = c.4;
          s = c.5;
          split = ap (λ (z : Event). z ∷ newer) c.6;
          opened = y;
          valid = subst (λ (z : Event). Valid k (z ∷ (newer ++ es))) c.6 valid;
          writing = c.7;
        }))
        (λ (z : Opening k (e ∷ (newer ++ es)) o t p x g). inr z)
        (opens_next e (newer ++ es) valid y))
        (opens_until newer es valid.0 opened)

  -- the step that opens it
  pub opens_put : (es : List Event) (id : ℕ) (v : View) (i x : ℕ) → Valid k (did id v (PutTable o t i x) ∷ es) → i ≡ version_at (kind_in k.starts o) (class_of t) p → x % 2 ≡ 1 → Opening k (did id v (PutTable o t i x) ∷ es) o t p x (age es t)
  opens_put es id v i x valid e one =
      let may = valid.1.3 in
      let a : Act = PutTable o t i x in
      let V = version_at (kind_in k.starts o) (class_of t) p in
      let table = root_table k es valid.0 o low t may.4 in
      let ws = tab k es t in
      let long = table_long k t (run k es).words in
      let is = put_tab k es id v o t i x table may.2 in
      let new : slice_index (tab k (did id v a ∷ es) t) V ≡ x = ap (λ (z : List ℕ). slice_index z V) is ∙ (ap (λ (z : ℕ). slice_index (slice_set ws z x) V) e ∙ get_or-set_same ws V x 0 (subst (λ (z : ℕ). V < z) (sym long) (row_low (kind_in k.starts o) (class_of t) p table.0 small))) in
      record {
        open_here = (stays k es id v a may (block o 0) (low, omega arith) (λ e. absurd (cc)) ∙ may.4, new, one);
        aged = refl;
        early = (id, view_after a v, set_at (run k es).views id v (view_after a v) valid.1.0, may.3, may.6.before p small e one);
      }

pub opened_are_committed : OpenedAreCommitted
opened_are_committed k newer es id j v w o t i x p g valid small e one =
    let put = did id v (PutTable o t i x) ∷ es in
    let old : Valid k put = valid_rest k newer put valid.0 in
    let low : o < container_count k = valid.1.3.0 in
    let a = age es t in
    ⊎_elim
    (λ (found : Found k o t p low small x a newer put).
    let y = found.sooner ++ put in
    let same : changes found.c ≡ o = one_write k y found.valid.0 found.h found.u found.valid.1.0 (changes found.c) o found.valid.1.3.1 found.writing in
    let by = commits_change_the_opened k [] y found.h found.u found.c found.r found.f found.s found.valid t (ap (λ (z : ℕ). root k y z) same ∙ found.opened.open_here.0) in (
      found.later,
      found.sooner,
      found.h,
      found.u,
      found.c,
      found.r,
      found.f,
      found.s,
      found.split,
      (found.opened.open_here.0, ap (λ (z : ℕ). z % 2) found.opened.open_here.1 ∙ found.opened.open_here.2),
      found.writing,
      same,
      subst (λ (z : ℕ). OpensChangedBy k y z t found.c) same by,
    ))
    (λ (still : Opening k (newer ++ put) o t p x a).
    let is = writer_is k o t p low small x a (newer ++ put) j w still valid.0 valid.1.0 valid.1.3.1 in
    off (sym is.1 ∙ valid.1.3.2))
    (opens_until k o t p low small x a newer put valid.0 (opens_put k o t p low small es id v i x old e one))
