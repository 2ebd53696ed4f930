-- What stops a look-up of one key or index: the write for which the version was odd.
use Rattle.std.proofs.Common.{◌≡◌, ◌≢◌, ◌⊎◌, ℕ, suc, ◌+◌, ◌%◌, ◌<◌, true, List, [], ◌∷◌, ◌++◌, refl, sym, ap, ◌∙◌, subst, inl, inr, ⊎_elim, arith, get_or-set_other, get_or-set_same, append_assoc}
use Rattle.std.specs.Prelude.{slice_index, slice_set}
use mathlib.Core.Option.{some}
use mathlib.Core.Logic.{dite}
use native.Mathlib.Decide.{ℕ_discrete}
use lib.ListN.{get_elem?}
use Rattle.ft_model.specs.declared.call.Call.{Call}
use Rattle.ft_model.specs.declared.reply.Reply.{Reply}
use Rattle.ft_trace.specs.declared.Act.{Act}
use Rattle.ft_trace.specs.declared.Act.TheVariants.{Commit, PutRoot, PutTable, ReadTable}
use Rattle.ft_trace.specs.declared.Shape.{Shape}
use Rattle.ft_trace.specs.declared.Snap.{Snap}
use Rattle.ft_trace.specs.declared.View.{View}
use Rattle.ft_trace.specs.Acts.{is_writing, has_committed, view_after}
use Rattle.ft_trace.specs.Addresses.{IsTableName, cell, class_of, container_count, size}
use Rattle.ft_trace.specs.Ages.{age, whose}
use Rattle.ft_trace.specs.ContainerStates.{kind_in, changes}
use Rattle.ft_trace.specs.Kinds.{rows, version_at, LaterAs}
use Rattle.ft_trace.specs.OpenedEntries.{OpensChangedBy}
use Rattle.ft_trace.specs.StoppedLookUps.{Stopped, IsOpenAs, IsOpenMeanwhile, IsUncommitted, IsWritten}
use Rattle.ft_trace.specs.Traces.{Event, did, forked, joined, sent, run, CarefulFor, TimelyFor, Valid}
use Rattle.ft_trace.proofs.Addresses.{block_first}
use Rattle.ft_trace.proofs.Ages.{ages_one, ages_rise, whose_same}
use Rattle.ft_trace.proofs.ReadTables.{raw_careful_for}
use Rattle.ft_trace.proofs.ByKind.{as_version, row_low}
use Rattle.ft_trace.proofs.Contents.{tab}
use Rattle.ft_trace.proofs.EarlierMoments.{valid_rest}
use Rattle.ft_trace.proofs.HandedOver.{either_way}
use Rattle.ft_trace.proofs.OneWord.{moves, stays}
use Rattle.ft_trace.proofs.OneWrite.{one_write}
use Rattle.ft_trace.proofs.OpenedChange.{commits_change_the_opened}
use Rattle.ft_trace.proofs.OpenedCommits.{Commits, Found, Opening, opens_next, opens_until, same_age}
use Rattle.ft_trace.proofs.Pieces.{table_long, table_same}
use Rattle.ft_trace.proofs.Rule.{table_words_stay}
use Rattle.ft_trace.proofs.Sizes.{set_at}
use Rattle.ft_trace.proofs.Sounds.{content, on_cells, put_tab}
use Rattle.ft_trace.proofs.Spots.{Under, under_trans, Spot, Back, go, Opened, open_window, named_by, found}
use Rattle.ft_trace.proofs.TablePlaces.{root, on_root, root_table, placed}

-- ---- why a version is odd

-- a commit while the version was x, and the table has been where it is since
record Committed (k : Shape) (es : List Event) (o t p x : ℕ) : Type 0 where
  later : List Event
  sooner : List Event
  h : ℕ
  u : View
  c : Call
  r : Reply
  f : ℕ
  s : Snap
  split : es ≡ later ++ did h u (Commit c r f s) ∷ sooner
  open_here : IsOpenAs k sooner o t p x
  aged : age sooner t ≡ age es t
  valid : Valid k (did h u (Commit c r f s) ∷ sooner)
  writing : is_writing o u.log ≡ true

abbrev Why : Shape → List Event → ℕ → ℕ → ℕ → ℕ → Type 0
Why k es o t p x = Committed k es o t p x ⊎ Opening k es o t p x (age es t)

-- the commit, seen from any later moment: it is at an earlier or a later moment than m, with the table where it was
pub record NearCommit (k : Shape) (es m : List Event) (o t p x : ℕ) : Type 0 where
  pub later : List Event
  pub sooner : List Event
  pub h : ℕ
  pub u : View
  pub c : Call
  pub r : Reply
  pub f : ℕ
  pub s : Snap
  pub split : es ≡ later ++ did h u (Commit c r f s) ∷ sooner
  pub open_here : IsOpenAs k sooner o t p x
  pub aged : age sooner t ≡ age m t
  pub valid : Valid k (did h u (Commit c r f s) ∷ sooner)
  pub writing : is_writing o u.log ≡ true
  pub near : Under sooner m ⊎ Under m sooner

module _ (k : Shape) (o t p : ℕ) (low : o < container_count k) (small : p < rows (kind_in k.starts o) (class_of t)) where
  abbrev V : ℕ
  V = version_at (kind_in k.starts o) (class_of t) p

  abbrev ver : List Event → ℕ
  ver es = slice_index (tab k es t) V

  -- one more event that leaves the version
  step : (e : Event) (es : List Event) → Valid k (e ∷ es) → (x : ℕ) → IsOpenAs k es o t p x → IsOpenAs k (e ∷ es) o t p x → Why k es o t p x → Why k (e ∷ es) o t p x
  step e es valid x was now =
      let same : age es t ≡ age (e ∷ es) t = sym (same_age k e es valid o t low was.0 now.0) in
      ⊎_elim
      (λ (c : Committed k es o t p x). inl (record {
        later = e ∷ c.later;
        sooner = c.sooner;
        h = c.h;
        u = c.u;
        c = c.c;
        r = c.r;
        f = c.f;
        s = c.s;
        split = ap (λ (l : List Event). e ∷ l) c.split;
        open_here = c.open_here;
        aged = c.aged ∙ same;
        valid = c.valid;
        writing = c.writing;
      }))
      (λ (y : Opening k es o t p x (age es t)).
      ⊎_elim
      (λ (c : Commits e o). inl (record {
        later = [];
        sooner = es;
        h = c.0;
        u = c.1;
        c = c.2;
        r = c.3;
        f = c.4;
        s = c.5;
        split = ap (λ (z : Event). z ∷ es) c.6;
        open_here = was;
        aged = same;
        valid = subst (λ (z : Event). Valid k (z ∷ es)) c.6 valid;
        writing = c.7;
      }))
      (λ (n : Opening k (e ∷ es) o t p x (age es t)). inr (record { open_here = n.open_here; aged = refl; early = n.early }))
      (opens_next k o t p low small x (age es t) e es valid y))

  why : (es : List Event) → Valid k es → (x : ℕ) → IsOpenAs k es o t p x → Why k es o t p x
  why [] valid x now = let z : root k [] o ≡ 0 = block_first k o 0 low (omega arith) in let e = now.0 in absurd (omega (arith, z, e))
  why (did id v a ∷ es) valid x now =
      let F : Act → Type 0 = λ b. Valid k (did id v b ∷ es) → IsOpenAs k (did id v b ∷ es) o t p x → Why k (did id v b ∷ es) o t p x in
      on_root k es id v o low F
      (λ r old ok now.
      let A : Act = PutRoot o r old in
      let is : r ≡ suc t = sym (moves k es id v A ok.1.3) ∙ now.0 in
      either_way (has_committed o v.log)
      (λ done.
      let table = root_table k (did id v A ∷ es) ok o low t now.0 in
      let even = ok.1.3.9 t is done p small in
      let same = table_same k t (run k (did id v A ∷ es)).words (run k es).words (λ i low_i. stays k es id v A ok.1.3 (cell t i) (table, low_i) (λ e. absurd (cc))) in
      let x_is = now.1 in
      let one = now.2 in
      let was = ap (λ (z : List ℕ). slice_index z V) same in
      absurd (omega (arith, even, x_is, one, was)))
      (λ early. inr (record { open_here = now; aged = refl; early = (id, view_after A v, set_at (run k es).views id v (view_after A v) ok.1.0, ok.1.3.1, early) })))
      (λ b stay ok now.
      let names : root k es o ≡ suc t = sym (stay ok.1.3) ∙ now.0 in
      let table = root_table k es ok.0 o low t names in
      let G : Act → Type 0 = λ b. Valid k (did id v b ∷ es) → IsOpenAs k (did id v b ∷ es) o t p x → Why k (did id v b ∷ es) o t p x in
      on_cells k es id v t table G
      (λ q i y ok now.
      let A : Act = PutTable q t i y in
      let may = ok.1.3 in
      let its = placed k es ok.0 t table in
      let same : q ≡ o = sym (its.roots q may.0 may.4).1 ∙ (its.roots o low names).1 in
      let writing : is_writing o v.log ≡ true = subst (λ (z : ℕ). is_writing z v.log ≡ true) same may.3 in
      let timely : TimelyFor k o t i y (has_committed o v.log) = subst (λ (z : ℕ). TimelyFor k z t i y (has_committed z v.log)) same may.6 in
      let ws = tab k es t in
      let is = put_tab k es id v q t i y table may.2 in
      dite (ℕ_discrete i V)
      (λ (e : i ≡ V).
      let new : ver (did id v A ∷ es) ≡ y = ap (λ (z : List ℕ). slice_index z V) is ∙ (ap (λ (z : ℕ). slice_index (slice_set ws z y) V) e ∙ get_or-set_same ws V y 0 (subst (λ (z : ℕ). V < z) (sym (table_long k t (run k es).words)) (row_low (kind_in k.starts o) (class_of t) p table.0 small))) in
      let x_is = now.1 in
      let one = now.2 in
      let early = timely.before p small e (omega (arith, new, x_is, one)) in
      inr (record { open_here = now; aged = refl; early = (id, view_after A v, set_at (run k es).views id v (view_after A v) ok.1.0, writing, early) }))
      (λ ne.
      let was : IsOpenAs k es o t p x = (names, sym (ap (λ (z : List ℕ). slice_index z V) is ∙ get_or-set_other ws i V y 0 (λ e. ne (sym e))) ∙ now.1, now.2) in
      step (did id v A) es ok x was now (why es ok.0 x was)))
      (λ i y ok now. let one = ok.1.3.2 in let its = placed k es ok.0 t table in let a = (its.hands id v ok.1.0 (λ z. absurd (omega (arith, z, one)))).0 in let b = (its.roots o low names).0 in absurd (omega (arith, a, b, one)))
      (λ b same_by ok now.
      let was : IsOpenAs k es o t p x = (names, sym (ap (λ (z : List ℕ). slice_index z V) (same_by ok.1.3)) ∙ now.1, now.2) in
      step (did id v b) es ok x was now (why es ok.0 x was))
      b ok now)
      a valid now
  why (forked id v ∷ es) valid x now = step (forked id v) es valid x now now (why es valid.0 x now)
  why (sent id v given ∷ es) valid x now = step (sent id v given) es valid x now now (why es valid.0 x now)
  why (joined id v other w ∷ es) valid x now = step (joined id v other w) es valid x now now (why es valid.0 x now)

  -- what came of it by the end
  abbrev pub End : List Event → List Event → ℕ → Type 0
  End es m x = NearCommit k es m o t p x ⊎ IsUncommitted k es o t p x

  ending : (newer m : List Event) → Valid k (newer ++ m) → (x : ℕ) → IsOpenAs k m o t p x → End (newer ++ m) m x
  ending newer m valid x now =
      ⊎_elim
      (λ (c : Committed k m o t p x). inl (record {
        later = newer ++ c.later;
        sooner = c.sooner;
        h = c.h;
        u = c.u;
        c = c.c;
        r = c.r;
        f = c.f;
        s = c.s;
        split = ap (λ (l : List Event). newer ++ l) c.split ∙ sym (append_assoc newer c.later (did c.h c.u (Commit c.c c.r c.f c.s) ∷ c.sooner));
        open_here = c.open_here;
        aged = c.aged;
        valid = c.valid;
        writing = c.writing;
        near = inl (record { newer = c.later ++ did c.h c.u (Commit c.c c.r c.f c.s) ∷ []; is = append_assoc c.later (did c.h c.u (Commit c.c c.r c.f c.s) ∷ []) c.sooner ∙ sym c.split });
      }))
      (λ (y : Opening k m o t p x (age m t)).
      ⊎_elim
      (λ (c : Found k o t p low small x (age m t) newer m). inl (record {
        later = c.later;
        sooner = c.sooner ++ m;
        h = c.h;
        u = c.u;
        c = c.c;
        r = c.r;
        f = c.f;
        s = c.s;
        split = ap (λ (l : List Event). l ++ m) c.split ∙ append_assoc c.later (did c.h c.u (Commit c.c c.r c.f c.s) ∷ c.sooner) m;
        open_here = c.opened.open_here;
        aged = c.opened.aged;
        valid = c.valid;
        writing = c.writing;
        near = inr (record { newer = c.sooner; is = refl });
      }))
      (λ (z : Opening k (newer ++ m) o t p x (age m t)). inr (record {
        open_here = z.open_here;
        seat = z.early.0;
        view = z.early.1;
        at = z.early.2;
        writing = z.early.3;
        early = z.early.4;
      }))
      (opens_until k o t p low small x (age m t) newer m valid y))
      (why m (valid_rest k newer m valid) x now)

  pub ended : (es m : List Event) → Valid k es → Under m es → (x : ℕ) → IsOpenAs k m o t p x → End es m x
  ended es m valid u x now = subst (λ (l : List Event). End l m x) u.is (ending u.newer m (subst (Valid k) (sym u.is) valid) x now)

  -- ---- from one version to another

  -- one event leaves the version or makes it one more
  one_step : (e : Event) (es : List Event) → Valid k (e ∷ es) → IsTableName k t → age es t % 5 ≡ 2 → whose es t ≡ o → (ver (e ∷ es) ≡ ver es) ⊎ (ver (e ∷ es) ≡ ver es + 1)
  one_step (did id v a) es valid table two whom =
      let G : Act → Type 0 = λ b. Valid k (did id v b ∷ es) → (ver (did id v b ∷ es) ≡ ver es) ⊎ (ver (did id v b ∷ es) ≡ ver es + 1) in
      on_cells k es id v t table G
      (λ q i y ok.
      let may = ok.1.3 in
      let its = placed k es ok.0 t table in
      let same : q ≡ o = sym (its.roots q may.0 may.4).1 ∙ whom in
      let care = subst (λ (z : ℕ). CarefulFor k (run k es).words z t (content k es z) i y) same may.5 in
      let ws = tab k es t in
      let is = put_tab k es id v q t i y table may.2 in
      dite (ℕ_discrete i V)
      (λ (e : i ≡ V).
      let new : ver (did id v (PutTable q t i y) ∷ es) ≡ y = ap (λ (z : List ℕ). slice_index z V) is ∙ (ap (λ (z : ℕ). slice_index (slice_set ws z y) V) e ∙ get_or-set_same ws V y 0 (subst (λ (z : ℕ). V < z) (sym (table_long k t (run k es).words)) (row_low (kind_in k.starts o) (class_of t) p table.0 small))) in
      inr (new ∙ as_version (kind_in k.starts o) (class_of t) ws i y (raw_careful_for k es o t (content k es o) i y care) p small e))
      (λ ne. inl (ap (λ (z : List ℕ). slice_index z V) is ∙ get_or-set_other ws i V y 0 (λ e. ne (sym e)))))
      (λ i y ok. let one = ok.1.3.2 in let its = placed k es ok.0 t table in let a = (its.hands id v ok.1.0 (λ z. absurd (omega (arith, z, one)))).0 in absurd (omega (arith, a, two, one)))
      (λ b same_by ok. inl (ap (λ (z : List ℕ). slice_index z V) (same_by ok.1.3)))
      a valid
  one_step (forked id v) es valid table two whom = inl refl
  one_step (sent id v given) es valid table two whom = inl refl
  one_step (joined id v other w) es valid table two whom = inl refl

  record Rise (newer older : List Event) : Type 0 where
    upper : List Event
    lower : List Event
    split : newer ≡ upper ++ lower
    x : ℕ
    open_here : IsOpenAs k (lower ++ older) o t p x
    aged : age (lower ++ older) t ≡ age older t

  -- from an even version to another it was odd
  rise : (newer older : List Event) → Valid k (newer ++ older) → IsTableName k t → age older t % 5 ≡ 2 → whose older t ≡ o → age (newer ++ older) t ≡ age older t → ver older % 2 ≡ 0 → ver (newer ++ older) ≢ ver older → Rise newer older
  rise [] older valid table two whom same even ne = absurd (ne refl)
  rise (e ∷ newer) older valid table two whom same even ne =
      let a = ages_rise newer older t in
      let b = (ages_one e (newer ++ older) t).up in
      let here : age (newer ++ older) t ≡ age older t = omega (arith, a, b, same) in
      let before : Valid k (newer ++ older) = valid_rest k (e ∷ []) (newer ++ older) valid in
      dite (ℕ_discrete (ver (newer ++ older)) (ver older))
      (λ (e' : ver (newer ++ older) ≡ ver older).
      ⊎_elim
      (λ (l : ver (e ∷ (newer ++ older)) ≡ ver (newer ++ older)). absurd (ne (l ∙ e')))
      (λ (l : ver (e ∷ (newer ++ older)) ≡ ver (newer ++ older) + 1). record {
        upper = [];
        lower = e ∷ newer;
        split = refl;
        x = ver (e ∷ (newer ++ older));
        open_here = (named_by k (e ∷ (newer ++ older)) valid o t table (ap (λ (z : ℕ). z % 5) same ∙ two) (whose_same (e ∷ newer) older t same ∙ whom), refl, omega (arith, l, e', even));
        aged = same;
      })
      (one_step e (newer ++ older) valid table (ap (λ (z : ℕ). z % 5) here ∙ two) (whose_same newer older t here ∙ whom)))
      (λ ne'.
      let r = rise newer older before table two whom here even ne' in
      record { upper = e ∷ r.upper; lower = r.lower; split = ap (λ (l : List Event). e ∷ l) r.split; x = r.x; open_here = r.open_here; aged = r.aged })

  -- what stays of the table from an earlier moment on
  pub later_on : (older m : List Event) → Valid k m → Under older m → root k older o ≡ suc t → age older t ≡ age m t → LaterAs (kind_in k.starts o) (class_of t) (tab k older t) (tab k m t)
  later_on older m valid u names same = subst (λ (l : List Event). LaterAs (kind_in k.starts o) (class_of t) (tab k older t) (tab k l t)) u.is (table_words_stay k u.newer older (subst (Valid k) (sym u.is) valid) o low t names (ap (λ (l : List Event). age l t) u.is ∙ sym same))

  -- ---- the look-up

  module _ (es : List Event) (valid : Valid k es) (a b j : ℕ) (u : View) (at : get_elem? (run k es).views j ≡ some u) (s : Stopped k u.log o t p a b) where
    abbrev start : List Act
    start = s.window.rest

    abbrev load : Act
    load = ReadTable t V a

    pub open_ : Opened k es o t j start s.walk
    open_ = open_window k es valid j u at o t low s.walk s.window

    pub back : (walk : List Act) (spot : Spot k t j start walk) (xs : List Act) (c : Act) (rest : List Act) → walk ≡ xs ++ c ∷ rest → Back k t j start spot.es c rest
    back walk spot xs c rest is = go k t j start walk open_.table s.window.before spot xs c rest is

    pub second : Back k t j start open_.spot.es (ReadTable t V b) (s.mid ++ load ∷ s.rest)
    second = back s.walk open_.spot s.newer (ReadTable t V b) (s.mid ++ load ∷ s.rest) s.is

    pub first : Back k t j start second.spot.es load s.rest
    first = back (s.mid ++ load ∷ s.rest) second.spot s.mid load s.rest refl

    abbrev pub E1 : List Event
    E1 = first.spot.es

    -- a read before the first load
    pub read_back : (xs : List Act) (c : Act) (rest : List Act) → s.rest ≡ xs ++ c ∷ rest → Back k t j start E1 c rest
    read_back xs c rest is = back s.rest first.spot xs c rest is

    abbrev pub E2 : List Event
    E2 = second.spot.es

    pub whom1 : whose E1 t ≡ o
    whom1 = first.whom ∙ (second.whom ∙ open_.whom)

    pub names1 : root k E1 o ≡ suc t
    names1 = named_by k E1 first.spot.valid o t open_.table first.spot.now whom1

    inside : V < size (class_of t)
    inside = row_low (kind_in k.starts o) (class_of t) p open_.table.0 small

    gave1 : a ≡ ver E1
    gave1 = found k t j V a start s.rest E2 inside first

    gave2 : b ≡ ver E2
    gave2 = found k t j V b start (s.mid ++ load ∷ s.rest) open_.spot.es inside second

    -- the moment at which it was odd
    pub record Meanwhile : Type 0 where
      pub upper : List Event
      pub lower : List Event
      pub join : upper ++ (lower ++ E1) ≡ E2
      pub x : ℕ
      pub open_here : IsOpenAs k (lower ++ E1) o t p x
      pub aged : age (lower ++ E1) t ≡ age E1 t

    at_once : a % 2 ≢ 0 → Meanwhile
    at_once odd = let g = gave1 in record { upper = first.under.newer; lower = []; join = first.under.is; x = a; open_here = (names1, sym g, omega (arith, odd)); aged = refl }

    pub meanwhile : Meanwhile
    meanwhile =
        ⊎_elim at_once
        (λ (differ : b ≢ a).
        dite (ℕ_discrete (a % 2) 0)
        (λ (even : a % 2 ≡ 0).
        let g1 = gave1 in
        let g2 = gave2 in
        let u = first.under in
        let r = rise u.newer E1 (subst (Valid k) (sym u.is) second.spot.valid) open_.table first.spot.now whom1 (ap (λ (l : List Event). age l t) u.is ∙ sym first.same) (ap (λ (z : ℕ). z % 2) (sym g1) ∙ even) (λ e. differ (g2 ∙ (ap ver (sym u.is) ∙ (e ∙ sym g1)))) in
        record { upper = r.upper; lower = r.lower; join = sym (append_assoc r.upper r.lower E1) ∙ (ap (λ (l : List Event). l ++ E1) (sym r.split) ∙ u.is); x = r.x; open_here = r.open_here; aged = r.aged })
        (λ odd. at_once odd))
        s.moved

    abbrev pub M : List Event
    M = meanwhile.lower ++ E1

    below : Under E2 es
    below = under_trans E2 open_.spot.es es second.under open_.under

    pub under_end : Under M es
    under_end = under_trans M E2 es (record { newer = meanwhile.upper; is = meanwhile.join }) below

    pub valid_then : Valid k M
    valid_then = valid_rest k meanwhile.upper M (subst (Valid k) (sym meanwhile.join) second.spot.valid)

    pub under_then : Under E1 M
    under_then = record { newer = meanwhile.lower; is = refl }

    pub is_meanwhile : IsOpenMeanwhile k es j o t p a meanwhile.x s.mid (s.rest ++ start)
    is_meanwhile = record {
      later = below.newer;
      upper = meanwhile.upper;
      lower = meanwhile.lower;
      first = E1;
      is = sym (ap (λ (l : List Event). below.newer ++ l) meanwhile.join ∙ below.is);
      one = first.spot.view;
      two = second.spot.view;
      at_first = (first.spot.at, first.spot.log);
      at_second = (
        subst (λ (l : List Event). get_elem? (run k l).views j ≡ some second.spot.view) (sym meanwhile.join) second.spot.at,
        second.spot.log ∙ append_assoc s.mid (load ∷ s.rest) start,
      );
      open_here = meanwhile.open_here;
    }

    -- the write, where its commits change what they should
    pub is_written : (Changes : List Event → Call → Type 0) → ((n : NearCommit k es M o t p meanwhile.x) → changes n.c ≡ o → OpensChangedBy k n.sooner o t n.c → Changes n.sooner n.c) → IsWritten k es o t p meanwhile.x Changes
    is_written Changes does =
        ⊎_elim
        (λ (n : NearCommit k es M o t p meanwhile.x).
        let same : changes n.c ≡ o = one_write k n.sooner n.valid.0 n.h n.u n.valid.1.0 (changes n.c) o n.valid.1.3.1 n.writing in
        let by = commits_change_the_opened k [] n.sooner n.h n.u n.c n.r n.f n.s n.valid t (ap (root k n.sooner) same ∙ n.open_here.0) in
        inl (record {
          later = n.later;
          sooner = n.sooner;
          seat = n.h;
          view = n.u;
          call = n.c;
          reply = n.r;
          number = n.f;
          snap = n.s;
          is = n.split;
          open_here = n.open_here;
          writing = n.writing;
          changes_container = same;
          change = does n same (subst (λ (z : ℕ). OpensChangedBy k n.sooner z t n.c) same by);
        }))
        (λ (rest : IsUncommitted k es o t p meanwhile.x). inr rest)
        (ended es M valid under_end meanwhile.x meanwhile.open_here)
