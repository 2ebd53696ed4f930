-- The version of an entry of a current table has room: it is at most twice the counter, plus 1 while its write has not committed.
use Rattle.std.proofs.Common.{◌≡◌, ◌≢◌, ◌⊎◌, ℕ, suc, eqb, ◌+◌, ◌*◌, ◌%◌, ◌<◌, ◌≤◌, true, false, true≢false, cond, List, [], ◌∷◌, length, refl, sym, ap, ◌∙◌, subst, inl, inr, ⊎_elim, arith, get_or-set_other, get_or-set_same}
use Rattle.std.specs.Prelude.{slice_index, slice_set}
use mathlib.Core.Option.{some}
use mathlib.Core.Logic.{dite}
use native.Mathlib.Decide.{ℕ_discrete}
use lib.ListN.{get_elem?}
use Rattle.ft_model.specs.declared.call.Call.{Call}
use Rattle.ft_trace.specs.declared.Shape.{Shape}
use Rattle.ft_trace.specs.declared.View.{View}
use Rattle.ft_trace.specs.declared.Act.{Act}
use Rattle.ft_trace.specs.declared.Act.TheVariants.{PutRoot, PutTable, Commit, StartWrite, StopWrite}
use Rattle.ft_trace.specs.Addresses.{counter, cell, class_of}
use Rattle.ft_trace.specs.Acts.{is_writing, is_writing_next, has_committed, has_committed_next, view_after, maker, made, both, spent, sender, note}
use Rattle.ft_trace.specs.ContainerStates.{kind_in}
use Rattle.ft_trace.specs.Kinds.{rows, version_at}
use Rattle.ft_trace.specs.Addresses.{container_count}
use Rattle.ft_trace.proofs.ReadTables.{raw_careful_for}
use Rattle.ft_trace.proofs.ByKind.{as_version, row_low}
use Rattle.ft_trace.specs.Traces.{Event, did, forked, joined, sent, run, writes_of, history, CarefulFor, TimelyFor, Valid}
use Rattle.ft_trace.proofs.Sizes.{set_views, one_more}
use Rattle.ft_trace.proofs.Cases.{hit, miss, off, same_or}
use Rattle.ft_trace.proofs.Addresses.{block_first}
use Rattle.ft_trace.proofs.OneWord.{stays, moves}
use Rattle.ft_trace.proofs.Pieces.{table_same, table_long}
use Rattle.ft_trace.proofs.Locks.{one_holder}
use Rattle.ft_trace.proofs.OddVersions.{writer_has}
use Rattle.ft_trace.proofs.TablePlaces.{root, on_root, root_table, placed}
use Rattle.ft_trace.proofs.Contents.{count, counted, tab}
use Rattle.ft_trace.proofs.Stamps.{grows_by}
use Rattle.ft_trace.proofs.Sounds.{content, on_cells, put_tab}
use Rattle.ft_trace.proofs.NoWrap.{counter_room}

abbrev V : Shape → ℕ → ℕ → ℕ → ℕ
V k o t p = version_at (kind_in k.starts o) (class_of t) p

abbrev R : Shape → ℕ → ℕ → ℕ
R k o t = rows (kind_in k.starts o) (class_of t)

-- what holds of the versions, as far as the pass that writes o has come
pub record Lows (k : Shape) (es : List Event) (o t : ℕ) : Type 0 where
  pub even : (p : ℕ) → p < R k o t → slice_index (tab k es t) (V k o t p) % 2 ≡ 0 → slice_index (tab k es t) (V k o t p) ≤ 2 * count k es
  pub odd : (p : ℕ) → p < R k o t → slice_index (tab k es t) (V k o t p) ≤ 2 * count k es + 1
  pub written : (j : ℕ) (u : View) → get_elem? (run k es).views j ≡ some u → is_writing o u.log ≡ true → has_committed o u.log ≡ true → (p : ℕ) → p < R k o t → slice_index (tab k es t) (V k o t p) ≤ 2 * count k es

-- a pass that has just committed or is as far as before
come : (o : ℕ) (b : Act) (v : View) → is_writing_next o b (is_writing o v.log) ≡ true → has_committed_next o b (has_committed o v.log) ≡ true → ((is_writing o v.log ≡ true) × (has_committed o v.log ≡ true)) ⊎ ((cs : List Call) → length (writes_of b cs) ≡ suc (length cs))
come o (Commit c r f s) v w d = inr (λ cs. refl)
come o (StartWrite p f) v w d =
    same_or (λ (z : ℕ). cond (eqb z o) true (is_writing o v.log) ≡ true → cond (eqb z o) false (has_committed o v.log) ≡ true → ((is_writing o v.log ≡ true) × (has_committed o v.log ≡ true)) ⊎ ((cs : List Call) → length (writes_of (StartWrite z f) cs) ≡ suc (length cs))) p o
    (λ _ d. off (sym (hit o false (has_committed o v.log)) ∙ d)) (λ ne w d. inl (sym (miss p o true (is_writing o v.log) ne) ∙ w, sym (miss p o false (has_committed o v.log) ne) ∙ d)) w d
come o (StopWrite p f) v w d =
    same_or (λ (z : ℕ). cond (eqb z o) false (is_writing o v.log) ≡ true → ((is_writing o v.log ≡ true) × (has_committed o v.log ≡ true)) ⊎ ((cs : List Call) → length (writes_of (StopWrite z f) cs) ≡ suc (length cs))) p o
    (λ w. off (sym (hit o false (is_writing o v.log)) ∙ w)) (λ ne w. inl (sym (miss p o false (is_writing o v.log) ne) ∙ w, d)) w
come o act v w d = inl (w, d)

pub lows : (k : Shape) (es : List Event) → Valid k es → (o : ℕ) → o < container_count k → (t : ℕ) → root k es o ≡ suc t → Lows k es o t
lows k [] valid o low t e = let z : root k [] o ≡ 0 = block_first k o 0 low (omega arith) in absurd (omega (arith, z, e))
lows k (did id v a ∷ es) valid o low t e =
    let table = root_table k (did id v a ∷ es) valid o low t e in
    let C = count k es in
    let C' : Act → ℕ = λ b. count k (did id v b ∷ es) in
    let up : (b : Act) → Valid k (did id v b ∷ es) → C ≤ C' b = λ b ok. let x = counted k (did id v b ∷ es) ok in let y = counted k es ok.0 in let z = grows_by b (history es) in omega arith in
    let F : Act → Type 0 = λ b. Valid k (did id v b ∷ es) → root k (did id v b ∷ es) o ≡ suc t → Lows k (did id v b ∷ es) o t in
    -- no other pass writes o
    let alone : (j : ℕ) (u : View) → j ≢ id → get_elem? (run k es).views j ≡ some u → is_writing o v.log ≡ true → is_writing o u.log ≡ true → ⊥ = λ j u ne at mine theirs. ne (one_holder k es valid.0 o low j id u v at valid.1.0 (writer_has k es valid.0 o j u at theirs) (writer_has k es valid.0 o id v valid.1.0 mine)) in
    on_root k es id v o low F
    (λ r old ok now.
    let A : Act = PutRoot o r old in
    let is : r ≡ suc t = sym (moves k es id v A ok.1.3) ∙ now in
    let same = table_same k t (run k (did id v A ∷ es)).words (run k es).words (λ i small. stays k es id v A ok.1.3 (cell t i) (table, small) (λ e. absurd (cc))) in
    let c = stays k es id v A ok.1.3 counter tt (λ e. absurd (cc)) in
    let l = ok.1.3.6 t is in
    let at : (p : ℕ) → slice_index (tab k (did id v A ∷ es) t) (V k o t p) ≡ slice_index (tab k es t) (V k o t p) = λ p. ap (λ (z : List ℕ). slice_index z (V k o t p)) same in
    record {
      even = λ p less two. let s = at p in let h = l.even p less (ap (λ (z : ℕ). z % 2) (sym s) ∙ two) in omega (arith, s, h, c);
      odd = λ p less. let s = at p in let h = l.odd p less in omega (arith, s, h, c);
      written = set_views (λ j u. is_writing o u.log ≡ true → has_committed o u.log ≡ true → (p : ℕ) → p < R k o t → slice_index (tab k (did id v A ∷ es) t) (V k o t p) ≤ 2 * C' A) _ id (view_after A v)
          (λ _ d p less. let s = at p in let h = l.written d p less in omega (arith, s, h, c))
          (λ j u ne at w. absurd (alone j u ne at ok.1.3.1 w));
    })
    (λ b stay ok now.
    let names : root k es o ≡ suc t = sym (stay ok.1.3) ∙ now in
    let old = lows k es ok.0 o low t names in
    let G : Act → Type 0 = λ b. Valid k (did id v b ∷ es) → Lows k (did id v b ∷ es) o t in
    on_cells k es id v t table G
    (λ q i x ok.
    let A : Act = PutTable q t i x in
    let may = ok.1.3 in
    let its = placed k es ok.0 t table in
    let same : q ≡ o = sym (its.roots q may.0 may.4).1 ∙ (its.roots o low names).1 in
    let writing : is_writing o v.log ≡ true = subst (λ (z : ℕ). is_writing z v.log ≡ true) same may.3 in
    let timely : TimelyFor k o t i x (has_committed o v.log) = subst (λ (z : ℕ). TimelyFor k z t i x (has_committed z v.log)) same may.6 in
    let care = subst (λ (z : ℕ). CarefulFor k (run k es).words z t (content k es z) i x) same may.5 in
    let c = stays k es id v A may counter tt (λ e. absurd (cc)) in
    let ws = tab k es t in
    let zs = tab k (did id v A ∷ es) t in
    let is : zs ≡ slice_set ws i x = put_tab k es id v q t i x table may.2 in
    let long = table_long k t (run k es).words in
    let else : (p : ℕ) → i ≢ V k o t p → slice_index zs (V k o t p) ≡ slice_index ws (V k o t p) = λ p ne. ap (λ (z : List ℕ). slice_index z (V k o t p)) is ∙ get_or-set_other ws i (V k o t p) x 0 (λ e. ne (sym e)) in
    let there : (p : ℕ) → p < R k o t → i ≡ V k o t p → (slice_index zs (V k o t p) ≡ x) × (x ≡ slice_index ws (V k o t p) + 1) = λ p less e. (ap (λ (z : List ℕ). slice_index z (V k o t p)) is ∙ (ap (λ (z : ℕ). slice_index (slice_set ws z x) (V k o t p)) e ∙ get_or-set_same ws (V k o t p) x 0 (subst (λ (z : ℕ). V k o t p < z) (sym long) (row_low (kind_in k.starts o) (class_of t) p table.0 less))), as_version (kind_in k.starts o) (class_of t) ws i x (raw_careful_for k es o t (content k es o) i x care) p less e) in
    record {
      even = λ p less two.
          dite (ℕ_discrete i (V k o t p))
          (λ (e : i ≡ V k o t p).
          let h = there p less e in
          let h0 = h.0 in
          let h1 = h.1 in
          let d = timely.later p less e (ap (λ (z : ℕ). z % 2) (sym h0) ∙ two) in
          let b = old.written id v ok.1.0 writing d p less in
          omega (arith, h0, h1, b, c, two))
          (λ ne. let s = else p ne in let h = old.even p less (ap (λ (z : ℕ). z % 2) (sym s) ∙ two) in omega (arith, s, h, c));
      odd = λ p less.
          dite (ℕ_discrete i (V k o t p))
          (λ (e : i ≡ V k o t p).
          let h = there p less e in
          let h0 = h.0 in
          let h1 = h.1 in
          dite (ℕ_discrete (x % 2) 0)
          (λ (two : x % 2 ≡ 0). let b = old.written id v ok.1.0 writing (timely.later p less e two) p less in omega (arith, h0, h1, b, c))
          (λ one. let b = old.even p less (omega (arith, h1, one)) in omega (arith, h0, h1, b, c)))
          (λ ne. let s = else p ne in let h = old.odd p less in omega (arith, s, h, c));
      written = set_views (λ j u. is_writing o u.log ≡ true → has_committed o u.log ≡ true → (p : ℕ) → p < R k o t → slice_index zs (V k o t p) ≤ 2 * C' A) _ id (view_after A v)
          (λ w d p less.
          let b = old.written id v ok.1.0 w d p less in
          dite (ℕ_discrete i (V k o t p))
          (λ (e : i ≡ V k o t p).
          let h = there p less e in
          let h0 = h.0 in
          let h1 = h.1 in
          let two : x % 2 ≡ 0 = dite (ℕ_discrete (x % 2) 0) (λ z. z) (λ one. absurd (true≢false (sym d ∙ timely.before p less e (omega (arith, one))))) in
          omega (arith, h0, h1, b, c, two))
          (λ ne. let s = else p ne in omega (arith, s, b, c)))
          (λ j u ne at w. absurd (alone j u ne at writing w));
    })
    (λ i x ok. let one = ok.1.3.2 in let its = placed k es ok.0 t table in let a = (its.hands id v ok.1.0 (λ z. absurd (omega (arith, z, one)))).0 in let b = (its.roots o low names).0 in absurd (omega (arith, a, b, one)))
    (λ b same_by ok.
    let same = same_by ok.1.3 in
    let at : (p : ℕ) → slice_index (tab k (did id v b ∷ es) t) (V k o t p) ≡ slice_index (tab k es t) (V k o t p) = λ p. ap (λ (z : List ℕ). slice_index z (V k o t p)) same in
    let c = up b ok in
    record {
      even = λ p less two. let s = at p in let h = old.even p less (ap (λ (z : ℕ). z % 2) (sym s) ∙ two) in omega (arith, s, h, c);
      odd = λ p less. let s = at p in let h = old.odd p less in omega (arith, s, h, c);
      written = set_views (λ j u. is_writing o u.log ≡ true → has_committed o u.log ≡ true → (p : ℕ) → p < R k o t → slice_index (tab k (did id v b ∷ es) t) (V k o t p) ≤ 2 * C' b) _ id (view_after b v)
          (λ w d p less.
          let s = at p in
          ⊎_elim
          (λ (x : (is_writing o v.log ≡ true) × (has_committed o v.log ≡ true)). let h = old.written id v ok.1.0 x.0 x.1 p less in omega (arith, s, h, c))
          (λ (x : (cs : List Call) → length (writes_of b cs) ≡ suc (length cs)). let h = old.odd p less in let y = counted k (did id v b ∷ es) ok in let z = counted k es ok.0 in let l = x (history es) in omega (arith, s, h, y, z, l))
          (come o b v w d))
          (λ j u ne there w d p less. let s = at p in let h = old.written j u there w d p less in omega (arith, s, h, c));
    })
    b ok)
    a valid e
lows k (forked id v ∷ es) valid o low t e =
    let old = lows k es valid.0 o low t e in
    let W : ℕ → View → Type 0 = λ j u. is_writing o u.log ≡ true → has_committed o u.log ≡ true → (p : ℕ) → p < R k o t → slice_index (tab k es t) (V k o t p) ≤ 2 * count k es in
    record { even = old.even; odd = old.odd; written = one_more W _ (made v) (λ no. off no) (set_views W _ id (maker v) (old.written id v valid.1.0) (λ j u _ at. old.written j u at)) }
lows k (sent id v given ∷ es) valid o low t e =
    let old = lows k es valid.0 o low t e in
    let W : ℕ → View → Type 0 = λ j u. is_writing o u.log ≡ true → has_committed o u.log ≡ true → (p : ℕ) → p < R k o t → slice_index (tab k es t) (V k o t p) ≤ 2 * count k es in
    record { even = old.even; odd = old.odd; written = one_more W _ (note given v) (λ no. off no) (set_views W _ id (sender given v) (old.written id v valid.1.0) (λ j u _ at. old.written j u at)) }
lows k (joined id v other w ∷ es) valid o low t e =
    let old = lows k es valid.0 o low t e in
    let W : ℕ → View → Type 0 = λ j u. is_writing o u.log ≡ true → has_committed o u.log ≡ true → (p : ℕ) → p < R k o t → slice_index (tab k es t) (V k o t p) ≤ 2 * count k es in
    record { even = old.even; odd = old.odd; written = set_views W _ other spent (λ no. off no) (λ j u _. set_views W _ id (both v w) (old.written id v valid.1.0) (λ j u _ at. old.written j u at) j u) }

-- an entry's version has room for two steps
pub entry_room : (k : Shape) (es : List Event) → Valid k es → (o : ℕ) → o < container_count k → (t : ℕ) → root k es o ≡ suc t → (p : ℕ) → p < R k o t → slice_index (tab k es t) (V k o t p) ≤ 2 * (k.passes * k.calls) + 1
entry_room k es valid o low t names p less = let a = (lows k es valid o low t names).odd p less in let b = counter_room k es valid in omega (arith, a, b)
