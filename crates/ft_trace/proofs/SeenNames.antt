-- A box whose name was read in a container was stored by a write of its maker.
use Rattle.std.proofs.Common.{◌≡◌, ℕ, suc, ◌+◌, ◌%◌, ◌<◌, ◌≤◌, true, List, [], ◌∷◌, ◌++◌, refl, sym, ap, ◌∙◌, subst, ⊎_elim, arith, append_assoc}
use Rattle.std.specs.Prelude.{slice_index}
use mathlib.Core.Option.{some}
use lib.ListN.{get_elem?}
use Rattle.ft_model.specs.declared.script.Kind.{Kind}
use Rattle.ft_trace.specs.declared.Shape.{Shape}
use Rattle.ft_trace.specs.declared.View.{View}
use Rattle.ft_trace.specs.declared.Act.{Act}
use Rattle.ft_trace.specs.declared.Act.TheVariants.{ReadRoot, ReadTable, Version}
use Rattle.ft_trace.specs.Addresses.{cell, class_of, size, IsTableName}
use Rattle.ft_trace.specs.Acts.{reads, starter, view_after, maker, made, both, spent, sender, note}
use Rattle.ft_trace.specs.Ages.{age, seen}
use Rattle.ft_trace.specs.ContainerStates.{kind_in}
use Rattle.ft_trace.specs.Pictures.{root_in, inner}
use Rattle.ft_trace.specs.Kinds.{rows, version_at}
use Rattle.ft_trace.specs.Boxes.{value_at}
use Rattle.ft_trace.specs.BoxTraces.{was_stored}
use Rattle.ft_trace.specs.LoggedLookUps.{Online}
use Rattle.ft_trace.specs.LoggedReads.{Among}
use Rattle.ft_trace.specs.SeenBoxes.{SawInRow, SawInContainer, SawBox}
use Rattle.ft_trace.specs.Traces.{Event, did, forked, joined, sent, run, word, Valid}
use Rattle.ft_trace.proofs.Ages.{ages_one, ages_rise, within}
use Rattle.ft_trace.proofs.Cases.{here, off}
use Rattle.ft_trace.proofs.Contents.{tab}
use Rattle.ft_trace.proofs.EarlierMoments.{Was, was, still_reads, online_one, online_rest, online_after, online_before}
use Rattle.ft_trace.proofs.FoundTables.{safe}
use Rattle.ft_trace.proofs.OddVersions.{versioned}
use Rattle.ft_trace.proofs.Optimistic.{top, now, even_now, shown, agrees}
use Rattle.ft_trace.proofs.Pieces.{block_at, table_at}
use Rattle.ft_trace.proofs.QuietEntries.{SameRow}
use Rattle.ft_trace.proofs.Sizes.{set_views, one_more, one_view}
use Rattle.ft_trace.proofs.StoredBoxes.{Before, Stored, Writes, home, home_keeps, home_root, row_names, row_step, same_row, upto, either_true, stored_start, stored_next, stored_fork, stored_sent, stored_join}
use Rattle.ft_trace.proofs.TablePlaces.{root, root_table}

-- ---- the container whose root the pass read

-- it had read the root before these, and announced nothing since
reads_root : (o t : ℕ) (xs rest : List Act) → Online xs → reads t (xs ++ ReadRoot o (suc t) ∷ rest) ≡ true
reads_root o t xs rest on = still_reads t xs (ReadRoot o (suc t) ∷ rest) on (here (suc t) (suc t) true (reads t rest) refl)

read_table : (k : Shape) (es : List Event) → Valid k es → (j : ℕ) (u : View) → get_elem? (run k es).views j ≡ some u → (o t : ℕ) (xs rest : List Act) → u.log ≡ xs ++ ReadRoot o (suc t) ∷ rest → IsTableName k t
read_table k es valid j u at o t xs rest is =
    let w = was k es valid j u at xs (ReadRoot o (suc t)) rest is in
    root_table k w.older w.valid o (w.may tt).0 t (sym w.tells)

abbrev ReadsHome : List Event → ℕ → View → Type 0
ReadsHome es j u = (o t : ℕ) (xs rest : List Act) → u.log ≡ xs ++ ReadRoot o (suc t) ∷ rest → Online xs → home es t ≡ o

no_read : (es : List Event) (j : ℕ) (u : View) → u.log ≡ [] → ReadsHome es j u
no_read es j u silent o t [] rest is on = absurd (cc)
no_read es j u silent o t (x ∷ xs) rest is on = absurd (cc)

home_still : (k : Shape) (es : List Event) (id : ℕ) (v : View) (a : Act) → Valid k (did id v a ∷ es) → (j : ℕ) (u : View) → get_elem? (run k es).views j ≡ some u → ReadsHome es j u → ReadsHome (did id v a ∷ es) j u
home_still k es id v a valid j u at old o t xs rest is on =
    let table = read_table k es valid.0 j u at o t xs rest is in
    let up = ((safe k es valid.0 t table j u at).read_is (ap (reads t) is ∙ reads_root o t xs rest on)).0 in
    home_keeps k es id v valid.0 valid.1.0 t table up a valid.1.3 ∙ old o t xs rest is on

home_mine : (k : Shape) (es : List Event) (id : ℕ) (v : View) (a : Act) → Valid k (did id v a ∷ es) → ReadsHome es id v → ReadsHome (did id v a ∷ es) id (view_after a v)
home_mine k es id v a valid old o t [] rest is on =
    let same : a ≡ ReadRoot o (suc t) = cc in
    let ok = subst (λ (c : Act). Valid k (did id v c ∷ es)) same valid in
    subst (λ (c : Act). home (did id v c ∷ es) t ≡ o) (sym same) (home_root k es valid.0 o t ok.1.3.0 (sym ok.1.2))
home_mine k es id v a valid old o t (x ∷ xs) rest is on =
    let log : v.log ≡ xs ++ ReadRoot o (suc t) ∷ rest = cc in
    home_still k es id v a valid id v valid.1.0 old o t xs rest log (online_rest x xs on)

home_joined : (es : List Event) (id : ℕ) (v other : View) → ReadsHome es id v → ReadsHome es id (both v other)
home_joined es id v other old o t [] rest is on = absurd (cc)
home_joined es id v other old o t (x ∷ xs) rest is on = old o t xs rest (cc) (online_rest x xs on)

reads_home : (k : Shape) (es : List Event) → Valid k es → (j : ℕ) (u : View) → get_elem? (run k es).views j ≡ some u → ReadsHome es j u
reads_home k [] valid = one_view (ReadsHome []) (starter k) (no_read [] 0 (starter k) refl)
reads_home k (did id v a ∷ es) valid =
    let old = reads_home k es valid.0 in
    set_views (ReadsHome (did id v a ∷ es)) _ id (view_after a v) (home_mine k es id v a valid (old id v valid.1.0)) (λ j u _ e. home_still k es id v a valid j u e (old j u e))
reads_home k (forked id v ∷ es) valid =
    let old = reads_home k es valid.0 in
    one_more (ReadsHome es) _ (made v) (no_read es 0 (made v) refl) (set_views (ReadsHome es) _ id (maker v) (old id v valid.1.0) (λ j u _ e. old j u e))
reads_home k (sent id v given ∷ es) valid =
    let old = reads_home k es valid.0 in
    one_more (ReadsHome es) _ (note given v) (no_read es 0 (note given v) refl) (set_views (ReadsHome es) _ id (sender given v) (old id v valid.1.0) (λ j u _ e. old j u e))
reads_home k (joined id v other w ∷ es) valid =
    let old = reads_home k es valid.0 in
    set_views (ReadsHome es) _ other spent (no_read es other spent refl)
    (λ j u _. set_views (ReadsHome es) _ id (both v w) (home_joined es id v w (old id v valid.1.0)) (λ j u _ e. old j u e) j u)

-- ---- a row between two moments

row_trans : (kind : Kind) (class p : ℕ) (ws ys zs : List ℕ) → SameRow kind class p ws ys → SameRow kind class p ys zs → SameRow kind class p ws zs
row_trans kind class p ws ys zs a b =
    let V : List ℕ → ℕ = λ l. slice_index l (version_at kind class p) in
    let up_one = a.up in
    let up_two = b.up in
    let mid : V zs ≡ V ws → V ys ≡ V ws = λ same. omega (arith, up_one, up_two, same) in
    record {
      up = omega (arith, up_one, up_two);
      kind_is = λ even same. b.kind_is (ap (λ (z : ℕ). z % 2) (mid same) ∙ even) (same ∙ sym (mid same)) ∙ a.kind_is even (mid same);
      payload_is = λ even same. b.payload_is (ap (λ (z : ℕ). z % 2) (mid same) ∙ even) (same ∙ sym (mid same)) ∙ a.payload_is even (mid same);
    }

home_one : (k : Shape) (es : List Event) (e : Event) → Valid k (e ∷ es) → (t : ℕ) → IsTableName k t → 2 ≤ age es t % 5 → home (e ∷ es) t ≡ home es t
home_one k es (did id v a) valid t table up = home_keeps k es id v valid.0 valid.1.0 t table up a valid.1.3
home_one k es (forked id v) valid t table up = refl
home_one k es (sent id v given) valid t table up = refl
home_one k es (joined id v other w) valid t table up = refl

-- while the table isn't free
rows_between : (k : Shape) (newer older : List Event) → Valid k (newer ++ older) → (o t p s : ℕ) → IsTableName k t → p < rows (kind_in k.starts o) (class_of t) → home older t ≡ o → s % 5 ≡ 2 → s ≤ age older t → age (newer ++ older) t ≤ s + 2 → SameRow (kind_in k.starts o) (class_of t) p (tab k older t) (tab k (newer ++ older) t) × (home (newer ++ older) t ≡ o)
rows_between k [] older valid o t p s table less home_is two low high = (same_row (kind_in k.starts o) (class_of t) p (tab k older t) (tab k older t) refl, home_is)
rows_between k (e ∷ newer) older valid o t p s table less home_is two low high =
    let step = (ages_one e (newer ++ older) t).up in
    let rise = ages_rise newer older t in
    let before = rows_between k newer older valid.0 o t p s table less home_is two low (omega (arith, step, high)) in
    let up : 2 ≤ age (newer ++ older) t % 5 = omega (arith, two, low, high, step, rise) in (
      row_trans (kind_in k.starts o) (class_of t) p (tab k older t) (tab k (newer ++ older) t) (tab k (e ∷ (newer ++ older)) t) before.0 (row_step k (newer ++ older) e valid o t p table up before.1 less),
      home_one k (newer ++ older) e valid t table up ∙ before.1,
    )

-- since the pass did an action, before which it had read the root
module _ (k : Shape) (es : List Event) (valid : Valid k es) (j : ℕ) (u : View) (at : get_elem? (run k es).views j ≡ some u) (o t p : ℕ) (less : p < rows (kind_in k.starts o) (class_of t)) (xs : List Act) (a : Act) (before ys rest : List Act) (is : u.log ≡ xs ++ a ∷ before) (root_is_read : before ≡ ys ++ ReadRoot o (suc t) ∷ rest) (on : Online (xs ++ a ∷ [])) (on_too : Online ys) where
  row_since : SameRow (kind_in k.starts o) (class_of t) p (tab k (was k es valid j u at xs a before is).older t) (tab k es t)
  row_since =
      let w = was k es valid j u at xs a before is in
      let log_then = w.log ∙ root_is_read in
      let table = read_table k w.older w.valid j w.view w.at o t ys rest log_then in
      let read : reads t before ≡ true = ap (reads t) root_is_read ∙ reads_root o t ys rest on_too in
      let now_read : reads t u.log ≡ true = ap (reads t) is ∙ (ap (reads t) (sym (append_assoc xs (a ∷ []) before)) ∙ still_reads t (xs ++ a ∷ []) before on read) in
      let same = w.seen on t read in
      let then_ = within k w.older w.valid t table j w.view w.at (ap (reads t) w.log ∙ read) in
      let now_ = within k es valid t table j u at now_read in
      let h0 = then_.0 in
      let h1 = then_.1 in
      let n2 = now_.2 in
      let home_is = reads_home k w.older w.valid j w.view w.at o t ys rest log_then on_too in
      subst (λ (l : List Event). SameRow (kind_in k.starts o) (class_of t) p (tab k w.older t) (tab k l t)) w.split
      (rows_between k w.newer w.older (subst (Valid k) (sym w.split) valid) o t p (seen w.older j t) table less home_is h0 h1 (subst (λ (l : List Event). age l t ≤ seen w.older j t + 2) (sym w.split) (omega (arith, n2, same)))).0

-- what was stored stays so
stored_rises : (b : ℕ) (newer older : List Event) → was_stored b older ≡ true → was_stored b (newer ++ older) ≡ true
stored_rises b [] older e = e
stored_rises b (did id v a ∷ newer) older e = either_true _ (was_stored b (newer ++ older)) (stored_rises b newer older e)
stored_rises b (forked id v ∷ newer) older e = stored_rises b newer older e
stored_rises b (sent id v given ∷ newer) older e = stored_rises b newer older e
stored_rises b (joined id v other w ∷ newer) older e = stored_rises b newer older e

stored_to : (k : Shape) (b : ℕ) (es : List Event) (j : ℕ) (xs : List Act) (a : Act) (rest : List Act) (w : Was k es j xs a rest) → was_stored b w.older ≡ true → was_stored b es ≡ true
stored_to k b es j xs a rest w e = subst (λ (l : List Event). was_stored b l ≡ true) w.split (stored_rises b w.newer w.older e)

stored_then : (k : Shape) (b : ℕ) (es : List Event) (j : ℕ) (xs : List Act) (a : Act) (rest : List Act) (w : Was k es j xs a rest) → Before k b es → Stored k b w.older
stored_then k b es j xs a rest w all = upto k b w.newer w.older (subst (Before k b) (sym w.split) all)

-- ---- in a row

online_both : (xs ys : List Act) → Online xs → Online ys → Online (xs ++ ys)
online_both [] ys a b = b
online_both (x ∷ xs) ys a b = online_one x xs (xs ++ ys) a (online_both xs ys (online_rest x xs a) b)

module _ (k : Shape) (b : ℕ) (es : List Event) (valid : Valid k es) (j : ℕ) (u : View) (at : get_elem? (run k es).views j ≡ some u) (r : SawInRow k b u.log) where
  abbrev kd : Kind
  kd = kind_in k.starts r.o

  abbrev V : ℕ
  V = version_at kd (class_of r.t) r.p

  abbrev load : Act
  load = ReadTable r.t V r.version

  abbrev tail : List Act
  tail = r.walk ++ ReadRoot r.o (suc r.t) ∷ r.rest

  -- the second load of the version
  abbrev last : Was k es j r.newer load (r.mid ++ load ∷ tail)
  last = was k es valid j u at r.newer load (r.mid ++ load ∷ tail) r.is

  abbrev end : List Event
  end = last.older

  found : (now : List Event) (i f : ℕ) → i < size (class_of r.t) → f ≡ word k now (cell r.t i) → slice_index (tab k now r.t) i ≡ f
  found now i f small e = table_at k r.t (run k now).words i small ∙ sym e

  version_last : slice_index (tab k end r.t) V ≡ r.version
  version_last = found end V r.version (last.may tt).1 last.tells

  -- at a read between the two loads
  module _ (i f : ℕ) (m : Among (ReadTable r.t i f) r.mid) where
    abbrev read : Was k end j m.newer (ReadTable r.t i f) (m.rest ++ load ∷ tail)
    read = was k end last.valid j last.view last.at m.newer (ReadTable r.t i f) (m.rest ++ load ∷ tail) (last.log ∙ (ap (λ (l : List Act). l ++ load ∷ tail) m.is ∙ append_assoc m.newer (ReadTable r.t i f ∷ m.rest) (load ∷ tail)))

    on_mid : Online (m.newer ++ ReadTable r.t i f ∷ m.rest)
    on_mid = subst Online m.is r.online.0

    on_rest : Online m.rest
    on_rest = online_after m.newer (ReadTable r.t i f ∷ m.rest) on_mid

    -- the first load of the version was before it
    abbrev first : Was k read.older j m.rest load tail
    first = was k read.older read.valid j read.view read.at m.rest load tail read.log

    before : SameRow kd (class_of r.t) r.p (tab k first.older r.t) (tab k read.older r.t)
    before = row_since k read.older read.valid j read.view read.at r.o r.t r.p r.row m.rest load tail r.walk r.rest read.log refl (online_both m.rest (load ∷ []) on_rest tt) r.online.1

    rest_is : m.rest ++ load ∷ tail ≡ (m.rest ++ load ∷ r.walk) ++ ReadRoot r.o (suc r.t) ∷ r.rest
    rest_is = sym (append_assoc m.rest (load ∷ r.walk) (ReadRoot r.o (suc r.t) ∷ r.rest))

    after : SameRow kd (class_of r.t) r.p (tab k read.older r.t) (tab k end r.t)
    after =
        row_since k end last.valid j last.view last.at r.o r.t r.p r.row m.newer (ReadTable r.t i f) (m.rest ++ load ∷ tail) (m.rest ++ load ∷ r.walk) r.rest
        (last.log ∙ (ap (λ (l : List Act). l ++ load ∷ tail) m.is ∙ append_assoc m.newer (ReadTable r.t i f ∷ m.rest) (load ∷ tail)))
        rest_is
        (online_before (m.newer ++ ReadTable r.t i f ∷ []) m.rest (subst Online (sym (append_assoc m.newer (ReadTable r.t i f ∷ []) m.rest)) on_mid))
        (online_both m.rest (load ∷ r.walk) on_rest r.online.1)

    -- so the version was the same then, and what was read is there at the end
    version_then : slice_index (tab k read.older r.t) V ≡ r.version
    version_then =
        let one = found first.older V r.version (first.may tt).1 first.tells in
        let low = before.up in
        let high = after.up in
        let last_is = version_last in
        omega (arith, one, low, high, last_is)

    even_then : slice_index (tab k read.older r.t) V % 2 ≡ 0
    even_then = ap (λ (z : ℕ). z % 2) version_then ∙ r.even

    there_then : slice_index (tab k read.older r.t) i ≡ f
    there_then = found read.older i f (read.may tt).1 read.tells

  -- the value at the end
  kind_end : slice_index (tab k end r.t) (value_at kd (class_of r.t) r.p) ≡ 4
  kind_end =
      let i : ℕ = value_at kd (class_of r.t) r.p in
      (after i 4 r.names.0).kind_is (even_then i 4 r.names.0) (version_last ∙ sym (version_then i 4 r.names.0)) ∙ there_then i 4 r.names.0

  payload_end : slice_index (tab k end r.t) (suc (value_at kd (class_of r.t) r.p)) ≡ b
  payload_end =
      let i : ℕ = suc (value_at kd (class_of r.t) r.p) in
      (after i b r.names.1).payload_is (even_then i b r.names.1) (version_last ∙ sym (version_then i b r.names.1)) ∙ there_then i b r.names.1

  end_log : last.view.log ≡ (r.mid ++ load ∷ r.walk) ++ ReadRoot r.o (suc r.t) ∷ r.rest
  end_log = last.log ∙ sym (append_assoc r.mid (load ∷ r.walk) (ReadRoot r.o (suc r.t) ∷ r.rest))

  end_online : Online (r.mid ++ load ∷ r.walk)
  end_online = online_both r.mid (load ∷ r.walk) r.online.0 r.online.1

  pub stored_in_row : Before k b es → was_stored b es ≡ true
  stored_in_row all =
      let table = read_table k end last.valid j last.view last.at r.o r.t (r.mid ++ load ∷ r.walk) r.rest end_log in
      let read = ap (reads r.t) end_log ∙ reads_root r.o r.t (r.mid ++ load ∷ r.walk) r.rest end_online in
      let up = ((safe k end last.valid r.t table j last.view last.at).read_is read).0 in
      let home_is = reads_home k end last.valid j last.view last.at r.o r.t (r.mid ++ load ∷ r.walk) r.rest end_log end_online in
      let even : slice_index (tab k end r.t) V % 2 ≡ 0 = ap (λ (z : ℕ). z % 2) version_last ∙ r.even in
      stored_to k b es j r.newer load (r.mid ++ load ∷ tail) last
      ((stored_then k b es j r.newer load (r.mid ++ load ∷ tail) last all).rows r.o r.t r.p r.container (table, r.row, even, kind_end, payload_end, home_is, up))

-- ---- in a container

module _ (k : Shape) (b : ℕ) (es : List Event) (valid : Valid k es) (j : ℕ) (u : View) (at : get_elem? (run k es).views j ≡ some u) (r : SawInContainer k b u.log) where
  abbrev end_there : List Event
  end_there = now k es valid r.o r.container j u at r.mid r.between

  abbrev last_there : Was k es j r.between.newer (Version r.o r.between.version) (r.mid ++ Version r.o r.between.version ∷ r.between.rest)
  last_there = top k es valid r.o r.container j u at r.mid r.between

  pub stored_in_container : Before k b es → was_stored b es ≡ true
  stored_in_container all =
      let kd = kind_in k.starts r.o in
      let a = agrees k es valid r.o r.container j u at r.mid r.between in
      let root_in_is : suc r.t ≡ root_in (shown k es valid r.o r.container j u at r.mid r.between) = a.root (suc r.t) r.root in
      let names : root k end_there r.o ≡ suc r.t = sym (block_at k r.o (run k end_there).words 0 (omega arith)) ∙ sym root_in_is in
      let table = root_table k end_there last_there.valid r.o r.container r.t names in
      let at_word : (i f : ℕ) → Among (ReadTable r.t i f) r.mid → slice_index (tab k end_there r.t) i ≡ f = λ i f m.
      let w = was k es valid j u at (r.between.newer ++ Version r.o r.between.version ∷ m.newer) (ReadTable r.t i f) (m.rest ++ Version r.o r.between.version ∷ r.between.rest)
      (r.between.is ∙ (ap (λ (l : List Act). r.between.newer ++ Version r.o r.between.version ∷ (l ++ Version r.o r.between.version ∷ r.between.rest)) m.is
      ∙ (ap (λ (l : List Act). r.between.newer ++ Version r.o r.between.version ∷ l) (append_assoc m.newer (ReadTable r.t i f ∷ m.rest) (Version r.o r.between.version ∷ r.between.rest))
      ∙ sym (append_assoc r.between.newer (Version r.o r.between.version ∷ m.newer) (ReadTable r.t i f ∷ (m.rest ++ Version r.o r.between.version ∷ r.between.rest)))))) in
      let small = (w.may tt).1 in
      let read = a.table r.t i f table small (sym root_in_is) m in
      ap (λ (z : ℕ). slice_index (inner k z (run k end_there).words) i) (sym names) ∙ sym read in
      let four = at_word (value_at kd (class_of r.t) r.p) 4 r.names.0 in
      let payload = at_word (suc (value_at kd (class_of r.t) r.p)) b r.names.1 in
      let some_ = row_names k b end_there r.o r.t r.p names r.row four payload in
      let stored = stored_then k b es j r.between.newer (Version r.o r.between.version) (r.mid ++ Version r.o r.between.version ∷ r.between.rest) last_there all in
      stored_to k b es j r.between.newer (Version r.o r.between.version) (r.mid ++ Version r.o r.between.version ∷ r.between.rest) last_there
      (⊎_elim (λ (e : was_stored b end_there ≡ true). e)
      (λ (w : Writes k b end_there r.o). off (sym ((versioned k end_there last_there.valid r.o r.container).idle (even_now k es valid r.o r.container j u at r.mid r.between) w.0 w.1 w.2) ∙ w.3))
      (stored.named r.o r.container some_))

pub stored_by_names : (k : Shape) (b : ℕ) (es : List Event) → Valid k es → Before k b es → (j : ℕ) (u : View) → get_elem? (run k es).views j ≡ some u → SawBox k b u.log → was_stored b es ≡ true
stored_by_names k b es valid all j u at saw =
    ⊎_elim (λ (r : SawInRow k b u.log). stored_in_row k b es valid j u at r all)
    (λ (r : SawInContainer k b u.log). stored_in_container k b es valid j u at r all)
    saw

-- ---- at every moment

pub stored_before : (k : Shape) (b : ℕ) (es : List Event) → Valid k es → Before k b es
stored_before k b [] valid = stored_start k b
stored_before k b (did id v a ∷ es) valid =
    let all = stored_before k b es valid.0 in
    (stored_next k b es id v valid.0 valid.1.0 (upto k b [] es all) a valid (λ c e saw. stored_by_names k b es valid.0 all id v valid.1.0 (subst (λ (z : ℕ). SawBox k z v.log) e saw)), all)
stored_before k b (forked id v ∷ es) valid = let all = stored_before k b es valid.0 in (stored_fork k b es id v valid (upto k b [] es all), all)
stored_before k b (sent id v given ∷ es) valid = let all = stored_before k b es valid.0 in (stored_sent k b es id v given valid (upto k b [] es all), all)
stored_before k b (joined id v other w ∷ es) valid = let all = stored_before k b es valid.0 in (stored_join k b es id v other w valid (upto k b [] es all), all)

pub stored_at : (k : Shape) (b : ℕ) (es : List Event) → Valid k es → Stored k b es
stored_at k b es valid = upto k b [] es (stored_before k b es valid)

pub seen_were_stored : (k : Shape) (b : ℕ) (es : List Event) → Valid k es → (j : ℕ) (u : View) → get_elem? (run k es).views j ≡ some u → SawBox k b u.log → was_stored b es ≡ true
seen_were_stored k b es valid j u at saw = stored_by_names k b es valid (stored_before k b es valid) j u at saw
