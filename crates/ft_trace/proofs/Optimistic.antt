-- What was read between two equal even loads of a version is the container's content at each load of the counter between them, also where tables move.
use Rattle.std.proofs.Common.{◌≡◌, ◌≢◌, ◌⊎◌, ℕ, suc, ◌%◌, ◌<◌, ◌≤◌, List, ◌∷◌, ◌++◌, sym, ap, ◌∙◌, subst, arith, append_assoc}
use Rattle.std.specs.Prelude.{slice_index}
use mathlib.Core.Option.{some}
use lib.ListN.{get_elem?}
use Rattle.ft_trace.specs.declared.Shape.{Shape}
use Rattle.ft_trace.specs.declared.View.{View}
use Rattle.ft_trace.specs.declared.Act.{Act}
use Rattle.ft_trace.specs.declared.Act.TheVariants.{Version, ReadBlock, ReadRoot, ReadTable, ReadCounter, ReadBox}
use Rattle.ft_model.specs.declared.call.Call.{Call}
use Rattle.ft_model.specs.declared.reply.Reply.{Reply}
use Rattle.ft_model.specs.TableUses.{StoredWorld, stored_newest}
use Rattle.ft_trace.specs.Addresses.{container_count}
use Rattle.ft_trace.specs.ContainerStates.{ContainerState, state_at, container_after, kind_in, first_writes, reply_in}
use Rattle.ft_trace.specs.Pictures.{table_words, inner, ContainerWords, root_of, root_in, picture, Represents}
use Rattle.ft_trace.specs.LoggedReads.{Between, Among, Agrees, AgreesBoxes, IsNothing, LookedAtOne, LookedAtBoth}
use Rattle.ft_model.specs.Worlds.{kind_of}
use Rattle.ft_trace.proofs.Known.{kind_then}
use Rattle.ft_trace.proofs.NoTable.{no_table_stands}
use Rattle.ft_trace.specs.LoggedLookUps.{Bare}
use Rattle.ft_trace.specs.Addresses.{box_word, IsBoxName}
use Rattle.ft_trace.specs.BoxTraces.{references}
use Rattle.ft_trace.proofs.BoxValues.{box_name, box_there}
use Rattle.ft_trace.proofs.NamedBoxes.{named_low}
use Rattle.ft_trace.proofs.PlainPuts.{named_is}
use Rattle.ft_trace.specs.Boxes.{named_in_root, named_in_container}
use Rattle.ft_trace.specs.Unboxed.{box_word_in, unboxed}
use Rattle.ft_trace.proofs.QuietBoxes.{quiet_named}
use Rattle.ft_trace.specs.Traces.{Event, run, word, history, Valid}
use Rattle.ft_trace.proofs.Pieces.{block_at, table_at}
use Rattle.ft_trace.proofs.OddVersions.{version, rises}
use Rattle.ft_trace.proofs.TablePlaces.{root}
use Rattle.ft_trace.proofs.Contents.{count, Still, quiet}
use Rattle.ft_trace.proofs.Standing.{stands}
use Rattle.ft_trace.proofs.EarlierMoments.{Was, was}
use Rattle.ft_trace.proofs.Spots.{Under, under_trans, stamp_then}

rises_to : (k : Shape) (older es : List Event) → Valid k es → Under older es → (o : ℕ) → o < container_count k → version k older o ≤ version k es o
rises_to k older es valid p o low = subst (λ (l : List Event). version k older o ≤ version k l o) p.is (rises k p.newer older (subst (Valid k) (sym p.is) valid) o low)

quiet_to : (k : Shape) (older es : List Event) → Valid k es → Under older es → (o : ℕ) → o < container_count k → version k older o % 2 ≡ 0 → version k es o ≡ version k older o → Still k older es o
quiet_to k older es valid p o low even same =
    subst (λ (l : List Event). Still k older l o) p.is (quiet k p.newer older (subst (Valid k) (sym p.is) valid) o low even (subst (λ (l : List Event). version k l o ≡ version k older o) (sym p.is) same))

-- a version is at least what a pass has found
pub found_before : (k : Shape) (es : List Event) → Valid k es → (o : ℕ) → o < container_count k → (j : ℕ) (u : View) → get_elem? (run k es).views j ≡ some u → (xs rest : List Act) (n : ℕ) → u.log ≡ xs ++ Version o n ∷ rest → n ≤ version k es o
found_before k es valid o low j u at xs rest n is =
    let w = was k es valid j u at xs (Version o n) rest is in
    let here : n ≡ version k w.older o = w.tells in
    let up = rises_to k w.older es valid (record { newer = w.newer; is = w.split }) o low in
    omega (arith, here, up)

module _ (k : Shape) (es : List Event) (valid : Valid k es) (o : ℕ) (low : o < container_count k) (j : ℕ) (u : View) (at : get_elem? (run k es).views j ≡ some u) (mid : List Act) (b : Between u.log o mid) where
  abbrev pub top : Was k es j b.newer (Version o b.version) (mid ++ Version o b.version ∷ b.rest)
  top = was k es valid j u at b.newer (Version o b.version) (mid ++ Version o b.version ∷ b.rest) b.is

  abbrev pub now : List Event
  now = top.older

  in_now : (a : Act) (m : Among a mid) → Was k now j m.newer a (m.rest ++ Version o b.version ∷ b.rest)
  in_now a m = was k now top.valid j top.view top.at m.newer a (m.rest ++ Version o b.version ∷ b.rest) (top.log ∙ (ap (λ (l : List Act). l ++ Version o b.version ∷ b.rest) m.is ∙ append_assoc m.newer (a ∷ m.rest) (Version o b.version ∷ b.rest)))

  under_now : (a : Act) (m : Among a mid) → Under (in_now a m).older now
  under_now a m = let w = in_now a m in record { newer = w.newer; is = w.split }

  same : (a : Act) (m : Among a mid) → version k (in_now a m).older o ≡ version k now o
  same a m =
      let w = in_now a m in
      let here : b.version ≡ version k now o = top.tells in
      let up = rises_to k w.older now top.valid (under_now a m) o low in
      let from = found_before k w.older w.valid o low j w.view w.at m.rest b.rest b.version w.log in
      omega (arith, here, up, from)

  pub even_now : version k now o % 2 ≡ 0
  even_now = ap (λ (n : ℕ). n % 2) (sym top.tells) ∙ b.even

  still_now : (a : Act) (m : Among a mid) → Still k (in_now a m).older now o
  still_now a m = quiet_to k (in_now a m).older now top.valid (under_now a m) o low (ap (λ (n : ℕ). n % 2) (same a m) ∙ even_now) (sym (same a m))

  -- a load of the counter between them
  pub at_stamp : (s : ℕ) → Among (ReadCounter s) mid → (s ≤ count k es) × (container_after k.starts (first_writes s (history es)) o ≡ container_after k.starts (history now) o)
  at_stamp s m =
      let w = in_now (ReadCounter s) m in
      let h = stamp_then k w.older es w.valid valid (under_trans w.older now es (under_now (ReadCounter s) m) (record { newer = top.newer; is = top.split })) s w.tells in
      (h.0, ap (λ (cs : List Call). container_after k.starts cs o) h.1 ∙ sym (still_now (ReadCounter s) m).content)

  -- its kind
  pub kind_at : (s : ℕ) → Among (ReadCounter s) mid → kind_of (container_after k.starts (first_writes s (history es)) o).content ≡ kind_in k.starts o
  kind_at s m = ap (λ (z : ContainerState). kind_of z.content) (at_stamp s m).1 ∙ kind_then k now top.valid o

  -- the words of the container between them
  abbrev pub shown : ContainerWords
  shown = picture k o (run k now).words

  pub root_is : (ws : List ℕ) → root_in (picture k o ws) ≡ root_of k o ws
  root_is ws = block_at k o ws 0 (omega arith)

  root_read : (a : Act) (f : ℕ) (m : Among a mid) → f ≡ root k (in_now a m).older o → f ≡ root_in shown
  root_read a f m e = e ∙ (sym (root_is (run k (in_now a m).older).words) ∙ ap root_in (sym (still_now a m).picture))

  pub by_inner : (r : ℕ) (ws : List ℕ) (t i : ℕ) → r ≡ suc t → slice_index (inner k r ws) i ≡ slice_index (table_words k t ws) i
  by_inner r ws t i e = ap (λ (z : ℕ). slice_index (inner k z ws) i) e

  -- what was read between them
  pub agrees : Agrees k o mid shown
  agrees = record {
    root = λ f m. root_read (ReadRoot o f) f m (in_now (ReadRoot o f) m).tells;
    block = λ i f small m.
        let w = in_now (ReadBlock o i f) m in
        w.tells ∙ (sym (block_at k o (run k w.older).words i small) ∙ ap (λ (x : ContainerWords). slice_index x.block i) (sym (still_now (ReadBlock o i f) m).picture));
    table = λ t i f table small names m.
        let w = in_now (ReadTable t i f) m in
        let s = still_now (ReadTable t i f) m in
        let then_ : root k w.older o ≡ suc t = sym (root_is (run k w.older).words) ∙ (ap root_in (sym s.picture) ∙ names) in
        w.tells ∙ (sym (table_at k t (run k w.older).words i small) ∙ (sym (by_inner (root k w.older o) (run k w.older).words t i then_) ∙ ap (λ (x : ContainerWords). slice_index x.table i) (sym s.picture)));
  }

  -- a box that it names is one of the bank
  names_box : (b : ℕ) → named_in_root b (kind_in k.starts o) (root_in shown) shown.table ≢ 0 → IsBoxName k b
  names_box b names_it =
      let n = named_is k o b (run k now).words in
      let all = named_low k b o (run k now).words low in
      let some_ : references k b now ≢ 0 = λ z. names_it (omega (arith, n, all, z)) in
      let up = box_there k b now top.valid some_ in
      box_name k b now top.valid (λ z. absurd (omega (arith, up, z)))

  -- what was read of it
  found_in : (b : ℕ) → named_in_root b (kind_in k.starts o) (root_in shown) shown.table ≢ 0 → (i f : ℕ) → (i ≡ 1) ⊎ (i ≡ 2) → Among (ReadBox b i f) mid → f ≡ box_word_in k (run k now).words b i
  found_in b names_it i f which m =
      let w = in_now (ReadBox b i f) m in
      let s = still_now (ReadBox b i f) m in
      let p = under_now (ReadBox b i f) m in
      let root_same : root_of k o (run k w.older).words ≡ root_in shown = sym (root_is (run k w.older).words) ∙ ap root_in (sym s.picture) in
      let n : named_in_container k b o (run k w.older).words ≡ named_in_root b (kind_in k.starts o) (root_in shown) shown.table = λ d. named_in_root b (kind_in k.starts o) (root_same d) (sym s.picture d).table in
      let even_then : version k w.older o % 2 ≡ 0 = ap (λ (z : ℕ). z % 2) (same (ReadBox b i f) m) ∙ even_now in
      let q : word k now (box_word b i) ≡ word k w.older (box_word b i) =
      subst (λ (l : List Event). Valid k l → version k l o ≡ version k w.older o → word k l (box_word b i) ≡ word k w.older (box_word b i)) p.is
      (λ ok e. quiet_named k w.older o low even_then b i (λ z. names_it (sym n ∙ z)) which p.newer ok e) top.valid (sym (same (ReadBox b i f) m)) in
      w.tells ∙ sym q

  -- what was read of boxes between them that it names
  pub agrees_boxes : AgreesBoxes k o mid shown (box_word_in k (run k now).words)
  agrees_boxes b names_it = (names_box b names_it, found_in b names_it)

  -- the optimistic read: what follows from the answers, on whatever words and whatever else is stored, holds of what was stored at the load of the counter
  pub looked : (P : StoredWorld → Type 0) → ((x : ContainerWords) (box : ℕ → ℕ → ℕ) (t : StoredWorld) → kind_of (state_at t o).content ≡ kind_in k.starts o → Represents k.texts (unboxed box (kind_in k.starts o) x) (state_at t o) → Agrees k o mid x → AgreesBoxes k o mid x box → P t) → (s : ℕ) → Among (ReadCounter s) mid → (s ≤ count k es) × P (stored_newest k.starts (first_writes s (history es)))
  looked P gives s st =
      let a = at_stamp s st in
      let read : ContainerWords = unboxed (box_word_in k (run k now).words) (kind_in k.starts o) shown in
      (a.0, gives shown (box_word_in k (run k now).words) (stored_newest k.starts (first_writes s (history es))) (kind_at s st) (subst (Represents k.texts read) (sym a.1) (stands k now top.valid o low even_now)) agrees agrees_boxes)

-- a call may be answered that was looked up so
pub looked_at : (k : Shape) (es : List Event) (valid : Valid k es) (call : Call) (o : ℕ) → o < container_count k → (j : ℕ) (u : View) → get_elem? (run k es).views j ≡ some u → (r : Reply) (n : ℕ) → LookedAtOne k call o r n u.log → (n ≤ count k es) × (reply_in (stored_newest k.starts (first_writes n (history es))) call ≡ r)
looked_at k es valid call o low j u at r n h = looked k es valid o low j u at h.mid h.between (λ t. reply_in t call ≡ r) h.answers n h.stamp

-- and one that was looked up in two containers
pub looked_at_both : (k : Shape) (es : List Event) (valid : Valid k es) (call : Call) (o p : ℕ) → o < container_count k → p < container_count k → (j : ℕ) (u : View) → get_elem? (run k es).views j ≡ some u → (r : Reply) (n : ℕ) → LookedAtBoth k call o p r n u.log
    → (n ≤ count k es) × (reply_in (stored_newest k.starts (first_writes n (history es))) call ≡ r)
looked_at_both k es valid call o p low low_too j u at r n h =
    let stored = stored_newest k.starts (first_writes n (history es)) in
    let a = at_stamp k es valid o low j u at h.one h.between.0 n h.stamp.0 in
    let b = at_stamp k es valid p low_too j u at h.other h.between.1 n h.stamp.1 in
    let s = stands k (now k es valid o low j u at h.one h.between.0) (top k es valid o low j u at h.one h.between.0).valid o low (even_now k es valid o low j u at h.one h.between.0) in
    let t = stands k (now k es valid p low_too j u at h.other h.between.1) (top k es valid p low_too j u at h.other h.between.1).valid p low_too (even_now k es valid p low_too j u at h.other h.between.1) in (
      a.0,
      h.answers (shown k es valid o low j u at h.one h.between.0) (shown k es valid p low_too j u at h.other h.between.1)
          (box_word_in k (run k (now k es valid o low j u at h.one h.between.0)).words) (box_word_in k (run k (now k es valid p low_too j u at h.other h.between.1)).words) stored
          (kind_at k es valid o low j u at h.one h.between.0 n h.stamp.0)
          (kind_at k es valid p low_too j u at h.other h.between.1 n h.stamp.1)
          (subst (Represents k.texts (unboxed (box_word_in k (run k (now k es valid o low j u at h.one h.between.0)).words) (kind_in k.starts o) (shown k es valid o low j u at h.one h.between.0))) (sym a.1) s)
          (subst (Represents k.texts (unboxed (box_word_in k (run k (now k es valid p low_too j u at h.other h.between.1)).words) (kind_in k.starts p) (shown k es valid p low_too j u at h.other h.between.1))) (sym b.1) t)
          (agrees k es valid o low j u at h.one h.between.0)
          (agrees k es valid p low_too j u at h.other h.between.1)
          (agrees_boxes k es valid o low j u at h.one h.between.0)
          (agrees_boxes k es valid p low_too j u at h.other h.between.1),
    )

-- a root that is 0: there is no table at the counter that was loaded
pub bare_at : (k : Shape) (es : List Event) (valid : Valid k es) (o n : ℕ) → o < container_count k → (j : ℕ) (u : View) → get_elem? (run k es).views j ≡ some u → Bare u.log o n → (n ≤ count k es) × IsNothing (container_after k.starts (first_writes n (history es)) o)
bare_at k es valid o n low j u at h =
    looked k es valid o low j u at h.mid h.between (λ t. IsNothing (state_at t o))
    (λ x box t is s a boxes. no_table_stands k.texts (unboxed box (kind_in k.starts o) x) (state_at t o) (sym (a.root 0 h.root)) s)
    n h.stamp
