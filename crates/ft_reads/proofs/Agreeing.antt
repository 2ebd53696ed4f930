-- Reads of a container's words, one after the other.
use Rattle.std.proofs.Common.{◌≡◌, ◌≢◌, ◌⊎◌, ℕ, suc, ◌<◌, Bool, true, false, List, [], ◌∷◌, ◌++◌, refl, sym, ap, ◌∙◌, subst, inl, inr, ⊎_elim, append_assoc}
use Rattle.std.specs.Prelude.{slice_index}
use Rattle.ft_trace.specs.declared.Act.{Act}
use Rattle.ft_trace.specs.declared.Act.TheVariants.{ReadBlock, ReadRoot, ReadTable, ReadBox}
use Rattle.ft_trace.specs.declared.Shape.{Shape}
use Rattle.ft_trace.specs.declared.View.{View}
use Rattle.ft_trace.specs.Acts.{has_lock}
use Rattle.ft_trace.specs.Addresses.{container_count, class_of, size, IsBoxName, IsTableName}
use Rattle.ft_trace.specs.ContainerStates.{kind_in}
use Rattle.ft_trace.specs.Holds.{held_words}
use Rattle.ft_trace.specs.Unboxed.{unboxed}
use Rattle.ft_trace.specs.WholeWrites.{IsNoValue}
use Rattle.ft_trace.specs.LoggedReads.{Among, Agrees, AgreesBoxes}
use Rattle.ft_trace.specs.Pictures.{ContainerWords, root_in}
use Rattle.ft_trace.specs.Boxes.{known_box_word, named_in_root}
use Rattle.ft_trace.specs.Kinds.{rows}
use Rattle.ft_trace.proofs.PlainPuts.{by_root}
use Rattle.ft_trace.proofs.ReadTables.{rows_else}
use Rattle.ft_model.specs.declared.script.Kind.{Kind}
use Rattle.ft_bank.specs.declared.pass.Pass.{Pass}
use Rattle.ft_bank.specs.Passes.{view}
use Rattle.ft_bank.specs.Series.{DidAll}
use Rattle.ft_bank.specs.Whole.{OnlyLoaded}
use Rattle.ft_bank.proofs.KnownAfterWrites.{loaded_held}
use Rattle.ft_search.proofs.Running.{did_none, did_trans}
use Rattle.ft_search.proofs.LoadedLooks.{looks_append, looks_did, among_in}
use Rattle.ft_search.specs.Boxed.{box_acts, SeesValue}
use Rattle.ft_search.specs.declared.boxed.SeenValue.{SeenValue}
use Rattle.ft_reads.specs.Reads.{AgreesRead, HeldAgrees, NamesBoxes, Reads}
use Rattle.ft_reads.proofs.NamedKnown.{known_same, root_names_box}

-- ---- actions among others

among_none : (a : Act) → Among a [] → ⊥
among_none a m = by m.newer m.is
  where
    by : (newer : List Act) → [] ≡ newer ++ a ∷ m.rest → ⊥
    by [] e = absurd (cc)
    by (y ∷ newer) e = absurd (cc)

among_cons : (a x : Act) (l : List Act) → Among a (x ∷ l) → (x ≡ a) ⊎ Among a l
among_cons a x l m = by m.newer m.is
  where
    by : (newer : List Act) → x ∷ l ≡ newer ++ a ∷ m.rest → (x ≡ a) ⊎ Among a l
    by [] e = inl cc
    by (y ∷ newer) e = inr (record { newer = newer; rest = m.rest; is = cc })

among_one : (a x : Act) → Among a (x ∷ []) → x ≡ a
among_one a x m = ⊎_elim (λ (e : x ≡ a). e) (λ n. absurd (among_none a n)) (among_cons a x [] m)

among_split : (a : Act) (b c : List Act) → Among a (b ++ c) → Among a b ⊎ Among a c
among_split a [] c m = inr m
among_split a (x ∷ b) c m =
    ⊎_elim
    (λ (e : x ≡ a). inl (record { newer = []; rest = b; is = ap (λ (z : Act). z ∷ b) e }))
    (λ n. ⊎_elim (λ (y : Among a b). inl (record { newer = x ∷ y.newer; rest = y.rest; is = ap (λ (z : List Act). x ∷ z) y.is })) (λ y. inr y) (among_split a b c n))
    (among_cons a x (b ++ c) m)

pub among_older : (a : Act) (b c : List Act) → Among a c → Among a (b ++ c)
among_older a b c m = record { newer = b ++ m.newer; rest = m.rest; is = ap (λ (z : List Act). b ++ z) m.is ∙ sym (append_assoc b m.newer (a ∷ m.rest)) }

-- ---- words that answer as loads did

module _ (k : Shape) (o : ℕ) (x : ContainerWords) where
  pub agrees_append : (b c : List Act) → Agrees k o b x → Agrees k o c x → Agrees k o (b ++ c) x
  agrees_append b c p q = record {
    root = λ f m. ⊎_elim (λ n. p.root f n) (λ n. q.root f n) (among_split (ReadRoot o f) b c m);
    block = λ i f low m. ⊎_elim (λ n. p.block i f low n) (λ n. q.block i f low n) (among_split (ReadBlock o i f) b c m);
    table = λ t i f is low names m. ⊎_elim (λ n. p.table t i f is low names n) (λ n. q.table t i f is low names n) (among_split (ReadTable t i f) b c m);
  }

  pub agrees_newer : (b c : List Act) → Agrees k o (b ++ c) x → Agrees k o b x
  agrees_newer b c p = record {
    root = λ f m. p.root f (among_in (ReadRoot o f) [] b c m);
    block = λ i f low m. p.block i f low (among_in (ReadBlock o i f) [] b c m);
    table = λ t i f is low names m. p.table t i f is low names (among_in (ReadTable t i f) [] b c m);
  }

  pub agrees_older : (b c : List Act) → Agrees k o (b ++ c) x → Agrees k o c x
  agrees_older b c p = record {
    root = λ f m. p.root f (among_older (ReadRoot o f) b c m);
    block = λ i f low m. p.block i f low (among_older (ReadBlock o i f) b c m);
    table = λ t i f is low names m. p.table t i f is low names (among_older (ReadTable t i f) b c m);
  }

  agrees_block : (b i f : ℕ) → (b ≡ o → f ≡ slice_index x.block i) → Agrees k o (ReadBlock b i f ∷ []) x
  agrees_block b i f is = record {
    root = λ g m. let e = among_one (ReadRoot o g) (ReadBlock b i f) m in absurd (cc);
    block = λ j g low m.
        let e = among_one (ReadBlock o j g) (ReadBlock b i f) m in
        let at : b ≡ o = cc in
        let one : i ≡ j = cc in
        let two : f ≡ g = cc in
        sym two ∙ (is at ∙ ap (λ (z : ℕ). slice_index x.block z) one);
    table = λ t j g is_table low names m. let e = among_one (ReadTable t j g) (ReadBlock b i f) m in absurd (cc);
  }

  agrees_table : (t i f : ℕ) → (root_in x ≡ suc t → f ≡ slice_index x.table i) → Agrees k o (ReadTable t i f ∷ []) x
  agrees_table t i f is = record {
    root = λ g m. let e = among_one (ReadRoot o g) (ReadTable t i f) m in absurd (cc);
    block = λ j g low m. let e = among_one (ReadBlock o j g) (ReadTable t i f) m in absurd (cc);
    table = λ u j g is_table low names m.
        let e = among_one (ReadTable u j g) (ReadTable t i f) m in
        let at : t ≡ u = cc in
        let one : i ≡ j = cc in
        let two : f ≡ g = cc in
        sym two ∙ (is (names ∙ ap suc (sym at)) ∙ ap (λ (z : ℕ). slice_index x.table z) one);
  }

-- ---- and boxes that answer as loads did

module _ (k : Shape) (o : ℕ) (x : ContainerWords) (box : ℕ → ℕ → ℕ) where
  pub read_append : (b c : List Act) → AgreesRead k o b x box → AgreesRead k o c x box → AgreesRead k o (b ++ c) x box
  read_append b c p q = (
    agrees_append k o x b c p.0 q.0,
    λ n names. ((p.1 n names).0, λ i f which m. ⊎_elim (λ y. (p.1 n names).1 i f which y) (λ y. (q.1 n names).1 i f which y) (among_split (ReadBox n i f) b c m)),
  )

  pub read_newer : (b c : List Act) → AgreesRead k o (b ++ c) x box → AgreesRead k o b x box
  read_newer b c p = (agrees_newer k o x b c p.0, λ n names. ((p.1 n names).0, λ i f which m. (p.1 n names).1 i f which (among_in (ReadBox n i f) [] b c m)))

  pub read_older : (b c : List Act) → AgreesRead k o (b ++ c) x box → AgreesRead k o c x box
  read_older b c p = (agrees_older k o x b c p.0, λ n names. ((p.1 n names).0, λ i f which m. (p.1 n names).1 i f which (among_older (ReadBox n i f) b c m)))

  -- a load of another word is no load of a box
  no_box : (a : Act) → ((n i f : ℕ) → a ≢ ReadBox n i f) → NamesBoxes k o x → AgreesBoxes k o (a ∷ []) x box
  no_box a other in_bank n names = (in_bank n names, λ i f which m. absurd (other n i f (among_one (ReadBox n i f) a m)))

  -- the loads of the box that a value names which has these words
  box_loads : (seen : SeenValue) (found payload : ℕ) → SeesValue k found payload seen → NamesBoxes k o x
      → (seen.boxed ≡ true → named_in_root payload (kind_in k.starts o) (root_in x) x.table ≢ 0 → (seen.kind ≡ box payload 1) × (seen.value ≡ box payload 2))
      → AgreesBoxes k o (box_acts seen.boxed payload seen.kind seen.value) x box
  box_loads seen found payload sees in_bank known n names = (in_bank n names, by seen.boxed known)
    where
      by : (boxed : Bool) → (boxed ≡ true → named_in_root payload (kind_in k.starts o) (root_in x) x.table ≢ 0 → (seen.kind ≡ box payload 1) × (seen.value ≡ box payload 2)) → (i f : ℕ) → (i ≡ 1) ⊎ (i ≡ 2) → Among (ReadBox n i f) (box_acts boxed payload seen.kind seen.value) → f ≡ box n i
      by false tells i f which m = absurd (among_none (ReadBox n i f) m)
      by true tells i f which m =
          ⊎_elim
          (λ (e : ReadBox payload 2 seen.value ≡ ReadBox n i f).
          let is : payload ≡ n = cc in
          let two : 2 ≡ i = cc in
          let found_ : seen.value ≡ f = cc in
          let t = tells refl (subst (λ (b : ℕ). named_in_root b (kind_in k.starts o) (root_in x) x.table ≢ 0) (sym is) names) in
          sym found_ ∙ (t.1 ∙ (λ d. box (is d) (two d))))
          (λ rest.
          let e : ReadBox payload 1 seen.kind ≡ ReadBox n i f = among_one (ReadBox n i f) (ReadBox payload 1 seen.kind) rest in
          let is : payload ≡ n = cc in
          let one : 1 ≡ i = cc in
          let found_ : seen.kind ≡ f = cc in
          let t = tells refl (subst (λ (b : ℕ). named_in_root b (kind_in k.starts o) (root_in x) x.table ≢ 0) (sym is) names) in
          sym found_ ∙ (t.0 ∙ (λ d. box (is d) (one d))))
          (among_cons (ReadBox n i f) (ReadBox payload 2 seen.value) (ReadBox payload 1 seen.kind ∷ []) m)

-- ---- reads

pub reads_loaded : (k : Shape) (o : ℕ) (P : ContainerWords → Type 0) (p q : Pass) → Reads k o P p q → OnlyLoaded (view p) (view q)
reads_loaded k o P p q r = looks_did r.0 p q r.1 r.2

pub reads_map : (k : Shape) (o : ℕ) (P Q : ContainerWords → Type 0) (p q : Pass) → ((x : ContainerWords) → P x → Q x) → Reads k o P p q → Reads k o Q p q
reads_map k o P Q p q f r = (r.0, r.1, r.2, (λ x box g. f (unboxed box (kind_in k.starts o) x) (r.3 x box g)), r.4)

-- the boxes that a container names whose lock the pass has are boxes of the bank
held_names : (k : Shape) (p : Pass) → (view p).shape ≡ k → (c : ℕ) → c < container_count k → has_lock c (view p).log ≡ true → NamesBoxes k c (held_words c (view p))
held_names k p shape c inside mine b names =
    let v = view p in
    subst (λ (z : Shape). IsBoxName z b) shape
    (root_names_box v c b p.possible (subst (λ (z : Shape). c < container_count z) (sym shape) inside) mine
    (subst (λ (z : Shape). named_in_root b (kind_in z.starts c) (root_in (held_words c v)) (held_words c v).table ≢ 0) (sym shape) names))

-- what a pass knew before loads answers as they did where what it knows after them does
pub held_before : (k : Shape) (p : Pass) (w : View) (part : List Act) → OnlyLoaded (view p) w → HeldAgrees k part w → HeldAgrees k part (view p)
held_before k p w part l after shape c low mine =
    let v = view p in
    let same = loaded_held v w c l in
    let now = after (l.work.pass.shape ∙ shape) c low (l.work.pass.locks c ∙ mine) in (
      subst (λ (z : ContainerWords). Agrees k c part z) same now.0,
      λ b names.
          let then_ = now.1 b (λ z. names (sym (ap (λ (x : ContainerWords). named_in_root b (kind_in k.starts c) (root_in x) x.table) same) ∙ z)) in
          (then_.0, λ i f which m. then_.1 i f which m ∙ known_same k c b i p w shape l low mine which names),
    )

pub reads_then : (k : Shape) (o : ℕ) (P Q : ContainerWords → Type 0) (p q r : Pass) → Reads k o P p q → Reads k o Q q r → Reads k o (λ x. P x × Q x) p r
reads_then k o P Q p q r a b =
    let loaded = reads_loaded k o P p q a in
    let before = held_before k p (view q) b.0 loaded b.4 in (
      b.0 ++ a.0,
      looks_append b.0 a.0 b.1 a.1,
      did_trans b.0 a.0 p q r a.2 b.2,
      (λ x box g. (a.3 x box (read_older k o x box b.0 a.0 g), b.3 x box (read_newer k o x box b.0 a.0 g))),
      (λ shape c low mine.
          read_append k c (held_words c (view p)) (λ b i. known_box_word (view p).shape b i (view p).log) b.0 a.0 (before shape c low mine) (a.4 shape c low mine)),
    )

pub reads_none : (k : Shape) (o : ℕ) (P : ContainerWords → Type 0) (p : Pass) → ((x : ContainerWords) → P x) → Reads k o P p p
reads_none k o P p all = (
  [],
  tt,
  did_none p,
  (λ x box g. all (unboxed box (kind_in k.starts o) x)),
  (λ shape c inside mine. (
    record {
      root = λ f m. absurd (among_none (ReadRoot c f) m);
      block = λ i f low m. absurd (among_none (ReadBlock c i f) m);
      table = λ t i f is low names m. absurd (among_none (ReadTable t i f) m);
    },
    λ b names. (held_names k p shape c inside mine b names, λ i f which m. absurd (among_none (ReadBox b i f) m)),
  )),
)

pub reads_block : (k : Shape) (o i f : ℕ) (p q : Pass) → i < 6 → DidAll (ReadBlock o i f ∷ []) p q → (has_lock o (view p).log ≡ true → f ≡ slice_index (held_words o (view p)).block i) → Reads k o (λ x. f ≡ slice_index x.block i) p q
reads_block k o i f p q low did holds = (
  ReadBlock o i f ∷ [],
  tt,
  did,
  (λ x box g. g.0.block i f low (record { newer = []; rest = []; is = refl })),
  (λ shape c inside mine. (
    agrees_block k c (held_words c (view p)) o i f (λ e.
        let here : f ≡ slice_index (held_words o (view p)).block i = holds (ap (λ (z : ℕ). has_lock z (view p).log) e ∙ mine) in
        here ∙ ap (λ (z : ℕ). slice_index (held_words z (view p)).block i) e),
    no_box k c (held_words c (view p)) (λ b j. known_box_word (view p).shape b j (view p).log) (ReadBlock o i f) (λ n j g e. absurd (cc)) (held_names k p shape c inside mine),
  )),
)

-- a word of a table that is no value's reads as it stands
plain_word : (k : Shape) (o t i : ℕ) (x : ContainerWords) (box : ℕ → ℕ → ℕ) → IsNoValue (kind_in k.starts o) (class_of t) i → root_in x ≡ suc t → slice_index (unboxed box (kind_in k.starts o) x).table i ≡ slice_index x.table i
plain_word k o t i x box none names =
    let kd : Kind = kind_in k.starts o in
    ap (λ (l : List ℕ). slice_index l i) (by_root box kd (root_in x) t x.table names)
    ∙ rows_else box kd (class_of t) (rows kd (class_of t)) i x.table none

pub reads_table : (k : Shape) (o t i f : ℕ) (p q : Pass) → IsTableName k t → i < size (class_of t) → IsNoValue (kind_in k.starts o) (class_of t) i → DidAll (ReadTable t i f ∷ []) p q → ((c : ℕ) → c < container_count k → has_lock c (view p).log ≡ true → root_in (held_words c (view p)) ≡ suc t → f ≡ slice_index (held_words c (view p)).table i)
    → Reads k o (λ x. root_in x ≡ suc t → f ≡ slice_index x.table i) p q
reads_table k o t i f p q is low none did holds = (
  ReadTable t i f ∷ [],
  tt,
  did,
  (λ x box g names. g.0.table t i f is low names (record { newer = []; rest = []; is = refl }) ∙ sym (plain_word k o t i x box none names)),
  (λ shape c inside mine. (
    agrees_table k c (held_words c (view p)) t i f (holds c inside mine),
    no_box k c (held_words c (view p)) (λ b j. known_box_word (view p).shape b j (view p).log) (ReadTable t i f) (λ n j g e. absurd (cc)) (held_names k p shape c inside mine),
  )),
)
