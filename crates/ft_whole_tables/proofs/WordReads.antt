-- Reads of a container's words as they stand, and of values through the boxes that they name.
use Rattle.std.proofs.Common.{◌≡◌, ◌≢◌, ◌⊎◌, ℕ, suc, ◌<◌, Bool, true, false, List, [], ◌∷◌, ◌++◌, length, refl, sym, ap, ◌∙◌, subst, inl, inr, ⊎_elim, arith}
use Rattle.std.specs.Prelude.{slice_index}
use Rattle.ft_trace.specs.declared.Act.{Act}
use Rattle.ft_trace.specs.declared.Act.TheVariants.{ReadBlock, ReadRoot, ReadTable, ReadBox}
use Rattle.ft_trace.specs.declared.Shape.{Shape}
use Rattle.ft_trace.specs.declared.View.{View}
use Rattle.ft_trace.specs.Acts.{has_lock}
use Rattle.ft_trace.specs.Addresses.{class_of, container_count, size, IsBoxName, IsTableName}
use Rattle.ft_trace.specs.Boxes.{value_at, known_box_word, named_in_root}
use Rattle.ft_trace.specs.ContainerStates.{kind_in}
use Rattle.ft_trace.specs.Holds.{held_words}
use Rattle.ft_trace.specs.Kinds.{rows}
use Rattle.ft_trace.specs.LoggedReads.{Among}
use Rattle.ft_trace.specs.Pictures.{ContainerWords, root_in}
use Rattle.ft_trace.specs.Unboxed.{unboxed}
use Rattle.ft_trace.proofs.PlainPuts.{by_root}
use Rattle.ft_trace.proofs.ReadTables.{rows_long}
use Rattle.ft_bank.specs.declared.pass.Pass.{Pass}
use Rattle.ft_bank.specs.Passes.{view}
use Rattle.ft_bank.specs.Series.{DidAll}
use Rattle.ft_search.specs.Boxed.{box_acts, IsKnownBox, SeesKnown, SeesValue}
use Rattle.ft_search.specs.KeyLooks.{AreLooks}
use Rattle.ft_search.specs.declared.boxed.SeenValue.{SeenValue}
use Rattle.ft_search.proofs.LoadedLooks.{looks_append, looks_did}
use Rattle.ft_search.proofs.Running.{did_none, did_trans}
use Rattle.ft_reads.specs.Reads.{AgreesRead, HeldAgrees, NamesBoxes, Reads}
use Rattle.ft_reads.proofs.Agreeing.{held_before, read_append, read_newer, read_older}
use Rattle.ft_reads.proofs.NamedKnown.{root_names_box, root_names_known}
use Rattle.ft_reads.proofs.ReadValues.{value_acts_of, value_seen}

-- The pass only loaded words, and this is so of all words of the container o, and boxes, that answer so. What the pass
-- knows of each container whose lock it has answers so.
abbrev pub ReadsWords : Shape → ℕ → (ContainerWords → Type 0) → Pass → Pass → Type 0
ReadsWords k o shows p q =
    (part : List Act) × AreLooks part × DidAll part p q
    × ((x : ContainerWords) (box : ℕ → ℕ → ℕ) → AgreesRead k o part x box → shows x)
    × HeldAgrees k part (view p)

-- ---- single loads

one_act : (a x : Act) → Among a (x ∷ []) → x ≡ a
one_act a x m = by m.newer m.is
  where
    by : (newer : List Act) → x ∷ [] ≡ newer ++ a ∷ m.rest → x ≡ a
    by [] e = cc
    by (y ∷ []) e = absurd (cc)
    by (y ∷ (z ∷ newer)) e = absurd (cc)

two_acts : (a x y : Act) → Among a (x ∷ (y ∷ [])) → (x ≡ a) ⊎ (y ≡ a)
two_acts a x y m = by m.newer m.is
  where
    by : (newer : List Act) → x ∷ (y ∷ []) ≡ newer ++ a ∷ m.rest → (x ≡ a) ⊎ (y ≡ a)
    by [] e = inl cc
    by (z ∷ newer) e = inr (one_act a y (record { newer = newer; rest = m.rest; is = cc }))

no_act : (a : Act) → Among a [] → ⊥
no_act a m = by m.newer m.is
  where
    by : (newer : List Act) → [] ≡ newer ++ a ∷ m.rest → ⊥
    by [] e = absurd (cc)
    by (y ∷ newer) e = absurd (cc)

-- the boxes that a container names whose lock the pass has are boxes of the bank
held_names : (k : Shape) (p : Pass) → (view p).shape ≡ k → (c : ℕ) → c < container_count k → has_lock c (view p).log ≡ true → NamesBoxes k c (held_words c (view p))
held_names k p shape c low mine b names =
    let v = view p in
    subst (λ (z : Shape). IsBoxName z b) shape
    (root_names_box v c b p.possible (subst (λ (z : Shape). c < container_count z) (sym shape) low) mine
    (subst (λ (z : Shape). named_in_root b (kind_in z.starts c) (root_in (held_words c v)) (held_words c v).table ≢ 0) (sym shape) names))

-- what a pass knows answers no loads
pub none_held : (k : Shape) (p : Pass) → HeldAgrees k [] (view p)
none_held k p shape c low mine = (
  record {
    root = λ f m. absurd (no_act (ReadRoot c f) m);
    block = λ i f few m. absurd (no_act (ReadBlock c i f) m);
    table = λ t i f is few names m. absurd (no_act (ReadTable t i f) m);
  },
  λ b names. (held_names k p shape c low mine b names, λ i f which m. absurd (no_act (ReadBox b i f) m)),
)

-- a load of a word of a table
table_held : (k : Shape) (t i f : ℕ) (p : Pass) → ((c : ℕ) → c < container_count k → has_lock c (view p).log ≡ true → root_in (held_words c (view p)) ≡ suc t → f ≡ slice_index (held_words c (view p)).table i) → HeldAgrees k (ReadTable t i f ∷ []) (view p)
table_held k t i f p holds shape c low mine = (
  record {
    root = λ g m. let e = one_act (ReadRoot c g) (ReadTable t i f) m in absurd (cc);
    block = λ j g few m. let e = one_act (ReadBlock c j g) (ReadTable t i f) m in absurd (cc);
    table = λ u j g is_table few names m.
        let e = one_act (ReadTable u j g) (ReadTable t i f) m in
        let at : t ≡ u = cc in
        let one : i ≡ j = cc in
        let two : f ≡ g = cc in
        sym two ∙ (holds c low mine (names ∙ ap suc (sym at)) ∙ ap (λ (z : ℕ). slice_index (held_words c (view p)).table z) one);
  },
  λ b names. (held_names k p shape c low mine b names, λ j g which m. let e = one_act (ReadBox b j g) (ReadTable t i f) m in absurd (cc)),
)

-- the loads of the box that a value names
box_held : (k : Shape) (payload : ℕ) (seen : SeenValue) (p : Pass) → SeesKnown (view p) payload seen → HeldAgrees k (box_acts seen.boxed payload seen.kind seen.value) (view p)
box_held k payload seen p sees = by seen.boxed sees
  where
    by : (boxed : Bool) → (boxed ≡ true → IsKnownBox (view p) payload → (seen.kind ≡ known_box_word (view p).shape payload 1 (view p).log) × (seen.value ≡ known_box_word (view p).shape payload 2 (view p).log)) → HeldAgrees k (box_acts boxed payload seen.kind seen.value) (view p)
    by false tells shape c low mine = none_held k p shape c low mine
    by true tells shape c low mine =
        let v = view p in
        let one = ReadBox payload 2 seen.value in
        let two = ReadBox payload 1 seen.kind in
        let here : c < container_count v.shape = subst (λ (z : Shape). c < container_count z) (sym shape) low in
        let known : (b : ℕ) → payload ≡ b → named_in_root b (kind_in k.starts c) (root_in (held_words c v)) (held_words c v).table ≢ 0 → (seen.kind ≡ known_box_word v.shape b 1 v.log) × (seen.value ≡ known_box_word v.shape b 2 v.log) = λ b is names.
        let some_ : named_in_root b (kind_in v.shape.starts c) (root_in (held_words c v)) (held_words c v).table ≢ 0 = subst (λ (z : Shape). named_in_root b (kind_in z.starts c) (root_in (held_words c v)) (held_words c v).table ≢ 0) (sym shape) names in
        let sure = root_names_known v c b p.possible here mine some_ in
        let name = root_names_box v c b p.possible here mine some_ in
        subst (λ (z : ℕ). (seen.kind ≡ known_box_word v.shape z 1 v.log) × (seen.value ≡ known_box_word v.shape z 2 v.log)) is
        (tells refl (subst (λ (z : ℕ). IsKnownBox v z) (sym is) (name, sure.0, sure.1))) in (
          record {
            root = λ g m. absurd (⊎_elim (λ (e : one ≡ ReadRoot c g). cc) (λ (e : two ≡ ReadRoot c g). cc) (two_acts (ReadRoot c g) one two m));
            block = λ j g few m. absurd (⊎_elim (λ (e : one ≡ ReadBlock c j g). cc) (λ (e : two ≡ ReadBlock c j g). cc) (two_acts (ReadBlock c j g) one two m));
            table = λ u j g is_table few names m. absurd (⊎_elim (λ (e : one ≡ ReadTable u j g). cc) (λ (e : two ≡ ReadTable u j g). cc) (two_acts (ReadTable u j g) one two m));
          },
          λ b names. (
            held_names k p shape c low mine b names,
            λ j g which m.
                ⊎_elim
                (λ (e : one ≡ ReadBox b j g).
                let is : payload ≡ b = cc in
                let at : 2 ≡ j = cc in
                let found : seen.value ≡ g = cc in
                sym found ∙ ((known b is names).1 ∙ ap (λ (z : ℕ). known_box_word v.shape b z v.log) at))
                (λ (e : two ≡ ReadBox b j g).
                let is : payload ≡ b = cc in
                let at : 1 ≡ j = cc in
                let found : seen.kind ≡ g = cc in
                sym found ∙ ((known b is names).0 ∙ ap (λ (z : ℕ). known_box_word v.shape b z v.log) at))
                (two_acts (ReadBox b j g) one two m),
          ),
        )

held_append : (k : Shape) (b c : List Act) (v : View) → HeldAgrees k b v → HeldAgrees k c v → HeldAgrees k (b ++ c) v
held_append k b c v one two shape o low mine = read_append k o (held_words o v) (λ n i. known_box_word v.shape n i v.log) b c (one shape o low mine) (two shape o low mine)

-- ---- words as they stand

pub words_table : (k : Shape) (o t i f : ℕ) (p q : Pass) → IsTableName k t → i < size (class_of t) → DidAll (ReadTable t i f ∷ []) p q → ((c : ℕ) → c < container_count k → has_lock c (view p).log ≡ true → root_in (held_words c (view p)) ≡ suc t → f ≡ slice_index (held_words c (view p)).table i)
    → ReadsWords k o (λ x. root_in x ≡ suc t → f ≡ slice_index x.table i) p q
words_table k o t i f p q is low did holds = (
  ReadTable t i f ∷ [],
  tt,
  did,
  (λ x box g names. g.0.table t i f is low names (record { newer = []; rest = []; is = refl })),
  table_held k t i f p holds,
)

pub words_none : (k : Shape) (o : ℕ) (P : ContainerWords → Type 0) (p : Pass) → ((x : ContainerWords) → P x) → ReadsWords k o P p p
words_none k o P p all = ([], tt, did_none p, (λ x box g. all x), none_held k p)

pub words_map : (k : Shape) (o : ℕ) (P Q : ContainerWords → Type 0) (p q : Pass) → ((x : ContainerWords) → P x → Q x) → ReadsWords k o P p q → ReadsWords k o Q p q
words_map k o P Q p q f r = (r.0, r.1, r.2, (λ x box g. f x (r.3 x box g)), r.4)

pub words_then : (k : Shape) (o : ℕ) (P Q : ContainerWords → Type 0) (p q r : Pass) → ReadsWords k o P p q → ReadsWords k o Q q r → ReadsWords k o (λ x. P x × Q x) p r
words_then k o P Q p q r a b =
    let loaded = looks_did a.0 p q a.1 a.2 in (
      b.0 ++ a.0,
      looks_append b.0 a.0 b.1 a.1,
      did_trans b.0 a.0 p q r a.2 b.2,
      (λ x box g. (a.3 x box (read_older k o x box b.0 a.0 g), b.3 x box (read_newer k o x box b.0 a.0 g))),
      held_append k b.0 a.0 (view p) (held_before k p (view q) b.0 loaded b.4) a.4,
    )

-- what they read through boxes
pub words_read : (k : Shape) (o : ℕ) (P Q : ContainerWords → Type 0) (p q : Pass) → ((x : ContainerWords) (box : ℕ → ℕ → ℕ) → P x → Q (unboxed box (kind_in k.starts o) x)) → ReadsWords k o P p q → Reads k o Q p q
words_read k o P Q p q f r = (r.0, r.1, r.2, (λ x box g. f x box (r.3 x box g)), r.4)

-- ---- values

box_looks : (boxed : Bool) (b kind value : ℕ) → AreLooks (box_acts boxed b kind value)
box_looks true b kind value = tt
box_looks false b kind value = tt

-- what was loaded of each container is what the pass knows
abbrev pub LoadsWord : Shape → ℕ → ℕ → ℕ → Pass → Type 0
LoadsWord k t i f p = (c : ℕ) → c < container_count k → has_lock c (view p).log ≡ true → root_in (held_words c (view p)) ≡ suc t → f ≡ slice_index (held_words c (view p)).table i

-- the two words of the value in a row were loaded, and then the box that they name
module _ (k : Shape) (o t row found payload : ℕ) (seen : SeenValue) (table : IsTableName k t) (low : row < rows (kind_in k.starts o) (class_of t)) (few : suc (value_at (kind_in k.starts o) (class_of t) row) < size (class_of t)) (sees : SeesValue k found payload seen) where
  abbrev place : ℕ
  place = value_at (kind_in k.starts o) (class_of t) row

  abbrev kind_load : List Act
  kind_load = ReadTable t place found ∷ []

  abbrev payload_load : List Act
  payload_load = ReadTable t (suc place) payload ∷ []

  abbrev box_load : List Act
  box_load = box_acts seen.boxed payload seen.kind seen.value

  pub value_reads : (p q r z : Pass) → DidAll kind_load p q → LoadsWord k t place found p → DidAll payload_load q r → LoadsWord k t (suc place) payload q → DidAll box_load r z → SeesKnown (view r) payload seen
      → Reads k o (λ x. root_in x ≡ suc t → length x.table ≡ size (class_of t) → (seen.kind ≡ slice_index x.table place) × (seen.value ≡ slice_index x.table (suc place))) p z
  value_reads p q r z did_kind holds_kind did_payload holds_payload did_box known =
      let two = payload_load ++ kind_load in
      let did_two : DidAll two p r = did_trans payload_load kind_load p q r did_kind did_payload in
      let first = looks_did kind_load p q tt did_kind in
      let both = looks_did two p r tt did_two in (
        value_acts_of k o t row found payload seen,
        looks_append box_load two (box_looks seen.boxed payload seen.kind seen.value) tt,
        did_trans box_load two p r z did_two did_box,
        (λ x box agrees names long.
            let T = x.table in
            let kd = kind_in k.starts o in
            let same = ap length (by_root box kd (root_in x) t T names) ∙ rows_long box kd (class_of t) (rows kd (class_of t)) T in
            value_seen k o t row found payload seen table low few sees x box agrees names (omega (arith, few, long, same))),
        held_append k box_load two (view p) (held_before k p (view r) box_load both (box_held k payload seen r known))
            (held_append k payload_load kind_load (view p) (held_before k p (view q) payload_load first (table_held k t (suc place) payload q holds_payload)) (table_held k t place found p holds_kind)),
      )
