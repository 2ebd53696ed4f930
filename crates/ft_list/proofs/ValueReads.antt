-- A value that is read of a container's table, word by word and through the box that it names: by a pass without the
-- lock, whose loads show it, and by one with the lock.
use Rattle.std.proofs.Common.{◌≡◌, ◌≢◌, ◌⊎◌, ℕ, suc, ◌<◌, Bool, true, false, List, [], ◌∷◌, ◌++◌, length, refl, sym, ap, ◌∙◌, subst, inl, inr, ⊎_elim}
use Rattle.std.specs.Prelude.{slice_index}
use Rattle.ft_model.specs.declared.script.Kind.{Kind}
use Rattle.ft_trace.specs.declared.Act.{Act}
use Rattle.ft_trace.specs.declared.Act.TheVariants.{ReadBlock, ReadRoot, ReadTable, ReadBox}
use Rattle.ft_trace.specs.declared.Shape.{Shape}
use Rattle.ft_trace.specs.declared.View.{View}
use Rattle.ft_trace.specs.Acts.{has_lock}
use Rattle.ft_trace.specs.Addresses.{container_count, class_of, size, IsBoxName, IsTableName}
use Rattle.ft_trace.specs.Boxes.{value_at, known_box_word, named_in_root}
use Rattle.ft_trace.specs.ContainerStates.{kind_in}
use Rattle.ft_trace.specs.Holds.{held_words, held_unboxed}
use Rattle.ft_trace.specs.Kinds.{rows}
use Rattle.ft_trace.specs.LoggedReads.{Among, Agrees}
use Rattle.ft_trace.specs.Pictures.{ContainerWords, root_in}
use Rattle.ft_trace.specs.Unboxed.{unboxed}
use Rattle.ft_trace.proofs.PlainPuts.{by_root}
use Rattle.ft_trace.proofs.ReadTables.{rows_long}
use Rattle.ft_bank.specs.declared.pass.Pass.{Pass}
use Rattle.ft_bank.specs.Passes.{view}
use Rattle.ft_bank.specs.Series.{DidAll}
use Rattle.ft_bank.specs.Whole.{OnlyLoaded}
use Rattle.ft_bank.proofs.KnownAfterWrites.{loaded_by, loaded_held, loaded_then}
use Rattle.ft_search.specs.Boxed.{box_acts, IsKnownBox, SeesKnown, SeesValue}
use Rattle.ft_search.specs.declared.boxed.SeenValue.{SeenValue}
use Rattle.ft_search.specs.KeyLooks.{AreLooks}
use Rattle.ft_search.proofs.LoadedLooks.{looks_append}
use Rattle.ft_search.proofs.Running.{did_trans}
use Rattle.ft_reads.specs.Pairs.{ReadsBoth}
use Rattle.ft_reads.specs.Reads.{Reads}
use Rattle.ft_reads.proofs.Agreeing.{agrees_append, reads_none}
use Rattle.ft_reads.proofs.NamedKnown.{known_same, root_names_box, root_names_known}
use Rattle.ft_reads.proofs.ReadValues.{value_seen}

-- ---- by a pass with the lock, what it reads is so of the words as they read

pub held_shows : (k : Shape) (o : ℕ) (P : ContainerWords → Type 0) (p q : Pass) → Reads k o P p q → (view p).shape ≡ k → o < container_count k → has_lock o (view p).log ≡ true → P (held_unboxed o (view p))
held_shows k o P p q r shape low mine =
    let v = view p in
    let box : ℕ → ℕ → ℕ = λ b i. known_box_word v.shape b i v.log in
    subst (λ (z : Shape). P (unboxed box (kind_in z.starts o) (held_words o v))) (sym shape) (r.3 (held_words o v) box (r.4 shape o low mine))

pub held_shows_both : (k : Shape) (o m : ℕ) (P : ContainerWords → ContainerWords → Type 0) (p q : Pass) → ReadsBoth k o m P p q → (view p).shape ≡ k → o < container_count k → has_lock o (view p).log ≡ true → m < container_count k → has_lock m (view p).log ≡ true → P (held_unboxed o (view p)) (held_unboxed m (view p))
held_shows_both k o m P p q r shape low mine low' mine' =
    let v = view p in
    let box : ℕ → ℕ → ℕ = λ b i. known_box_word v.shape b i v.log in
    subst (λ (z : Shape). P (unboxed box (kind_in z.starts o) (held_words o v)) (unboxed box (kind_in z.starts m) (held_words m v))) (sym shape)
    (r.3 (held_words o v) (held_words m v) box box (r.4 shape o low mine) (r.4 shape m low' mine'))

-- ---- loads of a box

pub looks_box : (boxed : Bool) (b kind value : ℕ) → AreLooks (box_acts boxed b kind value)
looks_box true b kind value = tt
looks_box false b kind value = tt

not_among : (a : Act) → Among a [] → ⊥
not_among a m = by m.newer m.is
  where
    by : (newer : List Act) → [] ≡ newer ++ a ∷ m.rest → ⊥
    by [] e = absurd (cc)
    by (y ∷ newer) e = absurd (cc)

among_first : (a x : Act) (l : List Act) → Among a (x ∷ l) → (x ≡ a) ⊎ Among a l
among_first a x l m = by m.newer m.is
  where
    by : (newer : List Act) → x ∷ l ≡ newer ++ a ∷ m.rest → (x ≡ a) ⊎ Among a l
    by [] e = inl cc
    by (y ∷ newer) e = inr (record { newer = newer; rest = m.rest; is = cc })

among_two : (a x y : Act) → Among a (x ∷ (y ∷ [])) → (x ≡ a) ⊎ (y ≡ a)
among_two a x y m =
    ⊎_elim (λ (e : x ≡ a). inl e) (λ n. ⊎_elim (λ (e : y ≡ a). inr e) (λ n. absurd (not_among a n)) (among_first a y [] n)) (among_first a x (y ∷ []) m)

among_parts : (a : Act) (b c : List Act) → Among a (b ++ c) → Among a b ⊎ Among a c
among_parts a [] c m = inr m
among_parts a (x ∷ b) c m =
    ⊎_elim
    (λ (e : x ≡ a). inl (record { newer = []; rest = b; is = ap (λ (z : Act). z ∷ b) e }))
    (λ n. ⊎_elim (λ (y : Among a b). inl (record { newer = x ∷ y.newer; rest = y.rest; is = ap (λ (z : List Act). x ∷ z) y.is })) (λ y. inr y) (among_parts a b c n))
    (among_first a x (b ++ c) m)

-- they tell nothing of a container's words
box_agrees : (k : Shape) (o : ℕ) (x : ContainerWords) (boxed : Bool) (b kind value : ℕ) → Agrees k o (box_acts boxed b kind value) x
box_agrees k o x true b kind value = record {
  root = λ f m. absurd (⊎_elim (λ (e : ReadBox b 2 value ≡ ReadRoot o f). absurd (cc)) (λ (e : ReadBox b 1 kind ≡ ReadRoot o f). absurd (cc)) (among_two (ReadRoot o f) (ReadBox b 2 value) (ReadBox b 1 kind) m));
  block = λ i f low m. absurd (⊎_elim (λ (e : ReadBox b 2 value ≡ ReadBlock o i f). absurd (cc)) (λ (e : ReadBox b 1 kind ≡ ReadBlock o i f). absurd (cc)) (among_two (ReadBlock o i f) (ReadBox b 2 value) (ReadBox b 1 kind) m));
  table = λ t i f is low names m. absurd (⊎_elim (λ (e : ReadBox b 2 value ≡ ReadTable t i f). absurd (cc)) (λ (e : ReadBox b 1 kind ≡ ReadTable t i f). absurd (cc)) (among_two (ReadTable t i f) (ReadBox b 2 value) (ReadBox b 1 kind) m));
}
box_agrees k o x false b kind value = record {
  root = λ f m. absurd (not_among (ReadRoot o f) m);
  block = λ i f low m. absurd (not_among (ReadBlock o i f) m);
  table = λ t i f is low names m. absurd (not_among (ReadTable t i f) m);
}

-- loads of two words of a table
two_agree : (k : Shape) (o : ℕ) (x : ContainerWords) (t i f j g : ℕ) → (root_in x ≡ suc t → f ≡ slice_index x.table i) → (root_in x ≡ suc t → g ≡ slice_index x.table j) → Agrees k o (ReadTable t j g ∷ (ReadTable t i f ∷ [])) x
two_agree k o x t i f j g one two =
    let a = ReadTable t j g in
    let b = ReadTable t i f in
    record {
      root = λ h m. absurd (⊎_elim (λ (e : a ≡ ReadRoot o h). absurd (cc)) (λ (e : b ≡ ReadRoot o h). absurd (cc)) (among_two (ReadRoot o h) a b m));
      block = λ n h low m. absurd (⊎_elim (λ (e : a ≡ ReadBlock o n h). absurd (cc)) (λ (e : b ≡ ReadBlock o n h). absurd (cc)) (among_two (ReadBlock o n h) a b m));
      table = λ u n h is low names m.
          ⊎_elim
          (λ (e : a ≡ ReadTable u n h).
          let at : t ≡ u = cc in
          let place : j ≡ n = cc in
          let found : g ≡ h = cc in
          sym found ∙ (two (names ∙ ap suc (sym at)) ∙ ap (slice_index x.table) place))
          (λ (e : b ≡ ReadTable u n h).
          let at : t ≡ u = cc in
          let place : i ≡ n = cc in
          let found : f ≡ h = cc in
          sym found ∙ (one (names ∙ ap suc (sym at)) ∙ ap (slice_index x.table) place))
          (among_two (ReadTable u n h) a b m);
    }

-- ---- a value in a row of the table t

-- what a load of a word of the table t answers, to a pass with the lock of a container whose root names it
abbrev pub AnswersWord : Shape → ℕ → View → ℕ → ℕ → Type 0
AnswersWord k t v word n = (c : ℕ) → c < container_count k → has_lock c v.log ≡ true → root_in (held_words c v) ≡ suc t → n ≡ slice_index (held_words c v).table word

module _ (k : Shape) (o t row found payload : ℕ) (seen : SeenValue) (table : IsTableName k t) (low : row < rows (kind_in k.starts o) (class_of t)) (few : suc (value_at (kind_in k.starts o) (class_of t) row) < size (class_of t)) (sees : SeesValue k found payload seen) (p q r s : Pass) (shape : (view p).shape ≡ k)
    (one : DidAll (ReadTable t (value_at (kind_in k.starts o) (class_of t) row) found ∷ []) p q) (answers : AnswersWord k t (view p) (value_at (kind_in k.starts o) (class_of t) row) found)
    (two : DidAll (ReadTable t (suc (value_at (kind_in k.starts o) (class_of t) row)) payload ∷ []) q r) (answers_next : AnswersWord k t (view q) (suc (value_at (kind_in k.starts o) (class_of t) row)) payload)
    (three : DidAll (box_acts seen.boxed payload seen.kind seen.value) r s) (known : SeesKnown (view r) payload seen) where
  abbrev kd : Kind
  kd = kind_in k.starts o

  abbrev place : ℕ
  place = value_at (kind_in k.starts o) (class_of t) row

  abbrev words : List Act
  words = ReadTable t (suc place) payload ∷ (ReadTable t place found ∷ [])

  abbrev boxes : List Act
  boxes = box_acts seen.boxed payload seen.kind seen.value

  first : OnlyLoaded (view p) (view q)
  first = loaded_by (ReadTable t place found) (view p) (view q) tt one.1

  both : OnlyLoaded (view p) (view r)
  both = loaded_then (view p) (view q) (view r) first (loaded_by (ReadTable t (suc place) payload) (view q) (view r) tt two.1)

  -- the words of the value, as such a pass knows them
  next_answers : (c : ℕ) → c < container_count k → has_lock c (view p).log ≡ true → root_in (held_words c (view p)) ≡ suc t → payload ≡ slice_index (held_words c (view p)).table (suc place)
  next_answers c inside mine names =
      let same = loaded_held (view p) (view q) c first in
      answers_next c inside (first.work.pass.locks c ∙ mine) (ap root_in same ∙ names) ∙ ap (λ (x : ContainerWords). slice_index x.table (suc place)) same

  words_agree : (c : ℕ) → c < container_count k → has_lock c (view p).log ≡ true → Agrees k c (boxes ++ words) (held_words c (view p))
  words_agree c inside mine =
      agrees_append k c (held_words c (view p)) boxes words (box_agrees k c (held_words c (view p)) seen.boxed payload seen.kind seen.value)
      (two_agree k c (held_words c (view p)) t place found (suc place) payload (answers c inside mine) (next_answers c inside mine))

  -- and the box that they name
  module _ (c : ℕ) (inside : c < container_count k) (mine : has_lock c (view p).log ≡ true) (b : ℕ) (names : named_in_root b (kind_in k.starts c) (root_in (held_words c (view p))) (held_words c (view p)).table ≢ 0) where
    here : c < container_count (view p).shape
    here = subst (λ (z : Shape). c < container_count z) (sym shape) inside

    some_ : named_in_root b (kind_in (view p).shape.starts c) (root_in (held_words c (view p))) (held_words c (view p)).table ≢ 0
    some_ = subst (λ (z : Shape). named_in_root b (kind_in z.starts c) (root_in (held_words c (view p))) (held_words c (view p)).table ≢ 0) (sym shape) names

    known_then : IsKnownBox (view r) b
    known_then =
        let name = root_names_box (view p) c b p.possible here mine some_ in
        let k2 = root_names_known (view p) c b p.possible here mine some_ in
        let one_known = both.boxes.knows b 1 name (inl refl) k2.0 in
        let two_known = both.boxes.knows b 2 name (inr refl) k2.1 in
        (subst (λ (z : Shape). IsBoxName z b) (sym both.work.pass.shape) name, one_known.0, two_known.0)

    found_in : (boxed : Bool) → seen.boxed ≡ boxed → (i f : ℕ) → (i ≡ 1) ⊎ (i ≡ 2) → Among (ReadBox b i f) (box_acts boxed payload seen.kind seen.value) → f ≡ known_box_word (view p).shape b i (view p).log
    found_in false is i f which m = absurd (not_among (ReadBox b i f) m)
    found_in true is i f which m =
        ⊎_elim
        (λ (e : ReadBox payload 2 seen.value ≡ ReadBox b i f).
        let at : payload ≡ b = cc in
        let word : 2 ≡ i = cc in
        let value_is : seen.value ≡ f = cc in
        let told = (known is (subst (IsKnownBox (view r)) (sym at) known_then)).1 in
        sym value_is ∙ (told ∙ ((λ d. known_box_word (view r).shape (at d) (word d) (view r).log) ∙ known_same k c b i p (view r) shape both inside mine which names)))
        (λ (e : ReadBox payload 1 seen.kind ≡ ReadBox b i f).
        let at : payload ≡ b = cc in
        let word : 1 ≡ i = cc in
        let kind_is : seen.kind ≡ f = cc in
        let told = (known is (subst (IsKnownBox (view r)) (sym at) known_then)).0 in
        sym kind_is ∙ (told ∙ ((λ d. known_box_word (view r).shape (at d) (word d) (view r).log) ∙ known_same k c b i p (view r) shape both inside mine which names)))
        (among_two (ReadBox b i f) (ReadBox payload 2 seen.value) (ReadBox payload 1 seen.kind) m)

    boxes_agree : (i f : ℕ) → (i ≡ 1) ⊎ (i ≡ 2) → Among (ReadBox b i f) (boxes ++ words) → f ≡ known_box_word (view p).shape b i (view p).log
    boxes_agree i f which m =
        ⊎_elim (λ n. found_in seen.boxed refl i f which n)
        (λ n. absurd (⊎_elim (λ (e : ReadTable t (suc place) payload ≡ ReadBox b i f). absurd (cc)) (λ (e : ReadTable t place found ≡ ReadBox b i f). absurd (cc)) (among_two (ReadBox b i f) (ReadTable t (suc place) payload) (ReadTable t place found) n)))
        (among_parts (ReadBox b i f) boxes words m)

  -- what was seen is the value of the words as they read
  pub reads_value : Reads k o (λ x. root_in x ≡ suc t → suc (value_at (kind_in k.starts o) (class_of t) row) < length x.table → (seen.kind ≡ slice_index x.table (value_at (kind_in k.starts o) (class_of t) row)) × (seen.value ≡ slice_index x.table (suc (value_at (kind_in k.starts o) (class_of t) row)))) p s
  reads_value = (
    boxes ++ words,
    looks_append boxes words (looks_box seen.boxed payload seen.kind seen.value) tt,
    did_trans boxes words p r s (did_trans (ReadTable t (suc place) payload ∷ []) (ReadTable t place found ∷ []) p q r one two) three,
    (λ x box agrees names long.
        value_seen k o t row found payload seen table low few sees x box agrees names
        (subst (λ (n : ℕ). suc place < n) (ap (λ (l : List ℕ). length l) (by_root box kd (root_in x) t x.table names) ∙ rows_long box kd (class_of t) (rows kd (class_of t)) x.table) long)),
    (λ same c inside mine. (
      words_agree c inside mine,
      λ b names. ((((reads_none k o (λ x. Unit {0}) p (λ x. tt)).4 shape c inside mine).1 b names).0, boxes_agree c inside mine b names),
    )),
  )
