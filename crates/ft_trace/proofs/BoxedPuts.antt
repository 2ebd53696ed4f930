-- A value that is put in a box: its two puts have their references, and what the pass holds and knows then.
use Rattle.std.proofs.Common.{◌≡◌, ◌≢◌, ℕ, suc, ◌+◌, ◌-◌, ◌<◌, ◌≤◌, eqb, Bool, true, cond, List, [], ◌∷◌, length, refl, sym, ap, ◌∙◌, subst, inl, inr, arith, length-set, get_or-set_other, get_or-set_same}
use mathlib.Core.Logic.{dite}
use native.Mathlib.Decide.{ℕ_discrete}
use Rattle.std.specs.Prelude.{slice_index, slice_set, Option, Some, None}
use Rattle.std.proofs.lemmas.List.{set_comm}
use Rattle.ft_model.specs.declared.content.Content.{Content}
use Rattle.ft_model.specs.declared.script.Kind.{Kind}
use Rattle.ft_trace.specs.declared.Shape.{Shape}
use Rattle.ft_trace.specs.declared.Act.{Act}
use Rattle.ft_trace.specs.declared.Act.TheVariants.{PutTable}
use Rattle.ft_trace.specs.Addresses.{cell, class_of, container_count, size, IsTableName, extent, at}
use Rattle.ft_trace.specs.Acts.{mem}
use Rattle.ft_trace.specs.ContainerStates.{kind_in}
use Rattle.ft_trace.specs.Pictures.{ContainerWords, table_words, root_in, root_of}
use Rattle.ft_trace.specs.Kinds.{rows}
use Rattle.ft_trace.specs.Boxes.{value_at, names_box, names_box_at, named_in_container, references_held, times_kept, known_box_word, known_box_word_next, knows_box_word, knows_box_word_next, HasReferences}
use Rattle.ft_trace.specs.BoxPuts.{HasOwnReference}
use Rattle.ft_trace.specs.Unboxed.{with_value, unboxed_rows, unboxed_table, unboxed}
use Rattle.ft_trace.specs.WholeWrites.{Put, to_block, to_table, to_value, with_put, MayPuts, HasBox, HasBoxes, spare_after}
use Rattle.ft_trace.proofs.Cases.{miss, here}
use Rattle.ft_trace.proofs.Pieces.{table_long}
use Rattle.ft_trace.proofs.ReadTables.{value_low}
use Rattle.ft_trace.proofs.BoxKnown.{sure_after}
use Rattle.ft_trace.proofs.ReferencesOfPuts.{names_low, names_held, named_sure, root_now, table_now, value_refs, value_named}
use Rattle.ft_trace.proofs.PlainPuts.{FewReferences, by_root}
use Rattle.ft_trace.proofs.ValuePuts.{value_put}

-- ---- what the pass has to spare, along the log

pub spare_low : (box : Option ℕ) (spare : ℕ → ℕ) (c : ℕ) → spare_after box spare c ≤ spare c
spare_low None spare c = omega arith
spare_low (Some b) spare c =
    dite (ℕ_discrete c b)
    (λ (e : c ≡ b). let h : spare_after (Some b) spare c ≡ spare c - 1 = here c b (spare c - 1) (spare c) e in omega (arith, h))
    (λ ne. let h : spare_after (Some b) spare c ≡ spare c = miss c b (spare c - 1) (spare c) ne in omega (arith, h))

-- an action that neither reads nor puts a word of a box
abbrev pub IsOfNoBox : Act → Type 0
IsOfNoBox a =
    ((b i : ℕ) (x : Bool) → knows_box_word_next b i a x ≡ x)
    × ((k : Shape) (b i x : ℕ) → known_box_word_next k b i a x ≡ x)

module _ (k : Shape) (l : List Act) (a : Act) (quiet : IsOfNoBox a) where
  box_after : (spare : ℕ → ℕ) → ((b : ℕ) → spare b ≤ references_held k b (a ∷ l)) → (box : Option ℕ) (kind payload : ℕ) → HasBox k l spare box kind payload → HasBox k (a ∷ l) spare box kind payload
  box_after spare enough None kind payload has = tt
  box_after spare enough (Some b) kind payload has =
      let some_ = has.0 in
      let e = enough b in
      let kept : times_kept k b (a ∷ l) ≢ 0 = λ z. omega (arith, z, some_, e) in
      let knows : (i : ℕ) → knows_box_word k b i l ≡ true → knows_box_word k b i (a ∷ l) ≡ true = λ i su. sure_after k b i a l kept (quiet.0 b i (knows_box_word k b i l) ∙ su) in
      (some_, knows 1 has.1, knows 2 has.2, quiet.1 k b 1 (known_box_word k b 1 l) ∙ has.3, quiet.1 k b 2 (known_box_word k b 2 l) ∙ has.4)

  pub boxes_after : (puts : List Put) (spare : ℕ → ℕ) → ((b : ℕ) → spare b ≤ references_held k b (a ∷ l)) → HasBoxes k l spare puts → HasBoxes k (a ∷ l) spare puts
  boxes_after [] spare enough has = tt
  boxes_after (to_block i x ∷ puts) spare enough has = boxes_after puts spare enough has
  boxes_after (to_table i x ∷ puts) spare enough has = boxes_after puts spare enough has
  boxes_after (to_value box i j kind payload ∷ puts) spare enough has =
      (box_after spare enough box kind payload has.0, boxes_after puts (spare_after box spare) (λ b. let s = spare_low box spare b in let e = enough b in omega (arith, s, e)) has.1)

-- after the commit no value is put in a box
pub none_late : (kind : Kind) (t : ℕ) (d : Content) (k : Shape) (l : List Act) (puts : List Put) (words : ContainerWords) (spare : ℕ → ℕ) → MayPuts kind t d true words puts → HasBoxes k l spare puts
none_late kind t d k l [] words spare may = tt
none_late kind t d k l (to_block i x ∷ puts) words spare may = none_late kind t d k l puts (with_put words (to_block i x)) spare may.1
none_late kind t d k l (to_table i x ∷ puts) words spare may = none_late kind t d k l puts (with_put words (to_table i x)) spare may.1
none_late kind t d k l (to_value box i j a b ∷ puts) words spare may =
    let none : box ≡ None = may.0.3 refl in
    (subst (λ (z : Option ℕ). HasBox k l spare z a b) (sym none) tt, none_late kind t d k l puts (with_put words (to_value box i j a b)) (spare_after box spare) may.1)

-- ---- the two puts

names_most : (x kind b : ℕ) → names_box x kind b ≤ names_box x 4 b
names_most x kind b =
    dite (ℕ_discrete kind 4)
    (λ (e : kind ≡ 4). let same : names_box x kind b ≡ names_box x 4 b = ap (λ (z : ℕ). names_box x z b) e in omega (arith, same))
    (λ ne. let none : names_box x kind b ≡ 0 = miss kind 4 (cond (eqb b x) 1 0) 0 ne in omega (arith, none))

module _ (k : Shape) (l : List Act) (o t p b : ℕ) (low : o < container_count k) (is : IsTableName k t) (less : p < rows (kind_in k.starts o) (class_of t)) (long : length (mem k l) ≡ extent k) (root_is : root_of k o (mem k l) ≡ suc t) (few : FewReferences k o l) (own : HasOwnReference k l b) where
  abbrev kd : Kind
  kd = kind_in k.starts o

  abbrev c : ℕ
  c = class_of t

  abbrev place : ℕ
  place = value_at kd c p

  abbrev l1 : List Act
  l1 = PutTable o t (suc place) b ∷ l

  abbrev l2 : List Act
  l2 = PutTable o t place 4 ∷ l1

  abbrev T0 : List ℕ
  T0 = table_words k t (mem k l)

  abbrev T1 : List ℕ
  T1 = slice_set T0 (suc place) b

  abbrev T2 : List ℕ
  T2 = slice_set T1 place 4

  abbrev named : ℕ → List Act → ℕ
  named x log = named_in_container k x o (mem k log)

  inside : suc place < size c
  inside = value_low kd c p is.0 less

  first_low : place < size c
  first_low = let i = inside in omega (arith, i)

  wide : length T0 ≡ size c
  wide = table_long k t (mem k l)

  payload1 : slice_index T1 (suc place) ≡ b
  payload1 = get_or-set_same T0 (suc place) b 0 (let w = wide in let i = inside in omega (arith, w, i))

  payload2 : slice_index T2 (suc place) ≡ b
  payload2 = get_or-set_other T1 place (suc place) 4 0 (λ z. omega (arith, z)) ∙ payload1

  kind2 : slice_index T2 place ≡ 4
  kind2 = get_or-set_same T1 place 4 0 (let w = wide in let i = inside in let s = length-set T0 (suc place) b in omega (arith, w, i, s))

  pub first_refs : HasReferences k l (PutTable o t (suc place) b) o
  first_refs = value_refs k l o t (suc place) b low is inside long root_is p less (inr refl) (λ _. subst (HasOwnReference k l) (sym payload1) own) (λ x. let f = few x in omega (arith, f))

  long1 : length (mem k l1) ≡ extent k
  long1 = length-set (mem k l) (at k (cell t (suc place))) b ∙ long

  root1 : root_of k o (mem k l1) ≡ suc t
  root1 = root_now k l o t (suc place) b low is inside long root_is

  table1 : table_words k t (mem k l1) ≡ T1
  table1 = table_now k l o t (suc place) b low is inside long root_is

  named1 : (x : ℕ) → named x l1 + names_box_at x kd c T0 p ≡ named x l + names_box_at x kd c T1 p
  named1 x = value_named k l o t (suc place) b low is inside long root_is p less (inr refl) x

  named2 : (x : ℕ) → named x l2 + names_box_at x kd c T1 p ≡ named x l1 + names_box_at x kd c T2 p
  named2 x =
      subst (λ (z : List ℕ). named x l2 + names_box_at x kd c z p ≡ named x l1 + names_box_at x kd c (slice_set z place 4) p) table1 (value_named k l1 o t place 4 low is first_low long1 root1 p less (inl refl) x)

  row1 : (x : ℕ) → names_box_at x kd c T1 p ≤ names_box x 4 b
  row1 x = subst (λ (z : ℕ). names_box x (slice_index T1 place) z ≤ names_box x 4 b) (sym payload1) (names_most x (slice_index T1 place) b)

  row2 : (x : ℕ) → names_box_at x kd c T2 p ≡ names_box x 4 b
  row2 x = λ d. names_box x (kind2 d) (payload2 d)

  step1 : (x : ℕ) → references_held k x l1 ≡ references_held k x l + named x l - named x l1
  step1 x = refl

  step2 : (x : ℕ) → references_held k x l2 ≡ references_held k x l1 + named x l1 - named x l2
  step2 x = refl

  pub second_refs : HasReferences k l1 (PutTable o t place 4) o
  second_refs x =
      let r = (first_refs x).0 in
      let n1 = named1 x in
      let n2 = named2 x in
      let r2 = row2 x in
      let own_x = names_held k l x 4 b (λ _. own.0) in
      let h1 = step1 x in
      let h2 = step2 x in
      let f = few x in (
        omega (arith, r, n1, n2, r2, own_x, h1),
        omega (arith, r, h1, h2, f),
        (λ none some_.
            let names : names_box x 4 b ≢ 0 = λ z. some_ (omega (arith, n2, r2, none, z)) in
            let know = named_sure k l x 4 b names (λ _. (own.1, own.2)) in
            let kept : times_kept k x l1 ≢ 0 = λ z. names (omega (arith, z, h1, none, own_x)) in
            (sure_after k x 1 (PutTable o t (suc place) b) l kept know.0, sure_after k x 2 (PutTable o t (suc place) b) l kept know.1)),
      )

  -- what the pass holds after the first put, and after both
  held1 : (x : ℕ) → references_held k x l ≤ references_held k x l1 + names_box x 4 b
  held1 x = let r = (first_refs x).0 in let n1 = named1 x in let r1 = row1 x in let h1 = step1 x in omega (arith, r, n1, r1, h1)

  held2 : (x : ℕ) → references_held k x l ≤ references_held k x l2 + names_box x 4 b
  held2 x =
      let r = (first_refs x).0 in
      let s = (second_refs x).0 in
      let n1 = named1 x in
      let n2 = named2 x in
      let r2 = row2 x in
      let h1 = step1 x in
      let h2 = step2 x in
      omega (arith, r, s, n1, n2, r2, h1, h2)

  left_of : (spare : ℕ → ℕ) (x held now : ℕ) → spare x ≤ held → held ≤ now + names_box x 4 b → spare_after (Some b) spare x ≤ now
  left_of spare x held now enough most_ =
      dite (ℕ_discrete x b)
      (λ (e : x ≡ b). let h : spare_after (Some b) spare x ≡ spare x - 1 = here x b (spare x - 1) (spare x) e in let n = names_low x 4 b in omega (arith, h, n, enough, most_))
      (λ ne. let h : spare_after (Some b) spare x ≡ spare x = miss x b (spare x - 1) (spare x) ne in let n : names_box x 4 b ≡ 0 = miss b x 1 0 (λ z. ne (sym z)) in omega (arith, h, n, enough, most_))

  pub spare1 : (spare : ℕ → ℕ) → ((x : ℕ) → spare x ≤ references_held k x l) → (x : ℕ) → spare_after (Some b) spare x ≤ references_held k x l1
  spare1 spare enough x = left_of spare x (references_held k x l) (references_held k x l1) (enough x) (held1 x)

  pub spare2 : (spare : ℕ → ℕ) → ((x : ℕ) → spare x ≤ references_held k x l) → (x : ℕ) → spare_after (Some b) spare x ≤ references_held k x l2
  spare2 spare enough x = left_of spare x (references_held k x l) (references_held k x l2) (enough x) (held2 x)

-- ---- what is read then

pub unboxed_boxed : (box : ℕ → ℕ → ℕ) (kind : Kind) (raw : ContainerWords) (t p c a b : ℕ) → root_in raw ≡ suc t → p < rows kind (class_of t) → suc (value_at kind (class_of t) p) < length raw.table → box c 1 ≡ a → box c 2 ≡ b
    → unboxed box kind (with_put (with_put raw (to_table (suc (value_at kind (class_of t) p)) c)) (to_table (value_at kind (class_of t) p) 4)) ≡ with_put (unboxed box kind raw) (to_value (Some c) (value_at kind (class_of t) p) (suc (value_at kind (class_of t) p)) a b)
unboxed_boxed box kind raw t p c a b names less long one two =
    let n : ℕ = rows kind (class_of t) in
    let place : ℕ = value_at kind (class_of t) p in
    let read : List ℕ = unboxed_rows box kind (class_of t) n raw.table in
    let both : slice_set (slice_set raw.table (suc place) c) place 4 ≡ with_value place 4 c raw.table = set_comm raw.table (suc place) place c 4 (λ z. omega (arith, z)) in
    let e : unboxed_table box kind (root_in raw) (slice_set (slice_set raw.table (suc place) c) place 4) ≡ with_value place a b (unboxed_table box kind (root_in raw) raw.table) =
    ap (unboxed_table box kind (root_in raw)) both
    ∙ (by_root box kind (root_in raw) t (with_value place 4 c raw.table) names
    ∙ (value_put box kind (class_of t) n p 4 c raw.table less long
    ∙ ((λ d. with_value place (one d) (two d) read) ∙ ap (with_value place a b) (sym (by_root box kind (root_in raw) t raw.table names))))) in
    λ d. record { block = raw.block; table = e d }
