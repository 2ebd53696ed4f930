-- A put of a word that names no box needs no reference, and one after which a value names a box needs one for it.
use Rattle.std.proofs.Common.{◌≡◌, ◌≢◌, ◌⊎◌, ℕ, suc, ◌+◌, ◌-◌, ◌^◌, ◌<◌, ◌≤◌, eqb, true, cond, List, ◌∷◌, length, refl, sym, ap, ◌∙◌, subst, ⊎_elim, arith, get_or-set_other}
use mathlib.Core.Logic.{dite}
use native.Mathlib.Decide.{ℕ_discrete}
use Rattle.std.proofs.Math.Decide.{dec_lt}
use Rattle.std.specs.Prelude.{slice_index, slice_set}
use Rattle.ft_model.specs.declared.script.Kind.{Kind}
use Rattle.ft_trace.specs.declared.Shape.{Shape}
use Rattle.ft_trace.specs.declared.Act.{Act}
use Rattle.ft_trace.specs.declared.Act.TheVariants.{PutTable}
use Rattle.ft_trace.specs.Addresses.{block, cell, class_of, container_count, size, IsTableName, extent, at}
use Rattle.ft_trace.specs.Acts.{mem}
use Rattle.ft_trace.specs.ContainerStates.{kind_in}
use Rattle.ft_trace.specs.Pictures.{table_words, root_of, inner}
use Rattle.ft_trace.specs.Kinds.{rows}
use Rattle.ft_trace.specs.Sums.{sum_to}
use Rattle.ft_trace.specs.Boxes.{value_at, names_box, names_box_at, named_in_root, named_in_container, references_held, knows_box_word, HasReferences}
use Rattle.ft_trace.specs.BoxPuts.{PutsHaveReferences}
use Rattle.ft_trace.proofs.Addresses.{at_apart, at_low}
use Rattle.ft_trace.proofs.Cases.{miss, here}
use Rattle.ft_trace.proofs.Pieces.{table_set}
use Rattle.ft_trace.proofs.Sums.{sum_same, sum_one}
use Rattle.ft_trace.proofs.Unboxed.{value_apart}

pub names_low : (b kind payload : ℕ) → names_box b kind payload ≤ 1
names_low b kind payload =
    let one : ℕ = cond (eqb payload b) 1 0 in
    dite (ℕ_discrete kind 4)
    (λ (e : kind ≡ 4).
    let x : names_box b kind payload ≡ one = here kind 4 one 0 e in
    dite (ℕ_discrete payload b) (λ (f : payload ≡ b). let y : one ≡ 1 = here payload b 1 0 f in omega (arith, x, y)) (λ ne. let y : one ≡ 0 = miss payload b 1 0 ne in omega (arith, x, y)))
    (λ ne. let x : names_box b kind payload ≡ 0 = miss kind 4 one 0 ne in omega (arith, x))

-- a value that names a box for which a reference is held
pub names_held : (k : Shape) (l : List Act) (b kind payload : ℕ) → (kind ≡ 4 → 0 < references_held k payload l) → names_box b kind payload ≤ references_held k b l
names_held k l b kind payload held_words =
    let one : ℕ = cond (eqb payload b) 1 0 in
    dite (ℕ_discrete kind 4)
    (λ (e : kind ≡ 4).
    let x : names_box b kind payload ≡ one = here kind 4 one 0 e in
    dite (ℕ_discrete payload b)
    (λ (f : payload ≡ b). let y : one ≡ 1 = here payload b 1 0 f in let h : 0 < references_held k b l = subst (λ (z : ℕ). 0 < references_held k z l) f (held_words e) in omega (arith, x, y, h))
    (λ ne. let y : one ≡ 0 = miss payload b 1 0 ne in omega (arith, x, y)))
    (λ ne. let x : names_box b kind payload ≡ 0 = miss kind 4 one 0 ne in omega (arith, x))

-- and whose value the pass knows
pub named_sure : (k : Shape) (l : List Act) (b kind payload : ℕ) → names_box b kind payload ≢ 0 → (kind ≡ 4 → (knows_box_word k payload 1 l ≡ true) × (knows_box_word k payload 2 l ≡ true)) → (knows_box_word k b 1 l ≡ true) × (knows_box_word k b 2 l ≡ true)
named_sure k l b kind payload some_ knows =
    dite (ℕ_discrete kind 4)
    (λ (e : kind ≡ 4).
    dite (ℕ_discrete payload b)
    (λ (f : payload ≡ b). subst (λ (z : ℕ). (knows_box_word k z 1 l ≡ true) × (knows_box_word k z 2 l ≡ true)) f (knows e))
    (λ ne. absurd (some_ (here kind 4 (cond (eqb payload b) 1 0) 0 e ∙ miss payload b 1 0 ne))))
    (λ ne. absurd (some_ (miss kind 4 (cond (eqb payload b) 1 0) 0 ne)))

module _ (k : Shape) (l : List Act) (o t i x : ℕ) (low : o < container_count k) (is : IsTableName k t) (small : i < size (class_of t)) (long : length (mem k l) ≡ extent k) (root_is : root_of k o (mem k l) ≡ suc t) where
  abbrev kd : Kind
  kd = kind_in k.starts o

  abbrev Old : List ℕ
  Old = table_words k t (mem k l)

  abbrev New : List ℕ
  New = slice_set (table_words k t (mem k l)) i x

  abbrev Place : ℕ → ℕ
  Place p = value_at kd (class_of t) p

  pub root_now : root_of k o (mem k (PutTable o t i x ∷ l)) ≡ suc t
  root_now = get_or-set_other (mem k l) (at k (cell t i)) (at k (block o 0)) x 0 (λ e. let c : block o 0 ≡ cell t i = at_apart k (block o 0) (cell t i) (low, omega arith) (is, small) e in absurd (cc)) ∙ root_is

  before_is : (b : ℕ) → named_in_container k b o (mem k l) ≡ named_in_root b kd (suc t) Old
  before_is b = λ d. named_in_root b kd (root_is d) (inner k (root_is d) (mem k l))

  pub table_now : table_words k t (mem k (PutTable o t i x ∷ l)) ≡ New
  table_now = table_set k t (mem k l) i x small (subst (λ (n : ℕ). at k (cell t i) < n) (sym long) (at_low k (cell t i) (is, small)))

  after_is : (b : ℕ) → named_in_container k b o (mem k (PutTable o t i x ∷ l)) ≡ named_in_root b kd (suc t) New
  after_is b = (λ d. named_in_root b kd (root_now d) (inner k (root_now d) (mem k (PutTable o t i x ∷ l)))) ∙ ap (named_in_root b kd (suc t)) table_now

  -- a word that isn't of this value
  row_stays : (b q : ℕ) → i ≢ Place q → i ≢ suc (Place q) → names_box_at b kd (class_of t) New q ≡ names_box_at b kd (class_of t) Old q
  row_stays b q n m =
      let one : slice_index New (Place q) ≡ slice_index Old (Place q) = get_or-set_other Old i (Place q) x 0 (λ z. n (sym z)) in
      let two : slice_index New (suc (Place q)) ≡ slice_index Old (suc (Place q)) = get_or-set_other Old i (suc (Place q)) x 0 (λ z. m (sym z)) in
      λ d. names_box b (one d) (two d)

  -- of no value
  pub word_refs : ((q : ℕ) → q < rows kd (class_of t) → (i ≢ Place q) × (i ≢ suc (Place q))) → ((b : ℕ) → references_held k b l + 1 < 2 ^ 32) → HasReferences k l (PutTable o t i x) o
  word_refs far few b =
      let s = sum_same (names_box_at b kd (class_of t) New) (names_box_at b kd (class_of t) Old) (rows kd (class_of t)) (λ q less. row_stays b q (far q less).0 (far q less).1) in
      let a = after_is b in
      let c = before_is b in
      let f = few b in
      (omega (arith, s, a, c), omega (arith, s, a, c, f), (λ none some_. absurd (some_ (omega (arith, s, a, c, none)))))

  -- the words of the value in row p lie apart from those of others
  row_apart : (p : ℕ) → (i ≡ Place p) ⊎ (i ≡ suc (Place p)) → (q : ℕ) → q ≢ p → (i ≢ Place q) × (i ≢ suc (Place q))
  row_apart p which q ne =
      dite (dec_lt q p)
      (λ under. let f = value_apart kd (class_of t) q p under in ⊎_elim (λ (e : i ≡ Place p). ((λ z. omega (arith, e, z, f)), (λ z. omega (arith, e, z, f)))) (λ (e : i ≡ suc (Place p)). ((λ z. omega (arith, e, z, f)), (λ z. omega (arith, e, z, f)))) which)
      (λ above. let f = value_apart kd (class_of t) p q (omega (arith, above, ne)) in ⊎_elim (λ (e : i ≡ Place p). ((λ z. omega (arith, e, z, f)), (λ z. omega (arith, e, z, f)))) (λ (e : i ≡ suc (Place p)). ((λ z. omega (arith, e, z, f)), (λ z. omega (arith, e, z, f)))) which)

  value_sum : (p : ℕ) → p < rows kd (class_of t) → (i ≡ Place p) ⊎ (i ≡ suc (Place p)) → (b : ℕ) → sum_to (names_box_at b kd (class_of t) New) (rows kd (class_of t)) + names_box_at b kd (class_of t) Old p ≡ sum_to (names_box_at b kd (class_of t) Old) (rows kd (class_of t)) + names_box_at b kd (class_of t) New p
  value_sum p less which b = sum_one (names_box_at b kd (class_of t) New) (names_box_at b kd (class_of t) Old) (rows kd (class_of t)) p less (λ q _ ne. row_stays b q (row_apart p which q ne).0 (row_apart p which q ne).1)

  -- of the value in row p, which names a box after it only if the pass holds a reference for that
  pub value_refs : (p : ℕ) → p < rows kd (class_of t) → (i ≡ Place p) ⊎ (i ≡ suc (Place p)) → (slice_index New (Place p) ≡ 4 → (0 < references_held k (slice_index New (suc (Place p))) l) × (knows_box_word k (slice_index New (suc (Place p))) 1 l ≡ true) × (knows_box_word k (slice_index New (suc (Place p))) 2 l ≡ true)) → ((b : ℕ) → references_held k b l + 1 < 2 ^ 32) → HasReferences k l (PutTable o t i x) o
  value_refs p less which held_words few b =
      let s = value_sum p less which b in
      let h = names_held k l b (slice_index New (Place p)) (slice_index New (suc (Place p))) (λ e. (held_words e).0) in
      let n = names_low b (slice_index Old (Place p)) (slice_index Old (suc (Place p))) in
      let a = after_is b in
      let c = before_is b in
      let f = few b in (
        omega (arith, s, h, a, c),
        omega (arith, s, n, a, c, f),
        (λ none some_. named_sure k l b (slice_index New (Place p)) (slice_index New (suc (Place p))) (λ z. some_ (omega (arith, s, a, c, none, z))) (λ e. ((held_words e).1, (held_words e).2))),
      )

  -- what the container names then
  pub value_named : (p : ℕ) → p < rows kd (class_of t) → (i ≡ Place p) ⊎ (i ≡ suc (Place p)) → (b : ℕ) → named_in_container k b o (mem k (PutTable o t i x ∷ l)) + names_box_at b kd (class_of t) Old p ≡ named_in_container k b o (mem k l) + names_box_at b kd (class_of t) New p
  value_named p less which b =
      let s = value_sum p less which b in
      let a = after_is b in
      let c = before_is b in
      omega (arith, s, a, c)

  -- the references that the pass holds stay where the word is no value's, and where the value names no box
  pub word_held : ((q : ℕ) → q < rows kd (class_of t) → (i ≢ Place q) × (i ≢ suc (Place q))) → (b : ℕ) → references_held k b l ≤ references_held k b (PutTable o t i x ∷ l)
  word_held far b =
      let s = sum_same (names_box_at b kd (class_of t) New) (names_box_at b kd (class_of t) Old) (rows kd (class_of t)) (λ q less. row_stays b q (far q less).0 (far q less).1) in
      let a = after_is b in
      let c = before_is b in
      let h : references_held k b (PutTable o t i x ∷ l) ≡ references_held k b l + named_in_container k b o (mem k l) - named_in_container k b o (mem k (PutTable o t i x ∷ l)) = refl in
      omega (arith, s, a, c, h)

  pub plain_held : (p : ℕ) → p < rows kd (class_of t) → (i ≡ Place p) ⊎ (i ≡ suc (Place p)) → slice_index New (Place p) ≢ 4 → (b : ℕ) → references_held k b l ≤ references_held k b (PutTable o t i x ∷ l)
  plain_held p less which plain b =
      let s = value_named p less which b in
      let none : names_box_at b kd (class_of t) New p ≡ 0 = miss (slice_index New (Place p)) 4 (cond (eqb (slice_index New (suc (Place p))) b) 1 0) 0 plain in
      let h : references_held k b (PutTable o t i x ∷ l) ≡ references_held k b l + named_in_container k b o (mem k l) - named_in_container k b o (mem k (PutTable o t i x ∷ l)) = refl in
      omega (arith, s, none, h)

pub puts_have_references : PutsHaveReferences
puts_have_references k l o t i x low is small long root_is few = ((λ far. word_refs k l o t i x low is small long root_is far few), (λ p less which held_words. value_refs k l o t i x low is small long root_is p less which held_words few))
