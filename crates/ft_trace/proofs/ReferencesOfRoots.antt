-- A growth moves the references of the table that the root named.
use Rattle.std.proofs.Common.{◌≡◌, ℕ, zero, suc, ◌^◌, ◌<◌, ◌≤◌, eqb, cond, List, ◌∷◌, length, sym, ap, ◌∙◌, subst, arith, get_or-set_other, get_or-set_same}
use mathlib.Core.Logic.{dite}
use native.Mathlib.Decide.{ℕ_discrete}
use Rattle.std.specs.Prelude.{slice_index}
use Rattle.ft_model.specs.declared.script.Kind.{Kind}
use Rattle.ft_trace.specs.declared.Shape.{Shape}
use Rattle.ft_trace.specs.declared.Act.{Act}
use Rattle.ft_trace.specs.declared.Act.TheVariants.{PutRoot}
use Rattle.ft_trace.specs.Addresses.{block, cell, class_of, container_count, IsTableName, extent, at}
use Rattle.ft_trace.specs.Acts.{mem}
use Rattle.ft_trace.specs.ContainerStates.{kind_in}
use Rattle.ft_trace.specs.Pictures.{table_words, root_of, inner}
use Rattle.ft_trace.specs.Kinds.{rows}
use Rattle.ft_trace.specs.Sums.{sum_to}
use Rattle.ft_trace.specs.Boxes.{value_at, names_box, names_box_at, named_in_root, named_in_container, references_held, HasReferences}
use Rattle.ft_trace.specs.BoxGrowths.{CopiesValues, GrowthsMoveReferences}
use Rattle.ft_trace.proofs.Addresses.{at_apart, at_low}
use Rattle.ft_trace.proofs.Cases.{miss}
use Rattle.ft_trace.proofs.Pieces.{table_same}
use Rattle.ft_trace.proofs.Sums.{sum_same}

-- a longer sum whose last ones are 0
sum_longer : (f g : ℕ → ℕ) (n m : ℕ) → m ≤ n → ((i : ℕ) → i < m → f i ≡ g i) → ((i : ℕ) → m ≤ i → i < n → f i ≡ 0) → sum_to f n ≡ sum_to g m
sum_longer f g zero m low same none = let z : m ≡ 0 = omega (arith, low) in sym (ap (sum_to g) z)
sum_longer f g (suc n) m low same none =
    dite (ℕ_discrete m (suc n))
    (λ (e : m ≡ suc n). sum_same f g (suc n) (λ i less. same i (omega (arith, less, e))) ∙ ap (sum_to g) (sym e))
    (λ ne.
    let a = none n (omega (arith, low, ne)) (omega arith) in
    let b = sum_longer f g n m (omega (arith, low, ne)) same (λ i up less. none i up (omega (arith, less))) in
    omega (arith, a, b))

module _ (k : Shape) (l : List Act) (o q t : ℕ) (low : o < container_count k) (is : IsTableName k t) (long : length (mem k l) ≡ extent k) (root_is : root_of k o (mem k l) ≡ suc q) (copies : CopiesValues k o q t (mem k l)) where
  abbrev kd : Kind
  kd = kind_in k.starts o

  root_now : root_of k o (mem k (PutRoot o (suc t) (suc q) ∷ l)) ≡ suc t
  root_now = get_or-set_same (mem k l) (at k (block o 0)) (suc t) 0 (subst (λ (n : ℕ). at k (block o 0) < n) (sym long) (at_low k (block o 0) (low, omega arith)))

  table_now : table_words k t (mem k (PutRoot o (suc t) (suc q) ∷ l)) ≡ table_words k t (mem k l)
  table_now = table_same k t (mem k (PutRoot o (suc t) (suc q) ∷ l)) (mem k l) (λ i small. get_or-set_other (mem k l) (at k (block o 0)) (at k (cell t i)) (suc t) 0 (λ e. let c : cell t i ≡ block o 0 = at_apart k (cell t i) (block o 0) (is, small) (low, omega arith) e in absurd (cc)))

  before_is : (b : ℕ) → named_in_container k b o (mem k l) ≡ named_in_root b kd (suc q) (table_words k q (mem k l))
  before_is b = λ d. named_in_root b kd (root_is d) (inner k (root_is d) (mem k l))

  after_is : (b : ℕ) → named_in_container k b o (mem k (PutRoot o (suc t) (suc q) ∷ l)) ≡ named_in_root b kd (suc t) (table_words k t (mem k l))
  after_is b = (λ d. named_in_root b kd (root_now d) (inner k (root_now d) (mem k (PutRoot o (suc t) (suc q) ∷ l)))) ∙ ap (named_in_root b kd (suc t)) table_now

  same_refs : (b : ℕ) → named_in_container k b o (mem k (PutRoot o (suc t) (suc q) ∷ l)) ≡ named_in_container k b o (mem k l)
  same_refs b =
      after_is b
      ∙ (sum_longer (names_box_at b kd (class_of t) (table_words k t (mem k l))) (names_box_at b kd (class_of q) (table_words k q (mem k l))) (rows kd (class_of t)) (rows kd (class_of q)) copies.more
      (λ p less d. names_box b (copies.kind_is p less d) (copies.payload_is p less d))
      (λ p up less. miss (slice_index (table_words k t (mem k l)) (value_at kd (class_of t) p)) 4 (cond (eqb (slice_index (table_words k t (mem k l)) (suc (value_at kd (class_of t) p))) b) 1 0) 0 (copies.none p up less))
      ∙ sym (before_is b))

  pub moves_refs : ((b : ℕ) → references_held k b l < 2 ^ 32) → HasReferences k l (PutRoot o (suc t) (suc q)) o × ((b : ℕ) → references_held k b (PutRoot o (suc t) (suc q) ∷ l) ≡ references_held k b l)
  moves_refs few =
      let hold : (b : ℕ) → references_held k b (PutRoot o (suc t) (suc q) ∷ l) ≡ references_held k b l = λ b. (let s = same_refs b in omega (arith, s)) in
      ((λ b. (let s = same_refs b in let h = hold b in let f = few b in (omega (arith, s), omega (arith, h, f), (λ none some_. absurd (some_ (s ∙ none)))))), hold)

pub growths_move_references : GrowthsMoveReferences
growths_move_references k l o q t low is long root_is copies few = moves_refs k l o q t low is long root_is copies few
