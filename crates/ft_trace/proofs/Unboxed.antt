-- What the words of a container read through boxes stays while its own words stay, and a value put in a box reads as
-- the value.
use Rattle.std.proofs.Common.{◌≡◌, ◌≢◌, ◌⊎◌, ℕ, zero, suc, ◌<◌, eqb, true, cond, List, ◌∷◌, refl, sym, ap, ◌∙◌, inl, inr, arith}
use mathlib.Core.Logic.{dite}
use native.Mathlib.Decide.{ℕ_discrete}
use Rattle.std.specs.Prelude.{slice_index}
use Rattle.ft_model.specs.declared.script.Kind.{Kind}
use Rattle.ft_model.specs.declared.script.Kind.TheVariants as kind
use Rattle.ft_trace.specs.declared.Shape.{Shape}
use Rattle.ft_trace.specs.declared.View.{View}
use Rattle.ft_trace.specs.declared.Act.{Act}
use Rattle.ft_trace.specs.Addresses.{class_of, container_count}
use Rattle.ft_trace.specs.Acts.{is_writing}
use Rattle.ft_trace.specs.ContainerStates.{kind_in}
use Rattle.ft_trace.specs.Pictures.{ContainerWords, picture, root_of, root_in, inner}
use Rattle.ft_trace.specs.Kinds.{rows}
use Rattle.ft_trace.specs.Boxes.{value_at, names_box_at, named_in_root, named_in_container}
use Rattle.ft_trace.specs.BoxTraces.{references}
use Rattle.ft_trace.specs.Unboxed.{box_word_in, unboxed_kind, unboxed_payload, with_value, unboxed_rows, unboxed_table, unboxed, unboxed_picture}
use Rattle.ft_trace.specs.Traces.{Event, did, run, Valid}
use Rattle.ft_trace.proofs.Cases.{miss, here}
use Rattle.ft_trace.proofs.Pieces.{block_at}
use Rattle.ft_trace.proofs.Contents.{unwritten}
use Rattle.ft_trace.proofs.Sums.{sum_at}
use Rattle.ft_trace.proofs.BoxValues.{value_stays}

-- ---- lists

-- the value words of two rows lie apart
pub value_apart : (kind : Kind) (class p q : ℕ) → p < q → suc (value_at kind class p) < value_at kind class q
value_apart kind.List class p q less = omega (arith, less)
value_apart kind.Dict class p q less = omega (arith, less)
value_apart kind.Set class p q less = omega (arith, less)
value_apart (kind.Deque bound) class p q less = omega (arith, less)

-- boxes with the same values read the same
pub rows_same : (box other : ℕ → ℕ → ℕ) (kind : Kind) (class n : ℕ) (table : List ℕ) → ((p i : ℕ) → p < n → slice_index table (value_at kind class p) ≡ 4 → (i ≡ 1) ⊎ (i ≡ 2) → box (slice_index table (suc (value_at kind class p))) i ≡ other (slice_index table (suc (value_at kind class p))) i) → unboxed_rows box kind class n table ≡ unboxed_rows other kind class n table
rows_same box other kind class zero table same = refl
rows_same box other kind class (suc p) table same =
    let place : ℕ = value_at kind class p in
    let x : ℕ = slice_index table place in
    let y : ℕ = slice_index table (suc place) in
    let rest = rows_same box other kind class p table (λ q i less. same q i (omega (arith, less))) in
    let a : unboxed_kind box x y ≡ unboxed_kind other x y = dite (ℕ_discrete x 4) (λ (e : x ≡ 4). here x 4 (box y 1) x e ∙ (same p 1 (omega arith) e (inl refl) ∙ sym (here x 4 (other y 1) x e))) (λ ne. miss x 4 (box y 1) x ne ∙ sym (miss x 4 (other y 1) x ne)) in
    let b : unboxed_payload box x y ≡ unboxed_payload other x y = dite (ℕ_discrete x 4) (λ (e : x ≡ 4). here x 4 (box y 2) y e ∙ (same p 2 (omega arith) e (inr refl) ∙ sym (here x 4 (other y 2) y e))) (λ ne. miss x 4 (box y 2) y ne ∙ sym (miss x 4 (other y 2) y ne)) in
    λ d. with_value place (a d) (b d) (rest d)

-- ---- boxes that are named

-- a value of a table that a root names is a reference
pub named_row : (b : ℕ) (kind : Kind) (class : ℕ) (table : List ℕ) (p : ℕ) → slice_index table (value_at kind class p) ≡ 4 → slice_index table (suc (value_at kind class p)) ≡ b → names_box_at b kind class table p ≡ 1
named_row b kind class table p is of = here (slice_index table (value_at kind class p)) 4 (cond (eqb (slice_index table (suc (value_at kind class p))) b) 1 0) 0 is ∙ here (slice_index table (suc (value_at kind class p))) b 1 0 of

pub refs_of_row : (k : Shape) (es : List Event) (o : ℕ) → o < container_count k → (t p : ℕ) → root_of k o (run k es).words ≡ suc t → p < rows (kind_in k.starts o) (class_of t) → slice_index (inner k (root_of k o (run k es).words) (run k es).words) (value_at (kind_in k.starts o) (class_of t) p) ≡ 4 → references k (slice_index (inner k (root_of k o (run k es).words) (run k es).words) (suc (value_at (kind_in k.starts o) (class_of t) p))) es ≢ 0
refs_of_row k es o low t p names_it less is =
    let ws : List ℕ = (run k es).words in
    let kd : Kind = kind_in k.starts o in
    let table : List ℕ = inner k (root_of k o ws) ws in
    let b : ℕ = slice_index table (suc (value_at kd (class_of t) p)) in
    let one = named_row b kd (class_of t) table p is refl in
    let s = sum_at (names_box_at b kd (class_of t) table) (rows kd (class_of t)) p less in
    let r : named_in_container k b o ws ≡ named_in_root b kd (suc t) table = ap (λ (z : ℕ). named_in_root b kd z table) names_it in
    let l = sum_at (λ q. named_in_container k b q ws) (container_count k) o low in
    λ z. absurd (omega (arith, one, s, r, l, z))

-- ---- who doesn't write a container changes nothing that it reads

pub by_tables : (kind : Kind) (box other : ℕ → ℕ → ℕ) (r : ℕ) (table : List ℕ) → ((t p i : ℕ) → r ≡ suc t → p < rows kind (class_of t) → slice_index table (value_at kind (class_of t) p) ≡ 4 → (i ≡ 1) ⊎ (i ≡ 2) → box (slice_index table (suc (value_at kind (class_of t) p))) i ≡ other (slice_index table (suc (value_at kind (class_of t) p))) i) → unboxed_table box kind r table ≡ unboxed_table other kind r table
by_tables kind box other zero table same = refl
by_tables kind box other (suc t) table same = rows_same box other kind (class_of t) (rows kind (class_of t)) table (λ p i less is w. same t p i refl less is w)

-- a step that leaves the words of a container leaves what they read
pub read_stays : (k : Shape) (es : List Event) (id : ℕ) (v : View) (a : Act) → Valid k (did id v a ∷ es) → (o : ℕ) → o < container_count k → picture k o (run k (did id v a ∷ es)).words ≡ picture k o (run k es).words → unboxed_picture k o (run k (did id v a ∷ es)).words ≡ unboxed_picture k o (run k es).words
read_stays k es id v a valid o low same =
    let ws : List ℕ = (run k es).words in
    let zs : List ℕ = (run k (did id v a ∷ es)).words in
    let kd : Kind = kind_in k.starts o in
    let x : ContainerWords = picture k o ws in
    let root_is : root_in x ≡ root_of k o ws = block_at k o ws 0 (omega arith) in
    let step : unboxed_table (box_word_in k zs) kd (root_in x) x.table ≡ unboxed_table (box_word_in k ws) kd (root_in x) x.table =
    by_tables kd (box_word_in k zs) (box_word_in k ws) (root_in x) x.table
    (λ t p i names_it less is which.
    let b : ℕ = slice_index x.table (suc (value_at kd (class_of t) p)) in
    let r = refs_of_row k es o low t p (sym root_is ∙ names_it) less is in
    value_stays k es id v b i valid.0 valid.1.0 r (which_low i which) (which_up i which) (which_not i which) a valid.1.3) in
    ap (unboxed (box_word_in k zs) kd) same ∙ (λ d. record { block = x.block; table = step d })
  where
    which_low : (i : ℕ) → (i ≡ 1) ⊎ (i ≡ 2) → i < 4
    which_low i (inl e) = omega (arith, e)
    which_low i (inr e) = omega (arith, e)

    which_up : (i : ℕ) → (i ≡ 1) ⊎ (i ≡ 2) → i ≢ 0
    which_up i (inl e) z = omega (arith, e, z)
    which_up i (inr e) z = omega (arith, e, z)

    which_not : (i : ℕ) → (i ≡ 1) ⊎ (i ≡ 2) → i ≢ 3
    which_not i (inl e) z = omega (arith, e, z)
    which_not i (inr e) z = omega (arith, e, z)

-- also where another box is dropped, merged, given back or made
pub read_unwritten : (k : Shape) (es : List Event) (id : ℕ) (v : View) (a : Act) → Valid k (did id v a ∷ es) → (o : ℕ) → o < container_count k → (is_writing o v.log ≡ true → ⊥) → unboxed_picture k o (run k (did id v a ∷ es)).words ≡ unboxed_picture k o (run k es).words
read_unwritten k es id v a valid o low never = read_stays k es id v a valid o low (unwritten k es id v a valid o low never).picture
