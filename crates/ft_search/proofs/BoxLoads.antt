-- Loads of boxes: who has a lock knows the boxes that its table names, and a load of a box leaves what a pass knows.
use Rattle.std.proofs.Common.{◌≡◌, ◌≢◌, ◌⊎◌, ℕ, suc, ◌<◌, le_refl, eqb, true, cond, List, [], ◌∷◌, refl, sym, ap, ◌∙◌, subst, inl, inr, arith}
use Rattle.std.specs.Prelude.{slice_index}
use mathlib.Core.Logic.{dite}
use mathlib.Core.Option.{some}
use lib.ListN.{get_elem?}
use native.Mathlib.Decide.{ℕ_discrete}
use Rattle.std.proofs.Math.Logic.{∥∥₁_elim}
use Rattle.std.proofs.Math.Nat.{ℕ_set}
use Rattle.ft_model.specs.declared.script.Kind.{Kind}
use Rattle.ft_trace.specs.declared.Act.{Act}
use Rattle.ft_trace.specs.declared.Act.TheVariants.{ReadBox}
use Rattle.ft_trace.specs.declared.Shape.{Shape}
use Rattle.ft_trace.specs.declared.View.{View}
use Rattle.ft_trace.specs.Acts.{has_lock, mem, seen_writes, view_after}
use Rattle.ft_trace.specs.Addresses.{box_word, container_count, class_of, IsBoxName}
use Rattle.ft_trace.specs.Boxes.{value_at, names_box_at, named_in_root, named_in_container, known_box_word, knows_box_word}
use Rattle.ft_trace.specs.BoxTraces.{references}
use Rattle.ft_trace.specs.ContainerStates.{kind_in}
use Rattle.ft_trace.specs.Holds.{held_words}
use Rattle.ft_trace.specs.Kinds.{rows}
use Rattle.ft_trace.specs.Pictures.{picture, root_in}
use Rattle.ft_trace.specs.Traces.{Event, run, word, Valid}
use Rattle.ft_trace.specs.Unboxed.{unboxed_table}
use Rattle.ft_trace.proofs.BoxKnown.{box_known, named_sure, sure_after, sure_keeps, sure_stays}
use Rattle.ft_trace.proofs.BoxValues.{box_name, box_there}
use Rattle.ft_trace.proofs.Cases.{here, miss}
use Rattle.ft_trace.proofs.EarlierMoments.{was}
use Rattle.ft_trace.proofs.NamedBoxes.{named_known, named_low}
use Rattle.ft_trace.proofs.PlainPuts.{named_is}
use Rattle.ft_trace.proofs.Sums.{sum_at}
use Rattle.ft_trace.proofs.Unboxed.{by_tables, named_row}
use Rattle.ft_bank.specs.Whole.{OnlyLoaded}

-- ---- boxes that a table names

-- the box that the value in this row names, where it names one, is one of the bank, and its value is known
abbrev pub RowKnown : Shape → ℕ → ℕ → ℕ → List Act → Type 0
RowKnown k o t row l =
    has_lock o l ≡ true → root_in (picture k o (mem k l)) ≡ suc t → row < rows (kind_in k.starts o) (class_of t)
    → slice_index (picture k o (mem k l)).table (value_at (kind_in k.starts o) (class_of t) row) ≡ 4
    → IsBoxName k (slice_index (picture k o (mem k l)).table (suc (value_at (kind_in k.starts o) (class_of t) row)))
    × (knows_box_word k (slice_index (picture k o (mem k l)).table (suc (value_at (kind_in k.starts o) (class_of t) row))) 1 l ≡ true)
    × (knows_box_word k (slice_index (picture k o (mem k l)).table (suc (value_at (kind_in k.starts o) (class_of t) row))) 2 l ≡ true)

pub known_row : (k : Shape) (es : List Event) → Valid k es → (j : ℕ) (u : View) → get_elem? (run k es).views j ≡ some u → (o t row : ℕ) → o < container_count k → RowKnown k o t row u.log
known_row k es valid j u at o t row low mine names less four =
    let x = picture k o (mem k u.log) in
    let kd : Kind = kind_in k.starts o in
    let b : ℕ = slice_index x.table (suc (value_at kd (class_of t) row)) in
    let n : named_in_container k b o (mem k u.log) ≡ named_in_root b kd (root_in x) x.table = named_is k o b (mem k u.log) in
    let m : named_in_root b kd (root_in x) x.table ≡ named_in_root b kd (suc t) x.table = ap (λ (r : ℕ). named_in_root b kd r x.table) names in
    let one : names_box_at b kd (class_of t) x.table row ≡ 1 = named_row b kd (class_of t) x.table row four refl in
    let s = sum_at (names_box_at b kd (class_of t) x.table) (rows kd (class_of t)) row less in
    let some_ : named_in_container k b o (mem k u.log) ≢ 0 = λ z. omega (arith, n, m, one, s, z) in
    let su = named_sure k es valid j u at b o low mine some_ in
    let now = named_known k es valid j u at b o low mine in
    let up = named_low k b o (run k es).words low in
    let refs : references k b es ≢ 0 = λ z. some_ (omega (arith, now, up, z)) in
    let state = box_there k b es valid refs in
    (box_name k b es valid (λ z. absurd (omega (arith, state, z))), su.0, su.1)

-- ---- a log of a pass

-- a pass has this log in a valid trace
abbrev pub IsLogged : Shape → List Act → Type 0
IsLogged k l = (es : List Event) × (j : ℕ) × (u : View) × Valid k es × (get_elem? (run k es).views j ≡ some u) × (u.log ≡ l)

-- and had it before its last action
pub logged_before : (k : Shape) (a : Act) (l : List Act) → IsLogged k (a ∷ l) → IsLogged k l
logged_before k a l x =
    let w = was k x.0 x.3 x.1 x.2 x.4 [] a l x.5 in
    (w.older, x.1, w.view, w.valid, w.at, w.log)

-- ---- one load of a box

module _ (k : Shape) (c i f : ℕ) (rest : List Act) (x : IsLogged k (ReadBox c i f ∷ rest)) where
  -- what the pass knew it found
  pub found_known : (b n : ℕ) → IsBoxName k b → (n ≡ 1) ⊎ (n ≡ 2) → knows_box_word k b n rest ≡ true → known_box_word k b n (ReadBox c i f ∷ rest) ≡ known_box_word k b n rest
  found_known b n is which su =
      let w = was k x.0 x.3 x.1 x.2 x.4 [] (ReadBox c i f) rest x.5 in
      let K : ℕ = known_box_word k b n rest in
      let right : K ≡ word k w.older (box_word b n) =
      subst (λ (l : List Act). knows_box_word k b n l ≡ true → known_box_word k b n l ≡ word k w.older (box_word b n)) w.log (box_known k w.older w.valid x.1 w.view w.at b n is which) su in
      dite (ℕ_discrete c b)
      (λ (e : c ≡ b).
      here c b (cond (eqb i n) f K) K e
      ∙ dite (ℕ_discrete i n)
      (λ (g : i ≡ n). here i n f K g ∙ (w.tells ∙ ((λ d. word k w.older (box_word (e d) (g d))) ∙ sym right)))
      (λ ne. miss i n f K ne))
      (λ ne. miss c b (cond (eqb i n) f K) K ne)

  -- so it reads the same
  pub row_read : (o t row n : ℕ) → o < container_count k → has_lock o rest ≡ true → root_in (picture k o (mem k rest)) ≡ suc t → row < rows (kind_in k.starts o) (class_of t)
      → slice_index (picture k o (mem k rest)).table (value_at (kind_in k.starts o) (class_of t) row) ≡ 4 → (n ≡ 1) ⊎ (n ≡ 2)
      → known_box_word k (slice_index (picture k o (mem k rest)).table (suc (value_at (kind_in k.starts o) (class_of t) row))) n (ReadBox c i f ∷ rest)
      ≡ known_box_word k (slice_index (picture k o (mem k rest)).table (suc (value_at (kind_in k.starts o) (class_of t) row))) n rest
  row_read o t row n low mine names less four which =
      let y = logged_before k (ReadBox c i f) rest x in
      let b : ℕ = slice_index (picture k o (mem k rest)).table (suc (value_at (kind_in k.starts o) (class_of t) row)) in
      let known = subst (RowKnown k o t row) y.5 (known_row k y.0 y.3 y.1 y.2 y.4 o t row low) mine names less four in
      found_known b n known.0 which (by n which known.1 known.2)
    where
      by : (n : ℕ) → (n ≡ 1) ⊎ (n ≡ 2) → knows_box_word k (slice_index (picture k o (mem k rest)).table (suc (value_at (kind_in k.starts o) (class_of t) row))) 1 rest ≡ true → knows_box_word k (slice_index (picture k o (mem k rest)).table (suc (value_at (kind_in k.starts o) (class_of t) row))) 2 rest ≡ true → knows_box_word k (slice_index (picture k o (mem k rest)).table (suc (value_at (kind_in k.starts o) (class_of t) row))) n rest ≡ true
      by n (inl e) one two = subst (λ (z : ℕ). knows_box_word k (slice_index (picture k o (mem k rest)).table (suc (value_at (kind_in k.starts o) (class_of t) row))) z rest ≡ true) (sym e) one
      by n (inr e) one two = subst (λ (z : ℕ). knows_box_word k (slice_index (picture k o (mem k rest)).table (suc (value_at (kind_in k.starts o) (class_of t) row))) z rest ≡ true) (sym e) two

-- a load of a box is a load
pub box_load : (v : View) (c i f : ℕ) → ∥ IsLogged v.shape (ReadBox c i f ∷ v.log) ∥₁ → OnlyLoaded v (view_after (ReadBox c i f) v)
box_load v c i f possible =
    let k = v.shape in record {
      work = record { pass = record { number = refl; next = refl; parts = refl; shape = refl; locks = λ p. refl; writes = λ p. refl; announced = refl; flight = refl; begun = refl; cursors = λ n. refl; tokens = refl; learnt = refl; lists = refl; floor = refl; since = refl; owners = record { had = refl; found = refl }; seen = le_refl (seen_writes v); grown = λ old was. inr was; stays_online = λ is. is }; left = refl; entries = refl; committed = λ p. refl; emptied = λ p. refl; hands = λ t. refl; used = refl; debt = refl; owes = refl; past = refl; presence = refl; tables = refl };
      words = refl;
      unboxed = λ p low mine.
          let raw = held_words p v in
          let same : unboxed_table (λ b n. known_box_word k b n (ReadBox c i f ∷ v.log)) (kind_in k.starts p) (root_in raw) raw.table ≡ unboxed_table (λ b n. known_box_word k b n v.log) (kind_in k.starts p) (root_in raw) raw.table =
          by_tables (kind_in k.starts p) (λ b n. known_box_word k b n (ReadBox c i f ∷ v.log)) (λ b n. known_box_word k b n v.log) (root_in raw) raw.table
          (λ t row n names less four which.
          ∥∥₁_elim possible (ℕ_set (known_box_word k (slice_index raw.table (suc (value_at (kind_in k.starts p) (class_of t) row))) n (ReadBox c i f ∷ v.log)) (known_box_word k (slice_index raw.table (suc (value_at (kind_in k.starts p) (class_of t) row))) n v.log))
          (λ x. row_read k c i f v.log x p t row n low mine names less four which)) in
          λ d. record { block = raw.block; table = same d };
      boxes = record {
        references = λ b. refl;
        made = record { state = λ b. refl; local = λ b. refl; taken = λ b. refl; places = λ b. refl; uses = λ b. refl; raised = λ b. refl };
        knows = λ b n is which su. (
          sure_after k b n (ReadBox c i f) v.log (sure_keeps k b n v.log su) (sure_stays b n (ReadBox c i f) (knows_box_word k b n v.log) su),
          ∥∥₁_elim possible (ℕ_set (known_box_word k b n (ReadBox c i f ∷ v.log)) (known_box_word k b n v.log)) (λ x. found_known k c i f v.log x b n is which su),
        );
      };
    }
