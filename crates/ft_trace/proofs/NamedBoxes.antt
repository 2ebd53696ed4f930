-- Which values name a box, after an action.
use Rattle.std.proofs.Common.{◌≡◌, ◌≢◌, ℕ, suc, ◌+◌, ◌<◌, ◌≤◌, true, List, ◌∷◌, refl, sym, ap, ◌∙◌, inr, arith}
use mathlib.Core.Option.{some}
use lib.ListN.{get_elem?}
use Rattle.std.specs.Prelude.{slice_index}
use Rattle.ft_trace.specs.declared.Shape.{Shape}
use Rattle.ft_trace.specs.declared.View.{View}
use Rattle.ft_trace.specs.declared.Act.{Act}
use Rattle.ft_trace.specs.declared.Act.TheVariants.{PutBlock, PutRoot, PutTable, PutFresh, ReadBlock, ReadRoot, ReadTable}
use Rattle.ft_trace.specs.Addresses.{block, cell, at, container_count, class_of, size}
use Rattle.ft_trace.specs.Acts.{has_lock, mem}
use Rattle.ft_trace.specs.ContainerStates.{kind_in}
use Rattle.ft_trace.specs.Pictures.{table_words, root_of, inner}
use Rattle.ft_trace.specs.Boxes.{named_in_root, named_in_container, named_in_all}
use Rattle.ft_trace.specs.Traces.{Event, did, run, word, history, May, Valid}
use Rattle.ft_trace.proofs.OneWord.{stays, loaded}
use Rattle.ft_trace.proofs.Pieces.{table_same, inner_same}
use Rattle.ft_trace.proofs.TablePlaces.{root, root_table, placed}
use Rattle.ft_trace.proofs.Images.{imaged}
use Rattle.ft_trace.proofs.Sums.{sum_same, sum_one, sum_at}

-- the puts that may change which boxes words name
abbrev pub IsPut : Act → Type 0
IsPut (PutTable o t i x) = Unit {0}
IsPut (PutRoot o r old) = Unit {0}
IsPut act = ⊥

-- the same root and the same table name the same
pub named_in_same : (k : Shape) (b o : ℕ) (ws zs : List ℕ) → root_of k o ws ≡ root_of k o zs → inner k (root_of k o ws) ws ≡ inner k (root_of k o zs) zs → named_in_container k b o ws ≡ named_in_container k b o zs
named_in_same k b o ws zs r t = λ d. named_in_root b (kind_in k.starts o) (r d) (t d)

inner_by : (k : Shape) (o : ℕ) (ws zs : List ℕ) → root_of k o ws ≡ root_of k o zs → ((t : ℕ) → root_of k o zs ≡ suc t → table_words k t ws ≡ table_words k t zs) → inner k (root_of k o ws) ws ≡ inner k (root_of k o zs) zs
inner_by k o ws zs r tables = ap (λ (x : ℕ). inner k x ws) r ∙ inner_same k (root_of k o zs) ws zs tables

-- where the root and the words of its table stay
pub named_in_by : (k : Shape) (es : List Event) → Valid k es → (b o : ℕ) → o < container_count k → (ws : List ℕ) → slice_index ws (at k (block o 0)) ≡ word k es (block o 0) → ((t i : ℕ) → root k es o ≡ suc t → i < size (class_of t) → slice_index ws (at k (cell t i)) ≡ word k es (cell t i)) → named_in_container k b o ws ≡ named_in_container k b o (run k es).words
named_in_by k es valid b o low ws r cells =
    named_in_same k b o ws (run k es).words r
    (inner_by k o ws (run k es).words r (λ t names_box. table_same k t ws (run k es).words (λ i small. cells t i names_box small)))

module _ (k : Shape) (es : List Event) (id : ℕ) (v : View) (valid : Valid k es) (here_ : get_elem? (run k es).views id ≡ some v) (b : ℕ) where
  -- an action that is no such put
  root_stays : (a : Act) → (IsPut a → ⊥) → May k (run k es) (history es) v a → (o : ℕ) → o < container_count k → word k (did id v a ∷ es) (block o 0) ≡ word k es (block o 0)
  root_stays (PutBlock p i x) unput may o low = stays k es id v (PutBlock p i x) may (block o 0) (low, omega arith) (λ (e : block p i ≡ block o 0). may.3 (cc))
  root_stays (PutRoot p r old) unput may o low = absurd (unput tt)
  root_stays (ReadBlock p i f) unput may o low = loaded k es id v (ReadBlock p i f) (λ n. refl) (block o 0)
  root_stays (ReadRoot p f) unput may o low = loaded k es id v (ReadRoot p f) (λ n. refl) (block o 0)
  root_stays act unput may o low = stays k es id v act may (block o 0) (low, omega arith) (λ e. absurd (cc))

  cells_stay : (a : Act) → (IsPut a → ⊥) → May k (run k es) (history es) v a → (o : ℕ) → o < container_count k → (t i : ℕ) → root k es o ≡ suc t → i < size (class_of t) → word k (did id v a ∷ es) (cell t i) ≡ word k es (cell t i)
  cells_stay (PutTable p q j x) unput may o low t i names_box small = absurd (unput tt)
  cells_stay (PutFresh q j x) unput may o low t i names_box small =
      stays k es id v (PutFresh q j x) may (cell t i) (root_table k es valid o low t names_box, small)
      (λ (e : cell q j ≡ cell t i).
      let same : q ≡ t = cc in
      let mine : root k es o ≡ suc q = names_box ∙ ap suc (sym same) in
      let its = placed k es valid q may.0 in
      let one = may.2 in
      let a = (its.hands id v here_ (λ z. absurd (omega (arith, z, one)))).0 in
      let c = (its.roots o low mine).0 in
      absurd (omega (arith, a, c, one)))
  cells_stay (ReadTable q j f) unput may o low t i names_box small = loaded k es id v (ReadTable q j f) (λ n. refl) (cell t i)
  cells_stay act unput may o low t i names_box small = stays k es id v act may (cell t i) (root_table k es valid o low t names_box, small) (λ e. absurd (cc))

  -- of one container
  pub unnamed_in : (a : Act) → (IsPut a → ⊥) → May k (run k es) (history es) v a → (o : ℕ) → o < container_count k → named_in_container k b o (run k (did id v a ∷ es)).words ≡ named_in_container k b o (run k es).words
  unnamed_in a unput may o low = named_in_by k es valid b o low (run k (did id v a ∷ es)).words (root_stays a unput may o low) (λ t i names_box small. cells_stay a unput may o low t i names_box small)

  pub unnamed : (a : Act) → (IsPut a → ⊥) → May k (run k es) (history es) v a → named_in_all k b (run k (did id v a ∷ es)).words ≡ named_in_all k b (run k es).words
  unnamed a unput may =
      sum_same (λ o. named_in_container k b o (run k (did id v a ∷ es)).words) (λ o. named_in_container k b o (run k es).words) (container_count k)
      (λ o low. named_in_by k es valid b o low (run k (did id v a ∷ es)).words (root_stays a unput may o low) (λ t i names_box small. cells_stay a unput may o low t i names_box small))

  -- a put for the container o changes what its words name alone
  else_by : (a : Act) → IsPut a → May k (run k es) (history es) v a → (o : ℕ) → o < container_count k → ((q : ℕ) → q < container_count k → q ≢ o → word k (did id v a ∷ es) (block q 0) ≡ word k es (block q 0)) → ((q t i : ℕ) → q < container_count k → q ≢ o → root k es q ≡ suc t → i < size (class_of t) → word k (did id v a ∷ es) (cell t i) ≡ word k es (cell t i)) → named_in_all k b (run k (did id v a ∷ es)).words + named_in_container k b o (run k es).words ≡ named_in_all k b (run k es).words + named_in_container k b o (run k (did id v a ∷ es)).words
  else_by a is may o low roots cells =
      sum_one (λ q. named_in_container k b q (run k (did id v a ∷ es)).words) (λ q. named_in_container k b q (run k es).words) (container_count k) o low
      (λ q less ne. named_in_by k es valid b q less (run k (did id v a ∷ es)).words (roots q less ne) (λ t i names_box small. cells q t i less ne names_box small))

  -- another container, at a put of a word of a table
  pub else_table : (o t i x : ℕ) → May k (run k es) (history es) v (PutTable o t i x) → (q : ℕ) → q < container_count k → q ≢ o → named_in_container k b q (run k (did id v (PutTable o t i x) ∷ es)).words ≡ named_in_container k b q (run k es).words
  else_table o t i x may q less ne =
      named_in_by k es valid b q less (run k (did id v (PutTable o t i x) ∷ es)).words
      (stays k es id v (PutTable o t i x) may (block q 0) (less, omega arith) (λ e. absurd (cc)))
      (λ r j names_box small.
      stays k es id v (PutTable o t i x) may (cell r j) (root_table k es valid q less r names_box, small)
      (λ (e : cell t i ≡ cell r j).
      let same : t ≡ r = cc in
      let mine : root k es q ≡ suc t = names_box ∙ ap suc (sym same) in
      let its = placed k es valid t may.1 in
      ne (sym (its.roots q less mine).1 ∙ (its.roots o may.0 may.4).1)))

  -- and at a put of a root
  pub else_root : (o r old : ℕ) → May k (run k es) (history es) v (PutRoot o r old) → (q : ℕ) → q < container_count k → q ≢ o → named_in_container k b q (run k (did id v (PutRoot o r old) ∷ es)).words ≡ named_in_container k b q (run k es).words
  else_root o r old may q less ne =
      named_in_by k es valid b q less (run k (did id v (PutRoot o r old) ∷ es)).words
      (stays k es id v (PutRoot o r old) may (block q 0) (less, omega arith) (λ (e : block o 0 ≡ block q 0). ne (cc)))
      (λ t j names_box small. stays k es id v (PutRoot o r old) may (cell t j) (root_table k es valid q less t names_box, small) (λ e. absurd (cc)))

  pub renamed_table : (o t i x : ℕ) → May k (run k es) (history es) v (PutTable o t i x) → named_in_all k b (run k (did id v (PutTable o t i x) ∷ es)).words + named_in_container k b o (run k es).words ≡ named_in_all k b (run k es).words + named_in_container k b o (run k (did id v (PutTable o t i x) ∷ es)).words
  renamed_table o t i x may =
      else_by (PutTable o t i x) tt may o may.0
      (λ q less ne. stays k es id v (PutTable o t i x) may (block q 0) (less, omega arith) (λ e. absurd (cc)))
      (λ q r j less ne names_box small.
      stays k es id v (PutTable o t i x) may (cell r j) (root_table k es valid q less r names_box, small)
      (λ (e : cell t i ≡ cell r j).
      let same : t ≡ r = cc in
      let mine : root k es q ≡ suc t = names_box ∙ ap suc (sym same) in
      let its = placed k es valid t may.1 in
      ne (sym (its.roots q less mine).1 ∙ (its.roots o may.0 may.4).1)))

  pub renamed_root : (o r old : ℕ) → May k (run k es) (history es) v (PutRoot o r old) → named_in_all k b (run k (did id v (PutRoot o r old) ∷ es)).words + named_in_container k b o (run k es).words ≡ named_in_all k b (run k es).words + named_in_container k b o (run k (did id v (PutRoot o r old) ∷ es)).words
  renamed_root o r old may =
      else_by (PutRoot o r old) tt may o may.0
      (λ q less ne. stays k es id v (PutRoot o r old) may (block q 0) (less, omega arith) (λ (e : block o 0 ≡ block q 0). ne (cc)))
      (λ q t j less ne names_box small. stays k es id v (PutRoot o r old) may (cell t j) (root_table k es valid q less t names_box, small) (λ e. absurd (cc)))

-- what a holder's words name, as it knows them
pub named_known : (k : Shape) (es : List Event) → Valid k es → (j : ℕ) (u : View) → get_elem? (run k es).views j ≡ some u → (b o : ℕ) → o < container_count k → has_lock o u.log ≡ true → named_in_container k b o (mem k u.log) ≡ named_in_container k b o (run k es).words
named_known k es valid j u there b o low mine =
    let im = imaged k es valid j u there in
    named_in_by k es valid b o low (mem k u.log) (im.words (block o 0) (low, omega arith) mine)
    (λ t i names_box small. im.words (cell t i) (root_table k es valid o low t names_box, small) (inr (o, low, mine, names_box)))

-- and these are among all that are named
pub named_low : (k : Shape) (b o : ℕ) (ws : List ℕ) → o < container_count k → named_in_container k b o ws ≤ named_in_all k b ws
named_low k b o ws low = sum_at (λ q. named_in_container k b q ws) (container_count k) o low
