-- The words that a pass knows after it has put one.
use Rattle.std.proofs.Common.{Option, Some, None, ◌≡◌, ◌≢◌, ℕ, zero, suc, ◌+◌, ◌-◌, ◌<◌, true, List, ◌∷◌, length, set, refl, sym, ap, ◌∙◌, subst, inl, inr, arith, get_or-set_other, get_or-set_same}
use Rattle.std.specs.Prelude.{slice_index, slice_set}
use Rattle.ft_trace.specs.declared.Shape.{Shape}
use Rattle.ft_trace.specs.declared.View.{View}
use Rattle.ft_trace.specs.declared.Act.TheVariants.{PutBlock, PutRoot, PutTable, PutFresh}
use Rattle.ft_trace.specs.Addresses.{Word, block, cell, container_count, class_of, size, IsTableName, at, Inside}
use Rattle.ft_trace.specs.Acts.{has_lock, is_writing, stage, mem, view_after}
use Rattle.ft_trace.specs.Pictures.{ContainerWords, block_of, root_of, inner, root_in}
use Rattle.ft_trace.specs.Holds.{held_words, held_unboxed, in_hand, hand_unboxed}
use Rattle.ft_model.specs.declared.script.Kind.{Kind}
use Rattle.ft_trace.specs.Boxes.{value_at, names_box, names_box_at, named_in_root, named_in_container, references_held, known_box_word, HasReferences}
use Rattle.ft_trace.specs.ContainerStates.{kind_in}
use Rattle.ft_trace.specs.Kinds.{rows}
use Rattle.ft_trace.specs.Traces.{did, Knows}
use Rattle.ft_trace.specs.Unboxed.{unboxed, unboxed_table}
use Rattle.ft_trace.specs.WholeWrites.{IsNoValue}
use Rattle.ft_trace.proofs.PlainPuts.{named_is, unboxed_block, unboxed_word, unboxed_root}
use Rattle.ft_trace.proofs.Sums.{sum_same}
use Rattle.ft_trace.proofs.ValuePuts.{word_put}
use Rattle.ft_trace.proofs.Addresses.{at_low, at_apart}
use Rattle.ft_trace.proofs.Pieces.{piece_set, block_same, block_at, block_long, table_same, table_set}
use Rattle.ft_trace.proofs.Contents.{Of, still_of}
use Rattle.ft_trace.proofs.OneWord.{stays}
use Rattle.ft_trace.proofs.TablePlaces.{root, root_table, placed}
use Rattle.ft_trace.proofs.Images.{imaged}
use Rattle.ft_trace.proofs.OddVersions.{writer_has}
use Rattle.ft_trace.proofs.Held.{root_known, words_known}
use Rattle.ft_bank.specs.Rules.{Acted}
use Rattle.ft_bank.specs.SameBoxes.{named_in_words, MovesReferences, SameReferences}
use Rattle.ft_bank.specs.WriteSteps.{with_block, with_root, with_unboxed_root, with_table}
use Rattle.ft_bank.specs.declared.table.Table.{Table}
use Rattle.ft_bank.specs.TableNames.{table_id, root_for, words_for, unboxed_for}
use Rattle.ft_bank.proofs.Allowed.{acted_knows}
use Rattle.ft_bank.proofs.Readying.{root_names, inner_for}

-- a put leaves each other word
else_at : (k : Shape) (ws : List ℕ) (x y : Word) (z : ℕ) → Inside k x → Inside k y → y ≢ x → slice_index (slice_set ws (at k x) z) (at k y) ≡ slice_index ws (at k y)
else_at k ws x y z a b ne = get_or-set_other ws (at k x) (at k y) z 0 (λ e. ne (at_apart k y x b a e))

other_block : (o i j : ℕ) → i ≢ j → block o j ≢ block o i
other_block o i j ne e = ne (sym (cc))

block_set : (k : Shape) (o : ℕ) (ws : List ℕ) (i x : ℕ) → i < 6 → at k (block o i) < length ws → block_of k o (slice_set ws (at k (block o i)) x) ≡ slice_set (block_of k o ws) i x
unfolding block_of
block_set k o ws i x low in_it =
    let e : at k (block o 0) + i ≡ at k (block o i) = omega arith in
    ap (λ (z : ℕ). block_of k o (set ws z x)) (sym e) ∙ piece_set ws (at k (block o 0)) 6 i x low (omega arith)

-- a put that is in no table leaves the one that a root names
inner_stays : (k : Shape) (ws : List ℕ) (x : Word) (z r : ℕ) → Inside k x → ((t i : ℕ) → cell t i ≢ x) → ((t : ℕ) → r ≡ suc t → IsTableName k t) → inner k r (slice_set ws (at k x) z) ≡ inner k r ws
inner_stays k ws x z zero in_it apart tables = refl
inner_stays k ws x z (suc t) in_it apart tables = table_same k t (slice_set ws (at k x) z) ws (λ i low. else_at k ws x (cell t i) z in_it (tables t refl, low) (apart t i))

in_block : (o i t j : ℕ) → cell t j ≢ block o i
in_block o i t j e = absurd (cc)

pub block_put : (v : View) (o i x : ℕ) → o < container_count v.shape → i ≢ 0 → i < 6 → is_writing o v.log ≡ true → Acted v (PutBlock o i x) → held_words o (view_after (PutBlock o i x) v) ≡ with_block (held_words o v) i x
block_put v o i x low ne small odd d =
    let k = v.shape in
    let ws = mem k v.log in
    let knows : Knows v d.0 d.1 = (d.2.0, d.2.1.0) in
    let mine = writer_has k d.0 d.2.0 o d.1 v d.2.1.0 odd in
    let wide = (imaged k d.0 d.2.0 d.1 v d.2.1.0).wide (inl (o, mine)) in
    let there = at_low k (block o i) (low, small) in
    let words = block_set k o ws i x small (omega (arith, wide, there)) in
    let root : root_of k o (slice_set ws (at k (block o i)) x) ≡ root_of k o ws = else_at k ws (block o i) (block o 0) x (low, small) (low, omega arith) (other_block o i 0 ne) in
    let names : (t : ℕ) → root_of k o ws ≡ suc t → IsTableName k t = λ t e. root_table k d.0 d.2.0 o low t (sym (root_known v o low mine d.0 d.1 knows) ∙ (block_at k o ws 0 (omega arith) ∙ e)) in
    let tables = ap (λ (r : ℕ). inner k r (slice_set ws (at k (block o i)) x)) root ∙ inner_stays k ws (block o i) x (root_of k o ws) (low, small) (in_block o i) names in
    λ j. record { block = words j; table = tables j }

pub table_put : (v : View) (o t i x : ℕ) → o < container_count v.shape → IsTableName v.shape t → i < size (class_of t) → is_writing o v.log ≡ true → root_in (held_words o v) ≡ suc t → Acted v (PutTable o t i x) → held_words o (view_after (PutTable o t i x) v) ≡ with_table (held_words o v) i x
table_put v o t i x low table small odd names d =
    let k = v.shape in
    let ws = mem k v.log in
    let ys = slice_set ws (at k (cell t i)) x in
    let mine = writer_has k d.0 d.2.0 o d.1 v d.2.1.0 odd in
    let wide = (imaged k d.0 d.2.0 d.1 v d.2.1.0).wide (inl (o, mine)) in
    let there = at_low k (cell t i) (table, small) in
    let kept_word : (j : ℕ) → j < 6 → slice_index ys (at k (block o j)) ≡ slice_index ws (at k (block o j)) = λ j less. else_at k ws (cell t i) (block o j) x (table, small) (low, less) (λ e. in_block o j t i (sym e)) in
    let words = block_same k o ys ws kept_word in
    let before : root_of k o ws ≡ suc t = sym (block_at k o ws 0 (omega arith)) ∙ names in
    let after : root_of k o ys ≡ suc t = kept_word 0 (omega arith) ∙ before in
    let tables = ap (λ (r : ℕ). inner k r ys) after ∙ (table_set k t ws i x small (omega (arith, wide, there)) ∙ sym (ap (λ (r : ℕ). slice_set (inner k r ws) i x) before)) in
    λ j. record { block = words j; table = tables j }

pub fresh_put : (v : View) (t i x : ℕ) → IsTableName v.shape t → i < size (class_of t) → stage t v.log ≡ 1 → Acted v (PutFresh t i x) → in_hand t (view_after (PutFresh t i x) v) ≡ slice_set (in_hand t v) i x
fresh_put v t i x table small mine d =
    let k = v.shape in
    let wide = (imaged k d.0 d.2.0 d.1 v d.2.1.0).wide (inr (t, inl mine)) in
    let there = at_low k (cell t i) (table, small) in
    table_set k t (mem k v.log) i x small (omega (arith, wide, there))

pub root_put : (v : View) (o : ℕ) (root : Option Table) (old : ℕ) → o < container_count v.shape → ((t : Table) → root ≡ Some t → IsTableName v.shape (table_id t)) → is_writing o v.log ≡ true → Acted v (PutRoot o (root_for root) old) → held_words o (view_after (PutRoot o (root_for root) old) v) ≡ with_root (held_words o v) root v
root_put v o root old low tables odd d =
    let k = v.shape in
    let r = root_for root in
    let ws = mem k v.log in
    let ys = slice_set ws (at k (block o 0)) r in
    let mine = writer_has k d.0 d.2.0 o d.1 v d.2.1.0 odd in
    let wide = (imaged k d.0 d.2.0 d.1 v d.2.1.0).wide (inl (o, mine)) in
    let there = at_low k (block o 0) (low, omega arith) in
    let words = block_set k o ws 0 r (omega arith) (omega (arith, wide, there)) in
    let is : root_of k o ys ≡ r = get_or-set_same ws (at k (block o 0)) r 0 (omega (arith, wide, there)) in
    let names : (t : ℕ) → r ≡ suc t → IsTableName k t = λ t e. let q = root_names root t e in subst (IsTableName k) q.2 (tables q.0 q.1) in
    let inside = ap (λ (z : ℕ). inner k z ys) is ∙ (inner_stays k ws (block o 0) r r (low, omega arith) (in_block o 0) names ∙ inner_for root v) in
    λ j. record { block = words j; table = inside j }

-- a table that was taken out of the root: what the pass knew of it by the lock it knows still
pub taken_words : (v : View) (o t r old : ℕ) → o < container_count v.shape → IsTableName v.shape t → root_in (held_words o v) ≡ suc t → in_hand t (view_after (PutRoot o r old) v) ≡ (held_words o v).table
taken_words v o t r old low table names =
    let k = v.shape in
    let ws = mem k v.log in
    let before : root_of k o ws ≡ suc t = sym (block_at k o ws 0 (omega arith)) ∙ names in
    table_same k t (slice_set ws (at k (block o 0)) r) ws (λ i small. else_at k ws (block o 0) (cell t i) r (low, omega arith) (table, small) (in_block o 0 t i)) ∙ sym (ap (λ (z : ℕ). inner k z ws) before)

-- ---- what is read after a put

abbrev Known : View → ℕ → ℕ → ℕ
Known v b i = known_box_word v.shape b i v.log

pub block_unboxed : (v : View) (o i x : ℕ) → o < container_count v.shape → i ≢ 0 → i < 6 → is_writing o v.log ≡ true → Acted v (PutBlock o i x) → held_unboxed o (view_after (PutBlock o i x) v) ≡ with_block (held_unboxed o v) i x
block_unboxed v o i x low ne small odd d =
    ap (unboxed (Known v) (kind_in v.shape.starts o)) (block_put v o i x low ne small odd d)
    ∙ unboxed_block (Known v) (kind_in v.shape.starts o) (held_words o v) i x (omega (arith, ne))

pub table_unboxed : (v : View) (o t i x : ℕ) → o < container_count v.shape → IsTableName v.shape t → i < size (class_of t) → is_writing o v.log ≡ true → root_in (held_words o v) ≡ suc t → IsNoValue (kind_in v.shape.starts o) (class_of t) i → Acted v (PutTable o t i x) → held_unboxed o (view_after (PutTable o t i x) v) ≡ with_table (held_unboxed o v) i x
table_unboxed v o t i x low table small odd names far d =
    ap (unboxed (Known v) (kind_in v.shape.starts o)) (table_put v o t i x low table small odd names d)
    ∙ unboxed_word (Known v) (kind_in v.shape.starts o) (held_words o v) t i x names far

pub fresh_unboxed : (v : View) (o t i x : ℕ) → IsTableName v.shape t → i < size (class_of t) → stage t v.log ≡ 1 → IsNoValue (kind_in v.shape.starts o) (class_of t) i → Acted v (PutFresh t i x) → hand_unboxed o t (view_after (PutFresh t i x) v) ≡ slice_set (hand_unboxed o t v) i x
fresh_unboxed v o t i x table small mine far d =
    let kind = kind_in v.shape.starts o in
    ap (unboxed_table (Known v) kind (suc t)) (fresh_put v t i x table small mine d)
    ∙ word_put (Known v) kind (class_of t) (rows kind (class_of t)) i x (in_hand t v) far

unboxed_is : (v : View) (o : ℕ) (root : Option Table) → unboxed_table (Known v) (kind_in v.shape.starts o) (root_for root) (words_for root v) ≡ unboxed_for o root v
unboxed_is v o None = refl
unboxed_is v o (Some t) = refl

pub root_unboxed : (v : View) (o : ℕ) (root : Option Table) (old : ℕ) → o < container_count v.shape → ((t : Table) → root ≡ Some t → IsTableName v.shape (table_id t)) → is_writing o v.log ≡ true → Acted v (PutRoot o (root_for root) old) → held_unboxed o (view_after (PutRoot o (root_for root) old) v) ≡ with_unboxed_root (held_unboxed o v) o root v
root_unboxed v o root old low tables odd d =
    let kind = kind_in v.shape.starts o in
    ap (unboxed (Known v) kind) (root_put v o root old low tables odd d)
    ∙ (unboxed_root (Known v) kind (held_words o v).block (words_for root v) (root_for root) (let l = block_long v.shape o (mem v.shape v.log) in omega (arith, l))
    ∙ (λ j. record { block = slice_set (held_words o v).block 0 (root_for root); table = unboxed_is v o root j }))

-- ---- references after a put

pub table_moves : (v : View) (o t i x : ℕ) → HasReferences v.shape v.log (PutTable o t i x) o → MovesReferences o v (view_after (PutTable o t i x) v)
table_moves v o t i x refs b =
    let k = v.shape in
    let l = v.log in
    let enough = (refs b).0 in
    let before = named_is k o b (mem k l) in
    let after = named_is k o b (mem k (PutTable o t i x ∷ l)) in
    let held : references_held k b (PutTable o t i x ∷ l) ≡ references_held k b l + named_in_container k b o (mem k l) - named_in_container k b o (mem k (PutTable o t i x ∷ l)) = refl in
    omega (arith, enough, before, after, held)

pub root_moves : (v : View) (o r old : ℕ) → HasReferences v.shape v.log (PutRoot o r old) o → MovesReferences o v (view_after (PutRoot o r old) v)
root_moves v o r old refs b =
    let k = v.shape in
    let l = v.log in
    let enough = (refs b).0 in
    let before = named_is k o b (mem k l) in
    let after = named_is k o b (mem k (PutRoot o r old ∷ l)) in
    let held : references_held k b (PutRoot o r old ∷ l) ≡ references_held k b l + named_in_container k b o (mem k l) - named_in_container k b o (mem k (PutRoot o r old ∷ l)) = refl in
    omega (arith, enough, before, after, held)

-- a word that is no value's names nothing
named_word : (b : ℕ) (kind : Kind) (t i x : ℕ) (table : List ℕ) → IsNoValue kind (class_of t) i → named_in_root b kind (suc t) (slice_set table i x) ≡ named_in_root b kind (suc t) table
named_word b kind t i x table far =
    sum_same (names_box_at b kind (class_of t) (slice_set table i x)) (names_box_at b kind (class_of t) table) (rows kind (class_of t))
    (λ q less.
    let n = far q less in
    let one : slice_index (slice_set table i x) (value_at kind (class_of t) q) ≡ slice_index table (value_at kind (class_of t) q) = get_or-set_other table i (value_at kind (class_of t) q) x 0 (λ z. n.0 (sym z)) in
    let two : slice_index (slice_set table i x) (suc (value_at kind (class_of t) q)) ≡ slice_index table (suc (value_at kind (class_of t) q)) = get_or-set_other table i (suc (value_at kind (class_of t) q)) x 0 (λ z. n.1 (sym z)) in
    λ d. names_box b (one d) (two d))

pub word_same : (v : View) (o t i x : ℕ) → o < container_count v.shape → IsTableName v.shape t → i < size (class_of t) → is_writing o v.log ≡ true → root_in (held_words o v) ≡ suc t → IsNoValue (kind_in v.shape.starts o) (class_of t) i → Acted v (PutTable o t i x) → SameReferences v (view_after (PutTable o t i x) v)
word_same v o t i x low table small odd names far d b =
    let kind = kind_in v.shape.starts o in
    let w = view_after (PutTable o t i x) v in
    let put = table_put v o t i x low table small odd names d in
    let after : named_in_words b kind (held_words o w) ≡ named_in_root b kind (suc t) (slice_set (held_words o v).table i x) =
    (λ j. named_in_words b kind (put j)) ∙ ap (λ (r : ℕ). named_in_root b kind r (slice_set (held_words o v).table i x)) names in
    let before : named_in_words b kind (held_words o v) ≡ named_in_root b kind (suc t) (held_words o v).table = ap (λ (r : ℕ). named_in_root b kind r (held_words o v).table) names in
    let same = named_word b kind t i x (held_words o v).table far in
    let moves = table_moves v o t i x d.2.1.3.7 b in
    omega (arith, after, before, same, moves)

-- a word of the block that isn't the root names nothing
pub block_moves : (v : View) (o i x : ℕ) → o < container_count v.shape → i ≢ 0 → i < 6 → is_writing o v.log ≡ true → Acted v (PutBlock o i x) → MovesReferences o v (view_after (PutBlock o i x) v)
block_moves v o i x low ne small odd d b =
    let kind = kind_in v.shape.starts o in
    let words = held_words o v in
    let put = block_put v o i x low ne small odd d in
    let root : slice_index (slice_set words.block i x) 0 ≡ slice_index words.block 0 = get_or-set_other words.block i 0 x 0 (λ z. ne (sym z)) in
    ap (λ (n : ℕ). references_held v.shape b v.log + n) ((λ j. named_in_words b kind (put j)) ∙ (λ j. named_in_root b kind (root j) words.table))

-- a word of a fresh table is no word of a container
pub fresh_moves : (v : View) (o t i x : ℕ) → o < container_count v.shape → has_lock o v.log ≡ true → Acted v (PutFresh t i x) → MovesReferences o v (view_after (PutFresh t i x) v)
fresh_moves v o t i x low mine d b =
    let k = v.shape in
    let es = d.0 in
    let w = view_after (PutFresh t i x) v in
    let may = d.2.1.3 in
    let still = still_of k es (did d.1 v (PutFresh t i x) ∷ es) d.2.0 o low
    (λ y in_it of. stays k es d.1 v (PutFresh t i x) may y in_it
    (λ e.
    let names_it : root k es o ≡ suc t = subst (Of k es o) (sym e) of in
    let its = placed k es d.2.0 t may.0 in
    let one = may.2 in
    let a = (its.hands d.1 v d.2.1.0 (λ z. absurd (omega (arith, z, one)))).0 in
    let r = (its.roots o low names_it).0 in
    absurd (omega (arith, a, r, one)))) refl in
    let same : held_words o w ≡ held_words o v = words_known w o low mine (did d.1 v (PutFresh t i x) ∷ es) d.1 (acted_knows v (PutFresh t i x) d) ∙ (still.picture ∙ sym (words_known v o low mine es d.1 (d.2.0, d.2.1.0))) in
    ap (λ (z : ContainerWords). references_held k b v.log + named_in_words b (kind_in k.starts o) z) same
