-- Puts of words that name no box: what a container reads after them, that they need no references, and how many the pass
-- holds then.
use Rattle.std.proofs.Common.{◌≡◌, ◌≢◌, ◌⊎◌, ℕ, suc, ◌+◌, ◌-◌, ◌^◌, ◌%◌, ◌<◌, true, List, ◌∷◌, length, refl, sym, ap, ◌∙◌, subst, inl, inr, arith, get_or-set_same, get_or-set_other}
use Rattle.std.specs.Prelude.{slice_index, slice_set, None}
use mathlib.Core.Option.{some}
use lib.ListN.{get_elem?}
use Rattle.ft_model.specs.declared.content.Content.{Content}
use Rattle.ft_model.specs.declared.script.Kind.{Kind}
use Rattle.ft_model.specs.declared.script.Kind.TheVariants as kind
use Rattle.ft_model.specs.Classes.{set_entries}
use Rattle.ft_model.specs.Worlds.{list_of}
use Rattle.ft_trace.specs.declared.Shape.{Shape}
use Rattle.ft_trace.specs.declared.View.{View}
use Rattle.ft_trace.specs.declared.Act.{Act}
use Rattle.ft_trace.specs.declared.Act.TheVariants.{StartWrite, PutRoot, PutTable}
use Rattle.ft_trace.specs.Addresses.{container_count, block, class_of, slots, places, at, extent}
use Rattle.ft_trace.specs.OddVersions.{Shut}
use Rattle.ft_trace.proofs.Addresses.{at_low}
use Rattle.ft_trace.proofs.ReadTables.{read_version}
use Rattle.ft_trace.specs.Acts.{has_lock, mem}
use Rattle.ft_trace.specs.ContainerStates.{kind_in}
use Rattle.ft_trace.specs.Pictures.{ContainerWords, root_in, picture, root_of, inner, entry_offset, item_offset}
use Rattle.ft_trace.specs.Kinds.{rows, version_at, under, CarefulAs}
use Rattle.ft_trace.specs.Boxes.{value_at, named_in_root, named_in_container, references_held, knows_box_word, HasReferences}
use Rattle.ft_trace.specs.Unboxed.{unboxed_kind, unboxed_payload, with_value, unboxed_rows, unboxed_table, unboxed}
use Rattle.ft_trace.specs.Traces.{Event, run, Valid}
use Rattle.ft_trace.specs.WholeWrites.{to_block, to_table, to_value, with_put, IsNoValue}
use Rattle.ft_trace.proofs.Cases.{miss}
use Rattle.ft_trace.proofs.Pieces.{block_at}
use Rattle.ft_trace.proofs.NamedBoxes.{named_known, named_low}
use Rattle.ft_trace.proofs.BoxBounds.{named_few}
use Rattle.ft_trace.proofs.ValuePuts.{value_put, word_put}
use Rattle.ft_trace.proofs.BoxKnown.{sure_keeps, sure_after, sure_stays}
use Rattle.ft_trace.proofs.EntryPuts.{entry_value}
use Rattle.ft_trace.proofs.ItemPuts.{item_word_put}

-- ---- what is read after a put

-- another word of the block than the root
pub unboxed_block : (box : ℕ → ℕ → ℕ) (kind : Kind) (raw : ContainerWords) (i x : ℕ) → 0 < i → unboxed box kind (with_put raw (to_block i x)) ≡ with_put (unboxed box kind raw) (to_block i x)
unboxed_block box kind raw i x up =
    let e : slice_index (slice_set raw.block i x) 0 ≡ slice_index raw.block 0 = get_or-set_other raw.block i 0 x 0 (λ z. omega (arith, z, up)) in
    λ d. record { block = slice_set raw.block i x; table = unboxed_table box kind (e d) raw.table }

pub by_root : (box : ℕ → ℕ → ℕ) (kind : Kind) (r t : ℕ) (table : List ℕ) → r ≡ suc t → unboxed_table box kind r table ≡ unboxed_rows box kind (class_of t) (rows kind (class_of t)) table
by_root box kind r t table e = ap (λ (z : ℕ). unboxed_table box kind z table) e

-- a word of the table that is no value's
pub unboxed_word : (box : ℕ → ℕ → ℕ) (kind : Kind) (raw : ContainerWords) (t i x : ℕ) → root_in raw ≡ suc t → IsNoValue kind (class_of t) i → unboxed box kind (with_put raw (to_table i x)) ≡ with_put (unboxed box kind raw) (to_table i x)
unboxed_word box kind raw t i x names far =
    let n : ℕ = rows kind (class_of t) in
    let e : unboxed_table box kind (root_in raw) (slice_set raw.table i x) ≡ slice_set (unboxed_table box kind (root_in raw) raw.table) i x =
    by_root box kind (root_in raw) t (slice_set raw.table i x) names
    ∙ (word_put box kind (class_of t) n i x raw.table far ∙ ap (λ (l : List ℕ). slice_set l i x) (sym (by_root box kind (root_in raw) t raw.table names))) in
    λ d. record { block = raw.block; table = e d }

-- a value that names no box
pub unboxed_value : (box : ℕ → ℕ → ℕ) (kind : Kind) (raw : ContainerWords) (t p i j a b : ℕ) → root_in raw ≡ suc t → p < rows kind (class_of t) → i ≡ value_at kind (class_of t) p → j ≡ suc (value_at kind (class_of t) p) → suc (value_at kind (class_of t) p) < length raw.table → a ≢ 4
    → unboxed box kind (with_put raw (to_value None i j a b)) ≡ with_put (unboxed box kind raw) (to_value None i j a b)
unboxed_value box kind raw t p i j a b names less ei ej long ne =
    let n : ℕ = rows kind (class_of t) in
    let place : ℕ = value_at kind (class_of t) p in
    let read : List ℕ = unboxed_rows box kind (class_of t) n raw.table in
    let both : (l : List ℕ) → slice_set (slice_set l i a) j b ≡ with_value place a b l = λ l d. slice_set (slice_set l (ei d) a) (ej d) b in
    let one : unboxed_kind box a b ≡ a = miss a 4 (box b 1) a ne in
    let two : unboxed_payload box a b ≡ b = miss a 4 (box b 2) b ne in
    let e : unboxed_table box kind (root_in raw) (slice_set (slice_set raw.table i a) j b) ≡ slice_set (slice_set (unboxed_table box kind (root_in raw) raw.table) i a) j b =
    ap (unboxed_table box kind (root_in raw)) (both raw.table)
    ∙ (by_root box kind (root_in raw) t (with_value place a b raw.table) names
    ∙ (value_put box kind (class_of t) n p a b raw.table less long
    ∙ ((λ d. with_value place (one d) (two d) read)
    ∙ (ap (with_value place a b) (sym (by_root box kind (root_in raw) t raw.table names)) ∙ sym (both (unboxed_table box kind (root_in raw) raw.table)))))) in
    λ d. record { block = raw.block; table = e d }

-- a root
pub unboxed_root : (box : ℕ → ℕ → ℕ) (kind : Kind) (head table : List ℕ) (r : ℕ) → 0 < length head → unboxed box kind (record { block = slice_set head 0 r; table = table }) ≡ record { block = slice_set head 0 r; table = unboxed_table box kind r table }
unboxed_root box kind head table r some_ =
    let e : slice_index (slice_set head 0 r) 0 ≡ r = get_or-set_same head 0 r 0 some_ in
    λ d. record { block = slice_set head 0 r; table = unboxed_table box kind (e d) table }

-- ---- a value may be put while its version is odd

pub value_careful : (kind : Kind) (c : ℕ) (ws : List ℕ) (d : Content) (p i x : ℕ) → p < rows kind c → (i ≡ value_at kind c p) ⊎ (i ≡ suc (value_at kind c p)) → slice_index ws (version_at kind c p) % 2 ≡ 1 → CarefulAs kind c ws d i x
value_careful kind.List c ws d p i x low (inl e) odd = subst (λ (z : ℕ). CarefulAs kind.List c ws d z x) (sym e) (item_word_put (slots c) ws (list_of d) p 1 x (omega arith) (omega arith) odd)
value_careful kind.List c ws d p i x low (inr e) odd = let f : i ≡ item_offset p 2 = omega (arith, e) in subst (λ (z : ℕ). CarefulAs kind.List c ws d z x) (sym f) (item_word_put (slots c) ws (list_of d) p 2 x (omega arith) (omega arith) odd)
value_careful kind.Dict c ws d p i x low (inl e) odd = subst (λ (z : ℕ). CarefulAs kind.Dict c ws d z x) (sym e) (entry_value (slots c) (places c) ws (under d) p 4 x (omega arith) (omega arith) odd)
value_careful kind.Dict c ws d p i x low (inr e) odd = let f : i ≡ entry_offset (slots c) p 5 = omega (arith, e) in subst (λ (z : ℕ). CarefulAs kind.Dict c ws d z x) (sym f) (entry_value (slots c) (places c) ws (under d) p 5 x (omega arith) (omega arith) odd)
value_careful kind.Set c ws d p i x low (inl e) odd = subst (λ (z : ℕ). CarefulAs kind.Set c ws d z x) (sym e) (entry_value (slots c) (set_entries c) ws (under d) p 4 x (omega arith) (omega arith) odd)
value_careful kind.Set c ws d p i x low (inr e) odd = let f : i ≡ entry_offset (slots c) p 5 = omega (arith, e) in subst (λ (z : ℕ). CarefulAs kind.Set c ws d z x) (sym f) (entry_value (slots c) (set_entries c) ws (under d) p 5 x (omega arith) (omega arith) odd)
value_careful (kind.Deque bound) c ws d p i x low e odd = tt

-- ---- references

-- what the pass holds and what the container names are few together
abbrev pub FewReferences : Shape → ℕ → List Act → Type 0
FewReferences k o l = (b : ℕ) → references_held k b l + named_in_container k b o (mem k l) + 1 < 2 ^ 32

-- as the words that the pass knows tell
pub named_is : (k : Shape) (o b : ℕ) (ws : List ℕ) → named_in_container k b o ws ≡ named_in_root b (kind_in k.starts o) (root_in (picture k o ws)) (picture k o ws).table
named_is k o b ws = let e = block_at k o ws 0 (omega arith) in ap (λ (z : ℕ). named_in_root b (kind_in k.starts o) z (inner k (root_of k o ws) ws)) (sym e)

pub few_at_first : (k : Shape) (es : List Event) → Valid k es → (id : ℕ) (v : View) → get_elem? (run k es).views id ≡ some v → (o : ℕ) → o < container_count k → has_lock o v.log ≡ true → ((b : ℕ) → references_held k b v.log < 2 ^ 31) → FewReferences k o v.log
few_at_first k es valid id v there o low mine few b =
    let f = few b in
    let n = named_known k es valid id v there b o low mine in
    let m = named_low k b o (run k es).words low in
    let all = named_few k es valid b in
    omega (arith, f, n, m, all)

-- a put with the references that it needs
pub few_after_table : (k : Shape) (o t i x : ℕ) (l : List Act) → HasReferences k l (PutTable o t i x) o → FewReferences k o l → FewReferences k o (PutTable o t i x ∷ l)
few_after_table k o t i x l refs few b =
    let f = few b in
    let r = (refs b).0 in
    let h : references_held k b (PutTable o t i x ∷ l) ≡ references_held k b l + named_in_container k b o (mem k l) - named_in_container k b o (mem k (PutTable o t i x ∷ l)) = refl in
    omega (arith, f, r, h)

pub few_after_root : (k : Shape) (o r old : ℕ) (l : List Act) → HasReferences k l (PutRoot o r old) o → FewReferences k o l → FewReferences k o (PutRoot o r old ∷ l)
few_after_root k o r old l refs few b =
    let f = few b in
    let n = (refs b).0 in
    let h : references_held k b (PutRoot o r old ∷ l) ≡ references_held k b l + named_in_container k b o (mem k l) - named_in_container k b o (mem k (PutRoot o r old ∷ l)) = refl in
    omega (arith, f, n, h)

-- the start of a write changes nothing of it
pub refs_started : (k : Shape) (o start r old : ℕ) (l : List Act) → HasReferences k l (PutRoot o r old) o → HasReferences k (StartWrite o start ∷ l) (PutRoot o r old) o
refs_started k o start r old l refs b =
    let h = refs b in (
      h.0,
      h.1,
      λ none some_. (let s = h.2 none some_ in (known_on 1 s.0, known_on 2 s.1)),
    )
  where
    known_on : (i : ℕ) → knows_box_word k b i l ≡ true → knows_box_word k b i (StartWrite o start ∷ l) ≡ true
    known_on i su = sure_after k b i (StartWrite o start) l (sure_keeps k b i l su) (sure_stays b i (StartWrite o start) (knows_box_word k b i l) su)

-- a root of 0 names no box
pub zero_refs : (k : Shape) (o old : ℕ) (l : List Act) → o < container_count k → length (mem k l) ≡ extent k → FewReferences k o l → HasReferences k l (PutRoot o 0 old) o
zero_refs k o old l low wide few b =
    let now : List ℕ = mem k (PutRoot o 0 old ∷ l) in
    let root_low = at_low k (block o 0) (low, omega arith) in
    let root_now : root_of k o now ≡ 0 = get_or-set_same (mem k l) (at k (block o 0)) 0 0 (omega (arith, wide, root_low)) in
    let none : named_in_container k b o now ≡ 0 = λ d. named_in_root b (kind_in k.starts o) (root_now d) (inner k (root_now d) now) in
    let f = few b in
    let h : references_held k b (PutRoot o 0 old ∷ l) ≡ references_held k b l + named_in_container k b o (mem k l) - named_in_container k b o now = refl in
    (omega (arith, none), omega (arith, none, f, h), λ _ some_. absurd (some_ none))

-- ---- versions, which read as they stand

pub raw_shut : (box : ℕ → ℕ → ℕ) (kind : Kind) (c : ℕ) (table : List ℕ) → Shut (version_at kind c) (rows kind c) (unboxed_rows box kind c (rows kind c) table) → Shut (version_at kind c) (rows kind c) table
raw_shut box kind c table shut p less = ap (λ (z : ℕ). z % 2) (sym (read_version box c (rows kind c) table kind refl p less)) ∙ shut p less

pub read_shut : (box : ℕ → ℕ → ℕ) (kind : Kind) (c : ℕ) (table : List ℕ) → Shut (version_at kind c) (rows kind c) table → Shut (version_at kind c) (rows kind c) (unboxed_rows box kind c (rows kind c) table)
read_shut box kind c table shut p less = ap (λ (z : ℕ). z % 2) (read_version box c (rows kind c) table kind refl p less) ∙ shut p less
