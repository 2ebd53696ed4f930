-- Two sets that are parted in the table of the first one: once the elements of the other one are joined to it, those go
-- that both had.
use Rattle.std.proofs.Common.{◌≡◌, ℕ, ◌+◌, ◌<◌, ◌≤◌, Bool, true, false, List, [], ◌∷◌, ◌++◌, filter, cond, refl, sym, ap, ◌∙◌, subst, inl, inr, arith}
use Rattle.std.specs.Prelude.{◌||◌, not}
use Rattle.std.specs.List.{list_any}
use Rattle.std.proofs.lemmas.Bool.{cases_lt}
use Rattle.std.proofs.lemmas.List.{drop_all}
use Rattle.std.proofs.lemmas.List.Elements.{filter-append}
use Rattle.ft_model.specs.declared.content.Content.{Content}
use Rattle.ft_model.specs.declared.content.Content.TheVariants as content
use Rattle.ft_model.specs.declared.content.Element.{Element}
use Rattle.ft_model.specs.declared.data.Key.{Key}
use Rattle.ft_model.specs.declared.script.Kind.{Kind}
use Rattle.ft_model.specs.declared.script.Kind.TheVariants as kind
use Rattle.ft_model.specs.Classes.{IsClass, set_entries}
use Rattle.ft_model.specs.Contents.{SetContent, elements_from, has_element, set_or, set_xor, those_not_in}
use Rattle.ft_model.specs.Keys.{same_key}
use Rattle.ft_model.specs.Worlds.{set_of}
use Rattle.ft_model.proofs.KeyLemmas.{same_key-true}
use Rattle.ft_hash.specs.Probes.{set_slots}
use Rattle.ft_keys.specs.declared.walk.Way.TheVariants as way
use Rattle.ft_layout.specs.Containers.{class_mask}
use Rattle.ft_layout.specs.Tables.{set_room}
use Rattle.ft_trace.specs.declared.Act.TheVariants.{StartWrite}
use Rattle.ft_trace.specs.declared.Shape.{Shape}
use Rattle.ft_trace.specs.declared.View.{View}
use Rattle.ft_trace.specs.Acts.{view_after}
use Rattle.ft_trace.specs.Addresses.{class_of, slots}
use Rattle.ft_trace.specs.Carefuls.{HasLiveKey}
use Rattle.ft_trace.specs.Holds.{held_unboxed, known_state}
use Rattle.ft_trace.specs.Kinds.{is_key, rows}
use Rattle.ft_trace.specs.Traces.{IsReachable}
use Rattle.ft_trace.specs.Pictures.{entry_field}
use Rattle.ft_trace.specs.ContainerStates.{ContainerState, kind_in}
use Rattle.ft_trace.proofs.FitCalls.{set_fits_words}
use Rattle.ft_trace.proofs.SetKnown as set
use Rattle.ft_trace.proofs.Tellings.{key_is, live_tells, one_tells}
use Rattle.ft_bank.specs.declared.table.Table.{Table}
use Rattle.ft_bank.specs.TableNames.{table_id}
use Rattle.ft_bank.specs.Whole.{OnlyWritten}
use Rattle.ft_bank.proofs.KnownAfterWrites.{work_knows}
use Rattle.ft_search.specs.OneEntryWrites.{HasTable, MayWriteEntries}
use Rattle.ft_search.proofs.Puts.{table_class}
use Rattle.ft_new_keys.specs.declared.counts.Counts.{Counts}
use Rattle.ft_new_keys.proofs.Placed.{use_with}
use Rattle.ft_merging.specs.Joining.{joined}
use Rattle.ft_merging.specs.Thinning.{stays}
use Rattle.ft_merging.specs.Internal.JoiningSteps.{AreLeft, IsJoining, KeepsBelow}
use Rattle.ft_merging.specs.Internal.ThinningSteps.{IsThinned, spared}
use Rattle.ft_merging.specs.Internal.EntriesAtOnce.{IsMidway}
use Rattle.ft_merging.proofs.ThinningEnds.{evens, first_known, first_says, unused}
use Rattle.ft_merging.proofs.Thinned.{found_words, spared_own}

-- ---- elements

-- new ones are spared
abbrev AreSpared : SetContent → SetContent → ℕ → List Element → Type 0
AreSpared others first n es = filter (λ (e : Element). spared false others first e.key) (elements_from n es) ≡ elements_from n es

spared_new : (others first : SetContent) (n : ℕ) (es : List Element) → AreSpared others first n (those_not_in first.elements es)
spared_new others first n [] = refl
spared_new others first n (e ∷ es) = by (λ m. spared_new others first m es) (has_element first.elements e.key) refl
  where
    by : ((m : ℕ) → AreSpared others first m (those_not_in first.elements es)) → (b : Bool) → has_element first.elements e.key ≡ b → AreSpared others first n (those_not_in first.elements (e ∷ es))
    by rest true there = subst (AreSpared others first n) (sym (ap (λ (b : Bool). cond (not b) (e ∷ those_not_in first.elements es) (those_not_in first.elements es)) there)) (rest n)
    by rest false missing =
        let ys = those_not_in first.elements es in
        let new : Element = record { serial = n; key = e.key } in
        let left : List Element = filter (λ (x : Element). spared false others first x.key) (elements_from (n + 1) ys) in
        let here : spared false others first e.key ≡ true = ap (λ (b : Bool). not b || stays false others e.key) missing in
        subst (AreSpared others first n) (sym (ap (λ (b : Bool). cond (not b) (e ∷ ys) ys) missing))
        (ap (λ (b : Bool). cond b (new ∷ left) left) here ∙ ap (λ (l : List Element). new ∷ l) (rest (n + 1)))

xor_comes : (others first : SetContent) → content.Set (record { next = (set_or first others.elements).next; elements = filter (λ (e : Element). spared false others first e.key) (set_or first others.elements).elements }) ≡ content.Set (set_xor first others.elements)
xor_comes others first =
    let news = elements_from first.next (those_not_in first.elements others.elements) in
    let all = filter-append (λ (e : Element). spared false others first e.key) first.elements news in
    let old = spared_own false others first first.elements (λ key there. there) in
    let new = spared_new others first first.next others.elements in
    ap (λ (es : List Element). content.Set (record { next = (set_or first others.elements).next; elements = es })) (all ∙ (λ i. old i ++ new i))

-- what is there has its words
has_words : (es : List Element) (key : Key) → has_element es key ≡ true → list_any (λ (e : Element). is_key e.key key) es ≡ true
has_words [] key there = absurd (cc)
has_words (e ∷ es) key there = by (λ is. has_words es key is) (same_key e.key key) refl there
  where
    later : (a b : Bool) → b ≡ true → (a || b) ≡ true
    later true b e = refl
    later false b e = e

    by : (has_element es key ≡ true → list_any (λ (x : Element). is_key x.key key) es ≡ true) → (b : Bool) → same_key e.key key ≡ b → (b || has_element es key) ≡ true → list_any (λ (x : Element). is_key x.key key) (e ∷ es) ≡ true
    by rest true same is = ap (λ (b : Bool). b || list_any (λ (x : Element). is_key x.key key) es) (subst (λ (z : Key). is_key e.key z ≡ true) (same_key-true e.key key same) (key_is e.key e.key refl refl))
    by rest false same is = later (is_key e.key key) (list_any (λ (x : Element). is_key x.key key) es) (rest is)

-- ---- once all are joined

module _ (elements : set.FirstEntriesAreElements) (k : Shape) (s t : ℕ) (own table : Table) (v u w : View) (f : ℕ) (shape : v.shape ≡ k) (possible : ∥ IsReachable v ∥₁) (may : MayWriteEntries k s v) (is : kind_in k.starts s ≡ kind.Set) (has : HasTable k s own v) (begun : u ≡ view_after (StartWrite s f) v) (only : OnlyWritten s u w) (fill end others_fill : ℕ) (counts : Counts) (fill_is : fill ≡ (known_state s v).table.fill)
    (j : IsJoining k s way.Set own t table (joined (known_state s v).content (known_state t v).content) end others_fill counts w) (all : others_fill ≡ (known_state t w).table.fill) (keeps : KeepsBelow (table_id own) fill (held_unboxed s u) (held_unboxed s w)) where
  abbrev c : ℕ
  c = class_of (table_id own)

  abbrev n : ℕ
  n = slots c

  abbrev first : SetContent
  first = set_of (known_state s v).content

  abbrev others : SetContent
  others = set_of (known_state t v).content

  abbrev both : SetContent
  both = set_or first others.elements

  is_class : IsClass c
  is_class = table_class k own has.table_in

  is_first : (known_state s v).content ≡ content.Set first
  is_first = first_known k s own false others v u f shape possible may is has begun

  at_end : AreLeft kind.Set j.mid (joined (known_state s v).content (known_state t v).content) counts.fill end []
  at_end = subst (AreLeft kind.Set j.mid (joined (known_state s v).content (known_state t v).content) counts.fill end) (drop_all others_fill j.used (let g = j.filled in omega (arith, g, all))) j.left

  midway : IsMidway k s own (record { content = content.Set both; table = use_with c end }) w
  midway =
      let comes : j.mid ≡ content.Set both = at_end.comes ∙ ap (λ (z : Content). joined z (known_state t v).content) is_first in
      let fits = at_end.fits in
      let g : counts.fill ≡ end = omega (arith, fits) in
      subst (λ (z : ContainerState). IsMidway k s own z w) (λ i. record { content = comes i; table = use_with c (g i) }) j.midway

  -- the words of entries that were used before
  kept_word : (p word : ℕ) → p < fill → word < 8 → entry_field n (held_unboxed s w).table p word ≡ entry_field n (held_unboxed s v).table p word
  kept_word p word low few = keeps p word low few ∙ ap (λ (z : View). entry_field n (held_unboxed s z).table p word) begun

  room_now : set_room (class_mask c) ≡ set_entries c
  room_now = set.room_is elements k.texts (held_unboxed s w).block c end is_class both (held_unboxed s w).table midway.stands

  -- no two entries that are there have one key
  one_live : (p q : ℕ) (key : Key) → p < q → q < set_entries c → HasLiveKey n (held_unboxed s w).table p key → HasLiveKey n (held_unboxed s w).table q key → ⊥
  one_live p q key less low a b =
      let walk : ℕ → List ℕ = λ hash. set_slots hash (class_mask c) (class_mask c + 14) in
      let r = room_now in
      one_tells walk (set_room (class_mask c)) k.texts c is_class midway.stands.used (held_unboxed s w).table midway.stands.table p q key less
      (live_tells walk (set_room (class_mask c)) k.texts c is_class midway.stands.used (held_unboxed s w).table midway.stands.table p key (omega (arith, less, low, r)) a)
      (live_tells walk (set_room (class_mask c)) k.texts c is_class midway.stands.used (held_unboxed s w).table midway.stands.table q key (omega (arith, low, r)) b)

  -- the entries that were put have keys that weren't there
  new_spared : (p : ℕ) (key : Key) → p < set_entries c → fill ≤ p → HasLiveKey n (held_unboxed s w).table p key → spared false others first key ≡ true
  new_spared p key low up live = by (has_element first.elements key) refl
    where
      by : (b : Bool) → has_element first.elements key ≡ b → spared false others first key ≡ true
      by false missing = ap (λ (b : Bool). not b || stays false others key) missing
      by true there =
          let says = first_says k s own false others v u f shape possible may is has begun in
          let old = set.set_live elements k.texts (held_unboxed s v).block c (known_state s v).table.fill is_class first (held_unboxed s v).table says key (found_words (λ (e : Element). is_key e.key key) first.elements (has_words first.elements key there)) in
          let was : old.0 < fill = elim (cases_lt old.0 fill) [
            | inl less ↦ less
            | inr past ↦ absurd (unused k s own false others v u f shape possible may is has begun elements old.0 key old.1 (omega (arith, past, fill_is)) old.2)
          ] in
          let now : HasLiveKey n (held_unboxed s w).table old.0 key = (kept_word old.0 2 was (omega arith) ∙ old.2.0, kept_word old.0 3 was (omega arith) ∙ old.2.1) in
          absurd (one_live old.0 p key (omega (arith, was, up)) low now live)

  -- before the first one goes
  pub parting_begins : IsThinned k s own false others first (record { content = content.Set (set_xor first others.elements); table = use_with c end }) fill 0 w
  parting_begins = record {
    mid = both;
    midway = midway;
    first_is = ap (λ (z : ContainerState). z.content) (work_knows u w s only.work ∙ ap (known_state s) begun) ∙ is_first;
    fits = set_fits_words k.texts (held_unboxed s v).block (0 ∷ 0 ∷ (held_unboxed s v).table) c (known_state s v).table.fill first (first_says k s own false others v u f shape possible may is has begun);
    comes = xor_comes others first;
    even = λ p less up low. let e = kept_word p 0 low (omega arith) in let g = evens k s own false others v u f shape possible may is has begun p less in omega (arith, e, g);
    done = λ p key less none ok live. absurd (omega (arith, none));
    rest = λ p key less up ok live. new_spared p key (subst (λ (z : Kind). p < rows z c) is less) up live;
  }
