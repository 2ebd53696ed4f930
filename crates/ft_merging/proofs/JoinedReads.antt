-- What a pass reads of the entries of one container while it writes another one.
use Rattle.std.proofs.Common.{◌≡◌, ◌≢◌, ℕ, zero, suc, ◌<◌, ◌≤◌, Bool, true, false, not, List, [], ◌∷◌, map, length, filter, Option, Some, None, cond, refl, sym, ap, ◌∙◌, subst, arith, rules}
use Rattle.std.specs.Prelude.{◌&&◌, All, AllPairs, IsTrue, is_some, slice_index_or}
use Rattle.ft_model.specs.declared.content.Content.{Content}
use Rattle.ft_model.specs.declared.content.Content.TheVariants as content
use Rattle.ft_model.specs.declared.content.Element.{Element}
use Rattle.ft_model.specs.declared.data.Key.{Key}
use Rattle.ft_model.specs.declared.script.Kind.TheVariants as kind
use Rattle.ft_model.specs.Contents.{SetContent, is_at}
use Rattle.ft_model.specs.Worlds.{kind_of}
use Rattle.ft_layout.specs.declared.slot.Pair.{Pair}
use Rattle.ft_layout.specs.declared.slot.Slot.{Slot}
use Rattle.ft_layout.specs.declared.slot.Stored.{Stored}
use Rattle.ft_layout.specs.declared.slot.Stored.TheVariants.{Empty}
use Rattle.ft_layout.specs.Containers.{class_mask, used_element, IsSetWords, StandsAs}
use Rattle.ft_layout.specs.Tables.{UsedEntry, entry_word, hash_of, is_live, slot_of, slot_with}
use Rattle.ft_layout.specs.Words.{FitsKey, FitsStored, IsEntry}
use Rattle.ft_layout.proofs.LiveLaws.{distinct-used}
use Rattle.ft_keys.specs.declared.walk.Way.{Way}
use Rattle.ft_keys.specs.declared.walk.Way.TheVariants as way
use Rattle.ft_keys.specs.Ways.{IsTableOf, room, walk_slots}
use Rattle.ft_trace.specs.declared.Shape.{Shape}
use Rattle.ft_trace.specs.declared.View.{View}
use Rattle.ft_trace.specs.Acts.{has_lock}
use Rattle.ft_trace.specs.Addresses.{class_of, container_count, slots}
use Rattle.ft_trace.specs.Holds.{held_unboxed, known_state}
use Rattle.ft_trace.specs.Kinds.{rows}
use Rattle.ft_trace.specs.Pictures.{ContainerWords, entry_field, root_in, Represents}
use Rattle.ft_trace.specs.ContainerStates.{ContainerState}
use Rattle.ft_trace.proofs.FitCalls.{dict_fits_words, set_fits_words}
use Rattle.ft_trace.proofs.Known.{class_known}
use Rattle.ft_trace.proofs.LookReplies as replies
use Rattle.ft_trace.proofs.LookReplies.{element_there}
use Rattle.ft_trace.proofs.SameKeys.{any_found}
use Rattle.ft_trace.proofs.SetKnown as set
use Rattle.ft_trace.proofs.Tellings.{word_is}
use Rattle.ft_bank.specs.declared.table.Table.{Table}
use Rattle.ft_bank.specs.TableNames.{table_id, IsTableIn}
use Rattle.ft_bank.specs.Whole.{OnlyLoaded, OnlyWritten}
use Rattle.ft_bank.proofs.KnownAfterWrites.{loaded_held, work_knows}
use Rattle.ft_search.specs.Held.{IsHeldAt, KnowsTable}
use Rattle.ft_search.specs.Rounds.{kind_by}
use Rattle.ft_search.specs.OneEntryWrites.{HasTable, KnowsEntries}
use Rattle.ft_search.proofs.Puts.{table_class}
use Rattle.ft_new_keys.specs.KeyGrowth.{KnowsKeyed, holds}
use Rattle.ft_new_keys.specs.Placing.{StoresAs}
use Rattle.ft_new_keys.proofs.Grown.{knows_on}
use Rattle.ft_merging.proofs.Ending.{read_same}
use Rattle.ft_merging.specs.Joining.{joined}
use Rattle.ft_merging.specs.Internal.JoiningSteps.{Apart, StoresIn, joined_used, pair_in}
use Rattle.ft_merging.proofs.JoinedContents.{joined_elements}

-- ---- after loads

pub table_after : (o t : ℕ) (v w : View) → OnlyLoaded v w → KnowsTable o t v → KnowsTable o t w
table_after o t v w only knows = (only.work.pass.locks o ∙ knows.0, ap root_in (loaded_held v w o only) ∙ knows.1)

pub word_after : (k : Shape) (o : ℕ) (n place word : ℕ) (v w : View) → v.shape ≡ k → o < container_count k → has_lock o v.log ≡ true → OnlyLoaded v w → (found : ℕ) → found ≡ entry_field n (held_unboxed o w).table place word → found ≡ entry_field n (held_unboxed o v).table place word
word_after k o n place word v w shape low mine only found is = is ∙ ap (λ (x : ContainerWords). entry_field n x.table place word) (read_same k o v w shape low mine only)

pub knows_loaded : (k : Shape) (o : ℕ) (old : Option Table) (v w : View) → v.shape ≡ k → OnlyLoaded v w → KnowsKeyed k o old v → KnowsKeyed k o old w
knows_loaded k o old v w shape only knows = knows_on k o old v w (read_same k o v w shape knows.container knows.locked only) (work_knows v w o only.work) (only.work.pass.locks o) (only.work.pass.writes o) knows

-- and while another one is written
pub knows_put : (k : Shape) (o t : ℕ) (old : Option Table) (v w : View) → v.shape ≡ k → o ≢ t → OnlyWritten o v w → KnowsKeyed k t old v → KnowsKeyed k t old w
knows_put k o t old v w shape two only knows =
    let same : held_unboxed t w ≡ held_unboxed t v = (only.others t (subst (λ (z : Shape). t < container_count z) (sym shape) knows.container) (λ e. two (sym e)) knows.locked knows.even).1 in
    knows_on k t old v w same (work_knows v w t only.work) (only.work.pass.locks t) (only.work.pass.writes t) knows

-- ---- used entries

-- what words say of a used entry: its pair, where it is there
pub pair_used : (texts : List ℕ) (e : UsedEntry) (found : Option Pair) → found ≡ pair_in (slot_of texts e) → (word : ℕ → ℕ) → IsEntry word (slot_of texts e) → (pair : Pair) → found ≡ Some pair
    → (e.stored ≡ Some pair.value) × (e.key ≡ pair.key) × (pair.hash ≡ hash_of texts pair.key) × FitsKey pair.key × FitsStored pair.value
pair_used texts e found is word entry pair there = by e.stored refl is entry
  where
    by : (s : Option Stored) → e.stored ≡ s → found ≡ pair_in (slot_with (hash_of texts e.key) e.key e.serial s) → IsEntry word (slot_with (hash_of texts e.key) e.key e.serial s) → (e.stored ≡ Some pair.value) × (e.key ≡ pair.key) × (pair.hash ≡ hash_of texts pair.key) × FitsKey pair.key × FitsStored pair.value
    by None dead said w = absurd (let no = sym there ∙ said in cc)
    by (Some s) live said w =
        let same : Some (record { hash = hash_of texts e.key; key = e.key; value = s; serial = e.serial }) ≡ Some pair = sym said ∙ there in
        let one : record { hash = hash_of texts e.key; key = e.key; value = s; serial = e.serial } ≡ pair = cc in (
          live ∙ ap (λ (z : Pair). Some z.value) one,
          ap (λ (z : Pair). z.key) one,
          subst (λ (z : Pair). z.hash ≡ hash_of texts z.key) one refl,
          subst (λ (z : Pair). FitsKey z.key) one w.key.fits,
          subst (λ (z : Pair). FitsStored z.value) one w.value.fits,
        )

-- one that isn't there has none
pub none_used : (texts : List ℕ) (e : UsedEntry) (found : Option Pair) → found ≡ pair_in (slot_of texts e) → found ≡ None → e.stored ≡ None
none_used texts e found is none = by e.stored refl is
  where
    by : (s : Option Stored) → e.stored ≡ s → found ≡ pair_in (slot_with (hash_of texts e.key) e.key e.serial s) → e.stored ≡ None
    by None dead said = dead
    by (Some s) live said = absurd (let no = sym none ∙ said in cc)

-- the words of a used entry, counted after the header
pub entry_used : (by : Way) (texts : List ℕ) (k : Shape) (table : Table) → IsTableIn k table → (used : List UsedEntry) (ws : List ℕ) → IsTableOf by texts (class_mask (class_of (table_id table))) used (0 ∷ 0 ∷ ws) → (place : ℕ) (any : UsedEntry) → place < length used
    → IsEntry (entry_field (slots (class_of (table_id table))) ws place) (slot_of texts (slice_index_or used place any))
entry_used by texts k table table_in used ws says place any low =
    let c = class_of (table_id table) in
    same_entry (entry_word (class_mask c) (0 ∷ 0 ∷ ws) place) (entry_field (slots c) ws place) (word_is (λ hash. walk_slots by hash (class_mask c)) (room by (class_mask c)) texts c (table_class k table table_in) used ws says place) (slot_of texts (slice_index_or used place any)) (says.entries place any low)
  where
    same_entry : (a b : ℕ → ℕ) → ((w : ℕ) → a w ≡ b w) → (said : Slot) → IsEntry a said → IsEntry b said
    same_entry a b same said is = subst (λ (f : ℕ → ℕ). IsEntry f said) (λ i w. same w i) is

-- ---- where the keys of a container come from

-- live entries are apart
pub apart_used : (used : List UsedEntry) → AllPairs (λ a b. a.key ≢ b.key) (filter is_live used) → AllPairs Apart used
apart_used used distinct i j d less low = λ one two. distinct-used used distinct i j d less low (true_is one) (true_is two)
  where
    true_is : {b : Bool} → b ≡ true → IsTrue b
    true_is e = search (rules, e)

-- what a pass finds in the table of a container whose lock it has: the used entries, and what joining them comes to
pub record Source (k : Shape) (by : Way) (t : ℕ) (table : Table) (v : View) : Type 0 where
  pub used : List UsedEntry
  pub table_is : IsTableOf by k.texts (class_mask (class_of (table_id table))) used (0 ∷ 0 ∷ (held_unboxed t v).table)
  pub filled : length used ≡ (known_state t v).table.fill
  pub apart : AllPairs Apart used
  pub stores : All (StoresIn (kind_by by)) used
  pub few : (known_state t v).table.fill ≤ rows (kind_by by) (class_of (table_id table))
  pub comes : (d : Content) → kind_of d ≡ kind_by by → joined_used d used ≡ joined d (known_state t v).content

set_stores : (used : List UsedEntry) (es : List Element) → filter is_live used ≡ map used_element es → All (StoresIn kind.Set) used
set_stores [] es live = λ i d low. absurd (omega (arith, low))
set_stores (e ∷ used) es live = first (λ ys eq. set_stores used ys eq) e.stored refl es live
  where
    here : StoresIn kind.Set e → All (StoresIn kind.Set) used → All (StoresIn kind.Set) (e ∷ used)
    here one rest zero d low = one
    here one rest (suc i) d low = rest i d (omega (arith, low))

    first : ((ys : List Element) → filter is_live used ≡ map used_element ys → All (StoresIn kind.Set) used) → (s : Option Stored) → e.stored ≡ s → (ys : List Element) → filter is_live (e ∷ used) ≡ map used_element ys → All (StoresIn kind.Set) (e ∷ used)
    first rest None dead ys eq = here (λ s is. absurd (let no = sym dead ∙ is in cc)) (rest ys (sym (ap (λ (z : Option Stored). cond (is_some z) (e ∷ filter is_live used) (filter is_live used)) dead) ∙ eq))
    first rest (Some s) is [] eq = absurd (let no : e ∷ filter is_live used ≡ [] = sym (ap (λ (z : Option Stored). cond (is_some z) (e ∷ filter is_live used) (filter is_live used)) is) ∙ eq in cc)
    first rest (Some s) is (y ∷ ys) eq =
        let both : e ∷ filter is_live used ≡ used_element y ∷ map used_element ys = sym (ap (λ (z : Option Stored). cond (is_some z) (e ∷ filter is_live used) (filter is_live used)) is) ∙ eq in
        let head : e ≡ used_element y = cc in
        let tail : filter is_live used ≡ map used_element ys = cc in
        let empty : e.stored ≡ Some Empty = ap (λ (z : UsedEntry). z.stored) head in
        here (λ s there. subst (λ (z : Stored). StoresAs kind.Set z) (let same : Some Empty ≡ Some s = sym empty ∙ there in let one : Empty ≡ s = cc in one) tt) (rest ys tail)

pub set_source : set.FirstEntriesAreElements → (k : Shape) (t : ℕ) (table : Table) (v : View) → KnowsKeyed k t (Some table) v → (others : SetContent) → (known_state t v).content ≡ content.Set others → Source k way.Set t table v
set_source elements k t table v knows others is =
    let c = class_of (table_id table) in
    let table_in = knows.table_in table refl in
    let class = class_known k.texts (held_unboxed t v) (known_state t v) (table_id table) knows.stands knows.root in
    let stands : Represents k.texts (held_unboxed t v) (record { content = content.Set others; table = (known_state t v).table }) = subst (λ (z : Content). Represents k.texts (held_unboxed t v) (record { content = z; table = (known_state t v).table })) is knows.stands in
    let says : IsSetWords k.texts (held_unboxed t v).block (0 ∷ 0 ∷ (held_unboxed t v).table) (Some c) (known_state t v).table.fill others = subst (λ (z : Option ℕ). IsSetWords k.texts (held_unboxed t v).block (0 ∷ 0 ∷ (held_unboxed t v).table) z (known_state t v).table.fill others) class stands in
    let apart = apart_used says.used says.table.distinct in
    record {
      used = says.used;
      table_is = says.table;
      filled = says.filled;
      apart = apart;
      stores = set_stores says.used others.elements says.entries.live;
      few = let f = says.filled in let g = says.table.fill in let r = set.room_is elements k.texts (held_unboxed t v).block c (known_state t v).table.fill (table_class k table table_in) others (held_unboxed t v).table says in omega (arith, f, g, r);
      comes = λ d kind_eq. comes d kind_eq says.used apart says.entries.live ∙ ap (joined d) (sym is);
    }
  where
    comes : (d : Content) → kind_of d ≡ kind.Set → (used : List UsedEntry) → AllPairs Apart used → filter is_live used ≡ map used_element others.elements → joined_used d used ≡ joined d (content.Set others)
    comes (content.Set s) kind_eq used apart live = joined_elements used s others.elements apart live
    comes (content.Dict pairs) kind_eq used apart live = absurd (cc)
    comes (content.List values) kind_eq used apart live = absurd (cc)
    comes (content.Deque deque) kind_eq used apart live = absurd (cc)

-- ---- keys that were sought

-- a key that is held is there
pub holds_some : (k : Shape) (x : ContainerWords) (kept : ContainerState) (class : ℕ) → Represents k.texts x kept → kept.table.class ≡ Some class → (key : Key) (a b : ℕ) → FitsKey key → IsHeldAt kept.content key (Some (a, b)) → holds kept.content key ≡ true
holds_some k x kept class stands class_is key a b fits there = by kept.content (subst (λ (z : Option ℕ). StandsAs k.texts x.block (0 ∷ 0 ∷ x.table) (record { class = z; fill = kept.table.fill; keys = kept.table.keys }) kept.content) class_is stands) there
  where
    by : (d : Content) → StandsAs k.texts x.block (0 ∷ 0 ∷ x.table) (record { class = Some class; fill = kept.table.fill; keys = kept.table.keys }) d → IsHeldAt d key (Some (a, b)) → holds d key ≡ true
    by (content.Set others) says h = element_there others key fits (set_fits_words k.texts x.block (0 ∷ 0 ∷ x.table) class kept.table.fill others says) (λ none. absurd (let e = sym h.1 ∙ none in cc))
    by (content.Dict pairs) says h =
        let found = replies.there pairs key fits (dict_fits_words k.texts x.block (0 ∷ 0 ∷ x.table) class kept.table.fill pairs says) (λ none. absurd (let e = sym h.1 ∙ none in cc)) in
        any_found (is_at key) pairs.pairs ∙ ap is_some found.1
    by (content.List values) says h = absurd h
    by (content.Deque deque) says h = absurd h

pub holds_none : (d : Content) (key : Key) → IsHeldAt d key None → holds d key ≡ false
holds_none (content.Dict pairs) key none = none
holds_none (content.Set elements) key none = none
holds_none (content.List values) key none = absurd none
holds_none (content.Deque deque) key none = absurd none

-- where a key was found in the table
pub holds_at : (k : Shape) (v : View) (o : ℕ) (table : Table) (key : Key) (a b : ℕ) → KnowsEntries k o v → HasTable k o table v → FitsKey key → IsHeldAt (known_state o v).content key (Some (a, b)) → holds (known_state o v).content key ≡ true
holds_at k v o table key a b may has fits there = holds_some k (held_unboxed o v) (known_state o v) (class_of (table_id table)) may.stands (class_known k.texts (held_unboxed o v) (known_state o v) (table_id table) may.stands has.root) key a b fits there

pub none_found : (found : Option Pair) → ((pair : Pair) → found ≡ Some pair → ⊥) → found ≡ None
none_found None never = refl
none_found (Some pair) never = absurd (never pair refl)

-- whether an entry that is there has a new key
pub new_is : (d : Content) (e : UsedEntry) (key : Key) (stored : Stored) (b : Bool) → e.stored ≡ Some stored → e.key ≡ key → holds d key ≡ b → not b ≡ (is_live e && not (holds d e.key))
new_is d e key stored b is same has = sym (λ i. is_some (is i) && not ((ap (holds d) same ∙ has) i))
