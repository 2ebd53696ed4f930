-- The first element of a set: what its entry says, and what `pop` leaves and replies.
use Rattle.std.proofs.Common.{◌≡◌, ℕ, suc, ◌<◌, true, false, List, [], ◌∷◌, length, map, Option, Some, None, refl, sym, ap, ◌∙◌, subst, arith, inr}
use Rattle.std.specs.Prelude.{pos, IfSome, IsTrue, option_map, slice_get, slice_index, slice_index_or}
use Rattle.std.specs.Option.{option_map_or}
use Rattle.std.proofs.lemmas.Option.{slice_get-get_or}
use Rattle.ft_layout.specs.declared.slot.Stored.{Stored}
use Rattle.ft_layout.specs.Containers.{AreSetEntries, used_element}
use Rattle.ft_layout.specs.Tables.{UsedEntry, is_live}
use Rattle.ft_layout.specs.Words.{FitsKey}
use Rattle.ft_model.specs.declared.call.Call.TheVariants as call
use Rattle.ft_model.specs.declared.call.SetCall.TheVariants as set
use Rattle.ft_model.specs.declared.content.Content.{Content}
use Rattle.ft_model.specs.declared.content.Content.TheVariants as content
use Rattle.ft_model.specs.declared.content.Element.{Element}
use Rattle.ft_model.specs.declared.data.Key.{Key}
use Rattle.ft_model.specs.declared.data.Key.TheVariants as key
use Rattle.ft_model.specs.declared.reply.Raise.TheVariants as raise
use Rattle.ft_model.specs.declared.reply.Reply.TheVariants as reply
use Rattle.ft_model.specs.declared.script.Kind.{Kind}
use Rattle.ft_model.specs.declared.script.Kind.TheVariants as kind
use Rattle.ft_model.specs.Answers.{puts, shows, without_first}
use Rattle.ft_model.specs.Classes.{set_entries}
use Rattle.ft_model.specs.Contents.{IsSet, SetContent, has_element, set_add, set_discard}
use Rattle.ft_model.specs.Keys.{as_value}
use Rattle.ft_model.specs.Worlds.{kind_of, no_hands, set_of}
use Rattle.ft_trace.specs.declared.Shape.{Shape}
use Rattle.ft_trace.specs.declared.View.{View}
use Rattle.ft_trace.specs.Addresses.{class_of, container_count, places}
use Rattle.ft_trace.specs.Holds.{held_unboxed, known_state}
use Rattle.ft_trace.specs.Kinds.{rows}
use Rattle.ft_trace.specs.Traces.{IsReachable}
use Rattle.ft_trace.specs.Pictures.{ContainerWords, root_in}
use Rattle.ft_trace.specs.ContainerStates.{ContainerState, kind_in}
use Rattle.ft_bank.specs.declared.table.Table.{Table}
use Rattle.ft_bank.specs.TableNames.{IsTableIn, table_id}
use Rattle.ft_search.specs.MadeCalls.{IsShownBy}
use Rattle.ft_search.specs.OneEntryWrites.{HasTable, IsLiveEntry, Leaves, MayWriteEntries, without_key}
use Rattle.ft_search.proofs.Changing.{kind_is}
use Rattle.ft_whole_tables.specs.TableEntries.{IsKeyAt, OfUsed, live_key}
use Rattle.ft_whole_tables.specs.Places.{IsFirst, NoneThere}
use Rattle.ft_whole_tables.proofs.Gathered.{no_set, of_set_low}
use Rattle.ft_whole_tables.proofs.Scanning.{none_live}
use Rattle.ft_set.specs.declared.firsts.First.{First}
use Rattle.ft_set.specs.Firsts.{IsFirstElement, IsFirstIn, IsFirstOf}
use Rattle.ft_set.proofs.Leaving.{leaves_stay, replies}

-- an entry that is there is that of an element; the first of them is the first element's
abbrev pub LiveEntriesAreElements : Type 0
LiveEntriesAreElements =
    (used : List UsedEntry) (set : SetContent) (place : ℕ) (entry : UsedEntry) → AreSetEntries used set → IsSet set.next set.elements → slice_get used place ≡ Some entry → IsTrue (is_live entry)
    → (element : Element) × (entry ≡ used_element element) × (has_element set.elements element.key ≡ true) × (set_add set element.key ≡ set)

abbrev pub FirstEntriesAreFirst : Type 0
FirstEntriesAreFirst =
    (used : List UsedEntry) (set : SetContent) (place : ℕ) (element : Element) → AreSetEntries used set → IsSet set.next set.elements → slice_get used place ≡ Some (used_element element)
    → ((earlier : ℕ) (any : UsedEntry) → earlier < place → is_live (slice_index_or used earlier any) ≡ false)
    → (slice_get set.elements 0 ≡ Some element) × (set_discard set element.key ≡ without_first set)

-- ---- in a table

-- the entry at the place was read
pub first_some : (k : Shape) (table : Table) (fill place : ℕ) (key : Key) (x : ContainerWords) → IsTableIn k table → FitsKey key → OfUsed k (table_id table) (IsFirst fill (Some place)) x → IsKeyAt k (table_id table) place (Some key) x → IsFirstIn k table fill (Some (record { table = table; place = place; key = key })) x
first_some k table fill place key x is_in fits first at = (
  refl,
  record { table_in = is_in; live = λ names. at.1 names key refl; fits = fits },
  λ names way used table_is filled.
      let found = first names way used table_is filled in
      (found.0, found.1, λ any. sym (at.0 names way used table_is any (let less = found.0 in omega (arith, less, filled)))),
)

no_elements : (elements : List Element) → [] ≡ map used_element elements → length elements ≡ 0
no_elements [] e = refl
no_elements (element ∷ elements) e = absurd (cc)

-- no entry is there
pub first_none : (k : Shape) (table : Table) (fill : ℕ) (x : ContainerWords) → OfUsed k (table_id table) (IsFirst fill None) x → IsFirstIn k table fill None x
first_none k table fill x first names way used table_is filled set are is = no_elements set.elements (sym (none_live used fill filled (first names way used table_is filled)) ∙ are.live)

-- an entry that is there has its element
key_live : (e : UsedEntry) (element : Element) → e ≡ used_element element → live_key e ≡ Some element.key
key_live e element is = ap live_key is

pub first_odd : LiveEntriesAreElements → (k : Shape) (table : Table) (fill place : ℕ) (x : ContainerWords) → OfUsed k (table_id table) (IsFirst fill (Some place)) x → IsKeyAt k (table_id table) place None x → IsFirstIn k table fill None x
first_odd lives k table fill place x first at names way used table_is filled set are is =
    let found = first names way used table_is filled in
    let low : place < length used = let less = found.0 in omega (arith, less, filled) in
    let any : UsedEntry = record { key = key.Int (pos 0); serial = 0; stored = None } in
    let e = slice_index_or used place any in
    let element = lives used set place e are is (slice_get-get_or used place any low) (found.2 any) in
    absurd (let some = at.0 names way used table_is any low ∙ key_live e element.0 element.1 in cc)

-- whatever was read there
pub first_found : LiveEntriesAreElements → (k : Shape) (table : Table) (fill place : ℕ) (x : ContainerWords) → IsTableIn k table → (found : Option Key) → IfSome found (λ key. (place < places (class_of (table_id table))) × FitsKey key) → OfUsed k (table_id table) (IsFirst fill (Some place)) x → IsKeyAt k (table_id table) place found x
    → IsFirstIn k table fill (option_map (λ (key : Key). record { table = table; place = place; key = key }) found) x
first_found lives k table fill place x is_in None within first at = first_odd lives k table fill place x first at
first_found lives k table fill place x is_in (Some key) within first at = first_some k table fill place key x is_in within.1 first at

-- ---- of a set

-- what was found, or else another key
abbrev found_in : Option Key → Key → Key
found_in (Some key) other = key
found_in None other = other

live_keyed : (e : UsedEntry) (p : Key) → live_key e ≡ Some p → is_live e ≡ true
live_keyed e p is = by e.stored is
  where
    by : (stored : Option Stored) → option_map (λ (s : Stored). e.key) stored ≡ Some p → is_live (record { key = e.key; serial = e.serial; stored = stored }) ≡ true
    by (Some s) same = refl
    by None same = absurd (cc)

pub first_of : LiveEntriesAreElements → FirstEntriesAreFirst → (k : Shape) (table : Table) (fill : ℕ) (found : Option First) (x : ContainerWords) → root_in x ≡ suc (table_id table) → fill ≡ slice_index x.block 2 → IsFirstIn k table fill found x → IsFirstOf k found x
first_of lives firsts k table fill None x names filled first =
    of_set_low k (table_id table) fill x (λ used. (set : SetContent) → AreSetEntries used set → IsSet set.next set.elements → length set.elements ≡ 0) names filled first (IsFirstElement k None x) (λ used set are is few holds. holds set are is)
first_of lives firsts k table fill (Some first) x names filled is_first =
    of_set_low k (table_id table) fill x (λ used. (fill ≡ length used) × (first.place < fill) × NoneThere 0 first.place used × ((any : UsedEntry) → live_key (slice_index_or used first.place any) ≡ Some first.key)) names filled
    (λ named way used is many. let all = is_first.2 named way used is many in (many, all.0, all.1, all.2)) (IsFirstElement k (Some first) x)
    (λ used set are is few holds.
    let any : UsedEntry = record { key = first.key; serial = 0; stored = None } in
    let e = slice_index_or used first.place any in
    let low : first.place < length used = let less = holds.1 in let many = holds.0 in omega (arith, less, many) in
    let at = slice_get-get_or used first.place any low in
    let element = lives used set first.place e are is at (live_keyed e first.key (holds.3 any)) in
    let all = firsts used set first.place element.0 are is (at ∙ ap Some element.1) (λ j any' small. holds.2 j any' (omega arith) small) in
    let both : Some element.0.key ≡ Some first.key = sym (key_live e element.0 element.1) ∙ holds.3 any in
    let one : element.0.key ≡ first.key = ap (λ (z : Option Key). found_in z first.key) both in
    let same : table_id first.table ≡ table_id table = ap table_id is_first.0 in (
      names ∙ ap suc (sym same),
      is_first.1,
      subst (λ (t : ℕ). first.place < set_entries (class_of t)) (sym same) (omega (arith, low, few)),
      (element.0.serial, all.0 ∙ (λ i. Some (record { serial = element.0.serial; key = one i }))),
      subst (λ (z : Key). set_discard set z ≡ without_first set) one all.1,
    ))

pub first_bare : (k : Shape) (x : ContainerWords) → root_in x ≡ 0 → IsFirstOf k None x
first_bare k x bare = no_set k x bare (IsFirstElement k None x) (λ set none. ap length none)

-- ---- by a pass with the lock

module _ (k : Shape) (s : ℕ) (v : View) (shape : v.shape ≡ k) (possible : ∥ IsReachable v ∥₁) (may : MayWriteEntries k s v) (is : kind_in k.starts s ≡ kind.Set) where
  low' : s < container_count v.shape
  low' = subst (λ (z : Shape). s < container_count z) (sym shape) may.container

  known_kind : kind_of (known_state s v).content ≡ kind.Set
  known_kind = kind_is k v s shape possible may.locked ∙ is

  abbrev elements' : SetContent
  elements' = set_of (known_state s v).content

  as_set : (c : Content) → kind_of c ≡ kind.Set → c ≡ content.Set (set_of c)
  as_set (content.Set elements) e = refl
  as_set (content.List values) e = absurd (cc)
  as_set (content.Deque deque) e = absurd (cc)
  as_set (content.Dict dict) e = absurd (cc)

  is_set' : (known_state s v).content ≡ content.Set elements'
  is_set' = as_set (known_state s v).content known_kind

  module _ (first : First) (found : IsFirstOf k (Some first) (held_unboxed s v)) where
    here : IsFirstElement k (Some first) (held_unboxed s v) elements'
    here = found (known_state s v) known_kind may.stands

    pub popped_table : HasTable k s first.table v
    popped_table = record { table_in = here.1.table_in; root = here.0 }

    pub popped_entry : IsLiveEntry k s first.table first.place first.key v
    popped_entry = record {
      low = subst (λ (z : Kind). first.place < rows z (class_of (table_id first.table))) (sym is) here.2;
      live = here.1.live here.0;
      fits = here.1.fits;
    }

    pub popped_leaves : Leaves s (call.Set s set.Pop) (reply.Value (as_value first.key)) (record { content = without_key (known_state s v).content first.key; table = (known_state s v).table }) v
    popped_leaves =
        let same : record { content = content.Set (set_discard elements' first.key); table = (known_state s v).table } ≡ record { content = without_key (known_state s v).content first.key; table = (known_state s v).table } = λ i. record { content = without_key (sym is_set' i) first.key; table = (known_state s v).table } in
        subst (λ (z : ContainerState). Leaves s (call.Set s set.Pop) (reply.Value (as_value first.key)) z v) same
        (leaves_stay s v elements' (set_discard elements' first.key) set.Pop (reply.Value (as_value first.key)) low' may.locked is_set' refl refl refl refl refl tt
        (λ stored has.
        ap (λ (z : Option Element). option_map_or (λ (element : Element). puts stored.world no_hands s (content.Set (without_first elements')) (reply.Value (as_value element.key))) z (shows stored.world no_hands (reply.Raised raise.NoKey))) here.3.1
        ∙ ap (λ (z : SetContent). puts stored.world no_hands s (content.Set z) (reply.Value (as_value first.key))) (sym here.4)))

  module _ (found : IsFirstOf k None (held_unboxed s v)) where
    empty : length elements'.elements ≡ 0
    empty = found (known_state s v) known_kind may.stands

    no_first : (elements : List Element) → length elements ≡ 0 → slice_get elements 0 ≡ None
    no_first [] e = refl
    no_first (element ∷ elements) e = absurd (omega (arith, e))

    pub popped_raises : IsShownBy (call.Set s set.Pop) (reply.Raised raise.NoKey) v
    popped_raises = record {
      read = refl;
      cursor = refl;
      plain = λ stored same. inr (sym same);
      replied = λ stored has.
          replies s v elements' low' may.locked is_set' stored has set.Pop (reply.Raised raise.NoKey) (shows stored.world no_hands (reply.Raised raise.NoKey))
          (ap (λ (z : Option Element). option_map_or (λ (element : Element). puts stored.world no_hands s (content.Set (without_first elements')) (reply.Value (as_value element.key))) z (shows stored.world no_hands (reply.Raised raise.NoKey))) (no_first elements'.elements empty)) refl;
      cause = λ stored log n. refl;
    }
