-- The last pair of a dict: what its entry says, and what `popitem` leaves and replies.
use Rattle.std.proofs.Common.{◌≡◌, ℕ, suc, ◌+◌, ◌-◌, ◌<◌, true, false, List, [], ◌∷◌, length, map, Option, Some, None, refl, sym, ap, ◌∙◌, subst, arith, inr}
use Rattle.std.specs.Prelude.{pos, IfSome, option_map, slice_get, slice_index, slice_index_or}
use Rattle.std.specs.Option.{option_map_or}
use Rattle.std.proofs.lemmas.Option.{slice_get-get_or}
use Rattle.ft_layout.specs.declared.slot.Stored.{Stored}
use Rattle.ft_layout.specs.Containers.{AreDictEntries, used_pair}
use Rattle.ft_layout.specs.Tables.{UsedEntry, is_live}
use Rattle.ft_layout.specs.Words.{FitsKey}
use Rattle.ft_model.specs.declared.call.Call.TheVariants as call
use Rattle.ft_model.specs.declared.call.DictCall.TheVariants as dict
use Rattle.ft_model.specs.declared.content.Content.{Content}
use Rattle.ft_model.specs.declared.content.Content.TheVariants as content
use Rattle.ft_model.specs.declared.content.DictPair.{DictPair}
use Rattle.ft_model.specs.declared.data.Key.{Key}
use Rattle.ft_model.specs.declared.data.Key.TheVariants as key
use Rattle.ft_model.specs.declared.data.Value.{Value}
use Rattle.ft_model.specs.declared.reply.Raise.TheVariants as raise
use Rattle.ft_model.specs.declared.reply.Reply.TheVariants as reply
use Rattle.ft_model.specs.declared.script.Kind.{Kind}
use Rattle.ft_model.specs.declared.script.Kind.TheVariants as kind
use Rattle.ft_model.specs.Answers.{puts, shows, without_last}
use Rattle.ft_model.specs.Contents.{DictContent, IsDict, dict_del}
use Rattle.ft_model.specs.Worlds.{dict_of, kind_of, no_hands}
use Rattle.ft_trace.specs.declared.Shape.{Shape}
use Rattle.ft_trace.specs.declared.View.{View}
use Rattle.ft_trace.specs.Addresses.{class_of, container_count, places}
use Rattle.ft_trace.specs.Holds.{held_unboxed, known_state}
use Rattle.ft_trace.specs.Kinds.{rows}
use Rattle.ft_trace.specs.Traces.{IsReachable}
use Rattle.ft_trace.proofs.DictWrites.{LiveEntriesArePairs}
use Rattle.ft_trace.specs.Pictures.{ContainerWords, root_in}
use Rattle.ft_trace.specs.ContainerStates.{ContainerState, kind_in}
use Rattle.ft_bank.specs.declared.table.Table.{Table}
use Rattle.ft_bank.specs.TableNames.{IsTableIn, table_id}
use Rattle.ft_search.specs.MadeCalls.{IsShownBy}
use Rattle.ft_search.specs.OneEntryWrites.{HasTable, IsLiveEntry, Leaves, MayWriteEntries, without_key}
use Rattle.ft_search.proofs.Changing.{kind_is}
use Rattle.ft_whole_tables.specs.TableEntries.{IsPlainAt, OfUsed, plain_pair, plain_with}
use Rattle.ft_whole_tables.specs.Places.{IsLast, NoneThere}
use Rattle.ft_whole_tables.proofs.Gathered.{no_dict, of_dict}
use Rattle.ft_whole_tables.proofs.Scanning.{none_live}
use Rattle.ft_dict.specs.declared.lasts.Last.{Last}
use Rattle.ft_dict.specs.Lasts.{IsLastIn, IsLastOf, IsLastPair}
use Rattle.ft_dict.proofs.Leaving.{leaves_stay, replies}

-- the last used entry that is there is the last pair's
abbrev pub LastEntriesAreLast : Type 0
LastEntriesAreLast =
    (used : List UsedEntry) (dict : DictContent) (place : ℕ) (pair : DictPair) → AreDictEntries used dict → IsDict dict.next dict.pairs → slice_get used place ≡ Some (used_pair pair)
    → ((later : ℕ) (any : UsedEntry) → place < later → later < length used → is_live (slice_index_or used later any) ≡ false)
    → (slice_get dict.pairs (length dict.pairs - 1) ≡ Some pair) × (dict_del dict pair.key ≡ without_last dict)

-- ---- in a table

-- the entry at the place was read
pub last_some : (k : Shape) (table : Table) (fill place : ℕ) (key : Key) (value : Value) (x : ContainerWords) → IsTableIn k table → place < places (class_of (table_id table)) → FitsKey key → OfUsed k (table_id table) (IsLast fill (Some place)) x → IsPlainAt k (table_id table) place (Some (key, value)) x
    → IsLastIn k table fill (Some (record { table = table; place = place; key = key; value = value })) x
last_some k table fill place key value x is_in low fits last at = (
  refl,
  record { table_in = is_in; low = low; live = λ names. at.1 names key value refl; fits = fits },
  λ names way used table_is filled.
      let found = last names way used table_is filled in
      (found.0, found.1, λ any. sym (at.0 names way used table_is any (let less = found.0 in omega (arith, less, filled)))),
)

no_pairs : (pairs : List DictPair) → [] ≡ map used_pair pairs → length pairs ≡ 0
no_pairs [] e = refl
no_pairs (pair ∷ pairs) e = absurd (cc)

-- no entry is there
pub last_none : (k : Shape) (table : Table) (fill : ℕ) (x : ContainerWords) → OfUsed k (table_id table) (IsLast fill None) x → IsLastIn k table fill None x
last_none k table fill x last names way used table_is filled dict are is = no_pairs dict.pairs (sym (none_live used fill filled (last names way used table_is filled)) ∙ are.live)

-- an entry of a dict that is there has a value
plain_live : (e : UsedEntry) (pair : DictPair) → e ≡ used_pair pair → plain_pair e ≡ Some (pair.key, pair.value)
plain_live e pair is = ap plain_pair is

pub last_odd : LiveEntriesArePairs → (k : Shape) (table : Table) (fill place : ℕ) (x : ContainerWords) → OfUsed k (table_id table) (IsLast fill (Some place)) x → IsPlainAt k (table_id table) place None x → IsLastIn k table fill None x
last_odd lives k table fill place x last at names way used table_is filled dict are is =
    let found = last names way used table_is filled in
    let low : place < length used = let less = found.0 in omega (arith, less, filled) in
    let any : UsedEntry = record { key = key.Int (pos 0); serial = 0; stored = None } in
    let e = slice_index_or used place any in
    let pair = lives used dict place e are is (slice_get-get_or used place any low) (found.2 any) in
    absurd (let some = at.0 names way used table_is any low ∙ plain_live e pair.0 pair.1 in cc)

-- whatever was read there
pub last_found : LiveEntriesArePairs → (k : Shape) (table : Table) (fill place : ℕ) (x : ContainerWords) → IsTableIn k table → (found : Option (Key × Value)) → IfSome found (λ pair. (place < places (class_of (table_id table))) × FitsKey pair.0) → OfUsed k (table_id table) (IsLast fill (Some place)) x → IsPlainAt k (table_id table) place found x
    → IsLastIn k table fill (option_map (λ (pair : Key × Value). record { table = table; place = place; key = pair.0; value = pair.1 }) found) x
last_found lives k table fill place x is_in None within last at = last_odd lives k table fill place x last at
last_found lives k table fill place x is_in (Some pair) within last at = last_some k table fill place pair.0 pair.1 x is_in within.0 within.1 last at

-- ---- of a dict

-- what was found, or else another pair
abbrev found_in : Option (Key × Value) → Key × Value → Key × Value
found_in (Some pair) other = pair
found_in None other = other

live_plain : (e : UsedEntry) (p : Key × Value) → plain_pair e ≡ Some p → is_live e ≡ true
live_plain e p is = by e.stored is
  where
    by : (stored : Option Stored) → plain_with e.key stored ≡ Some p → is_live (record { key = e.key; serial = e.serial; stored = stored }) ≡ true
    by (Some s) same = refl
    by None same = absurd (cc)

pub last_of : LiveEntriesArePairs → LastEntriesAreLast → (k : Shape) (table : Table) (fill : ℕ) (found : Option Last) (x : ContainerWords) → root_in x ≡ suc (table_id table) → fill ≡ slice_index x.block 2 → IsLastIn k table fill found x → IsLastOf k found x
last_of lives lasts k table fill None x names filled last =
    of_dict k (table_id table) fill x (λ used. (dict : DictContent) → AreDictEntries used dict → IsDict dict.next dict.pairs → length dict.pairs ≡ 0) names filled last (IsLastPair k None x) (λ used dict are is holds. holds dict are is)
last_of lives lasts k table fill (Some last) x names filled is_last =
    of_dict k (table_id table) fill x (λ used. (fill ≡ length used) × (last.place < fill) × NoneThere (last.place + 1) fill used × ((any : UsedEntry) → plain_pair (slice_index_or used last.place any) ≡ Some (last.key, last.value))) names filled
    (λ named way used is many. let all = is_last.2 named way used is many in (many, all.0, all.1, all.2)) (IsLastPair k (Some last) x)
    (λ used dict are is holds.
    let any : UsedEntry = record { key = last.key; serial = 0; stored = None } in
    let e = slice_index_or used last.place any in
    let low : last.place < length used = let less = holds.1 in let many = holds.0 in omega (arith, less, many) in
    let at = slice_get-get_or used last.place any low in
    let pair = lives used dict last.place e are is at (live_plain e (last.key, last.value) (holds.3 any)) in
    let all = lasts used dict last.place pair.0 are is (at ∙ ap Some pair.1) (λ j any' more small. holds.2 j any' (omega (arith, more)) (let many = holds.0 in omega (arith, small, many))) in
    let both : Some (pair.0.key, pair.0.value) ≡ Some (last.key, last.value) = sym (plain_live e pair.0 pair.1) ∙ holds.3 any in
    let one : pair.0.key ≡ last.key = ap (λ (z : Option (Key × Value)). (found_in z (last.key, last.value)).0) both in
    let two : pair.0.value ≡ last.value = ap (λ (z : Option (Key × Value)). (found_in z (last.key, last.value)).1) both in (
      names ∙ ap (λ (t : Table). suc (table_id t)) (sym is_last.0),
      is_last.1,
      (pair.0.serial, all.0 ∙ (λ i. Some (record { serial = pair.0.serial; key = one i; value = two i }))),
      subst (λ (z : Key). dict_del dict z ≡ without_last dict) one all.1,
    ))

pub last_bare : (k : Shape) (x : ContainerWords) → root_in x ≡ 0 → IsLastOf k None x
last_bare k x bare = no_dict k x bare (IsLastPair k None x) (λ dict none. ap length none)

-- ---- by a pass with the lock

module _ (k : Shape) (d : ℕ) (v : View) (shape : v.shape ≡ k) (possible : ∥ IsReachable v ∥₁) (may : MayWriteEntries k d v) (is : kind_in k.starts d ≡ kind.Dict) where
  low' : d < container_count v.shape
  low' = subst (λ (z : Shape). d < container_count z) (sym shape) may.container

  known_kind : kind_of (known_state d v).content ≡ kind.Dict
  known_kind = kind_is k v d shape possible may.locked ∙ is

  abbrev pairs' : DictContent
  pairs' = dict_of (known_state d v).content

  as_dict : (c : Content) → kind_of c ≡ kind.Dict → c ≡ content.Dict (dict_of c)
  as_dict (content.Dict dict) e = refl
  as_dict (content.List values) e = absurd (cc)
  as_dict (content.Deque deque) e = absurd (cc)
  as_dict (content.Set set) e = absurd (cc)

  is_dict' : (known_state d v).content ≡ content.Dict pairs'
  is_dict' = as_dict (known_state d v).content known_kind

  module _ (last : Last) (found : IsLastOf k (Some last) (held_unboxed d v)) where
    here : IsLastPair k (Some last) (held_unboxed d v) pairs'
    here = found (known_state d v) known_kind may.stands

    pub popped_table : HasTable k d last.table v
    popped_table = record { table_in = here.1.table_in; root = here.0 }

    pub popped_entry : IsLiveEntry k d last.table last.place last.key v
    popped_entry = record {
      low = subst (λ (z : Kind). last.place < rows z (class_of (table_id last.table))) (sym is) here.1.low;
      live = here.1.live here.0;
      fits = here.1.fits;
    }

    pub popped_leaves : Leaves d (call.Dict d dict.PopItem) (reply.Pair last.key last.value) (record { content = without_key (known_state d v).content last.key; table = (known_state d v).table }) v
    popped_leaves =
        let same : record { content = content.Dict (dict_del pairs' last.key); table = (known_state d v).table } ≡ record { content = without_key (known_state d v).content last.key; table = (known_state d v).table } = λ i. record { content = without_key (sym is_dict' i) last.key; table = (known_state d v).table } in
        subst (λ (z : ContainerState). Leaves d (call.Dict d dict.PopItem) (reply.Pair last.key last.value) z v) same
        (leaves_stay d v pairs' (dict_del pairs' last.key) dict.PopItem (reply.Pair last.key last.value) low' may.locked is_dict' refl refl refl refl refl tt
        (λ stored has.
        ap (λ (z : Option DictPair). option_map_or (λ (pair : DictPair). puts stored.world no_hands d (content.Dict (without_last pairs')) (reply.Pair pair.key pair.value)) z (shows stored.world no_hands (reply.Raised raise.NoKey))) here.2.1
        ∙ ap (λ (z : DictContent). puts stored.world no_hands d (content.Dict z) (reply.Pair last.key last.value)) (sym here.3)))

  module _ (found : IsLastOf k None (held_unboxed d v)) where
    empty : length pairs'.pairs ≡ 0
    empty = found (known_state d v) known_kind may.stands

    no_last : (pairs : List DictPair) → length pairs ≡ 0 → slice_get pairs (length pairs - 1) ≡ None
    no_last [] e = refl
    no_last (pair ∷ pairs) e = absurd (omega (arith, e))

    pub popped_raises : IsShownBy (call.Dict d dict.PopItem) (reply.Raised raise.NoKey) v
    popped_raises = record {
      read = refl;
      cursor = refl;
      plain = λ stored same. inr (sym same);
      replied = λ stored has.
          replies d v pairs' low' may.locked is_dict' stored has dict.PopItem (reply.Raised raise.NoKey) (shows stored.world no_hands (reply.Raised raise.NoKey))
          (ap (λ (z : Option DictPair). option_map_or (λ (pair : DictPair). puts stored.world no_hands d (content.Dict (without_last pairs')) (reply.Pair pair.key pair.value)) z (shows stored.world no_hands (reply.Raised raise.NoKey))) (no_last pairs'.pairs empty)) refl;
      cause = λ stored log n. refl;
    }
