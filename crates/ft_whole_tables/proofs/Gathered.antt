-- From the used entries of a table to what a dict or a set has.
use Rattle.std.proofs.Common.{◌≡◌, ℕ, zero, suc, ◌+◌, ◌^◌, ◌<◌, ◌≤◌, true, false, true≢false, List, [], ◌∷◌, ◌++◌, length, map, filter, take, Option, Some, None, refl, sym, ap, ◌∙◌, subst, arith}
use Rattle.std.specs.Prelude.{cond, is_some, slice_index, slice_index_or, option_map}
use Rattle.std.specs.List.{filter_map, cons_option}
use Rattle.std.proofs.Math.Seq.{take-suc}
use Rattle.std.proofs.lemmas.List.Elements.{filter_map-append}
use Rattle.ft_layout.specs.declared.slot.Stored.{Stored}
use Rattle.ft_layout.specs.Containers.{AreDictEntries, AreSetEntries, class_mask, IsDictWords, IsSetWords, StandsAs, used_element, used_pair}
use Rattle.ft_keys.specs.declared.walk.Way.TheVariants as way
use Rattle.ft_layout.specs.Tables.{UsedEntry, is_live, set_room}
use Rattle.ft_layout.proofs.ContentLaws.{stands_for_dict, stands_for_set}
use Rattle.ft_model.specs.declared.content.Content.{Content}
use Rattle.ft_model.specs.declared.content.Content.TheVariants as content
use Rattle.ft_model.specs.declared.content.DictPair.{DictPair}
use Rattle.ft_model.specs.declared.content.Element.{Element}
use Rattle.ft_model.specs.declared.data.Key.{Key}
use Rattle.ft_model.specs.declared.script.Kind.TheVariants as kind
use Rattle.ft_model.specs.Answers.{items_of}
use Rattle.ft_model.specs.Classes.{set_entries}
use Rattle.ft_model.specs.Contents.{DictContent, IsDict, IsSet, SetContent}
use Rattle.ft_model.specs.Worlds.{dict_of, kind_of, length_of, set_of}
use Rattle.ft_trace.specs.declared.Shape.{Shape}
use Rattle.ft_trace.specs.Addresses.{class_of, slots}
use Rattle.ft_trace.specs.Pictures.{ContainerWords, root_in}
use Rattle.ft_trace.proofs.Known.{class_known}
use Rattle.ft_trace.proofs.NoTable.{no_table_stands}
use Rattle.ft_search.proofs.WordPlaces.{slots_of_class}
use Rattle.ft_whole_tables.specs.ShownContents.{IsOfDict, IsOfSet}
use Rattle.ft_whole_tables.specs.TableEntries.{OfUsed, live_key, plain_pair, plain_with}

-- ---- one entry more

module _ {X : Type 0} (h : UsedEntry → Option X) (used : List UsedEntry) (place : ℕ) (any : UsedEntry) (low : place < length used) where
  pub gathered_more : filter_map h (take (place + 1) used) ≡ filter_map h (take place used) ++ cons_option (h (slice_index_or used place any)) []
  gathered_more =
      ap (λ (n : ℕ). filter_map h (take n used)) (let e : place + 1 ≡ suc place = omega arith in e)
      ∙ (ap (filter_map h) (take-suc used place any low) ∙ filter_map-append h (take place used) (slice_index_or used place any ∷ []))

-- one that is there is among all of them
pub gathered_some : {X : Type 0} (h : UsedEntry → Option X) (used : List UsedEntry) (place : ℕ) (any : UsedEntry) → place < length used → (found : Option X) → found ≡ h (slice_index_or used place any) → is_some found ≡ true → 0 < length (filter_map h used)
gathered_some h [] place any low found is some = absurd (omega (arith, low))
gathered_some {X} h (e ∷ used) zero any low found is some = by (h e) (ap is_some (sym is) ∙ some)
  where
    by : (z : Option X) → is_some z ≡ true → 0 < length (cons_option z (filter_map h used))
    by (Some x) there = omega arith
    by None never = absurd (true≢false (sym never))
gathered_some {X} h (e ∷ used) (suc place) any low found is some = by (h e) (gathered_some h used place any (omega (arith, low)) found is some)
  where
    by : (z : Option X) → 0 < length (filter_map h used) → 0 < length (cons_option z (filter_map h used))
    by (Some x) more = omega arith
    by None more = more

-- ---- those that are there

gathered_live : {X : Type 0} (h : UsedEntry → Option X) (used : List UsedEntry) → ((e : UsedEntry) → is_live e ≡ false → h e ≡ None) → filter_map h used ≡ filter_map h (filter is_live used)
gathered_live {X} h [] none = refl
gathered_live {X} h (e ∷ used) none =
    let rest = gathered_live h used none in
    elim (is_live e) as (λ b. is_live e ≡ b → cons_option (h e) (filter_map h used) ≡ filter_map h (cond b (e ∷ filter is_live used) (filter is_live used))) [
      | true ↦ λ live. ap (cons_option (h e)) rest
      | false ↦ λ dead. ap (λ (z : Option X). cons_option z (filter_map h used)) (none e dead) ∙ rest
    ] refl

dead_key : (e : UsedEntry) → is_live e ≡ false → live_key e ≡ None
dead_key e = by e.stored
  where
    by : (stored : Option Stored) → is_live (record { key = e.key; serial = e.serial; stored = stored }) ≡ false → option_map (λ (s : Stored). e.key) stored ≡ None
    by None dead = refl
    by (Some s) dead = absurd (cc)

dead_pair : (e : UsedEntry) → is_live e ≡ false → plain_pair e ≡ None
dead_pair e = by e.stored
  where
    by : (stored : Option Stored) → is_live (record { key = e.key; serial = e.serial; stored = stored }) ≡ false → plain_with e.key stored ≡ None
    by None dead = refl
    by (Some s) dead = absurd (cc)

keys_of : (elements : List Element) → filter_map live_key (map used_element elements) ≡ map (λ (e : Element). e.key) elements
keys_of [] = refl
keys_of (element ∷ elements) = ap (λ (l : List Key). element.key ∷ l) (keys_of elements)

pairs_of : (pairs : List DictPair) → filter_map plain_pair (map used_pair pairs) ≡ items_of pairs
pairs_of [] = refl
pairs_of (pair ∷ pairs) = ap (λ l. (pair.key, pair.value) ∷ l) (pairs_of pairs)

pub elements_gathered : (used : List UsedEntry) (set : SetContent) → AreSetEntries used set → filter_map live_key used ≡ map (λ (e : Element). e.key) set.elements
elements_gathered used set are = gathered_live live_key used dead_key ∙ (ap (filter_map live_key) are.live ∙ keys_of set.elements)

pub pairs_gathered : (used : List UsedEntry) (dict : DictContent) → AreDictEntries used dict → filter_map plain_pair used ≡ items_of dict.pairs
pairs_gathered used dict are = gathered_live plain_pair used dead_pair ∙ (ap (filter_map plain_pair) are.live ∙ pairs_of dict.pairs)

-- ---- contents

slots_is_pow : (c : ℕ) → slots c ≡ 2 ^ c
unfolding slots
slots_is_pow c = refl

set_room_is : (c : ℕ) → set_room (class_mask c) ≡ set_entries c
set_room_is c = let e : 2 ^ c ≡ class_mask c + 1 = sym (slots_is_pow c) ∙ slots_of_class c in omega (arith, e)

module _ (k : Shape) (t fill : ℕ) (x : ContainerWords) (holds : List UsedEntry → Type 0) (names : root_in x ≡ suc t) (filled : fill ≡ slice_index x.block 2) (of_used : OfUsed k t (λ used. fill ≡ length used → holds used) x) where
  pub of_dict : (then : DictContent → Type 0) → ((used : List UsedEntry) (dict : DictContent) → AreDictEntries used dict → IsDict dict.next dict.pairs → holds used → then dict) → IsOfDict k then x
  of_dict then f kept is stands = by kept.content is stands
    where
      by : (c : Content) → kind_of c ≡ kind.Dict → StandsAs k.texts x.block (0 ∷ 0 ∷ x.table) kept.table c → then (dict_of c)
      by (content.Dict dict) e s =
          let says = subst (λ (z : Option ℕ). IsDictWords k.texts x.block (0 ∷ 0 ∷ x.table) z kept.table.fill dict) (class_known k.texts x kept t stands names) s in
          f says.used dict says.entries (stands_for_dict k.texts x.block (0 ∷ 0 ∷ x.table) (Some (class_of t)) kept.table.fill dict says) (of_used names way.Dict says.used says.table (filled ∙ (says.head.fill_is ∙ sym says.filled)))
      by (content.List values) e s = absurd (cc)
      by (content.Deque deque) e s = absurd (cc)
      by (content.Set set) e s = absurd (cc)

  -- a set has no more entries than its table has room for
  pub of_set_low : (then : SetContent → Type 0) → ((used : List UsedEntry) (set : SetContent) → AreSetEntries used set → IsSet set.next set.elements → length used ≤ set_entries (class_of t) → holds used → then set) → IsOfSet k then x
  of_set_low then f kept is stands = by kept.content is stands
    where
      by : (c : Content) → kind_of c ≡ kind.Set → StandsAs k.texts x.block (0 ∷ 0 ∷ x.table) kept.table c → then (set_of c)
      by (content.Set set) e s =
          let says = subst (λ (z : Option ℕ). IsSetWords k.texts x.block (0 ∷ 0 ∷ x.table) z kept.table.fill set) (class_known k.texts x kept t stands names) s in
          let few = says.table.fill in
          let all : set_room (class_mask (class_of t)) ≡ set_entries (class_of t) = set_room_is (class_of t) in
          f says.used set says.entries (stands_for_set k.texts x.block (0 ∷ 0 ∷ x.table) (Some (class_of t)) kept.table.fill set says) (omega (arith, few, all)) (of_used names way.Set says.used says.table (filled ∙ (says.head.fill_is ∙ sym says.filled)))
      by (content.List values) e s = absurd (cc)
      by (content.Deque deque) e s = absurd (cc)
      by (content.Dict dict) e s = absurd (cc)

  pub of_set : (then : SetContent → Type 0) → ((used : List UsedEntry) (set : SetContent) → AreSetEntries used set → IsSet set.next set.elements → holds used → then set) → IsOfSet k then x
  of_set then f = of_set_low then (λ used set are is few holds. f used set are is holds)

no_items : {X : Type 0} (xs : List X) → length xs ≡ 0 → xs ≡ []
no_items [] e = refl
no_items (x ∷ xs) e = absurd (omega (arith, e))

module _ (k : Shape) (x : ContainerWords) (bare : root_in x ≡ 0) where
  pub no_dict : (then : DictContent → Type 0) → ((dict : DictContent) → dict.pairs ≡ [] → then dict) → IsOfDict k then x
  no_dict then f kept is stands = by kept.content is (no_table_stands k.texts x kept bare stands).1
    where
      by : (c : Content) → kind_of c ≡ kind.Dict → length_of c ≡ 0 → then (dict_of c)
      by (content.Dict dict) e none = f dict (no_items dict.pairs none)
      by (content.List values) e none = absurd (cc)
      by (content.Deque deque) e none = absurd (cc)
      by (content.Set set) e none = absurd (cc)

  pub no_set : (then : SetContent → Type 0) → ((set : SetContent) → set.elements ≡ [] → then set) → IsOfSet k then x
  no_set then f kept is stands = by kept.content is (no_table_stands k.texts x kept bare stands).1
    where
      by : (c : Content) → kind_of c ≡ kind.Set → length_of c ≡ 0 → then (set_of c)
      by (content.Set set) e none = f set (no_items set.elements none)
      by (content.List values) e none = absurd (cc)
      by (content.Deque deque) e none = absurd (cc)
      by (content.Dict dict) e none = absurd (cc)
