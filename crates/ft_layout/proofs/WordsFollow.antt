-- What the words of a dict and a set stand for after one of their entries changed.
use Rattle.std.proofs.Common.{◌≡◌, ◌≢◌, Bool, true, false, cond, find, map, refl, Option, ℕ, ◌+◌, ◌<◌, List, [], ◌∷◌, ◌++◌, length, set, filter, All, Some, sym, ap, ◌∙◌, arith}
use Rattle.std.specs.Prelude.{◌&&◌, slice_get, option_map}
use Rattle.std.proofs.lemmas.List.{length-map, length-set, length_push}
use Rattle.std.proofs.lemmas.List.Elements.{All-filter, filter_passes}
use Rattle.ft_model.specs.declared.data.Key.{Key}
use Rattle.ft_model.specs.declared.data.Value.{Value}
use Rattle.ft_model.specs.declared.content.DictPair.{DictPair}
use Rattle.ft_model.specs.declared.content.Element.{Element}
use Rattle.ft_model.specs.Contents.{DictContent, SetContent, dict_set, dict_del, set_add, set_discard}
use Rattle.ft_hash.specs.Probes.{dict_slots, set_slots}
use Rattle.ft_hash.proofs.Walks.{dict_slots-within, set_slots-within}
use Rattle.ft_layout.specs.declared.slot.Stored.TheVariants.{Empty, Plain}
use Rattle.ft_layout.specs.Words.{FitsStored}
use Rattle.ft_layout.specs.Tables.{dict_room, set_room, UsedEntry, is_live, deleted, IsDictTable, IsSetTable}
use Rattle.ft_layout.specs.WordChanges.{with_stored, with_deleted}
use Rattle.ft_layout.specs.Containers.{class_mask, used_pair, used_element, IsBlock, AreDictEntries, AreSetEntries, IsDictWords, IsSetWords}
use Rattle.ft_layout.proofs.ContentLaws.{stands_for_dict, stands_for_set}
use Rattle.ft_layout.proofs.FieldLaws.{set_fits}
use Rattle.ft_layout.proofs.FollowLaws.{changed_value, added_key, deleted_key, added_element_is, deleted_element}
use Rattle.ft_layout.proofs.KeyedLists.{filter-all}
use Rattle.ft_layout.proofs.PutLaws.{value_put, key_deleted}

-- ---- the live entries alone

live_again : (used : List UsedEntry) → filter is_live (filter is_live used) ≡ filter is_live used
live_again used = filter-all is_live (filter is_live used) (filter_passes is_live used)

pub live_pairs : (used : List UsedEntry) (dict : DictContent) → AreDictEntries used dict → AreDictEntries (filter is_live used) dict × (length (filter is_live used) ≡ length dict.pairs)
live_pairs used dict are = (
  record { live = live_again used ∙ are.live; below = All-filter is_live (λ (u : UsedEntry). u.serial < dict.next) used are.below },
  ap length are.live ∙ length-map dict.pairs used_pair,
)

pub live_elements : (used : List UsedEntry) (content : SetContent) → AreSetEntries used content → AreSetEntries (filter is_live used) content × (length (filter is_live used) ≡ length content.elements)
live_elements used content are = (
  record { live = live_again used ∙ are.live; below = All-filter is_live (λ (u : UsedEntry). u.serial < content.next) used are.below },
  ap length are.live ∙ length-map content.elements used_element,
)

-- ---- the first live entry that passes a test

find-filter : {X : Type 0} (p q : X → Bool) (xs : List X) → find (λ x. p x && q x) xs ≡ find q (filter p xs)
find-filter p q [] = refl
find-filter {X} p q (x ∷ xs) =
    let rest = find-filter p q xs in
    elim (p x) as (λ b. p x ≡ b → find (λ y. p y && q y) (x ∷ xs) ≡ find q (filter p (x ∷ xs))) [
      | true ↦ λ yes. rw yes (ap (λ (o : Option X). cond (q x) (Some x) o) rest)
      | false ↦ λ no. rw no rest
    ] refl

find-map : {X Y : Type 0} (of : Y → X) (q : X → Bool) (ys : List Y) → find q (map of ys) ≡ option_map of (find (λ y. q (of y)) ys)
find-map of q [] = refl
find-map of q (y ∷ ys) =
    let rest = find-map of q ys in
    elim (q (of y)) as (λ b. q (of y) ≡ b → find q (map of (y ∷ ys)) ≡ option_map of (find (λ z. q (of z)) (y ∷ ys))) [
      | true ↦ λ yes. rw yes refl
      | false ↦ λ no. rw no rest
    ] refl

first_live : {Y : Type 0} (of : Y → UsedEntry) (used : List UsedEntry) (ys : List Y) (test : UsedEntry → Bool) → filter is_live used ≡ map of ys → find (λ entry. is_live entry && test entry) used ≡ option_map of (find (λ y. test (of y)) ys)
first_live of used ys test live = find-filter is_live test used ∙ (ap (find test) live ∙ find-map of test ys)

pub first_pair : (used : List UsedEntry) (dict : DictContent) (test : UsedEntry → Bool) → AreDictEntries used dict → find (λ entry. is_live entry && test entry) used ≡ option_map used_pair (find (λ pair. test (used_pair pair)) dict.pairs)
first_pair used dict test are = first_live used_pair used dict.pairs test are.live

pub first_element : (used : List UsedEntry) (content : SetContent) (test : UsedEntry → Bool) → AreSetEntries used content → find (λ entry. is_live entry && test entry) used ≡ option_map used_element (find (λ element. test (used_element element)) content.elements)
first_element used content test are = first_live used_element used content.elements test are.live

-- ---- dicts

module _ (texts block words : List ℕ) (class fill : ℕ) (dict : DictContent) (says : IsDictWords texts block words (Some class) fill dict) (place : ℕ) (pair : DictPair) (at : slice_get says.used place ≡ Some (used_pair pair)) where
  pub value_changed : (value : Value) → FitsStored (Plain value) → IsDictWords texts block (with_stored (class_mask class) words place (Plain value)) (Some class) fill (dict_set dict pair.key value)
  value_changed value fits =
      let new : DictPair = record { serial = pair.serial; key = pair.key; value = value } in
      let follows = changed_value says.used dict says.entries (stands_for_dict texts block words (Some class) fill dict says) place pair at value in
      record {
        head = record {
          size = says.head.size;
          root = says.head.root;
          count_is = says.head.count_is ∙ sym follows.1;
          fill_is = says.head.fill_is;
          next_is = says.head.next_is ∙ sym follows.2;
          spare = says.head.spare;
        };
        used = set says.used place (used_pair new);
        table = value_put (λ hash. dict_slots hash (class_mask class) (class_mask class + 14)) (dict_room (class_mask class)) texts (class_mask class) (λ hash. dict_slots-within hash (class_mask class) (class_mask class + 14)) (omega arith) says.used words says.table place pair.key pair.serial (Plain pair.value) at (Plain value) fits;
        filled = length-set says.used place (used_pair new) ∙ says.filled;
        entries = follows.0;
      }

  pub pair_deleted : (other : List ℕ) → IsBlock other (Some class) (length (dict_del dict pair.key).pairs) fill dict.next → IsDictWords texts other (with_deleted (class_mask class) words place pair.key) (Some class) fill (dict_del dict pair.key)
  pair_deleted other head =
      let follows = deleted_key says.used dict says.entries (stands_for_dict texts block words (Some class) fill dict says) place pair at in
      record {
        head = head;
        used = set says.used place (deleted (used_pair pair));
        table = key_deleted (λ hash. dict_slots hash (class_mask class) (class_mask class + 14)) (dict_room (class_mask class)) texts (class_mask class) (λ hash. dict_slots-within hash (class_mask class) (class_mask class + 14)) (omega arith) says.used words says.table place pair.key pair.serial (Plain pair.value) at;
        filled = length-set says.used place (deleted (used_pair pair)) ∙ says.filled;
        entries = follows.0;
      }

pub pair_added : (texts block words : List ℕ) (class : ℕ) (used : List UsedEntry) (dict : DictContent) (key : Key) (value : Value) → AreDictEntries used dict → All (λ entry. entry.key ≢ key) (filter is_live used)
    → IsBlock block (Some class) (length dict.pairs + 1) (length used + 1) (dict.next + 1)
    → IsDictTable texts (class_mask class) (used ++ used_pair (record { serial = dict.next; key = key; value = value }) ∷ []) words
    → IsDictWords texts block words (Some class) (length used + 1) (dict_set dict key value)
pair_added texts block words class used dict key value are none head table =
    let follows = added_key used dict are key none value in
    let new : DictPair = record { serial = dict.next; key = key; value = value } in
    record {
      head = record { size = head.size; root = head.root; count_is = head.count_is ∙ sym follows.1; fill_is = head.fill_is; next_is = head.next_is ∙ sym follows.2; spare = head.spare };
      used = used ++ used_pair new ∷ [];
      table = table;
      filled = length_push used (used_pair new);
      entries = follows.0;
    }

-- ---- sets

pub element_deleted : (texts block words other : List ℕ) (class fill : ℕ) (content : SetContent) (says : IsSetWords texts block words (Some class) fill content) (place : ℕ) (element : Element) → slice_get says.used place ≡ Some (used_element element)
    → IsBlock other (Some class) (length (set_discard content element.key).elements) fill content.next
    → IsSetWords texts other (with_deleted (class_mask class) words place element.key) (Some class) fill (set_discard content element.key)
element_deleted texts block words other class fill content says place element at head =
    let follows = deleted_element says.used content says.entries (stands_for_set texts block words (Some class) fill content says) place element at in
    record {
      head = head;
      used = set says.used place (deleted (used_element element));
      table = key_deleted (λ hash. set_slots hash (class_mask class) (class_mask class + 14)) (set_room (class_mask class)) texts (class_mask class) (λ hash. set_slots-within hash (class_mask class) (class_mask class + 14)) (set_fits (class_mask class)) says.used words says.table place element.key element.serial Empty at;
      filled = length-set says.used place (deleted (used_element element)) ∙ says.filled;
      entries = follows.0;
    }

pub element_added : (texts block words : List ℕ) (class : ℕ) (used : List UsedEntry) (content : SetContent) (key : Key) → AreSetEntries used content → All (λ entry. entry.key ≢ key) (filter is_live used)
    → IsBlock block (Some class) (length content.elements + 1) (length used + 1) (content.next + 1)
    → IsSetTable texts (class_mask class) (used ++ used_element (record { serial = content.next; key = key }) ∷ []) words
    → IsSetWords texts block words (Some class) (length used + 1) (set_add content key)
element_added texts block words class used content key are none head table =
    let follows = added_element_is used content are key none in
    let new : Element = record { serial = content.next; key = key } in
    record {
      head = record { size = head.size; root = head.root; count_is = head.count_is ∙ sym follows.1; fill_is = head.fill_is; next_is = head.next_is ∙ sym follows.2; spare = head.spare };
      used = used ++ used_element new ∷ [];
      table = table;
      filled = length_push used (used_element new);
      entries = follows.0;
    }
