-- What a search finds in words that stand for a content.
use Rattle.std.proofs.Common.{◌≡◌, ◌≢◌, ℕ, suc, ◌+◌, ◌*◌, ◌^◌, ◌<◌, true, false, List, [], ◌∷◌, length, filter, Option, Some, None, All, refl, sym, ap, ◌∙◌, subst, arith}
use Rattle.std.specs.Prelude.{slice_index}
use Rattle.std.proofs.lemmas.List.Elements.{All-nil}
use Rattle.std.proofs.Math.Logic.{∥∥₁_elim}
use Rattle.std.proofs.Math.Nat.{ℕ_set}
use Rattle.ft_model.specs.Classes.{IsClass}
use Rattle.ft_model.specs.Contents.{DictContent, SetContent, has_key, has_element}
use Rattle.ft_model.specs.Worlds.{kind_of}
use Rattle.ft_model.specs.declared.content.Content.{Content}
use Rattle.ft_model.specs.declared.content.Content.TheVariants as content
use Rattle.ft_model.specs.declared.data.Key.{Key}
use Rattle.ft_model.specs.declared.script.Kind.{Kind}
use Rattle.ft_model.specs.declared.script.Kind.TheVariants as kind
use Rattle.ft_layout.specs.Containers.{class_mask, AreDictEntries, AreSetEntries, IsDictWords, IsSetWords, StandsAs}
use Rattle.ft_layout.specs.Tables.{UsedEntry, hash_of, entry_word, is_live}
use Rattle.ft_keys.specs.Searches.{Searched}
use Rattle.ft_keys.specs.Ways.{walk_slots, IsTableOf}
use Rattle.ft_keys.specs.declared.search.Found.{Found}
use Rattle.ft_keys.specs.declared.search.Found.TheVariants.{At, Was, Free, Spent}
use Rattle.ft_keys.specs.declared.walk.Way.{Way}
use Rattle.ft_keys.specs.declared.walk.Way.TheVariants as way
use Rattle.ft_trace.specs.Acts.{has_lock}
use Rattle.ft_trace.specs.Addresses.{slots}
use Rattle.ft_trace.specs.Carefuls.{HasLiveKey, said_of}
use Rattle.ft_trace.specs.Holds.{known_state}
use Rattle.ft_trace.specs.Kinds.{under}
use Rattle.ft_trace.specs.Traces.{IsReachable}
use Rattle.ft_trace.specs.Pictures.{ContainerWords, entry_field, root_in, Represents}
use Rattle.ft_trace.specs.ContainerStates.{ContainerState, kind_in}
use Rattle.ft_trace.specs.declared.Shape.{Shape}
use Rattle.ft_trace.specs.declared.View.{View}
use Rattle.ft_trace.proofs.DictWrites as dict
use Rattle.ft_trace.proofs.SetKnown as set
use Rattle.ft_trace.proofs.Known.{kind_known, class_known}
use Rattle.ft_bank.specs.declared.table.Table.{Table}
use Rattle.ft_bank.specs.TableNames.{table_id, IsTableIn}
use Rattle.ft_bank.proofs.TableAddresses.{class_is}
use Rattle.ft_search.specs.Rounds.{kind_by}
use Rattle.ft_search.specs.Held.{ReadsEntry, IsHeldAt}
use Rattle.ft_search.proofs.KnownTableWords.{entry_after_header}
use Rattle.ft_search.proofs.WordPlaces.{slots_of_class}

-- ---- the kind of what a pass knows

abbrev code : Kind → ℕ
code kind.Dict = 0
code kind.List = 1
code kind.Set = 2
code (kind.Deque bound) = 3

as_dict : (c : Content) → code (kind_of c) ≡ 0 → (pairs : DictContent) × (c ≡ content.Dict pairs)
as_dict (content.Dict pairs) is = (pairs, refl)
as_dict (content.List values) is = absurd (omega (arith, is))
as_dict (content.Deque deque) is = absurd (omega (arith, is))
as_dict (content.Set elements) is = absurd (omega (arith, is))

as_set : (c : Content) → code (kind_of c) ≡ 2 → (elements : SetContent) × (c ≡ content.Set elements)
as_set (content.Dict pairs) is = absurd (omega (arith, is))
as_set (content.List values) is = absurd (omega (arith, is))
as_set (content.Deque deque) is = absurd (omega (arith, is))
as_set (content.Set elements) is = (elements, refl)

kind_code : (v : View) (o : ℕ) → ∥ IsReachable v ∥₁ → has_lock o v.log ≡ true → code (kind_of (known_state o v).content) ≡ code (kind_in v.shape.starts o)
kind_code v o possible mine = ∥∥₁_elim {P = code (kind_of (known_state o v).content) ≡ code (kind_in v.shape.starts o)} possible (ℕ_set _ _) (λ p. ap code (kind_known v o mine p))

pub dict_known : (v : View) (o : ℕ) → ∥ IsReachable v ∥₁ → has_lock o v.log ≡ true → kind_in v.shape.starts o ≡ kind.Dict → (pairs : DictContent) × ((known_state o v).content ≡ content.Dict pairs)
dict_known v o possible mine is = as_dict (known_state o v).content (kind_code v o possible mine ∙ ap code is)

pub set_known : (v : View) (o : ℕ) → ∥ IsReachable v ∥₁ → has_lock o v.log ≡ true → kind_in v.shape.starts o ≡ kind.Set → (elements : SetContent) × ((known_state o v).content ≡ content.Set elements)
set_known v o possible mine is = as_set (known_state o v).content (kind_code v o possible mine ∙ ap code is)

-- ---- where there is no table

abbrev pub MissingKeys : Type 0
MissingKeys = (used : List UsedEntry) (dict : DictContent) (key : Key) → AreDictEntries used dict → All (λ entry. entry.key ≢ key) (filter is_live used) → has_key dict.pairs key ≡ false

abbrev pub MissingElements : Type 0
MissingElements = (used : List UsedEntry) (set : SetContent) (key : Key) → AreSetEntries used set → All (λ entry. entry.key ≢ key) (filter is_live used) → has_element set.elements key ≡ false

pub dict_bare : MissingKeys → (texts block words : List ℕ) (class : Option ℕ) (fill : ℕ) (pairs : DictContent) (key : Key) → IsDictWords texts block words class fill pairs → slice_index block 0 ≡ 0 → has_key pairs.pairs key ≡ false
dict_bare missing_key texts block words None fill pairs key says bare = missing_key says.used pairs key says.entries (subst (λ l. All (λ entry. entry.key ≢ key) (filter is_live l)) (sym says.table) (All-nil (λ entry. entry.key ≢ key)))
dict_bare missing_key texts block words (Some class) fill pairs key says bare = absurd (let is = says.head.root.1.2 in omega (arith, is, bare))

pub set_bare : MissingElements → (texts block words : List ℕ) (class : Option ℕ) (fill : ℕ) (elements : SetContent) (key : Key) → IsSetWords texts block words class fill elements → slice_index block 0 ≡ 0 → has_element elements.elements key ≡ false
set_bare missing_element texts block words None fill elements key says bare = missing_element says.used elements key says.entries (subst (λ l. All (λ entry. entry.key ≢ key) (filter is_live l)) (sym says.table) (All-nil (λ entry. entry.key ≢ key)))
set_bare missing_element texts block words (Some class) fill elements key says bare = absurd (let is = says.head.root.1.2 in omega (arith, is, bare))

-- ---- in a table

module _ (missing_key : MissingKeys) (missing_element : MissingElements) (first_pair : dict.FirstEntriesArePairs) (first_element : set.FirstEntriesAreElements) (texts block ws : List ℕ) (c fill : ℕ) (is_class : IsClass c) (key : Key) (low : hash_of texts key < 2 ^ 64) (left : List ℕ) where
  abbrev words : List ℕ
  words = 0 ∷ 0 ∷ ws

  abbrev mask : ℕ
  mask = class_mask c

  word_is : (place w : ℕ) → entry_word mask words place w ≡ entry_field (slots c) ws place w
  word_is place w = entry_after_header ws mask place w ∙ ap (slice_index ws) (let n = slots_of_class c in let e : 8 * place + w + mask + 1 ≡ 8 * place + w + slots c = omega (arith, n) in e)

  -- the three words of its value, the first two as they were read
  said : (place kind payload : ℕ) (all : List ℕ) → all ≡ said_of (slots c) ws place → kind ≡ entry_word mask words place 4 → payload ≡ entry_word mask words place 5 → (serial : ℕ) × (all ≡ kind ∷ payload ∷ serial ∷ [])
  said place kind payload all is one two =
      (entry_field (slots c) ws place 6, is ∙ sym (λ d. (one ∙ word_is place 4) d ∷ ((two ∙ word_is place 5) d ∷ (entry_field (slots c) ws place 6 ∷ []))))

  -- where the words of a content were searched, what was read is what it has at the key
  held_by : (way : Way) (d : Content) (used : List UsedEntry) → IsTableOf way texts mask used words → ((place : ℕ) → place < length used → HasLiveKey (slots c) ws place key → under d key ≡ said_of (slots c) ws place)
      → ((read : ℕ × ℕ) → (serial : ℕ) × (under d key ≡ read.0 ∷ read.1 ∷ serial ∷ []) → IsHeldAt d key (Some read)) → (All (λ entry. entry.key ≢ key) (filter is_live used) → IsHeldAt d key None)
      → (found : Found) (read : Option (ℕ × ℕ)) → Searched mask words key (walk_slots way (hash_of texts key) mask) left found → ((slot place : ℕ) → found ≢ Was slot place) → ReadsEntry mask words found read → IsHeldAt d key read
  held_by way d used table right some none (At slot place) (Some read) s live reads =
      let has = s.ends.4 in
      let here : HasLiveKey (slots c) ws place key = (sym (word_is place 2) ∙ has.0, sym (word_is place 3) ∙ has.1) in
      some read (said place read.0 read.1 (under d key) (right place (s.finds way texts used table low refl).0 here) reads.0 reads.1)
  held_by way d used table right some none (At slot place) None s live reads = absurd reads
  held_by way d used table right some none (Was slot place) read s live reads = absurd (live slot place refl)
  held_by way d used table right some none (Free slot) (Some read) s live reads = absurd reads
  held_by way d used table right some none (Free slot) None s live reads = none (s.finds way texts used table low refl)
  held_by way d used table right some none Spent read s live reads = absurd (s.finds way texts used table low refl)

  pub dict_held : (pairs : DictContent) → IsDictWords texts block words (Some c) fill pairs → (found : Found) (read : Option (ℕ × ℕ)) → Searched mask words key (walk_slots way.Dict (hash_of texts key) mask) left found → ((slot place : ℕ) → found ≢ Was slot place) → ReadsEntry mask words found read → IsHeldAt (content.Dict pairs) key read
  dict_held pairs says =
      held_by way.Dict (content.Dict pairs) says.used says.table
      (λ place inside here. dict.dict_right first_pair texts block c fill is_class pairs ws says place key (let room = dict.room_is first_pair texts block c fill is_class pairs ws says in let few = says.table.fill in omega (arith, room, few, inside)) here)
      (λ read is. is) (missing_key says.used pairs key says.entries)

  pub set_held : (elements : SetContent) → IsSetWords texts block words (Some c) fill elements → (found : Found) (read : Option (ℕ × ℕ)) → Searched mask words key (walk_slots way.Set (hash_of texts key) mask) left found → ((slot place : ℕ) → found ≢ Was slot place) → ReadsEntry mask words found read → IsHeldAt (content.Set elements) key read
  set_held elements says =
      held_by way.Set (content.Set elements) says.used says.table
      (λ place inside here. set.set_right first_element texts block c fill is_class elements ws says place key (let room = set.room_is first_element texts block c fill is_class elements ws says in let few = says.table.fill in omega (arith, room, few, inside)) here)
      (λ read is. is) (missing_element says.used elements key says.entries)

-- ---- by the way in which a container is searched

abbrev pub IsOfWay : Way → Content → Type 0
IsOfWay way.Dict c = (pairs : DictContent) × (c ≡ content.Dict pairs)
IsOfWay way.Set c = (elements : SetContent) × (c ≡ content.Set elements)

pub of_way : (way : Way) (v : View) (o : ℕ) → ∥ IsReachable v ∥₁ → has_lock o v.log ≡ true → kind_in v.shape.starts o ≡ kind_by way → IsOfWay way (known_state o v).content
of_way way.Dict v o possible mine is = dict_known v o possible mine is
of_way way.Set v o possible mine is = set_known v o possible mine is

module _ (missing_key : MissingKeys) (missing_element : MissingElements) (texts : List ℕ) (x : ContainerWords) (kept : ContainerState) (stands : Represents texts x kept) (key : Key) where
  abbrev all_words : List ℕ
  all_words = 0 ∷ 0 ∷ x.table

  pub bare_held : (way : Way) → IsOfWay way kept.content → slice_index x.block 0 ≡ 0 → IsHeldAt kept.content key None
  bare_held way.Dict is bare = subst (λ (c : Content). IsHeldAt c key None) (sym is.1) (dict_bare missing_key texts x.block all_words kept.table.class kept.table.fill is.0 key (subst (λ (c : Content). StandsAs texts x.block all_words kept.table c) is.1 stands) bare)
  bare_held way.Set is bare = subst (λ (c : Content). IsHeldAt c key None) (sym is.1) (set_bare missing_element texts x.block all_words kept.table.class kept.table.fill is.0 key (subst (λ (c : Content). StandsAs texts x.block all_words kept.table c) is.1 stands) bare)

  module _ (first_pair : dict.FirstEntriesArePairs) (first_element : set.FirstEntriesAreElements) (k : Shape) (table : Table) (in_bank : IsTableIn k table) (names : root_in x ≡ suc (table_id table)) (low : hash_of texts key < 2 ^ 64) (left : List ℕ) (found : Found) (read : Option (ℕ × ℕ)) (live : (slot place : ℕ) → found ≢ Was slot place) (reads : ReadsEntry (class_mask table.class) all_words found read) where
    class_is_some : kept.table.class ≡ Some table.class
    class_is_some = class_known texts x kept (table_id table) stands names ∙ ap Some (class_is table in_bank.2)

    pub key_held : (way : Way) → IsOfWay way kept.content → Searched (class_mask table.class) all_words key (walk_slots way (hash_of texts key) (class_mask table.class)) left found → IsHeldAt kept.content key read
    key_held way.Dict is s =
        let says : IsDictWords texts x.block all_words (Some table.class) kept.table.fill is.0 = subst (λ (z : Option ℕ). IsDictWords texts x.block all_words z kept.table.fill is.0) class_is_some (subst (λ (c : Content). StandsAs texts x.block all_words kept.table c) is.1 stands) in
        subst (λ (c : Content). IsHeldAt c key read) (sym is.1) (dict_held missing_key missing_element first_pair first_element texts x.block x.table table.class kept.table.fill in_bank.0 key low left is.0 says found read s live reads)
    key_held way.Set is s =
        let says : IsSetWords texts x.block all_words (Some table.class) kept.table.fill is.0 = subst (λ (z : Option ℕ). IsSetWords texts x.block all_words z kept.table.fill is.0) class_is_some (subst (λ (c : Content). StandsAs texts x.block all_words kept.table c) is.1 stands) in
        subst (λ (c : Content). IsHeldAt c key read) (sym is.1) (set_held missing_key missing_element first_pair first_element texts x.block x.table table.class kept.table.fill in_bank.0 key low left is.0 says found read s live reads)
