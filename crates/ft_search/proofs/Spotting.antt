-- Where a search under the lock found a key, and that loads leave what a pass knows of it.
use Rattle.std.proofs.Common.{◌≡◌, ◌≢◌, ℕ, suc, ◌+◌, ◌*◌, ◌^◌, ◌<◌, List, ◌∷◌, Option, Some, None, refl, sym, ap, ◌∙◌, subst, arith}
use Rattle.std.specs.Prelude.{slice_index}
use Rattle.ft_model.specs.declared.content.Content.{Content}
use Rattle.ft_model.specs.declared.content.Content.TheVariants as content
use Rattle.ft_model.specs.declared.data.Key.{Key}
use Rattle.ft_model.specs.declared.script.Kind.{Kind}
use Rattle.ft_model.specs.Contents.{DictContent, SetContent}
use Rattle.ft_layout.specs.Containers.{class_mask, IsDictWords, IsSetWords, StandsAs}
use Rattle.ft_layout.specs.Tables.{hash_of, entry_word}
use Rattle.ft_layout.specs.Words.{FitsKey}
use Rattle.ft_keys.specs.TableChanges.{FirstFree}
use Rattle.ft_keys.specs.Searches.{EndsAt, IsWithin, Searched}
use Rattle.ft_keys.specs.Ways.{walk_slots}
use Rattle.ft_keys.specs.declared.search.Found.{Found}
use Rattle.ft_keys.specs.declared.search.Found.TheVariants.{At, Was, Free, Spent}
use Rattle.ft_keys.specs.declared.walk.Way.{Way}
use Rattle.ft_keys.specs.declared.walk.Way.TheVariants as way
use Rattle.ft_trace.specs.declared.Shape.{Shape}
use Rattle.ft_trace.specs.declared.View.{View}
use Rattle.ft_trace.specs.Addresses.{class_of, container_count, slots}
use Rattle.ft_trace.specs.Carefuls.{HasLiveKey}
use Rattle.ft_trace.specs.Holds.{held_unboxed, known_state}
use Rattle.ft_trace.specs.Kinds.{rows}
use Rattle.ft_trace.specs.Pictures.{ContainerWords, root_in, entry_field, Represents}
use Rattle.ft_trace.specs.ContainerStates.{ContainerState, kind_in}
use Rattle.ft_trace.proofs.DictWrites as dict
use Rattle.ft_trace.proofs.SetKnown as set
use Rattle.ft_trace.proofs.Known.{class_known}
use Rattle.ft_bank.specs.declared.table.Table.{Table}
use Rattle.ft_bank.specs.TableNames.{table_id, IsTableIn}
use Rattle.ft_bank.specs.Whole.{OnlyLoaded}
use Rattle.ft_bank.proofs.TableAddresses.{class_is}
use Rattle.ft_bank.proofs.KnownAfterWrites.{work_knows}
use Rattle.ft_search.specs.declared.spots.Spot.{Spot}
use Rattle.ft_search.specs.declared.spots.Spot.TheVariants as spot
use Rattle.ft_search.specs.Held.{ReadsEntry, IsHeldAt}
use Rattle.ft_search.specs.Rounds.{kind_by}
use Rattle.ft_search.specs.Spots.{IsSpot, spot_in}
use Rattle.ft_search.specs.OneEntryWrites.{HasTable, IsLiveEntry, KnowsEntries, MayWriteEntries}
use Rattle.ft_search.proofs.FoundInContents.{MissingKeys, MissingElements, IsOfWay, key_held}
use Rattle.ft_search.proofs.KnownTableWords.{entry_after_header}
use Rattle.ft_search.proofs.Puts.{done_then}
use Rattle.ft_search.proofs.WordPlaces.{slots_of_class}

abbrev pub FirstFreeSlots : Type 0
FirstFreeSlots = (mask : ℕ) (words : List ℕ) (key : Key) (first left : List ℕ) (slot : ℕ) → EndsAt mask words key first left (Free slot) → FirstFree words first (Some slot)

-- in the table of a container whose words stand for this
module _ (first_pair : dict.FirstEntriesArePairs) (first_element : set.FirstEntriesAreElements) (k : Shape) (x : ContainerWords) (kept : ContainerState) (key : Key) (table : Table) (in_bank : IsTableIn k table) (names : root_in x ≡ suc (table_id table)) (stands : Represents k.texts x kept) (low : hash_of k.texts key < 2 ^ 64) (left : List ℕ) where
  abbrev c : ℕ
  c = table.class

  abbrev ws : List ℕ
  ws = x.table

  abbrev words : List ℕ
  words = 0 ∷ 0 ∷ ws

  abbrev mask : ℕ
  mask = class_mask c

  same_class : class_of (table_id table) ≡ c
  same_class = class_is table in_bank.2

  class_some : kept.table.class ≡ Some c
  class_some = class_known k.texts x kept (table_id table) stands names ∙ ap Some same_class

  word_is : (place w : ℕ) → entry_word mask words place w ≡ entry_field (slots c) ws place w
  word_is place w = entry_after_header ws mask place w ∙ ap (slice_index ws) (let n = slots_of_class c in let e : 8 * place + w + mask + 1 ≡ 8 * place + w + slots c = omega (arith, n) in e)

  dict_says : (pairs : DictContent) → kept.content ≡ content.Dict pairs → IsDictWords k.texts x.block words (Some c) kept.table.fill pairs
  dict_says pairs is = subst (λ (z : Option ℕ). IsDictWords k.texts x.block words z kept.table.fill pairs) class_some (subst (λ (z : Content). StandsAs k.texts x.block words kept.table z) is stands)

  set_says : (elements : SetContent) → kept.content ≡ content.Set elements → IsSetWords k.texts x.block words (Some c) kept.table.fill elements
  set_says elements is = subst (λ (z : Option ℕ). IsSetWords k.texts x.block words z kept.table.fill elements) class_some (subst (λ (z : Content). StandsAs k.texts x.block words kept.table z) is stands)

  here_is : (w : Way) (slot place : ℕ) → place < rows (kind_by w) c → Searched mask words key (walk_slots w (hash_of k.texts key) mask) left (At slot place) → (place < rows (kind_by w) (class_of (table_id table))) × HasLiveKey (slots (class_of (table_id table))) ws place key
  here_is w slot place inside s =
      let has = s.ends.4 in
      subst (λ (z : ℕ). (place < rows (kind_by w) z) × HasLiveKey (slots z) ws place key) (sym same_class) (inside, (sym (word_is place 2) ∙ has.0, sym (word_is place 3) ∙ has.1))

  -- the entry at which a search ended
  pub entry_found : (w : Way) → IsOfWay w kept.content → (slot place : ℕ) → Searched mask words key (walk_slots w (hash_of k.texts key) mask) left (At slot place) → (place < rows (kind_by w) (class_of (table_id table))) × HasLiveKey (slots (class_of (table_id table))) ws place key
  entry_found way.Dict is slot place s =
      let says = dict_says is.0 is.1 in
      let finds = s.finds way.Dict k.texts says.used says.table low refl in
      let room = dict.room_is first_pair k.texts x.block c kept.table.fill in_bank.0 is.0 ws says in
      let few = says.table.fill in
      let inside = finds.0 in
      here_is way.Dict slot place (omega (arith, room, few, inside)) s
  entry_found way.Set is slot place s =
      let says = set_says is.0 is.1 in
      let finds = s.finds way.Set k.texts says.used says.table low refl in
      let room = set.room_is first_element k.texts x.block c kept.table.fill in_bank.0 is.0 ws says in
      let few = says.table.fill in
      let inside = finds.0 in
      here_is way.Set slot place (omega (arith, room, few, inside)) s

  -- the words of its value
  pub value_read : (slot place : ℕ) (read : ℕ × ℕ) → ReadsEntry mask words (At slot place) (Some read) → (read.0 ≡ entry_field (slots (class_of (table_id table))) ws place 4) × (read.1 ≡ entry_field (slots (class_of (table_id table))) ws place 5)
  value_read slot place read reads =
      let at : c ≡ class_of (table_id table) = sym same_class in
      (reads.0 ∙ (word_is place 4 ∙ ap (λ (z : ℕ). entry_field (slots z) ws place 4) at), reads.1 ∙ (word_is place 5 ∙ ap (λ (z : ℕ). entry_field (slots z) ws place 5) at))

  -- no search is spent
  pub none_spent : (w : Way) → IsOfWay w kept.content → Searched mask words key (walk_slots w (hash_of k.texts key) mask) left Spent → ⊥
  none_spent way.Dict is s = let says = dict_says is.0 is.1 in s.finds way.Dict k.texts says.used says.table low refl
  none_spent way.Set is s = let says = set_says is.0 is.1 in s.finds way.Set k.texts says.used says.table low refl

module _ (missing_key : MissingKeys) (missing_element : MissingElements) (first_pair : dict.FirstEntriesArePairs) (first_element : set.FirstEntriesAreElements) (free : FirstFreeSlots) (k : Shape) (o : ℕ) (key : Key) (v : View) (by : Way) (table : Table) (in_bank : IsTableIn k table) (names : root_in (held_unboxed o v) ≡ suc (table_id table)) (stands : Represents k.texts (held_unboxed o v) (known_state o v))
    (of : IsOfWay by (known_state o v).content) (kind_eq : kind_in k.starts o ≡ kind_by by) (fits : FitsKey key) (low : hash_of k.texts key < 2 ^ 64) (left : List ℕ) where
  abbrev x : ContainerWords
  x = held_unboxed o v

  abbrev last : ℕ
  last = class_mask table.class

  has_it : HasTable k o table v
  has_it = record { table_in = in_bank; root = names }

  pub spot_is : (found : Found) (read : Option (ℕ × ℕ)) → IsWithin last found → ((slot place : ℕ) → found ≢ Was slot place) → ReadsEntry last (0 ∷ 0 ∷ x.table) found read → Searched last (0 ∷ 0 ∷ x.table) key (walk_slots by (hash_of k.texts key) last) left found → IsSpot k o by key v (spot_in table found read)
  spot_is (At slot place) (Some read) within live reads s =
      let e = entry_found first_pair first_element k x (known_state o v) key table in_bank names stands low left by of slot place s in
      let value = value_read first_pair first_element k x (known_state o v) key table in_bank names stands low left slot place read reads in (
        has_it,
        record {
          low = subst (λ (z : Kind). place < rows z (class_of (table_id table))) (sym kind_eq) e.0;
          live = e.1;
          fits = fits;
        },
        key_held missing_key missing_element k.texts x (known_state o v) stands key first_pair first_element k table in_bank names low left (At slot place) (Some read) live reads by of s,
        value.0,
        value.1,
      )
  spot_is (At slot place) None within live reads s = absurd reads
  spot_is (Was slot place) read within live reads s = absurd (live slot place refl)
  spot_is (Free slot) (Some read) within live reads s = absurd reads
  spot_is (Free slot) None within live reads s = (
    has_it,
    within,
    free last (0 ∷ 0 ∷ x.table) key (walk_slots by (hash_of k.texts key) last) left slot s.ends,
    key_held missing_key missing_element k.texts x (known_state o v) stands key first_pair first_element k table in_bank names low left (Free slot) None live reads by of s,
  )
  spot_is Spent read within live reads s = absurd (none_spent first_pair first_element k x (known_state o v) key table in_bank names stands low left by of s)

-- ---- after loads

-- who may write a container knows it
pub may_knows : (k : Shape) (o : ℕ) (v : View) → MayWriteEntries k o v → KnowsEntries k o v
may_knows k o v may = record { container = may.container; keyed = may.keyed; locked = may.locked; even = may.even o; stands = may.stands }

module _ (k : Shape) (o : ℕ) (v w : View) (shape : v.shape ≡ k) (only : OnlyLoaded v w) where
  same : KnowsEntries k o v → (held_unboxed o v ≡ held_unboxed o w) × (known_state o v ≡ known_state o w)
  same knows = (sym (only.unboxed o (subst (λ (z : Shape). o < container_count z) (sym shape) knows.container) knows.locked), sym (work_knows v w o only.work))

  pub knows_loaded : KnowsEntries k o v → KnowsEntries k o w
  knows_loaded knows = record {
    container = knows.container;
    keyed = knows.keyed;
    locked = only.work.pass.locks o ∙ knows.locked;
    even = only.work.pass.writes o ∙ knows.even;
    stands = subst (λ (z : ContainerWords × ContainerState). Represents k.texts z.0 z.1) (λ d. ((same knows).0 d, (same knows).1 d)) knows.stands;
  }

  pub may_loaded : MayWriteEntries k o v → MayWriteEntries k o w
  may_loaded may = record {
    container = may.container;
    keyed = may.keyed;
    locked = only.work.pass.locks o ∙ may.locked;
    even = λ p. only.work.pass.writes p ∙ may.even p;
    stands = subst (λ (z : ContainerWords × ContainerState). Represents k.texts z.0 z.1) (λ d. ((same (may_knows k o v may)).0 d, (same (may_knows k o v may)).1 d)) may.stands;
    owes = only.work.owes ∙ may.owes;
    left = subst (λ (z : ℕ). 0 < z) (sym only.work.left) may.left;
    boxes = done_then k v w shape only.work.pass.shape only.boxes.references only.boxes.made may.boxes;
  }

  pub table_loaded : KnowsEntries k o v → (table : Table) → HasTable k o table v → HasTable k o table w
  table_loaded knows table has = record { table_in = has.table_in; root = ap root_in (sym (same knows).0) ∙ has.root }

  entry_loaded : KnowsEntries k o v → (table : Table) (place : ℕ) (key : Key) → IsLiveEntry k o table place key v → IsLiveEntry k o table place key w
  entry_loaded knows table place key e = record {
    low = e.low;
    live = subst (λ (z : ContainerWords). HasLiveKey (slots (class_of (table_id table))) z.table place key) (same knows).0 e.live;
    fits = e.fits;
  }

  pub spot_loaded : KnowsEntries k o v → (way : Way) (key : Key) (s : Spot) → IsSpot k o way key v s → IsSpot k o way key w s
  spot_loaded knows way key (spot.At table place kind payload) s = (
    table_loaded knows table s.0,
    entry_loaded knows table place key s.1,
    subst (λ (z : ContainerState). IsHeldAt z.content key (Some (kind, payload))) (same knows).1 s.2,
    subst (λ (z : ContainerWords). kind ≡ entry_field (slots (class_of (table_id table))) z.table place 4) (same knows).0 s.3,
    subst (λ (z : ContainerWords). payload ≡ entry_field (slots (class_of (table_id table))) z.table place 5) (same knows).0 s.4,
  )
  spot_loaded knows way key (spot.Free table slot) s = (
    table_loaded knows table s.0,
    s.1,
    subst (λ (z : ContainerWords). FirstFree (0 ∷ 0 ∷ z.table) (walk_slots way (hash_of k.texts key) (class_mask table.class)) (Some slot)) (same knows).0 s.2,
    subst (λ (z : ContainerState). IsHeldAt z.content key None) (same knows).1 s.3,
  )
  spot_loaded knows way key spot.Bare s = (ap root_in (sym (same knows).0) ∙ s.0, subst (λ (z : ContainerState). IsHeldAt z.content key None) (same knows).1 s.1)
