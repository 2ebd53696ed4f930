-- That a set may get another table by a pass that has its lock, as a whole write.
use Rattle.std.proofs.Common.{◌≡◌, ◌≢◌, ℕ, ◌+◌, ◌-◌, Bool, false, List, [], ◌∷◌, ◌++◌, length, find, Option, Some, None, refl, sym, ap, ◌∙◌, inr, arith, get_or-set_same, subst}
use Rattle.std.specs.Prelude.{if◌then◌else◌, All}
use Rattle.std.specs.Option.{option_map_or}
use Rattle.std.proofs.lemmas.List.{length_push}
use Rattle.ft_model.specs.declared.call.Call.{Call}
use Rattle.ft_model.specs.declared.call.Call.TheVariants as call
use Rattle.ft_model.specs.declared.call.SetCall.TheVariants as set
use Rattle.ft_model.specs.declared.content.Content.{Content}
use Rattle.ft_model.specs.declared.content.Content.TheVariants as content
use Rattle.ft_model.specs.declared.content.Element.{Element}
use Rattle.ft_model.specs.declared.data.Key.{Key}
use Rattle.ft_model.specs.Answers.{after_write}
use Rattle.ft_model.specs.Classes.{IsClass, set_entries}
use Rattle.ft_model.specs.Contents.{SetContent, has_element, set_add}
use Rattle.ft_model.specs.Worlds.{set_at}
use Rattle.ft_model.specs.TableUses.{TableUse, StoredWorld, no_table, stored_newest, takes_in, table_at, set_takes, grown_table, taken, after_stored}
use Rattle.ft_hash.specs.Probes.{set_slots}
use Rattle.ft_layout.specs.Tables.{set_room}
use Rattle.ft_layout.specs.Containers.{class_mask}
use Rattle.ft_trace.specs.declared.Shape.{Shape}
use Rattle.ft_trace.specs.declared.Snap.{Snap}
use Rattle.ft_trace.specs.declared.View.{View}
use Rattle.ft_trace.specs.Addresses.{class_of}
use Rattle.ft_trace.specs.Kinds.{is_key, element_words, under}
use Rattle.ft_trace.specs.Holds.{known_state, hand_unboxed, AgreesWith}
use Rattle.ft_trace.specs.Traces.{IsReachable}
use Rattle.ft_trace.specs.WholeWrites.{WholeWrite, at_commit, after_write_of, MayBegin}
use Rattle.ft_trace.specs.SetGrowWrites.{set_grow_write, HasSetGrown, SetsMayGrow}
use Rattle.ft_trace.proofs.Tellings.{other_key}
use Rattle.ft_trace.proofs.DictWrites.{EntryVersionsChangeNothing}
use Rattle.ft_trace.proofs.GrownDicts.{find_more, find_still}
use Rattle.ft_trace.proofs.SetKnown.{FirstEntriesAreElements, room_is, set_right, set_reached, set_named, set_short, set_found, set_answered, set_left, set_passes_not}
use Rattle.ft_trace.proofs.Naming.{one_locked}
use Rattle.ft_trace.proofs.KnownContents.{in_tables, table_there}
use Rattle.ft_trace.proofs.EntryGrows.{grow_possible}
use Rattle.ft_trace.proofs.Opened.{set_lacks, All-front}
use Rattle.ft_layout.specs.Words.{FitsKey}
use Rattle.ft_trace.proofs.FitCalls.{set_fits_words}

-- ---- what is under a key of a set with one more element

module _ (elements : SetContent) (key : Key) (missing : has_element elements.elements key ≡ false) where
  abbrev new_one : Element
  new_one = record { serial = elements.next; key = key }

  abbrev more : SetContent
  more = record { next = elements.next + 1; elements = elements.elements ++ new_one ∷ [] }

  pub added_is : set_add elements key ≡ more
  added_is = ap (λ (b : Bool). if b then elements else record { next = elements.next + 1; elements = elements.elements ++ record { serial = elements.next; key = key } ∷ [] }) missing

  abbrev test : Key → Element → Bool
  test k pair = is_key pair.key k

  pub under_other : (k : Key) → is_key key k ≡ false → under (content.Set (set_add elements key)) k ≡ under (content.Set elements) k
  under_other k other = ap (λ (d : SetContent). under (content.Set d) k) added_is ∙ ap (λ (o : Option Element). option_map_or element_words o []) (find_more (test k) elements.elements new_one other)

  pub under_still : (k : Key) → under (content.Set elements) k ≢ [] → under (content.Set (set_add elements key)) k ≢ []
  under_still k some none =
      let found : find (test k) elements.elements ≢ None = λ e. some (ap (λ (o : Option Element). option_map_or element_words o []) e) in
      let same : under (content.Set (set_add elements key)) k ≡ under (content.Set elements) k = ap (λ (d : SetContent). under (content.Set d) k) added_is ∙ ap (λ (o : Option Element). option_map_or element_words o []) (find_still (test k) elements.elements new_one found) in
      some (sym same ∙ none)

  pub added_next : (set_add elements key).next ≡ elements.next + 1
  added_next = ap (λ (d : SetContent). d.next) added_is

  pub added_length : length (set_add elements key).elements ≡ length elements.elements + 1
  added_length = ap (λ (d : SetContent). length d.elements) added_is ∙ length_push elements.elements new_one

-- ---- the whole write

module _ (versions : EntryVersionsChangeNothing) (first : FirstEntriesAreElements) (v : View) (o t p : ℕ) (key : Key) (elements : SetContent) (begin : MayBegin v o) (is_set : (known_state o v).content ≡ content.Set elements) (has : HasSetGrown v o t p key elements) where
  abbrev k : Shape
  k = v.shape

  abbrev c : ℕ
  c = class_of t

  abbrev zs : List ℕ
  zs = hand_unboxed o t v

  abbrev news : SetContent
  news = set_add elements key

  abbrev called : Call
  called = call.Set o (set.Add key)

  abbrev write : WholeWrite
  write = set_grow_write v o t p key elements

  abbrev block : List ℕ
  block = (at_commit v o write).block

  abbrev fill : ℕ
  fill = length elements.elements + 1

  class_is : IsClass c
  class_is = has.table.0

  -- ---- in each history that agrees with what the pass knows

  module _ (calls : List Call) (agree : AgreesWith v (stored_newest k.starts calls)) where
    abbrev found : StoredWorld
    found = stored_newest k.starts calls

    abbrev left : List Content
    left = after_write found.world called

    abbrev T : TableUse
    T = table_at found.tables o

    takes_one : takes_in found called ≡ Some c
    takes_one =
        let a = table_there v o (content.Set elements) begin.low begin.mine is_set calls agree in
        let b = set_found v o elements begin.low begin.mine is_set calls agree in
        let d = set_left v o elements begin.low begin.mine is_set calls agree key in
        (λ i. set_takes (a i) (b i) (d i)) ∙ has.takes

    table_after : table_at (after_stored found called).tables o ≡ record { class = Some c; fill = fill; keys = [] }
    table_after =
        let drawn = (set_at left o).next - (set_at found.world o).next in
        let count = length (set_at left o).elements in
        let count_is : count ≡ fill = ap (λ (d : SetContent). length d.elements) (set_left v o elements begin.low begin.mine is_set calls agree key) ∙ added_length elements key has.missing in
        get_or-set_same found.tables o (grown_table T (takes_in found called) drawn count) no_table (in_tables v o (content.Set elements) begin.low begin.mine is_set calls agree)
        ∙ (ap (λ (z : Option ℕ). grown_table T z drawn count) takes_one
        ∙ ap (λ (z : ℕ). taken c z) count_is)

  old_fit : All (λ element. FitsKey element.key) elements.elements
  old_fit =
      All-front (λ element. FitsKey element.key) elements.elements (new_one elements key has.missing)
      (subst (λ (d : SetContent). All (λ element. FitsKey element.key) d.elements) (added_is elements key has.missing)
      (set_fits_words k.texts (at_commit v o write).block (0 ∷ 0 ∷ hand_unboxed o t v) (class_of t) fill news has.words))

  pub set_grow_possible : (start number : ℕ) × (s : Snap) × (stop : ℕ) × IsReachable (after_write_of v o t write start number s stop)
  set_grow_possible =
      grow_possible versions v o t p fill (elements.next + 1) key (content.Set elements) (content.Set news) tt tt called begin is_set has.table has.fresh has.low has.live has.open_entry has.others has.references has.words has.words.head.size (set_right first k.texts block c fill class_is news zs has.words) (set_named first k.texts block c fill class_is news zs has.words) (set_reached first k.texts block c fill class_is news zs has.words)
      (λ q a less ne l yes.
      let fits : set_room (class_mask c) ≡ set_entries c = room_is first k.texts block c fill class_is news zs has.words in
      let low = has.low in
      other_key (λ h. set_slots h (class_mask c) (class_mask c + 14)) (set_room (class_mask c)) k.texts c class_is has.words.used zs has.words.table p q key a (omega (arith, fits, low)) (omega (arith, fits, less)) ne has.live l yes)
      (under_other elements key has.missing) (under_still elements key has.missing)
      (set_lacks elements key has.fits old_fit has.missing)
      (record { of = refl; wrote = refl; fits = has.fits; locks = one_locked o v.log begin.mine; replied = λ r e. inr e; declared = λ world one. record { one = one; both = tt; room = tt } })
      (λ calls agree. record {
        answered = set_answered v o elements begin.low begin.mine is_set calls agree key;
        table_after = table_after calls agree;
        within = set_passes_not v o elements begin.low begin.mine is_set calls agree key (set_short first k.texts block c fill class_is news zs has.words);
        takes = λ class e. let owed = has.owed in let same : c ≡ class = omega (arith, e, owed) in takes_one calls agree ∙ ap (λ (z : ℕ). Some z) same;
      })

pub sets_may_grow : EntryVersionsChangeNothing → FirstEntriesAreElements → SetsMayGrow
sets_may_grow versions first v o t place key elements begin is_set has = set_grow_possible versions first v o t place key elements begin is_set has
