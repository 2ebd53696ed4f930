-- That a dict may get another table by a pass that has its lock, as a whole write.
use Rattle.std.proofs.Common.{◌≡◌, ◌≢◌, ℕ, ◌+◌, ◌-◌, Bool, true, false, cond, List, [], ◌∷◌, ◌++◌, length, find, Option, Some, None, refl, sym, ap, ◌∙◌, inr, arith, get_or-set_same, subst}
use Rattle.std.specs.Prelude.{if◌then◌else◌, All}
use Rattle.std.specs.Option.{option_map_or}
use Rattle.std.proofs.lemmas.List.{length_push}
use Rattle.ft_model.specs.declared.call.Call.{Call}
use Rattle.ft_model.specs.declared.call.Call.TheVariants as call
use Rattle.ft_model.specs.declared.call.DictCall.TheVariants as dict
use Rattle.ft_model.specs.declared.content.Content.{Content}
use Rattle.ft_model.specs.declared.content.Content.TheVariants as content
use Rattle.ft_model.specs.declared.content.DictPair.{DictPair}
use Rattle.ft_model.specs.declared.data.Key.{Key}
use Rattle.ft_model.specs.declared.data.Value.{Value}
use Rattle.ft_model.specs.Answers.{after_write}
use Rattle.ft_model.specs.Classes.{IsClass}
use Rattle.ft_model.specs.Contents.{DictContent, has_key, dict_set, with_value}
use Rattle.ft_model.specs.Worlds.{dict_at}
use Rattle.ft_model.specs.TableUses.{TableUse, StoredWorld, no_table, stored_newest, takes_in, table_at, dict_takes, grown_table, taken, after_stored}
use Rattle.ft_hash.specs.Probes.{dict_slots}
use Rattle.ft_layout.specs.Tables.{dict_room}
use Rattle.ft_layout.specs.Containers.{class_mask}
use Rattle.ft_trace.specs.declared.Shape.{Shape}
use Rattle.ft_trace.specs.declared.Snap.{Snap}
use Rattle.ft_trace.specs.declared.View.{View}
use Rattle.ft_trace.specs.Addresses.{class_of, places}
use Rattle.ft_trace.specs.Kinds.{is_key, pair_words, under}
use Rattle.ft_trace.specs.Holds.{known_state, hand_unboxed, AgreesWith}
use Rattle.ft_trace.specs.Traces.{IsReachable}
use Rattle.ft_trace.specs.WholeWrites.{WholeWrite, at_commit, after_write_of, MayBegin}
use Rattle.ft_trace.specs.GrowWrites.{dict_grow_write, HasGrown, DictsMayGrow}
use Rattle.ft_trace.proofs.FitCalls.{dict_fits_words, set_fit}
use Rattle.ft_trace.proofs.Tellings.{other_key}
use Rattle.ft_trace.proofs.DictWrites.{EntryVersionsChangeNothing, FirstEntriesArePairs, room_is, dict_right, dict_reached, dict_named, dict_short, dict_found, dict_answered, dict_left, dict_passes_not}
use Rattle.ft_trace.proofs.Naming.{one_locked}
use Rattle.ft_model.proofs.SplitDicts.{unsplit_takes, unsplit_leaves}
use Rattle.ft_trace.proofs.KnownContents.{in_tables, table_there, keys_there}
use Rattle.ft_trace.proofs.EntryGrows.{grow_possible}
use Rattle.ft_trace.proofs.Opened.{dict_lacks, All-front}
use Rattle.ft_layout.specs.Words.{FitsKey}
use Rattle.ft_trace.specs.FitCalls.{FitsValue}

-- ---- what is under a key of a dict with one more pair

pub find_more : {X : Type 0} (test : X → Bool) (xs : List X) (x : X) → test x ≡ false → find test (xs ++ x ∷ []) ≡ find test xs
find_more test [] x fails = ap (λ (b : Bool). cond b (Some x) None) fails
find_more {X} test (y ∷ ys) x fails = ap (λ (o : Option X). cond (test y) (Some y) o) (find_more test ys x fails)

pub find_still : {X : Type 0} (test : X → Bool) (xs : List X) (x : X) → find test xs ≢ None → find test (xs ++ x ∷ []) ≡ find test xs
find_still test [] x some = absurd (some refl)
find_still {X} test (y ∷ ys) x some =
    elim (test y) as (λ b. test y ≡ b → find test ((y ∷ ys) ++ x ∷ []) ≡ find test (y ∷ ys)) [
      | true ↦ λ e. ap (λ (b : Bool). cond b (Some y) (find test (ys ++ x ∷ []))) e ∙ sym (ap (λ (b : Bool). cond b (Some y) (find test ys)) e)
      | false ↦ λ e. ap (λ (o : Option X). cond (test y) (Some y) o) (find_still test ys x (λ z. some (ap (λ (b : Bool). cond b (Some y) (find test ys)) e ∙ z)))
    ] refl

module _ (pairs : DictContent) (key : Key) (value : Value) (missing : has_key pairs.pairs key ≡ false) where
  abbrev new_pair : DictPair
  new_pair = record { serial = pairs.next; key = key; value = value }

  abbrev more : DictContent
  more = record { next = pairs.next + 1; pairs = pairs.pairs ++ new_pair ∷ [] }

  pub added_is : dict_set pairs key value ≡ more
  added_is = ap (λ (b : Bool). if b then record { next = pairs.next; pairs = with_value pairs.pairs key value } else record { next = pairs.next + 1; pairs = pairs.pairs ++ record { serial = pairs.next; key = key; value = value } ∷ [] }) missing

  abbrev test : Key → DictPair → Bool
  test k pair = is_key pair.key k

  pub under_other : (k : Key) → is_key key k ≡ false → under (content.Dict (dict_set pairs key value)) k ≡ under (content.Dict pairs) k
  under_other k other = ap (λ (d : DictContent). under (content.Dict d) k) added_is ∙ ap (λ (o : Option DictPair). option_map_or pair_words o []) (find_more (test k) pairs.pairs new_pair other)

  pub under_still : (k : Key) → under (content.Dict pairs) k ≢ [] → under (content.Dict (dict_set pairs key value)) k ≢ []
  under_still k some none =
      let found : find (test k) pairs.pairs ≢ None = λ e. some (ap (λ (o : Option DictPair). option_map_or pair_words o []) e) in
      let same : under (content.Dict (dict_set pairs key value)) k ≡ under (content.Dict pairs) k = ap (λ (d : DictContent). under (content.Dict d) k) added_is ∙ ap (λ (o : Option DictPair). option_map_or pair_words o []) (find_still (test k) pairs.pairs new_pair found) in
      some (sym same ∙ none)

  pub added_next : (dict_set pairs key value).next ≡ pairs.next + 1
  added_next = ap (λ (d : DictContent). d.next) added_is

  pub added_length : length (dict_set pairs key value).pairs ≡ length pairs.pairs + 1
  added_length = ap (λ (d : DictContent). length d.pairs) added_is ∙ length_push pairs.pairs new_pair

-- ---- the whole write

module _ (versions : EntryVersionsChangeNothing) (first : FirstEntriesArePairs) (v : View) (o t p : ℕ) (key : Key) (value : Value) (pairs : DictContent) (begin : MayBegin v o) (is_dict : (known_state o v).content ≡ content.Dict pairs) (has : HasGrown v o t p key value pairs) where
  abbrev k : Shape
  k = v.shape

  abbrev c : ℕ
  c = class_of t

  abbrev zs : List ℕ
  zs = hand_unboxed o t v

  abbrev news : DictContent
  news = dict_set pairs key value

  abbrev called : Call
  called = call.Dict o (dict.Set key value)

  abbrev write : WholeWrite
  write = dict_grow_write v o t p key value pairs

  abbrev block : List ℕ
  block = (at_commit v o write).block

  abbrev fill : ℕ
  fill = length pairs.pairs + 1

  class_is : IsClass c
  class_is = has.table.0

  -- ---- in each history that agrees with what the pass knows

  module _ (calls : List Call) (agree : AgreesWith v (stored_newest k.starts calls)) where
    abbrev found : StoredWorld
    found = stored_newest k.starts calls

    abbrev left : List Content
    left = after_write found.world called

    abbrev T : TableUse
    T = table_at found.tables o

    no_keys : T.keys ≡ []
    no_keys = keys_there v o (content.Dict pairs) begin.low begin.mine is_dict calls agree begin.possible

    takes_one : takes_in found called ≡ Some c
    takes_one =
        let a = table_there v o (content.Dict pairs) begin.low begin.mine is_dict calls agree in
        let b = dict_found v o pairs begin.low begin.mine is_dict calls agree in
        let d = dict_left v o pairs begin.low begin.mine is_dict calls agree key value in
        unsplit_takes T (dict.Set key value) (dict_at found.world o) (dict_at left o) no_keys ∙ ((λ i. dict_takes (a i) (b i) (d i)) ∙ has.takes)

    table_after : table_at (after_stored found called).tables o ≡ record { class = Some c; fill = fill; keys = [] }
    table_after =
        let drawn = (dict_at left o).next - (dict_at found.world o).next in
        let count = length (dict_at left o).pairs in
        let count_is : count ≡ fill = ap (λ (d : DictContent). length d.pairs) (dict_left v o pairs begin.low begin.mine is_dict calls agree key value) ∙ added_length pairs key value has.missing in
        ap (λ (z : List TableUse). table_at z o) (unsplit_leaves found.tables o (dict.Set key value) (dict_at found.world o) (dict_at left o) (takes_in found called) no_keys)
        ∙ (get_or-set_same found.tables o (grown_table T (takes_in found called) drawn count) no_table (in_tables v o (content.Dict pairs) begin.low begin.mine is_dict calls agree)
        ∙ (ap (λ (z : Option ℕ). grown_table T z drawn count) takes_one
        ∙ ap (λ (z : ℕ). taken c z) count_is))

  all_fit : All (λ pair. FitsKey pair.key × FitsValue pair.value) news.pairs
  all_fit = dict_fits_words k.texts (at_commit v o write).block (0 ∷ 0 ∷ hand_unboxed o t v) (class_of t) (length pairs.pairs + 1) (dict_set pairs key value) has.words

  fits : FitsKey key × FitsValue value
  fits = set_fit pairs key value has.missing all_fit

  old_fit : All (λ pair. FitsKey pair.key × FitsValue pair.value) pairs.pairs
  old_fit =
      All-front (λ pair. FitsKey pair.key × FitsValue pair.value) pairs.pairs (new_pair pairs key value has.missing)
      (subst (λ (d : DictContent). All (λ pair. FitsKey pair.key × FitsValue pair.value) d.pairs) (added_is pairs key value has.missing) all_fit)

  pub dict_grow_possible : (start number : ℕ) × (s : Snap) × (stop : ℕ) × IsReachable (after_write_of v o t write start number s stop)
  dict_grow_possible =
      grow_possible versions v o t p fill (pairs.next + 1) key (content.Dict pairs) (content.Dict news) tt tt called begin is_dict has.table has.fresh has.low has.live has.open_entry has.others has.references has.words has.words.head.size (dict_right first k.texts block c fill class_is news zs has.words) (dict_named first k.texts block c fill class_is news zs has.words) (dict_reached first k.texts block c fill class_is news zs has.words)
      (λ q a less ne l yes.
      let fits : dict_room (class_mask c) ≡ places c = room_is first k.texts block c fill class_is news zs has.words in
      let low = has.low in
      other_key (λ h. dict_slots h (class_mask c) (class_mask c + 14)) (dict_room (class_mask c)) k.texts c class_is has.words.used zs has.words.table p q key a (omega (arith, fits, low)) (omega (arith, fits, less)) ne has.live l yes)
      (under_other pairs key value has.missing) (under_still pairs key value has.missing)
      (dict_lacks pairs key fits.0 old_fit has.missing)
      (record { of = refl; wrote = refl; fits = fits; locks = one_locked o v.log begin.mine; replied = λ r e. inr e; declared = λ world one. record { one = one; both = tt; room = tt } })
      (λ calls agree. record {
        answered = dict_answered v o pairs begin.low begin.mine is_dict calls agree key value;
        table_after = table_after calls agree;
        within = dict_passes_not v o pairs begin.low begin.mine is_dict calls agree key value (dict_short first k.texts block c fill class_is news zs has.words);
        takes = λ class e. let owed = has.owed in let same : c ≡ class = omega (arith, e, owed) in takes_one calls agree ∙ ap (λ (z : ℕ). Some z) same;
      })

pub dicts_may_grow : EntryVersionsChangeNothing → FirstEntriesArePairs → DictsMayGrow
dicts_may_grow versions first v o t place key value pairs begin is_dict has = dict_grow_possible versions first v o t place key value pairs begin is_dict has
