-- That an item of a list may be put by a pass that has its lock, as a whole write.
use Rattle.std.proofs.Common.{◌≡◌, ◌≢◌, ℕ, zero, suc, ◌+◌, ◌<◌, ◌≤◌, ℤ, List, [], ◌∷◌, length, Option, Some, refl, ap, ◌∙◌, inr, arith, length-set}
use Rattle.std.specs.Prelude.{slice_set, slice_get}
use Rattle.std.specs.Option.{option_map_or}
use Rattle.ft_model.specs.declared.call.Call.{Call}
use Rattle.ft_model.specs.declared.call.Call.TheVariants as call
use Rattle.ft_model.specs.declared.call.ListCall.TheVariants as list
use Rattle.ft_model.specs.declared.content.Content.{Content}
use Rattle.ft_model.specs.declared.content.Content.TheVariants as content
use Rattle.ft_model.specs.declared.data.Value.{Value}
use Rattle.ft_model.specs.declared.reply.Reply.TheVariants as reply
use Rattle.ft_model.specs.declared.reply.Raise.TheVariants as raise
use Rattle.ft_model.specs.declared.script.Kind.TheVariants as kind
use Rattle.ft_model.specs.Answers.{answer, answer_list, puts, shows}
use Rattle.ft_model.specs.Classes.{IsClass}
use Rattle.ft_model.specs.Lists.{index_in}
use Rattle.ft_model.specs.Worlds.{list_of, list_at, no_hands}
use Rattle.ft_model.specs.TableUses.{stored_newest}
use Rattle.ft_layout.specs.declared.slot.Stored.TheVariants.{Plain}
use Rattle.ft_layout.specs.Words.{FitsStored}
use Rattle.ft_layout.specs.WordChanges.{ChangesItem, SaysStored}
use Rattle.ft_layout.specs.Containers.{IsListWords}
use Rattle.ft_layout.proofs.Powers.{slots_range}
use Rattle.ft_trace.specs.EntryWrites.{MayStandIn}
use Rattle.ft_trace.specs.declared.Shape.{Shape}
use Rattle.ft_trace.specs.declared.Snap.{Snap}
use Rattle.ft_trace.specs.declared.View.{View}
use Rattle.ft_trace.specs.Addresses.{class_of, slots, size}
use Rattle.ft_trace.specs.Pictures.{root_in, item_offset, item_field}
use Rattle.ft_trace.specs.ItemWords.{value_words, words_at}
use Rattle.ft_trace.specs.Kinds.{rows, version_at}
use Rattle.ft_trace.specs.OddVersions.{Shut}
use Rattle.ft_trace.specs.Holds.{held_unboxed, known_state, AgreesWith}
use Rattle.ft_trace.specs.Traces.{IsReachable}
use Rattle.ft_trace.specs.Grants.{MayWrite}
use Rattle.ft_trace.specs.WholeWrites.{WholeWrite, at_commit, at_end, after_write_of, MayBegin}
use Rattle.ft_trace.specs.ItemWrites.{list_set_write, ItemsMayBePut}
use Rattle.ft_trace.proofs.Known.{in_bank, table_is_long}
use Rattle.ft_trace.proofs.ItemPuts.{VersionsChangeNothing, PutsChangeOneItem, item_early, item_clear, other_words, item_late, item_shut, open_table, item_said, item_closed_stands}
use Rattle.ft_trace.proofs.Naming.{one_locked}
use Rattle.ft_trace.proofs.KnownContents.{use_of, known_use, known_says, known_shut, content_there, table_there}
use Rattle.ft_trace.proofs.WriteFacts.{facts_suffice}

-- words that stand for a list with another item at a place
abbrev pub WordsFollowAPut : Type 0
WordsFollowAPut = (block words new : List ℕ) (class : ℕ) (values : List Value) (place : ℕ) (value : Value) → IsListWords block words (Some class) values → place < length values → ChangesItem place words new → SaysStored new place (Plain value) → IsListWords block new (Some class) (slice_set values place value)

pub may_begin : (v : View) (o : ℕ) → MayWrite v o → MayBegin v o
may_begin v o may = record { live = may.live; possible = may.possible; few = may.few; low = may.low; mine = may.mine; quiet = may.quiet; spare = may.spare; room = may.room; few_references = may.few_references; stored = may.stored }

get_set_same : (values : List Value) (p : ℕ) (value : Value) → p < length values → slice_get (slice_set values p value) p ≡ Some value
get_set_same [] p value low = absurd (omega arith)
get_set_same (x ∷ xs) zero value low = refl
get_set_same (x ∷ xs) (suc p) value low = get_set_same xs p value (omega arith)

get_set_other : (values : List Value) (p q : ℕ) (value : Value) → q ≢ p → slice_get (slice_set values p value) q ≡ slice_get values q
get_set_other [] p q value ne = refl
get_set_other (x ∷ xs) zero zero value ne = absurd (ne refl)
get_set_other (x ∷ xs) zero (suc q) value ne = refl
get_set_other (x ∷ xs) (suc p) zero value ne = refl
get_set_other (x ∷ xs) (suc p) (suc q) value ne = get_set_other xs p q value (λ e. ne (ap suc e))

-- what a pass with the lock of a list with a table knows of it
module _ (v : View) (o t : ℕ) (values : List Value) (may : MayWrite v o) (is_list : (known_state o v).content ≡ content.List values) (names : root_in (held_unboxed o v) ≡ suc t) where
  abbrev k : Shape
  k = v.shape

  pub list_says : IsListWords (held_unboxed o v).block (0 ∷ 0 ∷ (held_unboxed o v).table) (Some (class_of t)) values × ((known_state o v).table.fill ≡ 0)
  list_says = known_says v o t (content.List values) may is_list names

  pub list_shut : Shut (version_at kind.List (class_of t)) (rows kind.List (class_of t)) (held_unboxed o v).table
  list_shut = known_shut v o t (content.List values) may is_list names

  pub slots_fit : length values ≤ slots (class_of t)
  unfolding slots
  slots_fit = let f = list_says.0.table.fill in let r = (slots_range (class_of t) (in_bank v o t may.low may.possible may.mine names).0).0 in omega (arith, f, r)

  -- in each history that agrees with what it knows
  module _ (calls : List Call) (agree : AgreesWith v (stored_newest k.starts calls)) where
    abbrev world : List Content
    world = (stored_newest k.starts calls).world

    pub list_is : list_at world o ≡ values
    list_is = ap list_of (content_there v o (content.List values) may.low may.mine is_list calls agree (content.List []))

-- l[i] = v
module _ (versions : VersionsChangeNothing) (one : PutsChangeOneItem) (follow : WordsFollowAPut) (v : View) (o t place : ℕ) (index : ℤ) (box : Option ℕ) (value : Value) (values : List Value) (may : MayWrite v o) (is_list : (known_state o v).content ≡ content.List values) (names : root_in (held_unboxed o v) ≡ suc t) (means : index_in (length values) index ≡ Some place) (low : place < length values) (fits : FitsStored (Plain value)) (differs : slice_get values place ≢ Some value) (stands : MayStandIn v box value) where
  abbrev n : Shape
  n = v.shape

  abbrev ws : List ℕ
  ws = (held_unboxed o v).table

  abbrev b : List ℕ
  b = (held_unboxed o v).block

  abbrev news : List Value
  news = slice_set values place value

  abbrev called : Call
  called = call.List o (list.Set index value)

  abbrev write : WholeWrite
  write = list_set_write v o place index box value

  abbrev c : ℕ
  c = class_of t

  class_is : IsClass c
  class_is = (in_bank v o t may.low may.possible may.mine names).0

  in_table : place < slots c
  in_table = let f = slots_fit v o t values may is_list names in omega (arith, f, low)

  here : words_at news place ≡ value_words value
  here = ap (λ (z : Option Value). option_map_or value_words z (0 ∷ 0 ∷ [])) (get_set_same values place value low)

  same : (q : ℕ) → q ≢ place → words_at news q ≡ words_at values q
  same q ne = ap (λ (z : Option Value). option_map_or value_words z (0 ∷ 0 ∷ [])) (get_set_other values place q value ne)

  short : length news ≤ slots c
  short = let f = slots_fit v o t values may is_list names in let e = length-set values place value in omega (arith, f, e)

  says : IsListWords b (0 ∷ 0 ∷ ws) (Some c) values × ((known_state o v).table.fill ≡ 0)
  says = list_says v o t values may is_list names

  shut : Shut (version_at kind.List c) (rows kind.List c) ws
  shut = list_shut v o t values may is_list names

  long : length ws ≡ size c
  long = table_is_long v o t names

  ends : IsListWords b (0 ∷ 0 ∷ (at_end v o write).table) (Some c) news
  ends =
      let ver = item_field ws place 0 in
      let said = item_said versions one c class_is ws place (ver + 1) in_table values value fits says.0.table in
      let opened : IsListWords b (0 ∷ 0 ∷ slice_set ws (item_offset place 0) (ver + 1)) (Some c) values = record { head = says.0.head; table = open_table versions one c class_is ws place (ver + 1) in_table values value fits says.0.table } in
      item_closed_stands versions one c class_is ws place (ver + 1) in_table values value fits says.0.table b (ver + 2) news (follow b (0 ∷ 0 ∷ slice_set ws (item_offset place 0) (ver + 1)) (0 ∷ 0 ∷ (at_commit v o write).table) c values place value opened low said.0 said.1)

  -- in each history that agrees with what it knows
  module _ (calls : List Call) (agree : AgreesWith v (stored_newest n.starts calls)) where
    abbrev found : List Content
    found = (stored_newest n.starts calls).world

    answered : answer found no_hands called ≡ puts found no_hands o (content.List news) reply.Done
    answered =
        ap (λ (l : List Value). answer_list found no_hands o l (list.Set index value)) (list_is v o t values may is_list names calls agree)
        ∙ ap (λ (z : Option ℕ). option_map_or (λ (i : ℕ). puts found no_hands o (content.List (slice_set values i value)) reply.Done) z (shows found no_hands (reply.Raised raise.NoIndex))) means

  pub set_possible : (start number : ℕ) × (s : Snap) × (stop : ℕ) × IsReachable (after_write_of v o t write start number s stop)
  set_possible =
      facts_suffice v o t (content.List values) (content.List news) (use_of t (known_state o v).table.fill) write (may_begin v o may) is_list
      (record {
        called = record { of = refl; wrote = refl; fits = fits; locks = one_locked o v.log may.mine; replied = λ r e. inr e; declared = λ world one. record { one = one; both = tt; room = tt } };
        root = tt;
        early = item_early t class_is b ws values news place value names long in_table shut same here short box;
        boxes = (stands, tt);
        names = names;
        clear = item_clear t class_is b ws values news place value names long in_table shut same here short (other_words values place value fits (λ any inside. (says.0.table.items place any inside).fits) differs);
        late = item_late t class_is b ws values news place value names long in_table shut same here short;
        names_still = names;
        ends = (ends, says.1);
        shut = item_shut t class_is b ws values news place value names long in_table shut same here short;
        history = λ calls agree. record { answered = answered calls agree; table_after = table_there v o (content.List values) may.low may.mine is_list calls agree ∙ known_use v o t (content.List values) may is_list names; within = refl; takes = λ class e. absurd (let none = may.none in omega (arith, e, none)) };
      })

pub items_may_be_put : VersionsChangeNothing → PutsChangeOneItem → WordsFollowAPut → ItemsMayBePut
items_may_be_put versions one follow v o t place index box value values may is_list names means low fits differs stands = set_possible versions one follow v o t place index box value values may is_list names means low fits differs stands
