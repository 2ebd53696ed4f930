-- That an item may be appended to a list by a pass that has its lock, where the table has room, as a whole write.
use Rattle.std.proofs.Common.{◌≡◌, ◌≢◌, ℕ, zero, suc, ◌+◌, ◌<◌, ◌≤◌, Bool, false, List, [], ◌∷◌, ◌++◌, length, Option, Some, None, refl, ap, ◌∙◌, inr, arith, length-set, get_or-set_same, get_or-set_other, sym}
use Rattle.std.specs.Prelude.{◌&&◌, ◌||◌, nat_lt, slice_index, slice_index_or, slice_set, slice_get, if◌then◌else◌}
use Rattle.std.specs.Option.{option_map_or}
use Rattle.std.proofs.lemmas.Bool.{le-ltb}
use Rattle.std.proofs.lemmas.List.{length_push}
use Rattle.ft_model.specs.declared.call.Call.{Call}
use Rattle.ft_model.specs.declared.call.Call.TheVariants as call
use Rattle.ft_model.specs.declared.call.ListCall.TheVariants as list
use Rattle.ft_model.specs.declared.content.Content.{Content}
use Rattle.ft_model.specs.declared.content.Content.TheVariants as content
use Rattle.ft_model.specs.declared.data.Value.{Value}
use Rattle.ft_model.specs.declared.reply.Reply.TheVariants as reply
use Rattle.ft_model.specs.declared.script.Kind.TheVariants as kind
use Rattle.ft_model.specs.Answers.{answer, answer_list, puts, after_write}
use Rattle.ft_model.specs.Classes.{IsClass, list_items, list_class, most_items}
use Rattle.ft_model.specs.Worlds.{list_of, list_at, no_hands}
use Rattle.ft_model.specs.TableUses.{TableUse, StoredWorld, no_table, stored_newest, takes_in, table_at, outgrows_list, grown_table, passes_cap, would_pass, after_stored}
use Rattle.ft_layout.specs.declared.slot.Stored.TheVariants.{Plain}
use Rattle.ft_layout.specs.Words.{FitsStored}
use Rattle.ft_layout.specs.WordChanges.{ChangesItem, SaysStored}
use Rattle.ft_layout.specs.Containers.{class_mask, IsBlock, IsListWords}
use Rattle.ft_layout.proofs.Powers.{slots_range}
use Rattle.ft_trace.specs.EntryWrites.{MayStandIn}
use Rattle.ft_trace.specs.declared.Shape.{Shape}
use Rattle.ft_trace.specs.declared.Snap.{Snap}
use Rattle.ft_trace.specs.declared.View.{View}
use Rattle.ft_trace.specs.Addresses.{class_of, slots, size}
use Rattle.ft_trace.specs.Pictures.{root_in, item_offset, item_field}
use Rattle.ft_trace.specs.ItemWords.{value_words, words_at}
use Rattle.ft_trace.specs.Kinds.{rows, version_at}
use Rattle.ft_trace.specs.OddVersions.{Shut}
use Rattle.ft_trace.specs.Holds.{held_unboxed, known_state, AgreesWith}
use Rattle.ft_trace.specs.Traces.{IsReachable}
use Rattle.ft_trace.specs.Grants.{MayWrite}
use Rattle.ft_trace.specs.WholeWrites.{WholeWrite, at_commit, at_end, after_write_of}
use Rattle.ft_trace.specs.ItemWrites.{list_append_write, ItemsMayBeAppended}
use Rattle.ft_trace.proofs.Known.{in_bank, table_is_long}
use Rattle.ft_trace.proofs.ItemPuts.{VersionsChangeNothing, PutsChangeOneItem, item_early, item_clear, item_late, item_shut, open_table, item_said, item_closed_stands, other_words, none_at}
use Rattle.ft_trace.proofs.ListWrites.{may_begin, list_says, list_shut, list_is}
use Rattle.ft_trace.proofs.Naming.{one_locked}
use Rattle.ft_trace.proofs.KnownContents.{use_of, known_use, in_tables, table_there, content_left}
use Rattle.ft_trace.proofs.WriteFacts.{facts_suffice}
use Rattle.ft_trace.proofs.KeysAdded.{and_false}

-- words that stand for a list with one more item
abbrev pub WordsFollowAnAppend : Type 0
WordsFollowAnAppend =
    (block words other new : List ℕ) (class : ℕ) (values : List Value) (value : Value) → IsListWords block words (Some class) values → length values ≤ class_mask class → IsBlock other (Some class) (length values + 1) 0 0 → ChangesItem (length values) words new → SaysStored new (length values) (Plain value)
    → IsListWords other new (Some class) (values ++ value ∷ [])

pub get_last : (values : List Value) (value : Value) → slice_get (values ++ value ∷ []) (length values) ≡ Some value
get_last [] value = refl
get_last (x ∷ xs) value = get_last xs value

pub get_else : (values : List Value) (value : Value) (q : ℕ) → q ≢ length values → slice_get (values ++ value ∷ []) q ≡ slice_get values q
get_else [] value zero ne = absurd (ne refl)
get_else [] value (suc q) ne = refl
get_else (x ∷ xs) value zero ne = refl
get_else (x ∷ xs) value (suc q) ne = get_else xs value q (λ e. ne (ap suc e))

module _ (versions : VersionsChangeNothing) (one : PutsChangeOneItem) (follow : WordsFollowAnAppend) (v : View) (o t : ℕ) (box : Option ℕ) (value : Value) (values : List Value) (may : MayWrite v o) (is_list : (known_state o v).content ≡ content.List values) (names : root_in (held_unboxed o v) ≡ suc t) (room : length values < slots (class_of t)) (fits : FitsStored (Plain value)) (stands : MayStandIn v box value) where
  abbrev n : Shape
  n = v.shape

  abbrev count : ℕ
  count = length values

  abbrev ws : List ℕ
  ws = (held_unboxed o v).table

  abbrev old : List ℕ
  old = (held_unboxed o v).block

  abbrev b : List ℕ
  b = slice_set old 1 (count + 1)

  abbrev news : List Value
  news = values ++ value ∷ []

  abbrev called : Call
  called = call.List o (list.Append value)

  abbrev write : WholeWrite
  write = list_append_write v o count box value

  abbrev c : ℕ
  c = class_of t

  class_is : IsClass c
  class_is = (in_bank v o t may.low may.possible may.mine names).0

  here : words_at news count ≡ value_words value
  here = ap (λ (z : Option Value). option_map_or value_words z (0 ∷ 0 ∷ [])) (get_last values value)

  same : (q : ℕ) → q ≢ count → words_at news q ≡ words_at values q
  same q ne = ap (λ (z : Option Value). option_map_or value_words z (0 ∷ 0 ∷ [])) (get_else values value q ne)

  longer : length news ≡ count + 1
  longer = length_push values value

  short : length news ≤ slots c
  short = let e = longer in omega (arith, room, e)

  says : IsListWords old (0 ∷ 0 ∷ ws) (Some c) values × ((known_state o v).table.fill ≡ 0)
  says = list_says v o t values may is_list names

  shut : Shut (version_at kind.List c) (rows kind.List c) ws
  shut = list_shut v o t values may is_list names

  long : length ws ≡ size c
  long = table_is_long v o t names

  other : (i : ℕ) → i ≢ 1 → slice_index b i ≡ slice_index old i
  other i ne = get_or-set_other old 1 i (count + 1) 0 ne

  names_now : slice_index b 0 ≡ suc t
  names_now = other 0 (λ e. absurd (omega (arith, e))) ∙ names

  head : IsBlock b (Some c) (count + 1) 0 0
  head =
      let h = says.0.head in
      let size_is = h.size in
      record {
        size = length-set old 1 (count + 1) ∙ h.size;
        root = (h.root.0, (h.root.1.0, h.root.1.1, other 0 (λ e. absurd (omega (arith, e))) ∙ h.root.1.2));
        count_is = get_or-set_same old 1 (count + 1) 0 (omega (arith, size_is));
        fill_is = other 2 (λ e. absurd (omega (arith, e))) ∙ h.fill_is;
        next_is = other 3 (λ e. absurd (omega (arith, e))) ∙ h.next_is;
        spare = (other 4 (λ e. absurd (omega (arith, e))) ∙ h.spare.0, other 5 (λ e. absurd (omega (arith, e))) ∙ h.spare.1);
      }

  mask_room : count ≤ class_mask c
  unfolding slots
  mask_room = omega (arith, room)

  ends : IsListWords b (0 ∷ 0 ∷ (at_end v o write).table) (Some c) news
  ends =
      let ver = item_field ws count 0 in
      let said = item_said versions one c class_is ws count (ver + 1) room values value fits says.0.table in
      let opened : IsListWords old (0 ∷ 0 ∷ slice_set ws (item_offset count 0) (ver + 1)) (Some c) values = record { head = says.0.head; table = open_table versions one c class_is ws count (ver + 1) room values value fits says.0.table } in
      item_closed_stands versions one c class_is ws count (ver + 1) room values value fits says.0.table b (ver + 2) news (follow old (0 ∷ 0 ∷ slice_set ws (item_offset count 0) (ver + 1)) b (0 ∷ 0 ∷ (at_commit v o write).table) c values value opened mask_room head said.0 said.1)

  few : length news ≤ most_items
  unfolding slots
  few = let r = (slots_range c class_is).1 in let s = short in omega (arith, r, s)

  -- in each history that agrees with what it knows
  module _ (calls : List Call) (agree : AgreesWith v (stored_newest n.starts calls)) where
    abbrev found : StoredWorld
    found = stored_newest n.starts calls

    abbrev left : List Content
    left = after_write found.world called

    abbrev T : TableUse
    T = table_at found.tables o

    answered : answer found.world no_hands called ≡ puts found.world no_hands o (content.List news) reply.Done
    answered = ap (λ (l : List Value). answer_list found.world no_hands o l (list.Append value)) (list_is v o t values may is_list names calls agree)

    content_after : slice_index_or left o (content.List []) ≡ content.List news
    content_after = content_left v o (content.List values) may.low may.mine is_list calls agree called reply.Done (content.List news) answered (content.List [])

    -- the table has room, so none is taken
    not_outgrown : outgrows_list T (length (list_at left o)) ≡ false
    unfolding slots
    not_outgrown =
        let count_is : length (list_at left o) ≡ count + 1 = ap (λ (z : Content). length (list_of z)) content_after ∙ longer in
        let class_is : T.class ≡ Some c = ap (λ (z : TableUse). z.class) (table_there v o (content.List values) may.low may.mine is_list calls agree ∙ known_use v o t (content.List values) may is_list names) in
        (λ d. outgrows_list (record { class = class_is d; fill = T.fill; keys = T.keys }) (count_is d))
        ∙ (ap (λ (z : Bool). nat_lt 0 (count + 1) && z) (le-ltb (list_items c) (count + 1) (omega (arith, room))) ∙ and_false (nat_lt 0 (count + 1)))

    takes_none : takes_in found called ≡ None
    takes_none = ap (λ (z : Bool). if z then Some (list_class (length (list_at left o))) else None) not_outgrown

    table_after : table_at (after_stored found called).tables o ≡ use_of t (known_state o v).table.fill
    table_after =
        let fill_is : T.fill + 0 ≡ T.fill = omega arith in
        get_or-set_same found.tables o (grown_table T (takes_in found called) 0 0) no_table (in_tables v o (content.List values) may.low may.mine is_list calls agree)
        ∙ (ap (λ (z : Option ℕ). grown_table T z 0 0) takes_none
        ∙ ((λ d. record { class = T.class; fill = fill_is d; keys = T.keys }) ∙ (table_there v o (content.List values) may.low may.mine is_list calls agree ∙ known_use v o t (content.List values) may is_list names)))

    passes_not : would_pass found.world called ≡ false
    passes_not =
        ap (λ (z : Content). passes_cap z || false) content_after ∙ ap (λ (z : Bool). z || false) (le-ltb most_items (length news) few)

  pub append_possible : (start number : ℕ) × (s : Snap) × (stop : ℕ) × IsReachable (after_write_of v o t write start number s stop)
  append_possible =
      facts_suffice v o t (content.List values) (content.List news) (use_of t (known_state o v).table.fill) write (may_begin v o may) is_list
      (record {
        called = record { of = refl; wrote = refl; fits = fits; locks = one_locked o v.log may.mine; replied = λ r e. inr e; declared = λ world one. record { one = one; both = tt; room = tt } };
        root = tt;
        early = ((omega arith, omega arith), item_early t class_is b ws values news count value names_now long room shut same here short box);
        boxes = (stands, tt);
        names = names_now;
        clear = item_clear t class_is b ws values news count value names_now long room shut same here short (other_words values count value fits (λ any inside. absurd (omega (arith, inside))) (λ some. let e : None ≡ Some value = sym (none_at values count (omega arith)) ∙ some in absurd (cc)));
        late = item_late t class_is b ws values news count value names_now long room shut same here short;
        names_still = names_now;
        ends = (ends, says.1);
        shut = item_shut t class_is b ws values news count value names_now long room shut same here short;
        history = λ calls agree. record { answered = answered calls agree; table_after = table_after calls agree; within = passes_not calls agree; takes = λ class e. absurd (let none = may.none in omega (arith, e, none)) };
      })

pub items_may_be_appended : VersionsChangeNothing → PutsChangeOneItem → WordsFollowAnAppend → ItemsMayBeAppended
items_may_be_appended versions one follow v o t box value values may is_list names room fits stands = append_possible versions one follow v o t box value values may is_list names room fits stands
