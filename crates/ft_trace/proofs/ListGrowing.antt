-- That a list may get another table by a pass that has its lock, as a whole write.
use Rattle.std.proofs.Common.{◌≡◌, ◌≢◌, ℕ, suc, ◌+◌, ◌%◌, ◌<◌, ◌≤◌, Bool, true, false, List, [], ◌∷◌, ◌++◌, length, Option, Some, refl, sym, ap, ◌∙◌, subst, inr, arith, length-set, get_or-set_same, get_or-set_other, None}
use Rattle.std.specs.Prelude.{◌||◌, slice_index, slice_index_or, slice_set}
use Rattle.std.specs.Option.{option_map_or}
use Rattle.std.proofs.lemmas.Bool.{le-ltb}
use Rattle.std.proofs.lemmas.List.{length_push}
use Rattle.ft_model.specs.declared.call.Call.{Call}
use Rattle.ft_model.specs.declared.call.Call.TheVariants as call
use Rattle.ft_model.specs.declared.call.ListCall.TheVariants as list
use Rattle.ft_model.specs.declared.content.Content.{Content}
use Rattle.ft_model.specs.declared.content.Content.TheVariants as content
use Rattle.ft_model.specs.declared.data.Value.{Value}
use Rattle.ft_model.specs.declared.reply.Reply.TheVariants as reply
use Rattle.ft_model.specs.declared.script.Kind.{Kind}
use Rattle.ft_model.specs.declared.script.Kind.TheVariants as kind
use Rattle.ft_model.specs.Answers.{answer, answer_list, puts, after_write}
use Rattle.ft_model.specs.Classes.{IsClass, most_items}
use Rattle.ft_model.specs.Worlds.{list_of, list_at, no_hands}
use Rattle.ft_model.specs.TableUses.{list_takes, TableUse, StoredWorld, no_table, stored_newest, takes_in, table_at, grown_table, passes_cap, after_stored}
use Rattle.ft_layout.specs.Containers.{class_mask, IsListWords}
use Rattle.ft_layout.proofs.Powers.{slots_range}
use Rattle.ft_trace.specs.declared.Shape.{Shape}
use Rattle.ft_trace.specs.declared.Snap.{Snap}
use Rattle.ft_trace.specs.declared.View.{View}
use Rattle.ft_trace.specs.Addresses.{class_of, slots, size}
use Rattle.ft_trace.specs.Pictures.{item_offset, item_field}
use Rattle.ft_trace.specs.ItemWords.{ItemSound, ItemClear, value_words, words_at, said_at, OpensChangedItems}
use Rattle.ft_trace.specs.OddVersions.{Shut}
use Rattle.ft_trace.specs.Holds.{held_unboxed, known_state, hand_unboxed, AgreesWith}
use Rattle.ft_trace.specs.Traces.{IsReachable}
use Rattle.ft_trace.specs.WholeWrites.{to_table, with_root_put, MayBegin, to_block, MayPuts, WholeWrite, at_commit, at_end, after_write_of}
use Rattle.ft_trace.specs.ListGrowWrites.{list_grow_write, HasListGrown, ListsMayGrow}
use Rattle.ft_trace.proofs.ByKind.{items_fit}
use Rattle.ft_trace.proofs.Known.{after_header}
use Rattle.ft_trace.proofs.ItemPuts.{VersionsChangeNothing, item_close, items_says, other_words, none_at}
use Rattle.ft_trace.proofs.ListAppends.{get_else, get_last}
use Rattle.ft_trace.proofs.Naming.{one_locked}
use mathlib.Core.Logic.{dite}
use native.Mathlib.Decide.{ℕ_discrete}
use Rattle.ft_layout.specs.Tables.{IsListTable}
use Rattle.ft_layout.specs.Tables as layout
use Rattle.ft_trace.proofs.KnownContents.{use_of, in_tables, content_there, table_there, content_left}
use Rattle.ft_trace.proofs.WriteFacts.{replaces, facts_suffice}
use Rattle.ft_trace.proofs.Known.{hand_is_long}
use Rattle.ft_trace.proofs.ValuePlaces.{item_far}

module _ (versions : VersionsChangeNothing) (v : View) (o t : ℕ) (value : Value) (values : List Value) (begin : MayBegin v o) (is_list : (known_state o v).content ≡ content.List values) (has : HasListGrown v o t value values) where
  abbrev k : Shape
  k = v.shape

  abbrev c : ℕ
  c = class_of t

  abbrev n : ℕ
  n = slots c

  abbrev p : ℕ
  p = length values

  abbrev zs : List ℕ
  zs = hand_unboxed o t v

  abbrev news : List Value
  news = values ++ value ∷ []

  abbrev called : Call
  called = call.List o (list.Append value)

  abbrev write : WholeWrite
  write = list_grow_write v o t value values

  abbrev block : List ℕ
  block = (at_commit v o write).block

  class_is : IsClass c
  class_is = has.table.0

  long : length zs ≡ size c
  long = hand_is_long v o t

  longer : length news ≡ p + 1
  longer = length_push values value

  fits_in : length news ≤ n
  unfolding slots
  fits_in = let f = has.words.table.fill in let r = (slots_range c class_is).0 in omega (arith, f, r)

  room : p < n
  room = let a = fits_in in let b = longer in omega (arith, a, b)

  inside : item_offset p 0 < length zs
  inside = let f = items_fit c class_is in let r = room in let l = long in omega (arith, f, r, l)

  -- each item but the new one is as it was
  same : (q : ℕ) → q ≢ p → words_at news q ≡ words_at values q
  same q ne = ap (λ (z : Option Value). option_map_or value_words z (0 ∷ 0 ∷ [])) (get_else values value q ne)

  says : (q : ℕ) → q < n → words_at news q ≡ said_at zs q
  says q less = items_says c class_is news zs has.words.table q less

  even_is_old : (q : ℕ) → q < n → item_field zs q 0 % 2 ≡ 0 → q ≢ p
  even_is_old q less two e = let one = ap (λ (z : ℕ). item_field zs z 0) e ∙ has.open_item in absurd (omega (arith, one, two))

  sound : ItemSound n zs values
  sound = record {
    right = λ q less two. sym (same q (even_is_old q less two)) ∙ says q less;
    short = let r = room in omega (arith, r);
  }

  -- the open item has nothing before, and the value after
  opens : OpensChangedItems n zs values news
  opens q less odd =
      dite (ℕ_discrete q p)
      (λ (e : q ≡ p). subst (λ (z : ℕ). words_at news z ≢ words_at values z) (sym e) (λ as_before. other_words values p value has.fits (λ any inside. absurd (omega (arith, inside))) (λ some. let e : None ≡ Some value = sym (none_at values p (omega arith)) ∙ some in absurd (cc)) (sym as_before ∙ ap (λ (z : Option Value). option_map_or value_words z (0 ∷ 0 ∷ [])) (get_last values value))))
      (λ ne. let z = has.others q less ne in absurd (omega (arith, z, odd)))

  clear : ItemClear n zs values news
  clear = record { keeps = λ q less two. same q (even_is_old q less two); opens = opens; short = fits_in }

  young : (q : ℕ) → q < n → item_field zs q 0 ≤ 1
  young q less = dite (ℕ_discrete q p) (λ (e : q ≡ p). let one = ap (λ (z : ℕ). item_field zs z 0) e ∙ has.open_item in omega (arith, one)) (λ ne. let z = has.others q less ne in omega (arith, z))

  names_now : slice_index block 0 ≡ suc t
  names_now =
      let b0 = slice_set (held_unboxed o v).block 0 (suc t) in
      let s = has.words.head.size in
      let a = length-set b0 1 (p + 1) in
      let d = length-set (held_unboxed o v).block 0 (suc t) in
      get_or-set_other b0 1 0 (p + 1) 0 (λ e. absurd (omega (arith, e))) ∙ get_or-set_same (held_unboxed o v).block 0 (suc t) 0 (omega (arith, s, a, d))

  early : (any : Kind) (d : Content) → MayPuts any t d false (with_root_put v o (Some (suc t))) (to_block 1 (p + 1) ∷ [])
  early any d = ((omega arith, omega arith), tt)

  late : MayPuts kind.List t (content.List news) true (at_commit v o write) (to_table (item_offset p 0) 2 ∷ [])
  late =
      let one = has.open_item in
      let l = long in
      let i = inside in
      ((names_now, omega (arith, i, l), item_close n zs news p 2 (omega (arith, one)) (says p room), record { before = λ q less at odd. absurd (omega (arith, odd)); later = λ q less at two. refl }, item_far c p), tt)

  ends : IsListWords block (0 ∷ 0 ∷ (at_end v o write).table) (Some c) news
  ends = record {
    head = has.words.head;
    table = subst (λ (z : List ℕ). IsListTable (class_mask c) news z) (after_header zs (layout.item_at p 0) (item_offset p 0) 2 (omega arith)) (versions (class_mask c) news (0 ∷ 0 ∷ zs) p 2 has.words.table);
  }

  shut : Shut (λ q. item_offset q 0) n (at_end v o write).table
  shut q less =
      dite (ℕ_discrete q p)
      (λ (e : q ≡ p). let x : item_field (at_end v o write).table q 0 ≡ 2 = ap (λ (z : ℕ). item_field (at_end v o write).table z 0) e ∙ get_or-set_same zs (item_offset p 0) 2 0 inside in omega (arith, x))
      (λ ne. let x : item_field (at_end v o write).table q 0 ≡ 0 = get_or-set_other zs (item_offset p 0) (item_offset q 0) 2 0 (λ e. ne (omega (arith, e))) ∙ has.others q less ne in omega (arith, x))

  few : length news ≤ most_items
  unfolding slots
  few = let r = (slots_range c class_is).1 in let s = fits_in in omega (arith, r, s)

  -- in each history that agrees with what it knows
  module _ (calls : List Call) (agree : AgreesWith v (stored_newest k.starts calls)) where
    abbrev found : StoredWorld
    found = stored_newest k.starts calls

    abbrev left : List Content
    left = after_write found.world called

    abbrev T : TableUse
    T = table_at found.tables o

    answered : answer found.world no_hands called ≡ puts found.world no_hands o (content.List news) reply.Done
    answered = ap (λ (l : List Value). answer_list found.world no_hands o l (list.Append value)) (ap list_of (content_there v o (content.List values) begin.low begin.mine is_list calls agree (content.List [])))

    content_after : slice_index_or left o (content.List []) ≡ content.List news
    content_after = content_left v o (content.List values) begin.low begin.mine is_list calls agree called reply.Done (content.List news) answered (content.List [])

    takes_one : takes_in found called ≡ Some c
    takes_one =
        let a = table_there v o (content.List values) begin.low begin.mine is_list calls agree in
        let b : length (list_at left o) ≡ p + 1 = ap (λ (z : Content). length (list_of z)) content_after ∙ longer in
        (λ i. list_takes (a i) (b i)) ∙ has.takes

    table_after : table_at (after_stored found called).tables o ≡ record { class = Some c; fill = 0; keys = [] }
    table_after =
        get_or-set_same found.tables o (grown_table T (takes_in found called) 0 0) no_table (in_tables v o (content.List values) begin.low begin.mine is_list calls agree) ∙ ap (λ (z : Option ℕ). grown_table T z 0 0) takes_one

  pub list_grow_possible : (start number : ℕ) × (s : Snap) × (stop : ℕ) × IsReachable (after_write_of v o t write start number s stop)
  list_grow_possible =
      facts_suffice v o t (content.List values) (content.List news) (use_of t 0) write begin is_list
      (record {
        called = record { of = refl; wrote = refl; fits = has.fits; locks = one_locked o v.log begin.mine; replied = λ r e. inr e; declared = λ world one. record { one = one; both = tt; room = tt } };
        root = replaces v o t (content.List values) called begin is_list has.table has.fresh sound young has.references;
        early = early kind.List (content.List values);
        boxes = tt;
        names = names_now;
        clear = clear;
        late = late;
        names_still = names_now;
        ends = (ends, refl);
        shut = shut;
        history = λ calls agree. record {
          answered = answered calls agree;
          table_after = table_after calls agree;
          within = ap (λ (z : Content). passes_cap z || false) (content_after calls agree) ∙ ap (λ (z : Bool). z || false) (le-ltb most_items (length news) few);
          takes = λ class e. let owed = has.owed in let same_class : c ≡ class = omega (arith, e, owed) in takes_one calls agree ∙ ap (λ (z : ℕ). Some z) same_class;
        };
      })

pub lists_may_grow : VersionsChangeNothing → ListsMayGrow
lists_may_grow versions v o t value values begin is_list has = list_grow_possible versions v o t value values begin is_list has
