-- That a call on a list may be committed, once the list's words say what the call leaves.
use Rattle.std.proofs.Common.{◌≡◌, ℕ, suc, ◌<◌, ◌≤◌, Bool, true, false, true≢false, List, [], length, Option, Some, None, sym, ap, ◌∙◌, subst, inr, arith, get_or-set_same}
use Rattle.std.specs.Prelude.{◌&&◌, not, IfSome, slice_index_or, if◌then◌else◌}
use Rattle.std.specs.Option.{unwrap_or}
use Rattle.ft_model.specs.declared.call.Call.{Call}
use Rattle.ft_model.specs.declared.call.Call.TheVariants as call
use Rattle.ft_model.specs.declared.call.ListCall.{ListCall}
use Rattle.ft_model.specs.declared.call.TableChange.{TableChange}
use Rattle.ft_model.specs.declared.call.TableChange.TheVariants as change
use Rattle.ft_model.specs.declared.content.Content.{Content}
use Rattle.ft_model.specs.declared.content.Content.TheVariants as content
use Rattle.ft_model.specs.declared.data.Value.{Value}
use Rattle.ft_model.specs.declared.reply.Reply.{Reply}
use Rattle.ft_model.specs.declared.script.Kind.{Kind}
use Rattle.ft_model.specs.declared.script.Kind.TheVariants as kind
use Rattle.ft_model.specs.Answers.{Answer, answer, answer_list, puts, after_write}
use Rattle.ft_model.specs.Calls.{list_change}
use Rattle.ft_model.specs.TableUses.{StoredWorld, no_table, takes_in, table_at, change_leaves, grown_table, after_stored}
use Rattle.ft_model.specs.Worlds.{list_of, list_at, no_hands, IsDeclared}
use Rattle.ft_layout.specs.Containers.{IsBlock}
use Rattle.ft_layout.proofs.Powers.{slots_range}
use Rattle.ft_trace.specs.declared.Shape.{Shape}
use Rattle.ft_trace.specs.declared.View.{View}
use Rattle.ft_trace.specs.Addresses.{container_count, class_of, slots}
use Rattle.ft_trace.specs.Acts.{has_lock, is_writing, has_emptied, owes}
use Rattle.ft_trace.specs.Boxes.{StoresTaken}
use Rattle.ft_trace.specs.ContainerStates.{ContainerState, state_at, kind_in, changes}
use Rattle.ft_trace.specs.Pictures.{root_in}
use Rattle.ft_trace.specs.ItemWords.{ItemClear}
use Rattle.ft_trace.specs.Kinds.{ClearAs}
use Rattle.ft_trace.specs.Holds.{held_unboxed, known_state}
use Rattle.ft_trace.proofs.Known.{declared_at}
use Rattle.ft_bank.specs.declared.table.Table.{Table}
use Rattle.ft_bank.specs.TableNames.{table_id}
use Rattle.ft_bank.specs.WriteSteps.{MayHave}
use Rattle.ft_list.specs.ListItemWrites.{WritesList, IsChanging, MayFinishItems}
use Rattle.ft_list.specs.ListWrites.{IsListWrite}
use Rattle.ft_list.proofs.Cares.{table_class}
use Rattle.ft_list.proofs.ItemWordsPut.{Changed}

module _ (o : ℕ) (lc : ListCall) (said : Reply) (values news : List Value) (v : View) (low : o < container_count v.shape) (mine : has_lock o v.log ≡ true) (is_list : (known_state o v).content ≡ content.List values) (stored : StoredWorld) (has : MayHave v stored) where
  abbrev world : List Content
  world = stored.world

  pub list_there : slice_index_or world o (content.List []) ≡ content.List values
  list_there = ap (λ (z : ContainerState). z.content) (has.agrees o low mine) ∙ is_list

  pub list_is : list_at world o ≡ values
  list_is = ap list_of list_there

  pub in_world : o < length world
  in_world = subst (λ (n : ℕ). o < n) (sym has.containers) low

  pub in_tables : o < length stored.tables
  in_tables = subst (λ (n : ℕ). o < n) (sym (has.order.as_many ∙ has.containers)) low

  module _ (answered : answer_list world no_hands o values lc ≡ puts world no_hands o (content.List news) said) where
    pub answer_is : answer world no_hands (call.List o lc) ≡ puts world no_hands o (content.List news) said
    answer_is = ap (λ (l : List Value). answer_list world no_hands o l lc) list_is ∙ answered

    pub content_after : slice_index_or (after_write world (call.List o lc)) o (content.List []) ≡ content.List news
    content_after = ap (λ (z : Answer). slice_index_or z.world o (content.List [])) answer_is ∙ get_or-set_same world o (content.List news) (content.List []) in_world

  -- a call that stores nothing leaves the table
  pub table_stays : list_change lc ≡ change.Stays → table_at (after_stored stored (call.List o lc)).tables o ≡ table_at stored.tables o
  table_stays stays = ap (λ (z : TableChange). table_at (change_leaves stored.tables o z (grown_table (table_at stored.tables o) (takes_in stored (call.List o lc)) 0 0) no_table) o) stays

module _ (k : Shape) (o : ℕ) (table : Table) (first past : ℕ) (lc : ListCall) (said : Reply) (values news : List Value) (v : View) (list : WritesList k o table v) (shape : v.shape ≡ k) (is_list : (known_state o v).content ≡ content.List values) (call_is : IsListWrite o lc said values news v)
    (table_after : (stored : StoredWorld) → MayHave v stored → table_at (after_stored stored (call.List o lc)).tables o ≡ record { class = Some (class_of (table_id table)); fill = 0; keys = [] })
    (takes_owed : (stored : StoredWorld) (c : ℕ) → MayHave v stored → owes v.log ≡ suc c → takes_in stored (call.List o lc) ≡ Some c)
    (changed_by : Changed (class_of (table_id table)) values news first past (held_unboxed o v).table) where
  changing : IsChanging (class_of (table_id table)) values news first past (held_unboxed o v).table
  changing = changed_by.0

  abbrev called : Call
  called = call.List o lc

  abbrev class : ℕ
  class = class_of (table_id table)

  changed : changes called ≡ o
  changed = ap (λ (b : Bool). unwrap_or (if b then Some o else None) 0) call_is.changing

  low' : o < container_count v.shape
  low' = subst (λ (z : Shape). o < container_count z) (sym shape) list.container

  is_kind : kind.List ≡ kind_in v.shape.starts o
  is_kind = sym (ap (λ (z : Shape). kind_in z.starts o) shape ∙ list.kind)

  left_after : (stored : StoredWorld) → MayHave v stored → state_at (after_stored stored called) o ≡ record { content = content.List news; table = record { class = Some class; fill = 0; keys = [] } }
  left_after stored has =
      let c = content_after o lc said values news v low' list.locked is_list stored has (call_is.answered stored has) in
      let t = table_after stored has in
      λ d. record { content = c d; table = t d }

  few : length news ≤ slots class
  unfolding slots
  few = let f = changing.table.fill in let r = (slots_range class (table_class k table list.table_in)).0 in omega (arith, f, r)

  clear : ItemClear (slots class) (held_unboxed o v).table values news
  clear = record { keeps = changing.shut; opens = changed_by.1; short = few }

  clears : (stored : StoredWorld) (t : ℕ) → MayHave v stored → root_in (held_unboxed o v) ≡ suc t → ClearAs (kind_in v.shape.starts o) v.shape.texts (class_of t) (held_unboxed o v).table (known_state o v).content (state_at (after_stored stored called) o).content
  clears stored t has names =
      let same : table_id table ≡ t = let e : suc (table_id table) ≡ suc t = sym list.root ∙ names in omega (arith, e) in
      subst (λ (n : ℕ). ClearAs (kind_in v.shape.starts o) v.shape.texts (class_of n) (held_unboxed o v).table (known_state o v).content (state_at (after_stored stored called) o).content) same
      (subst (λ (z : Kind × Content × Content). ClearAs z.0 v.shape.texts class (held_unboxed o v).table z.1 z.2) (λ d. (is_kind d, sym is_list d, sym (ap (λ (z : ContainerState). z.content) (left_after stored has)) d)) clear)

  declared : (stored : StoredWorld) → MayHave v stored → IsDeclared stored.world no_hands called
  declared stored has = record {
    one = declared_at stored.world o (content.List values) (in_world o lc said values news v low' list.locked is_list stored has) (list_there o lc said values news v low' list.locked is_list stored has);
    both = call_is.other stored has;
    room = subst (λ (z : Option ℕ). IfSome z (λ (n : ℕ). n < 0)) (sym call_is.cursor) tt;
  }

  pub may_finish : 0 < v.left → has_emptied o v.log ≡ false → IsBlock (held_unboxed o v).block (Some class) (length news) 0 0 → ((stored : StoredWorld) → MayHave v stored → StoresTaken v.shape stored.world v.log called) → MayFinishItems o table called said first past v
  may_finish left full head stores = record {
    may = record {
      write = (λ d. call_is.changing d && not (call_is.raises d));
      container = subst (λ (n : ℕ). n < container_count v.shape) (sym changed) low';
      odd = subst (λ (n : ℕ). is_writing n v.log ≡ true) (sym changed) list.odd;
      left = left;
      words = call_is.fits;
      locks = call_is.locks;
      reply_is = λ stored has. inr (sym (ap (λ (z : Answer). z.reply) (answer_is o lc said values news v low' list.locked is_list stored has (call_is.answered stored has))));
      declared = declared;
      fits = call_is.caps;
      clear = subst (λ (n : ℕ). (stored : StoredWorld) (t : ℕ) → MayHave v stored → root_in (held_unboxed n v) ≡ suc t → ClearAs (kind_in v.shape.starts n) v.shape.texts (class_of t) (held_unboxed n v).table (known_state n v).content (state_at (after_stored stored called) n).content) (sym changed) clears;
      takes = takes_owed;
      stores = stores;
      empties = λ e. absurd (true≢false (sym e ∙ subst (λ (n : ℕ). has_emptied n v.log ≡ false) (sym changed) full));
    };
    changed = changed;
    before = values;
    after = news;
    left = left_after;
    head = head;
    changing = changing;
  }
