-- What each call on a list changes, in the words of the plain containers.
use Rattle.std.proofs.Common.{◌≡◌, ◌≢◌, ℕ, ◌+◌, ◌<◌, ◌≤◌, ℤ, Bool, true, false, List, [], ◌∷◌, ◌++◌, length, Option, Some, None, refl, sym, ap, ◌∙◌, subst, inl, inr, arith, eq-eqb, ne_eqb, get_or-set_same, get_or-set_other}
use Rattle.std.specs.Prelude.{map, reverse, ◌&&◌, ◌||◌, nat_lt, IfSome, slice_index_or, slice_set, negsuc, if◌then◌else◌}
use Rattle.std.specs.List.{insert, remove, list_any}
use Rattle.std.specs.Option.{unwrap_or, option_map_or}
use Rattle.std.proofs.lemmas.Bool.{cases_eq, le-ltb}
use Rattle.std.proofs.lemmas.List.Edits.{insert_end}
use Rattle.ft_model.specs.declared.call.Call.TheVariants as call
use Rattle.ft_model.specs.declared.call.ListCall.{ListCall}
use Rattle.ft_model.specs.declared.call.ListCall.TheVariants as list
use Rattle.ft_model.specs.declared.call.TableChange.{TableChange}
use Rattle.ft_model.specs.declared.call.TableChange.TheVariants as change
use Rattle.ft_model.specs.declared.content.Content.{Content}
use Rattle.ft_model.specs.declared.content.Content.TheVariants as content
use Rattle.ft_model.specs.declared.data.Value.{Value}
use Rattle.ft_model.specs.declared.data.Value.TheVariants as value
use Rattle.ft_model.specs.declared.reply.Reply.{Reply}
use Rattle.ft_model.specs.declared.reply.Reply.TheVariants as reply
use Rattle.ft_model.specs.declared.reply.Raise.TheVariants as raise
use Rattle.ft_model.specs.declared.script.Kind.TheVariants as kind
use Rattle.ft_model.specs.Answers.{Answer as Given, answer, answer_list, puts, shows, after_write, is_raised}
use Rattle.ft_model.specs.Calls.{is_changing_list, other_list, cursor_of_list, list_change, adds, one_or_two}
use Rattle.ft_model.specs.Classes.{most_items}
use Rattle.ft_model.specs.Lists.{clamped_in, index_in, index_of}
use Rattle.ft_model.specs.TableUses.{StoredWorld, CanLackMemory, no_table, takes_in, table_at, change_leaves, change_takes, list_takes, grown_table, passes_cap, would_pass, after_stored}
use Rattle.ft_model.specs.Worlds.{list_of, list_at, named_in, no_hands, IsOfKind}
use Rattle.ft_trace.specs.declared.View.{View}
use Rattle.ft_trace.specs.Addresses.{container_count}
use Rattle.ft_trace.specs.Acts.{has_lock}
use Rattle.ft_trace.specs.FitCalls.{FitsListCall}
use Rattle.ft_trace.specs.ContainerStates.{ContainerState}
use Rattle.ft_trace.proofs.Naming.{named_locked}
use Rattle.ft_trace.specs.Holds.{known_state}
use Rattle.ft_bank.specs.WriteSteps.{MayHave}
use Rattle.ft_list.specs.ListWrites.{IsListWrite, Changes, Grows, Adds}
use Rattle.ft_trace.proofs.Known.{declared_at}
use Rattle.ft_list.proofs.Commits.{answer_is, content_after, in_tables, in_world, list_is, list_there, table_stays}

-- a call that stores no more than before
pub changes_stay : (o : ℕ) (lc : ListCall) (said : Reply) (values news : List Value) (v : View) → o < container_count v.shape → has_lock o v.log ≡ true → (known_state o v).content ≡ content.List values → is_changing_list lc ≡ true → is_raised said ≡ false → cursor_of_list lc ≡ None → other_list lc ≡ None → list_change lc ≡ change.Stays → FitsListCall lc
    → ((world : List Content) → answer_list world no_hands o values lc ≡ puts world no_hands o (content.List news) said) → Changes o lc said values news v
changes_stay o lc said values news v low mine is_list changing raises cursor other stays fits answered = record {
  write = record {
    changing = changing;
    raises = raises;
    cursor = cursor;
    fits = fits;
    locks = named_locked o (other_list lc) v.log mine (subst (λ (z : Option ℕ). IfSome z (λ q. has_lock q v.log ≡ true)) (sym other) tt);
    answered = λ stored has. answered stored.world;
    other = λ stored has. subst (λ (z : Option ℕ). IfSome z (λ p. IsOfKind stored.world kind.List p)) (sym other) tt;
    caps = λ stored has. ap (λ (z : TableChange). adds z && list_any passes_cap (named_in (after_write stored.world (call.List o lc)) (call.List o lc))) stays;
  };
  table = λ stored has. table_stays o lc said values news v low mine is_list stored has stays;
}

-- l[i] = v
pub set_changes : (o : ℕ) (index : ℤ) (value : Value) (values : List Value) (place : ℕ) (v : View) → o < container_count v.shape → has_lock o v.log ≡ true → (known_state o v).content ≡ content.List values → FitsListCall (list.Set index value) → index_in (length values) index ≡ Some place → Changes o (list.Set index value) reply.Done values (slice_set values place value) v
set_changes o index value values place v low mine is_list fits means =
    changes_stay o (list.Set index value) reply.Done values (slice_set values place value) v low mine is_list refl refl refl refl refl fits
    (λ world. ap (λ (z : Option ℕ). option_map_or (λ (i : ℕ). puts world no_hands o (content.List (slice_set values i value)) reply.Done) z (shows world no_hands (reply.Raised raise.NoIndex))) means)

-- del l[i]
pub del_changes : (o : ℕ) (index : ℤ) (values : List Value) (place : ℕ) (v : View) → o < container_count v.shape → has_lock o v.log ≡ true → (known_state o v).content ≡ content.List values → index_in (length values) index ≡ Some place → Changes o (list.Del index) reply.Done values (remove values place) v
del_changes o index values place v low mine is_list means =
    changes_stay o (list.Del index) reply.Done values (remove values place) v low mine is_list refl refl refl refl refl tt
    (λ world. ap (λ (z : Option ℕ). option_map_or (λ (i : ℕ). puts world no_hands o (content.List (remove values i)) reply.Done) z (shows world no_hands (reply.Raised raise.NoIndex))) means)

-- l.pop(i)
pub pop_changes : (o : ℕ) (index : Option ℤ) (values : List Value) (place : ℕ) (v : View) → o < container_count v.shape → has_lock o v.log ≡ true → (known_state o v).content ≡ content.List values → index_in (length values) (unwrap_or index (negsuc 0)) ≡ Some place → Changes o (list.Pop index) (reply.Value (slice_index_or values place value.Nothing)) values (remove values place) v
pop_changes o index values place v low mine is_list means =
    changes_stay o (list.Pop index) (reply.Value (slice_index_or values place value.Nothing)) values (remove values place) v low mine is_list refl refl refl refl refl tt
    (λ world. ap (λ (z : Option ℕ). option_map_or (λ (i : ℕ). puts world no_hands o (content.List (remove values i)) (reply.Value (slice_index_or values i value.Nothing))) z (shows world no_hands (reply.Raised raise.NoIndex))) means)

-- l.remove(v)
pub remove_changes : (o : ℕ) (value : Value) (values : List Value) (place : ℕ) (v : View) → o < container_count v.shape → has_lock o v.log ≡ true → (known_state o v).content ≡ content.List values → FitsListCall (list.Remove value) → index_of values value ≡ Some place → Changes o (list.Remove value) reply.Done values (remove values place) v
remove_changes o value values place v low mine is_list fits means =
    changes_stay o (list.Remove value) reply.Done values (remove values place) v low mine is_list refl refl refl refl refl fits
    (λ world. ap (λ (z : Option ℕ). option_map_or (λ (i : ℕ). puts world no_hands o (content.List (remove values i)) reply.Done) z (shows world no_hands (reply.Raised raise.NoValue))) means)

-- l.reverse()
pub reverse_changes : (o : ℕ) (values : List Value) (v : View) → o < container_count v.shape → has_lock o v.log ≡ true → (known_state o v).content ≡ content.List values → Changes o list.Reverse reply.Done values (reverse values) v
reverse_changes o values v low mine is_list = changes_stay o list.Reverse reply.Done values (reverse values) v low mine is_list refl refl refl refl refl tt (λ world. refl)

-- ---- calls that add items

or_false : (b : Bool) → (b || false) ≡ b
or_false true = refl
or_false false = refl

not_false : (b : Bool) → (b ≡ true → ⊥) → b ≡ false
not_false true never = absurd (never refl)
not_false false never = refl

-- a call that adds to one list alone
adds_alone : (o : ℕ) (lc : ListCall) (values news : List Value) (v : View) → o < container_count v.shape → has_lock o v.log ≡ true → (known_state o v).content ≡ content.List values → is_changing_list lc ≡ true → list_change lc ≡ change.Grows → other_list lc ≡ None → cursor_of_list lc ≡ None → FitsListCall lc
    → ((world : List Content) → answer_list world no_hands o values lc ≡ puts world no_hands o (content.List news) reply.Done) → Adds o lc values news v
adds_alone o lc values news v low mine is_list changing grows other cursor fits answered = record {
  changing = changing;
  grows = grows;
  cursor = cursor;
  fits = fits;
  locks = named_locked o (other_list lc) v.log mine (subst (λ (z : Option ℕ). IfSome z (λ q. has_lock q v.log ≡ true)) (sym other) tt);
  answered = λ stored has. answered stored.world;
  other = λ stored has. subst (λ (z : Option ℕ). IfSome z (λ p. IsOfKind stored.world kind.List p)) (sym other) tt;
  caps = λ stored has.
      let left = after_write stored.world (call.List o lc) in
      (λ d. adds (grows d) && list_any passes_cap (map (λ place. slice_index_or left place (content.List [])) (one_or_two o (other d))))
      ∙ (ap (λ (z : Content). passes_cap z || false) (content_after o lc reply.Done values news v low mine is_list stored has (answered stored.world)) ∙ or_false (nat_lt most_items (length news)));
}

-- l.append(v)
pub append_adds : (o : ℕ) (value : Value) (values : List Value) (v : View) → o < container_count v.shape → has_lock o v.log ≡ true → (known_state o v).content ≡ content.List values → FitsListCall (list.Append value) → Adds o (list.Append value) values (insert values (length values) value) v
append_adds o value values v low mine is_list fits =
    adds_alone o (list.Append value) values (insert values (length values) value) v low mine is_list refl refl refl refl fits
    (λ world. ap (λ (vs : List Value). puts world no_hands o (content.List vs) reply.Done) (sym (insert_end values value)))

-- l.insert(i, v)
pub insert_adds : (o : ℕ) (index : ℤ) (value : Value) (values : List Value) (v : View) → o < container_count v.shape → has_lock o v.log ≡ true → (known_state o v).content ≡ content.List values → FitsListCall (list.Insert index value) → Adds o (list.Insert index value) values (insert values (clamped_in (length values) index) value) v
insert_adds o index value values v low mine is_list fits =
    adds_alone o (list.Insert index value) values (insert values (clamped_in (length values) index) value) v low mine is_list refl refl refl refl fits (λ world. refl)

-- l.extend(m)
module _ (o m : ℕ) (values others : List Value) (v : View) (low : o < container_count v.shape) (high : m < container_count v.shape) (mine : has_lock o v.log ≡ true) (theirs : has_lock m v.log ≡ true) (is_list : (known_state o v).content ≡ content.List values) (is_other : (known_state m v).content ≡ content.List others) (few : length others ≤ most_items) where
  abbrev joined : List Value
  joined = values ++ others

  module _ (stored : StoredWorld) (has : MayHave v stored) where
    extended : answer_list stored.world no_hands o values (list.Extend m) ≡ puts stored.world no_hands o (content.List joined) reply.Done
    extended = ap (λ (l : List Value). puts stored.world no_hands o (content.List (values ++ l)) reply.Done) (list_is m (list.Extend o) reply.Done others others v high theirs is_other stored has)

    -- the other list is no longer than before
    other_short : o ≢ m → passes_cap (slice_index_or (after_write stored.world (call.List o (list.Extend m))) m (content.List [])) ≡ false
    other_short ne =
        ap (λ (z : Given). passes_cap (slice_index_or z.world m (content.List []))) (answer_is o (list.Extend m) reply.Done values joined v low mine is_list stored has extended)
        ∙ (ap passes_cap (get_or-set_other stored.world o m (content.List joined) (content.List []) (λ e. ne (sym e)) ∙ list_there m (list.Extend o) reply.Done others others v high theirs is_other stored has)
        ∙ le-ltb most_items (length others) few)

    caps_so : would_pass stored.world (call.List o (list.Extend m)) ≡ nat_lt most_items (length joined)
    caps_so =
        let left = after_write stored.world (call.List o (list.Extend m)) in
        let here = ap passes_cap (content_after o (list.Extend m) reply.Done values joined v low mine is_list stored has extended) in
        elim (cases_eq o m) [
          | inl e ↦ (λ d. list_any passes_cap (map (λ place. slice_index_or left place (content.List [])) (if eq-eqb o m e d then o ∷ [] else o ∷ m ∷ []))) ∙ (ap (λ (b : Bool). b || false) here ∙ or_false (nat_lt most_items (length joined)))
          | inr ne ↦ (λ d. list_any passes_cap (map (λ place. slice_index_or left place (content.List [])) (if ne_eqb o m ne d then o ∷ [] else o ∷ m ∷ []))) ∙ ((λ d. here d || (other_short ne d || false)) ∙ or_false (nat_lt most_items (length joined)))
        ]

  pub extend_adds : Adds o (list.Extend m) values joined v
  extend_adds = record {
    changing = refl;
    grows = refl;
    cursor = refl;
    fits = tt;
    locks = named_locked o (Some m) v.log mine theirs;
    answered = extended;
    other = λ stored has. declared_at stored.world m (content.List others) (in_world m (list.Extend o) reply.Done others others v high theirs is_other stored has) (list_there m (list.Extend o) reply.Done others others v high theirs is_other stored has);
    caps = caps_so;
  }

-- what such a call takes, and what it leaves
module _ (o : ℕ) (lc : ListCall) (values news : List Value) (v : View) (low : o < container_count v.shape) (mine : has_lock o v.log ≡ true) (is_list : (known_state o v).content ≡ content.List values) (call_is : Adds o lc values news v) where
  abbrev wanted : Option ℕ
  wanted = list_takes (known_state o v).table (length news)

  abbrev passes : Bool
  passes = nat_lt most_items (length news)

  module _ (stored : StoredWorld) (has : MayHave v stored) where
    abbrev left : List Content
    left = after_write stored.world (call.List o lc)

    content_is : slice_index_or left o (content.List []) ≡ content.List news
    content_is = content_after o lc reply.Done values news v low mine is_list stored has (call_is.answered stored has)

    table_is : table_at stored.tables o ≡ (known_state o v).table
    table_is = ap (λ (z : ContainerState). z.table) (has.agrees o low mine)

    takes_wanted : takes_in stored (call.List o lc) ≡ wanted
    takes_wanted =
        ap (λ (z : TableChange). change_takes z (list_takes (table_at stored.tables o) (length (list_at left o))) None) call_is.grows
        ∙ (λ d. list_takes (table_is d) (length (list_of (content_is d))))

    leaves_grown : (takes : Option ℕ) → takes_in stored (call.List o lc) ≡ takes → table_at (after_stored stored (call.List o lc)).tables o ≡ grown_table (table_at stored.tables o) takes 0 0
    leaves_grown takes is =
        let T = table_at stored.tables o in
        ap (λ (z : TableChange). table_at (change_leaves stored.tables o z (grown_table T (takes_in stored (call.List o lc)) 0 0) no_table) o) call_is.grows
        ∙ (get_or-set_same stored.tables o (grown_table T (takes_in stored (call.List o lc)) 0 0) no_table (in_tables o lc reply.Done values news v low mine is_list stored has)
        ∙ ap (λ (z : Option ℕ). grown_table T z 0 0) is)

    -- with the table that it has
    stays_so : wanted ≡ None → table_at (after_stored stored (call.List o lc)).tables o ≡ table_at stored.tables o
    stays_so none =
        let T = table_at stored.tables o in
        let fill_is : T.fill + 0 ≡ T.fill = omega arith in
        leaves_grown None (takes_wanted ∙ none) ∙ (λ d. record { class = T.class; fill = fill_is d; keys = T.keys })

    lacks_so : is_raised (answer stored.world no_hands (call.List o lc)).reply ≡ false
    lacks_so = ap (λ (z : Given). is_raised z.reply) (answer_is o lc reply.Done values news v low mine is_list stored has (call_is.answered stored has))

    pub can_lack : CanLackMemory stored.world (call.List o lc)
    can_lack = record { adds = ap adds call_is.grows; raises_nothing = lacks_so }

    pub lacks_table : (class : ℕ) → passes ≡ false → wanted ≡ Some class → CanLackMemory stored.world (call.List o lc) × (would_pass stored.world (call.List o lc) ≡ false) × (takes_in stored (call.List o lc) ≡ Some class)
    lacks_table class few is = (can_lack, call_is.caps stored has ∙ few, takes_wanted ∙ is)

    pub passes_most : passes ≡ true → CanLackMemory stored.world (call.List o lc) × (would_pass stored.world (call.List o lc) ≡ true)
    passes_most more = (can_lack, call_is.caps stored has ∙ more)

  adds_write : passes ≡ false → IsListWrite o lc reply.Done values news v
  adds_write few = record {
    changing = call_is.changing;
    raises = refl;
    cursor = call_is.cursor;
    fits = call_is.fits;
    locks = call_is.locks;
    answered = call_is.answered;
    other = call_is.other;
    caps = λ stored has. call_is.caps stored has ∙ few;
  }

  pub adds_changes : passes ≡ false → wanted ≡ None → Changes o lc reply.Done values news v
  adds_changes few none = record { write = adds_write few; table = λ stored has. stays_so stored has none }

  pub adds_grows : (class : ℕ) → passes ≡ false → wanted ≡ Some class → Grows o lc values news class v
  adds_grows class few is = record {
    write = adds_write few;
    takes = λ stored has. takes_wanted stored has ∙ is;
    table = λ stored has. leaves_grown stored has (Some class) (takes_wanted stored has ∙ is);
  }
