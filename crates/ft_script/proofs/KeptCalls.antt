-- What the reading of calls keeps of a draft.
use Rattle.std.proofs.Common.{◌≡◌, ◌⊎◌, ℕ, ℤ, ◌<◌, ◌≤◌, true, List, [], ◌∷◌, length, Option, Some, None, refl, sym, ap, ◌∙◌, subst, inl, inr, arith}
use Rattle.std.specs.Prelude.{IfOk, IfSome}
use Rattle.ft_model.specs.declared.call.Call.{Call}
use Rattle.ft_model.specs.declared.call.Call.TheVariants as call
use Rattle.ft_model.specs.declared.call.DictCall.{DictCall}
use Rattle.ft_model.specs.declared.call.DictCall.TheVariants as dict
use Rattle.ft_model.specs.declared.call.ListCall.{ListCall}
use Rattle.ft_model.specs.declared.call.ListCall.TheVariants as list
use Rattle.ft_model.specs.declared.call.SetCall.{SetCall}
use Rattle.ft_model.specs.declared.call.SetCall.TheVariants as set
use Rattle.ft_model.specs.declared.script.Kind.{Kind}
use Rattle.ft_model.specs.declared.script.Kind.TheVariants as kind
use Rattle.ft_model.specs.Landed.{is_landed_call}
use Rattle.ft_model.specs.Scripts.{IsDeclaredAs, AreNamesOf, NamesOf, AreStringsOf, cursor_of}
use Rattle.ft_script.specs.declared.call_words.CallWord.{CallWord}
use Rattle.ft_script.specs.declared.call_words.CallWord.TheVariants.{Next, Begin, End, Quiesce, Await, On}
use Rattle.ft_script.specs.declared.call_words.Operation.{Operation}
use Rattle.ft_script.specs.declared.call_words.Operation.TheVariants as of
use Rattle.ft_script.specs.Drafts.{Draft}
use Rattle.ft_script.specs.Arguments.{kind_at, read_container, just_nothing, just_key, just_key_and_value, just_value, just_index, just_some_index, just_two_indices, just_index_and_value, just_other, just_made_cursor, just_cursor, just_section, just_awaited}
use Rattle.ft_script.specs.ScriptTexts.{AreNumbered, call_makes, call_mentions, key_mentions, number_listed, value_mentions}
use Rattle.ft_script.specs.Transcripts.{IsWideCall}
use Rattle.ft_script.specs.LineWords.{is_wide}
use Rattle.ft_script.specs.ScriptLines.{dict_call, list_call, set_call, call_at, container_call, read_call}
use Rattle.ft_script.proofs.KeptAwaits.{IsNamed, just_awaited_keeps}
use Rattle.ft_script.proofs.Numbering.{and_none, both_and_none}
use Rattle.ft_script.proofs.Kept.{bind_holds, cond_holds, anything, IsTable, StringsRead, no_strings, Keyed, Valued, KeyedAndValued, Indexed, InSection, IsCursors, CursorRead, Made, AreGoodWords, container_keeps, key_in_keeps, key_and_value_in_keeps, value_in_keeps, index_and_value_in_keeps, other_in_keeps, made_cursor_in_keeps, cursor_in_keeps, section_in_keeps, index_in_keeps, some_index_in_keeps, two_indices_in_keeps}

-- a call was read, and the draft after it may have further strings and a cursor that the call makes
pub record CallRead (d e : Draft) (called : Call) : Type 0 where
  pub strings : List (List ℕ)
  pub cursors : List (List ℕ)
  pub is : e ≡ record d { strings = strings; cursors = cursors }
  pub table : IsTable strings
  pub more : length d.strings ≤ length strings
  pub are : IsCursors cursors
  pub further : length d.cursors ≤ length cursors
  pub fresh : (k : ℕ) → k < length cursors → (k < length d.cursors) ⊎ (cursor_of called ≡ Some k)
  pub names : NamesOf d.containers (length cursors) called
  pub said : AreStringsOf (length strings) called
  pub wide : IsWideCall called
  pub landed : is_landed_call called ≡ true
  pub mentioned : AreNumbered (length d.strings) (call_mentions called) (length strings)
  pub makes : AreNumbered (length d.cursors) (call_makes called) (length cursors)

by_strings : (d e : Draft) (called : Call) → is_landed_call called ≡ true → (read : StringsRead d e) → IsCursors d.cursors → NamesOf d.containers (length d.cursors) called → AreStringsOf (length read.to) called → IsWideCall called → AreNumbered (length d.strings) (call_mentions called) (length read.to) → AreNumbered (length d.cursors) (call_makes called) (length d.cursors) → CallRead d e called
by_strings d e called landed read are names said wide mentioned makes =
    record { strings = read.to; cursors = d.cursors; is = read.is; table = read.table; more = read.more; are = are; further = omega arith; fresh = λ k h. inl h; names = names; said = said; wide = wide; landed = landed; mentioned = mentioned; makes = makes }

by_cursor : (d e : Draft) (called : Call) → is_landed_call called ≡ true → (number : ℕ) (read : CursorRead d e number) → IsTable d.strings → cursor_of called ≡ Some number → NamesOf d.containers (length read.to) called → AreStringsOf (length d.strings) called → IsWideCall called → AreNumbered (length d.strings) (call_mentions called) (length d.strings) → CallRead d e called
by_cursor d e called landed number read table made names said wide mentioned =
    record {
      strings = d.strings;
      cursors = read.to;
      is = read.is;
      table = table;
      more = omega arith;
      are = read.cursors;
      further = read.more;
      fresh = λ k h. elim (read.fresh k h) [ inl low ↦ inl low | inr same ↦ inr (made ∙ ap (λ (n : ℕ). Some n) (sym same)) ];
      names = names;
      said = said;
      wide = wide;
      landed = landed;
      mentioned = mentioned;
      makes = subst (λ (o : Option ℕ). AreNumbered (length d.cursors) (number_listed o) (length read.to)) (sym made) read.numbered;
    }

plain_names : (d : Draft) (n : ℕ) (kind : Kind) (place : ℕ) → IsDeclaredAs d.containers kind place → AreNamesOf d.containers n kind place None None
plain_names d n kind place declared = record { container = declared; second = tt; made = tt }

-- `pop` has an index or none, and a section has one container or two
pop_wide : (place : ℕ) (index : Option ℤ) → IfSome index (λ n. is_wide n ≡ true) → IsWideCall (call.List place (list.Pop index))
pop_wide place None h = (tt, tt)
pop_wide place (Some n) h = (tt, (h, tt))

pop_mentions : (known place : ℕ) (index : Option ℤ) → AreNumbered known (call_mentions (call.List place (list.Pop index))) known
pop_mentions known place None = refl
pop_mentions known place (Some n) = refl

begin_mentions : (known first : ℕ) (second : Option ℕ) → AreNumbered known (call_mentions (call.Begin first second)) known
begin_mentions known first None = refl
begin_mentions known first (Some other) = refl

begin_wide : (first : ℕ) (second : Option ℕ) → IsWideCall (call.Begin first second)
begin_wide first None = (tt, tt)
begin_wide first (Some other) = (tt, (tt, tt))

abbrev DictRead : Draft → ℕ → DictCall × Draft → Type 0
DictRead d place p = CallRead d p.1 (call.Dict place p.0)

dict_keeps : (d : Draft) (place : ℕ) (operation : Operation) (words : List (List ℕ)) → IsTable d.strings → IsCursors d.cursors → AreGoodWords words → IsDeclaredAs d.containers kind.Dict place → IfOk (dict_call d operation words) (DictRead d place)
unfolding dict_call
dict_keeps d place of.Get words table are good declared = bind_holds (just_key d words) _ (Keyed d) (DictRead d place) (key_in_keeps d words table good) (λ read h. by_strings d read.1 (call.Dict place (dict.Get read.0)) refl h.0 are (plain_names d (length d.cursors) kind.Dict place declared) h.1 (tt, (h.2, tt)) (and_none _ _ (key_mentions read.0) h.3) refl)
dict_keeps d place of.GetOr words table are good declared = bind_holds (just_key_and_value d words) _ (KeyedAndValued d) (DictRead d place) (key_and_value_in_keeps d words table good) (λ read h. by_strings d read.1 (call.Dict place (dict.GetOr read.0.0 read.0.1)) refl h.0 are (plain_names d (length d.cursors) kind.Dict place declared) (h.1, h.2) (tt, (h.3, (h.4, tt))) (both_and_none _ _ (key_mentions read.0.0) (value_mentions read.0.1) h.5) refl)
dict_keeps d place of.Set words table are good declared = bind_holds (just_key_and_value d words) _ (KeyedAndValued d) (DictRead d place) (key_and_value_in_keeps d words table good) (λ read h. by_strings d read.1 (call.Dict place (dict.Set read.0.0 read.0.1)) refl h.0 are (plain_names d (length d.cursors) kind.Dict place declared) (h.1, h.2) (tt, (h.3, (h.4, tt))) (both_and_none _ _ (key_mentions read.0.0) (value_mentions read.0.1) h.5) refl)
dict_keeps d place of.Del words table are good declared = bind_holds (just_key d words) _ (Keyed d) (DictRead d place) (key_in_keeps d words table good) (λ read h. by_strings d read.1 (call.Dict place (dict.Del read.0)) refl h.0 are (plain_names d (length d.cursors) kind.Dict place declared) h.1 (tt, (h.2, tt)) (and_none _ _ (key_mentions read.0) h.3) refl)
dict_keeps d place of.Pop words table are good declared = bind_holds (just_key d words) _ (Keyed d) (DictRead d place) (key_in_keeps d words table good) (λ read h. by_strings d read.1 (call.Dict place (dict.Pop read.0)) refl h.0 are (plain_names d (length d.cursors) kind.Dict place declared) h.1 (tt, (h.2, tt)) (and_none _ _ (key_mentions read.0) h.3) refl)
dict_keeps d place of.PopOr words table are good declared = bind_holds (just_key_and_value d words) _ (KeyedAndValued d) (DictRead d place) (key_and_value_in_keeps d words table good) (λ read h. by_strings d read.1 (call.Dict place (dict.PopOr read.0.0 read.0.1)) refl h.0 are (plain_names d (length d.cursors) kind.Dict place declared) (h.1, h.2) (tt, (h.3, (h.4, tt))) (both_and_none _ _ (key_mentions read.0.0) (value_mentions read.0.1) h.5) refl)
dict_keeps d place of.PopItem words table are good declared = bind_holds (just_nothing words) _ (λ _. Unit {0}) (DictRead d place) (anything (just_nothing words)) (λ read h. by_strings d d (call.Dict place dict.PopItem) refl (no_strings d table) are (plain_names d (length d.cursors) kind.Dict place declared) tt (tt, tt) refl refl)
dict_keeps d place of.SetDefault words table are good declared = bind_holds (just_key_and_value d words) _ (KeyedAndValued d) (DictRead d place) (key_and_value_in_keeps d words table good) (λ read h. by_strings d read.1 (call.Dict place (dict.SetDefault read.0.0 read.0.1)) refl h.0 are (plain_names d (length d.cursors) kind.Dict place declared) (h.1, h.2) (tt, (h.3, (h.4, tt))) (both_and_none _ _ (key_mentions read.0.0) (value_mentions read.0.1) h.5) refl)
dict_keeps d place of.Has words table are good declared = bind_holds (just_key d words) _ (Keyed d) (DictRead d place) (key_in_keeps d words table good) (λ read h. by_strings d read.1 (call.Dict place (dict.Has read.0)) refl h.0 are (plain_names d (length d.cursors) kind.Dict place declared) h.1 (tt, (h.2, tt)) (and_none _ _ (key_mentions read.0) h.3) refl)
dict_keeps d place of.Len words table are good declared = bind_holds (just_nothing words) _ (λ _. Unit {0}) (DictRead d place) (anything (just_nothing words)) (λ read h. by_strings d d (call.Dict place dict.Len) refl (no_strings d table) are (plain_names d (length d.cursors) kind.Dict place declared) tt (tt, tt) refl refl)
dict_keeps d place of.Items words table are good declared = bind_holds (just_nothing words) _ (λ _. Unit {0}) (DictRead d place) (anything (just_nothing words)) (λ read h. by_strings d d (call.Dict place dict.Items) refl (no_strings d table) are (plain_names d (length d.cursors) kind.Dict place declared) tt (tt, tt) refl refl)
dict_keeps d place of.Update words table are good declared = bind_holds (just_other d kind.Dict words) _ (IsDeclaredAs d.containers kind.Dict) (DictRead d place) (other_in_keeps d kind.Dict words) (λ other h. by_strings d d (call.Dict place (dict.Update other)) refl (no_strings d table) are (record { container = declared; second = h; made = tt }) tt (tt, (tt, tt)) refl refl)
dict_keeps d place of.Clear words table are good declared = bind_holds (just_nothing words) _ (λ _. Unit {0}) (DictRead d place) (anything (just_nothing words)) (λ read h. by_strings d d (call.Dict place dict.Clear) refl (no_strings d table) are (plain_names d (length d.cursors) kind.Dict place declared) tt (tt, tt) refl refl)
dict_keeps d place of.CopyTo words table are good declared = bind_holds (just_other d kind.Dict words) _ (IsDeclaredAs d.containers kind.Dict) (DictRead d place) (other_in_keeps d kind.Dict words) (λ other h. by_strings d d (call.Dict place (dict.CopyTo other)) refl (no_strings d table) are (record { container = declared; second = h; made = tt }) tt (tt, (tt, tt)) refl refl)
dict_keeps d place of.Eq words table are good declared = bind_holds (just_other d kind.Dict words) _ (IsDeclaredAs d.containers kind.Dict) (DictRead d place) (other_in_keeps d kind.Dict words) (λ other h. by_strings d d (call.Dict place (dict.Eq other)) refl (no_strings d table) are (record { container = declared; second = h; made = tt }) tt (tt, (tt, tt)) refl refl)
dict_keeps d place of.Iter words table are good declared = bind_holds (just_made_cursor d words) _ (Made d) (DictRead d place) (made_cursor_in_keeps d words are) (λ read h. by_cursor d read.1 (call.Dict place (dict.Iter read.0)) refl read.0 h table refl (record { container = declared; second = tt; made = h.within }) tt (tt, (tt, tt)) refl)
dict_keeps d place other words table are good declared = tt

abbrev ListRead : Draft → ℕ → ListCall × Draft → Type 0
ListRead d place p = CallRead d p.1 (call.List place p.0)

list_keeps : (d : Draft) (place : ℕ) (operation : Operation) (words : List (List ℕ)) → IsTable d.strings → IsCursors d.cursors → AreGoodWords words → IsDeclaredAs d.containers kind.List place → IfOk (list_call d operation words) (ListRead d place)
unfolding list_call
list_keeps d place of.Append words table are good declared = bind_holds (just_value d words) _ (Valued d) (ListRead d place) (value_in_keeps d words table good) (λ read h. by_strings d read.1 (call.List place (list.Append read.0)) refl h.0 are (plain_names d (length d.cursors) kind.List place declared) h.1 (tt, (h.2, tt)) (and_none _ _ (value_mentions read.0) h.3) refl)
list_keeps d place of.Insert words table are good declared = bind_holds (just_index_and_value d words) _ (Indexed d) (ListRead d place) (index_and_value_in_keeps d words table good) (λ read h. by_strings d read.1 (call.List place (list.Insert read.0.0 read.0.1)) refl h.0 are (plain_names d (length d.cursors) kind.List place declared) h.1 (tt, (h.2, (h.3, tt))) (and_none _ _ (value_mentions read.0.1) h.4) refl)
list_keeps d place of.Get words table are good declared = bind_holds (just_index words) _ (λ n. is_wide n ≡ true) (ListRead d place) (index_in_keeps words) (λ n h. by_strings d d (call.List place (list.Get n)) refl (no_strings d table) are (plain_names d (length d.cursors) kind.List place declared) tt (tt, (h, tt)) refl refl)
list_keeps d place of.Set words table are good declared = bind_holds (just_index_and_value d words) _ (Indexed d) (ListRead d place) (index_and_value_in_keeps d words table good) (λ read h. by_strings d read.1 (call.List place (list.Set read.0.0 read.0.1)) refl h.0 are (plain_names d (length d.cursors) kind.List place declared) h.1 (tt, (h.2, (h.3, tt))) (and_none _ _ (value_mentions read.0.1) h.4) refl)
list_keeps d place of.Del words table are good declared = bind_holds (just_index words) _ (λ n. is_wide n ≡ true) (ListRead d place) (index_in_keeps words) (λ n h. by_strings d d (call.List place (list.Del n)) refl (no_strings d table) are (plain_names d (length d.cursors) kind.List place declared) tt (tt, (h, tt)) refl refl)
list_keeps d place of.Pop words table are good declared = bind_holds (just_some_index words) _ (λ index. IfSome index (λ n. is_wide n ≡ true)) (ListRead d place) (some_index_in_keeps words) (λ n h. by_strings d d (call.List place (list.Pop n)) refl (no_strings d table) are (plain_names d (length d.cursors) kind.List place declared) tt (pop_wide place n h) (pop_mentions (length d.strings) place n) refl)
list_keeps d place of.Remove words table are good declared = bind_holds (just_value d words) _ (Valued d) (ListRead d place) (value_in_keeps d words table good) (λ read h. by_strings d read.1 (call.List place (list.Remove read.0)) refl h.0 are (plain_names d (length d.cursors) kind.List place declared) h.1 (tt, (h.2, tt)) (and_none _ _ (value_mentions read.0) h.3) refl)
list_keeps d place of.Index words table are good declared = bind_holds (just_value d words) _ (Valued d) (ListRead d place) (value_in_keeps d words table good) (λ read h. by_strings d read.1 (call.List place (list.Index read.0)) refl h.0 are (plain_names d (length d.cursors) kind.List place declared) h.1 (tt, (h.2, tt)) (and_none _ _ (value_mentions read.0) h.3) refl)
list_keeps d place of.Count words table are good declared = bind_holds (just_value d words) _ (Valued d) (ListRead d place) (value_in_keeps d words table good) (λ read h. by_strings d read.1 (call.List place (list.Count read.0)) refl h.0 are (plain_names d (length d.cursors) kind.List place declared) h.1 (tt, (h.2, tt)) (and_none _ _ (value_mentions read.0) h.3) refl)
list_keeps d place of.Has words table are good declared = bind_holds (just_value d words) _ (Valued d) (ListRead d place) (value_in_keeps d words table good) (λ read h. by_strings d read.1 (call.List place (list.Has read.0)) refl h.0 are (plain_names d (length d.cursors) kind.List place declared) h.1 (tt, (h.2, tt)) (and_none _ _ (value_mentions read.0) h.3) refl)
list_keeps d place of.Reverse words table are good declared = bind_holds (just_nothing words) _ (λ _. Unit {0}) (ListRead d place) (anything (just_nothing words)) (λ read h. by_strings d d (call.List place list.Reverse) refl (no_strings d table) are (plain_names d (length d.cursors) kind.List place declared) tt (tt, tt) refl refl)
list_keeps d place of.Extend words table are good declared = bind_holds (just_other d kind.List words) _ (IsDeclaredAs d.containers kind.List) (ListRead d place) (other_in_keeps d kind.List words) (λ other h. by_strings d d (call.List place (list.Extend other)) refl (no_strings d table) are (record { container = declared; second = h; made = tt }) tt (tt, (tt, tt)) refl refl)
list_keeps d place of.Slice words table are good declared = bind_holds (just_two_indices words) _ (λ ends. (is_wide ends.0 ≡ true) × (is_wide ends.1 ≡ true)) (ListRead d place) (two_indices_in_keeps words) (λ n h. by_strings d d (call.List place (list.Slice n.0 n.1)) refl (no_strings d table) are (plain_names d (length d.cursors) kind.List place declared) tt (tt, (h.0, (h.1, tt))) refl refl)
list_keeps d place of.Clear words table are good declared = bind_holds (just_nothing words) _ (λ _. Unit {0}) (ListRead d place) (anything (just_nothing words)) (λ read h. by_strings d d (call.List place list.Clear) refl (no_strings d table) are (plain_names d (length d.cursors) kind.List place declared) tt (tt, tt) refl refl)
list_keeps d place of.Len words table are good declared = bind_holds (just_nothing words) _ (λ _. Unit {0}) (ListRead d place) (anything (just_nothing words)) (λ read h. by_strings d d (call.List place list.Len) refl (no_strings d table) are (plain_names d (length d.cursors) kind.List place declared) tt (tt, tt) refl refl)
list_keeps d place of.Items words table are good declared = bind_holds (just_nothing words) _ (λ _. Unit {0}) (ListRead d place) (anything (just_nothing words)) (λ read h. by_strings d d (call.List place list.Items) refl (no_strings d table) are (plain_names d (length d.cursors) kind.List place declared) tt (tt, tt) refl refl)
list_keeps d place of.Eq words table are good declared = bind_holds (just_other d kind.List words) _ (IsDeclaredAs d.containers kind.List) (ListRead d place) (other_in_keeps d kind.List words) (λ other h. by_strings d d (call.List place (list.Eq other)) refl (no_strings d table) are (record { container = declared; second = h; made = tt }) tt (tt, (tt, tt)) refl refl)
list_keeps d place of.Iter words table are good declared = bind_holds (just_made_cursor d words) _ (Made d) (ListRead d place) (made_cursor_in_keeps d words are) (λ read h. by_cursor d read.1 (call.List place (list.Iter read.0)) refl read.0 h table refl (record { container = declared; second = tt; made = h.within }) tt (tt, (tt, tt)) refl)
list_keeps d place other words table are good declared = tt

abbrev SetRead : Draft → ℕ → SetCall × Draft → Type 0
SetRead d place p = CallRead d p.1 (call.Set place p.0)

set_keeps : (d : Draft) (place : ℕ) (operation : Operation) (words : List (List ℕ)) → IsTable d.strings → IsCursors d.cursors → AreGoodWords words → IsDeclaredAs d.containers kind.Set place → IfOk (set_call d operation words) (SetRead d place)
unfolding set_call
set_keeps d place of.Add words table are good declared = bind_holds (just_key d words) _ (Keyed d) (SetRead d place) (key_in_keeps d words table good) (λ read h. by_strings d read.1 (call.Set place (set.Add read.0)) refl h.0 are (plain_names d (length d.cursors) kind.Set place declared) h.1 (tt, (h.2, tt)) (and_none _ _ (key_mentions read.0) h.3) refl)
set_keeps d place of.Discard words table are good declared = bind_holds (just_key d words) _ (Keyed d) (SetRead d place) (key_in_keeps d words table good) (λ read h. by_strings d read.1 (call.Set place (set.Discard read.0)) refl h.0 are (plain_names d (length d.cursors) kind.Set place declared) h.1 (tt, (h.2, tt)) (and_none _ _ (key_mentions read.0) h.3) refl)
set_keeps d place of.Remove words table are good declared = bind_holds (just_key d words) _ (Keyed d) (SetRead d place) (key_in_keeps d words table good) (λ read h. by_strings d read.1 (call.Set place (set.Remove read.0)) refl h.0 are (plain_names d (length d.cursors) kind.Set place declared) h.1 (tt, (h.2, tt)) (and_none _ _ (key_mentions read.0) h.3) refl)
set_keeps d place of.Pop words table are good declared = bind_holds (just_nothing words) _ (λ _. Unit {0}) (SetRead d place) (anything (just_nothing words)) (λ read h. by_strings d d (call.Set place set.Pop) refl (no_strings d table) are (plain_names d (length d.cursors) kind.Set place declared) tt (tt, tt) refl refl)
set_keeps d place of.Has words table are good declared = bind_holds (just_key d words) _ (Keyed d) (SetRead d place) (key_in_keeps d words table good) (λ read h. by_strings d read.1 (call.Set place (set.Has read.0)) refl h.0 are (plain_names d (length d.cursors) kind.Set place declared) h.1 (tt, (h.2, tt)) (and_none _ _ (key_mentions read.0) h.3) refl)
set_keeps d place of.Len words table are good declared = bind_holds (just_nothing words) _ (λ _. Unit {0}) (SetRead d place) (anything (just_nothing words)) (λ read h. by_strings d d (call.Set place set.Len) refl (no_strings d table) are (plain_names d (length d.cursors) kind.Set place declared) tt (tt, tt) refl refl)
set_keeps d place of.Items words table are good declared = bind_holds (just_nothing words) _ (λ _. Unit {0}) (SetRead d place) (anything (just_nothing words)) (λ read h. by_strings d d (call.Set place set.Items) refl (no_strings d table) are (plain_names d (length d.cursors) kind.Set place declared) tt (tt, tt) refl refl)
set_keeps d place of.Eq words table are good declared = bind_holds (just_other d kind.Set words) _ (IsDeclaredAs d.containers kind.Set) (SetRead d place) (other_in_keeps d kind.Set words) (λ other h. by_strings d d (call.Set place (set.Eq other)) refl (no_strings d table) are (record { container = declared; second = h; made = tt }) tt (tt, (tt, tt)) refl refl)
set_keeps d place of.Or words table are good declared = bind_holds (just_other d kind.Set words) _ (IsDeclaredAs d.containers kind.Set) (SetRead d place) (other_in_keeps d kind.Set words) (λ other h. by_strings d d (call.Set place (set.Or other)) refl (no_strings d table) are (record { container = declared; second = h; made = tt }) tt (tt, (tt, tt)) refl refl)
set_keeps d place of.And words table are good declared = bind_holds (just_other d kind.Set words) _ (IsDeclaredAs d.containers kind.Set) (SetRead d place) (other_in_keeps d kind.Set words) (λ other h. by_strings d d (call.Set place (set.And other)) refl (no_strings d table) are (record { container = declared; second = h; made = tt }) tt (tt, (tt, tt)) refl refl)
set_keeps d place of.Sub words table are good declared = bind_holds (just_other d kind.Set words) _ (IsDeclaredAs d.containers kind.Set) (SetRead d place) (other_in_keeps d kind.Set words) (λ other h. by_strings d d (call.Set place (set.Sub other)) refl (no_strings d table) are (record { container = declared; second = h; made = tt }) tt (tt, (tt, tt)) refl refl)
set_keeps d place of.Xor words table are good declared = bind_holds (just_other d kind.Set words) _ (IsDeclaredAs d.containers kind.Set) (SetRead d place) (other_in_keeps d kind.Set words) (λ other h. by_strings d d (call.Set place (set.Xor other)) refl (no_strings d table) are (record { container = declared; second = h; made = tt }) tt (tt, (tt, tt)) refl refl)
set_keeps d place of.Subset words table are good declared = bind_holds (just_other d kind.Set words) _ (IsDeclaredAs d.containers kind.Set) (SetRead d place) (other_in_keeps d kind.Set words) (λ other h. by_strings d d (call.Set place (set.Subset other)) refl (no_strings d table) are (record { container = declared; second = h; made = tt }) tt (tt, (tt, tt)) refl refl)
set_keeps d place of.Disjoint words table are good declared = bind_holds (just_other d kind.Set words) _ (IsDeclaredAs d.containers kind.Set) (SetRead d place) (other_in_keeps d kind.Set words) (λ other h. by_strings d d (call.Set place (set.Disjoint other)) refl (no_strings d table) are (record { container = declared; second = h; made = tt }) tt (tt, (tt, tt)) refl refl)
set_keeps d place of.Clear words table are good declared = bind_holds (just_nothing words) _ (λ _. Unit {0}) (SetRead d place) (anything (just_nothing words)) (λ read h. by_strings d d (call.Set place set.Clear) refl (no_strings d table) are (plain_names d (length d.cursors) kind.Set place declared) tt (tt, tt) refl refl)
set_keeps d place of.Iter words table are good declared = bind_holds (just_made_cursor d words) _ (Made d) (SetRead d place) (made_cursor_in_keeps d words are) (λ read h. by_cursor d read.1 (call.Set place (set.Iter read.0)) refl read.0 h table refl (record { container = declared; second = tt; made = h.within }) tt (tt, (tt, tt)) refl)
set_keeps d place other words table are good declared = tt

abbrev pub Called : Draft → Call × Draft → Type 0
Called d p = CallRead d p.1 p.0

call_at_keeps : (d : Draft) (place : ℕ) (operation : Operation) (words : List (List ℕ)) (found : Option Kind) → IsTable d.strings → IsCursors d.cursors → AreGoodWords words → kind_at d place ≡ found → IfOk (call_at d place operation words found) (Called d)
unfolding call_at
call_at_keeps d place operation words None table are good is = tt
call_at_keeps d place operation words (Some kind.Dict) table are good is = bind_holds (dict_call d operation words) _ (DictRead d place) (Called d) (dict_keeps d place operation words table are good is) (λ read h. h)
call_at_keeps d place operation words (Some kind.List) table are good is = bind_holds (list_call d operation words) _ (ListRead d place) (Called d) (list_keeps d place operation words table are good is) (λ read h. h)
call_at_keeps d place operation words (Some kind.Set) table are good is = bind_holds (set_call d operation words) _ (SetRead d place) (Called d) (set_keeps d place operation words table are good is) (λ read h. h)
call_at_keeps d place operation words (Some (kind.Deque bound)) table are good is = tt

container_call_keeps : (d : Draft) (operation : Operation) (words : List (List ℕ)) → IsTable d.strings → IsCursors d.cursors → AreGoodWords words → IfOk (container_call d operation words) (Called d)
unfolding container_call
container_call_keeps d operation [] table are good = tt
container_call_keeps d operation (name ∷ words) table are good =
    bind_holds (read_container d name) _ (λ place. place < length d.containers) (Called d) (container_keeps d name) (λ place low. call_at_keeps d place operation words (kind_at d place) table are good.1 refl)

pub call_keeps : (d : Draft) (word : CallWord) (words : List (List ℕ)) → IsTable d.strings → IsCursors d.cursors → AreGoodWords words → IfOk (read_call d word words) (Called d)
unfolding read_call
call_keeps d Next words table are good = bind_holds (just_cursor d words) _ (λ number. number < length d.cursors) (Called d) (cursor_in_keeps d words) (λ number low. by_strings d d (call.Next number) refl (no_strings d table) are low tt (tt, tt) refl refl)
call_keeps d Begin words table are good = bind_holds (just_section d words) _ (InSection d) (Called d) (section_in_keeps d words) (λ both h. by_strings d d (call.Begin both.0 both.1) refl (no_strings d table) are h tt (begin_wide both.0 both.1) (begin_mentions (length d.strings) both.0 both.1) refl)
call_keeps d End words table are good = bind_holds (just_nothing words) _ (λ _. Unit {0}) (Called d) (anything (just_nothing words)) (λ read h. by_strings d d call.End refl (no_strings d table) are tt tt tt refl refl)
call_keeps d Quiesce words table are good = bind_holds (just_nothing words) _ (λ _. Unit {0}) (Called d) (anything (just_nothing words)) (λ read h. by_strings d d call.Quiesce refl (no_strings d table) are tt tt tt refl refl)
call_keeps d Await words table are good =
    cond_holds d.awaits _ _ (Called d) (λ _. bind_holds (just_awaited d words) _ (IsNamed d) (Called d) (just_awaited_keeps d words) (λ named h. by_strings d d (call.Await named.0 named.1) refl (no_strings d table) are tt tt (h.2, tt) refl refl)) (λ _. tt)
call_keeps d (On operation) words table are good = container_call_keeps d operation words table are good
