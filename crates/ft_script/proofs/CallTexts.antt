-- Calls that are printed, and read back.
use Rattle.std.proofs.Common.{◌≡◌, ◌≢◌, ◌⊎◌, cond, ℕ, ℤ, zero, suc, ◌+◌, ◌<◌, ◌≤◌, Bool, true, false, not, List, [], ◌∷◌, ◌++◌, length, map, get_or, take, Option, Some, None, Result, Ok, refl, sym, ap, ◌∙◌, subst, inl, inr, arith}
use Rattle.std.specs.Prelude.{All, AllPairs, IfSome, codes, slice_index_or}
use Rattle.std.specs.List.{AllByRecursion, flat_map}
use Rattle.std.specs.Fmt.{signed_decimal}
use Rattle.std.specs.Option.{option_map_or}
use Rattle.std.specs.Str.{bytes_eq}
use Rattle.std.proofs.lemmas.Bool.{cases_lt, false≢true, ne_eqb, le-ltb, lt-ltb}
use Rattle.std.proofs.lemmas.List.{append-nil, get_or-take, length-take, take_all, take_more}
use Rattle.std.proofs.lemmas.Option.{slice_get-get_or, slice_get_past}
use Rattle.ft_model.specs.declared.data.Key.{Key}
use Rattle.ft_model.specs.declared.data.Key.TheVariants as key
use Rattle.ft_model.specs.declared.data.Value.{Value}
use Rattle.ft_model.specs.declared.data.Value.TheVariants as value
use Rattle.ft_model.specs.declared.call.Call.{Call}
use Rattle.ft_model.specs.declared.call.Call.TheVariants as call
use Rattle.ft_model.specs.declared.call.DictCall.{DictCall}
use Rattle.ft_model.specs.declared.call.DictCall.TheVariants as dict
use Rattle.ft_model.specs.declared.call.ListCall.{ListCall}
use Rattle.ft_model.specs.declared.call.ListCall.TheVariants as list
use Rattle.ft_model.specs.declared.call.SetCall.{SetCall}
use Rattle.ft_model.specs.declared.call.SetCall.TheVariants as set
use Rattle.ft_model.specs.declared.call.DequeCall.TheVariants as deque
use Rattle.ft_model.specs.declared.script.Declaration.{Declaration}
use Rattle.ft_model.specs.declared.script.Kind.{Kind}
use Rattle.ft_model.specs.declared.script.Kind.TheVariants as kind
use Rattle.ft_model.specs.declared.script.ScriptParts.{ScriptParts}
use Rattle.ft_model.specs.declared.script.Thread.{Thread}
use Rattle.ft_model.specs.Histories.{cursors_of}
use Rattle.ft_model.specs.Calls.{cursor_of_dict, cursor_of_list, cursor_of_set, cursor_of_deque}
use Rattle.ft_model.specs.Names.{is_container_name, is_thread_name, IsString}
use Rattle.ft_model.specs.Landed.{is_landed_call}
use Rattle.ft_model.specs.Scripts.{IsKeyOf, IsValueOf, kind_at, IsDeclaredAs, IsCallOf}
use Rattle.ft_model.specs.Keys.{as_value}
use Rattle.ft_script.specs.declared.call_words.CallWord.{CallWord}
use Rattle.ft_script.specs.declared.call_words.CallWord.TheVariants.{Next, Begin, End, Quiesce, Await, On}
use Rattle.ft_script.specs.declared.call_words.Operation.{Operation}
use Rattle.ft_script.specs.declared.call_words.Operation.TheVariants as of
use Rattle.ft_script.specs.Drafts.{Draft}
use Rattle.ft_script.specs.declared.fault.Fault.{Fault}
use Rattle.ft_script.specs.declared.forms.Argument.{Argument}
use Rattle.ft_script.specs.declared.forms.Argument.TheVariants as argument
use Rattle.ft_script.specs.Awaits.{MayAwait, has_awaits}
use Rattle.ft_script.specs.Arguments.{read_symbol, read_index, read_key, read_value, read_container, same_kind, read_other, read_cursor, read_made_cursor, just_nothing, just_key, read_key_and_value, just_key_and_value, just_value, just_index, just_some_index, read_two_indices, just_two_indices, read_index_and_value, just_index_and_value, just_other, just_made_cursor, just_cursor, read_two_containers, just_section, just_awaited, read_awaited}
use Rattle.ft_script.specs.CallWords.{call_word_of, call_word_text, operation_text}
use Rattle.ft_script.specs.Drafts.{◌>>=◌, container_place, draft_at, draft_with_all, text_place, thread_place}
use Rattle.ft_script.specs.Forms.{IsArgumentOf, call_form}
use Rattle.ft_script.specs.ScriptLines.{dict_call, list_call, set_call, call_at, container_call, read_call, just_call}
use Rattle.ft_script.specs.ScriptTexts.{AreNumbered, argument_mentions, call_makes, call_mentions, key_mentions, number_listed, value_mentions}
use Rattle.ft_script.specs.Texts.{quoted, key_text, value_text, container_name, cursor_name, argument_text, call_place, call_words, thread_name}
use Rattle.ft_script.specs.Transcripts.{IsWideKey, IsWideValue, IsWideArgument, IsWideCall}
use Rattle.ft_script.specs.LineWords.{is_wide, is_string, text_of}
use Rattle.ft_script.proofs.Numbering.{alone, numbered_split}
use Rattle.ft_script.proofs.LineTexts.{IsLineWord, container_plain, plain_word, quoted_word, signed_plain}
use Rattle.ft_script.proofs.PartTexts.{BeginsLow, BeginsShown, container_word, signed_word, index_signed, bytes_same, bytes_differ, position_at, text_place_at, numbers_are_no_strings, numbers_are_not_none, text_missing, key_is_cut, value_is_cut, key_begins, value_begins}
use Rattle.ft_script.proofs.PlaceTexts.{awaited_back, named_place, place_is}
use Rattle.ft_script.proofs.TokenTexts.{IsCut, word_is_cut, text_of_quoted}

-- the cursors of the thread at a place
abbrev pub cursors_at : ScriptParts → ℕ → List (List ℕ)
cursors_at script thread = (draft_at script thread).cursors

-- what a script's declarations say of a thread's calls
pub record Declares (script : ScriptParts) (thread : ℕ) : Type 0 where
  pub strings_differ : AllPairs (λ a b. a ≢ b) script.strings
  pub strings_are : All IsString script.strings
  pub strings_few : length script.strings ≤ 65536
  pub names_are : All (λ container. is_container_name container.name ≡ true) script.containers
  pub names_differ : AllPairs (λ a b. a.name ≢ b.name) script.containers
  pub cursors_differ : AllPairs (λ a b. a ≢ b) (cursors_at script thread)
  pub cursors_few : length (cursors_at script thread) ≤ 256
  pub cursors_counted : length (cursors_at script thread) ≡ cursors_of script thread
  pub cursor_is : (number : ℕ) → cursor_name script thread number ≡ slice_index_or (cursors_at script thread) number []
  pub cursor_form : (number : ℕ) → number < cursors_of script thread → is_container_name (cursor_name script thread number) ≡ true
  pub thread_form : (other : ℕ) → other < length script.threads → is_thread_name (thread_name script other) ≡ true
  pub thread_is : (other : ℕ) → other < length script.threads → thread_place script.threads (thread_name script other) ≡ Some other

kind_low : (containers : List Declaration) (of_kind : Kind) (place : ℕ) → kind_at containers place ≡ Some of_kind → place < length containers
kind_low [] of_kind place h = absurd cc
kind_low (c ∷ containers) of_kind zero h = omega arith
kind_low (c ∷ containers) of_kind (suc place) h = let low : place < length containers = kind_low containers of_kind place h in omega arith

declared_low : (containers : List Declaration) (of_kind : Kind) (place : ℕ) → IsDeclaredAs containers of_kind place → place < length containers
declared_low containers kind.Dict place h = kind_low containers kind.Dict place h
declared_low containers kind.List place h = kind_low containers kind.List place h
declared_low containers kind.Set place h = kind_low containers kind.Set place h
declared_low containers (kind.Deque _) place h = kind_low containers (kind.Deque h.0) place h.1

pub container_name_at : (script : ScriptParts) (place : ℕ) (d : Declaration) → place < length script.containers → container_name script place ≡ (get_or script.containers place d).name
container_name_at script place d low = ap (λ (o : Option Declaration). option_map_or (λ (found : Declaration). found.name) o []) (slice_get-get_or script.containers place d low)

pub container_place_at : (script : ScriptParts) (place : ℕ) → AllPairs (λ a b. a.name ≢ b.name) script.containers → place < length script.containers → container_place script.containers (container_name script place) ≡ Some place
container_place_at script place differ low =
    let name : List ℕ = container_name script place in
    let d : Declaration = record { start = record { kind = kind.Dict; keys = [] }; name = [] } in
    let is : name ≡ (get_or script.containers place d).name = container_name_at script place d low in
    position_at (λ container. bytes_eq container.name name) script.containers place d low
    (λ k below. bytes_differ (get_or script.containers k d).name name (λ same. differ k place d below low (same ∙ is)))
    (bytes_same (get_or script.containers place d).name name (sym is))

-- ---- the word of a call

pub word_back : (word : CallWord) → call_word_of (call_word_text word) ≡ Some word
unfolding call_word_of
word_back Next = refl
word_back Begin = refl
word_back End = refl
word_back Quiesce = refl
word_back Await = refl
word_back (On of.Get) = refl
word_back (On of.GetOr) = refl
word_back (On of.Set) = refl
word_back (On of.Del) = refl
word_back (On of.Pop) = refl
word_back (On of.PopOr) = refl
word_back (On of.PopItem) = refl
word_back (On of.SetDefault) = refl
word_back (On of.Has) = refl
word_back (On of.Len) = refl
word_back (On of.Items) = refl
word_back (On of.Update) = refl
word_back (On of.Clear) = refl
word_back (On of.CopyTo) = refl
word_back (On of.Eq) = refl
word_back (On of.Iter) = refl
word_back (On of.Append) = refl
word_back (On of.Insert) = refl
word_back (On of.Remove) = refl
word_back (On of.Index) = refl
word_back (On of.Count) = refl
word_back (On of.Reverse) = refl
word_back (On of.Extend) = refl
word_back (On of.Slice) = refl
word_back (On of.Add) = refl
word_back (On of.Discard) = refl
word_back (On of.Or) = refl
word_back (On of.And) = refl
word_back (On of.Sub) = refl
word_back (On of.Xor) = refl
word_back (On of.Subset) = refl
word_back (On of.Disjoint) = refl

abbrev is_other : List ℕ → Bool
is_other token = not (bytes_eq token (codes "="))

abbrev pub IsCallWord : List ℕ → Type 0
IsCallWord word = IsCut word (word ∷ []) × (is_other word ≡ true) × IsLineWord word

-- each call begins with a word
head_is : (called : Call) → IsCallWord (call_form called).word
head_is (call.Dict place (dict.Get k)) = (word_is_cut (codes "get") (refl, refl), refl, plain_word (codes "get") (refl, refl, refl))
head_is (call.Dict place (dict.GetOr k v)) = (word_is_cut (codes "getd") (refl, refl), refl, plain_word (codes "getd") (refl, refl, refl))
head_is (call.Dict place (dict.Set k v)) = (word_is_cut (codes "set") (refl, refl), refl, plain_word (codes "set") (refl, refl, refl))
head_is (call.Dict place (dict.Del k)) = (word_is_cut (codes "del") (refl, refl), refl, plain_word (codes "del") (refl, refl, refl))
head_is (call.Dict place (dict.Pop k)) = (word_is_cut (codes "pop") (refl, refl), refl, plain_word (codes "pop") (refl, refl, refl))
head_is (call.Dict place (dict.PopOr k v)) = (word_is_cut (codes "popd") (refl, refl), refl, plain_word (codes "popd") (refl, refl, refl))
head_is (call.Dict place dict.PopItem) = (word_is_cut (codes "popitem") (refl, refl), refl, plain_word (codes "popitem") (refl, refl, refl))
head_is (call.Dict place (dict.SetDefault k v)) = (word_is_cut (codes "setdefault") (refl, refl), refl, plain_word (codes "setdefault") (refl, refl, refl))
head_is (call.Dict place (dict.Has k)) = (word_is_cut (codes "has") (refl, refl), refl, plain_word (codes "has") (refl, refl, refl))
head_is (call.Dict place dict.Len) = (word_is_cut (codes "len") (refl, refl), refl, plain_word (codes "len") (refl, refl, refl))
head_is (call.Dict place dict.Items) = (word_is_cut (codes "items") (refl, refl), refl, plain_word (codes "items") (refl, refl, refl))
head_is (call.Dict place (dict.Update o)) = (word_is_cut (codes "update") (refl, refl), refl, plain_word (codes "update") (refl, refl, refl))
head_is (call.Dict place dict.Clear) = (word_is_cut (codes "clear") (refl, refl), refl, plain_word (codes "clear") (refl, refl, refl))
head_is (call.Dict place (dict.CopyTo o)) = (word_is_cut (codes "copyto") (refl, refl), refl, plain_word (codes "copyto") (refl, refl, refl))
head_is (call.Dict place (dict.Eq o)) = (word_is_cut (codes "eq") (refl, refl), refl, plain_word (codes "eq") (refl, refl, refl))
head_is (call.Dict place (dict.Iter c)) = (word_is_cut (codes "iter") (refl, refl), refl, plain_word (codes "iter") (refl, refl, refl))
head_is (call.Dict place (dict.KeysAnd o)) = (word_is_cut (codes "keysand") (refl, refl), refl, plain_word (codes "keysand") (refl, refl, refl))
head_is (call.Dict place (dict.KeysSub o)) = (word_is_cut (codes "keyssub") (refl, refl), refl, plain_word (codes "keyssub") (refl, refl, refl))
head_is (call.Dict place (dict.KeysOr o)) = (word_is_cut (codes "keysor") (refl, refl), refl, plain_word (codes "keysor") (refl, refl, refl))
head_is (call.Dict place (dict.KeysXor o)) = (word_is_cut (codes "keysxor") (refl, refl), refl, plain_word (codes "keysxor") (refl, refl, refl))
head_is (call.Dict place (dict.ItemsHas k v)) = (word_is_cut (codes "itemshas") (refl, refl), refl, plain_word (codes "itemshas") (refl, refl, refl))
head_is (call.Dict place (dict.Reversed c)) = (word_is_cut (codes "riter") (refl, refl), refl, plain_word (codes "riter") (refl, refl, refl))
head_is (call.List place (list.Append v)) = (word_is_cut (codes "append") (refl, refl), refl, plain_word (codes "append") (refl, refl, refl))
head_is (call.List place (list.Insert i v)) = (word_is_cut (codes "insert") (refl, refl), refl, plain_word (codes "insert") (refl, refl, refl))
head_is (call.List place (list.Get i)) = (word_is_cut (codes "get") (refl, refl), refl, plain_word (codes "get") (refl, refl, refl))
head_is (call.List place (list.Set i v)) = (word_is_cut (codes "set") (refl, refl), refl, plain_word (codes "set") (refl, refl, refl))
head_is (call.List place (list.Del i)) = (word_is_cut (codes "del") (refl, refl), refl, plain_word (codes "del") (refl, refl, refl))
head_is (call.List place (list.Pop None)) = (word_is_cut (codes "pop") (refl, refl), refl, plain_word (codes "pop") (refl, refl, refl))
head_is (call.List place (list.Pop (Some i))) = (word_is_cut (codes "pop") (refl, refl), refl, plain_word (codes "pop") (refl, refl, refl))
head_is (call.List place (list.Remove v)) = (word_is_cut (codes "remove") (refl, refl), refl, plain_word (codes "remove") (refl, refl, refl))
head_is (call.List place (list.Index v)) = (word_is_cut (codes "index") (refl, refl), refl, plain_word (codes "index") (refl, refl, refl))
head_is (call.List place (list.Count v)) = (word_is_cut (codes "count") (refl, refl), refl, plain_word (codes "count") (refl, refl, refl))
head_is (call.List place (list.Has v)) = (word_is_cut (codes "has") (refl, refl), refl, plain_word (codes "has") (refl, refl, refl))
head_is (call.List place list.Reverse) = (word_is_cut (codes "reverse") (refl, refl), refl, plain_word (codes "reverse") (refl, refl, refl))
head_is (call.List place (list.Extend o)) = (word_is_cut (codes "extend") (refl, refl), refl, plain_word (codes "extend") (refl, refl, refl))
head_is (call.List place (list.Slice i j)) = (word_is_cut (codes "slice") (refl, refl), refl, plain_word (codes "slice") (refl, refl, refl))
head_is (call.List place list.Clear) = (word_is_cut (codes "clear") (refl, refl), refl, plain_word (codes "clear") (refl, refl, refl))
head_is (call.List place list.Len) = (word_is_cut (codes "len") (refl, refl), refl, plain_word (codes "len") (refl, refl, refl))
head_is (call.List place list.Items) = (word_is_cut (codes "items") (refl, refl), refl, plain_word (codes "items") (refl, refl, refl))
head_is (call.List place (list.Eq o)) = (word_is_cut (codes "eq") (refl, refl), refl, plain_word (codes "eq") (refl, refl, refl))
head_is (call.List place (list.Iter c)) = (word_is_cut (codes "iter") (refl, refl), refl, plain_word (codes "iter") (refl, refl, refl))
head_is (call.List place (list.Reversed c)) = (word_is_cut (codes "riter") (refl, refl), refl, plain_word (codes "riter") (refl, refl, refl))
head_is (call.Set place (set.Add k)) = (word_is_cut (codes "add") (refl, refl), refl, plain_word (codes "add") (refl, refl, refl))
head_is (call.Set place (set.Discard k)) = (word_is_cut (codes "discard") (refl, refl), refl, plain_word (codes "discard") (refl, refl, refl))
head_is (call.Set place (set.Remove k)) = (word_is_cut (codes "remove") (refl, refl), refl, plain_word (codes "remove") (refl, refl, refl))
head_is (call.Set place set.Pop) = (word_is_cut (codes "pop") (refl, refl), refl, plain_word (codes "pop") (refl, refl, refl))
head_is (call.Set place (set.Has k)) = (word_is_cut (codes "has") (refl, refl), refl, plain_word (codes "has") (refl, refl, refl))
head_is (call.Set place set.Len) = (word_is_cut (codes "len") (refl, refl), refl, plain_word (codes "len") (refl, refl, refl))
head_is (call.Set place set.Items) = (word_is_cut (codes "items") (refl, refl), refl, plain_word (codes "items") (refl, refl, refl))
head_is (call.Set place (set.Eq o)) = (word_is_cut (codes "eq") (refl, refl), refl, plain_word (codes "eq") (refl, refl, refl))
head_is (call.Set place (set.Or o)) = (word_is_cut (codes "or") (refl, refl), refl, plain_word (codes "or") (refl, refl, refl))
head_is (call.Set place (set.And o)) = (word_is_cut (codes "and") (refl, refl), refl, plain_word (codes "and") (refl, refl, refl))
head_is (call.Set place (set.Sub o)) = (word_is_cut (codes "sub") (refl, refl), refl, plain_word (codes "sub") (refl, refl, refl))
head_is (call.Set place (set.Xor o)) = (word_is_cut (codes "xor") (refl, refl), refl, plain_word (codes "xor") (refl, refl, refl))
head_is (call.Set place (set.Subset o)) = (word_is_cut (codes "subset") (refl, refl), refl, plain_word (codes "subset") (refl, refl, refl))
head_is (call.Set place (set.Disjoint o)) = (word_is_cut (codes "disjoint") (refl, refl), refl, plain_word (codes "disjoint") (refl, refl, refl))
head_is (call.Set place set.Clear) = (word_is_cut (codes "clear") (refl, refl), refl, plain_word (codes "clear") (refl, refl, refl))
head_is (call.Set place (set.Iter c)) = (word_is_cut (codes "iter") (refl, refl), refl, plain_word (codes "iter") (refl, refl, refl))
head_is (call.Deque place (deque.Append v)) = (word_is_cut (codes "append") (refl, refl), refl, plain_word (codes "append") (refl, refl, refl))
head_is (call.Deque place (deque.AppendLeft v)) = (word_is_cut (codes "appendleft") (refl, refl), refl, plain_word (codes "appendleft") (refl, refl, refl))
head_is (call.Deque place deque.Pop) = (word_is_cut (codes "pop") (refl, refl), refl, plain_word (codes "pop") (refl, refl, refl))
head_is (call.Deque place deque.PopLeft) = (word_is_cut (codes "popleft") (refl, refl), refl, plain_word (codes "popleft") (refl, refl, refl))
head_is (call.Deque place (deque.Extend o)) = (word_is_cut (codes "extend") (refl, refl), refl, plain_word (codes "extend") (refl, refl, refl))
head_is (call.Deque place (deque.ExtendLeft o)) = (word_is_cut (codes "extendleft") (refl, refl), refl, plain_word (codes "extendleft") (refl, refl, refl))
head_is (call.Deque place (deque.Rotate i)) = (word_is_cut (codes "rotate") (refl, refl), refl, plain_word (codes "rotate") (refl, refl, refl))
head_is (call.Deque place deque.Clear) = (word_is_cut (codes "clear") (refl, refl), refl, plain_word (codes "clear") (refl, refl, refl))
head_is (call.Deque place (deque.Get i)) = (word_is_cut (codes "get") (refl, refl), refl, plain_word (codes "get") (refl, refl, refl))
head_is (call.Deque place deque.Len) = (word_is_cut (codes "len") (refl, refl), refl, plain_word (codes "len") (refl, refl, refl))
head_is (call.Deque place deque.Items) = (word_is_cut (codes "items") (refl, refl), refl, plain_word (codes "items") (refl, refl, refl))
head_is (call.Deque place (deque.Has v)) = (word_is_cut (codes "has") (refl, refl), refl, plain_word (codes "has") (refl, refl, refl))
head_is (call.Deque place (deque.Iter c)) = (word_is_cut (codes "iter") (refl, refl), refl, plain_word (codes "iter") (refl, refl, refl))
head_is (call.Next number) = (word_is_cut (codes "next") (refl, refl), refl, plain_word (codes "next") (refl, refl, refl))
head_is (call.Begin first None) = (word_is_cut (codes "begin") (refl, refl), refl, plain_word (codes "begin") (refl, refl, refl))
head_is (call.Begin first (Some second)) = (word_is_cut (codes "begin") (refl, refl), refl, plain_word (codes "begin") (refl, refl, refl))
head_is call.End = (word_is_cut (codes "end") (refl, refl), refl, plain_word (codes "end") (refl, refl, refl))
head_is call.Quiesce = (word_is_cut (codes "quiesce") (refl, refl), refl, plain_word (codes "quiesce") (refl, refl, refl))
head_is (call.Await other index) = (word_is_cut (codes "await") (refl, refl), refl, plain_word (codes "await") (refl, refl, refl))
head_is call.Dump = (word_is_cut (codes "dump") (refl, refl), refl, plain_word (codes "dump") (refl, refl, refl))

-- ---- arguments

pub arguments_are : (script : ScriptParts) (thread : ℕ) (called : Call) → IsCallOf script (cursors_of script thread) called → AllByRecursion (IsArgumentOf script thread) (call_form called).arguments
arguments_are script thread (call.Dict place (dict.Get k)) h = (declared_low script.containers kind.Dict place h.names.container, (h.strings, tt))
arguments_are script thread (call.Dict place (dict.GetOr k v)) h = (declared_low script.containers kind.Dict place h.names.container, (h.strings.0, (h.strings.1, tt)))
arguments_are script thread (call.Dict place (dict.Set k v)) h = (declared_low script.containers kind.Dict place h.names.container, (h.strings.0, (h.strings.1, tt)))
arguments_are script thread (call.Dict place (dict.Del k)) h = (declared_low script.containers kind.Dict place h.names.container, (h.strings, tt))
arguments_are script thread (call.Dict place (dict.Pop k)) h = (declared_low script.containers kind.Dict place h.names.container, (h.strings, tt))
arguments_are script thread (call.Dict place (dict.PopOr k v)) h = (declared_low script.containers kind.Dict place h.names.container, (h.strings.0, (h.strings.1, tt)))
arguments_are script thread (call.Dict place dict.PopItem) h = (declared_low script.containers kind.Dict place h.names.container, tt)
arguments_are script thread (call.Dict place (dict.SetDefault k v)) h = (declared_low script.containers kind.Dict place h.names.container, (h.strings.0, (h.strings.1, tt)))
arguments_are script thread (call.Dict place (dict.Has k)) h = (declared_low script.containers kind.Dict place h.names.container, (h.strings, tt))
arguments_are script thread (call.Dict place dict.Len) h = (declared_low script.containers kind.Dict place h.names.container, tt)
arguments_are script thread (call.Dict place dict.Items) h = (declared_low script.containers kind.Dict place h.names.container, tt)
arguments_are script thread (call.Dict place (dict.Update o)) h = (declared_low script.containers kind.Dict place h.names.container, (declared_low script.containers kind.Dict o h.names.second, tt))
arguments_are script thread (call.Dict place dict.Clear) h = (declared_low script.containers kind.Dict place h.names.container, tt)
arguments_are script thread (call.Dict place (dict.CopyTo o)) h = (declared_low script.containers kind.Dict place h.names.container, (declared_low script.containers kind.Dict o h.names.second, tt))
arguments_are script thread (call.Dict place (dict.Eq o)) h = (declared_low script.containers kind.Dict place h.names.container, (declared_low script.containers kind.Dict o h.names.second, tt))
arguments_are script thread (call.Dict place (dict.Iter c)) h = (declared_low script.containers kind.Dict place h.names.container, (h.names.made, tt))
arguments_are script thread (call.Dict place (dict.KeysAnd o)) h = (declared_low script.containers kind.Dict place h.names.container, (declared_low script.containers kind.Dict o h.names.second, tt))
arguments_are script thread (call.Dict place (dict.KeysSub o)) h = (declared_low script.containers kind.Dict place h.names.container, (declared_low script.containers kind.Dict o h.names.second, tt))
arguments_are script thread (call.Dict place (dict.KeysOr o)) h = (declared_low script.containers kind.Dict place h.names.container, (declared_low script.containers kind.Dict o h.names.second, tt))
arguments_are script thread (call.Dict place (dict.KeysXor o)) h = (declared_low script.containers kind.Dict place h.names.container, (declared_low script.containers kind.Dict o h.names.second, tt))
arguments_are script thread (call.Dict place (dict.ItemsHas k v)) h = (declared_low script.containers kind.Dict place h.names.container, (h.strings.0, (h.strings.1, tt)))
arguments_are script thread (call.Dict place (dict.Reversed c)) h = (declared_low script.containers kind.Dict place h.names.container, (h.names.made, tt))
arguments_are script thread (call.List place (list.Append v)) h = (declared_low script.containers kind.List place h.names.container, (h.strings, tt))
arguments_are script thread (call.List place (list.Insert i v)) h = (declared_low script.containers kind.List place h.names.container, (tt, (h.strings, tt)))
arguments_are script thread (call.List place (list.Get i)) h = (declared_low script.containers kind.List place h.names.container, (tt, tt))
arguments_are script thread (call.List place (list.Set i v)) h = (declared_low script.containers kind.List place h.names.container, (tt, (h.strings, tt)))
arguments_are script thread (call.List place (list.Del i)) h = (declared_low script.containers kind.List place h.names.container, (tt, tt))
arguments_are script thread (call.List place (list.Pop None)) h = (declared_low script.containers kind.List place h.names.container, tt)
arguments_are script thread (call.List place (list.Pop (Some i))) h = (declared_low script.containers kind.List place h.names.container, (tt, tt))
arguments_are script thread (call.List place (list.Remove v)) h = (declared_low script.containers kind.List place h.names.container, (h.strings, tt))
arguments_are script thread (call.List place (list.Index v)) h = (declared_low script.containers kind.List place h.names.container, (h.strings, tt))
arguments_are script thread (call.List place (list.Count v)) h = (declared_low script.containers kind.List place h.names.container, (h.strings, tt))
arguments_are script thread (call.List place (list.Has v)) h = (declared_low script.containers kind.List place h.names.container, (h.strings, tt))
arguments_are script thread (call.List place list.Reverse) h = (declared_low script.containers kind.List place h.names.container, tt)
arguments_are script thread (call.List place (list.Extend o)) h = (declared_low script.containers kind.List place h.names.container, (declared_low script.containers kind.List o h.names.second, tt))
arguments_are script thread (call.List place (list.Slice i j)) h = (declared_low script.containers kind.List place h.names.container, (tt, (tt, tt)))
arguments_are script thread (call.List place list.Clear) h = (declared_low script.containers kind.List place h.names.container, tt)
arguments_are script thread (call.List place list.Len) h = (declared_low script.containers kind.List place h.names.container, tt)
arguments_are script thread (call.List place list.Items) h = (declared_low script.containers kind.List place h.names.container, tt)
arguments_are script thread (call.List place (list.Eq o)) h = (declared_low script.containers kind.List place h.names.container, (declared_low script.containers kind.List o h.names.second, tt))
arguments_are script thread (call.List place (list.Iter c)) h = (declared_low script.containers kind.List place h.names.container, (h.names.made, tt))
arguments_are script thread (call.List place (list.Reversed c)) h = (declared_low script.containers kind.List place h.names.container, (h.names.made, tt))
arguments_are script thread (call.Set place (set.Add k)) h = (declared_low script.containers kind.Set place h.names.container, (h.strings, tt))
arguments_are script thread (call.Set place (set.Discard k)) h = (declared_low script.containers kind.Set place h.names.container, (h.strings, tt))
arguments_are script thread (call.Set place (set.Remove k)) h = (declared_low script.containers kind.Set place h.names.container, (h.strings, tt))
arguments_are script thread (call.Set place set.Pop) h = (declared_low script.containers kind.Set place h.names.container, tt)
arguments_are script thread (call.Set place (set.Has k)) h = (declared_low script.containers kind.Set place h.names.container, (h.strings, tt))
arguments_are script thread (call.Set place set.Len) h = (declared_low script.containers kind.Set place h.names.container, tt)
arguments_are script thread (call.Set place set.Items) h = (declared_low script.containers kind.Set place h.names.container, tt)
arguments_are script thread (call.Set place (set.Eq o)) h = (declared_low script.containers kind.Set place h.names.container, (declared_low script.containers kind.Set o h.names.second, tt))
arguments_are script thread (call.Set place (set.Or o)) h = (declared_low script.containers kind.Set place h.names.container, (declared_low script.containers kind.Set o h.names.second, tt))
arguments_are script thread (call.Set place (set.And o)) h = (declared_low script.containers kind.Set place h.names.container, (declared_low script.containers kind.Set o h.names.second, tt))
arguments_are script thread (call.Set place (set.Sub o)) h = (declared_low script.containers kind.Set place h.names.container, (declared_low script.containers kind.Set o h.names.second, tt))
arguments_are script thread (call.Set place (set.Xor o)) h = (declared_low script.containers kind.Set place h.names.container, (declared_low script.containers kind.Set o h.names.second, tt))
arguments_are script thread (call.Set place (set.Subset o)) h = (declared_low script.containers kind.Set place h.names.container, (declared_low script.containers kind.Set o h.names.second, tt))
arguments_are script thread (call.Set place (set.Disjoint o)) h = (declared_low script.containers kind.Set place h.names.container, (declared_low script.containers kind.Set o h.names.second, tt))
arguments_are script thread (call.Set place set.Clear) h = (declared_low script.containers kind.Set place h.names.container, tt)
arguments_are script thread (call.Set place (set.Iter c)) h = (declared_low script.containers kind.Set place h.names.container, (h.names.made, tt))
arguments_are script thread (call.Deque place (deque.Append v)) h = (declared_low script.containers (kind.Deque None) place h.names.container, (h.strings, tt))
arguments_are script thread (call.Deque place (deque.AppendLeft v)) h = (declared_low script.containers (kind.Deque None) place h.names.container, (h.strings, tt))
arguments_are script thread (call.Deque place deque.Pop) h = (declared_low script.containers (kind.Deque None) place h.names.container, tt)
arguments_are script thread (call.Deque place deque.PopLeft) h = (declared_low script.containers (kind.Deque None) place h.names.container, tt)
arguments_are script thread (call.Deque place (deque.Extend o)) h = (declared_low script.containers (kind.Deque None) place h.names.container, (declared_low script.containers (kind.Deque None) o h.names.second, tt))
arguments_are script thread (call.Deque place (deque.ExtendLeft o)) h = (declared_low script.containers (kind.Deque None) place h.names.container, (declared_low script.containers (kind.Deque None) o h.names.second, tt))
arguments_are script thread (call.Deque place (deque.Rotate i)) h = (declared_low script.containers (kind.Deque None) place h.names.container, (tt, tt))
arguments_are script thread (call.Deque place deque.Clear) h = (declared_low script.containers (kind.Deque None) place h.names.container, tt)
arguments_are script thread (call.Deque place (deque.Get i)) h = (declared_low script.containers (kind.Deque None) place h.names.container, (tt, tt))
arguments_are script thread (call.Deque place deque.Len) h = (declared_low script.containers (kind.Deque None) place h.names.container, tt)
arguments_are script thread (call.Deque place deque.Items) h = (declared_low script.containers (kind.Deque None) place h.names.container, tt)
arguments_are script thread (call.Deque place (deque.Has v)) h = (declared_low script.containers (kind.Deque None) place h.names.container, (h.strings, tt))
arguments_are script thread (call.Deque place (deque.Iter c)) h = (declared_low script.containers (kind.Deque None) place h.names.container, (h.names.made, tt))
arguments_are script thread (call.Next number) h = (h.names, tt)
arguments_are script thread (call.Begin first None) h = (h.names.0, tt)
arguments_are script thread (call.Begin first (Some second)) h = (h.names.0, (h.names.1, tt))
arguments_are script thread call.End h = tt
arguments_are script thread call.Quiesce h = tt
arguments_are script thread (call.Await other index) h = (tt, tt)
arguments_are script thread call.Dump h = tt

low_other : (word : List ℕ) → BeginsLow word → is_other word ≡ true
low_other [] h = absurd h
low_other (b ∷ bytes) h = let low : 97 ≤ b = h.0 in rw (ne_eqb b 61 (λ e. omega arith)) refl

shown_other : (word : List ℕ) → BeginsShown word → is_other word ≡ true
shown_other [] h = absurd h
shown_other (b ∷ bytes) (inl low) = rw (ne_eqb b 61 (λ e. omega arith)) refl
shown_other (b ∷ bytes) (inr is) = rw is refl

name_is : (name : List ℕ) → is_container_name name ≡ true → IsCallWord name
name_is name form = let h = container_word name form in (word_is_cut name h.0, low_other name h.1, plain_word name (container_plain name form))

key_word : (strings : List (List ℕ)) (found : Key) → All IsString strings → IsKeyOf (length strings) found → IsWideKey found → IsLineWord (key_text strings found)
key_word strings (key.Int n) are low wide = plain_word (signed_decimal n) (signed_plain n wide)
key_word strings (key.Text symbol) are low wide = quoted_word (slice_index_or strings symbol.0 []) (are symbol.0 [] low)

value_word : (strings : List (List ℕ)) (found : Value) → All IsString strings → IsValueOf (length strings) found → IsWideValue found → IsLineWord (value_text strings found)
value_word strings value.Nothing are low wide = plain_word (codes "None") (refl, refl, refl)
value_word strings (value.Int n) are low wide = plain_word (signed_decimal n) (signed_plain n wide)
value_word strings (value.Text symbol) are low wide = quoted_word (slice_index_or strings symbol.0 []) (are symbol.0 [] low)

-- the name of a thread, where there is such a thread
name_or_none : (script : ScriptParts) (thread : ℕ) → Declares script thread → (other : ℕ) → (thread_name script other ≡ []) ⊎ (is_thread_name (thread_name script other) ≡ true)
name_or_none script thread facts other =
    elim (cases_lt other (length script.threads)) [
      | inl low ↦ inr (facts.thread_form other low)
      | inr past ↦ inl (ap (λ (o : Option Thread). option_map_or (λ (found : Thread). found.name) o []) (slice_get_past script.threads other past))
    ]

argument_is : (script : ScriptParts) (thread : ℕ) → Declares script thread → (given : Argument) → IsArgumentOf script thread given → IsWideArgument given → IsCallWord (argument_text script thread given)
argument_is script thread facts (argument.Container place) low wide =
    let d : Declaration = record { start = record { kind = kind.Dict; keys = [] }; name = [] } in
    name_is (container_name script place) (ap is_container_name (container_name_at script place d low) ∙ facts.names_are place d low)
argument_is script thread facts (argument.Cursor number) low wide = name_is (cursor_name script thread number) (facts.cursor_form number low)
argument_is script thread facts (argument.Key found) low wide = (key_is_cut script.strings found wide, shown_other (key_text script.strings found) (key_begins script.strings found wide), key_word script.strings found facts.strings_are low wide)
argument_is script thread facts (argument.Value found) low wide = (value_is_cut script.strings found wide, shown_other (value_text script.strings found) (value_begins script.strings found wide), value_word script.strings found facts.strings_are low wide)
argument_is script thread facts (argument.Call other index) low wide = place_is (thread_name script other) index (name_or_none script thread facts other) wide
argument_is script thread facts (argument.Index n) low wide = (value_is_cut script.strings (value.Int n) wide, shown_other (signed_decimal n) (value_begins script.strings (value.Int n) wide), plain_word (signed_decimal n) (signed_plain n wide))

all_are : (script : ScriptParts) (thread : ℕ) → Declares script thread → (given : List Argument) → AllByRecursion (IsArgumentOf script thread) given → AllByRecursion IsWideArgument given → AllByRecursion IsCallWord (map (argument_text script thread) given)
all_are script thread facts [] of_script wide = tt
all_are script thread facts (one ∷ given) of_script wide = (argument_is script thread facts one of_script.0 wide.0, all_are script thread facts given of_script.1 wide.1)

pub words_are : (script : ScriptParts) (thread : ℕ) → Declares script thread → (called : Call) → IsCallOf script (cursors_of script thread) called → IsWideCall called → AllByRecursion IsCallWord (call_words script thread called)
words_are script thread facts called h wide = (head_is called, all_are script thread facts (call_form called).arguments (arguments_are script thread called h) wide)

-- ---- what stands above a call

-- the script's containers, and this many of its strings and of the thread's cursors
abbrev pub standing : ScriptParts → ℕ → Draft → ℕ → ℕ → Draft
standing script thread base known made = record base {
  containers = script.containers;
  strings = take known script.strings;
  cursors = take made (cursors_at script thread);
}

-- `next` moves a cursor that is known, and `await` may stand and names a call of a thread that is
abbrev pub IsKnown : ScriptParts → Draft → ℕ → Call → Type 0
IsKnown script base made (call.Next number) = number < made
IsKnown script base made (call.Await other index) =
    (base.awaits ≡ true) × (other < length script.threads) × (1 ≤ index)
    × (thread_place base.threads (thread_name script other) ≡ Some other)
IsKnown script base made other = Unit {0}

known_place : (texts : List (List ℕ)) (i known : ℕ) → AllPairs (λ a b. a ≢ b) texts → i < length texts → i < known → text_place (take known texts) (slice_index_or texts i []) ≡ Some i
known_place texts i known differ low before =
    let text : List ℕ = slice_index_or texts i [] in
    let here : get_or (take known texts) i [] ≡ text = get_or-take known texts i [] before in
    position_at (λ other. bytes_eq text other) (take known texts) i [] (omega (arith, length-take known texts)) (λ k below.
    let at : get_or (take known texts) k [] ≡ get_or texts k [] = get_or-take known texts k [] (omega arith) in
    bytes_differ text (get_or (take known texts) k []) (λ same. differ k i [] below low (sym at ∙ sym same)))
    (bytes_same text (get_or (take known texts) i []) (sym here))

-- ---- reading the arguments back

module _ (script : ScriptParts) (thread : ℕ) (facts : Declares script thread) (base : Draft) where
  abbrev strings : List (List ℕ)
  strings = script.strings

  abbrev cursors : List (List ℕ)
  cursors = cursors_at script thread

  abbrev at : ℕ → ℕ → Draft
  at known made = standing script thread base known made

  abbrev numbered : ℕ → ℕ → ℕ → Result (ℕ × Draft) Fault
  numbered number known made = Ok (number, at known made)

  container_back : (known made place : ℕ) → place < length script.containers → read_container (at known made) (container_name script place) ≡ Ok place
  unfolding read_container
  container_back known made place low = rw (container_place_at script place facts.names_differ low) refl

  other_back : (known made : ℕ) (of_kind : Kind) (place : ℕ) → same_kind of_kind of_kind ≡ true → kind_at script.containers place ≡ Some of_kind → read_other (at known made) of_kind (container_name script place) ≡ Ok place
  unfolding read_other
  other_back known made of_kind place same declared = rw (container_back known made place (kind_low script.containers of_kind place declared), declared, same) refl

  known_symbol : (known made symbol : ℕ) → symbol < length strings → symbol < known → read_symbol (at known made) (slice_index_or strings symbol []) ≡ Ok (symbol, at known made)
  unfolding read_symbol
  known_symbol known made symbol low before =
      let short : length (slice_index_or strings symbol []) ≤ 255 = (facts.strings_are symbol [] low).short in
      rw (le-ltb 255 (length (slice_index_or strings symbol [])) short, known_place strings symbol known facts.strings_differ low before) refl

  new_symbol : (made symbol : ℕ) → symbol < length strings → read_symbol (at symbol made) (slice_index_or strings symbol []) ≡ Ok (symbol, at (symbol + 1) made)
  unfolding read_symbol
  new_symbol made symbol low =
      let text : List ℕ = slice_index_or strings symbol [] in
      let short : length text ≤ 255 = (facts.strings_are symbol [] low).short in
      let here : length (take symbol strings) ≡ symbol = omega (arith, length-take symbol strings) in
      let few : length strings ≤ 65536 = facts.strings_few in
      rw (le-ltb 255 (length text) short, text_missing strings symbol [] text facts.strings_differ low refl, here, lt-ltb symbol 65536 (omega arith), take_more strings symbol [] low) refl

  symbol_back : (known made symbol next : ℕ) → symbol < length strings → AreNumbered known (symbol ∷ []) next → read_symbol (at known made) (slice_index_or strings symbol []) ≡ Ok (symbol, at next made)
  symbol_back known made symbol next low (inl h) = known_symbol known made symbol low h.0 ∙ ap (λ (n : ℕ). numbered symbol n made) h.1
  symbol_back known made symbol next low (inr h) =
      ap (λ (n : ℕ). read_symbol (at n made) (slice_index_or strings symbol [])) (sym h.0) ∙ new_symbol made symbol low
      ∙ ap (λ (n : ℕ). numbered symbol (n + 1) made) h.0 ∙ ap (λ (n : ℕ). numbered symbol n made) h.1

  abbrev symbol_key : ℕ × Draft → Result (Key × Draft) Fault
  symbol_key read = Ok (key.Text (record { 0 = read.0 }), read.1)

  abbrev index_key : Draft → ℤ → Result (Key × Draft) Fault
  index_key draft n = Ok (key.Int n, draft)

  key_by : (draft : Draft) (word : List ℕ) (is : Bool) → is_string word ≡ is → read_key draft word ≡ cond is (read_symbol draft (text_of word) >>= symbol_key) (read_index word >>= index_key draft)
  unfolding read_key
  key_by draft word is same = rw same refl

  key_of_back : (known made next : ℕ) (found : Key) → IsKeyOf (length strings) found → IsWideKey found → AreNumbered known (key_mentions found) next → read_key (at known made) (key_text strings found) ≡ Ok (found, at next made)
  key_of_back known made next (key.Int n) low wide same =
      key_by (at known made) (signed_decimal n) false (numbers_are_no_strings (signed_decimal n) (signed_word n wide).1) ∙ ap (λ (r : Result ℤ Fault). r >>= index_key (at known made)) (index_signed n wide)
      ∙ ap (λ (k : ℕ). index_key (at k made) n) same
  key_of_back known made next (key.Text symbol) low wide mentioned =
      let text : List ℕ = slice_index_or strings symbol.0 [] in
      key_by (at known made) (quoted text) true refl ∙ ap (λ (t : List ℕ). read_symbol (at known made) t >>= symbol_key) (text_of_quoted text)
      ∙ ap (λ (r : Result (ℕ × Draft) Fault). r >>= symbol_key) (symbol_back known made symbol.0 next low mentioned)

  abbrev key_value : Key × Draft → Result (Value × Draft) Fault
  key_value read = Ok (as_value read.0, read.1)

  abbrev nothing_at : Draft → Result (Value × Draft) Fault
  nothing_at draft = Ok (value.Nothing, draft)

  value_by : (draft : Draft) (word : List ℕ) (is : Bool) → bytes_eq word (codes "None") ≡ is → read_value draft word ≡ cond is (Ok (value.Nothing, draft)) (read_key draft word >>= key_value)
  unfolding read_value
  value_by draft word is same = rw same refl

  value_of_back : (known made next : ℕ) (found : Value) → IsValueOf (length strings) found → IsWideValue found → AreNumbered known (value_mentions found) next → read_value (at known made) (value_text strings found) ≡ Ok (found, at next made)
  value_of_back known made next value.Nothing low wide same = value_by (at known made) (codes "None") true refl ∙ ap (λ (k : ℕ). nothing_at (at k made)) same
  value_of_back known made next (value.Int n) low wide same =
      value_by (at known made) (signed_decimal n) false (numbers_are_not_none (signed_decimal n) (signed_word n wide).1) ∙ ap (λ (r : Result (Key × Draft) Fault). r >>= key_value) (key_of_back known made next (key.Int n) tt wide same)
  value_of_back known made next (value.Text symbol) low wide mentioned =
      value_by (at known made) (quoted (slice_index_or strings symbol.0 [])) false refl ∙ ap (λ (r : Result (Key × Draft) Fault). r >>= key_value) (key_of_back known made next (key.Text symbol) low tt mentioned)

  nothing_back : just_nothing [] ≡ Ok tt
  unfolding just_nothing
  nothing_back = refl

  key_in_back : (known made next : ℕ) (k : Key) → IsKeyOf (length strings) k → IsWideKey k → AreNumbered known (key_mentions k ++ []) next → just_key (at known made) (key_text strings k ∷ []) ≡ Ok (k, at next made)
  unfolding just_key
  key_in_back known made next k low wide mentioned = key_of_back known made next k low wide (alone known (key_mentions k) next mentioned)

  value_in_back : (known made next : ℕ) (v : Value) → IsValueOf (length strings) v → IsWideValue v → AreNumbered known (value_mentions v ++ []) next → just_value (at known made) (value_text strings v ∷ []) ≡ Ok (v, at next made)
  unfolding just_value
  value_in_back known made next v low wide mentioned = value_of_back known made next v low wide (alone known (value_mentions v) next mentioned)

  pair_in_back : (known made next : ℕ) (k : Key) (v : Value) → IsKeyOf (length strings) k → IsWideKey k → IsValueOf (length strings) v → IsWideValue v → AreNumbered known (key_mentions k ++ (value_mentions v ++ [])) next → just_key_and_value (at known made) (key_text strings k ∷ value_text strings v ∷ []) ≡ Ok ((k, v), at next made)
  unfolding just_key_and_value read_key_and_value
  pair_in_back known made next k v klow kwide vlow vwide mentioned =
      let parts = numbered_split known (key_mentions k) (value_mentions v ++ []) next mentioned in
      rw (key_of_back known made parts.0 k klow kwide parts.1, value_of_back parts.0 made next v vlow vwide (alone parts.0 (value_mentions v) next parts.2)) refl

  index_in_back : (i : ℤ) → is_wide i ≡ true → just_index (signed_decimal i ∷ []) ≡ Ok i
  unfolding just_index
  index_in_back i wide = index_signed i wide

  no_index_back : just_some_index [] ≡ Ok None
  unfolding just_some_index
  no_index_back = refl

  some_index_back : (i : ℤ) → is_wide i ≡ true → just_some_index (signed_decimal i ∷ []) ≡ Ok (Some i)
  unfolding just_some_index
  some_index_back i wide = rw (index_signed i wide) refl

  indices_back : (i j : ℤ) → is_wide i ≡ true → is_wide j ≡ true → just_two_indices (signed_decimal i ∷ signed_decimal j ∷ []) ≡ Ok (i, j)
  unfolding just_two_indices read_two_indices
  indices_back i j first second = rw (index_signed i first, index_signed j second) refl

  index_value_back : (known made next : ℕ) (i : ℤ) (v : Value) → is_wide i ≡ true → IsValueOf (length strings) v → IsWideValue v → AreNumbered known (value_mentions v ++ []) next → just_index_and_value (at known made) (signed_decimal i ∷ value_text strings v ∷ []) ≡ Ok ((i, v), at next made)
  unfolding just_index_and_value read_index_and_value
  index_value_back known made next i v first low wide mentioned = rw (index_signed i first, value_of_back known made next v low wide (alone known (value_mentions v) next mentioned)) refl

  other_in_back : (known made : ℕ) (of_kind : Kind) (place : ℕ) → same_kind of_kind of_kind ≡ true → kind_at script.containers place ≡ Some of_kind → just_other (at known made) of_kind (container_name script place ∷ []) ≡ Ok place
  unfolding just_other
  other_in_back known made of_kind place same declared = other_back known made of_kind place same declared

  known_cursor : (known made number : ℕ) → number < length cursors → number < made → text_place (take made cursors) (cursor_name script thread number) ≡ Some number
  known_cursor known made number low before = ap (text_place (take made cursors)) (facts.cursor_is number) ∙ known_place cursors number made facts.cursors_differ low before

  made_again : (known made number : ℕ) → number < cursors_of script thread → number < made → just_made_cursor (at known made) (cursor_name script thread number ∷ []) ≡ Ok (number, at known made)
  unfolding just_made_cursor read_made_cursor
  made_again known made number low before =
      let within : number < length cursors = (let all : length cursors ≡ cursors_of script thread = facts.cursors_counted in omega arith) in
      rw (facts.cursor_form number low, known_cursor known made number within before) refl

  made_anew : (known number : ℕ) → number < cursors_of script thread → just_made_cursor (at known number) (cursor_name script thread number ∷ []) ≡ Ok (number, at known (number + 1))
  unfolding just_made_cursor read_made_cursor
  made_anew known number low =
      let within : number < length cursors = (let all : length cursors ≡ cursors_of script thread = facts.cursors_counted in omega arith) in
      let few : length cursors ≤ 256 = facts.cursors_few in
      let here : length (take number cursors) ≡ number = omega (arith, length-take number cursors) in
      let missing : text_place (take number cursors) (cursor_name script thread number) ≡ None = text_missing cursors number [] (cursor_name script thread number) facts.cursors_differ within (facts.cursor_is number) in
      let more : take (number + 1) cursors ≡ take number cursors ++ cursor_name script thread number ∷ [] = take_more cursors number [] within ∙ ap (λ (name : List ℕ). take number cursors ++ name ∷ []) (sym (facts.cursor_is number)) in
      rw (facts.cursor_form number low, missing, here, lt-ltb number 256 (omega arith), more) refl

  made_in_back : (known made next number : ℕ) → number < cursors_of script thread → AreNumbered made (number ∷ []) next → just_made_cursor (at known made) (cursor_name script thread number ∷ []) ≡ Ok (number, at known next)
  made_in_back known made next number low (inl h) = made_again known made number low h.0 ∙ ap (λ (n : ℕ). numbered number known n) h.1
  made_in_back known made next number low (inr h) =
      ap (λ (n : ℕ). just_made_cursor (at known n) (cursor_name script thread number ∷ [])) (sym h.0) ∙ made_anew known number low
      ∙ ap (λ (n : ℕ). numbered number known (n + 1)) h.0 ∙ ap (λ (n : ℕ). numbered number known n) h.1

  cursor_in_back : (known made number : ℕ) → number < cursors_of script thread → number < made → just_cursor (at known made) (cursor_name script thread number ∷ []) ≡ Ok number
  unfolding just_cursor read_cursor
  cursor_in_back known made number low before =
      let within : number < length cursors = (let all : length cursors ≡ cursors_of script thread = facts.cursors_counted in omega arith) in
      rw (known_cursor known made number within before) refl

  section_one : (known made first : ℕ) → first < length script.containers → just_section (at known made) (container_name script first ∷ []) ≡ Ok (first, None)
  unfolding just_section
  section_one known made first low = rw (container_back known made first low) refl

  section_two : (known made first second : ℕ) → first < length script.containers → second < length script.containers → just_section (at known made) (container_name script first ∷ container_name script second ∷ []) ≡ Ok (first, Some second)
  unfolding just_section read_two_containers
  section_two known made first second low high = rw (container_back known made first low, container_back known made second high) refl

  -- ---- and the calls

  by_word : (draft : Draft) (word : CallWord) (words : List (List ℕ)) → just_call draft (call_word_text word ∷ words) ≡ read_call draft word words
  unfolding just_call
  by_word draft word words = rw (word_back word) refl

  await_said : (draft : Draft) (word : List ℕ) (named : ℕ × ℕ) → draft.awaits ≡ true → read_awaited draft word ≡ Ok named → read_call draft Await (word ∷ []) ≡ Ok (call.Await named.0 named.1, draft)
  unfolding read_call just_awaited
  await_said draft word named may read = rw (read, may) refl

  on_back : (known made : ℕ) (operation : Operation) (of_kind : Kind) (place : ℕ) (words : List (List ℕ)) → kind_at script.containers place ≡ Some of_kind → just_call (at known made) (operation_text operation ∷ container_name script place ∷ words) ≡ call_at (at known made) place operation words (Some of_kind)
  unfolding read_call container_call
  on_back known made operation of_kind place words declared =
      by_word (at known made) (On operation) (container_name script place ∷ words) ∙ rw (container_back known made place (kind_low script.containers of_kind place declared), declared) refl

  -- what is known before a call, and after it
  module _ (known made next_known next_made : ℕ) where
    abbrev draft : Draft
    draft = at known made

    abbrev read_as : Call → ℕ → ℕ → Result (Call × Draft) Fault
    read_as called k m = Ok (called, at k m)

    moved_on : (called : Call) (k m : ℕ) → k ≡ next_known → m ≡ next_made → read_as called k m ≡ read_as called next_known next_made
    moved_on called k m ks ms = ap (λ (n : ℕ). read_as called n m) ks ∙ ap (λ (n : ℕ). read_as called next_known n) ms

    dict_is : (place : ℕ) (operation : Operation) (words : List (List ℕ)) (inner : DictCall) → IsDeclaredAs script.containers kind.Dict place → (k m : ℕ) → k ≡ next_known → m ≡ next_made → dict_call draft operation words ≡ Ok (inner, at k m) → just_call draft (operation_text operation ∷ container_name script place ∷ words) ≡ Ok (call.Dict place inner, at next_known next_made)
    unfolding call_at
    dict_is place operation words inner declared k m ks ms is = on_back known made operation kind.Dict place words declared ∙ rw is (moved_on (call.Dict place inner) k m ks ms)

    list_is : (place : ℕ) (operation : Operation) (words : List (List ℕ)) (inner : ListCall) → IsDeclaredAs script.containers kind.List place → (k m : ℕ) → k ≡ next_known → m ≡ next_made → list_call draft operation words ≡ Ok (inner, at k m) → just_call draft (operation_text operation ∷ container_name script place ∷ words) ≡ Ok (call.List place inner, at next_known next_made)
    unfolding call_at
    list_is place operation words inner declared k m ks ms is = on_back known made operation kind.List place words declared ∙ rw is (moved_on (call.List place inner) k m ks ms)

    set_is : (place : ℕ) (operation : Operation) (words : List (List ℕ)) (inner : SetCall) → IsDeclaredAs script.containers kind.Set place → (k m : ℕ) → k ≡ next_known → m ≡ next_made → set_call draft operation words ≡ Ok (inner, at k m) → just_call draft (operation_text operation ∷ container_name script place ∷ words) ≡ Ok (call.Set place inner, at next_known next_made)
    unfolding call_at
    set_is place operation words inner declared k m ks ms is = on_back known made operation kind.Set place words declared ∙ rw is (moved_on (call.Set place inner) k m ks ms)

    pub call_read : (called : Call) → IsCallOf script (cursors_of script thread) called → is_landed_call called ≡ true → IsWideCall called → IsKnown script base made called → AreNumbered known (call_mentions called) next_known → AreNumbered made (call_makes called) next_made → just_call draft (call_words script thread called) ≡ Ok (called, at next_known next_made)
    unfolding read_call dict_call list_call set_call
    call_read (call.Dict place (dict.Get k)) h landed wide before mentioned makes = dict_is place of.Get (key_text strings k ∷ []) (dict.Get k) h.names.container next_known made refl makes (rw (key_in_back known made next_known k h.strings wide.1.0 mentioned) refl)
    call_read (call.Dict place (dict.GetOr k v)) h landed wide before mentioned makes = dict_is place of.GetOr (key_text strings k ∷ value_text strings v ∷ []) (dict.GetOr k v) h.names.container next_known made refl makes (rw (pair_in_back known made next_known k v h.strings.0 wide.1.0 h.strings.1 wide.1.1.0 mentioned) refl)
    call_read (call.Dict place (dict.Set k v)) h landed wide before mentioned makes = dict_is place of.Set (key_text strings k ∷ value_text strings v ∷ []) (dict.Set k v) h.names.container next_known made refl makes (rw (pair_in_back known made next_known k v h.strings.0 wide.1.0 h.strings.1 wide.1.1.0 mentioned) refl)
    call_read (call.Dict place (dict.Del k)) h landed wide before mentioned makes = dict_is place of.Del (key_text strings k ∷ []) (dict.Del k) h.names.container next_known made refl makes (rw (key_in_back known made next_known k h.strings wide.1.0 mentioned) refl)
    call_read (call.Dict place (dict.Pop k)) h landed wide before mentioned makes = dict_is place of.Pop (key_text strings k ∷ []) (dict.Pop k) h.names.container next_known made refl makes (rw (key_in_back known made next_known k h.strings wide.1.0 mentioned) refl)
    call_read (call.Dict place (dict.PopOr k v)) h landed wide before mentioned makes = dict_is place of.PopOr (key_text strings k ∷ value_text strings v ∷ []) (dict.PopOr k v) h.names.container next_known made refl makes (rw (pair_in_back known made next_known k v h.strings.0 wide.1.0 h.strings.1 wide.1.1.0 mentioned) refl)
    call_read (call.Dict place dict.PopItem) h landed wide before mentioned makes = dict_is place of.PopItem ([]) dict.PopItem h.names.container known made mentioned makes (rw (nothing_back) refl)
    call_read (call.Dict place (dict.SetDefault k v)) h landed wide before mentioned makes = dict_is place of.SetDefault (key_text strings k ∷ value_text strings v ∷ []) (dict.SetDefault k v) h.names.container next_known made refl makes (rw (pair_in_back known made next_known k v h.strings.0 wide.1.0 h.strings.1 wide.1.1.0 mentioned) refl)
    call_read (call.Dict place (dict.Has k)) h landed wide before mentioned makes = dict_is place of.Has (key_text strings k ∷ []) (dict.Has k) h.names.container next_known made refl makes (rw (key_in_back known made next_known k h.strings wide.1.0 mentioned) refl)
    call_read (call.Dict place dict.Len) h landed wide before mentioned makes = dict_is place of.Len ([]) dict.Len h.names.container known made mentioned makes (rw (nothing_back) refl)
    call_read (call.Dict place dict.Items) h landed wide before mentioned makes = dict_is place of.Items ([]) dict.Items h.names.container known made mentioned makes (rw (nothing_back) refl)
    call_read (call.Dict place (dict.Update o)) h landed wide before mentioned makes = dict_is place of.Update (container_name script o ∷ []) (dict.Update o) h.names.container known made mentioned makes (rw (other_in_back known made kind.Dict o refl h.names.second) refl)
    call_read (call.Dict place dict.Clear) h landed wide before mentioned makes = dict_is place of.Clear ([]) dict.Clear h.names.container known made mentioned makes (rw (nothing_back) refl)
    call_read (call.Dict place (dict.CopyTo o)) h landed wide before mentioned makes = dict_is place of.CopyTo (container_name script o ∷ []) (dict.CopyTo o) h.names.container known made mentioned makes (rw (other_in_back known made kind.Dict o refl h.names.second) refl)
    call_read (call.Dict place (dict.Eq o)) h landed wide before mentioned makes = dict_is place of.Eq (container_name script o ∷ []) (dict.Eq o) h.names.container known made mentioned makes (rw (other_in_back known made kind.Dict o refl h.names.second) refl)
    call_read (call.Dict place (dict.Iter c)) h landed wide before mentioned makes = dict_is place of.Iter (cursor_name script thread c ∷ []) (dict.Iter c) h.names.container known next_made mentioned refl (rw (made_in_back known made next_made c h.names.made makes) refl)
    call_read (call.Dict place (dict.KeysAnd o)) h landed wide before mentioned makes = absurd (false≢true landed)
    call_read (call.Dict place (dict.KeysSub o)) h landed wide before mentioned makes = absurd (false≢true landed)
    call_read (call.Dict place (dict.KeysOr o)) h landed wide before mentioned makes = absurd (false≢true landed)
    call_read (call.Dict place (dict.KeysXor o)) h landed wide before mentioned makes = absurd (false≢true landed)
    call_read (call.Dict place (dict.ItemsHas k v)) h landed wide before mentioned makes = absurd (false≢true landed)
    call_read (call.Dict place (dict.Reversed c)) h landed wide before mentioned makes = absurd (false≢true landed)
    call_read (call.List place (list.Append v)) h landed wide before mentioned makes = list_is place of.Append (value_text strings v ∷ []) (list.Append v) h.names.container next_known made refl makes (rw (value_in_back known made next_known v h.strings wide.1.0 mentioned) refl)
    call_read (call.List place (list.Insert i v)) h landed wide before mentioned makes = list_is place of.Insert (signed_decimal i ∷ value_text strings v ∷ []) (list.Insert i v) h.names.container next_known made refl makes (rw (index_value_back known made next_known i v wide.1.0 h.strings wide.1.1.0 mentioned) refl)
    call_read (call.List place (list.Get i)) h landed wide before mentioned makes = list_is place of.Get (signed_decimal i ∷ []) (list.Get i) h.names.container known made mentioned makes (rw (index_in_back i wide.1.0) refl)
    call_read (call.List place (list.Set i v)) h landed wide before mentioned makes = list_is place of.Set (signed_decimal i ∷ value_text strings v ∷ []) (list.Set i v) h.names.container next_known made refl makes (rw (index_value_back known made next_known i v wide.1.0 h.strings wide.1.1.0 mentioned) refl)
    call_read (call.List place (list.Del i)) h landed wide before mentioned makes = list_is place of.Del (signed_decimal i ∷ []) (list.Del i) h.names.container known made mentioned makes (rw (index_in_back i wide.1.0) refl)
    call_read (call.List place (list.Pop None)) h landed wide before mentioned makes = list_is place of.Pop ([]) (list.Pop None) h.names.container known made mentioned makes (rw (no_index_back) refl)
    call_read (call.List place (list.Pop (Some i))) h landed wide before mentioned makes = list_is place of.Pop (signed_decimal i ∷ []) (list.Pop (Some i)) h.names.container known made mentioned makes (rw (some_index_back i wide.1.0) refl)
    call_read (call.List place (list.Remove v)) h landed wide before mentioned makes = list_is place of.Remove (value_text strings v ∷ []) (list.Remove v) h.names.container next_known made refl makes (rw (value_in_back known made next_known v h.strings wide.1.0 mentioned) refl)
    call_read (call.List place (list.Index v)) h landed wide before mentioned makes = list_is place of.Index (value_text strings v ∷ []) (list.Index v) h.names.container next_known made refl makes (rw (value_in_back known made next_known v h.strings wide.1.0 mentioned) refl)
    call_read (call.List place (list.Count v)) h landed wide before mentioned makes = list_is place of.Count (value_text strings v ∷ []) (list.Count v) h.names.container next_known made refl makes (rw (value_in_back known made next_known v h.strings wide.1.0 mentioned) refl)
    call_read (call.List place (list.Has v)) h landed wide before mentioned makes = list_is place of.Has (value_text strings v ∷ []) (list.Has v) h.names.container next_known made refl makes (rw (value_in_back known made next_known v h.strings wide.1.0 mentioned) refl)
    call_read (call.List place list.Reverse) h landed wide before mentioned makes = list_is place of.Reverse ([]) list.Reverse h.names.container known made mentioned makes (rw (nothing_back) refl)
    call_read (call.List place (list.Extend o)) h landed wide before mentioned makes = list_is place of.Extend (container_name script o ∷ []) (list.Extend o) h.names.container known made mentioned makes (rw (other_in_back known made kind.List o refl h.names.second) refl)
    call_read (call.List place (list.Slice i j)) h landed wide before mentioned makes = list_is place of.Slice (signed_decimal i ∷ signed_decimal j ∷ []) (list.Slice i j) h.names.container known made mentioned makes (rw (indices_back i j wide.1.0 wide.1.1.0) refl)
    call_read (call.List place list.Clear) h landed wide before mentioned makes = list_is place of.Clear ([]) list.Clear h.names.container known made mentioned makes (rw (nothing_back) refl)
    call_read (call.List place list.Len) h landed wide before mentioned makes = list_is place of.Len ([]) list.Len h.names.container known made mentioned makes (rw (nothing_back) refl)
    call_read (call.List place list.Items) h landed wide before mentioned makes = list_is place of.Items ([]) list.Items h.names.container known made mentioned makes (rw (nothing_back) refl)
    call_read (call.List place (list.Eq o)) h landed wide before mentioned makes = list_is place of.Eq (container_name script o ∷ []) (list.Eq o) h.names.container known made mentioned makes (rw (other_in_back known made kind.List o refl h.names.second) refl)
    call_read (call.List place (list.Iter c)) h landed wide before mentioned makes = list_is place of.Iter (cursor_name script thread c ∷ []) (list.Iter c) h.names.container known next_made mentioned refl (rw (made_in_back known made next_made c h.names.made makes) refl)
    call_read (call.List place (list.Reversed c)) h landed wide before mentioned makes = absurd (false≢true landed)
    call_read (call.Set place (set.Add k)) h landed wide before mentioned makes = set_is place of.Add (key_text strings k ∷ []) (set.Add k) h.names.container next_known made refl makes (rw (key_in_back known made next_known k h.strings wide.1.0 mentioned) refl)
    call_read (call.Set place (set.Discard k)) h landed wide before mentioned makes = set_is place of.Discard (key_text strings k ∷ []) (set.Discard k) h.names.container next_known made refl makes (rw (key_in_back known made next_known k h.strings wide.1.0 mentioned) refl)
    call_read (call.Set place (set.Remove k)) h landed wide before mentioned makes = set_is place of.Remove (key_text strings k ∷ []) (set.Remove k) h.names.container next_known made refl makes (rw (key_in_back known made next_known k h.strings wide.1.0 mentioned) refl)
    call_read (call.Set place set.Pop) h landed wide before mentioned makes = set_is place of.Pop ([]) set.Pop h.names.container known made mentioned makes (rw (nothing_back) refl)
    call_read (call.Set place (set.Has k)) h landed wide before mentioned makes = set_is place of.Has (key_text strings k ∷ []) (set.Has k) h.names.container next_known made refl makes (rw (key_in_back known made next_known k h.strings wide.1.0 mentioned) refl)
    call_read (call.Set place set.Len) h landed wide before mentioned makes = set_is place of.Len ([]) set.Len h.names.container known made mentioned makes (rw (nothing_back) refl)
    call_read (call.Set place set.Items) h landed wide before mentioned makes = set_is place of.Items ([]) set.Items h.names.container known made mentioned makes (rw (nothing_back) refl)
    call_read (call.Set place (set.Eq o)) h landed wide before mentioned makes = set_is place of.Eq (container_name script o ∷ []) (set.Eq o) h.names.container known made mentioned makes (rw (other_in_back known made kind.Set o refl h.names.second) refl)
    call_read (call.Set place (set.Or o)) h landed wide before mentioned makes = set_is place of.Or (container_name script o ∷ []) (set.Or o) h.names.container known made mentioned makes (rw (other_in_back known made kind.Set o refl h.names.second) refl)
    call_read (call.Set place (set.And o)) h landed wide before mentioned makes = set_is place of.And (container_name script o ∷ []) (set.And o) h.names.container known made mentioned makes (rw (other_in_back known made kind.Set o refl h.names.second) refl)
    call_read (call.Set place (set.Sub o)) h landed wide before mentioned makes = set_is place of.Sub (container_name script o ∷ []) (set.Sub o) h.names.container known made mentioned makes (rw (other_in_back known made kind.Set o refl h.names.second) refl)
    call_read (call.Set place (set.Xor o)) h landed wide before mentioned makes = set_is place of.Xor (container_name script o ∷ []) (set.Xor o) h.names.container known made mentioned makes (rw (other_in_back known made kind.Set o refl h.names.second) refl)
    call_read (call.Set place (set.Subset o)) h landed wide before mentioned makes = set_is place of.Subset (container_name script o ∷ []) (set.Subset o) h.names.container known made mentioned makes (rw (other_in_back known made kind.Set o refl h.names.second) refl)
    call_read (call.Set place (set.Disjoint o)) h landed wide before mentioned makes = set_is place of.Disjoint (container_name script o ∷ []) (set.Disjoint o) h.names.container known made mentioned makes (rw (other_in_back known made kind.Set o refl h.names.second) refl)
    call_read (call.Set place set.Clear) h landed wide before mentioned makes = set_is place of.Clear ([]) set.Clear h.names.container known made mentioned makes (rw (nothing_back) refl)
    call_read (call.Set place (set.Iter c)) h landed wide before mentioned makes = set_is place of.Iter (cursor_name script thread c ∷ []) (set.Iter c) h.names.container known next_made mentioned refl (rw (made_in_back known made next_made c h.names.made makes) refl)
    call_read (call.Deque place inner) h landed wide before mentioned makes = absurd (false≢true landed)
    call_read (call.Next number) h landed wide before mentioned makes = by_word draft Next (cursor_name script thread number ∷ []) ∙ rw (cursor_in_back known made number h.names before) (moved_on (call.Next number) known made mentioned makes)
    call_read (call.Begin first None) h landed wide before mentioned makes = by_word draft Begin (container_name script first ∷ []) ∙ rw (section_one known made first h.names.0) (moved_on (call.Begin first None) known made mentioned makes)
    call_read (call.Begin first (Some second)) h landed wide before mentioned makes = by_word draft Begin (container_name script first ∷ container_name script second ∷ []) ∙ rw (section_two known made first second h.names.0 h.names.1) (moved_on (call.Begin first (Some second)) known made mentioned makes)
    call_read call.End h landed wide before mentioned makes = by_word draft End [] ∙ rw nothing_back (moved_on (call.End) known made mentioned makes)
    call_read call.Quiesce h landed wide before mentioned makes = by_word draft Quiesce [] ∙ rw nothing_back (moved_on (call.Quiesce) known made mentioned makes)
    call_read (call.Await other index) h landed wide before mentioned makes =
        by_word draft Await (call_place script other index ∷ [])
        ∙ await_said draft (call_place script other index) (other, index) before.0 (awaited_back draft (thread_name script other) index other (facts.thread_form other before.1) before.3 before.2 wide.0)
        ∙ moved_on (call.Await other index) known made mentioned makes
    call_read call.Dump h landed wide before mentioned makes = absurd (false≢true landed)

-- ---- a call in the whole script

-- what is known stays so
known_numbers : (script : ScriptParts) (thread : ℕ) (given : List Argument) → AllByRecursion (IsArgumentOf script thread) given → AreNumbered (length script.strings) (flat_map argument_mentions given) (length script.strings)
known_numbers script thread [] h = refl
known_numbers script thread (argument.Container place ∷ given) h = known_numbers script thread given h.1
known_numbers script thread (argument.Cursor number ∷ given) h = known_numbers script thread given h.1
known_numbers script thread (argument.Key (key.Int n) ∷ given) h = known_numbers script thread given h.1
known_numbers script thread (argument.Key (key.Text symbol) ∷ given) h = inl (h.0, known_numbers script thread given h.1)
known_numbers script thread (argument.Value value.Nothing ∷ given) h = known_numbers script thread given h.1
known_numbers script thread (argument.Value (value.Int n) ∷ given) h = known_numbers script thread given h.1
known_numbers script thread (argument.Value (value.Text symbol) ∷ given) h = inl (h.0, known_numbers script thread given h.1)
known_numbers script thread (argument.Index n ∷ given) h = known_numbers script thread given h.1
known_numbers script thread (argument.Call other index ∷ given) h = known_numbers script thread given h.1

known_listed : (made : ℕ) (number : Option ℕ) → IfSome number (λ n. n < made) → AreNumbered made (number_listed number) made
known_listed made None h = refl
known_listed made (Some number) h = inl (h, refl)

known_makes : (script : ScriptParts) (made : ℕ) (called : Call) → IsCallOf script made called → AreNumbered made (call_makes called) made
known_makes script made (call.Dict place inner) h = known_listed made (cursor_of_dict inner) h.names.made
known_makes script made (call.List place inner) h = known_listed made (cursor_of_list inner) h.names.made
known_makes script made (call.Set place inner) h = known_listed made (cursor_of_set inner) h.names.made
known_makes script made (call.Deque place inner) h = known_listed made (cursor_of_deque inner) h.names.made
known_makes script made (call.Next number) h = refl
known_makes script made (call.Begin first second) h = refl
known_makes script made call.End h = refl
known_makes script made call.Quiesce h = refl
known_makes script made (call.Await other index) h = refl
known_makes script made call.Dump h = refl

next_known : (script : ScriptParts) (thread made : ℕ) (called : Call) → Declares script thread → IsCallOf script made called → MayAwait (has_awaits script.threads) (length script.threads) called → IsKnown script (draft_with_all script) made called
next_known script thread made (call.Next number) facts h may = h.names
next_known script thread made (call.Await other index) facts h may =
    (may.0, may.1, may.2, named_place script.threads (thread_name script other) ∙ facts.thread_is other may.1)
next_known script thread made other facts h may = tt

abbrev whole : ScriptParts → ℕ → List (List ℕ) → List (List ℕ) → Draft
whole script thread strings cursors = record (draft_with_all script) { strings = strings; cursors = cursors }

all_stands : (script : ScriptParts) (thread : ℕ) → Declares script thread → standing script thread (draft_with_all script) (length script.strings) (cursors_of script thread) ≡ draft_at script thread
all_stands script thread facts =
    let cursors : List (List ℕ) = cursors_at script thread in
    let every : length cursors ≡ cursors_of script thread = facts.cursors_counted in
    ap (λ (l : List (List ℕ)). whole script thread l (take (cursors_of script thread) cursors)) (take_all (length script.strings) script.strings (omega arith))
    ∙ ap (λ (l : List (List ℕ)). whole script thread script.strings l) (take_all (cursors_of script thread) cursors (omega arith))

abbrev called_at : Call → Draft → Result (Call × Draft) Fault
called_at called draft = Ok (called, draft)

pub call_back : (script : ScriptParts) (thread : ℕ) → Declares script thread → (called : Call) → IsCallOf script (cursors_of script thread) called → is_landed_call called ≡ true → IsWideCall called → MayAwait (has_awaits script.threads) (length script.threads) called → just_call (draft_at script thread) (call_words script thread called) ≡ Ok (called, draft_at script thread)
call_back script thread facts called h landed wide may =
    let strings : ℕ = length script.strings in
    let cursors : ℕ = cursors_of script thread in
    let stands : standing script thread (draft_with_all script) strings cursors ≡ draft_at script thread = all_stands script thread facts in
    ap (λ (d : Draft). just_call d (call_words script thread called)) (sym stands)
    ∙ call_read script thread facts (draft_with_all script) strings cursors strings cursors called h landed wide (next_known script thread cursors called facts h may) (known_numbers script thread (call_form called).arguments (arguments_are script thread called h)) (known_makes script cursors called h)
    ∙ ap (called_at called) stands
