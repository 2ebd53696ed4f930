-- What a call that is no `iter` or `next` answers, whatever cursors its thread has.
use Rattle.std.proofs.Common.{◌≡◌, ℕ, List, length, refl}
use Rattle.std.specs.Prelude.{Bool, true, false, Option, Some, None, ◌-◌, slice_get, negsuc, if◌then◌else◌}
use Rattle.std.specs.Option.{option_map_or, unwrap_or}
use Rattle.ft_model.specs.declared.call.Call.{Call}
use Rattle.ft_model.specs.declared.call.Call.TheVariants as call
use Rattle.ft_model.specs.declared.call.DictCall.{DictCall}
use Rattle.ft_model.specs.declared.call.DictCall.TheVariants as dict
use Rattle.ft_model.specs.declared.call.ListCall.{ListCall}
use Rattle.ft_model.specs.declared.call.ListCall.TheVariants as list
use Rattle.ft_model.specs.declared.call.SetCall.{SetCall}
use Rattle.ft_model.specs.declared.call.SetCall.TheVariants as set
use Rattle.ft_model.specs.declared.call.DequeCall.{DequeCall}
use Rattle.ft_model.specs.declared.call.DequeCall.TheVariants as deque
use Rattle.ft_model.specs.declared.content.Content.{Content}
use Rattle.ft_model.specs.declared.cursor.Cursor.{Cursor}
use Rattle.ft_model.specs.declared.data.Value.{Value}
use Rattle.ft_model.specs.Answers.{Answer, answer, answer_dict, answer_list, answer_set, answer_deque}
use Rattle.ft_model.specs.Calls.{moved_cursor, cursor_of_dict, cursor_of_list, cursor_of_set, cursor_of_deque}
use Rattle.ft_model.specs.Contents.{DictContent, SetContent, dict_get, has_key, has_element}
use Rattle.ft_model.specs.Deques.{DequeContent, last_item, first_item, deque_get}
use Rattle.ft_model.specs.Lists.{index_in, index_of}
use Rattle.ft_model.specs.Worlds.{no_hands, dict_at, list_at, set_at, deque_at}

-- the answer with these hands left in place of what it leaves
abbrev pub with_hands : List (Option Cursor) → Answer → Answer
with_hands hands a = record { reply = a.reply; world = a.world; hands = hands }

module _ (hands : List (Option Cursor)) where
  found : {X : Type 0} (f g : X → Answer) (o : Option X) (m n : Answer) → ((x : X) → f x ≡ with_hands hands (g x)) → m ≡ with_hands hands n → option_map_or f o m ≡ with_hands hands (option_map_or g o n)
  found f g None m n some none = none
  found f g (Some x) m n some none = some x

  either : (b : Bool) (one other m n : Answer) → one ≡ with_hands hands m → other ≡ with_hands hands n → (if b then one else other) ≡ with_hands hands (if b then m else n)
  either true one other m n first second = first
  either false one other m n first second = second

  module _ (world : List Content) (place : ℕ) where
    plain_dict : (old : DictContent) (c : DictCall) → cursor_of_dict c ≡ None → answer_dict world hands place old c ≡ with_hands hands (answer_dict world no_hands place old c)
    plain_dict old (dict.Get key) none = found _ _ (dict_get old.pairs key) _ _ (λ v. refl) refl
    plain_dict old (dict.Del key) none = either (has_key old.pairs key) _ _ _ _ refl refl
    plain_dict old (dict.Pop key) none = found _ _ (dict_get old.pairs key) _ _ (λ v. refl) refl
    plain_dict old (dict.PopOr key default) none = found _ _ (dict_get old.pairs key) _ _ (λ v. refl) refl
    plain_dict old dict.PopItem none = found _ _ (slice_get old.pairs (length old.pairs - 1)) _ _ (λ v. refl) refl
    plain_dict old (dict.SetDefault key default) none = found _ _ (dict_get old.pairs key) _ _ (λ v. refl) refl
    plain_dict old (dict.Iter m) none = absurd (cc)
    plain_dict old (dict.Reversed m) none = absurd (cc)
    plain_dict old c none = refl

    plain_list : (items : List Value) (c : ListCall) → cursor_of_list c ≡ None → answer_list world hands place items c ≡ with_hands hands (answer_list world no_hands place items c)
    plain_list items (list.Get index) none = found _ _ (index_in (length items) index) _ _ (λ v. refl) refl
    plain_list items (list.Set index value) none = found _ _ (index_in (length items) index) _ _ (λ v. refl) refl
    plain_list items (list.Del index) none = found _ _ (index_in (length items) index) _ _ (λ v. refl) refl
    plain_list items (list.Pop index) none = found _ _ (index_in (length items) (unwrap_or index (negsuc 0))) _ _ (λ v. refl) refl
    plain_list items (list.Remove value) none = found _ _ (index_of items value) _ _ (λ v. refl) refl
    plain_list items (list.Index value) none = found _ _ (index_of items value) _ _ (λ v. refl) refl
    plain_list items (list.Iter m) none = absurd (cc)
    plain_list items (list.Reversed m) none = absurd (cc)
    plain_list items c none = refl

    plain_set : (old : SetContent) (c : SetCall) → cursor_of_set c ≡ None → answer_set world hands place old c ≡ with_hands hands (answer_set world no_hands place old c)
    plain_set old (set.Remove key) none = either (has_element old.elements key) _ _ _ _ refl refl
    plain_set old set.Pop none = found _ _ (slice_get old.elements 0) _ _ (λ v. refl) refl
    plain_set old (set.Iter m) none = absurd (cc)
    plain_set old c none = refl

    plain_deque : (old : DequeContent) (c : DequeCall) → cursor_of_deque c ≡ None → answer_deque world hands place old c ≡ with_hands hands (answer_deque world no_hands place old c)
    plain_deque old deque.Pop none = found _ _ (last_item old.items) _ _ (λ v. refl) refl
    plain_deque old deque.PopLeft none = found _ _ (first_item old.items) _ _ (λ v. refl) refl
    plain_deque old (deque.Get index) none = found _ _ (deque_get old.items index) _ _ (λ v. refl) refl
    plain_deque old (deque.Iter m) none = absurd (cc)
    plain_deque old c none = refl

  -- it answers the same to every thread, and leaves its cursors
  pub plain_answer : (world : List Content) (c : Call) → moved_cursor c ≡ None → answer world hands c ≡ with_hands hands (answer world no_hands c)
  plain_answer world (call.Dict o c) none = plain_dict world o (dict_at world o) c none
  plain_answer world (call.List o c) none = plain_list world o (list_at world o) c none
  plain_answer world (call.Set o c) none = plain_set world o (set_at world o) c none
  plain_answer world (call.Deque o c) none = plain_deque world o (deque_at world o) c none
  plain_answer world (call.Next m) none = absurd (cc)
  plain_answer world (call.Begin a b) none = refl
  plain_answer world call.End none = refl
  plain_answer world call.Quiesce none = refl
  plain_answer world (call.Await thread index) none = refl
  plain_answer world call.Dump none = refl
