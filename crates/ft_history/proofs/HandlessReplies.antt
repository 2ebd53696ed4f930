-- What a call replies, for all hands.
use Rattle.std.proofs.Common.{◌≡◌, ◌≢◌, ℕ, ◌-◌, Bool, true, false, List, length, Option, Some, None, refl, cond, negsuc}
use Rattle.std.specs.Option.{option_map_or, unwrap_or}
use Rattle.std.specs.Prelude.{slice_get}
use Rattle.ft_model.specs.declared.call.Call.{Call}
use Rattle.ft_model.specs.declared.call.Call.TheVariants as call
use Rattle.ft_model.specs.declared.call.DictCall.{DictCall}
use Rattle.ft_model.specs.declared.call.DictCall.TheVariants as dict
use Rattle.ft_model.specs.declared.call.ListCall.{ListCall}
use Rattle.ft_model.specs.declared.call.ListCall.TheVariants as list
use Rattle.ft_model.specs.declared.call.SetCall.{SetCall}
use Rattle.ft_model.specs.declared.call.SetCall.TheVariants as set
use Rattle.ft_model.specs.declared.call.DequeCall.{DequeCall}
use Rattle.ft_model.specs.declared.call.DequeCall.TheVariants as deque
use Rattle.ft_model.specs.declared.content.Content.{Content}
use Rattle.ft_model.specs.declared.cursor.Cursor.{Cursor}
use Rattle.ft_model.specs.declared.data.Value.{Value}
use Rattle.ft_model.specs.Answers.{Answer, answer, answer_dict, answer_list, answer_set, answer_deque}
use Rattle.ft_model.specs.Contents.{DictContent, SetContent, dict_get, has_key, has_element}
use Rattle.ft_model.specs.Lists.{index_in, index_of}
use Rattle.ft_model.specs.Deques.{DequeContent, last_item, first_item, deque_get}
use Rattle.ft_model.specs.Worlds.{dict_at, list_at, set_at, deque_at, no_hands}

by_found : {X : Type 0} (found : Option X) (f g : X → Answer) (a b : Answer) → ((x : X) → (f x).reply ≡ (g x).reply) → a.reply ≡ b.reply → (option_map_or f found a).reply ≡ (option_map_or g found b).reply
by_found None f g a b same missing = missing
by_found (Some x) f g a b same missing = same x

by_test : (there : Bool) (a b c d : Answer) → a.reply ≡ b.reply → c.reply ≡ d.reply → (cond there a c).reply ≡ (cond there b d).reply
by_test true a b c d one other = one
by_test false a b c d one other = other

module _ (world : List Content) (hands : List (Option Cursor)) (place : ℕ) where
  dict_reply : (old : DictContent) (called : DictCall) → (answer_dict world hands place old called).reply ≡ (answer_dict world no_hands place old called).reply
  dict_reply old (dict.Get key) = by_found (dict_get old.pairs key) _ _ _ _ (λ _. refl) refl
  dict_reply old (dict.Del key) = by_test (has_key old.pairs key) _ _ _ _ refl refl
  dict_reply old (dict.Pop key) = by_found (dict_get old.pairs key) _ _ _ _ (λ _. refl) refl
  dict_reply old (dict.PopOr key default) = by_found (dict_get old.pairs key) _ _ _ _ (λ _. refl) refl
  dict_reply old dict.PopItem = by_found (slice_get old.pairs (length old.pairs - 1)) _ _ _ _ (λ _. refl) refl
  dict_reply old (dict.SetDefault key default) = by_found (dict_get old.pairs key) _ _ _ _ (λ _. refl) refl
  dict_reply old called = refl

  list_reply : (items : List Value) (called : ListCall) → (answer_list world hands place items called).reply ≡ (answer_list world no_hands place items called).reply
  list_reply items (list.Get index) = by_found (index_in (length items) index) _ _ _ _ (λ _. refl) refl
  list_reply items (list.Set index value) = by_found (index_in (length items) index) _ _ _ _ (λ _. refl) refl
  list_reply items (list.Del index) = by_found (index_in (length items) index) _ _ _ _ (λ _. refl) refl
  list_reply items (list.Pop index) = by_found (index_in (length items) (unwrap_or index (negsuc 0))) _ _ _ _ (λ _. refl) refl
  list_reply items (list.Remove value) = by_found (index_of items value) _ _ _ _ (λ _. refl) refl
  list_reply items (list.Index value) = by_found (index_of items value) _ _ _ _ (λ _. refl) refl
  list_reply items called = refl

  set_reply : (old : SetContent) (called : SetCall) → (answer_set world hands place old called).reply ≡ (answer_set world no_hands place old called).reply
  set_reply old (set.Remove key) = by_test (has_element old.elements key) _ _ _ _ refl refl
  set_reply old set.Pop = by_found (slice_get old.elements 0) _ _ _ _ (λ _. refl) refl
  set_reply old called = refl

  deque_reply : (old : DequeContent) (called : DequeCall) → (answer_deque world hands place old called).reply ≡ (answer_deque world no_hands place old called).reply
  deque_reply old deque.Pop = by_found (last_item old.items) _ _ _ _ (λ _. refl) refl
  deque_reply old deque.PopLeft = by_found (first_item old.items) _ _ _ _ (λ _. refl) refl
  deque_reply old (deque.Get index) = by_found (deque_get old.items index) _ _ _ _ (λ _. refl) refl
  deque_reply old called = refl

pub same_reply : (world : List Content) (hands : List (Option Cursor)) (called : Call) → ((number : ℕ) → called ≢ call.Next number) → (answer world hands called).reply ≡ (answer world no_hands called).reply
same_reply world hands (call.Dict place dict_call) other = dict_reply world hands place (dict_at world place) dict_call
same_reply world hands (call.List place list_call) other = list_reply world hands place (list_at world place) list_call
same_reply world hands (call.Set place set_call) other = set_reply world hands place (set_at world place) set_call
same_reply world hands (call.Deque place deque_call) other = deque_reply world hands place (deque_at world place) deque_call
same_reply world hands (call.Next number) other = absurd (other number refl)
same_reply world hands called other = refl
