-- A call that can put something new into a container raises nothing but a MemoryError.
use Rattle.std.proofs.Common.{◌≡◌, ℕ, true, false, List, Option, Some, None, refl}
use Rattle.std.proofs.lemmas.Bool.{false≢true}
use Rattle.std.specs.Option.{option_map_or}
use Rattle.ft_model.specs.declared.call.Call.{Call}
use Rattle.ft_model.specs.declared.call.Call.TheVariants as call
use Rattle.ft_model.specs.declared.call.DictCall.{DictCall}
use Rattle.ft_model.specs.declared.call.DictCall.TheVariants as dict
use Rattle.ft_model.specs.declared.call.ListCall.{ListCall}
use Rattle.ft_model.specs.declared.call.ListCall.TheVariants as list
use Rattle.ft_model.specs.declared.call.SetCall.{SetCall}
use Rattle.ft_model.specs.declared.call.SetCall.TheVariants as set_call
use Rattle.ft_model.specs.declared.call.DequeCall.{DequeCall}
use Rattle.ft_model.specs.declared.call.DequeCall.TheVariants as deque
use Rattle.ft_model.specs.Deques.{DequeContent}
use Rattle.ft_model.specs.declared.data.Value.{Value}
use Rattle.ft_model.specs.Answers.{Answer, answer, answer_dict, answer_list, answer_set, answer_deque, is_raised}
use Rattle.ft_model.specs.Calls.{adds, can_add, dict_change, list_change, set_change, deque_change}
use Rattle.ft_model.specs.Contents.{DictContent, SetContent, dict_get}
use Rattle.ft_model.specs.Worlds.{WorldContent, HandsContent, dict_at, list_at, set_at, deque_at}

module _ (world : WorldContent) (hands : HandsContent) (place : ℕ) where
  either : (found : Option Value) (f : Value → Answer) (none : Answer) → ((v : Value) → is_raised (f v).reply ≡ false) → is_raised none.reply ≡ false → is_raised (option_map_or f found none).reply ≡ false
  either None f none some without = without
  either (Some v) f none some without = some v

  dict_raises : (old : DictContent) (called : DictCall) → adds (dict_change called) ≡ true → is_raised (answer_dict world hands place old called).reply ≡ false
  dict_raises old (dict.Set key value) can = refl
  dict_raises old (dict.SetDefault key default) can = either (dict_get old.pairs key) _ _ (λ v. refl) refl
  dict_raises old (dict.Update other) can = refl
  dict_raises old (dict.CopyTo other) can = refl
  dict_raises old _ can = absurd (false≢true can)

  list_raises : (items : List Value) (called : ListCall) → adds (list_change called) ≡ true → is_raised (answer_list world hands place items called).reply ≡ false
  list_raises items (list.Append value) can = refl
  list_raises items (list.Insert index value) can = refl
  list_raises items (list.Extend other) can = refl
  list_raises items _ can = absurd (false≢true can)

  set_raises : (old : SetContent) (called : SetCall) → adds (set_change called) ≡ true → is_raised (answer_set world hands place old called).reply ≡ false
  set_raises old (set_call.Add key) can = refl
  set_raises old (set_call.Or other) can = refl
  set_raises old (set_call.Xor other) can = refl
  set_raises old _ can = absurd (false≢true can)

  deque_raises : (old : DequeContent) (called : DequeCall) → adds (deque_change called) ≡ true → is_raised (answer_deque world hands place old called).reply ≡ false
  deque_raises old (deque.Append value) can = refl
  deque_raises old (deque.AppendLeft value) can = refl
  deque_raises old (deque.Extend other) can = refl
  deque_raises old (deque.ExtendLeft other) can = refl
  deque_raises old _ can = absurd (false≢true can)

pub adding_raises : (world : WorldContent) (hands : HandsContent) (called : Call) → can_add called ≡ true → is_raised (answer world hands called).reply ≡ false
adding_raises world hands (call.Dict place dict_call) can = dict_raises world hands place (dict_at world place) dict_call can
adding_raises world hands (call.List place list_call) can = list_raises world hands place (list_at world place) list_call can
adding_raises world hands (call.Set place set_call) can = set_raises world hands place (set_at world place) set_call can
adding_raises world hands (call.Deque place deque_call) can = deque_raises world hands place (deque_at world place) deque_call can
adding_raises world hands _ can = absurd (false≢true can)
