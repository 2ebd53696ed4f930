-- A call that takes a table can lack one: it can put something new into a container, or take a pair out of a split dict,
-- and raises nothing else.
use Rattle.std.proofs.Common.{◌≡◌, ℕ, zero, suc, true, false, not, List, [], ◌∷◌, length, map, set, Option, Some, None, refl, sym, ap, ◌∙◌, arith, inl, inr}
use Rattle.std.specs.Prelude.{◌⊎◌, ◌-◌, ◌==◌, nat_lt, slice_get, if◌then◌else◌}
use Rattle.std.specs.Option.{option_map_or}
use Rattle.std.proofs.lemmas.Bool.{and_from, cases_lt, eq-eqb, false≢true}
use Rattle.std.proofs.lemmas.List.{get_or_past, get_or-set_same, length-set}
use Rattle.std.proofs.lemmas.Option.{none-some}
use Rattle.ft_model.specs.declared.call.Call.{Call}
use Rattle.ft_model.specs.declared.call.Call.TheVariants as call
use Rattle.ft_model.specs.declared.call.DictCall.{DictCall}
use Rattle.ft_model.specs.declared.call.DictCall.TheVariants as dict
use Rattle.ft_model.specs.declared.call.TableChange.{TableChange}
use Rattle.ft_model.specs.declared.call.TableChange.TheVariants as change
use Rattle.ft_model.specs.declared.content.Content.{Content}
use Rattle.ft_model.specs.declared.content.Content.TheVariants as content
use Rattle.ft_model.specs.declared.content.DictPair.{DictPair}
use Rattle.ft_model.specs.declared.data.Key.{Key}
use Rattle.ft_model.specs.declared.data.Value.{Value}
use Rattle.ft_model.specs.declared.reply.Reply.{Reply}
use Rattle.ft_model.specs.declared.reply.Reply.TheVariants as reply
use Rattle.ft_model.specs.declared.reply.Raise.TheVariants as raise
use Rattle.ft_model.specs.declared.script.Start.{Start}
use Rattle.ft_model.specs.Answers.{Answer, after_write, answer, answer_dict, is_raised, puts, shows, without_last}
use Rattle.ft_model.specs.Calls.{adds, can_add, dict_change, list_change, set_change, deque_change}
use Rattle.ft_model.specs.Classes.{dict_class}
use Rattle.ft_model.specs.Contents.{dict_clear, dict_del, dict_get, empty_dict, has_key}
use Rattle.ft_model.specs.TableUses.{CanLackLeaving, CanLackMemory, StoredWorld, can_leave_split, change_takes, copy_takes, dict_takes, empty_stored, is_split, leaving_takes, split_takes, start_table, stored_by, table_at, takes_in, takes_out}
use Rattle.ft_model.specs.Worlds.{dict_at, dict_of, no_hands, start_in}
use Rattle.ft_model.proofs.AddingLaws.{adding_raises}
use Rattle.ft_model.proofs.SplitLaws.{never_again}

change_adds : (changes : TableChange) (grown copied : Option ℕ) (class : ℕ) → change_takes changes grown copied ≡ Some class → adds changes ≡ true
change_adds change.Stays grown copied class takes = absurd (none-some class takes)
change_adds change.Grows grown copied class takes = refl
change_adds (change.CopiesTo other) grown copied class takes = refl
change_adds change.GivesUp grown copied class takes = absurd (none-some class takes)

-- ---- split dicts

-- after an answer the dict at a place takes no table, or the answer is no exception
abbrev RaisesNothing : List Content → ℕ → ℕ → Answer → Type 0
RaisesNothing world place class answered =
    (if not (length (dict_at answered.world place).pairs == length (dict_at world place).pairs) then leaving_takes (dict_at answered.world place) else None) ≡ Some class
    → is_raised answered.reply ≡ false

module _ (world : List Content) (place class : ℕ) where
  unchanged : (said : Reply) → RaisesNothing world place class (shows world no_hands said)
  unchanged said takes =
      let pairs = (dict_at world place).pairs in
      let none : None ≡ Some class = sym (ap (λ b. if not b then leaving_takes (dict_at world place) else None) (eq-eqb (length pairs) (length pairs) refl)) ∙ takes in
      absurd (none-some class none)

  del_raises : (key : Key) → RaisesNothing world place class (answer_dict world no_hands place (dict_at world place) (dict.Del key))
  del_raises key =
      let old = dict_at world place in
      elim (has_key old.pairs key) as (λ b. RaisesNothing world place class (if b then puts world no_hands place (content.Dict (dict_del old key)) reply.Done else shows world no_hands (reply.Raised raise.NoKey))) [
        | true ↦ λ takes. refl
        | false ↦ unchanged (reply.Raised raise.NoKey)
      ]

  pop_raises : (key : Key) (otherwise : Reply) → RaisesNothing world place class (option_map_or (λ (v : Value). puts world no_hands place (content.Dict (dict_del (dict_at world place) key)) (reply.Value v)) (dict_get (dict_at world place).pairs key) (shows world no_hands otherwise))
  pop_raises key otherwise =
      let old = dict_at world place in
      elim (dict_get old.pairs key) as (λ o. RaisesNothing world place class (option_map_or (λ (v : Value). puts world no_hands place (content.Dict (dict_del old key)) (reply.Value v)) o (shows world no_hands otherwise))) [
        | None ↦ unchanged otherwise
        | Some v ↦ λ takes. refl
      ]

  pop_item_raises : RaisesNothing world place class (answer_dict world no_hands place (dict_at world place) dict.PopItem)
  pop_item_raises =
      let old = dict_at world place in
      elim (slice_get old.pairs (length old.pairs - 1)) as (λ o. RaisesNothing world place class (option_map_or (λ (pair : DictPair). puts world no_hands place (content.Dict (without_last old)) (reply.Pair pair.key pair.value)) o (shows world no_hands (reply.Raised raise.NoKey)))) [
        | None ↦ unchanged (reply.Raised raise.NoKey)
        | Some pair ↦ λ takes. refl
      ]

  -- a dict that was cleared is empty
  cleared : length (dict_at (set world place (content.Dict (dict_clear (dict_at world place)))) place).pairs ≡ 0
  cleared =
      let left = set world place (content.Dict (dict_clear (dict_at world place))) in
      elim (cases_lt place (length world)) [
        | inl low ↦ ap (λ (there : Content). length (dict_of there).pairs) (get_or-set_same world place (content.Dict (dict_clear (dict_at world place))) (content.Dict empty_dict) low)
        | inr past ↦ ap (λ (there : Content). length (dict_of there).pairs) (get_or_past left place (content.Dict empty_dict) (let long = length-set world place (content.Dict (dict_clear (dict_at world place))) in omega (arith, long, past)))
      ]

-- what a call is that takes a table
abbrev CanTake : List Content → Call → Type 0 → Type 0
CanTake world called leaves = (can_add called ≡ true) ⊎ (leaves × (is_raised (answer world no_hands called).reply ≡ false))

split_can : (world : List Content) (place : ℕ) (keys : List Key) (called : DictCall) (class : ℕ) → split_takes keys called (dict_at world place) (dict_at (after_write world (call.Dict place called)) place) ≡ Some class → CanTake world (call.Dict place called) (takes_out called ≡ true)
split_can world place keys (dict.Set key value) class takes = inl refl
split_can world place keys (dict.SetDefault key default) class takes = inl refl
split_can world place keys (dict.Update other) class takes = inl refl
split_can world place keys (dict.CopyTo other) class takes = inl refl
split_can world place keys (dict.Del key) class takes = inr (refl, del_raises world place class key takes)
split_can world place keys (dict.Pop key) class takes = inr (refl, pop_raises world place class key (reply.Raised raise.NoKey) takes)
split_can world place keys (dict.PopOr key default) class takes = inr (refl, pop_raises world place class key (reply.Value default) takes)
split_can world place keys dict.PopItem class takes = inr (refl, pop_item_raises world place class takes)
split_can world place keys dict.Clear class takes =
    let none : None ≡ Some class = sym (ap (λ n. if nat_lt 0 n then Some (dict_class n) else None) (cleared world place class)) ∙ takes in
    absurd (none-some class none)
split_can world place keys _ class takes = absurd (none-some class takes)

-- ---- any call

takes_can : (stored : StoredWorld) (called : Call) (class : ℕ) → takes_in stored called ≡ Some class → (starts : List Start) → ((place : ℕ) → is_split (table_at stored.tables place).keys ≡ true → is_split (start_in starts place).keys ≡ true) → CanTake stored.world called (can_leave_split starts called ≡ true)
takes_can stored (call.Dict place c) class takes starts split =
    let T = table_at stored.tables place in
    let before = dict_at stored.world place in
    let after = dict_at (after_write stored.world (call.Dict place c)) place in
    elim (is_split T.keys) as (λ b. is_split T.keys ≡ b → (if b then split_takes T.keys c before after else change_takes (dict_change c) (dict_takes T before after) (copy_takes (length before.pairs))) ≡ Some class → CanTake stored.world (call.Dict place c) (can_leave_split starts (call.Dict place c) ≡ true)) [
      | true ↦ λ here some.
          elim (split_can stored.world place T.keys c class some) [
            | inl can ↦ inl can
            | inr out ↦ inr (and_from (takes_out c) (is_split (start_in starts place).keys) out.0 (split place here), out.1)
          ]
      | false ↦ λ whole some. inl (change_adds (dict_change c) (dict_takes T before after) (copy_takes (length before.pairs)) class some)
    ] refl takes
takes_can stored (call.List place c) class takes starts split = inl (change_adds (list_change c) _ None class takes)
takes_can stored (call.Set place c) class takes starts split = inl (change_adds (set_change c) _ None class takes)
takes_can stored (call.Deque place c) class takes starts split = inl (change_adds (deque_change c) _ None class takes)
takes_can stored _ class takes starts split = absurd (none-some class takes)

keys_at_start : (starts : List Start) (place : ℕ) → (table_at (map start_table starts) place).keys ≡ (start_in starts place).keys
keys_at_start [] place = refl
keys_at_start (first ∷ starts) zero = refl
keys_at_start (first ∷ starts) (suc place) = keys_at_start starts place

-- a dict that is split started so
split_from_start : (starts : List Start) (calls : List Call) (place : ℕ) → is_split (table_at (stored_by starts calls).tables place).keys ≡ true → is_split (start_in starts place).keys ≡ true
split_from_start starts calls place split =
    elim (start_in starts place).keys as (λ (keys : List Key). (start_in starts place).keys ≡ keys → is_split keys ≡ true) [
      | [] ↦ λ none. absurd (false≢true (sym (ap is_split (never_again calls (empty_stored starts) place (keys_at_start starts place ∙ none))) ∙ split))
      | key ∷ keys ↦ λ some. refl
    ] refl

pub can_lack : (starts : List Start) (calls : List Call) (called : Call) (class : ℕ) → takes_in (stored_by starts calls) called ≡ Some class → CanLackMemory (stored_by starts calls).world called ⊎ CanLackLeaving starts (stored_by starts calls).world called
can_lack starts calls called class takes =
    elim (takes_can (stored_by starts calls) called class takes starts (split_from_start starts calls)) [
      | inl can ↦ inl (record { adds = can; raises_nothing = adding_raises (stored_by starts calls).world no_hands called can })
      | inr leaves ↦ inr (record { leaves = leaves.0; raises_nothing = leaves.1 })
    ]
