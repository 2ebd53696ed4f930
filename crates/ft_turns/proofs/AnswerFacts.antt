-- What every answer says and leaves.
use Rattle.std.proofs.Common.{map, ◌≡◌, ℕ, ◌-◌, ◌<◌, ◌≤◌, Bool, true, false, not, List, [], ◌∷◌, length, get_or, reverse, Option, None, Some, refl, sym, ap, subst, ◌∙◌, inl, inr, zero, suc}
use Rattle.std.specs.Prelude.{◌⊎◌, if◌then◌else◌, All, slice_get, slice_set, slice_index_or, ◌&&◌, ◌==◌, IfSome}
use Rattle.std.specs.Option.{option_map_or}
use Rattle.std.proofs.lemmas.Bool.{true≢false, false≢true, cases_eq, cases_lt, eq-eqb, ne_eqb}
use Rattle.std.proofs.lemmas.Option.{none-some, same_Some}
use Rattle.std.proofs.lemmas.List.{length-set, get_or-set_same, get_or-set_other, get_or_past}
use Rattle.std.proofs.lemmas.List.Elements.{All-nil, All-map, All-set, All-weaker}
use Rattle.ft_model.specs.declared.data.Key.{Key}
use Rattle.ft_model.specs.declared.data.Key.TheVariants as key
use Rattle.ft_model.specs.declared.data.Value.{Value}
use Rattle.ft_model.specs.declared.call.Call.{Call}
use Rattle.ft_model.specs.declared.call.Call.TheVariants as call
use Rattle.ft_model.specs.declared.call.DictCall.{DictCall}
use Rattle.ft_model.specs.declared.call.DictCall.TheVariants as dict
use Rattle.ft_model.specs.declared.call.ListCall.{ListCall}
use Rattle.ft_model.specs.declared.call.ListCall.TheVariants as list
use Rattle.ft_model.specs.declared.call.SetCall.{SetCall}
use Rattle.ft_model.specs.declared.call.SetCall.TheVariants as set
use Rattle.ft_model.specs.declared.call.DequeCall.{DequeCall}
use Rattle.ft_model.specs.declared.call.DequeCall.TheVariants as deque
use Rattle.ft_model.specs.declared.reply.Reply.{Reply}
use Rattle.ft_model.specs.declared.reply.Reply.TheVariants as reply
use Rattle.ft_model.specs.declared.reply.Shown.{Shown}
use Rattle.ft_model.specs.declared.reply.Shown.TheVariants as in_dump
use Rattle.ft_model.specs.declared.reply.Raise.TheVariants as raise
use Rattle.ft_model.specs.declared.content.Content.{Content}
use Rattle.ft_model.specs.declared.content.Content.TheVariants as content
use Rattle.ft_model.specs.declared.content.DictPair.{DictPair}
use Rattle.ft_model.specs.declared.content.Element.{Element}
use Rattle.ft_model.specs.declared.cursor.Cursor.{Cursor}
use Rattle.ft_model.specs.declared.cursor.Cursor.TheVariants as cursor
use Rattle.ft_model.specs.declared.cursor.CursorState.{CursorState}
use Rattle.ft_model.specs.declared.cursor.CursorState.TheVariants as walk
use Rattle.ft_model.specs.Calls.{is_changing, one_or_two, containers_of, other_dict, other_list, other_set, other_deque, cursor_of_dict, cursor_of_list, cursor_of_set, cursor_of_deque}
use Rattle.ft_model.specs.Contents.{empty_dict, empty_set}
use Rattle.ft_model.specs.Cursors.{CursorStep, is_after, next_pair, dict_walk, dict_next, next_element, set_walk, set_next, list_walk, list_next, deque_walk, deque_next, is_before, prior_pair, dict_back_walk, dict_back_next, list_back_walk, list_back_next}
use Rattle.ft_model.specs.declared.script.Kind.{Kind}
use Rattle.ft_model.specs.declared.script.Kind.TheVariants as kind
use Rattle.ft_model.specs.Worlds.{IsOfKind, kind_of, cursor_kind, dict_of, list_of, set_of, deque_of, dict_at, list_at, set_at, deque_at, cursor_at, container_of, no_hands}
use Rattle.ft_model.specs.Keys.{as_value}
use Rattle.ft_model.specs.Landed.{is_landed_call}
use Rattle.ft_model.specs.Scripts.{IsKeyOf, IsValueOf, cursor_of}
use Rattle.ft_model.specs.Parts.{IsReplyOf, IsShownOf, IsContentOf}
use Rattle.ft_model.specs.Deques.{DequeContent, empty_deque}
use Rattle.ft_model.specs.Answers.{Answer, shows, moves, answer_dict, answer_list, answer_set, answer_deque, shown_of, cursor_step, answer, is_raised, is_memory, is_write}
use Rattle.ft_history.proofs.Effects.{HasKind, deque_kind}
use Rattle.ft_turns.specs.Internal.Counting.{counted_in}
use Rattle.ft_turns.proofs.CallParts.{IsCallBy, is_counting}
use Rattle.ft_turns.proofs.ContentFacts.{IsPairBy, IsElementBy, IsShownBy, IsReplyBy, IsContentBy, GoTogether, held_at, found_in, all_reversed}
use Rattle.ft_turns.proofs.AnswerForms.{Form, is_uncommon, uncommon_memory, unwritten_raised, unwritten_uncommon, shown, put, made, form_dict, form_list, form_set, form_deque}

-- the container that the cursor goes over, where it was made
abbrev pub walked : List (Option Cursor) → ℕ → List ℕ
walked hands number = option_map_or (λ cursor. container_of cursor ∷ []) (cursor_at hands number) []

-- the same after a call that makes a cursor, or doesn't
abbrev pub walked_after : List (Option Cursor) → Option ℕ → List ℕ → ℕ → List ℕ
walked_after hands made_one named number = if option_map_or (λ one. one == number) made_one false then named else walked hands number

-- each cursor goes over a container of its kind
abbrev pub AreOver : List Content → List (Option Cursor) → Type 0
AreOver world hands = (number : ℕ) (it : Cursor) → cursor_at hands number ≡ Some it → IsOfKind world (cursor_kind it) (container_of it)

-- the containers that a call names are of its kind
abbrev pub IsAsked : List Content → Call → Type 0
IsAsked world (call.Dict container dict_call) = IsOfKind world kind.Dict container × IfSome (other_dict dict_call) (λ other. IsOfKind world kind.Dict other)
IsAsked world (call.List container list_call) = IsOfKind world kind.List container × IfSome (other_list list_call) (λ other. IsOfKind world kind.List other)
IsAsked world (call.Set container set_call) = IsOfKind world kind.Set container × IfSome (other_set set_call) (λ other. IsOfKind world kind.Set other)
IsAsked world (call.Deque container deque_call) = IsOfKind world (kind.Deque None) container × IfSome (other_deque deque_call) (λ other. IsOfKind world (kind.Deque None) other)
IsAsked world other = Unit {0}

-- what an answer says and leaves, whatever the call
pub record IsPlainAnswer (K : Key → Type 0) (V : Value → Type 0) (C : ℕ → Type 0) (world : List Content) (hands : List (Option Cursor)) (called : Call) : Type 0 where
  pub memory : is_memory (answer world hands called).reply ≡ false
  pub alike : is_changing called ≡ true → (answer world hands called).world ≡ (answer world no_hands called).world
  pub quiet : is_write called (answer world hands called).reply ≡ false → (answer world hands called).world ≡ world
  pub reply : IsReplyBy K V C (answer world hands called).reply
  pub contents : All (IsContentBy K V) (answer world hands called).world
  pub containers : length (answer world hands called).world ≡ length world
  pub kinds : map kind_of (answer world hands called).world ≡ map kind_of world
  pub room : length (answer world hands called).hands ≡ length hands
  pub fits : AreOver world hands → AreOver world (answer world hands called).hands

-- where it is said of strings that they are among that many, and nothing of counts
abbrev pub IsAny : ℕ → Type 0
IsAny count = Unit {0}

abbrev pub IsPlainAnswerOf : ℕ → List Content → List (Option Cursor) → Call → Type 0
IsPlainAnswerOf n world hands called = IsPlainAnswer (IsKeyOf n) (IsValueOf n) IsAny world hands called

-- a cursor over no deque
abbrev pub IsLandedCursor : Cursor → Type 0
IsLandedCursor (cursor.Deque container moves index) = ⊥
IsLandedCursor it = Unit {0}

-- ---- what is put in place of another

kinds_set : (world : List Content) (place : ℕ) (left : Content) → HasKind world (kind_of left) place → map kind_of (slice_set world place left) ≡ map kind_of world
kinds_set [] place left same = refl
kinds_set (first ∷ world) zero left same = ap (λ (k : Kind). k ∷ map kind_of world) (sym (same_Some (kind_of first) (kind_of left) same))
kinds_set (first ∷ world) (suc place) left same = ap (λ (ks : List Kind). kind_of first ∷ ks) (kinds_set world place left same)

set_cursor : (hands : List (Option Cursor)) (number other : ℕ) (it jt : Cursor) → cursor_at (slice_set hands number (Some it)) other ≡ Some jt → (cursor_at hands other ≡ Some jt) ⊎ (it ≡ jt)
set_cursor [] number other it jt at = inl at
set_cursor (first ∷ hands) zero zero it jt at = inr (same_Some it jt at)
set_cursor (first ∷ hands) zero (suc other) it jt at = inl at
set_cursor (first ∷ hands) (suc number) zero it jt at = inl at
set_cursor (first ∷ hands) (suc number) (suc other) it jt at = set_cursor hands number other it jt at

-- ---- what its form tells

module _ (world : List Content) (K : Key → Type 0) (V : Value → Type 0) (C : ℕ → Type 0) (k : Kind) (container : ℕ) (changing : Bool) (makes_one : Option ℕ) where
  form_common : (f : List (Option Cursor) → Answer) (hands : List (Option Cursor)) → Form world K V C k container changing makes_one f → is_uncommon (f hands).reply ≡ false
  form_common f hands (shown none said common strings) = common
  form_common f hands (put none changes place left said done strings contents kinds there) = unwritten_uncommon said done
  form_common f hands (made number is still cursor over here) = refl

  form_alike : (f : List (Option Cursor) → Answer) (hands others : List (Option Cursor)) → Form world K V C k container changing makes_one f → changing ≡ true → (f hands).world ≡ (f others).world
  form_alike f hands others (shown none said memory strings) changes = refl
  form_alike f hands others (put none is place left said done strings contents kinds there) changes = refl
  form_alike f hands others (made number is still cursor over here) changes = refl

  form_quiet : (f : List (Option Cursor) → Answer) (hands : List (Option Cursor)) → Form world K V C k container changing makes_one f → (changing && not (is_raised (f hands).reply)) ≡ false → (f hands).world ≡ world
  form_quiet f hands (shown none said memory strings) reads = refl
  form_quiet f hands (put none changes place left said done strings contents kinds there) reads = absurd (true≢false (ap (λ b. true && not b) (sym (unwritten_raised said done)) ∙ ap (λ b. b && not (is_raised said)) (sym changes) ∙ reads))
  form_quiet f hands (made number is still cursor over here) reads = refl

  form_reply : (f : List (Option Cursor) → Answer) (hands : List (Option Cursor)) → Form world K V C k container changing makes_one f → IsReplyBy K V C (f hands).reply
  form_reply f hands (shown none said memory strings) = strings
  form_reply f hands (put none changes place left said done strings contents kinds there) = strings
  form_reply f hands (made number is still cursor over here) = tt

  form_contents : (f : List (Option Cursor) → Answer) (hands : List (Option Cursor)) → Form world K V C k container changing makes_one f → All (IsContentBy K V) world → All (IsContentBy K V) (f hands).world
  form_contents f hands (shown none said memory strings) old = old
  form_contents f hands (put none changes place left said done strings contents kinds there) old = All-set (IsContentBy K V) world place left contents old
  form_contents f hands (made number is still cursor over here) old = old

  form_containers : (f : List (Option Cursor) → Answer) (hands : List (Option Cursor)) → Form world K V C k container changing makes_one f → length (f hands).world ≡ length world
  form_containers f hands (shown none said memory strings) = refl
  form_containers f hands (put none changes place left said done strings contents kinds there) = length-set world place left
  form_containers f hands (made number is still cursor over here) = refl

  form_room : (f : List (Option Cursor) → Answer) (hands : List (Option Cursor)) → Form world K V C k container changing makes_one f → length (f hands).hands ≡ length hands
  form_room f hands (shown none said memory strings) = refl
  form_room f hands (put none changes place left said done strings contents kinds there) = refl
  form_room f hands (made number is still cursor over here) = length-set hands number (Some cursor)

  form_kinds : (f : List (Option Cursor) → Answer) (hands : List (Option Cursor)) → Form world K V C k container changing makes_one f → map kind_of (f hands).world ≡ map kind_of world
  form_kinds f hands (shown none said memory strings) = refl
  form_kinds f hands (put none changes place left said done strings contents kinds there) = kinds_set world place left (subst (λ one. HasKind world one place) (sym kinds) there)
  form_kinds f hands (made number is still cursor over here) = refl

  form_fits : (f : List (Option Cursor) → Answer) (hands : List (Option Cursor)) → Form world K V C k container changing makes_one f → AreOver world hands → AreOver world (f hands).hands
  form_fits f hands (shown none said memory strings) fits = fits
  form_fits f hands (put none changes place left said done strings contents kinds there) fits = fits
  form_fits f hands (made one is still it over here) fits = λ number jt at.
      elim (set_cursor hands one number it jt at) [
        | inl before ↦ fits number jt before
        | inr now ↦ subst (λ (c : Cursor). IsOfKind world (cursor_kind c) (container_of c)) now (subst (IsOfKind world (cursor_kind it)) (sym over) here)
      ]

  no_cursor : (hands : List (Option Cursor)) (named : List ℕ) (number : ℕ) → makes_one ≡ None → walked hands number ≡ walked_after hands makes_one named number
  no_cursor hands named number none = ap (λ o. walked_after hands o named number) (sym none)

  form_walks : (f : List (Option Cursor) → Answer) (hands : List (Option Cursor)) (named : List ℕ) (number : ℕ) → Form world K V C k container changing makes_one f → IfSome makes_one (λ one. one < length hands) → ((one : ℕ) → makes_one ≡ Some one → named ≡ container ∷ [])
      → walked (f hands).hands number ≡ walked_after hands makes_one named number
  form_walks f hands named number (shown none said memory strings) room only = no_cursor hands named number none
  form_walks f hands named number (put none changes place left said done strings contents kinds there) room only = no_cursor hands named number none
  form_walks f hands named number (made one is still it over here) room only =
      let low : one < length hands = subst (λ o. IfSome o (λ k. k < length hands)) is room in
      elim (cases_eq one number) [
        | inl same ↦
            ap (λ (o : Option Cursor). option_map_or (λ (c : Cursor). container_of c ∷ []) o []) (ap (λ k. get_or (slice_set hands one (Some it)) k None) (sym same) ∙ get_or-set_same hands one (Some it) None low)
            ∙ ap (λ c. c ∷ []) over ∙ sym (only one is)
            ∙ ap (λ b. if b then named else walked hands number) (sym (eq-eqb one number same))
            ∙ ap (λ o. walked_after hands o named number) (sym is)
        | inr differs ↦
            ap (λ (o : Option Cursor). option_map_or (λ (c : Cursor). container_of c ∷ []) o []) (get_or-set_other hands one number (Some it) None (λ e. differs (sym e)))
            ∙ ap (λ b. if b then named else walked hands number) (sym (ne_eqb one number differs))
            ∙ ap (λ o. walked_after hands o named number) (sym is)
      ]

-- ---- what a world's contents are

module _ (K : Key → Type 0) (V : Value → Type 0) (C : ℕ → Type 0) (together : GoTogether K V) (world : List Content) (contents : All (IsContentBy K V) world) where
  of_dict : (c : Content) → IsContentBy K V c → All (IsPairBy K V) (dict_of c).pairs
  of_dict (content.Dict dict) h = h
  of_dict (content.List items) h = All-nil (IsPairBy K V)
  of_dict (content.Set set) h = All-nil (IsPairBy K V)
  of_dict (content.Deque deque) h = All-nil (IsPairBy K V)

  of_list : (c : Content) → IsContentBy K V c → All V (list_of c)
  of_list (content.Dict dict) h = All-nil V
  of_list (content.List items) h = h
  of_list (content.Set set) h = All-nil V
  of_list (content.Deque deque) h = All-nil V

  of_set : (c : Content) → IsContentBy K V c → All (IsElementBy K) (set_of c).elements
  of_set (content.Dict dict) h = All-nil (IsElementBy K)
  of_set (content.List items) h = All-nil (IsElementBy K)
  of_set (content.Set set) h = h
  of_set (content.Deque deque) h = All-nil (IsElementBy K)

  of_deque : (c : Content) → IsContentBy K V c → All V (deque_of c).items
  of_deque (content.Dict dict) h = All-nil V
  of_deque (content.List items) h = All-nil V
  of_deque (content.Set set) h = All-nil V
  of_deque (content.Deque deque) h = h

  shown_by : (c : Content) → IsContentBy K V c → IsShownBy K V (shown_of c)
  shown_by (content.Dict dict) h = All-map (λ (pair : Key × Value). K pair.0 × V pair.1) (λ (pair : DictPair). (pair.key, pair.value)) dict.pairs h
  shown_by (content.List items) h = h
  shown_by (content.Set set) h = All-map K (λ (element : Element). element.key) set.elements h
  shown_by (content.Deque deque) h = h

  content_at : (place : ℕ) (empty : Content) → IsContentBy K V empty → IsContentBy K V (slice_index_or world place empty)
  content_at place empty none =
      elim (cases_lt place (length world)) [
        | inl low ↦ contents place empty low
        | inr high ↦ subst (IsContentBy K V) (sym (get_or_past world place empty high)) none
      ]

  pub dicts_of : (place : ℕ) → All (IsPairBy K V) (dict_at world place).pairs
  dicts_of place = of_dict (slice_index_or world place (content.Dict empty_dict)) (content_at place (content.Dict empty_dict) (All-nil (IsPairBy K V)))

  pub lists_of : (place : ℕ) → All V (list_at world place)
  lists_of place = of_list (slice_index_or world place (content.List [])) (content_at place (content.List []) (All-nil V))

  pub sets_of : (place : ℕ) → All (IsElementBy K) (set_at world place).elements
  sets_of place = of_set (slice_index_or world place (content.Set empty_set)) (content_at place (content.Set empty_set) (All-nil (IsElementBy K)))

  pub deques_of : (place : ℕ) → All V (deque_at world place).items
  deques_of place = of_deque (slice_index_or world place (content.Deque (empty_deque None))) (content_at place (content.Deque (empty_deque None)) (All-nil V))

  -- ---- cursors

  abbrev IsStepBut : (Reply → Bool) → Cursor → CursorStep → Type 0
  IsStepBut never before step = (never step.reply ≡ false) × IsReplyBy K V C step.reply × (container_of step.cursor ≡ container_of before) × (cursor_kind step.cursor ≡ cursor_kind before)

  dict_step : (pairs : List DictPair) (container : ℕ) (state : CursorState) (size expected : ℕ) (last : Option ℕ) → All (IsPairBy K V) pairs → IsStepBut is_uncommon (cursor.Dict container state size expected last) (dict_next pairs container state size expected last)
  dict_step pairs container walk.Ended size expected last of = (refl, tt, refl, refl)
  dict_step pairs container walk.Reported size expected last of = (refl, tt, refl, refl)
  dict_step pairs container walk.Live size expected last of =
      elim (length pairs == size) as (λ b. IsStepBut is_uncommon (cursor.Dict container walk.Live size expected last) (if b then dict_walk (next_pair pairs last) container size expected last else record { reply = reply.Raised raise.Size; cursor = cursor.Dict container walk.Reported size expected last })) [
        | false ↦ (refl, tt, refl, refl)
        | true ↦ elim (next_pair pairs last) as (λ o. next_pair pairs last ≡ o → IsStepBut is_uncommon (cursor.Dict container walk.Live size expected last) (dict_walk o container size expected last)) [
          | None ↦ λ _. (refl, tt, refl, refl)
          | Some pair ↦ λ found. elim (expected == 0) as (λ b. IsStepBut is_uncommon (cursor.Dict container walk.Live size expected last) (if b then record { reply = reply.Raised raise.Keys; cursor = cursor.Dict container walk.Ended size expected last } else record { reply = reply.Pair pair.key pair.value; cursor = cursor.Dict container walk.Live size (expected - 1) (Some pair.serial) })) [
            | true ↦ (refl, tt, refl, refl)
            | false ↦ (refl, found_in (IsPairBy K V) (λ (p : DictPair). is_after last p.serial) pairs pair of found, refl, refl)
          ]
        ] refl
      ]

  set_step : (elements : List Element) (container : ℕ) (state : CursorState) (size : ℕ) (last : Option ℕ) → All (IsElementBy K) elements → IsStepBut is_uncommon (cursor.Set container state size last) (set_next elements container state size last)
  set_step elements container walk.Ended size last of = (refl, tt, refl, refl)
  set_step elements container walk.Reported size last of = (refl, tt, refl, refl)
  set_step elements container walk.Live size last of =
      elim (length elements == size) as (λ b. IsStepBut is_uncommon (cursor.Set container walk.Live size last) (if b then set_walk (next_element elements last) container size last else record { reply = reply.Raised raise.Size; cursor = cursor.Set container walk.Reported size last })) [
        | false ↦ (refl, tt, refl, refl)
        | true ↦ elim (next_element elements last) as (λ o. next_element elements last ≡ o → IsStepBut is_uncommon (cursor.Set container walk.Live size last) (set_walk o container size last)) [
          | None ↦ λ _. (refl, tt, refl, refl)
          | Some element ↦ λ found. (refl, together.key_value element.key (found_in (IsElementBy K) (λ (e : Element). is_after last e.serial) elements element of found), refl, refl)
        ] refl
      ]

  list_step : (items : List Value) (container index : ℕ) (ended : Bool) → All V items → IsStepBut is_uncommon (cursor.List container index ended) (list_next items container index ended)
  list_step items container index true of = (refl, tt, refl, refl)
  list_step items container index false of =
      elim (slice_get items index) as (λ o. slice_get items index ≡ o → IsStepBut is_uncommon (cursor.List container index false) (list_walk o container index)) [
        | None ↦ λ _. (refl, tt, refl, refl)
        | Some one ↦ λ found. (refl, held_at V items index one of found, refl, refl)
      ] refl

  deque_step : (deque : DequeContent) (container moves index : ℕ) → All V deque.items → IsStepBut is_memory (cursor.Deque container moves index) (deque_next deque container moves index)
  deque_step deque container moves index of =
      elim (deque.moves == moves) as (λ b. IsStepBut is_memory (cursor.Deque container moves index) (if b then deque_walk (slice_get deque.items index) container moves index else record { reply = reply.Raised raise.Moved; cursor = cursor.Deque container moves index })) [
        | false ↦ (refl, tt, refl, refl)
        | true ↦ elim (slice_get deque.items index) as (λ o. slice_get deque.items index ≡ o → IsStepBut is_memory (cursor.Deque container moves index) (deque_walk o container moves index)) [
          | None ↦ λ _. (refl, tt, refl, refl)
          | Some one ↦ λ found. (refl, held_at V deque.items index one of found, refl, refl)
        ] refl
      ]

  dict_back_step : (pairs : List DictPair) (container : ℕ) (state : CursorState) (size : ℕ) (last : Option ℕ) → All (IsPairBy K V) pairs → IsStepBut is_uncommon (cursor.DictBack container state size last) (dict_back_next pairs container state size last)
  dict_back_step pairs container walk.Ended size last of = (refl, tt, refl, refl)
  dict_back_step pairs container walk.Reported size last of = (refl, tt, refl, refl)
  dict_back_step pairs container walk.Live size last of =
      elim (length pairs == size) as (λ b. IsStepBut is_uncommon (cursor.DictBack container walk.Live size last) (if b then dict_back_walk (prior_pair pairs last) container size last else record { reply = reply.Raised raise.Size; cursor = cursor.DictBack container walk.Reported size last })) [
        | false ↦ (refl, tt, refl, refl)
        | true ↦ elim (prior_pair pairs last) as (λ o. prior_pair pairs last ≡ o → IsStepBut is_uncommon (cursor.DictBack container walk.Live size last) (dict_back_walk o container size last)) [
          | None ↦ λ _. (refl, tt, refl, refl)
          | Some pair ↦ λ found. (refl, found_in (IsPairBy K V) (λ (p : DictPair). is_before last p.serial) (reverse pairs) pair (all_reversed (IsPairBy K V) pairs of) found, refl, refl)
        ] refl
      ]

  list_back_step : (items : List Value) (container : ℕ) (index : Option ℕ) → All V items → IsStepBut is_uncommon (cursor.ListBack container index) (list_back_next items container index)
  list_back_step items container None of = (refl, tt, refl, refl)
  list_back_step items container (Some index) of =
      elim (slice_get items index) as (λ o. slice_get items index ≡ o → IsStepBut is_uncommon (cursor.ListBack container (Some index)) (list_back_walk o container index)) [
        | None ↦ λ _. (refl, tt, refl, refl)
        | Some one ↦ λ found. (refl, held_at V items index one of found, refl, refl)
      ] refl

  -- of a cursor that goes over no deque
  common_step : (it : Cursor) → IsLandedCursor it → IsStepBut is_uncommon it (cursor_step world it)
  common_step (cursor.Dict container state size expected last) landed = dict_step (dict_at world container).pairs container state size expected last (dicts_of container)
  common_step (cursor.List container index ended) landed = list_step (list_at world container) container index ended (lists_of container)
  common_step (cursor.Set container state size last) landed = set_step (set_at world container).elements container state size last (sets_of container)
  common_step (cursor.Deque container moves index) landed = absurd landed
  common_step (cursor.DictBack container state size last) landed = dict_back_step (dict_at world container).pairs container state size last (dicts_of container)
  common_step (cursor.ListBack container index) landed = list_back_step (list_at world container) container index (lists_of container)

  plain_step : (it : Cursor) → IsStepBut is_uncommon it (cursor_step world it) → IsStepBut is_memory it (cursor_step world it)
  plain_step it step = (uncommon_memory (cursor_step world it).reply step.0, step.1, step.2, step.3)

  steps_of : (it : Cursor) → IsStepBut is_memory it (cursor_step world it)
  steps_of (cursor.Dict container state size expected last) = plain_step (cursor.Dict container state size expected last) (common_step (cursor.Dict container state size expected last) tt)
  steps_of (cursor.List container index ended) = plain_step (cursor.List container index ended) (common_step (cursor.List container index ended) tt)
  steps_of (cursor.Set container state size last) = plain_step (cursor.Set container state size last) (common_step (cursor.Set container state size last) tt)
  steps_of (cursor.Deque container moves index) = deque_step (deque_at world container) container moves index (deques_of container)
  steps_of (cursor.DictBack container state size last) = plain_step (cursor.DictBack container state size last) (common_step (cursor.DictBack container state size last) tt)
  steps_of (cursor.ListBack container index) = plain_step (cursor.ListBack container index) (common_step (cursor.ListBack container index) tt)

  next_walks : (hands : List (Option Cursor)) (number other : ℕ) → walked (answer world hands (call.Next number)).hands other ≡ walked hands other
  next_walks hands number other =
      elim (cursor_at hands number) as (λ o. cursor_at hands number ≡ o → walked (option_map_or (λ it. moves world hands number (cursor_step world it).cursor (cursor_step world it).reply) o (shows world hands reply.Stop)).hands other ≡ walked hands other) [
        | None ↦ λ _. refl
        | Some it ↦ λ is. elim (cases_eq number other) [
          | inr differs ↦ ap (λ (o : Option Cursor). option_map_or (λ (c : Cursor). container_of c ∷ []) o []) (get_or-set_other hands number other (Some (cursor_step world it).cursor) None (λ e. differs (sym e)))
          | inl same ↦ elim (cases_lt number (length hands)) [
            | inl low ↦
                ap (λ (o : Option Cursor). option_map_or (λ (c : Cursor). container_of c ∷ []) o []) (ap (λ k. get_or (slice_set hands number (Some (cursor_step world it).cursor)) k None) (sym same) ∙ get_or-set_same hands number (Some (cursor_step world it).cursor) None low)
                ∙ ap (λ c. c ∷ []) (steps_of it).2
                ∙ ap (λ (o : Option Cursor). option_map_or (λ (c : Cursor). container_of c ∷ []) o []) (sym is ∙ ap (cursor_at hands) same)
            | inr high ↦ absurd (none-some it (sym (get_or_past hands number None high) ∙ is))
          ]
        ]
      ] refl

  -- ---- all calls

  only_dict : (dict_call : DictCall) (container one : ℕ) → cursor_of_dict dict_call ≡ Some one → one_or_two container (other_dict dict_call) ≡ container ∷ []
  only_dict (dict.Iter it) container one is = refl
  only_dict (dict.Reversed it) container one is = refl
  only_dict other container one is = absurd cc

  only_list : (list_call : ListCall) (container one : ℕ) → cursor_of_list list_call ≡ Some one → one_or_two container (other_list list_call) ≡ container ∷ []
  only_list (list.Iter it) container one is = refl
  only_list (list.Reversed it) container one is = refl
  only_list other container one is = absurd cc

  only_set : (set_call : SetCall) (container one : ℕ) → cursor_of_set set_call ≡ Some one → one_or_two container (other_set set_call) ≡ container ∷ []
  only_set (set.Iter it) container one is = refl
  only_set other container one is = absurd cc

  only_deque : (deque_call : DequeCall) (container one : ℕ) → cursor_of_deque deque_call ≡ Some one → one_or_two container (other_deque deque_call) ≡ container ∷ []
  only_deque (deque.Iter it) container one is = refl
  only_deque other container one is = absurd cc

  -- an answer of a form is a plain one
  of_form : (hands : List (Option Cursor)) (called : Call) {k : Kind} {container : ℕ} {makes : Option ℕ} → Form world K V C k container (is_changing called) makes (λ h. answer world h called) → IsPlainAnswer K V C world hands called
  of_form hands called {k} {container} {makes} form =
      let f : List (Option Cursor) → Answer = λ h. answer world h called in
      record {
        memory = uncommon_memory _ (form_common world K V C k container _ makes f hands form);
        alike = form_alike world K V C k container _ makes f hands no_hands form;
        quiet = form_quiet world K V C k container _ makes f hands form;
        reply = form_reply world K V C k container _ makes f hands form;
        contents = form_contents world K V C k container _ makes f hands form contents;
        containers = form_containers world K V C k container _ makes f hands form;
        kinds = form_kinds world K V C k container _ makes f hands form;
        fits = form_fits world K V C k container _ makes f hands form;
        room = form_room world K V C k container _ makes f hands form;
      }

  pub plain_answer : (hands : List (Option Cursor)) (called : Call) → IsCallBy K V called → IsAsked world called → (is_counting called ≡ true → (count : ℕ) → count ≤ counted_in world called → C count) → IsPlainAnswer K V C world hands called
  plain_answer hands (call.Dict container dict_call) said asked few = of_form hands (call.Dict container dict_call) (form_dict K V C together world container (dict_at world container) (dicts_of container) dicts_of asked.0 dict_call said asked.1 few)
  plain_answer hands (call.List container list_call) said asked few = of_form hands (call.List container list_call) (form_list K V C together world container (list_at world container) (lists_of container) lists_of asked.0 list_call said asked.1 few)
  plain_answer hands (call.Set container set_call) said asked few = of_form hands (call.Set container set_call) (form_set K V C together world container (set_at world container) (sets_of container) sets_of asked.0 set_call said asked.1 few)
  plain_answer hands (call.Deque container deque_call) said asked few = of_form hands (call.Deque container deque_call) (form_deque K V C together world container (deque_at world container) (deques_of container) deques_of asked.0 (deque_kind world container None asked.0) deque_call said few)
  plain_answer hands (call.Next number) said asked few =
      let stepped : Option Cursor → Answer = λ o. option_map_or (λ it. moves world hands number (cursor_step world it).cursor (cursor_step world it).reply) o (shows world hands reply.Stop) in
      record {
        memory = elim (cursor_at hands number) as (λ o. is_memory (stepped o).reply ≡ false) [ None ↦ refl | Some it ↦ (steps_of it).0 ];
        alike = λ changes. absurd (false≢true changes);
        quiet = λ _. elim (cursor_at hands number) as (λ o. (stepped o).world ≡ world) [ None ↦ refl | Some it ↦ refl ];
        reply = elim (cursor_at hands number) as (λ o. IsReplyBy K V C (stepped o).reply) [ None ↦ tt | Some it ↦ (steps_of it).1 ];
        contents = elim (cursor_at hands number) as (λ o. All (IsContentBy K V) (stepped o).world) [ None ↦ contents | Some it ↦ contents ];
        containers = elim (cursor_at hands number) as (λ o. length (stepped o).world ≡ length world) [ None ↦ refl | Some it ↦ refl ];
        room = elim (cursor_at hands number) as (λ o. length (stepped o).hands ≡ length hands) [ None ↦ refl | Some it ↦ length-set hands number (Some (cursor_step world it).cursor) ];
        kinds = elim (cursor_at hands number) as (λ o. map kind_of (stepped o).world ≡ map kind_of world) [ None ↦ refl | Some it ↦ refl ];
        fits = λ fits. elim (cursor_at hands number) as (λ o. cursor_at hands number ≡ o → AreOver world (stepped o).hands) [
          | None ↦ λ _. fits
          | Some it ↦ λ is other jt at. elim (set_cursor hands number other (cursor_step world it).cursor jt at) [
            | inl before ↦ fits other jt before
            | inr now ↦ subst (λ (c : Cursor). IsOfKind world (cursor_kind c) (container_of c)) now (subst (λ kd. IsOfKind world kd (container_of (cursor_step world it).cursor)) (sym (steps_of it).3) (subst (IsOfKind world (cursor_kind it)) (sym (steps_of it).2) (fits number it is)))
          ]
        ] refl;
      }
  plain_answer hands (call.Begin first second) said asked few = record { memory = refl; alike = λ _. refl; quiet = λ _. refl; reply = tt; contents = contents; containers = refl; kinds = refl; fits = λ fits. fits; room = refl }
  plain_answer hands call.End said asked few = record { memory = refl; alike = λ _. refl; quiet = λ _. refl; reply = tt; contents = contents; containers = refl; kinds = refl; fits = λ fits. fits; room = refl }
  plain_answer hands call.Quiesce said asked few = record { memory = refl; alike = λ _. refl; quiet = λ _. refl; reply = tt; contents = contents; containers = refl; kinds = refl; fits = λ fits. fits; room = refl }
  plain_answer hands (call.Await other index) said asked few = record { memory = refl; alike = λ _. refl; quiet = λ _. refl; reply = tt; contents = contents; containers = refl; kinds = refl; fits = λ fits. fits; room = refl }
  plain_answer hands call.Dump said asked few = record { memory = refl; alike = λ _. refl; quiet = λ _. refl; reply = All-map (IsShownBy K V) shown_of world (λ i d low. shown_by (get_or world i d) (contents i d low)); contents = contents; containers = refl; kinds = refl; fits = λ fits. fits; room = refl }

  -- a call that is landed, by cursors over no deques, says nothing of deques or of all containers
  pub landed_reply : (hands : List (Option Cursor)) (called : Call) → IsCallBy K V called → IsAsked world called → (is_counting called ≡ true → (count : ℕ) → count ≤ counted_in world called → C count) → is_landed_call called ≡ true → ((number : ℕ) (it : Cursor) → cursor_at hands number ≡ Some it → IsLandedCursor it) → is_uncommon (answer world hands called).reply ≡ false
  landed_reply hands (call.Dict container dict_call) said asked few landed cursors = form_common world K V C _ _ _ _ (λ h. answer_dict world h container (dict_at world container) dict_call) hands (form_dict K V C together world container (dict_at world container) (dicts_of container) dicts_of asked.0 dict_call said asked.1 few)
  landed_reply hands (call.List container list_call) said asked few landed cursors = form_common world K V C _ _ _ _ (λ h. answer_list world h container (list_at world container) list_call) hands (form_list K V C together world container (list_at world container) (lists_of container) lists_of asked.0 list_call said asked.1 few)
  landed_reply hands (call.Set container set_call) said asked few landed cursors = form_common world K V C _ _ _ _ (λ h. answer_set world h container (set_at world container) set_call) hands (form_set K V C together world container (set_at world container) (sets_of container) sets_of asked.0 set_call said asked.1 few)
  landed_reply hands (call.Deque container deque_call) said asked few landed cursors = absurd (false≢true landed)
  landed_reply hands (call.Next number) said asked few landed cursors =
      elim (cursor_at hands number) as (λ o. cursor_at hands number ≡ o → is_uncommon (option_map_or (λ it. moves world hands number (cursor_step world it).cursor (cursor_step world it).reply) o (shows world hands reply.Stop)).reply ≡ false) [
        | None ↦ λ _. refl
        | Some it ↦ λ is. (common_step it (cursors number it is)).0
      ] refl
  landed_reply hands (call.Begin first second) said asked few landed cursors = refl
  landed_reply hands call.End said asked few landed cursors = refl
  landed_reply hands call.Quiesce said asked few landed cursors = refl
  landed_reply hands (call.Await other index) said asked few landed cursors = refl
  landed_reply hands call.Dump said asked few landed cursors = absurd (false≢true landed)

  -- which container each cursor goes over then
  pub plain_walks : (hands : List (Option Cursor)) (called : Call) → IsCallBy K V called → IsAsked world called → (is_counting called ≡ true → (count : ℕ) → count ≤ counted_in world called → C count) → IfSome (cursor_of called) (λ one. one < length hands) → (number : ℕ) → walked (answer world hands called).hands number ≡ walked_after hands (cursor_of called) (containers_of called) number
  plain_walks hands (call.Dict container dict_call) said asked few room number =
      form_walks world K V C kind.Dict container _ _ (λ h. answer_dict world h container (dict_at world container) dict_call) hands (containers_of (call.Dict container dict_call)) number (form_dict K V C together world container (dict_at world container) (dicts_of container) dicts_of asked.0 dict_call said asked.1 few) room (only_dict dict_call container)
  plain_walks hands (call.List container list_call) said asked few room number =
      form_walks world K V C kind.List container _ _ (λ h. answer_list world h container (list_at world container) list_call) hands (containers_of (call.List container list_call)) number (form_list K V C together world container (list_at world container) (lists_of container) lists_of asked.0 list_call said asked.1 few) room (only_list list_call container)
  plain_walks hands (call.Set container set_call) said asked few room number =
      form_walks world K V C kind.Set container _ _ (λ h. answer_set world h container (set_at world container) set_call) hands (containers_of (call.Set container set_call)) number (form_set K V C together world container (set_at world container) (sets_of container) sets_of asked.0 set_call said asked.1 few) room (only_set set_call container)
  plain_walks hands (call.Deque container deque_call) said asked few room number =
      form_walks world K V C (kind.Deque (deque_at world container).bound) container _ _ (λ h. answer_deque world h container (deque_at world container) deque_call) hands (containers_of (call.Deque container deque_call)) number (form_deque K V C together world container (deque_at world container) (deques_of container) deques_of asked.0 (deque_kind world container None asked.0) deque_call said few) room (only_deque deque_call container)
  plain_walks hands (call.Next one) said asked few room number = next_walks hands one number
  plain_walks hands (call.Begin first second) said asked few room number = refl
  plain_walks hands call.End said asked few room number = refl
  plain_walks hands call.Quiesce said asked few room number = refl
  plain_walks hands (call.Await other index) said asked few room number = refl
  plain_walks hands call.Dump said asked few room number = refl

-- ---- that their strings are among that many

key_as_value : (n : ℕ) (k : Key) → IsKeyOf n k → IsValueOf n (as_value k)
key_as_value n (key.Int i) of = tt
key_as_value n (key.Text symbol) of = of

pub strings_together : (n : ℕ) → GoTogether (IsKeyOf n) (IsValueOf n)
strings_together n = record { nothing = tt; key_value = key_as_value n }

content_by : (n : ℕ) (c : Content) → IsContentOf n c → IsContentBy (IsKeyOf n) (IsValueOf n) c
content_by n (content.Dict dict) h = h
content_by n (content.List items) h = h
content_by n (content.Set set) h = h
content_by n (content.Deque deque) h = h

content_of : (n : ℕ) (c : Content) → IsContentBy (IsKeyOf n) (IsValueOf n) c → IsContentOf n c
content_of n (content.Dict dict) h = h
content_of n (content.List items) h = h
content_of n (content.Set set) h = h
content_of n (content.Deque deque) h = h

pub contents_by : (n : ℕ) (world : List Content) → All (IsContentOf n) world → All (IsContentBy (IsKeyOf n) (IsValueOf n)) world
contents_by n world h = All-weaker (IsContentOf n) (IsContentBy (IsKeyOf n) (IsValueOf n)) (content_by n) world h

pub contents_of : (n : ℕ) (world : List Content) → All (IsContentBy (IsKeyOf n) (IsValueOf n)) world → All (IsContentOf n) world
contents_of n world h = All-weaker (IsContentBy (IsKeyOf n) (IsValueOf n)) (IsContentOf n) (content_of n) world h

shown_of_by : (n : ℕ) (said : Shown) → IsShownBy (IsKeyOf n) (IsValueOf n) said → IsShownOf n said
shown_of_by n (in_dump.Dict pairs) h = h
shown_of_by n (in_dump.List items) h = h
shown_of_by n (in_dump.Set elements) h = h

pub reply_of : (n : ℕ) (said : Reply) → IsReplyBy (IsKeyOf n) (IsValueOf n) IsAny said → IsReplyOf n said
reply_of n (reply.Value v) h = h
reply_of n (reply.World world) h = All-weaker (IsShownBy (IsKeyOf n) (IsValueOf n)) (IsShownOf n) (shown_of_by n) world h
reply_of n (reply.Suspended count) h = absurd h
reply_of n other h = h
