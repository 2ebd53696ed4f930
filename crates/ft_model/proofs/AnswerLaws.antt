-- What the answer to a call leaves of the world and the hands.
use Rattle.std.proofs.Common.{◌≡◌, ◌≢◌, ℕ, suc, zero, Bool, true, false, List, [], ◌∷◌, length, map, get_or, set, Option, Some, None, refl, sym, ap, ◌∙◌, arith, inl, inr}
use Rattle.std.specs.Prelude.{◌-◌, ◌==◌, ◌++◌, nat_le, reverse, negsuc, unwrap_or, Contains, slice_get, option_map, if◌then◌else◌}
use Rattle.std.specs.Option.{option_map_or}
use Rattle.std.proofs.lemmas.Bool.{false≢true}
use Rattle.std.proofs.lemmas.Bool.Decides.{eqb_tells}
use Rattle.std.proofs.Math.Seq.{map-set_same}
use Rattle.ft_model.specs.declared.data.Value.{Value}
use Rattle.ft_model.specs.declared.content.Content.{Content}
use Rattle.ft_model.specs.declared.cursor.Cursor.{Cursor}
use Rattle.ft_model.specs.declared.call.Call.{Call}
use Rattle.ft_model.specs.declared.call.Call.TheVariants as call
use Rattle.ft_model.specs.declared.call.DictCall.{DictCall}
use Rattle.ft_model.specs.declared.call.DictCall.TheVariants as dict
use Rattle.ft_model.specs.declared.call.ListCall.{ListCall}
use Rattle.ft_model.specs.declared.call.ListCall.TheVariants as list
use Rattle.ft_model.specs.declared.call.SetCall.{SetCall}
use Rattle.ft_model.specs.declared.call.SetCall.TheVariants as set_call
use Rattle.ft_model.specs.declared.call.DequeCall.{DequeCall}
use Rattle.ft_model.specs.declared.call.DequeCall.TheVariants as deque
use Rattle.ft_model.specs.declared.content.Content.TheVariants as content
use Rattle.ft_model.specs.declared.reply.Reply.{Reply}
use Rattle.ft_model.specs.declared.script.Kind.{Kind}
use Rattle.ft_model.specs.declared.script.Kind.TheVariants as kind
use Rattle.ft_model.specs.Calls.{is_changing, one_or_two, containers_of, moved_cursor, other_dict, other_list, other_set, other_deque, cursor_of_dict, cursor_of_list, cursor_of_set, cursor_of_deque}
use Rattle.ft_model.specs.Contents.{DictContent, SetContent, dict_get, has_key, has_element}
use Rattle.ft_model.specs.Deques.{DequeContent, empty_deque, last_item, first_item, deque_get, with_deque_items, right_within, left_within, rotated}
use Rattle.ft_model.specs.Lists.{index_in, index_of}
use Rattle.ft_model.specs.Worlds.{WorldContent, HandsContent, IsNamed, IsDeclared, kind_of, cursor_at, dict_at, list_at, set_at, deque_at, deque_of}
use Rattle.ft_model.specs.Answers.{Answer, shows, puts, moves, answer_dict, answer_list, answer_set, answer_deque, answer, is_raised, is_write}

-- an answer leaves all as it was, or it is a write that puts a content of the same kind in place of a container that the call names, or it moves the call's cursor
data Shape (world : WorldContent) (hands : HandsContent) (named : Call) (answered : Answer) : Type 0 where
  shown : answered.world ≡ world → answered.hands ≡ hands → Shape world hands named answered
  put : (place : ℕ) (there : Content) → answered.world ≡ set world place there → answered.hands ≡ hands → kind_of there ≡ kind_of (get_or world place there) → Contains (containers_of named) place → is_raised answered.reply ≡ false → is_changing named ≡ true → Shape world hands named answered
  moved : (number : ℕ) (cursor : Cursor) → answered.world ≡ world → answered.hands ≡ set hands number (Some cursor) → moved_cursor named ≡ Some number → Shape world hands named answered

-- the kind of a declared container
pub kind_there : (world : WorldContent) (k : Kind) (place : ℕ) (d : Content) → option_map kind_of (slice_get world place) ≡ Some k → kind_of (get_or world place d) ≡ k
kind_there [] k place d h = absurd (let none : None ≡ Some k = h in cc)
kind_there (first ∷ world) k zero d h = let some : Some (kind_of first) ≡ Some k = h in cc
kind_there (first ∷ world) k (suc place) d h = kind_there world k place d h

-- the bound of a declared deque
bound_of : (there : Content) (bound : Option ℕ) → kind_of there ≡ kind.Deque bound → (deque_of there).bound ≡ bound
bound_of (content.Dict dict) bound is = absurd cc
bound_of (content.List items) bound is = absurd cc
bound_of (content.Set set) bound is = absurd cc
bound_of (content.Deque deque) bound is = cc

pub deque_kind : (world : WorldContent) (place : ℕ) (bound : Option ℕ) → option_map kind_of (slice_get world place) ≡ Some (kind.Deque bound) → kind.Deque (deque_at world place).bound ≡ kind.Deque bound
deque_kind world place bound is = ap (λ (b : Option ℕ). kind.Deque b) (bound_of (get_or world place (content.Deque (empty_deque None))) bound (kind_there world (kind.Deque bound) place (content.Deque (empty_deque None)) is))

-- a call names the container that it is made on, and the other one
names_first : (first : ℕ) (second : Option ℕ) → Contains (one_or_two first second) first
names_first first None = (0, omega arith, refl)
names_first first (Some second) =
    elim (first == second) as (λ b. Contains (if b then first ∷ [] else first ∷ second ∷ []) first) [
      | true ↦ (0, omega arith, refl)
      | false ↦ (0, omega arith, refl)
    ]

names_second : (first second : ℕ) → Contains (one_or_two first (Some second)) second
names_second first second =
    elim (eqb_tells first second) [
      | inl same ↦ simp same.0 (0, omega arith, same.1)
      | inr differ ↦ simp differ.0 (1, omega arith, refl)
    ]

module _ (world : WorldContent) (hands : HandsContent) (named : Call) where
  found : {X : Type 0} (f : X → Answer) (o : Option X) (none : Answer) → ((x : X) → Shape world hands named (f x)) → Shape world hands named none → Shape world hands named (option_map_or f o none)
  found f None none some without = without
  found f (Some x) none some without = some x

  either : (b : Bool) (one other : Answer) → Shape world hands named one → Shape world hands named other → Shape world hands named (if b then one else other)
  either true one other first second = first
  either false one other first second = second

  stays : (r : Reply) → Shape world hands named (shows world hands r)
  stays r = shown refl refl

  turns : (number : ℕ) (cursor : Cursor) (r : Reply) → moved_cursor named ≡ Some number → Shape world hands named (moves world hands number cursor r)
  turns number cursor r is = moved number cursor refl refl is

  writes : (k : Kind) (place : ℕ) (there : Content) (r : Reply) → option_map kind_of (slice_get world place) ≡ Some k → kind_of there ≡ k → Contains (containers_of named) place → is_raised r ≡ false → is_changing named ≡ true → Shape world hands named (puts world hands place there r)
  writes k place there r declared same names well changing = put place there refl refl (same ∙ sym (kind_there world k place there declared)) names well changing

module _ (world : WorldContent) (hands : HandsContent) (place : ℕ) (old : DictContent) where
  shape-dict : (c : DictCall) → IsNamed world hands kind.Dict place (other_dict c) (cursor_of_dict c) → Shape world hands (call.Dict place c) (answer_dict world hands place old c)
  shape-dict (dict.Get key) h = found world hands _ _ (dict_get old.pairs key) _ (λ v. stays world hands _ _) (stays world hands _ _)
  shape-dict (dict.GetOr key default) h = stays world hands _ _
  shape-dict (dict.Set key value) h = writes world hands _ kind.Dict place _ _ h.one refl (names_first place None) refl refl
  shape-dict (dict.Del key) h = either world hands _ (has_key old.pairs key) _ _ (writes world hands _ kind.Dict place _ _ h.one refl (names_first place None) refl refl) (stays world hands _ _)
  shape-dict (dict.Pop key) h = found world hands _ _ (dict_get old.pairs key) _ (λ v. writes world hands _ kind.Dict place _ _ h.one refl (names_first place None) refl refl) (stays world hands _ _)
  shape-dict (dict.PopOr key default) h = found world hands _ _ (dict_get old.pairs key) _ (λ v. writes world hands _ kind.Dict place _ _ h.one refl (names_first place None) refl refl) (stays world hands _ _)
  shape-dict dict.PopItem h = found world hands _ _ (slice_get old.pairs (length old.pairs - 1)) _ (λ v. writes world hands _ kind.Dict place _ _ h.one refl (names_first place None) refl refl) (stays world hands _ _)
  shape-dict (dict.SetDefault key default) h = found world hands _ _ (dict_get old.pairs key) _ (λ v. stays world hands _ _) (writes world hands _ kind.Dict place _ _ h.one refl (names_first place None) refl refl)
  shape-dict (dict.Has key) h = stays world hands _ _
  shape-dict dict.Len h = stays world hands _ _
  shape-dict dict.Items h = stays world hands _ _
  shape-dict (dict.Update other) h = writes world hands _ kind.Dict place _ _ h.one refl (names_first place (Some other)) refl refl
  shape-dict dict.Clear h = writes world hands _ kind.Dict place _ _ h.one refl (names_first place None) refl refl
  shape-dict (dict.CopyTo other) h = writes world hands _ kind.Dict other _ _ h.both refl (names_second place other) refl refl
  shape-dict (dict.Eq other) h = stays world hands _ _
  shape-dict (dict.Iter cursor) h = turns world hands _ cursor _ _ refl
  shape-dict (dict.KeysAnd other) h = stays world hands _ _
  shape-dict (dict.KeysSub other) h = stays world hands _ _
  shape-dict (dict.KeysOr other) h = stays world hands _ _
  shape-dict (dict.KeysXor other) h = stays world hands _ _
  shape-dict (dict.ItemsHas key value) h = stays world hands _ _
  shape-dict (dict.Reversed cursor) h = turns world hands _ cursor _ _ refl

module _ (world : WorldContent) (hands : HandsContent) (place : ℕ) (items : List Value) where
  shape-list : (c : ListCall) → IsNamed world hands kind.List place (other_list c) (cursor_of_list c) → Shape world hands (call.List place c) (answer_list world hands place items c)
  shape-list (list.Append value) h = writes world hands _ kind.List place _ _ h.one refl (names_first place None) refl refl
  shape-list (list.Insert index value) h = writes world hands _ kind.List place _ _ h.one refl (names_first place None) refl refl
  shape-list (list.Get index) h = found world hands _ _ (index_in (length items) index) _ (λ v. stays world hands _ _) (stays world hands _ _)
  shape-list (list.Set index value) h = found world hands _ _ (index_in (length items) index) _ (λ v. writes world hands _ kind.List place _ _ h.one refl (names_first place None) refl refl) (stays world hands _ _)
  shape-list (list.Del index) h = found world hands _ _ (index_in (length items) index) _ (λ v. writes world hands _ kind.List place _ _ h.one refl (names_first place None) refl refl) (stays world hands _ _)
  shape-list (list.Pop index) h = found world hands _ _ (index_in (length items) (unwrap_or index (negsuc 0))) _ (λ v. writes world hands _ kind.List place _ _ h.one refl (names_first place None) refl refl) (stays world hands _ _)
  shape-list (list.Remove value) h = found world hands _ _ (index_of items value) _ (λ v. writes world hands _ kind.List place _ _ h.one refl (names_first place None) refl refl) (stays world hands _ _)
  shape-list (list.Index value) h = found world hands _ _ (index_of items value) _ (λ v. stays world hands _ _) (stays world hands _ _)
  shape-list (list.Count value) h = stays world hands _ _
  shape-list (list.Has value) h = stays world hands _ _
  shape-list list.Reverse h = writes world hands _ kind.List place _ _ h.one refl (names_first place None) refl refl
  shape-list (list.Extend other) h = writes world hands _ kind.List place _ _ h.one refl (names_first place (Some other)) refl refl
  shape-list (list.Slice start end) h = stays world hands _ _
  shape-list list.Clear h = writes world hands _ kind.List place _ _ h.one refl (names_first place None) refl refl
  shape-list list.Len h = stays world hands _ _
  shape-list list.Items h = stays world hands _ _
  shape-list (list.Eq other) h = stays world hands _ _
  shape-list (list.Iter cursor) h = turns world hands _ cursor _ _ refl
  shape-list (list.Reversed cursor) h = turns world hands _ cursor _ _ refl

module _ (world : WorldContent) (hands : HandsContent) (place : ℕ) (old : SetContent) where
  shape-set : (c : SetCall) → IsNamed world hands kind.Set place (other_set c) (cursor_of_set c) → Shape world hands (call.Set place c) (answer_set world hands place old c)
  shape-set (set_call.Add key) h = writes world hands _ kind.Set place _ _ h.one refl (names_first place None) refl refl
  shape-set (set_call.Discard key) h = writes world hands _ kind.Set place _ _ h.one refl (names_first place None) refl refl
  shape-set (set_call.Remove key) h = either world hands _ (has_element old.elements key) _ _ (writes world hands _ kind.Set place _ _ h.one refl (names_first place None) refl refl) (stays world hands _ _)
  shape-set set_call.Pop h = found world hands _ _ (slice_get old.elements 0) _ (λ v. writes world hands _ kind.Set place _ _ h.one refl (names_first place None) refl refl) (stays world hands _ _)
  shape-set (set_call.Has key) h = stays world hands _ _
  shape-set set_call.Len h = stays world hands _ _
  shape-set set_call.Items h = stays world hands _ _
  shape-set (set_call.Eq other) h = stays world hands _ _
  shape-set (set_call.Or other) h = writes world hands _ kind.Set place _ _ h.one refl (names_first place (Some other)) refl refl
  shape-set (set_call.And other) h = writes world hands _ kind.Set place _ _ h.one refl (names_first place (Some other)) refl refl
  shape-set (set_call.Sub other) h = writes world hands _ kind.Set place _ _ h.one refl (names_first place (Some other)) refl refl
  shape-set (set_call.Xor other) h = writes world hands _ kind.Set place _ _ h.one refl (names_first place (Some other)) refl refl
  shape-set (set_call.Subset other) h = stays world hands _ _
  shape-set (set_call.Disjoint other) h = stays world hands _ _
  shape-set set_call.Clear h = writes world hands _ kind.Set place _ _ h.one refl (names_first place None) refl refl
  shape-set (set_call.Iter cursor) h = turns world hands _ cursor _ _ refl

-- a deque that may be changed keeps its bound
kept_bound : (b : Bool) (old : DequeContent) (items : List Value) → (if b then old else with_deque_items old items).bound ≡ old.bound
kept_bound true old items = refl
kept_bound false old items = refl

module _ (world : WorldContent) (hands : HandsContent) (place : ℕ) where
  shape-deque : (c : DequeCall) → IsNamed world hands (kind.Deque None) place (other_deque c) (cursor_of_deque c) → Shape world hands (call.Deque place c) (answer_deque world hands place (deque_at world place) c)
  shape-deque (deque.Append value) h = writes world hands _ (kind.Deque h.one.0) place _ _ h.one.1 (deque_kind world place h.one.0 h.one.1) (names_first place None) refl refl
  shape-deque (deque.AppendLeft value) h = writes world hands _ (kind.Deque h.one.0) place _ _ h.one.1 (deque_kind world place h.one.0 h.one.1) (names_first place None) refl refl
  shape-deque deque.Pop h = found world hands _ _ (last_item (deque_at world place).items) _ (λ v. writes world hands _ (kind.Deque h.one.0) place _ _ h.one.1 (deque_kind world place h.one.0 h.one.1) (names_first place None) refl refl) (stays world hands _ _)
  shape-deque deque.PopLeft h = found world hands _ _ (first_item (deque_at world place).items) _ (λ v. writes world hands _ (kind.Deque h.one.0) place _ _ h.one.1 (deque_kind world place h.one.0 h.one.1) (names_first place None) refl refl) (stays world hands _ _)
  shape-deque (deque.Extend other) h = let others = (deque_at world other).items in writes world hands _ (kind.Deque h.one.0) place _ _ h.one.1 (ap (λ (b : Option ℕ). kind.Deque b) (kept_bound (length others == 0) (deque_at world place) (right_within (deque_at world place).bound ((deque_at world place).items ++ others))) ∙ deque_kind world place h.one.0 h.one.1) (names_first place (Some other)) refl refl
  shape-deque (deque.ExtendLeft other) h = let others = (deque_at world other).items in writes world hands _ (kind.Deque h.one.0) place _ _ h.one.1 (ap (λ (b : Option ℕ). kind.Deque b) (kept_bound (length others == 0) (deque_at world place) (left_within (deque_at world place).bound (reverse others ++ (deque_at world place).items))) ∙ deque_kind world place h.one.0 h.one.1) (names_first place (Some other)) refl refl
  shape-deque (deque.Rotate steps) h = writes world hands _ (kind.Deque h.one.0) place _ _ h.one.1 (ap (λ (b : Option ℕ). kind.Deque b) (kept_bound (nat_le (length (deque_at world place).items) 1) (deque_at world place) (rotated (deque_at world place).items steps)) ∙ deque_kind world place h.one.0 h.one.1) (names_first place None) refl refl
  shape-deque deque.Clear h = writes world hands _ (kind.Deque h.one.0) place _ _ h.one.1 (ap (λ (b : Option ℕ). kind.Deque b) (kept_bound (length (deque_at world place).items == 0) (deque_at world place) []) ∙ deque_kind world place h.one.0 h.one.1) (names_first place None) refl refl
  shape-deque (deque.Get index) h = found world hands _ _ (deque_get (deque_at world place).items index) _ (λ v. stays world hands _ _) (stays world hands _ _)
  shape-deque deque.Len h = stays world hands _ _
  shape-deque deque.Items h = stays world hands _ _
  shape-deque (deque.Has value) h = stays world hands _ _
  shape-deque (deque.Iter cursor) h = turns world hands _ cursor _ _ refl

shape : (world : WorldContent) (hands : HandsContent) (named : Call) → IsDeclared world hands named → Shape world hands named (answer world hands named)
shape world hands (call.Dict place c) h = shape-dict world hands place (dict_at world place) c h
shape world hands (call.List place c) h = shape-list world hands place (list_at world place) c h
shape world hands (call.Set place c) h = shape-set world hands place (set_at world place) c h
shape world hands (call.Deque place c) h = shape-deque world hands place c h
shape world hands (call.Next number) h = found world hands _ _ (cursor_at hands number) _ (λ cursor. turns world hands _ number _ _ refl) (stays world hands _ _)
shape world hands (call.Begin first second) h = shown refl refl
shape world hands call.End h = shown refl refl
shape world hands call.Quiesce h = shown refl refl
shape world hands (call.Await thread index) h = shown refl refl
shape world hands call.Dump h = shown refl refl

-- ---- the laws

pub answer_exceptions : (world : WorldContent) (hands : HandsContent) (named : Call) → IsDeclared world hands named → is_raised (answer world hands named).reply ≡ true → (answer world hands named).world ≡ world
answer_exceptions world hands named h raised =
    elim (shape world hands named h) [
      | shown w s ↦ w
      | put place there w s k names well changing ↦ absurd (false≢true (sym well ∙ raised))
      | moved number cursor w s is ↦ w
    ]

pub answer_only_writes : (world : WorldContent) (hands : HandsContent) (named : Call) → IsDeclared world hands named → is_write named (answer world hands named).reply ≡ false → (answer world hands named).world ≡ world
answer_only_writes world hands named h unwritten =
    elim (shape world hands named h) [
      | shown w s ↦ w
      | put place there w s k names well changing ↦ absurd (false≢true (sym unwritten ∙ simp (changing, well)))
      | moved number cursor w s is ↦ w
    ]

pub answer_containers : (world : WorldContent) (hands : HandsContent) (named : Call) → IsDeclared world hands named → map kind_of (answer world hands named).world ≡ map kind_of world
answer_containers world hands named h =
    elim (shape world hands named h) [
      | shown w s ↦ ap (map kind_of) w
      | put place there w s k names well changing ↦ ap (map kind_of) w ∙ map-set_same kind_of world place there there k
      | moved number cursor w s is ↦ ap (map kind_of) w
    ]

pub slice_get-other : {X : Type 0} (xs : List X) (i other : ℕ) (x : X) → other ≢ i → slice_get (set xs i x) other ≡ slice_get xs other
slice_get-other [] i other x differ = refl
slice_get-other (y ∷ xs) zero zero x differ = absurd (differ refl)
slice_get-other (y ∷ xs) zero (suc other) x differ = refl
slice_get-other (y ∷ xs) (suc i) zero x differ = refl
slice_get-other (y ∷ xs) (suc i) (suc other) x differ = slice_get-other xs i other x (λ same. differ (ap suc same))

pub answer_others : (world : WorldContent) (hands : HandsContent) (named : Call) → IsDeclared world hands named → (other : ℕ) → (Contains (containers_of named) other → ⊥) → slice_get (answer world hands named).world other ≡ slice_get world other
answer_others world hands named h other absent =
    elim (shape world hands named h) [
      | shown w s ↦ ap (λ (x : WorldContent). slice_get x other) w
      | put place there w s k names well changing ↦ ap (λ (x : WorldContent). slice_get x other) w ∙ slice_get-other world place other there (λ same. absent (rw same names))
      | moved number cursor w s is ↦ ap (λ (x : WorldContent). slice_get x other) w
    ]

pub answer_cursors : (world : WorldContent) (hands : HandsContent) (named : Call) → IsDeclared world hands named → (number : ℕ) → (moved_cursor named ≡ Some number → ⊥) → slice_get (answer world hands named).hands number ≡ slice_get hands number
answer_cursors world hands named h number absent =
    elim (shape world hands named h) [
      | shown w s ↦ ap (λ (x : HandsContent). slice_get x number) s
      | put place there w s k names well changing ↦ ap (λ (x : HandsContent). slice_get x number) s
      | moved at cursor w s is ↦ ap (λ (x : HandsContent). slice_get x number) s ∙ slice_get-other hands at number (Some cursor) (λ same. absent (is ∙ ap Some (sym same)))
    ]
