-- Whether a call would leave a container with more than the largest table holds.
use Rattle.std.proofs.Common.{◌≡◌, ℕ, zero, suc, ◌+◌, ◌-◌, ◌==◌, ◌<◌, ◌≤◌, Bool, true, false, not, ◌&&◌, ◌||◌, List, [], ◌∷◌, ◌++◌, map, length, get_or, reverse, set, Option, Some, None, refl, sym, ap, ◌∙◌, arith, cond, eqb, ltb, ℤ}
use Rattle.std.specs.Prelude.{pos, negsuc}
use Rattle.std.specs.List.{list_any}
use Rattle.std.specs.Option.{option_map_or}
use Rattle.std.proofs.lemmas.Bool.{eqb-true, eqb-false}
use Rattle.std.proofs.lemmas.List.{get_or-set_same, get_or-set_other, length-append, length-drop, length-take, length-reverse, length_push}
use Rattle.std.proofs.lemmas.List.Edits.{length-insert}
use Rattle.ft_model.specs.declared.call.Call.TheVariants as call
use Rattle.ft_model.specs.declared.call.DictCall.TheVariants as dict
use Rattle.ft_model.specs.declared.call.ListCall.TheVariants as list
use Rattle.ft_model.specs.declared.call.SetCall.TheVariants as set_call
use Rattle.ft_model.specs.declared.call.DequeCall.TheVariants as deque
use Rattle.ft_model.specs.declared.content.Content.{Content}
use Rattle.ft_model.specs.declared.content.Content.TheVariants as content
use Rattle.ft_model.specs.declared.content.DictPair.{DictPair}
use Rattle.ft_model.specs.declared.content.Element.{Element}
use Rattle.ft_model.specs.declared.data.Key.{Key}
use Rattle.ft_model.specs.declared.data.Value.{Value}
use Rattle.ft_model.specs.declared.reply.Reply.TheVariants as reply
use Rattle.ft_model.specs.declared.script.Kind.TheVariants as kind
use Rattle.ft_model.specs.Calls.{one_or_two}
use Rattle.ft_model.specs.Contents.{DictContent, SetContent, is_at, has_key, has_element, dict_get, dict_set, dict_update, dict_copy, set_add, those_not_in, elements_from}
use Rattle.ft_model.specs.Lists.{clamped_in, list_insert}
use Rattle.ft_model.specs.Deques.{DequeContent, right_within, left_within, with_deque_items, deque_append, deque_append_left, deque_extend, deque_extend_left}
use Rattle.ft_model.specs.Worlds.{IsOfKind, dict_at, list_at, set_at, deque_at, no_hands}
use Rattle.ft_model.specs.Answers.{shows, puts}
use Rattle.ft_model.specs.TableUses.{passes_cap, would_pass}
use Rattle.ft_model.proofs.WorldPlaces.{is_there}
use Rattle.ft_model.proofs.Copies.{length-pairs_from, length-elements_from}
use Rattle.ft_history.specs.Internal.Accounts.{length_within, length_with_items}
use Rattle.ft_history.proofs.UpdatedDicts.{length-dict_set}

-- what stands where there is no container
abbrev empty : Content
empty = content.List []

or_false : (b : Bool) → (b || false) ≡ b
or_false true = refl
or_false false = refl

or_same : (b : Bool) → (b || (b || false)) ≡ b
or_same true = refl
or_same false = refl

-- whether one of the containers at some places passes
abbrev some_passes : List Content → List ℕ → Bool
some_passes world places = list_any passes_cap (map (λ place. get_or world place empty) places)

-- ---- what passes after a write at a place

module _ (world : List Content) (place : ℕ) (x : Content) (low : place < length world) where
  written_one : some_passes (set world place x) (place ∷ []) ≡ passes_cap x
  written_one = ap (λ y. passes_cap y || false) (get_or-set_same world place x empty low) ∙ or_false (passes_cap x)

  -- the one that is written, or another one
  written_two : (other : ℕ) → some_passes (set world place x) (one_or_two place (Some other)) ≡ (passes_cap x || (not (eqb place other) && passes_cap (get_or world other empty)))
  written_two other =
      elim (eqb place other) as (λ b. eqb place other ≡ b → some_passes (set world place x) (cond b (place ∷ []) (place ∷ other ∷ [])) ≡ (passes_cap x || (not b && passes_cap (get_or world other empty)))) [
        | true ↦ λ same. written_one ∙ sym (or_false (passes_cap x))
        | false ↦ λ differ.
            ap (λ y. passes_cap y || (passes_cap (get_or (set world place x) other empty) || false)) (get_or-set_same world place x empty low)
            ∙ ap (λ y. passes_cap x || (passes_cap y || false)) (get_or-set_other world place other x empty (λ same. eqb-false place other differ (sym same)))
            ∙ ap (λ b. passes_cap x || b) (or_false (passes_cap (get_or world other empty)))
      ] refl

  -- one that passes as the one does that is written elsewhere
  written_copy : (from : ℕ) → passes_cap (get_or world from empty) ≡ passes_cap x → some_passes (set world place x) (one_or_two from (Some place)) ≡ passes_cap x
  written_copy from alike =
      elim (eqb from place) as (λ b. eqb from place ≡ b → some_passes (set world place x) (cond b (from ∷ []) (from ∷ place ∷ [])) ≡ passes_cap x) [
        | true ↦ λ same. ap (λ p. some_passes (set world place x) (p ∷ [])) (eqb-true from place same) ∙ written_one
        | false ↦ λ differ.
            ap (λ y. passes_cap y || (passes_cap (get_or (set world place x) place empty) || false)) (get_or-set_other world place from x empty (eqb-false from place differ))
            ∙ ap (λ b. b || (passes_cap (get_or (set world place x) place empty) || false)) alike
            ∙ ap (λ y. passes_cap x || (passes_cap y || false)) (get_or-set_same world place x empty low)
            ∙ or_same (passes_cap x)
      ] refl

-- ---- what passes now

passes_dict : (world : List Content) (place : ℕ) → IsOfKind world kind.Dict place → passes_cap (get_or world place empty) ≡ ltb 43690 (length (dict_at world place).pairs)
passes_dict [] place is = absurd (let e : None ≡ Some kind.Dict = is in cc)
passes_dict (content.Dict d ∷ world) zero is = refl
passes_dict (content.List items ∷ world) zero is = absurd (let e : Some kind.List ≡ Some kind.Dict = is in cc)
passes_dict (content.Set s ∷ world) zero is = absurd (let e : Some kind.Set ≡ Some kind.Dict = is in cc)
passes_dict (content.Deque q ∷ world) zero is = absurd (let e : Some (kind.Deque q.bound) ≡ Some kind.Dict = is in cc)
passes_dict (first ∷ world) (suc place) is = passes_dict world place is

passes_list : (world : List Content) (place : ℕ) → IsOfKind world kind.List place → passes_cap (get_or world place empty) ≡ ltb 65536 (length (list_at world place))
passes_list [] place is = absurd (let e : None ≡ Some kind.List = is in cc)
passes_list (content.List items ∷ world) zero is = refl
passes_list (content.Dict d ∷ world) zero is = absurd (let e : Some kind.Dict ≡ Some kind.List = is in cc)
passes_list (content.Set s ∷ world) zero is = absurd (let e : Some kind.Set ≡ Some kind.List = is in cc)
passes_list (content.Deque q ∷ world) zero is = absurd (let e : Some (kind.Deque q.bound) ≡ Some kind.List = is in cc)
passes_list (first ∷ world) (suc place) is = passes_list world place is

passes_set : (world : List Content) (place : ℕ) → IsOfKind world kind.Set place → passes_cap (get_or world place empty) ≡ ltb 39321 (length (set_at world place).elements)
passes_set [] place is = absurd (let e : None ≡ Some kind.Set = is in cc)
passes_set (content.Set s ∷ world) zero is = refl
passes_set (content.Dict d ∷ world) zero is = absurd (let e : Some kind.Dict ≡ Some kind.Set = is in cc)
passes_set (content.List items ∷ world) zero is = absurd (let e : Some kind.List ≡ Some kind.Set = is in cc)
passes_set (content.Deque q ∷ world) zero is = absurd (let e : Some (kind.Deque q.bound) ≡ Some kind.Set = is in cc)
passes_set (first ∷ world) (suc place) is = passes_set world place is

passes_deque : (world : List Content) (place : ℕ) → IsOfKind world (kind.Deque None) place → passes_cap (get_or world place empty) ≡ ltb 65536 (length (deque_at world place).items)
passes_deque [] place is = absurd (let e : None ≡ Some (kind.Deque is.0) = is.1 in cc)
passes_deque (content.Deque q ∷ world) zero is = refl
passes_deque (content.Dict d ∷ world) zero is = absurd (let e : Some kind.Dict ≡ Some (kind.Deque is.0) = is.1 in cc)
passes_deque (content.List items ∷ world) zero is = absurd (let e : Some kind.List ≡ Some (kind.Deque is.0) = is.1 in cc)
passes_deque (content.Set s ∷ world) zero is = absurd (let e : Some kind.Set ≡ Some (kind.Deque is.0) = is.1 in cc)
passes_deque (first ∷ world) (suc place) is = passes_deque world place is

-- ---- dicts

found_key : (pairs : List DictPair) (key : Key) (value : Value) → dict_get pairs key ≡ Some value → has_key pairs key ≡ true
found_key [] key value found = absurd (let e : None ≡ Some value = found in cc)
found_key (pair ∷ pairs) key value found =
    elim (is_at key pair) as (λ b. is_at key pair ≡ b → has_key (pair ∷ pairs) key ≡ true) [
      | true ↦ λ here. simp here
      | false ↦ λ no. simp no (found_key pairs key value (simp no at found))
    ] refl

module _ (world : List Content) (place : ℕ) (one : IsOfKind world kind.Dict place) where
  low_dict : place < length world
  low_dict = is_there world kind.Dict place one

  pub dict_set_passes : (key : Key) (value : Value) → ltb 43690 (length (dict_at world place).pairs + cond (has_key (dict_at world place).pairs key) 0 1) ≡ would_pass world (call.Dict place (dict.Set key value))
  dict_set_passes key value = ap (λ n. ltb 43690 n) (sym (length-dict_set (dict_at world place) key value)) ∙ sym (written_one world place (content.Dict (dict_set (dict_at world place) key value)) low_dict)

  pub dict_default_passes : (key : Key) (value : Value) → ltb 43690 (length (dict_at world place).pairs + cond (has_key (dict_at world place).pairs key) 0 1) ≡ would_pass world (call.Dict place (dict.SetDefault key value))
  dict_default_passes key value =
      let old : DictContent = dict_at world place in
      elim (dict_get old.pairs key) as (λ o. dict_get old.pairs key ≡ o → ltb 43690 (length old.pairs + cond (has_key old.pairs key) 0 1) ≡ some_passes (option_map_or (λ found. shows world no_hands (reply.Value found)) o (puts world no_hands place (content.Dict (dict_set old key value)) (reply.Value value))).world (place ∷ [])) [
        | None ↦ λ none. dict_set_passes key value
        | Some found ↦ λ some.
            let same : length old.pairs + 0 ≡ length old.pairs = omega arith in
            ap (λ b. ltb 43690 (length old.pairs + cond b 0 1)) (found_key old.pairs key found some) ∙ ap (λ n. ltb 43690 n) same ∙ sym (passes_dict world place one) ∙ sym (or_false (passes_cap (get_or world place empty)))
      ] refl

  pub dict_update_passes : (other : ℕ) → IsOfKind world kind.Dict other
      → (ltb 43690 (length (dict_update (dict_at world place) (dict_at world other).pairs).pairs) || (not (eqb place other) && ltb 43690 (length (dict_at world other).pairs))) ≡ would_pass world (call.Dict place (dict.Update other))
  dict_update_passes other both =
      let updated : Content = content.Dict (dict_update (dict_at world place) (dict_at world other).pairs) in
      ap (λ b. passes_cap updated || (not (eqb place other) && b)) (sym (passes_dict world other both))
      ∙ sym (written_two world place updated low_dict other)

  pub dict_copy_passes : (other : ℕ) → IsOfKind world kind.Dict other → ltb 43690 (length (dict_at world place).pairs) ≡ would_pass world (call.Dict place (dict.CopyTo other))
  dict_copy_passes other both =
      let copied : Content = content.Dict (dict_copy (dict_at world other) (dict_at world place).pairs) in
      let same : passes_cap copied ≡ ltb 43690 (length (dict_at world place).pairs) = ap (λ n. ltb 43690 n) (length-pairs_from (dict_at world other).next (dict_at world place).pairs) in
      sym same ∙ sym (written_copy world other copied (is_there world kind.Dict other both) place (passes_dict world place one ∙ sym same))

-- ---- lists

clamped : (items : List Value) (index : ℤ) → clamped_in (length items) index ≤ length items
clamped items (pos index) = omega arith
clamped items (negsuc below) = omega arith

module _ (world : List Content) (place : ℕ) (one : IsOfKind world kind.List place) where
  low_list : place < length world
  low_list = is_there world kind.List place one

  pub list_append_passes : (value : Value) → ltb 65536 (length (list_at world place) + 1) ≡ would_pass world (call.List place (list.Append value))
  list_append_passes value = ap (λ n. ltb 65536 n) (sym (length_push (list_at world place) value)) ∙ sym (written_one world place (content.List (list_at world place ++ value ∷ [])) low_list)

  pub list_insert_passes : (index : ℤ) (value : Value) → ltb 65536 (length (list_at world place) + 1) ≡ would_pass world (call.List place (list.Insert index value))
  list_insert_passes index value = ap (λ n. ltb 65536 n) (sym (length-insert (list_at world place) (clamped_in (length (list_at world place)) index) value (clamped (list_at world place) index))) ∙ sym (written_one world place (content.List (list_insert (list_at world place) index value)) low_list)

  pub list_extend_passes : (other : ℕ) → IsOfKind world kind.List other → (ltb 65536 (length (list_at world place) + length (list_at world other)) || (not (eqb place other) && ltb 65536 (length (list_at world other)))) ≡ would_pass world (call.List place (list.Extend other))
  list_extend_passes other both =
      let longer : Content = content.List (list_at world place ++ list_at world other) in
      ap (λ n. ltb 65536 n || (not (eqb place other) && ltb 65536 (length (list_at world other)))) (sym (length-append (list_at world place) (list_at world other)))
      ∙ ap (λ b. passes_cap longer || (not (eqb place other) && b)) (sym (passes_list world other both))
      ∙ sym (written_two world place longer low_list other)

-- ---- deques

length-right_within : (bound : Option ℕ) (items : List Value) → length (right_within bound items) ≡ length_within bound (length items)
length-right_within None items = refl
length-right_within (Some most) items = omega (arith, length-drop (length items - most) items)

length-left_within : (bound : Option ℕ) (items : List Value) → length (left_within bound items) ≡ length_within bound (length items)
length-left_within None items = refl
length-left_within (Some most) items = omega (arith, length-take most items)

length-extended : (q : DequeContent) (others : List Value) → length (deque_extend q others).items ≡ length_with_items q (length others)
length-extended q others =
    elim (length others == 0) as (λ b. length (cond b q (with_deque_items q (right_within q.bound (q.items ++ others)))).items ≡ cond b (length q.items) (length_within q.bound (length q.items + length others))) [
      | true ↦ refl
      | false ↦ length-right_within q.bound (q.items ++ others) ∙ ap (length_within q.bound) (length-append q.items others)
    ]

length-extended_left : (q : DequeContent) (others : List Value) → length (deque_extend_left q others).items ≡ length_with_items q (length others)
length-extended_left q others =
    let n : length (reverse others ++ q.items) ≡ length q.items + length others = omega (arith, length-append (reverse others) q.items, length-reverse others) in
    elim (length others == 0) as (λ b. length (cond b q (with_deque_items q (left_within q.bound (reverse others ++ q.items)))).items ≡ cond b (length q.items) (length_within q.bound (length q.items + length others))) [
      | true ↦ refl
      | false ↦ length-left_within q.bound (reverse others ++ q.items) ∙ ap (length_within q.bound) n
    ]

module _ (world : List Content) (place : ℕ) (one : IsOfKind world (kind.Deque None) place) where
  low_deque : place < length world
  low_deque = is_there world (kind.Deque one.0) place one.1

  pub deque_append_passes : (value : Value) → ltb 65536 (length_with_items (deque_at world place) 1) ≡ would_pass world (call.Deque place (deque.Append value))
  deque_append_passes value =
      let q : DequeContent = deque_at world place in
      ap (λ n. ltb 65536 n) (sym (length-right_within q.bound (q.items ++ value ∷ []) ∙ ap (length_within q.bound) (length_push q.items value)))
      ∙ sym (written_one world place (content.Deque (deque_append q value)) low_deque)

  pub deque_append_left_passes : (value : Value) → ltb 65536 (length_with_items (deque_at world place) 1) ≡ would_pass world (call.Deque place (deque.AppendLeft value))
  deque_append_left_passes value =
      let q : DequeContent = deque_at world place in
      let n : length (value ∷ q.items) ≡ length q.items + 1 = omega arith in
      ap (λ n. ltb 65536 n) (sym (length-left_within q.bound (value ∷ q.items) ∙ ap (length_within q.bound) n))
      ∙ sym (written_one world place (content.Deque (deque_append_left q value)) low_deque)

  -- a deque that is changed, and another one
  both_pass : (left : DequeContent) (other after : ℕ) → length left.items ≡ after → IsOfKind world (kind.Deque None) other
      → (ltb 65536 after || (not (eqb place other) && ltb 65536 (length (deque_at world other).items))) ≡ some_passes (set world place (content.Deque left)) (one_or_two place (Some other))
  both_pass left other after long both =
      ap (λ n. ltb 65536 n || (not (eqb place other) && ltb 65536 (length (deque_at world other).items))) (sym long)
      ∙ ap (λ b. passes_cap (content.Deque left) || (not (eqb place other) && b)) (sym (passes_deque world other both))
      ∙ sym (written_two world place (content.Deque left) low_deque other)

  pub deque_extend_passes : (other : ℕ) → IsOfKind world (kind.Deque None) other → (ltb 65536 (length_with_items (deque_at world place) (length (deque_at world other).items)) || (not (eqb place other) && ltb 65536 (length (deque_at world other).items))) ≡ would_pass world (call.Deque place (deque.Extend other))
  deque_extend_passes other both = both_pass (deque_extend (deque_at world place) (deque_at world other).items) other _ (length-extended (deque_at world place) (deque_at world other).items) both

  pub deque_extend_left_passes : (other : ℕ) → IsOfKind world (kind.Deque None) other → (ltb 65536 (length_with_items (deque_at world place) (length (deque_at world other).items)) || (not (eqb place other) && ltb 65536 (length (deque_at world other).items))) ≡ would_pass world (call.Deque place (deque.ExtendLeft other))
  deque_extend_left_passes other both = both_pass (deque_extend_left (deque_at world place) (deque_at world other).items) other _ (length-extended_left (deque_at world place) (deque_at world other).items) both

-- ---- sets

length-set_add : (set : SetContent) (key : Key) → length (set_add set key).elements ≡ length set.elements + cond (has_element set.elements key) 0 1
length-set_add set key =
    elim (has_element set.elements key) as (λ b. has_element set.elements key ≡ b → length (set_add set key).elements ≡ length set.elements + cond b 0 1) [
      | true ↦ λ there. simp there (omega arith)
      | false ↦ λ absent. simp absent (length_push set.elements (record { serial = set.next; key = key }))
    ] refl

-- elements with others that are added after them
length-added : (kept added : List Element) (next : ℕ) → length (kept ++ elements_from next added) ≡ length kept + length added
length-added kept added next = length-append kept (elements_from next added) ∙ ap (λ n. length kept + n) (length-elements_from next added)

module _ (world : List Content) (place : ℕ) (one : IsOfKind world kind.Set place) where
  low_set : place < length world
  low_set = is_there world kind.Set place one

  pub set_add_passes : (key : Key) → ltb 39321 (length (set_at world place).elements + cond (has_element (set_at world place).elements key) 0 1) ≡ would_pass world (call.Set place (set_call.Add key))
  set_add_passes key = ap (λ n. ltb 39321 n) (sym (length-set_add (set_at world place) key)) ∙ sym (written_one world place (content.Set (set_add (set_at world place) key)) low_set)

  -- the elements that are kept, and those of the other set that are added
  joined : List Element → ℕ → Content
  joined kept other =
      content.Set (record {
        next = (set_at world place).next + length (those_not_in (set_at world place).elements (set_at world other).elements);
        elements = kept ++ elements_from (set_at world place).next (those_not_in (set_at world place).elements (set_at world other).elements);
      })

  joined_passes : (kept : List Element) (other : ℕ) → IsOfKind world kind.Set other
      → (ltb 39321 (length kept + length (those_not_in (set_at world place).elements (set_at world other).elements)) || (not (eqb place other) && ltb 39321 (length (set_at world other).elements))) ≡ some_passes (set world place (joined kept other)) (one_or_two place (Some other))
  unfolding joined
  joined_passes kept other both =
      ap (λ n. ltb 39321 n || (not (eqb place other) && ltb 39321 (length (set_at world other).elements))) (sym (length-added kept (those_not_in (set_at world place).elements (set_at world other).elements) (set_at world place).next))
      ∙ ap (λ b. passes_cap (joined kept other) || (not (eqb place other) && b)) (sym (passes_set world other both))
      ∙ sym (written_two world place (joined kept other) low_set other)

  pub set_or_passes : (other : ℕ) → IsOfKind world kind.Set other
      → (ltb 39321 (length (set_at world place).elements + length (those_not_in (set_at world place).elements (set_at world other).elements)) || (not (eqb place other) && ltb 39321 (length (set_at world other).elements))) ≡ would_pass world (call.Set place (set_call.Or other))
  unfolding joined
  set_or_passes other both = joined_passes (set_at world place).elements other both

  pub set_xor_passes : (other : ℕ) → IsOfKind world kind.Set other
      → (ltb 39321 (length (those_not_in (set_at world other).elements (set_at world place).elements) + length (those_not_in (set_at world place).elements (set_at world other).elements)) || (not (eqb place other) && ltb 39321 (length (set_at world other).elements))) ≡ would_pass world (call.Set place (set_call.Xor other))
  unfolding joined
  set_xor_passes other both = joined_passes (those_not_in (set_at world other).elements (set_at world place).elements) other both
