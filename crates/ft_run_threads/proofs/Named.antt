-- What a call of a script names is in a bank that is made for the script.
use Rattle.std.proofs.Common.{◌≡◌, ℕ, ◌<◌, List, length, true, refl, sym, ap, ◌∙◌, subst, arith, None, Some, false}
use Rattle.std.specs.Prelude.{Option, IfSome, is_some, slice_get}
use Rattle.std.proofs.lemmas.List.{length-map}
use Rattle.std.proofs.lemmas.Option.{get_or_from_slice_get, slice_get-map, slice_get_within}
use Rattle.ft_model.specs.declared.call.Call.{Call}
use Rattle.ft_model.specs.declared.call.Call.TheVariants as call
use Rattle.ft_model.specs.declared.call.DictCall.{DictCall}
use Rattle.ft_model.specs.declared.call.DictCall.TheVariants as dict
use Rattle.ft_model.specs.declared.call.SetCall.{SetCall}
use Rattle.ft_model.specs.declared.call.SetCall.TheVariants as set
use Rattle.ft_model.specs.declared.cursor.Cursor.{Cursor}
use Rattle.ft_model.specs.declared.data.Key.{Key}
use Rattle.ft_model.specs.declared.data.Key.TheVariants as key
use Rattle.ft_model.specs.declared.script.Declaration.{Declaration}
use Rattle.ft_model.specs.declared.script.Kind.{Kind}
use Rattle.ft_model.specs.declared.script.Kind.TheVariants as kind
use Rattle.ft_model.specs.declared.script.ScriptParts.{ScriptParts}
use Rattle.ft_model.specs.Calls.{cursor_of_dict, cursor_of_list, cursor_of_set, other_dict, other_list, other_set}
use Rattle.ft_model.specs.Scripts.{AreNamesOf, AreStringsOfDict, AreStringsOfSet, IsCallOf, IsDeclaredAs, IsKeyOf, kind_at}
use Rattle.ft_model.specs.Worlds.{cursor_at, start_as, starts_of}
use Rattle.ft_trace.specs.declared.Shape.{Shape}
use Rattle.ft_trace.specs.Addresses.{container_count}
use Rattle.ft_bank.specs.KeyHashes.{IsKeyIn}
use Rattle.ft_engine.specs.Callers.{IsOfKindIn}
use Rattle.ft_dict.specs.DictMaking.{key_of_dict}
use Rattle.ft_set.specs.SetMaking.{key_of_set}
use Rattle.ft_engine.specs.Asked.{AreOfKindIn, IsCallIn}
use Rattle.ft_run_threads.specs.Workers.{IsNoAwait}
use Rattle.ft_model.specs.declared.script.Start.{Start}
use Rattle.ft_model.specs.Landed.{is_landed_call}
use Rattle.std.specs.Option.{option_map}

if_some_both : {X : Type 0} (P Q : X → Type 0) → ((x : X) → P x → Q x) → (o : Option X) → IfSome o P → IfSome o Q
if_some_both P Q each None holds = tt
if_some_both P Q each (Some x) holds = each x holds

-- ---- keys

dict_key : (strings : ℕ) (dc : DictCall) → AreStringsOfDict strings dc → IfSome (key_of_dict dc) (IsKeyOf strings)
dict_key strings (dict.Get k) are = are
dict_key strings (dict.GetOr k default) are = are.0
dict_key strings (dict.Set k value) are = are.0
dict_key strings (dict.Del k) are = are
dict_key strings (dict.Pop k) are = are
dict_key strings (dict.PopOr k default) are = are.0
dict_key strings dict.PopItem are = tt
dict_key strings (dict.SetDefault k default) are = are.0
dict_key strings (dict.Has k) are = are
dict_key strings dict.Len are = tt
dict_key strings dict.Items are = tt
dict_key strings (dict.Update other) are = tt
dict_key strings dict.Clear are = tt
dict_key strings (dict.CopyTo other) are = tt
dict_key strings (dict.Eq other) are = tt
dict_key strings (dict.Iter cursor) are = tt
dict_key strings (dict.KeysAnd other) are = tt
dict_key strings (dict.KeysSub other) are = tt
dict_key strings (dict.KeysOr other) are = tt
dict_key strings (dict.KeysXor other) are = tt
dict_key strings (dict.ItemsHas k value) are = are.0
dict_key strings (dict.Reversed cursor) are = tt

set_key : (strings : ℕ) (sc : SetCall) → AreStringsOfSet strings sc → IfSome (key_of_set sc) (IsKeyOf strings)
set_key strings (set.Add k) are = are
set_key strings (set.Discard k) are = are
set_key strings (set.Remove k) are = are
set_key strings set.Pop are = tt
set_key strings (set.Has k) are = are
set_key strings set.Len are = tt
set_key strings set.Items are = tt
set_key strings (set.Eq other) are = tt
set_key strings (set.Or other) are = tt
set_key strings (set.And other) are = tt
set_key strings (set.Sub other) are = tt
set_key strings (set.Xor other) are = tt
set_key strings (set.Subset other) are = tt
set_key strings (set.Disjoint other) are = tt
set_key strings set.Clear are = tt
set_key strings (set.Iter cursor) are = tt

-- ---- a bank with these containers and as many strings

module _ (script : ScriptParts) (k : Shape) (starts : k.starts ≡ starts_of script.containers) (texts : length k.texts ≡ length script.strings) where
  key_in : (named : Key) → IsKeyOf (length script.strings) named → IsKeyIn k named
  key_in (key.Int n) is = tt
  key_in (key.Text symbol) is = omega (arith, is, texts)

  -- where the kind is one of these, the container starts so
  kind_there : (which : Kind) (o : ℕ) → kind_at script.containers o ≡ Some which → IsOfKindIn k which o
  kind_there which o is =
      let at : option_map (λ (start : Start). start.kind) (slice_get k.starts o) ≡ Some which =
      ap (λ (all : List Start). option_map (λ (start : Start). start.kind) (slice_get all o)) starts
      ∙ (ap (option_map (λ (start : Start). start.kind)) (slice_get-map (λ (d : Declaration). d.start) script.containers o) ∙ (mapped_twice (slice_get script.containers o) ∙ is)) in
      found (slice_get k.starts o) refl at
    where
      mapped_twice : (d : Option Declaration) → option_map (λ (start : Start). start.kind) (option_map (λ (d : Declaration). d.start) d) ≡ option_map (λ (d : Declaration). d.start.kind) d
      mapped_twice None = refl
      mapped_twice (Some d) = refl

      found : (start : Option Start) → slice_get k.starts o ≡ start → option_map (λ (start : Start). start.kind) start ≡ Some which → IsOfKindIn k which o
      found None at none = absurd (let e : None ≡ Some which = none in cc)
      found (Some start) at some = (
        slice_get_within k.starts o start at,
        ap (λ (start : Start). start.kind) (get_or_from_slice_get k.starts o start (start_as kind.List) at) ∙ (let e : start.kind ≡ which = cc in e),
      )

  both_declared : (which : Kind) (o : ℕ) (other cursor : Option ℕ) (cursors : ℕ) → ((o : ℕ) → IsDeclaredAs script.containers which o → IsOfKindIn k which o) → AreNamesOf script.containers cursors which o other cursor → AreOfKindIn k which o other
  both_declared which o other cursor cursors declared names = (
    declared o names.container,
    if_some_both (λ p. IsDeclaredAs script.containers which p) (λ p. IsOfKindIn k which p) declared other names.second,
  )

  count : container_count k ≡ length script.containers
  count = ap length starts ∙ length-map script.containers (λ (d : Declaration). d.start)

  -- to a thread with that many cursors, of which a `next` names one that was made; an `await` names none of these
  pub named_in : (hands : List (Option Cursor)) (cursors : ℕ) (called : Call) → IsNoAwait called → ((n : ℕ) → n < cursors → n < length hands) → IsCallOf script cursors called → is_landed_call called ≡ true
      → ((number : ℕ) → called ≡ call.Next number → is_some (cursor_at hands number) ≡ true) → IsCallIn k hands called
  named_in hands cursors (call.Dict o dc) other room is landed made = (
    both_declared kind.Dict o (other_dict dc) (cursor_of_dict dc) cursors (kind_there kind.Dict) is.names,
    if_some_both (λ n. n < cursors) (λ n. n < length hands) room (cursor_of_dict dc) is.names.made,
    if_some_both (IsKeyOf (length script.strings)) (IsKeyIn k) key_in (key_of_dict dc) (dict_key (length script.strings) dc is.strings),
    landed,
  )
  named_in hands cursors (call.List o lc) other room is landed made = (
    both_declared kind.List o (other_list lc) (cursor_of_list lc) cursors (kind_there kind.List) is.names,
    if_some_both (λ n. n < cursors) (λ n. n < length hands) room (cursor_of_list lc) is.names.made,
    landed,
  )
  named_in hands cursors (call.Set o sc) other room is landed made = (
    both_declared kind.Set o (other_set sc) (cursor_of_set sc) cursors (kind_there kind.Set) is.names,
    if_some_both (λ n. n < cursors) (λ n. n < length hands) room (cursor_of_set sc) is.names.made,
    if_some_both (IsKeyOf (length script.strings)) (IsKeyIn k) key_in (key_of_set sc) (set_key (length script.strings) sc is.strings),
  )
  named_in hands cursors (call.Deque o qc) other room is landed made = absurd (let e : false ≡ true = landed in cc)
  named_in hands cursors (call.Next number) other room is landed made = (room number is.names, made number refl)
  named_in hands cursors (call.Begin first second) other room is landed made = (
    subst (λ (n : ℕ). first < n) (sym count) is.names.0,
    subst (λ (n : ℕ). IfSome second (λ other. other < n)) (sym count) is.names.1,
  )
  named_in hands cursors call.End other room is landed made = tt
  named_in hands cursors call.Quiesce other room is landed made = tt
  named_in hands cursors (call.Await thread index) other room is landed made = absurd other
  named_in hands cursors call.Dump other room is landed made = absurd (let e : false ≡ true = landed in cc)
