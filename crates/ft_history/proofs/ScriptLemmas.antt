-- What the rule of scripts says of threads and of their calls.
use Rattle.std.proofs.Common.{◌≡◌, ℕ, ◌<◌, ◌≤◌, true, false, List, [], ◌∷◌, length, take, get_or, Option, Some, None, refl, sym, ap, subst, ◌∙◌, arith, cond, eqb, inl, inr, ◌==◌}
use Rattle.std.specs.Prelude.{slice_get, filter, option_map, All, IfSome, IsSomeAnd}
use Rattle.std.specs.Option.{option_map_or}
use Rattle.std.proofs.lemmas.List.Elements.{All-from_recursion}
use Rattle.std.proofs.lemmas.Option.{slice_get-map, slice_get_within, slice_get_cases, get_or_from_slice_get, slice_get_past, IfSome_then}
use Rattle.std.proofs.lemmas.Bool.{and_parts, eq-eqb, false≢true}
use Rattle.std.proofs.lemmas.List.{length-map}
use Rattle.ft_model.specs.declared.call.Call.{Call}
use Rattle.ft_model.specs.declared.call.Call.TheVariants as call
use Rattle.ft_model.specs.declared.script.Declaration.{Declaration}
use Rattle.ft_model.specs.declared.data.Key.{Key}
use Rattle.ft_model.specs.declared.entry.Entry.{Entry}
use Rattle.ft_model.specs.declared.script.Kind.{Kind}
use Rattle.ft_model.specs.declared.script.Kind.TheVariants as kind
use Rattle.ft_model.specs.declared.script.Thread.{Thread}
use Rattle.ft_model.specs.declared.script.ScriptParts.{ScriptParts}
use Rattle.ft_model.specs.Calls.{one_or_two, containers_of}
use Rattle.ft_model.specs.Landed.{shares_none}
use Rattle.ft_model.specs.Scripts.{kind_at, IsAwaitOf, IsDeclaredAs, NamesOf, IsCallOf, IsThread, IsScript}
use Rattle.ft_model.specs.Histories.{calls_of, cursors_of, EachAt, IsWhole}
use Rattle.ft_history.specs.Internal.States.{NamesThread}
use Rattle.ft_history.proofs.FilteredParts.{passed_at}

kind_within : (containers : List Declaration) (k : Kind) (place : ℕ) → kind_at containers place ≡ Some k → place < length containers
kind_within containers k place is = omega (arith, length-map containers (λ (c : Declaration). c.start.kind), slice_get_within _ place k (slice_get-map (λ (c : Declaration). c.start.kind) containers place ∙ is))

declared_within : (containers : List Declaration) (k : Kind) (place : ℕ) → IsDeclaredAs containers k place → place < length containers
declared_within containers kind.Dict place is = kind_within containers kind.Dict place is
declared_within containers kind.List place is = kind_within containers kind.List place is
declared_within containers kind.Set place is = kind_within containers kind.Set place is
declared_within containers (kind.Deque _) place is = kind_within containers (kind.Deque is.0) place is.1

one_or_two_within : (n first : ℕ) (second : Option ℕ) → first < n → IfSome second (λ place. place < n) → All (λ which. which < n) (one_or_two first second)
one_or_two_within n first None low both = All-from_recursion (λ which. which < n) (first ∷ []) (low, tt)
one_or_two_within n first (Some second) low both =
    elim (eqb first second) as (λ b. All (λ which. which < n) (cond b (first ∷ []) (first ∷ second ∷ []))) [
      | true ↦ All-from_recursion (λ which. which < n) (first ∷ []) (low, tt)
      | false ↦ All-from_recursion (λ which. which < n) (first ∷ second ∷ []) (low, (both, tt))
    ]

none_within : (n : ℕ) → All (λ which. which < n) []
none_within n = All-from_recursion (λ which. which < n) [] tt

-- the containers that a call of a script names are declared
pub named_within : (containers : List Declaration) (cursors : ℕ) (called : Call) → NamesOf containers cursors called → All (λ which. which < length containers) (containers_of called)
named_within containers cursors (call.Dict place dict_call) names = one_or_two_within _ place _ (declared_within containers kind.Dict place names.container) (IfSome_then _ names.second (λ other is. declared_within containers kind.Dict other is))
named_within containers cursors (call.List place list_call) names = one_or_two_within _ place _ (declared_within containers kind.List place names.container) (IfSome_then _ names.second (λ other is. declared_within containers kind.List other is))
named_within containers cursors (call.Set place set_call) names = one_or_two_within _ place _ (declared_within containers kind.Set place names.container) (IfSome_then _ names.second (λ other is. declared_within containers kind.Set other is))
named_within containers cursors (call.Deque place deque_call) names = one_or_two_within _ place _ (declared_within containers (kind.Deque None) place names.container) (IfSome_then _ names.second (λ other is. declared_within containers (kind.Deque None) other is))
named_within containers cursors (call.Next number) names = none_within (length containers)
named_within containers cursors (call.Begin first second) names = one_or_two_within _ first second names.0 names.1
named_within containers cursors call.End names = none_within (length containers)
named_within containers cursors call.Quiesce names = none_within (length containers)
named_within containers cursors (call.Await other index) names = none_within (length containers)
named_within containers cursors call.Dump names = none_within (length containers)

-- ---- threads

module _ (script : ScriptParts) (is_script : IsScript script) (thread : ℕ) (found : Thread) (at : slice_get script.threads thread ≡ Some found) where
  pub is_thread : IsThread script found
  is_thread = subst (IsThread script) (get_or_from_slice_get script.threads thread found found at) (is_script.threads thread found (slice_get_within script.threads thread found at))

  pub calls_of_thread : calls_of script thread ≡ found.calls
  calls_of_thread = ap (λ (o : Option Thread). option_map_or (λ (f : Thread). f.calls) o []) at

  pub cursors_of_thread : cursors_of script thread ≡ length found.cursors
  cursors_of_thread = ap (λ (o : Option Thread). option_map_or (λ (f : Thread). length f.cursors) o 0) at

  -- a call of the thread is one of the script
  pub call_of_thread : (place : ℕ) (called : Call) → slice_get (calls_of script thread) place ≡ Some called → IsCallOf script (cursors_of script thread) called
  call_of_thread place called here =
      let in_thread : slice_get found.calls place ≡ Some called = ap (λ (cs : List Call). slice_get cs place) (sym calls_of_thread) ∙ here in
      subst (λ n. IsCallOf script n called) (sym cursors_of_thread)
      (subst (IsCallOf script (length found.cursors)) (get_or_from_slice_get found.calls place called called in_thread) (is_thread.calls place called (slice_get_within found.calls place called in_thread)))

  -- and names containers of the script
  pub calls_within : All (λ called. All (λ which. which < length script.containers) (containers_of called)) found.calls
  calls_within k d low = named_within script.containers _ (get_or found.calls k d) (is_thread.calls k d low).names

pub calls_of-at : (script : ScriptParts) (thread : ℕ) (found : Thread) → slice_get script.threads thread ≡ Some found → calls_of script thread ≡ found.calls
calls_of-at script thread found at = ap (λ (o : Option Thread). option_map_or (λ (f : Thread). f.calls) o []) at

-- a thread that is none of the script has no call
pub no_calls : (script : ScriptParts) (thread place : ℕ) (called : Call) → length script.threads ≤ thread → slice_get (calls_of script thread) place ≡ Some called → ⊥
no_calls script thread place called past at =
    let none : calls_of script thread ≡ [] = ap (λ (o : Option Thread). option_map_or (λ (f : Thread). f.calls) o []) (slice_get_past script.threads thread past) in
    let e : None ≡ Some called = ap (λ (cs : List Call). slice_get cs place) (sym none) ∙ at in
    cc

-- ---- awaits

-- a call of a thread of a script names a call of an earlier thread, where it is an await
pub await_of : (script : ScriptParts) → IsScript script → (thread place : ℕ) (called : Call) → slice_get (calls_of script thread) place ≡ Some called → IsAwaitOf script.threads thread called
await_of script rule thread place called here =
    elim (slice_get_cases script.threads thread).1 [
      | inl found ↦
          let at : slice_get found.0.calls place ≡ Some called = ap (λ (cs : List Call). slice_get cs place) (sym (calls_of_thread script rule thread found.0 found.2)) ∙ here in
          subst (IsAwaitOf script.threads thread) (get_or_from_slice_get found.0.calls place called called at) (rule.awaits thread found.0 found.2 place called (slice_get_within found.0.calls place called at))
      | inr past ↦ absurd (no_calls script thread place called past.0 here)
    ]

-- so does an entry of a whole list of a script's calls
pub await_at : (script : ScriptParts) → IsScript script → (entries : List Entry) → IsWhole script entries → EachAt entries (λ place entry. IsAwaitOf script.threads entry.thread entry.call)
await_at script rule entries whole place entry at =
    let mine = λ (e : Entry). e.thread == entry.thread in
    let k = length (filter mine (take place entries)) in
    let there : slice_get (filter mine entries) k ≡ Some entry = passed_at mine entries place entry at (eq-eqb entry.thread entry.thread refl) in
    let called : slice_get (calls_of script entry.thread) k ≡ Some entry.call = ap (λ (cs : List Call). slice_get cs k) (sym (whole.calls entry.thread)) ∙ slice_get-map (λ (e : Entry). e.call) (filter mine entries) k ∙ ap (option_map (λ (e : Entry). e.call)) there in
    await_of script rule entry.thread k entry.call called

-- the thread that it names is one of so many, where its own is
pub earlier_named : (script : ScriptParts) (thread threads : ℕ) (called : Call) → IsAwaitOf script.threads thread called → thread < threads → NamesThread threads called
earlier_named script thread threads (call.Await named index) names within = let earlier : named < thread = names.0 in omega (arith, earlier, within)
earlier_named script thread threads called names within = tt

-- and that thread has the call that it names
pub named_call : (script : ScriptParts) (thread named index : ℕ) → IsAwaitOf script.threads thread (call.Await named index) → index ≤ length (calls_of script named)
named_call script thread named index names =
    elim (slice_get script.threads named) as (λ o. IsSomeAnd o (λ found. index ≤ length found.calls) → index ≤ length (option_map_or (λ (found : Thread). found.calls) o [])) [
      | None ↦ λ none. absurd none
      | Some found ↦ λ low. low
    ] names.2

-- ---- what is landed

-- every container starts so
pub unsplit_start : (script : ScriptParts) → IsScript script → All (λ (container : Declaration). container.start.keys ≡ []) script.containers
unsplit_start script rule place d low = no_keys (get_or script.containers place d).start.keys (and_parts _ _ (rule.starts place d low).landed).1
  where
    no_keys : (keys : List Key) → shares_none keys ≡ true → keys ≡ []
    no_keys [] none = refl
    no_keys (key ∷ keys) none = absurd (false≢true none)
