-- What an `await` names, as more threads are read.
use Rattle.std.proofs.Common.{◌≡◌, ℕ, zero, suc, ◌+◌, ◌<◌, ◌≤◌, Bool, true, false, List, [], ◌∷◌, ◌++◌, length, get_or, Option, Some, None, refl, sym, ap, ◌∙◌, subst, inl, inr, arith}
use Rattle.std.specs.Prelude.{All, IfOk, IsSomeAnd, nat_le, slice_get}
use Rattle.std.specs.List.{list_any}
use Rattle.std.specs.Option.{option_map_or}
use Rattle.std.proofs.lemmas.Bool.{cases_lt, false≢true, leb-true}
use Rattle.std.proofs.lemmas.List.{get_or_append_left, get_or_push, length-append}
use Rattle.std.proofs.lemmas.List.Elements.{All-weaker}
use Rattle.std.proofs.lemmas.List.Folds.{list_any_at}
use Rattle.std.proofs.lemmas.Option.{get_or_from_slice_get, slice_get-get_or, slice_get_within}
use Rattle.ft_model.specs.declared.call.Call.{Call}
use Rattle.ft_model.specs.declared.call.Call.TheVariants as call
use Rattle.ft_model.specs.declared.script.ScriptParts.{ScriptParts}
use Rattle.ft_model.specs.declared.script.Thread.{Thread}
use Rattle.ft_model.specs.Scripts.{AreAwaitsOf, IsAwaitOf, IsScript}
use Rattle.ft_script.specs.Awaits.{MayAwait, has_awaited, has_awaits, is_await}

-- ---- calls that stand above

-- a call that awaits none is never refused for it
pub unawaited : (threads : List Thread) (called : Call) → is_await called ≡ false → has_awaited threads called ≡ true
unawaited threads (call.Await thread index) h = absurd cc
unawaited threads called h = refl

reaches_by : (found : Option Thread) (index : ℕ) → option_map_or (λ (named : Thread). nat_le index (length named.calls)) found false ≡ true → IsSomeAnd found (λ named. index ≤ length named.calls)
reaches_by None index h = absurd (false≢true h)
reaches_by (Some named) index h = leb-true index (length named.calls) h

-- an `await` that is read names a call of a thread that stands above
pub await_read : (allowed : Bool) (threads : List Thread) (called : Call) → MayAwait allowed (length threads) called → has_awaited threads called ≡ true → IsAwaitOf threads (length threads) called
await_read allowed threads (call.Await thread index) may has = (may.1, may.2, reaches_by (slice_get threads thread) index has)
await_read allowed threads called may has = tt

-- ---- more threads

get_grows : (threads more : List Thread) (place : ℕ) (thread : Thread) → slice_get threads place ≡ Some thread → slice_get (threads ++ more) place ≡ Some thread
get_grows [] more place thread h = absurd cc
get_grows (t ∷ threads) more zero thread h = h
get_grows (t ∷ threads) more (suc place) thread h = get_grows threads more place thread h

reach_grows : (threads more : List Thread) (thread index : ℕ) (found : Option Thread) → slice_get threads thread ≡ found → IsSomeAnd found (λ named. index ≤ length named.calls) → IsSomeAnd (slice_get (threads ++ more) thread) (λ named. index ≤ length named.calls)
reach_grows threads more thread index None is h = absurd h
reach_grows threads more thread index (Some named) is h = rw (get_grows threads more thread named is) h

pub await_grows : (threads more : List Thread) (number : ℕ) (called : Call) → IsAwaitOf threads number called → IsAwaitOf (threads ++ more) number called
await_grows threads more number (call.Await thread index) h = (h.0, h.1, reach_grows threads more thread index (slice_get threads thread) refl h.2)
await_grows threads more number called h = tt

-- a thread is added, with what it awaits
pub awaits_push : (threads : List Thread) (last : Thread) → AreAwaitsOf threads → All (IsAwaitOf threads (length threads)) last.calls → AreAwaitsOf (threads ++ last ∷ [])
awaits_push threads last are own number thread at =
    let all : List Thread = threads ++ last ∷ [] in
    let longer : length all ≡ length threads + 1 = length-append threads (last ∷ []) in
    let low : number < length all = slice_get_within all number thread at in
    let read : get_or all number thread ≡ thread = get_or_from_slice_get all number thread thread at in
    elim (cases_lt number (length threads)) [
      | inl lt ↦
          let here : get_or threads number thread ≡ thread = sym (get_or_append_left threads (last ∷ []) thread number lt) ∙ read in
          let above : slice_get threads number ≡ Some thread = slice_get-get_or threads number thread lt ∙ ap (λ (t : Thread). Some t) here in
          All-weaker (IsAwaitOf threads number) (IsAwaitOf all number) (λ called h. await_grows threads (last ∷ []) number called h) thread.calls (are number thread above)
      | inr le ↦
          let same : length threads ≡ number = omega arith in
          let is : last ≡ thread = sym (get_or_push threads last thread number same) ∙ read in
          let mine : All (IsAwaitOf threads number) thread.calls = subst (λ (t : Thread). All (IsAwaitOf threads number) t.calls) is (subst (λ (n : ℕ). All (IsAwaitOf threads n) last.calls) same own) in
          All-weaker (IsAwaitOf threads number) (IsAwaitOf all number) (λ called h. await_grows threads (last ∷ []) number called h) thread.calls mine
    ]

-- ---- whole scripts

-- a script has awaits where a thread of it has one
has_one : (threads : List Thread) (number place : ℕ) (thread : Thread) (called : Call) → slice_get threads number ≡ Some thread → slice_get thread.calls place ≡ Some called → is_await called ≡ true → has_awaits threads ≡ true
has_one threads number place thread called at there is =
    let of_thread : list_any is_await thread.calls ≡ true = list_any_at is_await thread.calls place called (slice_get_within thread.calls place called there) (ap is_await (get_or_from_slice_get thread.calls place called called there) ∙ is) in
    list_any_at (λ (t : Thread). list_any is_await t.calls) threads number thread (slice_get_within threads number thread at)
    (ap (λ (t : Thread). list_any is_await t.calls) (get_or_from_slice_get threads number thread thread at) ∙ of_thread)

may_by : (threads : List Thread) (number place : ℕ) (thread : Thread) (called : Call) → slice_get threads number ≡ Some thread → slice_get thread.calls place ≡ Some called → IsAwaitOf threads number called → MayAwait (has_awaits threads) (length threads) called
may_by threads number place thread (call.Await other index) at there h =
    let low : number < length threads = slice_get_within threads number thread at in
    let below : other < number = h.0 in
    (has_one threads number place thread (call.Await other index) at there refl, omega arith, h.1)
may_by threads number place thread called at there h = tt

-- what a thread of a script awaits may stand in a transcript of it
pub script_awaits : (script : ScriptParts) (number place : ℕ) (thread : Thread) (called : Call) → IsScript script → slice_get script.threads number ≡ Some thread → slice_get thread.calls place ≡ Some called → MayAwait (has_awaits script.threads) (length script.threads) called
script_awaits script number place thread called rule at there =
    let own : IsAwaitOf script.threads number (get_or thread.calls place called) = rule.awaits number thread at place called (slice_get_within thread.calls place called there) in
    may_by script.threads number place thread called at there (subst (IsAwaitOf script.threads number) (get_or_from_slice_get thread.calls place called called there) own)
