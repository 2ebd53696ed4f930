-- What the awaits of a script name.
use Rattle.std.proofs.Common.{◌≡◌, ℕ, ◌<◌, ◌≤◌, List, length, drop, None, Some, refl, subst}
use Rattle.std.specs.Prelude.{slice_get}
use Rattle.std.specs.Option.{option_map_or}
use Rattle.std.proofs.lemmas.Option.{same_Some}
use Rattle.ft_model.specs.declared.call.Call.{Call}
use Rattle.ft_model.specs.declared.call.Call.TheVariants as call
use Rattle.ft_model.specs.declared.script.ScriptParts.{ScriptParts}
use Rattle.ft_model.specs.Histories.{calls_of}
use Rattle.ft_model.specs.Scripts.{AreNested, IsAwaitOf, IsScript}
use Rattle.ft_history.proofs.HistoryPlaces.{drop_here}
use Rattle.ft_history.proofs.ScriptLemmas.{await_of, named_call}
use Rattle.ft_turns.specs.Orders.{Awaited, awaited_by, awaited}

-- it names a call of a thread that is declared before its own, and stands outside of sections
pub record IsAwait (script : ScriptParts) (thread place : ℕ) (one : Awaited) : Type 0 where
  pub at : slice_get (calls_of script thread) place ≡ Some (call.Await one.thread one.index)
  pub earlier : one.thread < thread
  pub first : 1 ≤ one.index
  pub there : one.index ≤ length (calls_of script one.thread)
  pub outside : (depth : ℕ) → AreNested depth (drop place (calls_of script thread)) → depth ≡ 0

await_here : (script : ScriptParts) → IsScript script → (thread place named index : ℕ) → slice_get (calls_of script thread) place ≡ Some (call.Await named index) → IsAwait script thread place (record { thread = named; index = index })
await_here script rule thread place named index at =
    let names : IsAwaitOf script.threads thread (call.Await named index) = await_of script rule thread place (call.Await named index) at in
    record {
      at = at;
      earlier = names.0;
      first = names.1;
      there = named_call script thread named index names;
      outside = λ depth nested. (subst (AreNested depth) (drop_here (calls_of script thread) place (call.Await named index) at) nested).0;
    }

await_called : (script : ScriptParts) → IsScript script → (thread place : ℕ) (one : Awaited) (called : Call) → slice_get (calls_of script thread) place ≡ Some called → awaited_by called ≡ Some one → IsAwait script thread place one
await_called script rule thread place one (call.Await named index) at is = subst (IsAwait script thread place) (same_Some _ _ is) (await_here script rule thread place named index at)
await_called script rule thread place one called at is = absurd (let none : None ≡ Some one = is in cc)

pub await_is : (script : ScriptParts) → IsScript script → (thread place : ℕ) (one : Awaited) → awaited script thread place ≡ Some one → IsAwait script thread place one
await_is script rule thread place one is =
    elim (slice_get (calls_of script thread) place) as (λ o. slice_get (calls_of script thread) place ≡ o → option_map_or awaited_by o None ≡ Some one → IsAwait script thread place one) [
      | None ↦ λ none e. absurd (let nothing : None ≡ Some one = e in cc)
      | Some called ↦ λ at e. await_called script rule thread place one called at e
    ] refl is
