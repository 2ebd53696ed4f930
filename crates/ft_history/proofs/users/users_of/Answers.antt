use Rattle.std.proofs.Common.{◌≡◌, ℕ, ◌<◌, ◌≤◌, Bool, false, List, [], ◌∷◌, ◌++◌, length, Some, refl, sym, ap, subst, ◌∙◌, arith, inl, inr, below_more}
use Rattle.std.specs.Prelude.{slice_get, slice_index_or, All}
use Rattle.std.specs.Global.{Vec}
use Rattle.std.specs.Option.{option_map_or}
use Rattle.std.specs.List.{list_any}
use Rattle.std.proofs.lemmas.Bool.{cases_lt}
use Rattle.std.proofs.lemmas.Option.{slice_get_read, slice_get_past}
use Rattle.ft_model.specs.declared.call.Call.{Call}
use Rattle.ft_model.specs.declared.script.Thread.{Thread}
use Rattle.ft_model.specs.Calls.{containers_of}
use Rattle.ft_model.specs.Histories.{has_call_on, names}
use Rattle.ft_history.specs.Internal.States.{is_used}
use Rattle.ft_history.proofs.HistoryPlaces.{slice_get_at, slice_get_left}
use Rattle.ft_history.proofs.ScriptLemmas.{calls_within, calls_of_thread}
use Rattle.ft_history.proofs.users.users_of.Goals as goal

used_left : (users : List (Vec Bool)) (used : Vec Bool) (thread container : ℕ) → thread < length users → is_used (users ++ used ∷ []) thread container ≡ is_used users thread container
used_left users used thread container low = ap (λ o. option_map_or (λ (u : Vec Bool). slice_index_or u.items container false) o false) (slice_get_left users (used ∷ []) thread low)

used_at : (users : List (Vec Bool)) (used : Vec Bool) (container : ℕ) → is_used (users ++ used ∷ []) (length users) container ≡ slice_index_or used.items container false
used_at users used container = ap (λ o. option_map_or (λ (u : Vec Bool). slice_index_or u.items container false) o false) (slice_get_at users [] used)

pub used_by-requires : goal.used_by-requires
used_by-requires c =
    let parts = c.args.parts.now in
    let at : slice_get parts.threads c.loop-thread.thread-index ≡ Some c.thread-item.result =
    ap (λ (ts : List Thread). slice_get ts c.loop-thread.thread-index) (sym c.as_slice-thread-items.ensures) ∙ slice_get_read c.as_slice-thread-items.result.now (length c.as_slice-thread-items.result.now) _ c.thread-item.result refl c.loop-thread-test.true c.thread-item.is in
    subst (λ n. All (λ (called : Call). All (λ container. container < n) (containers_of called)) c.as_slice.result.now) (sym c.len-containers.ensures)
    (subst (λ cs. All (λ (called : Call). All (λ container. container < length parts.containers) (containers_of called)) cs) (sym c.as_slice.ensures) (calls_within parts c.requires c.loop-thread.thread-index c.thread-item.result at))

pub loop-thread-preserved : goal.loop-thread-preserved
loop-thread-preserved c =
    let parts = c.args.parts.now in
    let users = c.loop-thread.users in
    let index = c.loop-thread.thread-index in
    let used : Vec Bool = c.in_ok-used_by.field-0 in
    let at : slice_get parts.threads index ≡ Some c.thread-item.result =
    ap (λ (ts : List Thread). slice_get ts index) (sym c.as_slice-thread-items.ensures) ∙ slice_get_read c.as_slice-thread-items.result.now (length c.as_slice-thread-items.result.now) _ c.thread-item.result refl c.loop-thread-test.true c.thread-item.is in
    let long : length users.items ≡ index = omega (arith, users.ok.0, c.loop-thread.invariant.all) in
    record {
      all = omega (arith, c.in_ok-push.ensures.len, c.loop-thread.invariant.all);
      so_far = λ thread container.
          let now : is_used c.push.new.self.items thread container ≡ is_used (users.items ++ used ∷ []) thread container = ap (λ (us : List (Vec Bool)). is_used us thread container) c.in_ok-push.ensures.items in
          below_more (λ t. is_used c.push.new.self.items t container ≡ has_call_on parts t container) index
          (λ t low. ap (λ (us : List (Vec Bool)). is_used us t container) c.in_ok-push.ensures.items ∙ used_left users.items used t container (omega arith) ∙ c.loop-thread.invariant.so_far t container low)
          (ap (λ (us : List (Vec Bool)). is_used us index container) c.in_ok-push.ensures.items ∙ ap (λ k. is_used (users.items ++ used ∷ []) k container) (sym long) ∙ used_at users.items used container ∙ c.in_ok-used_by.ensures container ∙ ap (list_any (names container)) (c.as_slice.ensures ∙ sym (calls_of_thread parts c.requires index c.thread-item.result at)))
          thread;
    }

pub returns : goal.returns
returns c = λ thread container.
    let parts = c.args.parts.now in
    let users = c.loop-thread.users in
    let long : length users.items ≡ c.loop-thread.thread-index = omega (arith, users.ok.0, c.loop-thread.invariant.all) in
    let end : length parts.threads ≤ c.loop-thread.thread-index = omega (arith, ap length c.as_slice-thread-items.ensures) in
    elim (cases_lt thread c.loop-thread.thread-index) [
      | inl low ↦ c.loop-thread.invariant.so_far thread container low
      | inr past ↦
          ap (λ o. option_map_or (λ (u : Vec Bool). slice_index_or u.items container false) o false) (slice_get_past users.items thread (omega arith))
          ∙ sym (ap (list_any (names container)) (ap (λ o. option_map_or (λ (f : Thread). f.calls) o []) (slice_get_past parts.threads thread (omega arith))))
    ]
