-- What a container asks of a call holds of each next call: its names are declared and of its kind, and the cursor of a `next` was made.
use Rattle.std.proofs.Common.{◌≡◌, ℕ, zero, suc, ◌+◌, ◌<◌, ◌≤◌, true, false, List, [], ◌∷◌, length, take, Option, None, Some, refl, sym, ap, subst, ◌∙◌, arith, inl, inr}
use Rattle.std.specs.Prelude.{fold, slice_get, ◌==◌, if◌then◌else◌, Any, IfSome, IsSomeAnd}
use Rattle.std.specs.Option.{option_map_or}
use Rattle.std.proofs.lemmas.Bool.{eqb-true, eq-eqb, false≢true}
use Rattle.std.proofs.lemmas.Option.{none-some, same_Some, slice_get_cases, slice_get-get_or}
use Rattle.ft_model.specs.declared.call.Call.{Call}
use Rattle.ft_model.specs.declared.call.Call.TheVariants as call
use Rattle.ft_model.specs.declared.content.Content.{Content}
use Rattle.ft_model.specs.declared.cursor.Cursor.{Cursor}
use Rattle.ft_model.specs.declared.script.ScriptParts.{ScriptParts}
use Rattle.ft_model.specs.declared.script.Thread.{Thread}
use Rattle.ft_model.specs.Calls.{one_or_two, containers_of, other_dict, other_list, other_set, other_deque}
use Rattle.ft_model.specs.Worlds.{IsOfKind, cursor_kind, container_of, cursor_at, IsDeclared}
use Rattle.ft_model.specs.Scripts.{cursor_of, IsCallOf, IsThread, IsScript}
use Rattle.ft_model.specs.Histories.{calls_of, cursors_of}
use Rattle.ft_turns.specs.Orders.{makes, cursor_containers, thread_at, next_call}
use Rattle.ft_turns.specs.AnsweredTurns.{asks_container, Progress, start_progress, answered_turn}
use Rattle.ft_turns.proofs.ProgressWords.{hands_of}
use Rattle.ft_turns.proofs.AnswerFacts.{AreOver, IsAsked, walked}
use Rattle.ft_turns.proofs.AnsweringSteps.{answered_turns_keep}
use Rattle.ft_turns.proofs.Going.{IsGoing, CallsOf, thread_low, asked_of, cursor_room, going_start}
use Rattle.ft_turns.proofs.Indexed.{IsIndexed, indexed_steps, indexed_start}

-- ---- cursors that were made

named_some : (first : ℕ) (second : Option ℕ) → 1 ≤ length (one_or_two first second)
named_some first None = omega arith
named_some first (Some second) = elim (first == second) as (λ b. 1 ≤ length (if b then first ∷ [] else first ∷ second ∷ [])) [ true ↦ omega arith | false ↦ omega arith ]

maker_names : (called : Call) (number : ℕ) → cursor_of called ≡ Some number → 1 ≤ length (containers_of called)
maker_names (call.Dict container dict_call) number makes_it = named_some container (other_dict dict_call)
maker_names (call.List container list_call) number makes_it = named_some container (other_list list_call)
maker_names (call.Set container set_call) number makes_it = named_some container (other_set set_call)
maker_names (call.Deque container deque_call) number makes_it = named_some container (other_deque deque_call)
maker_names (call.Next cursor) number makes_it = absurd (none-some number makes_it)
maker_names (call.Begin first second) number makes_it = absurd (none-some number makes_it)
maker_names call.End number makes_it = absurd (none-some number makes_it)
maker_names call.Quiesce number makes_it = absurd (none-some number makes_it)
maker_names (call.Await other index) number makes_it = absurd (none-some number makes_it)
maker_names call.Dump number makes_it = absurd (none-some number makes_it)

made_by : (one : Option ℕ) (number : ℕ) → option_map_or (λ made. made == number) one false ≡ true → one ≡ Some number
made_by None number h = absurd (false≢true h)
made_by (Some one) number h = ap Some (eqb-true one number h)

-- once a cursor has a container it keeps one
still_named : (number : ℕ) (containers : List ℕ) (calls : List Call) → 1 ≤ length containers → 1 ≤ length (fold (λ so_far called. if makes number called then containers_of called else so_far) containers calls)
still_named number containers [] some = some
still_named number containers (called ∷ calls) some =
    still_named number (if makes number called then containers_of called else containers) calls
    (elim (makes number called) as (λ b. makes number called ≡ b → 1 ≤ length (if b then containers_of called else containers)) [
      | true ↦ λ is. maker_names called number (made_by (cursor_of called) number is)
      | false ↦ λ _. some
    ] refl)

made_named : (number : ℕ) (calls : List Call) (containers : List ℕ) (place : ℕ) (maker : Call) → slice_get calls place ≡ Some maker → cursor_of maker ≡ Some number → 1 ≤ length (fold (λ so_far called. if makes number called then containers_of called else so_far) containers calls)
made_named number [] containers place maker at is = absurd (none-some maker at)
made_named number (called ∷ calls) containers zero maker at is =
    let same : called ≡ maker = same_Some called maker at in
    let makes_it : makes number called ≡ true = ap (makes number) same ∙ ap (λ o. option_map_or (λ made. made == number) o false) is ∙ eq-eqb number number refl in
    still_named number (if makes number called then containers_of called else containers) calls
    (subst (λ b. 1 ≤ length (if b then containers_of called else containers)) (sym makes_it) (maker_names called number (ap cursor_of same ∙ is)))
made_named number (called ∷ calls) containers (suc place) maker at is = made_named number calls (if makes number called then containers_of called else containers) place maker at is

-- each cursor is made before it is moved
abbrev pub CursorsMade : ScriptParts → Type 0
CursorsMade script = (thread index number : ℕ) → slice_get (calls_of script thread) index ≡ Some (call.Next number) → Any (λ earlier. cursor_of earlier ≡ Some number) (take index (calls_of script thread))

pub made_of_script : (script : ScriptParts) → IsScript script → CursorsMade script
made_of_script script rule thread index number at =
    elim (slice_get_cases script.threads thread).1 [
      | inr past ↦ absurd (none-some (call.Next number) (sym (ap (λ (o : Option Thread). slice_get (option_map_or (λ (found : Thread). found.calls) o []) index) past.1) ∙ at))
      | inl found ↦
          let is : IsThread script found.0 = subst (IsThread script) found.3 (rule.threads thread found.0 found.1) in
          subst (λ (calls : List Call). Any (λ earlier. cursor_of earlier ≡ Some number) (take index calls)) (ap (λ (o : Option Thread). option_map_or (λ (t : Thread). t.calls) o []) (sym found.2))
          (is.made index number (sym (ap (λ (o : Option Thread). slice_get (option_map_or (λ (t : Thread). t.calls) o []) index) found.2) ∙ at))
    ]

over_made : (world : List Content) (hands : List (Option Cursor)) (number : ℕ) → AreOver world hands → 1 ≤ length (walked hands number) → IsSomeAnd (cursor_at hands number) (λ it. IsOfKind world (cursor_kind it) (container_of it))
over_made world hands number over some =
    elim (cursor_at hands number) as (λ o. cursor_at hands number ≡ o → 1 ≤ length (option_map_or (λ (it : Cursor). container_of it ∷ []) o []) → IsSomeAnd o (λ it. IsOfKind world (cursor_kind it) (container_of it))) [
      | None ↦ λ _ none. absurd (omega arith)
      | Some it ↦ λ is _. over number it is
    ] refl some

-- ---- the next call

module _ (script : ScriptParts) (calls_ok : CallsOf script) (made : CursorsMade script) (progress : Progress) (thread : ℕ) (called : Call) (next : next_call script thread (thread_at progress.machine thread) ≡ Some called) (unfixed : (thread_at progress.machine thread).fixed ≡ false) (inv : IsGoing script progress) where
  room_of : IsCallOf script (cursors_of script thread) called → IfSome (cursor_of called) (λ one. one < length (hands_of progress thread))
  room_of of = subst (λ k. IfSome (cursor_of called) (λ one. one < k)) (sym (inv.room thread (thread_low script calls_ok progress thread called next inv))) (cursor_room script.containers (cursors_of script thread) called of.names)

  declared_by : (c : Call) → called ≡ c → IsAsked progress.world c → IfSome (cursor_of c) (λ one. one < length (hands_of progress thread)) → asks_container c ≡ true → IsDeclared progress.world (hands_of progress thread) c
  declared_by (call.Dict container dict_call) is asked room asks = record { one = asked.0; both = asked.1; room = room }
  declared_by (call.List container list_call) is asked room asks = record { one = asked.0; both = asked.1; room = room }
  declared_by (call.Set container set_call) is asked room asks = record { one = asked.0; both = asked.1; room = room }
  declared_by (call.Deque container deque_call) is asked room asks = record { one = asked.0; both = asked.1; room = room }
  declared_by (call.Next number) is asked room asks =
      let marks = length (thread_at progress.machine thread).marks in
      let calls = calls_of script thread in
      let before : Any (λ earlier. cursor_of earlier ≡ Some number) (take marks calls) = made thread marks number (next ∙ ap Some is) in
      let maker_at : slice_get (take marks calls) before.0 ≡ Some before.1 = slice_get-get_or (take marks calls) before.0 before.1 before.2 ∙ ap Some before.3 in
      let walks : walked (hands_of progress thread) number ≡ cursor_containers (take marks calls) number =
      inv.walks thread number (thread_low script calls_ok progress thread called next inv) ∙ ap (λ b. cursor_containers (take (marks + (if b then 1 else 0)) calls) number) unfixed ∙ ap (λ k. cursor_containers (take k calls) number) (let e : marks + 0 ≡ marks = omega arith in e) in
      over_made progress.world (hands_of progress thread) number (inv.fits thread) (subst (λ containers. 1 ≤ length containers) (sym walks) (made_named number (take marks calls) [] before.0 before.1 maker_at before.4))
  declared_by (call.Begin first second) is asked room asks = absurd (false≢true asks)
  declared_by call.End is asked room asks = absurd (false≢true asks)
  declared_by call.Quiesce is asked room asks = absurd (false≢true asks)
  declared_by (call.Await other index) is asked room asks = absurd (false≢true asks)
  declared_by call.Dump is asked room asks = tt

  pub next_declared : asks_container called ≡ true → IsDeclared progress.world (hands_of progress thread) called
  next_declared asks =
      let of : IsCallOf script (cursors_of script thread) called = calls_ok thread (length (thread_at progress.machine thread).marks) called next in
      declared_by called refl (asked_of script.containers progress.world inv.kinds (cursors_of script thread) called of.names) (room_of of) asks

-- ---- after any turns

pub going_at : (script : ScriptParts) → CallsOf script → (turns : List ℕ) → IsGoing script (fold (answered_turn script) (start_progress script) turns)
going_at script calls_ok turns = (answered_turns_keep script (λ progress. IsGoing script progress × IsIndexed script progress) (indexed_steps script calls_ok) (start_progress script) turns (going_start script, indexed_start script calls_ok)).0
