-- The entries of the turns are a chronicle of the script.
use Rattle.std.proofs.Common.{◌≡◌, ◌≢◌, ℕ, suc, ◌+◌, ◌-◌, ◌<◌, ◌≤◌, true, false, List, [], ◌∷◌, ◌++◌, length, take, map, get_or, Option, None, Some, refl, sym, ap, subst, ◌∙◌, arith, cond, inl, inr}
use Rattle.std.specs.Prelude.{filter, fold, slice_get, slice_index_or, ◌==◌, if◌then◌else◌, IfSome}
use Rattle.std.specs.List.{list_any}
use Rattle.std.specs.Option.{option_map_or, option_map}
use Rattle.std.proofs.lemmas.Bool.{cases_lt, cases_eq, ne_eqb, and_parts, false≢true}
use Rattle.std.proofs.lemmas.Option.{none-some, same_Some, slice_get_within, slice_get_cases, slice_get-get_or, slice_get-map, slice_get_past, get_or_from_slice_get, some_pair_parts}
use Rattle.std.proofs.lemmas.List.{length-map, take_all, take-map, get_or_append_left}
use Rattle.std.proofs.lemmas.List.Folds.{list_any_none}
use Rattle.std.proofs.lemmas.Simd.{map-map}
use Rattle.ft_model.specs.declared.call.Call.{Call}
use Rattle.ft_model.specs.declared.call.Call.TheVariants as call
use Rattle.ft_model.specs.declared.entry.Entry.{Entry}
use Rattle.ft_model.specs.declared.reply.Reply.{Reply}
use Rattle.ft_model.specs.declared.reply.Reply.TheVariants as reply
use Rattle.ft_model.specs.declared.script.ScriptParts.{ScriptParts}
use Rattle.ft_model.specs.declared.script.Thread.{Thread}
use Rattle.ft_model.specs.Calls.{is_changing, one_or_two}
use Rattle.ft_model.specs.Scripts.{IsCallOf, IsThread, IsScript}
use Rattle.ft_model.specs.Parts.{IsReplyOf, IsEntryOf}
use Rattle.ft_model.specs.Worlds.{start_world}
use Rattle.ft_model.specs.Answers.{after_write, is_write}
use Rattle.ft_model.specs.Histories.{writes, entries_of, calls_of, cursors_of, IsWhole, Section, after_section, sections_at, innermost, IfEnds, names, IsKeptBy, IsCountedBy, IsKept, IsMarked, has_call_on, needs_at}
use Rattle.ft_model.specs.Judging.{IsNext}
use Rattle.ft_history.proofs.Unbroken.{IsFront, fronts}
use Rattle.ft_turns.specs.Orders.{Machine, thread_at, turn, turns_of, start_machine, last_machine, answer_try, finish_try, Ordered, ordered_in, order_of, ordered_entry, ready_call}
use Rattle.ft_turns.specs.AnsweredTurns.{Progress, start_progress, with_turn, has_answered, has_finished, mark_given, answered_turn, last_progress, marked_entry, answered_turns}
use Rattle.ft_turns.specs.Chronicling.{AllFinish, IsChronicleOfTurns}
use Rattle.ft_turns.proofs.AwaitedFirst.{map_at, awaited_in_turns}
use Rattle.ft_turns.proofs.LockLemmas.{occ, occ-nil, occ-cons}
use Rattle.ft_turns.proofs.MachineSteps.{turns_keep}
use Rattle.ft_turns.proofs.LocksOnce.{IsOwned, owned_start}
use Rattle.ft_turns.proofs.Marks.{mark_at, count_fixed, own_containers, first_of_stack, IsBacked, backed_steps, backed_start}
use Rattle.ft_turns.proofs.MachineFacts.{IsFollowed}
use Rattle.ft_turns.proofs.KeptLocks.{AreEntriesFor, CalmAtEnd, IsSecured, BeginsLow, secured_steps, secured_start}
use Rattle.ft_turns.proofs.AnsweringSteps.{IsKeptByAnswers, answered_turns_keep}
use Rattle.ft_turns.proofs.Going.{IsBare, IsGoing, CallsOf, going_start}
use Rattle.ft_turns.proofs.EntriesHaveRightReplies.{marked_by, IsFirstPart, IsDone, HasRightReply}
use Rattle.ft_turns.proofs.RightReplySteps.{reported_steps, reported_start}
use Rattle.ft_turns.proofs.Indexed.{IsIndexed, indexed_steps, indexed_start}
use Rattle.ft_turns.proofs.NoSections.{none_ends}

-- ---- the script's calls

-- a thread that has a call is one of the script's
pub calls_within : (script : ScriptParts) (thread index : ℕ) (called : Call) → slice_get (calls_of script thread) index ≡ Some called → thread < length script.threads
calls_within script thread index called at =
    elim (cases_lt thread (length script.threads)) [
      | inl low ↦ low
      | inr high ↦ absurd (none-some called (sym (ap (λ (o : Option Thread). slice_get (option_map_or (λ (found : Thread). found.calls) o []) index) (slice_get_past script.threads thread high)) ∙ at))
    ]

pub calls_of_script : (script : ScriptParts) → IsScript script → CallsOf script
calls_of_script script rule thread index called at =
    elim (slice_get_cases script.threads thread).1 [
      | inr past ↦ absurd (none-some called (sym (ap (λ (o : Option Thread). slice_get (option_map_or (λ (found : Thread). found.calls) o []) index) past.1) ∙ at))
      | inl found ↦
          let is : IsThread script found.0 = subst (IsThread script) found.3 (rule.threads thread found.0 found.1) in
          let here : slice_get found.0.calls index ≡ Some called = sym (ap (λ (o : Option Thread). slice_get (option_map_or (λ (t : Thread). t.calls) o []) index) found.2) ∙ at in
          let of : IsCallOf script (length found.0.cursors) called = subst (IsCallOf script (length found.0.cursors)) (get_or_from_slice_get found.0.calls index called called here) (is.calls index called (slice_get_within found.0.calls index called here)) in
          subst (λ k. IsCallOf script k called) (ap (λ (o : Option Thread). option_map_or (λ (t : Thread). length t.cursors) o 0) (sym found.2)) of
    ]

only : (limit first container : ℕ) → first < limit → 1 ≤ occ container (first ∷ []) → container < limit
only limit first container low there =
    elim (cases_eq first container) [
      | inl same ↦ subst (λ k. k < limit) same low
      | inr differs ↦ absurd (let e : occ container (first ∷ []) ≡ 0 + occ container [] = rw (occ-cons container first [], ne_eqb first container differs) refl in omega (arith, occ-nil container))
    ]

one_or_two_low : (limit first : ℕ) (second : Option ℕ) (container : ℕ) → first < limit → IfSome second (λ place. place < limit) → 1 ≤ occ container (one_or_two first second) → container < limit
one_or_two_low limit first None container low both there = only limit first container low there
one_or_two_low limit first (Some second) container low both there =
    elim (first == second) as (λ b. 1 ≤ occ container (if b then first ∷ [] else first ∷ second ∷ []) → container < limit) [
      | true ↦ λ one. only limit first container low one
      | false ↦ λ two. elim (cases_eq first container) [
        | inl same ↦ subst (λ k. k < limit) same low
        | inr differs ↦ only limit second container both (let e : occ container (first ∷ second ∷ []) ≡ 0 + occ container (second ∷ []) = rw (occ-cons container first (second ∷ []), ne_eqb first container differs) refl in omega arith)
      ]
    ] there

pub begins_of_script : (script : ScriptParts) → CallsOf script → BeginsLow script
begins_of_script script calls_ok thread index first second at container there =
    let of : IsCallOf script (cursors_of script thread) (call.Begin first second) = calls_ok thread index (call.Begin first second) at in
    one_or_two_low (length script.containers) first second container of.names.0 of.names.1 there

-- ---- lists

map_pointwise : {X Y Z : Type 0} (f : X → Z) (g : Y → Z) (xs : List X) (ys : List Y) → length xs ≡ length ys → ((place : ℕ) (x : X) (y : Y) → slice_get xs place ≡ Some x → slice_get ys place ≡ Some y → f x ≡ g y) → map f xs ≡ map g ys
map_pointwise f g [] [] same each = refl
map_pointwise f g [] (y ∷ ys) same each = absurd (omega arith)
map_pointwise f g (x ∷ xs) [] same each = absurd (omega arith)
map_pointwise {X} {Y} {Z} f g (x ∷ xs) (y ∷ ys) same each =
    ap (λ z. z ∷ map f xs) (each 0 x y refl refl) ∙ ap (λ (zs : List Z). g y ∷ zs) (map_pointwise f g xs ys (omega arith) (λ place x' y' at at'. each (suc place) x' y' at at'))

entries_of-marked : (mark_of : ℕ → ℕ → Option ℕ) (thread : ℕ) (entries : List Entry) → length (entries_of thread (map (marked_by mark_of) entries)) ≡ length (entries_of thread entries)
entries_of-marked mark_of thread [] = refl
entries_of-marked mark_of thread (entry ∷ entries) =
    let marked = filter (λ (e : Entry). e.thread == thread) (map (marked_by mark_of) entries) in
    let bare = filter (λ (e : Entry). e.thread == thread) entries in
    elim (entry.thread == thread) as (λ b. length (cond b (marked_by mark_of entry ∷ marked) marked) ≡ length (cond b (entry ∷ bare) bare)) [
      | true ↦ ap suc (entries_of-marked mark_of thread entries)
      | false ↦ entries_of-marked mark_of thread entries
    ]

innermost_containers_of : (sections : List Section) → innermost sections ≡ first_of_stack (map (λ section. section.containers) sections)
innermost_containers_of [] = refl
innermost_containers_of (section ∷ sections) = refl

-- an `end` that says kept counted no mark, so nobody wrote
kept_by_count : (entries : List Entry) (thread place : ℕ) (sections : List Section) (called : Call) (said : Reply) → IfEnds sections called (λ section. IsCountedBy entries thread place section said) → IfEnds sections called (CalmAtEnd entries thread place) → IfEnds sections called (λ section. IsKeptBy entries thread place section said)
kept_by_count entries thread place [] called said counted calm = none_ends called (λ section. IsKeptBy entries thread place section said)
kept_by_count entries thread place (section ∷ sections) call.End reply.Kept counted calm = calm counted
kept_by_count entries thread place (section ∷ sections) call.End other counted calm = tt
kept_by_count entries thread place (section ∷ sections) (call.Dict container dict_call) said counted calm = tt
kept_by_count entries thread place (section ∷ sections) (call.List container list_call) said counted calm = tt
kept_by_count entries thread place (section ∷ sections) (call.Set container set_call) said counted calm = tt
kept_by_count entries thread place (section ∷ sections) (call.Deque container deque_call) said counted calm = tt
kept_by_count entries thread place (section ∷ sections) (call.Next cursor) said counted calm = tt
kept_by_count entries thread place (section ∷ sections) (call.Begin first second) said counted calm = tt
kept_by_count entries thread place (section ∷ sections) call.Quiesce said counted calm = tt
kept_by_count entries thread place (section ∷ sections) (call.Await other index) said counted calm = tt
kept_by_count entries thread place (section ∷ sections) call.Dump said counted calm = tt

writes_changing : (entry : Entry) → is_write entry.call entry.reply ≡ true → is_changing entry.call ≡ true
writes_changing entry wrote = (and_parts (is_changing entry.call) _ wrote).0

-- a thread that has a call on one of these containers is one of the script's
caller_within : (script : ScriptParts) (thread : ℕ) (containers : List ℕ) → list_any (has_call_on script thread) containers ≡ true → thread < length script.threads
caller_within script thread containers has =
    elim (cases_lt thread (length script.threads)) [
      | inl low ↦ low
      | inr high ↦
          let none : (container : ℕ) → has_call_on script thread container ≡ false = λ container. ap (λ (o : Option Thread). list_any (names container) (option_map_or (λ (found : Thread). found.calls) o [])) (slice_get_past script.threads thread high) in
          absurd (false≢true (sym (list_any_none (has_call_on script thread) containers (λ k d low. none (get_or containers k d))) ∙ has))
    ]

-- ---- the machine goes on beside the answers

pub turn_machine : (script : ScriptParts) (progress : Progress) (thread : ℕ) → (answered_turn script progress thread).machine ≡ turn script progress.machine thread
turn_machine script progress thread =
    let machine = progress.machine in
    elim (ready_call script machine thread) as (λ o. ready_call script machine thread ≡ o → (option_map_or (λ called. with_turn progress thread called (has_answered machine (turn script machine thread)) (has_finished machine (turn script machine thread) thread) (mark_given machine (turn script machine thread) thread) (turn script machine thread)) o progress).machine ≡ turn script machine thread) [
      | None ↦ λ none. sym (ap (λ o. option_map_or (λ called. finish_try (if (thread_at machine thread).fixed then machine else answer_try script machine thread (thread_at machine thread) called) thread) o machine) none)
      | Some called ↦ λ some. refl
    ] refl

turns_machine : (script : ScriptParts) (progress : Progress) (turns : List ℕ) → (fold (answered_turn script) progress turns).machine ≡ fold (turn script) progress.machine turns
turns_machine script progress [] = refl
turns_machine script progress (thread ∷ turns) = turns_machine script (answered_turn script progress thread) turns ∙ ap (λ m. fold (turn script) m turns) (turn_machine script progress thread)

pub last_is : (script : ScriptParts) → (last_progress script).machine ≡ last_machine script
last_is script = turns_machine script (start_progress script) (turns_of script)

-- ---- all entries of the turns

both_keep : (script : ScriptParts) (P Q : Progress → Type 0) → IsKeptByAnswers script P → IsKeptByAnswers script Q → IsKeptByAnswers script (λ progress. P progress × Q progress)
both_keep script P Q one other =
    record {
      threads = λ progress both. one.threads progress both.0;
      waits = λ progress thread called fixed containers found try finds both. (one.waits progress thread called fixed containers found try finds both.0, other.waits progress thread called fixed containers found try finds both.1);
      answers = λ progress thread called containers try finds both. (one.answers progress thread called containers try finds both.0, other.answers progress thread called containers try finds both.1);
      finishes = λ progress thread called containers try finds both. (one.finishes progress thread called containers try finds both.0, other.finishes progress thread called containers try finds both.1);
    }

module _ (script : ScriptParts) (rule : IsScript script) (all_finish : AllFinish script) where
  abbrev last : Progress
  last = last_progress script

  calls_ok : CallsOf script
  calls_ok = calls_of_script script rule

  abbrev last_mark : ℕ → ℕ → Option ℕ
  last_mark thread index = mark_at (thread_at (last_progress script).machine thread) index

  finished : (thread : ℕ) → length (thread_at (last_progress script).machine thread).marks ≡ length (calls_of script thread)
  finished thread = ap (λ (m : Machine). length (thread_at m thread).marks) (last_is script) ∙ all_finish thread

  going_indexed : IsGoing script (last_progress script) × IsIndexed script (last_progress script)
  going_indexed = answered_turns_keep script (λ progress. IsGoing script progress × IsIndexed script progress) (indexed_steps script calls_ok) (start_progress script) (turns_of script) (going_start script, indexed_start script calls_ok)

  going : IsGoing script (last_progress script)
  going = going_indexed.0

  indexed : IsIndexed script (last_progress script)
  indexed = going_indexed.1

  -- each entry's call has finished, so that its mark stands among its thread's
  marked_alike : (place : ℕ) (entry : Entry) → slice_get (last_progress script).entries place ≡ Some entry → marked_entry (last_progress script).machine entry ≡ marked_by last_mark entry
  marked_alike place entry at =
      let state = thread_at (last_progress script).machine entry.thread in
      let is = going.bare place entry at in
      ap (λ (w : Option ℕ). record entry { waited = w })
      (sym (get_or_append_left state.marks (state.mark ∷ []) None (entry.index - 1) (omega (arith, slice_get_within (calls_of script entry.thread) (entry.index - 1) entry.call is.called, finished entry.thread))))

  entries_are : answered_turns script ≡ map (marked_by last_mark) (last_progress script).entries
  entries_are = map_pointwise (marked_entry (last_progress script).machine) (marked_by last_mark) (last_progress script).entries (last_progress script).entries refl (λ place x y at at'. marked_alike place x at ∙ ap (marked_by last_mark) (same_Some x y (sym at ∙ at')))

  counted : length (answered_turns script) ≡ length (last_progress script).entries
  counted = length-map (last_progress script).entries (marked_entry (last_progress script).machine)

  part : IsFirstPart (last_progress script).machine.answered last_mark (answered_turns script) (last_progress script)
  part = record {
    machine = record { answered = λ place event at. at; marks = λ thread index who marked. marked; finished = λ thread index low. refl };
    front = take_all (length (last_progress script).entries) (answered_turns script) (omega (arith, counted)) ∙ entries_are;
  }

  reported : HasRightReply script last_mark (answered_turns script) (last_progress script)
  reported = (answered_turns_keep script (λ progress. IsGoing script progress × (IsFirstPart (last_progress script).machine.answered last_mark (answered_turns script) progress → HasRightReply script last_mark (answered_turns script) progress))
      (reported_steps script calls_ok (last_progress script).machine.answered last_mark (answered_turns script)) (start_progress script) (turns_of script)
      (going_start script, λ _. reported_start script calls_ok (last_progress script).machine.answered last_mark (answered_turns script))).1 part

  -- an entry, without its mark and with it
  bare_at : (place : ℕ) (entry : Entry) → slice_get (answered_turns script) place ≡ Some entry → (bare : Entry) × (slice_get (last_progress script).entries place ≡ Some bare) × (entry ≡ marked_by last_mark bare)
  bare_at place entry at = map_at (marked_by last_mark) (last_progress script).entries place entry (ap (λ es. slice_get es place) (sym entries_are) ∙ at)

  done_at : (place : ℕ) (entry : Entry) → slice_get (answered_turns script) place ≡ Some entry → IsDone script (answered_turns script) place entry
  done_at place entry at = reported.done place entry (let w = slice_get_within (answered_turns script) place entry at in omega (arith, counted)) at

  next_at : (place : ℕ) (entry : Entry) → slice_get (answered_turns script) place ≡ Some entry → IsNext script (answered_turns script) place entry
  next_at place entry at =
      let found = bare_at place entry at in
      let bare : Entry = found.0 in
      let is : IsBare script (last_progress script).machine.answered place bare = going.bare place bare found.1 in
      let before : length (entries_of bare.thread (take place (answered_turns script))) ≡ length (entries_of bare.thread (take place (last_progress script).entries)) =
      ap (λ es. length (entries_of bare.thread (take place es))) entries_are
      ∙ ap (λ es. length (entries_of bare.thread es)) (take-map (marked_by last_mark) place (last_progress script).entries)
      ∙ entries_of-marked last_mark bare.thread (take place (last_progress script).entries) in
      let index : bare.index ≡ length (entries_of bare.thread (take place (last_progress script).entries)) + 1 = indexed.index place bare found.1 in
      subst (λ (e : Entry). IsNext script (answered_turns script) place e) (sym found.2)
      (record {
        index = index ∙ ap (λ k. k + 1) (sym before);
        call = ap (slice_get (calls_of script bare.thread)) (let e : length (entries_of bare.thread (take place (answered_turns script))) ≡ bare.index - 1 = omega (arith, before, index) in e) ∙ is.called;
      })

  whole : IsWhole script (answered_turns script)
  whole =
      let front : (thread : ℕ) → IsFront (calls_of script thread) (entries_of thread (answered_turns script)) = λ thread. subst (λ es. IsFront (calls_of script thread) (entries_of thread es)) (take_all (length (answered_turns script)) (answered_turns script) (omega arith)) (fronts script (answered_turns script) next_at thread (length (answered_turns script)) (omega arith)) in
      let count : (thread : ℕ) → length (entries_of thread (answered_turns script)) ≡ count_fixed (thread_at (last_progress script).machine thread) = λ thread. ap (λ es. length (entries_of thread es)) entries_are ∙ entries_of-marked last_mark thread (last_progress script).entries ∙ indexed.own thread in
      record {
        calls = λ thread. (front thread).made ∙ take_all (length (entries_of thread (answered_turns script))) (calls_of script thread) (omega (arith, count thread, finished thread));
        indexes = λ thread. (front thread).indexes;
      }

  -- ---- what the locks tell

  entries_for : AreEntriesFor script last_mark (last_progress script).machine.answered (answered_turns script)
  entries_for place thread index at =
      elim (slice_get_cases (last_progress script).entries place).1 [
        | inr past ↦ absurd (let w = slice_get_within (last_progress script).machine.answered place (thread, index) at in omega (arith, past.0, going.counts))
        | inl found ↦
            let bare : Entry = found.0 in
            let is : IsBare script (last_progress script).machine.answered place bare = going.bare place bare found.2 in
            let same : (bare.thread ≡ thread) × (bare.index - 1 ≡ index) = some_pair_parts bare.thread thread (bare.index - 1) index (sym is.at ∙ at) in
            record {
              entry = marked_by last_mark bare;
              at = ap (λ es. slice_get es place) entries_are ∙ slice_get-map (marked_by last_mark) (last_progress script).entries place ∙ ap (option_map (marked_by last_mark)) found.2;
              mine = same.0;
              waited = ap (λ t. last_mark t (bare.index - 1)) same.0 ∙ ap (last_mark thread) same.1;
              called = ap (slice_get (calls_of script thread)) (sym same.1) ∙ ap (λ t. slice_get (calls_of script t) (bare.index - 1)) (sym same.0) ∙ is.called;
              changing = λ wrote. writes_changing bare (sym is.wrote ∙ wrote);
            }
      ]

  secured : IsSecured script (answered_turns script) last_mark (last_progress script).machine
  secured =
      let P : Machine → Type 0 = λ machine. IsOwned script machine × (IsFollowed (last_progress script).machine.answered last_mark machine → IsSecured script (answered_turns script) last_mark machine) in
      let begins = begins_of_script script calls_ok in
      let at_last : P (last_machine script) = turns_keep script (λ machine. IsOwned script machine × (IsFollowed (last_progress script).machine.answered last_mark machine → IsSecured script (answered_turns script) last_mark machine)) (secured_steps script begins last_mark (last_progress script).machine.answered (answered_turns script) entries_for) (start_machine script) (turns_of script) (owned_start script, λ _. secured_start script begins last_mark (last_progress script).machine.answered (answered_turns script) entries_for) in
      (subst P (sym (last_is script)) at_last).1 part.machine

  backed : IsBacked script (last_progress script).machine
  backed = (subst (λ (m : Machine). IsOwned script m × IsBacked script m) (sym (last_is script)) (turns_keep script (λ machine. IsOwned script machine × IsBacked script machine) (backed_steps script) (start_machine script) (turns_of script) (owned_start script, backed_start script))).1

  kept : (place : ℕ) (entry : Entry) → slice_get (answered_turns script) place ≡ Some entry → IsKept (answered_turns script) place entry
  kept place entry at =
      kept_by_count (answered_turns script) entry.thread place (sections_at (answered_turns script) entry.thread place) entry.call entry.reply (done_at place entry at).counted
      (secured.kept place entry (let w = slice_get_within (answered_turns script) place entry at in omega (arith, counted, going.counts)) at)

  -- a mark that is given names another thread, with a call on what the entry needs
  backs : (place : ℕ) (entry : Entry) (who : ℕ) → slice_get (answered_turns script) place ≡ Some entry → entry.waited ≡ Some who → (who ≢ entry.thread) × (list_any (has_call_on script who) (needs_at script (answered_turns script) place entry) ≡ true)
  backs place entry who at waited =
      let found = bare_at place entry at in
      let bare : Entry = found.0 in
      let is : IsBare script (last_progress script).machine.answered place bare = going.bare place bare found.1 in
      let done = done_at place entry at in
      let same : entry ≡ marked_by last_mark bare = found.2 in
      let mark : last_mark entry.thread (entry.index - 1) ≡ Some who = ap (λ (e : Entry). last_mark e.thread (e.index - 1)) same ∙ ap (λ (e : Entry). e.waited) (sym same) ∙ waited in
      let called : slice_get (calls_of script entry.thread) (entry.index - 1) ≡ Some entry.call = subst (λ (e : Entry). slice_get (calls_of script e.thread) (e.index - 1) ≡ Some e.call) (sym same) is.called in
      let own = backed.marks entry.thread (entry.index - 1) who entry.call mark called in
      let calls = calls_of script entry.thread in (
        own.0,
        ap (λ containers. list_any (has_call_on script who) (containers ++ innermost (after_section place entry.call (sections_at (answered_turns script) entry.thread place)))) done.about
            ∙ ap (λ containers. list_any (has_call_on script who) (own_containers (take (entry.index - 1) calls) entry.call ++ containers)) (innermost_containers_of (after_section place entry.call (sections_at (answered_turns script) entry.thread place)) ∙ ap first_of_stack done.stack)
            ∙ own.1,
      )

  marked : (place : ℕ) (entry : Entry) → slice_get (answered_turns script) place ≡ Some entry → IsMarked script (answered_turns script) place entry
  marked place entry at =
      elim entry.waited as (λ o. entry.waited ≡ o → IfSome o (λ thread. (thread ≢ entry.thread) × (list_any (has_call_on script thread) (needs_at script (answered_turns script) place entry) ≡ true))) [
        | None ↦ λ _. tt
        | Some who ↦ λ is. backs place entry who at is
      ] refl

  -- ---- entries and world of the script

  entry_of : (place : ℕ) (entry : Entry) → slice_get (answered_turns script) place ≡ Some entry → IsEntryOf script entry
  entry_of place entry at =
      let found = bare_at place entry at in
      let bare : Entry = found.0 in
      let is : IsBare script (last_progress script).machine.answered place bare = going.bare place bare found.1 in
      let named : IfSome entry.waited (λ thread. thread < length script.threads) =
      elim entry.waited as (λ o. entry.waited ≡ o → IfSome o (λ thread. thread < length script.threads)) [
        | None ↦ λ _. tt
        | Some who ↦ λ marks. caller_within script who (needs_at script (answered_turns script) place entry) (backs place entry who at marks).1
      ] refl in
      record {
        thread = subst (λ (e : Entry). e.thread < length script.threads) (sym found.2) is.thread;
        call = subst (λ (e : Entry). IsCallOf script (cursors_of script e.thread) e.call) (sym found.2) (calls_ok bare.thread (bare.index - 1) bare.call is.called);
        reply = subst (λ (e : Entry). IsReplyOf (length script.strings) e.reply) (sym found.2) is.reply;
        mark = named;
      }

  ordered : map ordered_entry (answered_turns script) ≡ order_of script
  ordered =
      ap (map ordered_entry) entries_are
      ∙ map-map ordered_entry (marked_by last_mark) (last_progress script).entries
      ∙ map_pointwise (λ (e : Entry). ordered_entry (marked_by last_mark e)) (ordered_in (last_progress script).machine) (last_progress script).entries (last_progress script).machine.answered going.counts
      (λ place bare event at at'.
      (let is : IsBare script (last_progress script).machine.answered place bare = going.bare place bare at in
      let index_is : bare.index ≡ bare.index - 1 + 1 = omega (arith, is.index) in
      let event_is : (bare.thread, bare.index - 1) ≡ event = same_Some (bare.thread, bare.index - 1) event (sym is.at ∙ at') in
      ap ordered_entry (sym (marked_alike place bare at))
      ∙ ap (λ k. let o : Ordered = record { thread = bare.thread; index = k; waited = slice_index_or (thread_at (last_progress script).machine bare.thread).marks (bare.index - 1) None } in o) index_is
      ∙ ap (ordered_in (last_progress script).machine) event_is))
      ∙ ap (λ (m : Machine). map (ordered_in m) m.answered) (last_is script)

  pub chronicled : IsChronicleOfTurns script (answered_turns script) (last_progress script).world
  chronicled =
      record {
        chronicled = record {
          whole = whole;
          answered = λ place entry at. (done_at place entry at).answered;
          awaited = awaited_in_turns script rule (answered_turns script) whole ordered;
          marked = marked;
          kept = kept;
          counted = λ place entry at. (done_at place entry at).counted;
          earned = λ place entry at. (done_at place entry at).memory;
        };
        order = ordered;
        entries_of = λ place d low. entry_of place (get_or (answered_turns script) place d) (slice_get-get_or (answered_turns script) place d low);
        world_is =
            reported.world ∙ ap (λ es. fold after_write (start_world script.containers) (writes es)) (take_all (length (last_progress script).entries) (answered_turns script) (omega (arith, counted)))
            ∙ ap (fold after_write (start_world script.containers)) (sym (take_all (length (writes (answered_turns script))) (writes (answered_turns script)) (omega arith)));
        world_of = going.world;
      }
