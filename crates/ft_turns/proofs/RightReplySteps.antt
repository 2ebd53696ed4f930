-- Each entry of the turns says what it has to say at its place: through every step.
use Rattle.std.proofs.Common.{◌≡◌, ◌≢◌, ℕ, ◌+◌, ◌-◌, ◌<◌, Bool, true, false, not, List, [], ◌∷◌, ◌++◌, length, take, map, Option, None, Some, refl, sym, ap, subst, ◌∙◌, arith, cond, inl, inr}
use Rattle.std.specs.Prelude.{fold, slice_get, slice_set, slice_index_or, ◌==◌, ◌&&◌, is_some, if◌then◌else◌}
use Rattle.std.proofs.lemmas.Bool.{cases_eq, cases_lt, eq-eqb, ne_eqb, true≢false, false≢true}
use Rattle.std.proofs.lemmas.Option.{same_Some, slice_get_within}
use Rattle.std.proofs.lemmas.List.{length_push, get_or-set_same, get_or-set_other, append-nil}
use Rattle.std.proofs.lemmas.List.Sums.{fold_push, fold-append}
use Rattle.ft_model.specs.declared.call.Call.{Call}
use Rattle.ft_model.specs.declared.call.Call.TheVariants as call
use Rattle.ft_model.specs.declared.content.Content.{Content}
use Rattle.ft_model.specs.declared.cursor.Cursor.{Cursor}
use Rattle.ft_model.specs.declared.entry.Entry.{Entry}
use Rattle.ft_model.specs.declared.script.ScriptParts.{ScriptParts}
use Rattle.ft_model.specs.Calls.{is_changing}
use Rattle.ft_model.specs.Worlds.{start_world, start_hands, no_hands, containers_used}
use Rattle.ft_model.specs.Answers.{answer, after_write, is_raised, is_memory, is_write}
use Rattle.ft_history.proofs.ProgressLemmas.{after_entry}
use Rattle.ft_model.specs.Histories.{writes, world_at, entries_of, calls_of, cursors_of, hands_at, IsReplied, Section, after_section, sections_at}
use Rattle.ft_history.specs.Internal.States.{world_before}
use Rattle.ft_history.proofs.HistoryPlaces.{filter_next, writes_next, world_at-before}
use Rattle.ft_turns.specs.Orders.{ThreadState, fresh_thread, take_locks, thread_at, next_call, without_locks, waiting_machine, sections_after, answered_machine, with_taken, finished_machine}
use Rattle.ft_turns.specs.AnsweredTurns.{Tally, no_tally, tally_after, Progress, start_progress}
use Rattle.ft_turns.proofs.ProgressWords.{hands_of, tally_of, next_reply, next_entry, with_answer, with_mark}
use Rattle.ft_turns.proofs.MachineSteps.{IsTry, there}
use Rattle.ft_turns.proofs.LocksOnce.{by_thread, start_thread}
use Rattle.ft_turns.proofs.Marks.{count_fixed, stack_after, own_stack, stack_push, own_containers}
use Rattle.ft_turns.proofs.MachineFacts.{followed_waits, followed_answers, followed_finishes, followed_mark}
use Rattle.ft_turns.proofs.PlaceSteps.{AllBelow, sections_below, sections_own, sections_other}
use Rattle.ft_turns.proofs.AnswerFacts.{IsPlainAnswerOf}
use Rattle.ft_turns.proofs.AnsweringSteps.{IsKeptByAnswers}
use Rattle.ft_turns.proofs.Going.{IsGoing, CallsOf, thread_low, next_answer, going_waits, going_answers, going_finishes, hands_at_start, tally_at_start, reply_memory, reply_writes}
use Rattle.ft_turns.proofs.EntriesHaveRightReplies.{Tallied, marked_by, tallied_next, tallied_other, tallied_call, counted_call, replied, IsFirstPart, front_before, front_at, writes-marked, IsDone, HasRightReply}

-- what an entry leaves of the world: it is a write, and leaves what the plain container does, or leaves all as it was
left_by : (wrote : Bool) (world left : List Content) (called : Call) → (wrote ≡ true → left ≡ after_write world called) → (wrote ≡ false → left ≡ world) → left ≡ fold after_write world (cond wrote (called ∷ []) [])
left_by true world left called writes reads = writes refl
left_by false world left called writes reads = reads refl

section_containers : (place : ℕ) (called : Call) (sections : List Section) → map (λ section. section.containers) (after_section place called sections) ≡ stack_after called (map (λ section. section.containers) sections)
section_containers place (call.Begin first second) sections = refl
section_containers place call.End [] = refl
section_containers place call.End (section ∷ sections) = refl
section_containers place (call.Dict container dict_call) sections = refl
section_containers place (call.List container list_call) sections = refl
section_containers place (call.Set container set_call) sections = refl
section_containers place (call.Deque container deque_call) sections = refl
section_containers place (call.Next cursor) sections = refl
section_containers place call.Quiesce sections = refl
section_containers place (call.Await other index) sections = refl
section_containers place call.Dump sections = refl

-- a call is about what its hands tell, as they are of its thread's calls
about_calls : (hands : List (Option Cursor)) (before : List Call) (called : Call) → ((number : ℕ) → containers_used hands (call.Next number) ≡ own_containers before (call.Next number)) → containers_used hands called ≡ own_containers before called
about_calls hands before (call.Next number) walks = walks number
about_calls hands before (call.Dict container dict_call) walks = refl
about_calls hands before (call.List container list_call) walks = refl
about_calls hands before (call.Set container set_call) walks = refl
about_calls hands before (call.Deque container deque_call) walks = refl
about_calls hands before (call.Begin first second) walks = refl
about_calls hands before call.End walks = refl
about_calls hands before call.Quiesce walks = refl
about_calls hands before (call.Await other index) walks = refl
about_calls hands before call.Dump walks = refl

writes_changing : (changing raised : Bool) → (changing && raised) ≡ true → changing ≡ true
writes_changing true raised h = refl
writes_changing false raised h = absurd (false≢true h)

module _ (script : ScriptParts) (calls_ok : CallsOf script) (events : List (ℕ × ℕ)) (mark_of : ℕ → ℕ → Option ℕ) (entries : List Entry) where
  reported_waits : (progress : Progress) (thread : ℕ) (called : Call) (fixed : Bool) (containers : List ℕ) (found : ℕ) → IsTry script progress.machine thread called fixed containers → IsGoing script progress → HasRightReply script mark_of entries progress
      → HasRightReply script mark_of entries (record progress { machine = waiting_machine progress.machine thread (thread_at progress.machine thread) (take_locks thread progress.machine.holders containers) found })
  reported_waits progress thread called fixed containers found try going reported =
      let machine = progress.machine in
      let state = thread_at machine thread in
      let locking = take_locks thread machine.holders containers in
      let n = length progress.entries in
      let after : ThreadState = record state { sections = map without_locks state.sections; own = state.own ++ locking.taken; mark = if is_some state.mark then state.mark else Some found } in
      let low : thread < length machine.threads = omega (arith, there script thread state called try.next, going.owned.threads) in
      record {
        world = reported.world;
        hands = reported.hands;
        stack = by_thread (λ u s. map (λ section. section.containers) (sections_at entries u n) ≡ own_stack (take (count_fixed s) (calls_of script u))) machine.threads thread after low (reported.stack thread) (λ u differs. reported.stack u);
        unfixed = by_thread (λ u s. s.fixed ≡ false → u < length script.threads → Tallied entries u n (tally_of progress u).count (sections_at entries u n) (tally_of progress u).noted) machine.threads thread after low (reported.unfixed thread) (λ u differs. reported.unfixed u);
        fixed = by_thread (λ u s. (c : Call) → s.fixed ≡ true → next_call script u s ≡ Some c → Tallied entries u n (tally_after (tally_of progress u) c (mark_of u (length s.marks))).count (sections_at entries u n) (tally_after (tally_of progress u) c (mark_of u (length s.marks))).noted) machine.threads thread after low (reported.fixed thread) (λ u differs. reported.fixed u);
        done = reported.done;
      }

  reported_finishes : (progress : Progress) (thread : ℕ) (called : Call) (containers : List ℕ) → IsTry script progress.machine thread called true containers → IsGoing script progress → HasRightReply script mark_of entries progress
      → mark_of thread (length (thread_at progress.machine thread).marks) ≡ (thread_at progress.machine thread).mark
      → HasRightReply script mark_of entries (record (with_mark progress thread called (thread_at progress.machine thread).mark) { machine = finished_machine progress.machine thread (thread_at progress.machine thread) (take_locks thread progress.machine.holders containers) })
  reported_finishes progress thread called containers try going reported mark_is =
      let machine = progress.machine in
      let state = thread_at machine thread in
      let locking = take_locks thread machine.holders containers in
      let n = length progress.entries in
      let after : ThreadState = record { marks = state.marks ++ state.mark ∷ []; fixed = false; sections = with_taken (state.own ++ locking.taken) state.sections; own = []; mark = None } in
      let low : thread < length machine.threads = omega (arith, there script thread state called try.next, going.owned.threads) in
      let low_tally : thread < length progress.tallies = omega (arith, there script thread state called try.next, going.tallies) in
      let counted : length state.marks + 1 ≡ length (state.marks ++ state.mark ∷ []) + 0 = omega (arith, length_push state.marks state.mark) in
      let new : Tally = tally_after (tally_of progress thread) called state.mark in
      let tallies = slice_set progress.tallies thread new in
      let mine : slice_index_or tallies thread no_tally ≡ new = get_or-set_same progress.tallies thread new no_tally low_tally in
      let theirs : (u : ℕ) → u ≢ thread → slice_index_or tallies u no_tally ≡ tally_of progress u = λ u differs. get_or-set_other progress.tallies thread u new no_tally differs in
      record {
        world = reported.world;
        hands = reported.hands;
        stack = by_thread (λ u s. map (λ section. section.containers) (sections_at entries u n) ≡ own_stack (take (count_fixed s) (calls_of script u))) machine.threads thread after low
            (reported.stack thread ∙ ap (λ b. own_stack (take (length state.marks + (if b then 1 else 0)) (calls_of script thread))) try.state ∙ ap (λ k. own_stack (take k (calls_of script thread))) counted) (λ u differs. reported.stack u);
        unfixed = by_thread (λ u s. s.fixed ≡ false → u < length script.threads → Tallied entries u n (slice_index_or tallies u no_tally).count (sections_at entries u n) (slice_index_or tallies u no_tally).noted) machine.threads thread after low
            (λ _ within. subst (λ (t : Tally). Tallied entries thread n t.count (sections_at entries thread n) t.noted) (sym mine)
            (subst (λ m. Tallied entries thread n (tally_after (tally_of progress thread) called m).count (sections_at entries thread n) (tally_after (tally_of progress thread) called m).noted) mark_is (reported.fixed thread called try.state try.next)))
            (λ u differs still within. subst (λ (t : Tally). Tallied entries u n t.count (sections_at entries u n) t.noted) (sym (theirs u differs)) (reported.unfixed u still within));
        fixed = by_thread (λ u s. (c : Call) → s.fixed ≡ true → next_call script u s ≡ Some c → Tallied entries u n (tally_after (slice_index_or tallies u no_tally) c (mark_of u (length s.marks))).count (sections_at entries u n) (tally_after (slice_index_or tallies u no_tally) c (mark_of u (length s.marks))).noted) machine.threads thread after low
            (λ c is_fixed next. absurd (false≢true is_fixed))
            (λ u differs c is_fixed next. subst (λ (t : Tally). Tallied entries u n (tally_after t c (mark_of u (length (thread_at machine u).marks))).count (sections_at entries u n) (tally_after t c (mark_of u (length (thread_at machine u).marks))).noted) (sym (theirs u differs)) (reported.fixed u c is_fixed next));
        done = reported.done;
      }

  module _ (progress : Progress) (thread : ℕ) (called : Call) (containers : List ℕ) (try : IsTry script progress.machine thread called false containers) (going : IsGoing script progress) (reported : HasRightReply script mark_of entries progress)
      (front : take (length (with_answer progress thread called).entries) entries ≡ map (marked_by mark_of) (with_answer progress thread called).entries) where
    -- the entry, with its mark
    abbrev entry : Entry
    entry = marked_by mark_of (next_entry progress thread called)

    at : slice_get entries (length progress.entries) ≡ Some entry
    at = front_at mark_of entries progress.entries (next_entry progress thread called) front

    before : take (length progress.entries) entries ≡ map (marked_by mark_of) progress.entries
    before = front_before mark_of entries progress.entries (next_entry progress thread called) front

    below : (other : ℕ) → AllBelow (length progress.entries) (sections_at entries other (length progress.entries))
    below other = sections_below entries other (length progress.entries) (let w = slice_get_within entries (length progress.entries) entry at in omega arith)

    in_range : thread < length script.threads
    in_range = thread_low script calls_ok progress thread called try.next going

    plain : IsPlainAnswerOf (length script.strings) progress.world (hands_of progress thread) called
    plain = next_answer script calls_ok progress thread called try.next going

    writes_so_far : writes (take (length progress.entries) entries) ≡ writes progress.entries
    writes_so_far = ap writes before ∙ writes-marked mark_of progress.entries

    -- what the containers and the thread have at its place
    world_here : world_at script entries entry.stamp ≡ progress.world
    world_here = ap (λ cs. world_at script entries (length cs)) (sym writes_so_far) ∙ world_at-before script entries (length progress.entries) ∙ sym reported.world

    hands_here : hands_at script entries thread (length progress.entries) ≡ hands_of progress thread
    hands_here = sym (reported.hands thread in_range)

    unraised : is_memory entry.reply ≡ false
    unraised = reply_memory progress.world (hands_of progress thread) (tally_of progress thread) called plain.memory

    wrote_is : is_write called (answer progress.world (hands_of progress thread) called).reply ≡ entry.wrote
    wrote_is = sym (reply_writes progress.world (hands_of progress thread) (tally_of progress thread) called)

    world_next : (answer progress.world (hands_of progress thread) called).world ≡ world_before script entries (length progress.entries + 1)
    world_next =
        let n = length progress.entries in
        left_by entry.wrote progress.world (answer progress.world (hands_of progress thread) called).world called
        (λ write. plain.alike (writes_changing (is_changing called) (not (is_raised (next_reply progress thread called))) write))
        (λ read. plain.quiet (wrote_is ∙ read))
        ∙ ap (λ w. fold after_write w (cond entry.wrote (called ∷ []) [])) reported.world
        ∙ sym (fold-append after_write (start_world script.containers) (writes (take n entries)) (cond entry.wrote (called ∷ []) []))
        ∙ ap (fold after_write (start_world script.containers)) (sym (writes_next entries n entry at))

    own_entries : entries_of thread (take (length progress.entries + 1) entries) ≡ entries_of thread (take (length progress.entries) entries) ++ entry ∷ []
    own_entries = filter_next entries (length progress.entries) entry at (λ (e : Entry). e.thread == thread) ∙ ap (λ b. entries_of thread (take (length progress.entries) entries) ++ cond b (entry ∷ []) []) (eq-eqb thread thread refl)

    other_entries : (other : ℕ) → other ≢ thread → entries_of other (take (length progress.entries + 1) entries) ≡ entries_of other (take (length progress.entries) entries)
    other_entries other differs =
        filter_next entries (length progress.entries) entry at (λ (e : Entry). e.thread == other) ∙ ap (λ b. entries_of other (take (length progress.entries) entries) ++ cond b (entry ∷ []) []) (ne_eqb thread other (λ e. differs (sym e)))
        ∙ append-nil (entries_of other (take (length progress.entries) entries))

    hands_next : (answer progress.world (hands_of progress thread) called).hands ≡ hands_at script entries thread (length progress.entries + 1)
    hands_next =
        let n = length progress.entries in
        let start = start_hands (cursors_of script thread) in
        let had = hands_at script entries thread n in
        ap (λ h. (answer progress.world h called).hands) (sym hands_here)
        ∙ ap (λ w. (answer w had called).hands) (sym world_here)
        ∙ ap (λ b. if b then had else (answer (world_at script entries entry.stamp) had called).hands) (sym unraised)
        ∙ sym (fold_push (after_entry script entries) start (entries_of thread (take n entries)) entry)
        ∙ ap (fold (after_entry script entries) start) (sym own_entries)

    hands_others : (other : ℕ) → other ≢ thread → hands_at script entries other (length progress.entries) ≡ hands_at script entries other (length progress.entries + 1)
    hands_others other differs = ap (fold (after_entry script entries) (start_hands (cursors_of script other))) (sym (other_entries other differs))

    index_is : entry.index - 1 ≡ length (thread_at progress.machine thread).marks
    index_is = omega arith

    waited_is : entry.waited ≡ mark_of thread (length (thread_at progress.machine thread).marks)
    waited_is = ap (mark_of thread) index_is

    -- the sections after it
    stack_here : map (λ section. section.containers) (sections_at entries thread (length progress.entries)) ≡ own_stack (take (length (thread_at progress.machine thread).marks) (calls_of script thread))
    stack_here =
        let marks = length (thread_at progress.machine thread).marks in
        reported.stack thread ∙ ap (λ b. own_stack (take (marks + (if b then 1 else 0)) (calls_of script thread))) try.state ∙ ap (λ k. own_stack (take k (calls_of script thread))) (let e : marks + 0 ≡ marks = omega arith in e)

    stack_later : map (λ section. section.containers) (after_section (length progress.entries) called (sections_at entries thread (length progress.entries))) ≡ own_stack (take (length (thread_at progress.machine thread).marks + 1) (calls_of script thread))
    stack_later = section_containers (length progress.entries) called (sections_at entries thread (length progress.entries)) ∙ ap (stack_after called) stack_here ∙ sym (stack_push (calls_of script thread) (length (thread_at progress.machine thread).marks) called try.next)

    tallied_here : Tallied entries thread (length progress.entries) (tally_of progress thread).count (sections_at entries thread (length progress.entries)) (tally_of progress thread).noted
    tallied_here = reported.unfixed thread try.state in_range

    tallied_after : Tallied entries thread (length progress.entries + 1) (tally_after (tally_of progress thread) called (mark_of thread (length (thread_at progress.machine thread).marks))).count (sections_at entries thread (length progress.entries + 1)) (tally_after (tally_of progress thread) called (mark_of thread (length (thread_at progress.machine thread).marks))).noted
    tallied_after =
        let n = length progress.entries in
        let tally = tally_of progress thread in
        let mark = mark_of thread (length (thread_at progress.machine thread).marks) in
        let count : ℕ = tally.count + (if is_some mark then 1 else 0) in
        subst (λ S. Tallied entries thread (n + 1) (tally_after tally called mark).count S (tally_after tally called mark).noted) (sym (sections_own entries n entry at thread refl))
        (tallied_call entries n entry at thread count called (sections_at entries thread n) tally.noted
        (tallied_next entries n entry at thread tally.count mark (sections_at entries thread n) tally.noted refl waited_is (below thread) tallied_here))

    walks_here : (number : ℕ) → containers_used (hands_at script entries thread (length progress.entries)) (call.Next number) ≡ own_containers (take (length (thread_at progress.machine thread).marks) (calls_of script thread)) (call.Next number)
    walks_here number =
        let marks = length (thread_at progress.machine thread).marks in
        let calls = calls_of script thread in
        ap (λ h. containers_used h (call.Next number)) hands_here ∙ going.walks thread number in_range
        ∙ ap (λ b. own_containers (take (marks + (if b then 1 else 0)) calls) (call.Next number)) try.state ∙ ap (λ k. own_containers (take k calls) (call.Next number)) (let e : marks + 0 ≡ marks = omega arith in e)

    done_here : IsDone script entries (length progress.entries) entry
    done_here =
        let n = length progress.entries in
        let marks = length (thread_at progress.machine thread).marks in
        let calls = calls_of script thread in
        let tally = tally_of progress thread in
        record {
          answered = record {
            stamp = ap length (sym writes_so_far);
            wrote = refl;
            reply = subst (λ w. IsReplied called entry.reply (answer w (hands_at script entries thread n) called).reply) (sym world_here)
                (subst (λ h. IsReplied called entry.reply (answer progress.world h called).reply) (sym hands_here) (replied progress.world (hands_of progress thread) tally called));
          };
          counted = counted_call entries thread n progress.world (hands_of progress thread) tally called (sections_at entries thread n) tally.noted refl tallied_here;
          memory = unraised;
          about = subst (λ k. containers_used (hands_at script entries thread n) called ≡ own_containers (take k calls) called) (sym index_is) (about_calls (hands_at script entries thread n) (take marks calls) called walks_here);
          stack = subst (λ k. map (λ section. section.containers) (after_section n called (sections_at entries thread n)) ≡ own_stack (take (k + 1) calls)) (sym index_is) stack_later;
        }

    reported_answers : HasRightReply script mark_of entries (record (with_answer progress thread called) { machine = answered_machine progress.machine thread (thread_at progress.machine thread) called (take_locks thread progress.machine.holders containers) })
    reported_answers =
        let machine = progress.machine in
        let state = thread_at machine thread in
        let locking = take_locks thread machine.holders containers in
        let n = length progress.entries in
        let after : ThreadState = record state { fixed = true; sections = sections_after called (state.own ++ locking.taken) state.sections; own = [] } in
        let low : thread < length machine.threads = omega (arith, in_range, going.owned.threads) in
        let low_hands : thread < length progress.hands = omega (arith, in_range, going.hands) in
        let new = (answer progress.world (hands_of progress thread) called).hands in
        let one_more : n + 1 ≡ length (progress.entries ++ next_entry progress thread called ∷ []) = sym (length_push progress.entries (next_entry progress thread called)) in
        let others : (u : ℕ) → u ≢ thread → entry.thread ≢ u = λ u differs e. differs (sym e) in
        record {
          world = world_next ∙ ap (world_before script entries) one_more;
          hands = λ u within. elim (cases_eq u thread) [
            | inl same ↦ subst (λ t. slice_index_or (slice_set progress.hands thread new) t no_hands ≡ hands_at script entries t (length (progress.entries ++ next_entry progress thread called ∷ []))) (sym same) (get_or-set_same progress.hands thread new no_hands low_hands ∙ hands_next ∙ ap (hands_at script entries thread) one_more)
            | inr differs ↦ get_or-set_other progress.hands thread u new no_hands differs ∙ reported.hands u within ∙ hands_others u differs ∙ ap (hands_at script entries u) one_more
          ];
          stack = subst (λ k. (u : ℕ) → map (λ section. section.containers) (sections_at entries u k) ≡ own_stack (take (count_fixed (slice_index_or (slice_set machine.threads thread after) u fresh_thread)) (calls_of script u))) one_more
              (by_thread (λ u s. map (λ section. section.containers) (sections_at entries u (n + 1)) ≡ own_stack (take (count_fixed s) (calls_of script u))) machine.threads thread after low
              (ap (map (λ section. section.containers)) (sections_own entries n entry at thread refl) ∙ stack_later)
              (λ u differs. ap (map (λ section. section.containers)) (sections_other entries n entry at u (others u differs)) ∙ reported.stack u));
          unfixed = subst (λ k. (u : ℕ) → (slice_index_or (slice_set machine.threads thread after) u fresh_thread).fixed ≡ false → u < length script.threads → Tallied entries u k (tally_of progress u).count (sections_at entries u k) (tally_of progress u).noted) one_more
              (by_thread (λ u s. s.fixed ≡ false → u < length script.threads → Tallied entries u (n + 1) (tally_of progress u).count (sections_at entries u (n + 1)) (tally_of progress u).noted) machine.threads thread after low
              (λ still within. absurd (true≢false still))
              (λ u differs still within. subst (λ S. Tallied entries u (n + 1) (tally_of progress u).count S (tally_of progress u).noted) (sym (sections_other entries n entry at u (others u differs)))
              (tallied_other entries n entry at u (tally_of progress u).count (sections_at entries u n) (tally_of progress u).noted (others u differs) (below u) (reported.unfixed u still within))));
          fixed = subst (λ k. (u : ℕ) (c : Call) → (slice_index_or (slice_set machine.threads thread after) u fresh_thread).fixed ≡ true → next_call script u (slice_index_or (slice_set machine.threads thread after) u fresh_thread) ≡ Some c
              → Tallied entries u k (tally_after (tally_of progress u) c (mark_of u (length (slice_index_or (slice_set machine.threads thread after) u fresh_thread).marks))).count (sections_at entries u k) (tally_after (tally_of progress u) c (mark_of u (length (slice_index_or (slice_set machine.threads thread after) u fresh_thread).marks))).noted) one_more
              (by_thread (λ u s. (c : Call) → s.fixed ≡ true → next_call script u s ≡ Some c → Tallied entries u (n + 1) (tally_after (tally_of progress u) c (mark_of u (length s.marks))).count (sections_at entries u (n + 1)) (tally_after (tally_of progress u) c (mark_of u (length s.marks))).noted) machine.threads thread after low
              (λ c _ next. subst (λ (d : Call). Tallied entries thread (n + 1) (tally_after (tally_of progress thread) d (mark_of thread (length state.marks))).count (sections_at entries thread (n + 1)) (tally_after (tally_of progress thread) d (mark_of thread (length state.marks))).noted) (same_Some called c (sym try.next ∙ next)) tallied_after)
              (λ u differs c is_fixed next.
              (let tally = tally_after (tally_of progress u) c (mark_of u (length (thread_at machine u).marks)) in
              subst (λ S. Tallied entries u (n + 1) tally.count S tally.noted) (sym (sections_other entries n entry at u (others u differs)))
              (tallied_other entries n entry at u tally.count (sections_at entries u n) tally.noted (others u differs) (below u) (reported.fixed u c is_fixed next)))));
          done = λ place e within is.
              elim (cases_lt place n) [
                | inl earlier ↦ reported.done place e earlier is
                | inr last ↦
                    let here : place ≡ n = omega (arith, one_more) in
                    let same : entry ≡ e = same_Some entry e (sym at ∙ ap (slice_get entries) (sym here) ∙ is) in
                    subst (λ k. IsDone script entries k e) (sym here) (subst (λ (f : Entry). IsDone script entries n f) same done_here)
              ];
        }

  -- ---- all steps

  pub reported_steps : IsKeptByAnswers script (λ progress. IsGoing script progress × (IsFirstPart events mark_of entries progress → HasRightReply script mark_of entries progress))
  reported_steps =
      record {
        threads = λ progress both. both.0.owned.threads;
        waits = λ progress thread called fixed containers found try finds both. (
          going_waits script calls_ok progress thread called fixed containers found try finds both.0,
          λ part. (let before : IsFirstPart events mark_of entries progress = record { machine = followed_waits script events mark_of progress.machine thread called fixed containers try both.0.owned found part.machine; front = part.front } in
              reported_waits progress thread called fixed containers found try both.0 (both.1 before)),
        );
        answers = λ progress thread called containers try finds both. (
          going_answers script calls_ok progress thread called containers try finds both.0,
          λ part. (let before : IsFirstPart events mark_of entries progress = record { machine = followed_answers script events mark_of progress.machine thread called false containers try both.0.owned part.machine; front = front_before mark_of entries progress.entries (next_entry progress thread called) part.front } in
              reported_answers progress thread called containers try both.0 (both.1 before) part.front),
        );
        finishes = λ progress thread called containers try finds both. (
          going_finishes script calls_ok progress thread called containers try finds both.0,
          λ part. (let before : IsFirstPart events mark_of entries progress = record { machine = followed_finishes script events mark_of progress.machine thread called true containers try both.0.owned part.machine; front = part.front } in
              reported_finishes progress thread called containers try both.0 (both.1 before) (followed_mark script events mark_of progress.machine thread called true containers try both.0.owned part.machine)),
        );
      }

  pub reported_start : HasRightReply script mark_of entries (start_progress script)
  reported_start =
      record {
        world = refl;
        hands = λ thread within. hands_at_start script thread;
        stack = λ thread. ap (λ (s : ThreadState). own_stack (take (count_fixed s) (calls_of script thread))) (sym (start_thread script thread));
        unfixed = λ thread still within. subst (λ (t : Tally). Tallied entries thread 0 t.count [] t.noted) (sym (tally_at_start script thread)) tt;
        fixed = λ thread called is_fixed next. absurd (false≢true (ap (λ (s : ThreadState). s.fixed) (sym (start_thread script thread)) ∙ is_fixed));
        done = λ place entry within at. absurd (omega arith);
      }
