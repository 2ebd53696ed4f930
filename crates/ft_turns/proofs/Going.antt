-- What is known of the turns so far, whatever comes after them: worlds, hands and entries are of the script.
use Rattle.std.proofs.Common.{◌≡◌, ℕ, zero, suc, ◌+◌, ◌-◌, ◌<◌, ◌≤◌, Bool, true, false, List, [], ◌∷◌, ◌++◌, length, take, map, get_or, Option, None, Some, refl, sym, ap, subst, ◌∙◌, arith, inl, inr}
use Rattle.std.specs.Prelude.{slice_get, slice_set, slice_index_or, option_map, ◌⊎◌, is_some, ◌==◌, if◌then◌else◌, IfSome}
use Rattle.std.specs.Option.{option_map_or}
use Rattle.std.proofs.lemmas.Bool.{cases_eq, cases_lt}
use Rattle.std.proofs.lemmas.Option.{none-some, same_Some, slice_get_cases, slice_get_within, slice_get-map}
use Rattle.std.proofs.lemmas.List.{length_push, length-set, length-map, length-replicate, get_or-set_same, get_or-set_other, get_or-map, get_or-replicate, get_or_past}
use Rattle.std.proofs.lemmas.List.Elements.{All-nil, All-map}
use Rattle.std.proofs.lemmas.List.Sums.{fold_push}
use Rattle.ft_model.specs.declared.call.Call.{Call}
use Rattle.ft_model.specs.declared.call.Call.TheVariants as call
use Rattle.ft_model.specs.declared.content.Content.{Content}
use Rattle.ft_model.specs.declared.cursor.Cursor.{Cursor}
use Rattle.ft_model.specs.declared.entry.Entry.{Entry}
use Rattle.ft_model.specs.declared.reply.Reply.TheVariants as reply
use Rattle.ft_model.specs.declared.script.Declaration.{Declaration}
use Rattle.ft_model.specs.declared.script.Kind.{Kind}
use Rattle.ft_model.specs.declared.script.Start.{Start}
use Rattle.ft_model.specs.declared.script.Kind.TheVariants as kind
use Rattle.ft_model.specs.declared.script.ScriptParts.{ScriptParts}
use Rattle.ft_model.specs.declared.script.Thread.{Thread}
use Rattle.ft_model.specs.declared.content.DictPair.{DictPair}
use Rattle.ft_model.specs.declared.content.Element.{Element}
use Rattle.ft_model.specs.Calls.{containers_of, other_dict, other_list, other_set, other_deque}
use Rattle.ft_model.specs.Scripts.{IsKeyOf, IsValueOf, IsCallOf, cursor_of, NamesOf, IsDeclaredAs}
use Rattle.ft_model.specs.Parts.{IsReplyOf, IsContentOf, IsWorldOf}
use Rattle.ft_model.specs.Worlds.{starts_of, start_world, start_hands, no_hands, empty_content, container_of, IsOfKind, kind_of, cursor_kind, cursor_at}
use Rattle.ft_model.specs.Answers.{answer, is_write, is_memory}
use Rattle.ft_model.specs.Histories.{calls_of, cursors_of}
use Rattle.ft_history.proofs.HistoryPlaces.{take_next, slice_get_left, slice_get_at}
use Rattle.ft_history.proofs.Effects.{HasKind}
use Rattle.ft_turns.specs.Orders.{makes, cursor_containers, ThreadState, take_locks, thread_at, next_call, without_locks, waiting_machine, sections_after, answered_machine, with_taken, finished_machine}
use Rattle.ft_turns.specs.AnsweredTurns.{Tally, no_tally, ended_reply, waited_inside, thread_reply, Progress, start_progress}
use Rattle.ft_turns.proofs.ProgressWords.{hands_of, tally_of, next_entry, with_answer, with_mark}
use Rattle.ft_turns.proofs.MachineSteps.{IsTry, there}
use Rattle.ft_turns.proofs.LocksOnce.{by_thread, IsOwned, owned_steps, owned_start, start_thread}
use Rattle.ft_turns.proofs.Marks.{count_fixed}
use Rattle.ft_turns.proofs.AnswerFacts.{AreOver, IsAsked, walked, walked_after, IsAny, IsPlainAnswerOf, plain_answer, plain_walks, strings_together, contents_by, contents_of, reply_of}
use Rattle.ft_turns.proofs.CallParts.{strings_of}

-- ---- replies

pub ended_memory : (count : ℕ) → is_memory (ended_reply count) ≡ false
ended_memory count = elim (count == 0) as (λ b. is_memory (if b then reply.Kept else reply.Suspended count) ≡ false) [ true ↦ refl | false ↦ refl ]

ended_strings : (n count : ℕ) → IsReplyOf n (ended_reply count)
ended_strings n count = elim (count == 0) as (λ b. IsReplyOf n (if b then reply.Kept else reply.Suspended count)) [ true ↦ tt | false ↦ tt ]

-- a reply is a MemoryError, has its strings and makes a write as the plain container's is and does
pub reply_memory : (world : List Content) (hands : List (Option Cursor)) (tally : Tally) (called : Call) → is_memory (answer world hands called).reply ≡ false → is_memory (thread_reply world hands tally called) ≡ false
reply_memory world hands tally (call.Begin first second) h = refl
reply_memory world hands tally call.End h = ended_memory (waited_inside tally)
reply_memory world hands tally (call.Dict container dict_call) h = h
reply_memory world hands tally (call.List container list_call) h = h
reply_memory world hands tally (call.Set container set_call) h = h
reply_memory world hands tally (call.Deque container deque_call) h = h
reply_memory world hands tally (call.Next cursor) h = h
reply_memory world hands tally call.Quiesce h = h
reply_memory world hands tally (call.Await other index) h = h
reply_memory world hands tally call.Dump h = h

reply_strings : (n : ℕ) (world : List Content) (hands : List (Option Cursor)) (tally : Tally) (called : Call) → IsReplyOf n (answer world hands called).reply → IsReplyOf n (thread_reply world hands tally called)
reply_strings n world hands tally (call.Begin first second) h = tt
reply_strings n world hands tally call.End h = ended_strings n (waited_inside tally)
reply_strings n world hands tally (call.Dict container dict_call) h = h
reply_strings n world hands tally (call.List container list_call) h = h
reply_strings n world hands tally (call.Set container set_call) h = h
reply_strings n world hands tally (call.Deque container deque_call) h = h
reply_strings n world hands tally (call.Next cursor) h = h
reply_strings n world hands tally call.Quiesce h = h
reply_strings n world hands tally (call.Await other index) h = h
reply_strings n world hands tally call.Dump h = h

pub reply_writes : (world : List Content) (hands : List (Option Cursor)) (tally : Tally) (called : Call) → is_write called (thread_reply world hands tally called) ≡ is_write called (answer world hands called).reply
reply_writes world hands tally (call.Begin first second) = refl
reply_writes world hands tally call.End = refl
reply_writes world hands tally (call.Dict container dict_call) = refl
reply_writes world hands tally (call.List container list_call) = refl
reply_writes world hands tally (call.Set container set_call) = refl
reply_writes world hands tally (call.Deque container deque_call) = refl
reply_writes world hands tally (call.Next cursor) = refl
reply_writes world hands tally call.Quiesce = refl
reply_writes world hands tally (call.Await other index) = refl
reply_writes world hands tally call.Dump = refl

-- ---- the invariant

-- an entry is a call of the script, at its event
pub record IsBare (script : ScriptParts) (answered : List (ℕ × ℕ)) (place : ℕ) (entry : Entry) : Type 0 where
  pub at : ◌≡◌ {A = Option (ℕ × ℕ)} (slice_get answered place) (Some (entry.thread, entry.index - 1))
  pub index : 1 ≤ entry.index
  pub called : slice_get (calls_of script entry.thread) (entry.index - 1) ≡ Some entry.call
  pub wrote : entry.wrote ≡ is_write entry.call entry.reply
  pub thread : entry.thread < length script.threads
  pub reply : IsReplyOf (length script.strings) entry.reply

pub record IsGoing (script : ScriptParts) (progress : Progress) : Type 0 where
  pub owned : IsOwned script progress.machine
  pub counts : length progress.entries ≡ length progress.machine.answered
  pub bare : (place : ℕ) (entry : Entry) → slice_get progress.entries place ≡ Some entry → IsBare script progress.machine.answered place entry
  pub world : IsWorldOf script progress.world
  pub kinds : map kind_of progress.world ≡ map (λ declared. declared.start.kind) script.containers
  pub fits : (thread : ℕ) → AreOver progress.world (hands_of progress thread)
  pub hands : length progress.hands ≡ length script.threads
  pub room : (thread : ℕ) → thread < length script.threads → length (hands_of progress thread) ≡ cursors_of script thread
  pub walks : (thread number : ℕ) → thread < length script.threads → walked (hands_of progress thread) number ≡ cursor_containers (take (count_fixed (thread_at progress.machine thread)) (calls_of script thread)) number
  pub tallies : length progress.tallies ≡ length script.threads

-- each call of the script names what is the script's
abbrev pub CallsOf : ScriptParts → Type 0
CallsOf script = (thread index : ℕ) (called : Call) → slice_get (calls_of script thread) index ≡ Some called → IsCallOf script (cursors_of script thread) called

pub cursor_room : (containers : List Declaration) (cursors : ℕ) (called : Call) → NamesOf containers cursors called → IfSome (cursor_of called) (λ one. one < cursors)
cursor_room containers cursors (call.Dict container dict_call) names = names.made
cursor_room containers cursors (call.List container list_call) names = names.made
cursor_room containers cursors (call.Set container set_call) names = names.made
cursor_room containers cursors (call.Deque container deque_call) names = names.made
cursor_room containers cursors (call.Next number) names = tt
cursor_room containers cursors (call.Begin first second) names = tt
cursor_room containers cursors call.End names = tt
cursor_room containers cursors call.Quiesce names = tt
cursor_room containers cursors (call.Await other index) names = tt
cursor_room containers cursors call.Dump names = tt

-- what stands in a list with one more at its end
pub slice_get_push : {X : Type 0} (xs : List X) (x y : X) (place : ℕ) → slice_get (xs ++ x ∷ []) place ≡ Some y → (slice_get xs place ≡ Some y) ⊎ ((place ≡ length xs) × (x ≡ y))
slice_get_push [] x y zero h = inr (refl, same_Some x y h)
slice_get_push [] x y (suc place) h = absurd (none-some y h)
slice_get_push (z ∷ xs) x y zero h = inl h
slice_get_push (z ∷ xs) x y (suc place) h =
    elim (slice_get_push xs x y place h) [
      | inl before ↦ inl before
      | inr last ↦ inr (ap suc last.0, last.1)
    ]

pub cursor_push : (calls : List Call) (index : ℕ) (called : Call) (number : ℕ) → slice_get calls index ≡ Some called → cursor_containers (take (index + 1) calls) number ≡ (if makes number called then containers_of called else cursor_containers (take index calls) number)
cursor_push calls index called number at = ap (λ cs. cursor_containers cs number) (take_next calls index called at) ∙ fold_push (λ asked_containers c. if makes number c then containers_of c else asked_containers) [] (take index calls) called

-- ---- at the start

empty_strings : (n : ℕ) (k : Kind) → IsContentOf n (empty_content k)
empty_strings n kind.Dict = All-nil (λ (pair : DictPair). IsKeyOf n pair.key × IsValueOf n pair.value)
empty_strings n kind.List = All-nil (IsValueOf n)
empty_strings n kind.Set = All-nil (λ (element : Element). IsKeyOf n element.key)
empty_strings n (kind.Deque bound) = All-nil (IsValueOf n)

pub none_made : (count number : ℕ) → cursor_at (start_hands count) number ≡ None
none_made count number =
    elim (cases_lt number count) [
      | inl low ↦ get_or-replicate count number None None low
      | inr high ↦ get_or_past (start_hands count) number None (omega (arith, length-replicate {A = Option Cursor} count None))
    ]

empty_kind : (k : Kind) → kind_of (empty_content k) ≡ k
empty_kind kind.Dict = refl
empty_kind kind.List = refl
empty_kind kind.Set = refl
empty_kind (kind.Deque bound) = refl

empty_kinds : (containers : List Declaration) → map kind_of (start_world containers) ≡ map (λ declared. declared.start.kind) containers
empty_kinds [] = refl
empty_kinds (first ∷ containers) = ap (λ (k : Kind). k ∷ map kind_of (start_world containers)) (empty_kind first.start.kind) ∙ ap (λ (ks : List Kind). first.start.kind ∷ ks) (empty_kinds containers)

-- a container that is declared has a content of its kind
has_kind : (containers : List Declaration) (world : List Content) → map kind_of world ≡ map (λ declared. declared.start.kind) containers → (k : Kind) (place : ℕ) → option_map (λ (c : Declaration). c.start.kind) (slice_get containers place) ≡ Some k → HasKind world k place
has_kind containers world kinds k place declared = sym (slice_get-map kind_of world place) ∙ ap (λ (ks : List Kind). slice_get ks place) kinds ∙ slice_get-map (λ (c : Declaration). c.start.kind) containers place ∙ declared

pub of_kind : (containers : List Declaration) (world : List Content) → map kind_of world ≡ map (λ declared. declared.start.kind) containers → (k : Kind) (place : ℕ) → IsDeclaredAs containers k place → IsOfKind world k place
of_kind containers world kinds kind.Dict place declared = has_kind containers world kinds kind.Dict place declared
of_kind containers world kinds kind.List place declared = has_kind containers world kinds kind.List place declared
of_kind containers world kinds kind.Set place declared = has_kind containers world kinds kind.Set place declared
of_kind containers world kinds (kind.Deque _) place declared = (declared.0, has_kind containers world kinds (kind.Deque declared.0) place declared.1)

other_of_kind : (containers : List Declaration) (world : List Content) → map kind_of world ≡ map (λ declared. declared.start.kind) containers → (k : Kind) (other : Option ℕ) → IfSome other (λ place. IsDeclaredAs containers k place) → IfSome other (λ place. IsOfKind world k place)
other_of_kind containers world kinds k None declared = tt
other_of_kind containers world kinds k (Some place) declared = of_kind containers world kinds k place declared

pub asked_of : (containers : List Declaration) (world : List Content) → map kind_of world ≡ map (λ declared. declared.start.kind) containers → (cursors : ℕ) (called : Call) → NamesOf containers cursors called → IsAsked world called
asked_of containers world kinds cursors (call.Dict container dict_call) names = (of_kind containers world kinds kind.Dict container names.container, other_of_kind containers world kinds kind.Dict (other_dict dict_call) names.second)
asked_of containers world kinds cursors (call.List container list_call) names = (of_kind containers world kinds kind.List container names.container, other_of_kind containers world kinds kind.List (other_list list_call) names.second)
asked_of containers world kinds cursors (call.Set container set_call) names = (of_kind containers world kinds kind.Set container names.container, other_of_kind containers world kinds kind.Set (other_set set_call) names.second)
asked_of containers world kinds cursors (call.Deque container deque_call) names = (of_kind containers world kinds (kind.Deque None) container names.container, other_of_kind containers world kinds (kind.Deque None) (other_deque deque_call) names.second)
asked_of containers world kinds cursors (call.Next number) names = tt
asked_of containers world kinds cursors (call.Begin first second) names = tt
asked_of containers world kinds cursors call.End names = tt
asked_of containers world kinds cursors call.Quiesce names = tt
asked_of containers world kinds cursors (call.Await other index) names = tt
asked_of containers world kinds cursors call.Dump names = tt

-- a world of the same kinds serves the same cursors
pub same_over : (world left : List Content) (hands : List (Option Cursor)) → map kind_of left ≡ map kind_of world → AreOver world hands → AreOver left hands
same_over world left hands kinds over number it at = still_of_kind (cursor_kind it) (over number it at)
  where
    still : (k : Kind) → HasKind world k (container_of it) → HasKind left k (container_of it)
    still k has = sym (slice_get-map kind_of left (container_of it)) ∙ ap (λ (ks : List Kind). slice_get ks (container_of it)) kinds ∙ slice_get-map kind_of world (container_of it) ∙ has

    still_of_kind : (k : Kind) → IsOfKind world k (container_of it) → IsOfKind left k (container_of it)
    still_of_kind kind.Dict has = still kind.Dict has
    still_of_kind kind.List has = still kind.List has
    still_of_kind kind.Set has = still kind.Set has
    still_of_kind (kind.Deque _) has = (has.0, still (kind.Deque has.0) has.1)

none_walked : (count number : ℕ) → walked (start_hands count) number ≡ []
none_walked count number =
    ap (λ (o : Option Cursor). option_map_or (λ (c : Cursor). container_of c ∷ []) o [])
    (none_made count number)

pub hands_at_start : (script : ScriptParts) (thread : ℕ) → hands_of (start_progress script) thread ≡ start_hands (cursors_of script thread)
hands_at_start script thread =
    elim (slice_get_cases script.threads thread).1 [
      | inl found ↦
          get_or-map (λ (t : Thread). start_hands (length t.cursors)) script.threads thread found.0 no_hands found.1
          ∙ ap (λ (t : Thread). start_hands (length t.cursors)) found.3
          ∙ ap start_hands (ap (λ (o : Option Thread). option_map_or (λ (t : Thread). length t.cursors) o 0) (sym found.2))
      | inr past ↦
          get_or_past (map (λ (t : Thread). start_hands (length t.cursors)) script.threads) thread no_hands (omega (arith, past.0, length-map script.threads (λ (t : Thread). start_hands (length t.cursors))))
          ∙ ap start_hands (ap (λ (o : Option Thread). option_map_or (λ (t : Thread). length t.cursors) o 0) (sym past.1))
    ]

pub tally_at_start : (script : ScriptParts) (thread : ℕ) → tally_of (start_progress script) thread ≡ no_tally
tally_at_start script thread =
    elim (slice_get_cases script.threads thread).1 [
      | inl found ↦ get_or-map (λ (t : Thread). no_tally) script.threads thread found.0 no_tally found.1
      | inr past ↦ get_or_past (map (λ (t : Thread). no_tally) script.threads) thread no_tally (omega (arith, past.0, length-map script.threads (λ (t : Thread). no_tally)))
    ]

pub going_start : (script : ScriptParts) → IsGoing script (start_progress script)
going_start script =
    record {
      owned = owned_start script;
      counts = refl;
      bare = λ place entry at. absurd (none-some entry at);
      world = record {
        containers = length-map (starts_of script.containers) (λ (start : Start). empty_content start.kind) ∙ length-map script.containers (λ (c : Declaration). c.start);
        strings = All-map (IsContentOf (length script.strings)) (λ (start : Start). empty_content start.kind) (starts_of script.containers) (λ place d low. empty_strings (length script.strings) (get_or (starts_of script.containers) place d).kind);
      };
      kinds = empty_kinds script.containers;
      fits = λ thread number it at. absurd (none-some it (sym (none_made (cursors_of script thread) number) ∙ ap (λ h. cursor_at h number) (sym (hands_at_start script thread)) ∙ at));
      hands = length-map script.threads (λ (t : Thread). start_hands (length t.cursors));
      room = λ thread within. ap length (hands_at_start script thread) ∙ length-replicate {A = Option Cursor} (cursors_of script thread) None;
      walks = λ thread number within.
          ap (λ h. walked h number) (hands_at_start script thread) ∙ none_walked (cursors_of script thread) number
          ∙ ap (λ (s : ThreadState). cursor_containers (take (count_fixed s) (calls_of script thread)) number) (sym (start_thread script thread));
      tallies = length-map script.threads (λ (t : Thread). no_tally);
    }

module _ (script : ScriptParts) (calls_ok : CallsOf script) where
  pub going_waits : (progress : Progress) (thread : ℕ) (called : Call) (fixed : Bool) (asked_containers : List ℕ) (found : ℕ) → IsTry script progress.machine thread called fixed asked_containers → (take_locks thread progress.machine.holders asked_containers).found ≡ Some found
      → IsGoing script progress → IsGoing script (record progress { machine = waiting_machine progress.machine thread (thread_at progress.machine thread) (take_locks thread progress.machine.holders asked_containers) found })
  going_waits progress thread called fixed asked_containers found try finds inv =
      let machine = progress.machine in
      let state = thread_at machine thread in
      let locking = take_locks thread machine.holders asked_containers in
      let after : ThreadState = record state { sections = map without_locks state.sections; own = state.own ++ locking.taken; mark = if is_some state.mark then state.mark else Some found } in
      let low : thread < length machine.threads = omega (arith, there script thread state called try.next, inv.owned.threads) in
      record {
        owned = (owned_steps script).waits machine thread called fixed asked_containers found try finds inv.owned;
        counts = inv.counts;
        bare = inv.bare;
        world = inv.world;
        kinds = inv.kinds;
        fits = inv.fits;
        hands = inv.hands;
        room = inv.room;
        walks = λ other number. by_thread (λ u s. u < length script.threads → walked (hands_of progress u) number ≡ cursor_containers (take (count_fixed s) (calls_of script u)) number) machine.threads thread after low (inv.walks thread number) (λ u differs. inv.walks u number) other;
        tallies = inv.tallies;
      }

  pub going_finishes : (progress : Progress) (thread : ℕ) (called : Call) (asked_containers : List ℕ) → IsTry script progress.machine thread called true asked_containers → (take_locks thread progress.machine.holders asked_containers).found ≡ None
      → IsGoing script progress → IsGoing script (record (with_mark progress thread called (thread_at progress.machine thread).mark) { machine = finished_machine progress.machine thread (thread_at progress.machine thread) (take_locks thread progress.machine.holders asked_containers) })
  going_finishes progress thread called asked_containers try finds inv =
      let machine = progress.machine in
      let state = thread_at machine thread in
      let locking = take_locks thread machine.holders asked_containers in
      let after : ThreadState = record { marks = state.marks ++ state.mark ∷ []; fixed = false; sections = with_taken (state.own ++ locking.taken) state.sections; own = []; mark = None } in
      let low : thread < length machine.threads = omega (arith, there script thread state called try.next, inv.owned.threads) in
      let counted : length state.marks + 1 ≡ length (state.marks ++ state.mark ∷ []) + 0 = omega (arith, length_push state.marks state.mark) in
      record {
        owned = (owned_steps script).finishes machine thread called asked_containers try finds inv.owned;
        counts = inv.counts;
        bare = inv.bare;
        world = inv.world;
        kinds = inv.kinds;
        fits = inv.fits;
        hands = inv.hands;
        room = inv.room;
        walks = λ other number. by_thread (λ u s. u < length script.threads → walked (hands_of progress u) number ≡ cursor_containers (take (count_fixed s) (calls_of script u)) number) machine.threads thread after low
            (λ within. inv.walks thread number within ∙ ap (λ b. cursor_containers (take (length state.marks + (if b then 1 else 0)) (calls_of script thread)) number) try.state ∙ ap (λ k. cursor_containers (take k (calls_of script thread)) number) counted) (λ u differs. inv.walks u number) other;
        tallies = length-set progress.tallies thread _ ∙ inv.tallies;
      }

  -- the next call is one of the script's, asked of its thread's hands
  module _ (progress : Progress) (thread : ℕ) (called : Call) (next : next_call script thread (thread_at progress.machine thread) ≡ Some called) (inv : IsGoing script progress) where
    pub thread_low : thread < length script.threads
    thread_low = there script thread (thread_at progress.machine thread) called next

    next_of : IsCallOf script (cursors_of script thread) called
    next_of = calls_ok thread (length (thread_at progress.machine thread).marks) called next

    pub next_answer : IsPlainAnswerOf (length script.strings) progress.world (hands_of progress thread) called
    next_answer =
        let n = length script.strings in
        plain_answer (IsKeyOf n) (IsValueOf n) IsAny (strings_together n) progress.world (contents_by n progress.world inv.world.strings) (hands_of progress thread) called (strings_of n called next_of.strings) (asked_of script.containers progress.world inv.kinds (cursors_of script thread) called next_of.names) (λ _ _ _. tt)

    next_walks : (number : ℕ) → walked (answer progress.world (hands_of progress thread) called).hands number ≡ walked_after (hands_of progress thread) (cursor_of called) (containers_of called) number
    next_walks =
        let n = length script.strings in
        plain_walks (IsKeyOf n) (IsValueOf n) IsAny (strings_together n) progress.world (contents_by n progress.world inv.world.strings) (hands_of progress thread) called (strings_of n called next_of.strings) (asked_of script.containers progress.world inv.kinds (cursors_of script thread) called next_of.names) (λ _ _ _. tt)
        (subst (λ k. IfSome (cursor_of called) (λ one. one < k)) (sym (inv.room thread thread_low)) (cursor_room script.containers (cursors_of script thread) called next_of.names))

  pub going_answers : (progress : Progress) (thread : ℕ) (called : Call) (asked_containers : List ℕ) → IsTry script progress.machine thread called false asked_containers → (take_locks thread progress.machine.holders asked_containers).found ≡ None
      → IsGoing script progress → IsGoing script (record (with_answer progress thread called) { machine = answered_machine progress.machine thread (thread_at progress.machine thread) called (take_locks thread progress.machine.holders asked_containers) })
  going_answers progress thread called asked_containers try finds inv =
      let machine = progress.machine in
      let state = thread_at machine thread in
      let locking = take_locks thread machine.holders asked_containers in
      let after : ThreadState = record state { fixed = true; sections = sections_after called (state.own ++ locking.taken) state.sections; own = [] } in
      let low : thread < length machine.threads = omega (arith, there script thread state called try.next, inv.owned.threads) in
      let entry = next_entry progress thread called in
      let hands = hands_of progress thread in
      let plain = next_answer progress thread called try.next inv in
      let low_hands : thread < length progress.hands = omega (arith, inv.hands, thread_low progress thread called try.next inv) in
      let before : length state.marks + 1 - 1 ≡ length state.marks = omega arith in
      let event : ℕ × ℕ = (thread, length state.marks) in
      let event_is : ◌≡◌ {A = Option (ℕ × ℕ)} (Some (thread, length state.marks)) (Some (entry.thread, entry.index - 1)) = ap (λ k. let e : Option (ℕ × ℕ) = Some (thread, k) in e) (sym before) in
      record {
        owned = (owned_steps script).answers machine thread called asked_containers try finds inv.owned;
        counts = length_push progress.entries entry ∙ ap (λ k. k + 1) inv.counts ∙ sym (length_push machine.answered event);
        bare = λ place e at. elim (slice_get_push progress.entries entry e place at) [
          | inl earlier ↦
              let is = inv.bare place e earlier in
              record {
                at = slice_get_left machine.answered (event ∷ []) place (slice_get_within machine.answered place (e.thread, e.index - 1) is.at) ∙ is.at;
                index = is.index;
                called = is.called;
                wrote = is.wrote;
                thread = is.thread;
                reply = is.reply;
              }
          | inr last ↦
              subst (λ (f : Entry). IsBare script (machine.answered ++ event ∷ []) place f) last.1
              (subst (λ k. IsBare script (machine.answered ++ event ∷ []) k entry) (sym (last.0 ∙ inv.counts)) (record {
                at = slice_get_at machine.answered [] event ∙ event_is;
                index = omega arith;
                called = ap (slice_get (calls_of script thread)) before ∙ try.next;
                wrote = refl;
                thread = thread_low progress thread called try.next inv;
                reply = reply_strings (length script.strings) progress.world hands (tally_of progress thread) called (reply_of (length script.strings) (answer progress.world hands called).reply plain.reply);
              }))
        ];
        world = record { containers = plain.containers ∙ inv.world.containers; strings = contents_of (length script.strings) (answer progress.world hands called).world plain.contents };
        kinds = plain.kinds ∙ inv.kinds;
        fits = λ other. elim (cases_eq other thread) [
          | inl same ↦
              subst (λ u. AreOver (answer progress.world hands called).world (slice_index_or (slice_set progress.hands thread (answer progress.world hands called).hands) u no_hands)) (sym same)
              (subst (AreOver (answer progress.world hands called).world) (sym (get_or-set_same progress.hands thread (answer progress.world hands called).hands no_hands low_hands))
              (same_over progress.world (answer progress.world hands called).world (answer progress.world hands called).hands plain.kinds (plain.fits (inv.fits thread))))
          | inr differs ↦
              subst (AreOver (answer progress.world hands called).world) (sym (get_or-set_other progress.hands thread other (answer progress.world hands called).hands no_hands differs))
              (same_over progress.world (answer progress.world hands called).world (hands_of progress other) plain.kinds (inv.fits other))
        ];
        hands = length-set progress.hands thread _ ∙ inv.hands;
        room = λ other within. elim (cases_eq other thread) [
          | inl same ↦ ap length (ap (λ u. get_or (slice_set progress.hands thread (answer progress.world hands called).hands) u no_hands) same ∙ get_or-set_same progress.hands thread (answer progress.world hands called).hands no_hands low_hands) ∙ plain.room ∙ inv.room thread (thread_low progress thread called try.next inv) ∙ ap (cursors_of script) (sym same)
          | inr differs ↦ ap length (get_or-set_other progress.hands thread other (answer progress.world hands called).hands no_hands differs) ∙ inv.room other within
        ];
        walks = λ other number. by_thread (λ u s. u < length script.threads → walked (slice_index_or (slice_set progress.hands thread (answer progress.world hands called).hands) u no_hands) number ≡ cursor_containers (take (count_fixed s) (calls_of script u)) number) machine.threads thread after low
            (λ within.
            ap (λ h. walked h number) (get_or-set_same progress.hands thread (answer progress.world hands called).hands no_hands low_hands)
            ∙ next_walks progress thread called try.next inv number
            ∙ ap (λ w. if makes number called then containers_of called else w) (inv.walks thread number within ∙ ap (λ b. cursor_containers (take (length state.marks + (if b then 1 else 0)) (calls_of script thread)) number) try.state ∙ ap (λ k. cursor_containers (take k (calls_of script thread)) number) (let e : length state.marks + 0 ≡ length state.marks = omega arith in e))
            ∙ sym (cursor_push (calls_of script thread) (length state.marks) called number try.next))
            (λ u differs within. ap (λ h. walked h number) (get_or-set_other progress.hands thread u (answer progress.world hands called).hands no_hands differs) ∙ inv.walks u number within) other;
        tallies = inv.tallies;
      }
