-- The state after an entry that keeps every rule.
use Rattle.std.proofs.Common.{◌≡◌, ◌≢◌, ℕ, ◌+◌, ◌<◌, ◌≤◌, Bool, true, false, not, ◌&&◌, IsTrue, List, [], ◌∷◌, ◌++◌, map, length, take, get_or, set, Option, Some, None, refl, sym, ap, subst, ◌∙◌, arith, inl, inr, cond}
use Rattle.std.specs.Prelude.{slice_get, IfNone, All, Any, ◌⊎◌}
use Rattle.std.specs.List.{fold, filter, count_by}
use Rattle.std.proofs.lemmas.Bool.{cases_eq, and_parts, false≢true}
use Rattle.std.proofs.lemmas.List.{length-set, get_or-set_same, get_or-set_other, append-nil, length-map, length-take-le}
use Rattle.std.proofs.lemmas.List.Sums.{fold_push, length-filter, count_by-le-length}
use Rattle.std.proofs.lemmas.Option.{slice_get_within, slice_get-get_or, get_or_from_slice_get, slice_get_cases}
use Rattle.ft_model.specs.declared.call.Call.{Call}
use Rattle.ft_model.specs.declared.call.Call.TheVariants as call
use Rattle.ft_model.specs.declared.content.Content.{Content}
use Rattle.ft_model.specs.declared.cursor.Cursor.{Cursor}
use Rattle.ft_model.specs.declared.entry.Entry.{Entry}
use Rattle.ft_model.specs.declared.entry.Rule.{Rule}
use Rattle.ft_model.specs.declared.entry.Rule.TheVariants as rule
use Rattle.ft_model.specs.declared.entry.Storage.{Storage}
use Rattle.ft_model.specs.declared.reply.Reply.{Reply}
use Rattle.ft_model.specs.declared.reply.Reply.TheVariants as reply
use Rattle.ft_model.specs.declared.script.Thread.{Thread}
use Rattle.ft_model.specs.declared.script.ScriptParts.{ScriptParts}
use Rattle.ft_model.specs.Calls.{is_changing, containers_of}
use Rattle.ft_model.specs.Scripts.{IsScript, IsCallOf, AreMade, cursor_of}
use Rattle.ft_model.specs.Worlds.{start_world, starts_of, kind_of}
use Rattle.ft_model.specs.Answers.{answer, after_write, is_memory, is_raised, is_write}
use Rattle.ft_model.specs.Boxings.{boxes}
use Rattle.ft_model.specs.Histories.{writes, world_at, hands_at, calls_of, cursors_of, names, is_marked, IsReplied}
use Rattle.ft_model.specs.Judging.{IsNext, IsStamped, HasRightReply, Holds}
use Rattle.ft_history.specs.declared.progress.ThreadProgress.{ThreadProgress}
use Rattle.ft_history.specs.declared.writers.LastWrites.{LastWrites}
use Rattle.ft_history.specs.declared.state.State.{State}
use Rattle.ft_history.specs.Internal.Accounts.{IsAccount, AreOfKind}
use Rattle.ft_history.specs.Internal.States.{IsAskable, world_before, after_one, IsProgress, AreHandsOf, AreLastWrites}
use Rattle.ft_history.specs.Internal.Steps.{IsState, GoesAfter, HoldsFirst, BreaksFirst, FindsLate, HoldsLate, FindsBroken}
use Rattle.ft_history.proofs.HistoryPlaces.{writes_next, count_next, world_at-before}
use Rattle.ft_history.proofs.Judged.{holds_more}
use Rattle.ft_history.proofs.ScriptLemmas.{call_of_thread, calls_of_thread, is_thread, named_within, no_calls}
use Rattle.ft_history.proofs.Leaves.{Leaves, leaves_of, of_kinds, askable}
use Rattle.ft_history.proofs.HandLemmas.{hands_next, hands_same, own_cursors}
use Rattle.ft_history.proofs.AccountLemmas.{account_next}
use Rattle.ft_model.proofs.StoredLaws.{stored_world}
use Rattle.ft_history.proofs.ProgressLemmas.{progress_other, progress_mine}
use Rattle.ft_history.proofs.LastWriteLemmas.{last_after_other, last_after_write}

-- an element of a list with one replaced is the new one, or another as it was
set_cases : {X : Type 0} (xs : List X) (i k : ℕ) (x y : X) → i < length xs → slice_get (set xs i x) k ≡ Some y → ((k ≡ i) × (x ≡ y)) ⊎ ((k ≢ i) × (slice_get xs k ≡ Some y))
set_cases xs i k x y low at =
    let within : k < length xs = omega (arith, slice_get_within (set xs i x) k y at, length-set xs i x) in
    let read : get_or (set xs i x) k y ≡ y = get_or_from_slice_get (set xs i x) k y y at in
    elim (cases_eq k i) [
      | inl same ↦ inl (same, sym (get_or-set_same xs i x y low) ∙ ap (λ n. get_or (set xs i x) n y) (sym same) ∙ read)
      | inr differ ↦ inr (differ, slice_get-get_or xs k y within ∙ ap Some (sym (get_or-set_other xs i k x y differ) ∙ read))
    ]

-- a reply that isn't a MemoryError makes a write exactly where the plain container's does
write_alike : (called : Call) (said plain : Reply) → IsReplied called said plain → is_memory said ≡ false → is_write called plain ≡ is_write called said
write_alike (call.Begin first second) said plain right none = refl
write_alike call.End said plain right none = refl
write_alike call.Quiesce said plain right none = refl
write_alike (call.Await other index) said plain right none = refl
write_alike call.Dump said plain right none = refl
write_alike (call.Dict container dict_call) said plain (inl memory) none = absurd (false≢true (sym none ∙ memory))
write_alike (call.Dict container dict_call) said plain (inr same) none = ap (is_write (call.Dict container dict_call)) (sym same)
write_alike (call.List container list_call) said plain (inl memory) none = absurd (false≢true (sym none ∙ memory))
write_alike (call.List container list_call) said plain (inr same) none = ap (is_write (call.List container list_call)) (sym same)
write_alike (call.Set container set_call) said plain (inl memory) none = absurd (false≢true (sym none ∙ memory))
write_alike (call.Deque container deque_call) said plain (inl memory) none = absurd (false≢true (sym none ∙ memory))
write_alike (call.Set container set_call) said plain (inr same) none = ap (is_write (call.Set container set_call)) (sym same)
write_alike (call.Deque container deque_call) said plain (inr same) none = ap (is_write (call.Deque container deque_call)) (sym same)
write_alike (call.Next cursor) said plain (inl memory) none = absurd (false≢true (sym none ∙ memory))
write_alike (call.Next cursor) said plain (inr same) none = ap (is_write (call.Next cursor)) (sym same)

-- a MemoryError is no write
memory_no_write : (called : Call) (said : Reply) → is_memory said ≡ true → is_write called said ≡ false
memory_no_write called (reply.Raised said) memory = elim (is_changing called) as (λ b. (b && false) ≡ false) [ true ↦ refl | false ↦ refl ]
memory_no_write called _ memory = absurd (false≢true memory)

module _ (script : ScriptParts) (is_script : IsScript script) (entries : List Entry) (place : ℕ) (entry : Entry) (at : slice_get entries place ≡ Some entry) (next : IsNext script entries place entry) where
  -- the thread of the script whose call it is
  pub thread_found : (found : Thread) × (slice_get script.threads entry.thread ≡ Some found)
  thread_found =
      elim (slice_get_cases script.threads entry.thread).1 [
        | inl found ↦ (found.0, found.2)
        | inr past ↦ absurd (no_calls script entry.thread _ entry.call past.0 next.call)
      ]

  pub its_call : IsCallOf script (cursors_of script entry.thread) entry.call
  its_call = call_of_thread script is_script entry.thread thread_found.0 thread_found.1 _ entry.call next.call

  module _ (stamped : IsStamped entries place entry) (no_cursor : is_memory entry.reply ≡ true → cursor_of entry.call ≡ None) (said : Bool) (before after : ThreadProgress) (old new : State) (is_state : IsState script entries place old) (goes : GoesAfter place entry said before after old new) (right : IsTrue said) where
    so_far : IsProgress script entries entry.thread place before
    so_far = is_state.progress entry.thread before goes.at

    its_hands : AreHandsOf script entry.thread before.made before.hands
    its_hands = is_state.hands entry.thread before goes.at

    left : Leaves script.containers old.world before.hands entry.call
    left = leaves_of script.containers old.world is_state.kinds before.hands (cursors_of script entry.thread) entry.call its_call.names its_hands.kinds

    replied : IsReplied entry.call entry.reply (answer old.world before.hands entry.call).reply
    replied = goes.right.0 right

    module _ (plain : is_memory entry.reply ≡ false) where
      world_is : new.world ≡ (answer old.world before.hands entry.call).world
      world_is = goes.world ∙ ap (λ b. cond b old.world (answer old.world before.hands entry.call).world) plain

      writes_alike : is_write entry.call (answer old.world before.hands entry.call).reply ≡ entry.wrote
      writes_alike = write_alike entry.call entry.reply _ replied plain ∙ sym stamped.wrote

      -- a write leaves what it leaves for all hands
      world_written : entry.wrote ≡ true → new.world ≡ after_write old.world entry.call
      world_written wrote = world_is ∙ left.alike (and_parts (is_changing entry.call) (not (is_raised (answer old.world before.hands entry.call).reply)) (writes_alike ∙ wrote)).0

      world_quiet : entry.wrote ≡ false → new.world ≡ old.world
      world_quiet quiet = world_is ∙ left.quiet (writes_alike ∙ quiet)

    -- so does a call that raises a MemoryError, which is no write
    memory_quiet : is_memory entry.reply ≡ true → entry.wrote ≡ false
    memory_quiet memory = stamped.wrote ∙ memory_no_write entry.call entry.reply memory

    memory_world : is_memory entry.reply ≡ true → new.world ≡ old.world
    memory_world memory = goes.world ∙ ap (λ b. cond b old.world (answer old.world before.hands entry.call).world) memory

    written : entry.wrote ≡ true → new.world ≡ after_write old.world entry.call
    written wrote =
        elim (is_memory entry.reply) as (λ b. is_memory entry.reply ≡ b → new.world ≡ after_write old.world entry.call) [
          | true ↦ λ memory. absurd (false≢true (sym (memory_quiet memory) ∙ wrote))
          | false ↦ λ plain. world_written plain wrote
        ] refl

    quiet : entry.wrote ≡ false → new.world ≡ old.world
    quiet calm =
        elim (is_memory entry.reply) as (λ b. is_memory entry.reply ≡ b → new.world ≡ old.world) [
          | true ↦ memory_world
          | false ↦ λ plain. world_quiet plain calm
        ] refl

    world_after : new.world ≡ world_before script entries (place + 1)
    world_after =
        let start = start_world script.containers in
        let done = writes (take place entries) in
        elim entry.wrote as (λ b. entry.wrote ≡ b → new.world ≡ fold after_write start (done ++ cond b (entry.call ∷ []) [])) [
          | true ↦ λ wrote. written wrote ∙ ap (λ world. after_write world entry.call) is_state.world ∙ sym (fold_push after_write start done entry.call)
          | false ↦ λ calm. quiet calm ∙ is_state.world ∙ ap (fold after_write start) (sym (append-nil done))
        ] refl
        ∙ ap (fold after_write start) (sym (writes_next entries place entry at))

    kinds_after : map kind_of new.world ≡ map kind_of old.world
    kinds_after =
        elim (is_memory entry.reply) as (λ b. is_memory entry.reply ≡ b → map kind_of new.world ≡ map kind_of old.world) [
          | true ↦ λ memory. ap (map kind_of) (memory_world memory)
          | false ↦ λ plain. ap (map kind_of) (world_is plain) ∙ left.kinds
        ] refl

    account_after : IsAccount script (writes (take (place + 1) entries)) new.account
    account_after =
        let done = writes (take place entries) in
        subst (λ (calls : List Call). IsAccount script calls new.account) (sym (writes_next entries place entry at))
        (elim entry.wrote as (λ b. entry.wrote ≡ b → IsAccount script (done ++ cond b (entry.call ∷ []) []) new.account) [
          | true ↦ λ wrote. account_next script done entry.call old.world new.world old.account new.account (is_state.world ∙ sym (stored_world (starts_of script.containers) done)) (written wrote) is_state.account (goes.taking wrote)
          | false ↦ λ calm. subst (λ (calls : List Call). IsAccount script calls new.account) (sym (append-nil done)) (subst (IsAccount script done) (sym (goes.same calm)) is_state.account)
        ] refl)

    low : entry.thread < length old.threads.items
    low = slice_get_within old.threads.items entry.thread before goes.at

    new_progress : IsProgress script entries entry.thread (place + 1) after
    new_progress =
        progress_mine script entries place entry at before after so_far stamped.stamp (named_within script.containers (cursors_of script entry.thread) entry.call its_call.names) goes.made goes.marks
        (goes.boxed ∙ ap (λ (world : List Content). before.boxed + cond (entry.wrote && boxes world entry.call) 1 0) is_state.world)
        (goes.hands ∙ ap (λ (world : List Content). cond (is_memory entry.reply) before.hands (answer world before.hands entry.call).hands) is_state.world) goes.sections

    new_hands : AreHandsOf script entry.thread after.made after.hands
    new_hands =
        let room : (number : ℕ) → cursor_of entry.call ≡ Some number → number < length before.hands = λ number makes. let n = own_cursors script (cursors_of script entry.thread) entry.call its_call.names number makes in omega (arith, its_hands.room) in
        let call : slice_get (calls_of script entry.thread) before.made ≡ Some entry.call = ap (slice_get (calls_of script entry.thread)) so_far.made ∙ next.call in
        let next : AreHandsOf script entry.thread (before.made + 1) after.hands =
        elim (is_memory entry.reply) as (λ b. is_memory entry.reply ≡ b → AreHandsOf script entry.thread (before.made + 1) after.hands) [
          | true ↦ λ memory.
              let hands : after.hands ≡ before.hands = goes.hands ∙ ap (λ b. cond b before.hands (answer old.world before.hands entry.call).hands) memory in
              subst (λ hs. AreHandsOf script entry.thread (before.made + 1) hs) (sym hands) (hands_same script entry.thread before.made before.hands entry.call call (no_cursor memory) its_hands)
          | false ↦ λ plain.
              let hands : after.hands ≡ (answer old.world before.hands entry.call).hands = goes.hands ∙ ap (λ b. cond b before.hands (answer old.world before.hands entry.call).hands) plain in
              subst (λ hs. AreHandsOf script entry.thread (before.made + 1) hs) (sym hands) (hands_next script entry.thread before.made old.world before.hands entry.call call room left its_hands)
        ] refl in
        subst (λ n. AreHandsOf script entry.thread n after.hands) (sym goes.made) next

    last_after : (container : ℕ) (last : LastWrites) → slice_get new.containers.items container ≡ Some last → AreLastWrites entries (place + 1) container last
    last_after container last here =
        let within : container < length old.containers.items = omega (arith, slice_get_within new.containers.items container last here, goes.containers) in
        let was : LastWrites = get_or old.containers.items container last in
        let old_last : AreLastWrites entries place container was = is_state.lasts container was (slice_get-get_or old.containers.items container last within) in
        let is : last ≡ cond (entry.wrote && names container entry.call) (after_one was entry.thread place) was = sym (get_or_from_slice_get new.containers.items container last last here) ∙ goes.lasts container last in
        elim (entry.wrote && names container entry.call) as (λ b. (entry.wrote && names container entry.call) ≡ b → last ≡ cond b (after_one was entry.thread place) was → AreLastWrites entries (place + 1) container last) [
          | true ↦ λ both same. let parts = and_parts entry.wrote (names container entry.call) both in subst (AreLastWrites entries (place + 1) container) (sym same) (last_after_write entries place container entry at was old_last parts.0 parts.1)
          | false ↦ λ calm same. subst (AreLastWrites entries (place + 1) container) (sym same) (last_after_other entries place container entry at was old_last calm)
        ] refl is

    pub state_after : IsState script entries (place + 1) new
    state_after =
        record {
          world = world_after;
          kinds = kinds_after ∙ is_state.kinds;
          count = goes.writes ∙ ap (λ n. n + cond entry.wrote 1 0) is_state.count ∙ sym (count_next entries place entry at);
          threads = ap length goes.threads ∙ length-set old.threads.items entry.thread after ∙ is_state.threads;
          progress = λ thread progress here.
              elim (set_cases old.threads.items entry.thread thread after progress low (ap (λ (ps : List ThreadProgress). slice_get ps thread) (sym goes.threads) ∙ here)) [
                | inl mine ↦ subst (λ t. IsProgress script entries t (place + 1) progress) (sym mine.0) (subst (IsProgress script entries entry.thread (place + 1)) mine.1 new_progress)
                | inr other ↦ progress_other script entries place entry at thread progress (λ same. other.0 (sym same)) (is_state.progress thread progress other.1)
              ];
          hands = λ thread progress here.
              elim (set_cases old.threads.items entry.thread thread after progress low (ap (λ (ps : List ThreadProgress). slice_get ps thread) (sym goes.threads) ∙ here)) [
                | inl mine ↦ subst (λ t. AreHandsOf script t progress.made progress.hands) (sym mine.0) (subst (λ (p : ThreadProgress). AreHandsOf script entry.thread p.made p.hands) mine.1 new_hands)
                | inr other ↦ is_state.hands thread progress other.1
              ];
          containers = goes.containers ∙ is_state.containers;
          lasts = last_after;
          account = account_after;
        }

  -- its call may be made in the state
  pub askable_at : (state : State) (progress : ThreadProgress) → IsState script entries place state → slice_get state.threads.items entry.thread ≡ Some progress → IsAskable state.world progress.hands entry.call
  askable_at state progress is_state here =
      let hands = is_state.hands entry.thread progress here in
      let calls_made : AreMade (calls_of script entry.thread) = subst AreMade (sym (calls_of_thread script is_script entry.thread thread_found.0 thread_found.1)) (is_thread script is_script entry.thread thread_found.0 thread_found.1).made in
      askable script.containers state.world is_state.kinds progress.hands (cursors_of script entry.thread) entry.call hands.room its_call.names hands.kinds
      (λ number is. hands.cursors number (subst (λ n. Any (λ called. cursor_of called ≡ Some number) (take n (calls_of script entry.thread))) (sym (is_state.progress entry.thread progress here).made) (calls_made _ number (next.call ∙ ap Some is))))

  -- it names containers of its kind
  pub of_kind_at : (state : State) → IsState script entries place state → AreOfKind state.world entry.call
  of_kind_at state is_state = of_kinds script.containers state.world is_state.kinds (cursors_of script entry.thread) entry.call its_call.names

  pub within_containers : (state : State) → IsState script entries place state → All (λ container. container < length state.containers.items) (containers_of entry.call)
  within_containers state is_state = subst (λ n. All (λ container. container < n) (containers_of entry.call)) (sym is_state.containers) (named_within script.containers (cursors_of script entry.thread) entry.call its_call.names)

  pub thread_within : (state : State) → IsState script entries place state → entry.thread < length state.threads.items
  thread_within state is_state = omega (arith, is_state.threads, slice_get_within script.threads entry.thread thread_found.0 thread_found.1)

-- there are no more writes than entries, and no more marks
pub few_writes : (entries : List Entry) (place : ℕ) → place ≤ length entries → length (writes (take place entries)) ≤ place
few_writes entries place within =
    omega (arith, length-map (filter (λ (e : Entry). e.wrote) (take place entries)) (λ (e : Entry). e.call), length-filter (λ (e : Entry). e.wrote) (take place entries), count_by-le-length (λ (e : Entry). e.wrote) (take place entries), length-take-le place entries within)

pub few_marks : (entries : List Entry) (place thread : ℕ) → place ≤ length entries → count_by (is_marked thread) (take place entries) ≤ place
few_marks entries place thread within = omega (arith, count_by-le-length (is_marked thread) (take place entries), length-take-le place entries within)

-- ---- what is found at a place

module _ (s : Storage) (script : ScriptParts) (entries : List Entry) (place : ℕ) (entry : Entry) (said : Bool) (before after : ThreadProgress) (old new : State) (is_state : IsState script entries place old) (goes : GoesAfter place entry said before after old new) where
  same_world : old.world ≡ world_at script entries (length (writes (take place entries)))
  same_world = is_state.world ∙ sym (world_at-before script entries place)

  same_hands : before.hands ≡ hands_at script entries entry.thread place
  same_hands = (is_state.progress entry.thread before goes.at).hands

  pub right_there : IsReplied entry.call entry.reply (answer old.world before.hands entry.call).reply → HasRightReply script entries place entry
  right_there replied = subst (λ (hs : List (Option Cursor)). IsReplied entry.call entry.reply (answer (world_at script entries (length (writes (take place entries)))) hs entry.call).reply) same_hands (subst (λ (w : List Content). IsReplied entry.call entry.reply (answer w before.hands entry.call).reply) same_world replied)

  pub right_here : HasRightReply script entries place entry → IsReplied entry.call entry.reply (answer old.world before.hands entry.call).reply
  right_here right = subst (λ (w : List Content). IsReplied entry.call entry.reply (answer w before.hands entry.call).reply) (sym same_world) (subst (λ (hs : List (Option Cursor)). IsReplied entry.call entry.reply (answer (world_at script entries (length (writes (take place entries)))) hs entry.call).reply) (sym same_hands) right)

  pub breaks_reply : HoldsFirst s script entries place entry 3 → said ≡ false → BreaksFirst s script entries place entry rule.Reply
  breaks_reply first off = record { before = first; broken = λ right. false≢true (sym off ∙ goes.right.1 (right_here right)) }

  pub holds_four : HoldsFirst s script entries place entry 3 → said ≡ true → HoldsFirst s script entries place entry 4
  holds_four first on = holds_more s script entries place entry 3 rule.Reply refl first (right_there (goes.right.0 on))

pub finds_all : (s : Storage) (script : ScriptParts) (entries : List Entry) (place : ℕ) (entry : Entry) (found : Option Rule) → HoldsFirst s script entries place entry 4 → FindsLate s script entries place entry found → FindsBroken s script entries place entry found
finds_all s script entries place entry (Some r) first late = late first
finds_all s script entries place entry None first late = all
  where
    all : (r : Rule) → Holds s script entries r place entry
    all rule.Whole = first rule.Whole (omega arith)
    all rule.Stamp = first rule.Stamp (omega arith)
    all rule.Order = first rule.Order (omega arith)
    all rule.Reply = first rule.Reply (omega arith)
    all rule.Await = late.awaits
    all rule.Mark = late.mark
    all rule.Kept = late.kept
    all rule.Suspended = late.suspended
    all rule.Memory = late.memory
    all rule.Missing = tt
    all rule.World = tt

pub where_none : (s : Storage) (script : ScriptParts) (entries : List Entry) (place : ℕ) (entry : Entry) (X : Type 0) (found : Option Rule) → FindsLate s script entries place entry found → (HoldsLate s script entries place entry → X) → IfNone found X
where_none s script entries place entry X None late so = so late
where_none s script entries place entry X (Some r) late so = tt
