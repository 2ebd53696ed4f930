-- Each entry of the turns says what it has to say at its place.
use Rattle.std.proofs.Common.{◌≡◌, ◌≢◌, ℕ, zero, suc, ◌+◌, ◌-◌, ◌<◌, true, false, List, [], ◌∷◌, ◌++◌, length, take, map, Option, Some, refl, sym, ap, ◌∙◌, arith, cond, inl, inr}
use Rattle.std.specs.Prelude.{filter, slice_get, slice_index_or, ◌⊎◌, ◌==◌, is_some, if◌then◌else◌}
use Rattle.std.proofs.lemmas.Bool.{eqb-true, eqb-false}
use Rattle.std.proofs.lemmas.List.{length_push, length-map, take-take, take_at, map_push}
use Rattle.ft_model.specs.declared.call.Call.{Call}
use Rattle.ft_model.specs.declared.call.Call.TheVariants as call
use Rattle.ft_model.specs.declared.content.Content.{Content}
use Rattle.ft_model.specs.declared.cursor.Cursor.{Cursor}
use Rattle.ft_model.specs.declared.entry.Entry.{Entry}
use Rattle.ft_model.specs.declared.reply.Reply.TheVariants as reply
use Rattle.ft_model.specs.declared.script.ScriptParts.{ScriptParts}
use Rattle.ft_model.specs.Calls.{containers_of}
use Rattle.ft_model.specs.Worlds.{containers_used}
use Rattle.ft_model.specs.Answers.{answer, is_memory}
use Rattle.ft_model.specs.Histories.{writes, calls_of, hands_at, IsReplied, IsAnswered, Section, after_section, sections_at, IfEnds, marks_between, IsCountedBy, IsCounted}
use Rattle.ft_history.specs.Internal.States.{world_before}
use Rattle.ft_history.proofs.HistoryPlaces.{slice_get_at}
use Rattle.ft_turns.specs.Orders.{thread_at, next_call}
use Rattle.ft_turns.specs.AnsweredTurns.{Tally, noted_after, tally_after, waited_inside, ended_reply, thread_reply, Progress}
use Rattle.ft_turns.proofs.ProgressWords.{hands_of, tally_of}
use Rattle.ft_turns.proofs.Marks.{count_fixed, own_stack, own_containers}
use Rattle.ft_turns.proofs.MachineFacts.{IsFollowed}
use Rattle.ft_turns.proofs.PlaceSteps.{AllBelow, marks_next, marks_none, other_unmarked, own_marked}
use Rattle.ft_turns.proofs.NoSections.{none_ends}

-- ---- tallies

-- the marks in each open section, and what was noted when it was entered, make the count
abbrev pub Tallied : List Entry → ℕ → ℕ → ℕ → List Section → List ℕ → Type 0
Tallied entries thread place count [] [] = Unit {0}
Tallied entries thread place count [] (noted ∷ rest) = ⊥
Tallied entries thread place count (section ∷ sections) [] = ⊥
Tallied entries thread place count (section ∷ sections) (noted ∷ rest) = (marks_between entries thread place section + noted ≡ count) × Tallied entries thread place count sections rest

-- a list of entries with their marks
abbrev pub marked_by : (ℕ → ℕ → Option ℕ) → Entry → Entry
marked_by mark_of entry = record entry { waited = mark_of entry.thread (entry.index - 1) }

module _ (entries : List Entry) (place : ℕ) (entry : Entry) (at : slice_get entries place ≡ Some entry) (thread : ℕ) where
  pub tallied_next : (count : ℕ) (mark : Option ℕ) (sections : List Section) (noted : List ℕ) → entry.thread ≡ thread → entry.waited ≡ mark → AllBelow place sections → Tallied entries thread place count sections noted → Tallied entries thread (place + 1) (count + (if is_some mark then 1 else 0)) sections noted
  tallied_next count mark [] [] mine waited below tallied = tt
  tallied_next count mark [] (first ∷ noted) mine waited below tallied = tallied
  tallied_next count mark (section ∷ sections) [] mine waited below tallied = tallied
  tallied_next count mark (section ∷ sections) (first ∷ noted) mine waited below tallied = (
    let more : marks_between entries thread (place + 1) section ≡ marks_between entries thread place section + (if is_some mark then 1 else 0) = marks_next entries place entry at thread section below.0 ∙ ap (λ b. marks_between entries thread place section + cond b 1 0) (own_marked entries place entry at thread mine ∙ ap is_some waited) in
        let before : marks_between entries thread place section + first ≡ count = tallied.0 in
        omega arith,
    tallied_next count mark sections noted mine waited below.1 tallied.1,
  )

  pub tallied_other : (count : ℕ) (sections : List Section) (noted : List ℕ) → entry.thread ≢ thread → AllBelow place sections → Tallied entries thread place count sections noted → Tallied entries thread (place + 1) count sections noted
  tallied_other count [] [] other below tallied = tt
  tallied_other count [] (first ∷ noted) other below tallied = tallied
  tallied_other count (section ∷ sections) [] other below tallied = tallied
  tallied_other count (section ∷ sections) (first ∷ noted) other below tallied = (
    let same : marks_between entries thread (place + 1) section ≡ marks_between entries thread place section + 0 = marks_next entries place entry at thread section below.0 ∙ ap (λ b. marks_between entries thread place section + cond b 1 0) (other_unmarked entries place entry at thread other) in
        let before : marks_between entries thread place section + first ≡ count = tallied.0 in
        omega arith,
    tallied_other count sections noted other below.1 tallied.1,
  )

  pub tallied_call : (count : ℕ) (called : Call) (sections : List Section) (noted : List ℕ) → Tallied entries thread (place + 1) count sections noted → Tallied entries thread (place + 1) (noted_after called noted count).count (after_section place called sections) (noted_after called noted count).noted
  tallied_call count (call.Begin first second) sections noted tallied = ((let none : marks_between entries thread (place + 1) (record { containers = containers_of (call.Begin first second); begun = place }) ≡ 0 = marks_none entries place entry at thread (containers_of (call.Begin first second)) in omega arith), tallied)
  tallied_call count call.End [] [] tallied = tt
  tallied_call count call.End [] (first ∷ noted) tallied = absurd tallied
  tallied_call count call.End (section ∷ sections) [] tallied = absurd tallied
  tallied_call count call.End (section ∷ sections) (first ∷ noted) tallied = tallied.1
  tallied_call count (call.Dict container dict_call) sections noted tallied = tallied
  tallied_call count (call.List container list_call) sections noted tallied = tallied
  tallied_call count (call.Set container set_call) sections noted tallied = tallied
  tallied_call count (call.Deque container deque_call) sections noted tallied = tallied
  tallied_call count (call.Next cursor) sections noted tallied = tallied
  tallied_call count call.Quiesce sections noted tallied = tallied
  tallied_call count (call.Await other index) sections noted tallied = tallied
  tallied_call count call.Dump sections noted tallied = tallied

-- so an `end` counts the marks
pub ended_counts : (entries : List Entry) (thread place : ℕ) (section : Section) (count : ℕ) → marks_between entries thread place section ≡ count → IsCountedBy entries thread place section (ended_reply count)
ended_counts entries thread place section count is =
    elim (count == 0) as (λ b. (count == 0) ≡ b → IsCountedBy entries thread place section (if b then reply.Kept else reply.Suspended count)) [
      | true ↦ λ none. is ∙ eqb-true count 0 none
      | false ↦ λ some. ((let differs : count ≢ 0 = eqb-false count 0 some in omega arith), is)
    ] refl

pub counted_call : (entries : List Entry) (thread place : ℕ) (world : List Content) (hands : List (Option Cursor)) (tally : Tally) (called : Call) (sections : List Section) (noted : List ℕ) → tally.noted ≡ noted → Tallied entries thread place tally.count sections noted
    → IfEnds sections called (λ section. IsCountedBy entries thread place section (thread_reply world hands tally called))
counted_call entries thread place world hands tally called [] noted is tallied = none_ends called (λ section. IsCountedBy entries thread place section (thread_reply world hands tally called))
counted_call entries thread place world hands tally called (section ∷ sections) [] is tallied = absurd tallied
counted_call entries thread place world hands tally call.End (section ∷ sections) (first ∷ noted) is tallied =
    ended_counts entries thread place section (waited_inside tally)
    (let parts : marks_between entries thread place section + first ≡ tally.count = tallied.0 in
    let inside : waited_inside tally ≡ tally.count - first = ap (λ (ns : List ℕ). tally.count - slice_index_or ns 0 0) is in omega arith)
counted_call entries thread place world hands tally (call.Dict container dict_call) (section ∷ sections) (first ∷ noted) is tallied = tt
counted_call entries thread place world hands tally (call.List container list_call) (section ∷ sections) (first ∷ noted) is tallied = tt
counted_call entries thread place world hands tally (call.Set container set_call) (section ∷ sections) (first ∷ noted) is tallied = tt
counted_call entries thread place world hands tally (call.Deque container deque_call) (section ∷ sections) (first ∷ noted) is tallied = tt
counted_call entries thread place world hands tally (call.Next cursor) (section ∷ sections) (first ∷ noted) is tallied = tt
counted_call entries thread place world hands tally (call.Begin one two) (section ∷ sections) (first ∷ noted) is tallied = tt
counted_call entries thread place world hands tally call.Quiesce (section ∷ sections) (first ∷ noted) is tallied = tt
counted_call entries thread place world hands tally (call.Await other index) (section ∷ sections) (first ∷ noted) is tallied = tt
counted_call entries thread place world hands tally call.Dump (section ∷ sections) (first ∷ noted) is tallied = tt

-- ---- replies

pub ended_replied : (count : ℕ) → (ended_reply count ≡ reply.Kept) ⊎ ((k : ℕ) × (ended_reply count ≡ reply.Suspended k))
ended_replied count =
    elim (count == 0) as (λ b. ((if b then reply.Kept else reply.Suspended count) ≡ reply.Kept) ⊎ ((k : ℕ) × ((if b then reply.Kept else reply.Suspended count) ≡ reply.Suspended k))) [
      | true ↦ inl refl
      | false ↦ inr (count, refl)
    ]

pub replied : (world : List Content) (hands : List (Option Cursor)) (tally : Tally) (called : Call) → IsReplied called (thread_reply world hands tally called) (answer world hands called).reply
replied world hands tally (call.Begin first second) = refl
replied world hands tally call.End = ended_replied (waited_inside tally)
replied world hands tally call.Quiesce = refl
replied world hands tally (call.Await other index) = refl
replied world hands tally call.Dump = inr refl
replied world hands tally (call.Dict container dict_call) = inr refl
replied world hands tally (call.List container list_call) = inr refl
replied world hands tally (call.Set container set_call) = inr refl
replied world hands tally (call.Deque container deque_call) = inr refl
replied world hands tally (call.Next cursor) = inr refl

-- ---- what follows

-- the progress is the first part of what comes of it
pub record IsFirstPart (events : List (ℕ × ℕ)) (mark_of : ℕ → ℕ → Option ℕ) (entries : List Entry) (progress : Progress) : Type 0 where
  pub machine : IsFollowed events mark_of progress.machine
  pub front : take (length progress.entries) entries ≡ map (marked_by mark_of) progress.entries

pub slice_get-take : {X : Type 0} (xs : List X) (n place : ℕ) → place < n → slice_get (take n xs) place ≡ slice_get xs place
slice_get-take [] zero place low = refl
slice_get-take [] (suc n) place low = refl
slice_get-take (x ∷ xs) zero place low = absurd (omega arith)
slice_get-take (x ∷ xs) (suc n) zero low = refl
slice_get-take (x ∷ xs) (suc n) (suc place) low = slice_get-take xs n place (omega arith)

pub front_before : (mark_of : ℕ → ℕ → Option ℕ) (entries bare : List Entry) (entry : Entry) → take (length (bare ++ entry ∷ [])) entries ≡ map (marked_by mark_of) (bare ++ entry ∷ []) → take (length bare) entries ≡ map (marked_by mark_of) bare
front_before mark_of entries bare entry is =
    sym (take-take (length bare) (length (bare ++ entry ∷ [])) entries (omega (arith, length_push bare entry)))
    ∙ ap (take (length bare)) (is ∙ map_push (marked_by mark_of) bare entry)
    ∙ take_at (map (marked_by mark_of) bare) (marked_by mark_of entry ∷ []) (length bare) (length-map bare (marked_by mark_of))

pub front_at : (mark_of : ℕ → ℕ → Option ℕ) (entries bare : List Entry) (entry : Entry) → take (length (bare ++ entry ∷ [])) entries ≡ map (marked_by mark_of) (bare ++ entry ∷ []) → slice_get entries (length bare) ≡ Some (marked_by mark_of entry)
front_at mark_of entries bare entry is =
    sym (slice_get-take entries (length (bare ++ entry ∷ [])) (length bare) (omega (arith, length_push bare entry)))
    ∙ ap (λ es. slice_get es (length bare)) (is ∙ map_push (marked_by mark_of) bare entry)
    ∙ ap (slice_get (map (marked_by mark_of) bare ++ marked_by mark_of entry ∷ [])) (sym (length-map bare (marked_by mark_of)))
    ∙ slice_get_at (map (marked_by mark_of) bare) [] (marked_by mark_of entry)

pub writes-marked : (mark_of : ℕ → ℕ → Option ℕ) (bare : List Entry) → writes (map (marked_by mark_of) bare) ≡ writes bare
writes-marked mark_of [] = refl
writes-marked mark_of (entry ∷ bare) =
    elim entry.wrote as (λ b. map (λ (e : Entry). e.call) (cond b (marked_by mark_of entry ∷ filter (λ (e : Entry). e.wrote) (map (marked_by mark_of) bare)) (filter (λ (e : Entry). e.wrote) (map (marked_by mark_of) bare))) ≡ map (λ (e : Entry). e.call) (cond b (entry ∷ filter (λ (e : Entry). e.wrote) bare) (filter (λ (e : Entry). e.wrote) bare))) [
      | true ↦ ap (λ (cs : List Call). entry.call ∷ cs) (writes-marked mark_of bare)
      | false ↦ writes-marked mark_of bare
    ]

-- ---- the invariant

-- an entry at its place
pub record IsDone (script : ScriptParts) (entries : List Entry) (place : ℕ) (entry : Entry) : Type 0 where
  pub answered : IsAnswered script entries place entry
  pub counted : IsCounted entries place entry
  pub memory : is_memory entry.reply ≡ false
  -- the containers that it is about, and those of the section that is innermost after it, are reported by its thread's own calls
  pub about : containers_used (hands_at script entries entry.thread place) entry.call ≡ own_containers (take (entry.index - 1) (calls_of script entry.thread)) entry.call
  pub stack : map (λ section. section.containers) (after_section place entry.call (sections_at entries entry.thread place)) ≡ own_stack (take (entry.index - 1 + 1) (calls_of script entry.thread))

pub record HasRightReply (script : ScriptParts) (mark_of : ℕ → ℕ → Option ℕ) (entries : List Entry) (progress : Progress) : Type 0 where
  pub world : progress.world ≡ world_before script entries (length progress.entries)
  pub hands : (thread : ℕ) → thread < length script.threads → hands_of progress thread ≡ hands_at script entries thread (length progress.entries)
  pub stack : (thread : ℕ) → map (λ section. section.containers) (sections_at entries thread (length progress.entries)) ≡ own_stack (take (count_fixed (thread_at progress.machine thread)) (calls_of script thread))
  pub unfixed : (thread : ℕ) → (thread_at progress.machine thread).fixed ≡ false → thread < length script.threads → Tallied entries thread (length progress.entries) (tally_of progress thread).count (sections_at entries thread (length progress.entries)) (tally_of progress thread).noted
  pub fixed : (thread : ℕ) (called : Call) → (thread_at progress.machine thread).fixed ≡ true → next_call script thread (thread_at progress.machine thread) ≡ Some called
      → Tallied entries thread (length progress.entries) (tally_after (tally_of progress thread) called (mark_of thread (length (thread_at progress.machine thread).marks))).count (sections_at entries thread (length progress.entries)) (tally_after (tally_of progress thread) called (mark_of thread (length (thread_at progress.machine thread).marks))).noted
  pub done : (place : ℕ) (entry : Entry) → place < length progress.entries → slice_get entries place ≡ Some entry → IsDone script entries place entry
