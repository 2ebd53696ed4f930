-- What is kept of a thread, one entry further.
use Rattle.std.proofs.Common.{◌≡◌, ◌≢◌, ℕ, ◌+◌, ◌<◌, ◌&&◌, List, [], ◌∷◌, ◌++◌, map, length, take, Option, Some, refl, sym, ap, subst, ◌∙◌, arith, cond, eqb}
use Rattle.std.specs.Prelude.{slice_get, is_some, All}
use Rattle.std.specs.List.{fold, count_by, AllByRecursion}
use Rattle.std.proofs.lemmas.Bool.{eq-eqb, ne_eqb}
use Rattle.std.proofs.Math.Seq.{take-append_seam}
use Rattle.std.proofs.lemmas.List.{append-nil, append_assoc, length_push, drop-map}
use Rattle.std.proofs.lemmas.List.Sums.{sum_by_push, fold_push}
use Rattle.ft_model.specs.declared.call.Call.{Call}
use Rattle.ft_model.specs.declared.call.Call.TheVariants as call
use Rattle.ft_model.specs.declared.cursor.Cursor.{Cursor}
use Rattle.ft_model.specs.declared.entry.Entry.{Entry}
use Rattle.ft_model.specs.declared.script.ScriptParts.{ScriptParts}
use Rattle.ft_model.specs.Calls.{containers_of}
use Rattle.ft_model.specs.Worlds.{start_hands, starts_of}
use Rattle.ft_model.specs.Answers.{answer, is_memory, world_by}
use Rattle.ft_model.specs.Boxings.{boxes, boxings, has_boxed}
use Rattle.ft_model.specs.Histories.{entries_of, cursors_of, after_stamped, hands_at, is_marked, sections_at, after_section, world_at, writes}
use Rattle.ft_history.specs.declared.progress.ThreadProgress.{ThreadProgress}
use Rattle.ft_history.specs.Internal.States.{world_before, BegunSection, all_begun, after_begun, section_of, HasBoxed, IsOpen, IsProgress}
use Rattle.ft_history.proofs.HistoryPlaces.{take_next, filter_next, world_at-before, writes_next}
use Rattle.ft_history.proofs.SectionWrites.{sections_next}

-- those that an entry of a history leaves
abbrev pub after_entry : ScriptParts → List Entry → List (Option Cursor) → Entry → List (Option Cursor)
after_entry script entries = after_stamped (starts_of script.containers) (writes entries)

-- ---- open sections

pub sections_alike : (place marks : ℕ) (called : Call) (sections : List BegunSection) → map section_of (after_begun place marks called sections) ≡ after_section place called (map section_of sections)
sections_alike place marks (call.Begin first second) sections = refl
sections_alike place marks call.End sections = sym (drop-map section_of 1 sections)
sections_alike place marks (call.Dict container dict_call) sections = refl
sections_alike place marks (call.List container list_call) sections = refl
sections_alike place marks (call.Set container set_call) sections = refl
sections_alike place marks (call.Deque container deque_call) sections = refl
sections_alike place marks (call.Next cursor) sections = refl
sections_alike place marks call.Quiesce sections = refl
sections_alike place marks (call.Await other index) sections = refl
sections_alike place marks call.Dump sections = refl

module _ (script : ScriptParts) (entries : List Entry) (thread place : ℕ) where
  still_open : (sections : List BegunSection) → AllByRecursion (IsOpen script entries thread place) sections → AllByRecursion (IsOpen script entries thread (place + 1)) sections
  still_open [] is_open = tt
  still_open (section ∷ sections) is_open = (record { before = omega (arith, is_open.0.before); marks = is_open.0.marks; containers = is_open.0.containers }, still_open sections is_open.1)

  open_after : (marks : ℕ) (called : Call) (sections : List BegunSection) → marks ≡ count_by (is_marked thread) (take (place + 1) entries) → All (λ which. which < length script.containers) (containers_of called)
      → AllByRecursion (IsOpen script entries thread place) sections → AllByRecursion (IsOpen script entries thread (place + 1)) (after_begun place marks called sections)
  open_after marks (call.Begin first second) sections count containers is_open = (record { before = omega arith; marks = count; containers = containers }, still_open sections is_open)
  open_after marks call.End [] count containers is_open = tt
  open_after marks call.End (section ∷ sections) count containers is_open = still_open sections is_open.1
  open_after marks (call.Dict container dict_call) sections count containers is_open = still_open sections is_open
  open_after marks (call.List container list_call) sections count containers is_open = still_open sections is_open
  open_after marks (call.Set container set_call) sections count containers is_open = still_open sections is_open
  open_after marks (call.Deque container deque_call) sections count containers is_open = still_open sections is_open
  open_after marks (call.Next cursor) sections count containers is_open = still_open sections is_open
  open_after marks call.Quiesce sections count containers is_open = still_open sections is_open
  open_after marks (call.Await other index) sections count containers is_open = still_open sections is_open
  open_after marks call.Dump sections count containers is_open = still_open sections is_open

-- ---- one entry further

module _ (script : ScriptParts) (entries : List Entry) (place : ℕ) (entry : Entry) (at : slice_get entries place ≡ Some entry) where
  pub entries_of_mine : entries_of entry.thread (take (place + 1) entries) ≡ entries_of entry.thread (take place entries) ++ entry ∷ []
  entries_of_mine = filter_next entries place entry at (λ (e : Entry). eqb e.thread entry.thread) ∙ ap (λ b. entries_of entry.thread (take place entries) ++ cond b (entry ∷ []) []) (eq-eqb entry.thread entry.thread refl)

  pub entries_of_other : (thread : ℕ) → (entry.thread ≢ thread) → entries_of thread (take (place + 1) entries) ≡ entries_of thread (take place entries)
  entries_of_other thread other = filter_next entries place entry at (λ (e : Entry). eqb e.thread thread) ∙ ap (λ b. entries_of thread (take place entries) ++ cond b (entry ∷ []) []) (ne_eqb entry.thread thread other) ∙ append-nil _

  marks_next : (thread : ℕ) → count_by (is_marked thread) (take (place + 1) entries) ≡ count_by (is_marked thread) (take place entries) + cond (is_marked thread entry) 1 0
  marks_next thread = ap (count_by (is_marked thread)) (take_next entries place entry at) ∙ sum_by_push (λ e. cond (is_marked thread e) 1 0) (take place entries) entry

  sections_other : (thread : ℕ) → (entry.thread ≢ thread) → sections_at entries thread (place + 1) ≡ sections_at entries thread place
  sections_other thread other = sections_next entries thread place entry at ∙ ap (λ b. cond b (after_section place entry.call (sections_at entries thread place)) (sections_at entries thread place)) (ne_eqb entry.thread thread other)

  sections_mine : sections_at entries entry.thread (place + 1) ≡ after_section place entry.call (sections_at entries entry.thread place)
  sections_mine = sections_next entries entry.thread place entry at ∙ ap (λ b. cond b (after_section place entry.call (sections_at entries entry.thread place)) (sections_at entries entry.thread place)) (eq-eqb entry.thread entry.thread refl)

  -- the hands that an entry with the right stamp leaves
  pub hands_mine : entry.stamp ≡ length (writes (take place entries)) → hands_at script entries entry.thread (place + 1) ≡ cond (is_memory entry.reply) (hands_at script entries entry.thread place) (answer (world_before script entries place) (hands_at script entries entry.thread place) entry.call).hands
  hands_mine stamp =
      let hands = hands_at script entries entry.thread place in
      ap (fold (after_entry script entries) (start_hands (cursors_of script entry.thread))) entries_of_mine
      ∙ fold_push (after_entry script entries) (start_hands (cursors_of script entry.thread)) (entries_of entry.thread (take place entries)) entry
      ∙ ap (λ world. cond (is_memory entry.reply) hands (answer world hands entry.call).hands) (ap (world_at script entries) stamp ∙ world_at-before script entries place)

  -- the calls of the writes before the next place, and any that follow
  writes_later : (later : List Call) → writes (take place entries) ++ cond entry.wrote (entry.call ∷ []) [] ++ later ≡ writes (take (place + 1) entries) ++ later
  writes_later later = ap (λ (cs : List Call). cs ++ later) (sym (writes_next entries place entry at))

  pub boxed_other : (thread boxed : ℕ) → (entry.thread ≢ thread) → HasBoxed script entries thread place boxed → HasBoxed script entries thread (place + 1) boxed
  boxed_other thread boxed other has = λ later.
      let starts = starts_of script.containers in
      let done = writes (take place entries) in
      let more : List Call = cond entry.wrote (entry.call ∷ []) [] in
      has (more ++ later)
      ∙ ap (λ (cs : List Call). boxings starts cs (entries_of thread (take place entries))) (sym (append_assoc done more later) ∙ writes_later later)
      ∙ ap (boxings starts (writes (take (place + 1) entries) ++ later)) (sym (entries_of_other thread other))

  pub boxed_mine : (before after : ℕ) → HasBoxed script entries entry.thread place before → entry.stamp ≡ length (writes (take place entries)) → after ≡ before + cond (entry.wrote && boxes (world_before script entries place) entry.call) 1 0 → HasBoxed script entries entry.thread (place + 1) after
  boxed_mine before after has stamp goes = λ later.
      let starts = starts_of script.containers in
      let done = writes (take place entries) in
      let mine = entries_of entry.thread (take place entries) in
      let more : List Call = cond entry.wrote (entry.call ∷ []) [] in
      let rest : List Call = more ++ later in
      let all : List Call = done ++ rest in
      let same : all ≡ writes (take (place + 1) entries) ++ later = sym (append_assoc done more later) ∙ writes_later later in
      let here : take entry.stamp all ≡ done = ap (λ n. take n all) stamp ∙ take-append_seam done rest in
      let this : cond {A = ℕ} (has_boxed starts all entry) 1 0 ≡ cond (entry.wrote && boxes (world_before script entries place) entry.call) 1 0 =
      ap (λ (cs : List Call). cond {A = ℕ} (entry.wrote && boxes (world_by starts cs) entry.call) 1 0) here in
      let pushed : boxings starts all (mine ++ entry ∷ []) ≡ boxings starts all mine + cond {A = ℕ} (has_boxed starts all entry) 1 0 =
      sum_by_push (λ (e : Entry). cond (has_boxed starts all e) 1 0) mine entry in
      let count : after ≡ boxings starts all (mine ++ entry ∷ []) = omega (arith, goes, has rest, this, pushed) in
      count
      ∙ ap (λ (cs : List Call). boxings starts cs (mine ++ entry ∷ [])) same
      ∙ ap (boxings starts (writes (take (place + 1) entries) ++ later)) (sym entries_of_mine)

  pub progress_other : (thread : ℕ) (progress : ThreadProgress) → (entry.thread ≢ thread) → IsProgress script entries thread place progress → IsProgress script entries thread (place + 1) progress
  progress_other thread progress other so_far =
      record {
        made = so_far.made ∙ ap length (sym (entries_of_other thread other));
        boxed = boxed_other thread progress.boxed other so_far.boxed;
        marks = so_far.marks ∙ sym (marks_next thread ∙ ap (λ b. count_by (is_marked thread) (take place entries) + cond (b && is_some entry.waited) 1 0) (ne_eqb entry.thread thread other) ∙ omega arith);
        hands = so_far.hands ∙ ap (fold (after_entry script entries) (start_hands (cursors_of script thread))) (sym (entries_of_other thread other));
        sections = sections_other thread other ∙ so_far.sections;
        «open» = still_open script entries thread place (all_begun progress.sections.items) so_far.«open»;
      }

  pub progress_mine : (old new : ThreadProgress) → IsProgress script entries entry.thread place old → entry.stamp ≡ length (writes (take place entries)) → All (λ which. which < length script.containers) (containers_of entry.call)
      → new.made ≡ old.made + 1 → new.marks ≡ old.marks + cond (is_some entry.waited) 1 0
      → new.boxed ≡ old.boxed + cond (entry.wrote && boxes (world_before script entries place) entry.call) 1 0
      → new.hands ≡ cond (is_memory entry.reply) old.hands (answer (world_before script entries place) old.hands entry.call).hands
      → all_begun new.sections.items ≡ after_begun place new.marks entry.call (all_begun old.sections.items)
      → IsProgress script entries entry.thread (place + 1) new
  progress_mine old new so_far stamp containers made marks boxed hands sections =
      let count : new.marks ≡ count_by (is_marked entry.thread) (take (place + 1) entries) =
      marks ∙ ap (λ n. n + cond (is_some entry.waited) 1 0) so_far.marks ∙ sym (marks_next entry.thread ∙ ap (λ b. count_by (is_marked entry.thread) (take place entries) + cond (b && is_some entry.waited) 1 0) (eq-eqb entry.thread entry.thread refl)) in
      record {
        made = made ∙ ap (λ n. n + 1) so_far.made ∙ sym (ap length entries_of_mine ∙ length_push (entries_of entry.thread (take place entries)) entry);
        marks = count;
        boxed = boxed_mine old.boxed new.boxed so_far.boxed stamp boxed;
        hands = hands ∙ ap (λ (hs : List (Option Cursor)). cond (is_memory entry.reply) hs (answer (world_before script entries place) hs entry.call).hands) so_far.hands ∙ sym (hands_mine stamp);
        sections = sections_mine ∙ ap (after_section place entry.call) so_far.sections ∙ sym (ap (map section_of) sections ∙ sections_alike place new.marks entry.call (all_begun old.sections.items));
        «open» = subst (AllByRecursion (IsOpen script entries entry.thread (place + 1))) (sym sections) (open_after script entries entry.thread place new.marks entry.call (all_begun old.sections.items) count containers so_far.«open»);
      }
