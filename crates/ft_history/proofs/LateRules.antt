-- What the judge's tests say of the rules on awaits, marks and sections.
use Rattle.std.proofs.Common.{◌≡◌, ◌≢◌, ◌↔◌, IsTrue, ℕ, ◌+◌, ◌-◌, ◌<◌, ◌≤◌, Bool, true, false, ◌||◌, List, [], ◌∷◌, ◌++◌, map, length, take, drop, Option, Some, refl, sym, ap, subst, ◌∙◌, arith, inl, inr, cond}
use Rattle.std.specs.Prelude.{slice_get, IfSome, All}
use Rattle.std.specs.Option.{option_map_or}
use Rattle.std.specs.List.{list_any, count_by, between, AllByRecursion}
use Rattle.std.proofs.lemmas.List.{take-take}
use Rattle.std.proofs.lemmas.List.Elements.{recursion_from_All}
use Rattle.std.proofs.lemmas.List.Sums.{sum_by-take-drop}
use Rattle.std.proofs.lemmas.Slice.{between_is}
use Rattle.std.proofs.lemmas.Option.{IfSome_then, slice_get_cases}
use Rattle.ft_model.specs.declared.call.Call.{Call}
use Rattle.ft_model.specs.declared.call.Call.TheVariants as call
use Rattle.ft_model.specs.declared.reply.Reply.{Reply}
use Rattle.ft_model.specs.declared.reply.Reply.TheVariants as reply
use Rattle.ft_model.specs.declared.cursor.Cursor.{Cursor}
use Rattle.ft_model.specs.declared.entry.Entry.{Entry}
use Rattle.ft_model.specs.declared.script.ScriptParts.{ScriptParts}
use Rattle.std.specs.Global.{Vec}
use Rattle.ft_model.specs.Worlds.{containers_used}
use Rattle.ft_model.specs.Histories.{Section, innermost, after_section, has_call_on, needs_at, disturbs, is_disturbed, is_marked, marks_between, IfInnermost, IfEnds, IsKeptBy, IsCountedAs, IsCountedBy, IsMarked, IsKept, IsCounted, IsAwaitedIn, IsAwaited}
use Rattle.ft_model.specs.declared.call.Containers.{Containers}
use Rattle.ft_model.specs.Calls.{container_list}
use Rattle.ft_history.specs.declared.progress.ThreadProgress.{ThreadProgress}
use Rattle.ft_history.specs.declared.writers.LastWrites.{LastWrites}
use Rattle.ft_history.specs.declared.state.State.{State}
use Rattle.ft_history.specs.Internal.Steps.{IsState}
use Rattle.ft_history.specs.Internal.States.{BegunSection, is_used, AreUsers, all_begun, after_begun, inner_begun, section_of, IsOpen, IsProgress, AreLastWrites, is_written_since, is_written_on, IsKeptSince, NamesThread, HasMade}
use Rattle.ft_history.proofs.ProgressLemmas.{sections_alike}
use Rattle.ft_history.proofs.LastWriteLemmas.{any_of_containers}

any_alike : {X : Type 0} (p q : X → Bool) (xs : List X) → ((x : X) → p x ≡ q x) → list_any p xs ≡ list_any q xs
any_alike p q [] same = refl
any_alike p q (x ∷ xs) same = λ i. same x i || any_alike p q xs same i

any_alike_on : {X : Type 0} (p q : X → Bool) (xs : List X) → AllByRecursion (λ x. p x ≡ q x) xs → list_any p xs ≡ list_any q xs
any_alike_on p q [] same = refl
any_alike_on p q (x ∷ xs) same = λ i. same.0 i || any_alike_on p q xs same.1 i

-- ---- awaits

module _ (script : ScriptParts) (entries : List Entry) (place : ℕ) (entry : Entry) (state : State) (is_state : IsState script entries place state) where
  made_by : (called : Call) → IsAwaitedIn entries place called → HasMade state.threads.items called
  made_by (call.Await thread index) before =
      elim (slice_get_cases state.threads.items thread).1 [
        | inl found ↦ subst (λ o. IfSome o (λ (p : ThreadProgress). index ≤ p.made)) (sym found.2) (let n : index ≤ found.0.made = (let made = (is_state.progress thread found.0 found.2).made in omega (arith, before, made)) in n)
        | inr past ↦ subst (λ o. IfSome o (λ (p : ThreadProgress). index ≤ p.made)) (sym past.1) tt
      ]
  made_by called before = tt

  awaited_by : (called : Call) → NamesThread (length state.threads.items) called → HasMade state.threads.items called → IsAwaitedIn entries place called
  awaited_by (call.Await thread index) low made =
      elim (slice_get_cases state.threads.items thread).1 [
        | inl found ↦
            let n : index ≤ found.0.made = subst (λ o. IfSome o (λ (p : ThreadProgress). index ≤ p.made)) found.2 made in
            let is = (is_state.progress thread found.0 found.2).made in
            omega (arith, n, is)
        | inr past ↦ absurd (let high = past.0 in omega (arith, low, high))
      ]
  awaited_by called low made = tt

  -- the entry that an await names stands before it where its thread has made it
  pub awaited_iff : (r : Bool) → NamesThread (length state.threads.items) entry.call → IsTrue r ↔ HasMade state.threads.items entry.call → IsTrue r ↔ IsAwaited entries place entry
  awaited_iff r names is = (λ yes. awaited_by entry.call names (is.0 yes), λ awaited. is.1 (made_by entry.call awaited))

-- ---- marks

inner_alike : (sections : List BegunSection) → innermost (map section_of sections) ≡ inner_begun sections
inner_alike [] = refl
inner_alike (section ∷ sections) = refl

pub marked_iff : (script : ScriptParts) (entries : List Entry) (place : ℕ) (entry : Entry) (progress : ThreadProgress) (users : List (Vec Bool)) (own inner : Containers) (r : Bool)
    → AreUsers script users → IsProgress script entries entry.thread place progress → container_list own ≡ containers_used progress.hands entry.call
    → ((at marks : ℕ) → container_list inner ≡ inner_begun (after_begun at marks entry.call (all_begun progress.sections.items)))
    → IsTrue r ↔ IfSome entry.waited (λ thread. (thread ≢ entry.thread) × (list_any (is_used users thread) (container_list own ++ container_list inner) ≡ true)) → IsTrue r ↔ IsMarked script entries place entry
marked_iff script entries place entry progress users own inner r are_users so_far own_is inner_is is =
    let called = entry.call in
    let begun = all_begun progress.sections.items in
    let needs : container_list own ++ container_list inner ≡ needs_at script entries place entry = λ i.
    (own_is ∙ ap (λ (hs : List (Option Cursor)). containers_used hs called) so_far.hands) i
    ++ (inner_is place 0 ∙ sym (inner_alike (after_begun place 0 called begun)) ∙ ap innermost (sections_alike place 0 called begun) ∙ ap (λ (ss : List Section). innermost (after_section place called ss)) (sym so_far.sections)) i in
    let same : (thread : ℕ) → list_any (is_used users thread) (container_list own ++ container_list inner) ≡ list_any (has_call_on script thread) (needs_at script entries place entry) = λ thread.
    any_alike (is_used users thread) (has_call_on script thread) (container_list own ++ container_list inner) (are_users thread) ∙ ap (list_any (has_call_on script thread)) needs in
    (λ yes. IfSome_then entry.waited (is.0 yes) (λ thread both. (both.0, sym (same thread) ∙ both.1)), λ marked. is.1 (IfSome_then entry.waited marked (λ thread both. (both.0, same thread ∙ both.1))))

-- ---- ends

inner_iff : (sections : List BegunSection) (R Q : BegunSection → Type 0) (P : Section → Type 0) → AllByRecursion R sections → ((section : BegunSection) → R section → Q section ↔ P (section_of section))
    → IfInnermost sections Q ↔ IfInnermost (map section_of sections) P
inner_iff [] R Q P each same = (λ _. tt, λ _. tt)
inner_iff (section ∷ sections) R Q P each same = same section each.0

ends_iff : (sections : List BegunSection) (called : Call) (R Q : BegunSection → Type 0) (P : Section → Type 0) → AllByRecursion R sections → ((section : BegunSection) → R section → Q section ↔ P (section_of section))
    → IfEnds sections called Q ↔ IfEnds (map section_of sections) called P
ends_iff sections call.End R Q P each same = inner_iff sections R Q P each same
ends_iff sections (call.Dict container dict_call) R Q P each same = (λ _. tt, λ _. tt)
ends_iff sections (call.List container list_call) R Q P each same = (λ _. tt, λ _. tt)
ends_iff sections (call.Set container set_call) R Q P each same = (λ _. tt, λ _. tt)
ends_iff sections (call.Deque container deque_call) R Q P each same = (λ _. tt, λ _. tt)
ends_iff sections (call.Next cursor) R Q P each same = (λ _. tt, λ _. tt)
ends_iff sections (call.Begin first second) R Q P each same = (λ _. tt, λ _. tt)
ends_iff sections call.Quiesce R Q P each same = (λ _. tt, λ _. tt)
ends_iff sections (call.Await other index) R Q P each same = (λ _. tt, λ _. tt)
ends_iff sections call.Dump R Q P each same = (λ _. tt, λ _. tt)

-- ---- kept

module _ (script : ScriptParts) (entries : List Entry) (place : ℕ) (thread : ℕ) (containers : List LastWrites) (long : length containers ≡ length script.containers) (lasts : (container : ℕ) (last : LastWrites) → slice_get containers container ≡ Some last → AreLastWrites entries place container last) where
  written_alike : (since container : ℕ) → container < length script.containers → list_any (disturbs thread (container ∷ [])) (drop since (take place entries)) ≡ is_written_on containers thread since container
  written_alike since container low =
      elim (slice_get_cases containers container).1 [
        | inl found ↦ (lasts container found.0 found.2).since thread since ∙ sym (ap (λ o. option_map_or (λ (writes : LastWrites). is_written_since writes thread since) o false) found.2)
        | inr past ↦ absurd (omega (arith, past.0))
      ]

  disturbed_alike : (section : BegunSection) → All (λ container. container < length script.containers) section.containers → is_disturbed entries thread place (section_of section) ≡ list_any (is_written_on containers thread (section.begun + 1)) section.containers
  disturbed_alike section within =
      ap (list_any (disturbs thread section.containers)) (between_is entries (section.begun + 1) place) ∙ any_of_containers (drop (section.begun + 1) (take place entries)) thread section.containers
      ∙ any_alike_on (λ container. list_any (disturbs thread (container ∷ [])) (drop (section.begun + 1) (take place entries))) (is_written_on containers thread (section.begun + 1)) section.containers
      (recursion_from_All (λ container. list_any (disturbs thread (container ∷ [])) (drop (section.begun + 1) (take place entries)) ≡ is_written_on containers thread (section.begun + 1) container) section.containers (λ k d low. written_alike (section.begun + 1) _ (within k d low)))

  kept_alike : (said : Reply) (section : BegunSection) → IsOpen script entries thread place section → IsKeptSince containers thread section said ↔ IsKeptBy entries thread place (section_of section) said
  kept_alike reply.Kept section is_open = (λ calm. disturbed_alike section is_open.containers ∙ calm, λ calm. sym (disturbed_alike section is_open.containers) ∙ calm)
  kept_alike reply.Done section is_open = (λ _. tt, λ _. tt)
  kept_alike (reply.Value value) section is_open = (λ _. tt, λ _. tt)
  kept_alike (reply.Pair key value) section is_open = (λ _. tt, λ _. tt)
  kept_alike (reply.Truth b) section is_open = (λ _. tt, λ _. tt)
  kept_alike (reply.Count n) section is_open = (λ _. tt, λ _. tt)
  kept_alike (reply.Dict pairs) section is_open = (λ _. tt, λ _. tt)
  kept_alike (reply.List items) section is_open = (λ _. tt, λ _. tt)
  kept_alike (reply.Set elements) section is_open = (λ _. tt, λ _. tt)
  kept_alike (reply.World world) section is_open = (λ _. tt, λ _. tt)
  kept_alike reply.Stop section is_open = (λ _. tt, λ _. tt)
  kept_alike reply.Entered section is_open = (λ _. tt, λ _. tt)
  kept_alike (reply.Suspended n) section is_open = (λ _. tt, λ _. tt)
  kept_alike (reply.Raised raise) section is_open = (λ _. tt, λ _. tt)

pub kept_iff : (script : ScriptParts) (entries : List Entry) (place : ℕ) (entry : Entry) (progress : ThreadProgress) (containers : List LastWrites) (r : Bool)
    → length containers ≡ length script.containers → ((container : ℕ) (last : LastWrites) → slice_get containers container ≡ Some last → AreLastWrites entries place container last) → IsProgress script entries entry.thread place progress
    → IsTrue r ↔ IfEnds (all_begun progress.sections.items) entry.call (λ section. IsKeptSince containers entry.thread section entry.reply) → IsTrue r ↔ IsKept entries place entry
kept_iff script entries place entry progress containers r long lasts so_far is =
    let ends = ends_iff (all_begun progress.sections.items) entry.call (IsOpen script entries entry.thread place) (λ section. IsKeptSince containers entry.thread section entry.reply) (λ section. IsKeptBy entries entry.thread place section entry.reply) so_far.«open» (kept_alike script entries place entry.thread containers long lasts entry.reply) in
    let P : List Section → Type 0 = λ ss. IfEnds ss entry.call (λ section. IsKeptBy entries entry.thread place section entry.reply) in
    (λ yes. subst P (sym so_far.sections) (ends.0 (is.0 yes)), λ kept. is.1 (ends.1 (subst P so_far.sections kept)))

-- ---- counted

module _ (script : ScriptParts) (entries : List Entry) (place thread marks : ℕ) (count : marks ≡ count_by (is_marked thread) (take place entries)) where
  marks_alike : (section : BegunSection) → IsOpen script entries thread place section → marks_between entries thread place (section_of section) ≡ marks - section.marks
  marks_alike section is_open =
      let start = section.begun + 1 in
      let part : count_by (is_marked thread) (between start place entries) ≡ count_by (is_marked thread) (drop start (take place entries)) = ap (count_by (is_marked thread)) (between_is entries start place) in
      let front : count_by (is_marked thread) (take start (take place entries)) ≡ section.marks = ap (count_by (is_marked thread)) (take-take start place entries (omega (arith, is_open.before))) ∙ sym is_open.marks in
      omega (arith, sum_by-take-drop (λ e. cond (is_marked thread e) 1 0) (take place entries) start)

  counted_alike : (said : Reply) (section : BegunSection) → IsOpen script entries thread place section → IsCountedAs (marks - section.marks) said ↔ IsCountedBy entries thread place (section_of section) said
  counted_alike reply.Kept section is_open = (λ none. marks_alike section is_open ∙ none, λ none. sym (marks_alike section is_open) ∙ none)
  counted_alike (reply.Suspended n) section is_open = (λ some. (some.0, marks_alike section is_open ∙ some.1), λ some. (some.0, sym (marks_alike section is_open) ∙ some.1))
  counted_alike reply.Done section is_open = (λ _. tt, λ _. tt)
  counted_alike (reply.Value value) section is_open = (λ _. tt, λ _. tt)
  counted_alike (reply.Pair key value) section is_open = (λ _. tt, λ _. tt)
  counted_alike (reply.Truth b) section is_open = (λ _. tt, λ _. tt)
  counted_alike (reply.Count n) section is_open = (λ _. tt, λ _. tt)
  counted_alike (reply.Dict pairs) section is_open = (λ _. tt, λ _. tt)
  counted_alike (reply.List items) section is_open = (λ _. tt, λ _. tt)
  counted_alike (reply.Set elements) section is_open = (λ _. tt, λ _. tt)
  counted_alike (reply.World world) section is_open = (λ _. tt, λ _. tt)
  counted_alike reply.Stop section is_open = (λ _. tt, λ _. tt)
  counted_alike reply.Entered section is_open = (λ _. tt, λ _. tt)
  counted_alike (reply.Raised raise) section is_open = (λ _. tt, λ _. tt)

pub counted_iff : (script : ScriptParts) (entries : List Entry) (place : ℕ) (entry : Entry) (progress : ThreadProgress) (r : Bool)
    → IsProgress script entries entry.thread place progress
    → IsTrue r ↔ IfEnds (all_begun progress.sections.items) entry.call (λ section. IsCountedAs (progress.marks - section.marks) entry.reply) → IsTrue r ↔ IsCounted entries place entry
counted_iff script entries place entry progress r so_far is =
    let ends = ends_iff (all_begun progress.sections.items) entry.call (IsOpen script entries entry.thread place) (λ section. IsCountedAs (progress.marks - section.marks) entry.reply) (λ section. IsCountedBy entries entry.thread place section entry.reply) so_far.«open» (counted_alike script entries place entry.thread progress.marks so_far.marks entry.reply) in
    let P : List Section → Type 0 = λ ss. IfEnds ss entry.call (λ section. IsCountedBy entries entry.thread place section entry.reply) in
    (λ yes. subst P (sym so_far.sections) (ends.0 (is.0 yes)), λ counted. is.1 (ends.1 (subst P so_far.sections counted)))
