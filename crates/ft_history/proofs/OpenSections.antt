-- The open sections of a thread, given by the entries that began them: where these stand, the list says.
use Rattle.std.proofs.Common.{◌≡◌, ℕ, ◌+◌, ◌<◌, ◌≤◌, true, false, List, [], ◌∷◌, ◌++◌, length, take, drop, Some, refl, sym, ap, subst, ◌∙◌, arith, cond, ◌==◌}
use Rattle.std.specs.Prelude.{slice_get}
use Rattle.std.proofs.lemmas.Bool.{eqb-true}
use Rattle.std.proofs.lemmas.List.{append-nil}
use Rattle.std.proofs.lemmas.List.Sums.{fold_push}
use Rattle.ft_model.specs.declared.call.Call.{Call}
use Rattle.ft_model.specs.declared.call.Call.TheVariants as call
use Rattle.ft_model.specs.declared.entry.Entry.{Entry}
use Rattle.ft_model.specs.Calls.{containers_of, is_changing}
use Rattle.ft_model.specs.Histories.{Section, after_section, sections_at, entries_of, innermost, IfEnds}
use Rattle.ft_model.specs.Numbers.{after_begins, begins_of, begun_containers}
use Rattle.ft_history.proofs.HistoryPlaces.{filter_next, by_places}
use Rattle.ft_history.proofs.SectionWrites.{sections_next}

-- the section was begun by this entry, a call of the thread before the place
pub record IsOpened (entries : List Entry) (thread place : ℕ) (section : Section) (begun : Entry) : Type 0 where
  pub before : section.begun < place
  pub at : slice_get entries section.begun ≡ Some begun
  pub mine : begun.thread ≡ thread
  pub containers : section.containers ≡ containers_of begun.call
  pub quiet : is_changing begun.call ≡ false

-- each of the sections was begun by the entry at its place in the second list
abbrev pub AreOpened : List Entry → ℕ → ℕ → List Section → List Entry → Type 0
AreOpened entries thread place [] [] = Unit {0}
AreOpened entries thread place (section ∷ sections) (begun ∷ begins) = IsOpened entries thread place section begun × AreOpened entries thread place sections begins
AreOpened entries thread place _ _ = ⊥

-- ---- what is open at a place

module _ (entries : List Entry) (thread : ℕ) where
  still_opened : (place : ℕ) (sections : List Section) (begins : List Entry) → AreOpened entries thread place sections begins → AreOpened entries thread (place + 1) sections begins
  still_opened place [] [] opened = tt
  still_opened place [] (begun ∷ begins) opened = opened
  still_opened place (section ∷ sections) [] opened = opened
  still_opened place (section ∷ sections) (begun ∷ begins) opened =
      let is_opened : IsOpened entries thread place section begun = opened.0 in
      (record { before = omega (arith, is_opened.before); at = is_opened.at; mine = is_opened.mine; containers = is_opened.containers; quiet = is_opened.quiet }, still_opened place sections begins opened.1)

  without_innermost : (place : ℕ) (sections : List Section) (begins : List Entry) → AreOpened entries thread place sections begins → AreOpened entries thread place (drop 1 sections) (drop 1 begins)
  without_innermost place [] [] opened = tt
  without_innermost place [] (begun ∷ begins) opened = absurd opened
  without_innermost place (section ∷ sections) [] opened = absurd opened
  without_innermost place (section ∷ sections) (begun ∷ begins) opened = opened.1

  opened_after : (place : ℕ) (entry : Entry) (called : Call) (sections : List Section) (begins : List Entry) → slice_get entries place ≡ Some entry → entry.thread ≡ thread → entry.call ≡ called
      → AreOpened entries thread place sections begins → AreOpened entries thread (place + 1) (after_section place called sections) (after_begins entry called begins)
  opened_after place entry (call.Begin first second) sections begins at mine is opened =
      (record { before = omega arith; at = at; mine = mine; containers = ap containers_of (sym is); quiet = ap is_changing is }, still_opened place sections begins opened)
  opened_after place entry call.End sections begins at mine is opened = still_opened place (drop 1 sections) (drop 1 begins) (without_innermost place sections begins opened)
  opened_after place entry other sections begins at mine is opened = still_opened place sections begins opened

  begins_next : (place : ℕ) (entry : Entry) → slice_get entries place ≡ Some entry →
      begins_of (entries_of thread (take (place + 1) entries)) ≡ cond (entry.thread == thread) (after_begins entry entry.call (begins_of (entries_of thread (take place entries)))) (begins_of (entries_of thread (take place entries)))
  begins_next place entry at =
      let front = entries_of thread (take place entries) in
      ap begins_of (filter_next entries place entry at (λ (e : Entry). e.thread == thread)) ∙
      elim (entry.thread == thread) as (λ b. begins_of (front ++ cond b (entry ∷ []) []) ≡ cond b (after_begins entry entry.call (begins_of front)) (begins_of front)) [
        | true ↦ fold_push (λ begins (e : Entry). after_begins e e.call begins) [] front entry
        | false ↦ ap begins_of (append-nil front)
      ]

  pub are_opened : (place : ℕ) → place ≤ length entries → AreOpened entries thread place (sections_at entries thread place) (begins_of (entries_of thread (take place entries)))
  are_opened =
      by_places (λ n. AreOpened entries thread n (sections_at entries thread n) (begins_of (entries_of thread (take n entries)))) entries tt (λ n entry at opened.
      let sections = sections_at entries thread n in
      let begins = begins_of (entries_of thread (take n entries)) in
      subst (λ ss. AreOpened entries thread (n + 1) ss (begins_of (entries_of thread (take (n + 1) entries)))) (sym (sections_next entries thread n entry at))
      (subst (AreOpened entries thread (n + 1) (cond (entry.thread == thread) (after_section n entry.call sections) sections)) (sym (begins_next n entry at))
      (elim (entry.thread == thread) as (λ b. (entry.thread == thread) ≡ b → AreOpened entries thread (n + 1) (cond b (after_section n entry.call sections) sections) (cond b (after_begins entry entry.call begins) begins)) [
        | true ↦ λ mine. opened_after n entry entry.call sections begins at (eqb-true _ _ mine) refl opened
        | false ↦ λ other. still_opened n sections begins opened
      ] refl)))

-- ---- the sections and their begins

module _ (entries : List Entry) (thread place : ℕ) where
  containers_begun : (sections : List Section) (begins : List Entry) → AreOpened entries thread place sections begins → innermost sections ≡ begun_containers begins
  containers_begun [] [] opened = refl
  containers_begun [] (begun ∷ begins) opened = absurd opened
  containers_begun (section ∷ sections) [] opened = absurd opened
  containers_begun (section ∷ sections) (begun ∷ begins) opened = let is_opened : IsOpened entries thread place section begun = opened.0 in is_opened.containers

  pub containers_begun_after : (entry : Entry) (called : Call) (sections : List Section) (begins : List Entry) → entry.call ≡ called → AreOpened entries thread place sections begins
      → innermost (after_section place called sections) ≡ begun_containers (after_begins entry called begins)
  containers_begun_after entry (call.Begin first second) sections begins is opened = ap containers_of (sym is)
  containers_begun_after entry call.End sections begins is opened = containers_begun (drop 1 sections) (drop 1 begins) (without_innermost entries thread place sections begins opened)
  containers_begun_after entry called sections begins is opened = containers_begun sections begins opened

  -- what holds of the `begin` of the section that an `end` ends holds of the section
  pub ended_by_begin : (P : Entry → Type 0) (Q : Section → Type 0) → ((section : Section) (begun : Entry) → IsOpened entries thread place section begun → P begun → Q section)
      → (called : Call) (sections : List Section) (begins : List Entry) → AreOpened entries thread place sections begins → IfEnds begins called P → IfEnds sections called Q
  ended_by_begin P Q moves call.End [] begins opened holds = tt
  ended_by_begin P Q moves call.End (section ∷ sections) [] opened holds = absurd opened
  ended_by_begin P Q moves call.End (section ∷ sections) (begun ∷ begins) opened holds = moves section begun opened.0 holds
  ended_by_begin P Q moves called [] begins opened holds = tt
  ended_by_begin P Q moves called (section ∷ sections) begins opened holds = tt

  -- and the other way round
  pub begin_of_ended : (P : Entry → Type 0) (Q : Section → Type 0) → ((section : Section) (begun : Entry) → IsOpened entries thread place section begun → Q section → P begun)
      → (called : Call) (sections : List Section) (begins : List Entry) → AreOpened entries thread place sections begins → IfEnds sections called Q → IfEnds begins called P
  begin_of_ended P Q moves call.End sections [] opened holds = tt
  begin_of_ended P Q moves call.End [] (begun ∷ begins) opened holds = absurd opened
  begin_of_ended P Q moves call.End (section ∷ sections) (begun ∷ begins) opened holds = moves section begun opened.0 holds
  begin_of_ended P Q moves called sections [] opened holds = tt
  begin_of_ended P Q moves called sections (begun ∷ begins) opened holds = tt

-- ---- the same begins in two lists

module _ (one other : List Entry) (thread place place' : ℕ) where
  same_innermost : (sections sections' : List Section) (begins : List Entry) → AreOpened one thread place sections begins → AreOpened other thread place' sections' begins → innermost sections ≡ innermost sections'
  same_innermost [] [] begins opened opened' = refl
  same_innermost [] (section' ∷ sections') [] opened opened' = absurd opened'
  same_innermost [] (section' ∷ sections') (begun ∷ begins) opened opened' = absurd opened
  same_innermost (section ∷ sections) [] [] opened opened' = absurd opened
  same_innermost (section ∷ sections) [] (begun ∷ begins) opened opened' = absurd opened'
  same_innermost (section ∷ sections) (section' ∷ sections') [] opened opened' = absurd opened
  same_innermost (section ∷ sections) (section' ∷ sections') (begun ∷ begins) opened opened' =
      let is_opened : IsOpened one thread place section begun = opened.0 in
      let is_opened' : IsOpened other thread place' section' begun = opened'.0 in
      is_opened.containers ∙ sym is_opened'.containers

  pub same_innermost_after : (called : Call) (sections sections' : List Section) (begins : List Entry) → AreOpened one thread place sections begins → AreOpened other thread place' sections' begins
      → innermost (after_section place called sections) ≡ innermost (after_section place' called sections')
  same_innermost_after (call.Begin first second) sections sections' begins opened opened' = refl
  same_innermost_after call.End sections sections' begins opened opened' =
      same_innermost (drop 1 sections) (drop 1 sections') (drop 1 begins) (without_innermost one thread place sections begins opened) (without_innermost other thread place' sections' begins opened')
  same_innermost_after called sections sections' begins opened opened' = same_innermost sections sections' begins opened opened'

  -- what holds of the section that an `end` ends in one list holds of it in the other
  pub same_ended : (P Q : Section → Type 0) → ((section section' : Section) (begun : Entry) → IsOpened one thread place section begun → IsOpened other thread place' section' begun → P section → Q section')
      → (called : Call) (sections sections' : List Section) (begins : List Entry) → AreOpened one thread place sections begins → AreOpened other thread place' sections' begins → IfEnds sections called P → IfEnds sections' called Q
  same_ended P Q moves call.End sections [] begins opened opened' holds = tt
  same_ended P Q moves call.End [] (section' ∷ sections') [] opened opened' holds = absurd opened'
  same_ended P Q moves call.End [] (section' ∷ sections') (begun ∷ begins) opened opened' holds = absurd opened
  same_ended P Q moves call.End (section ∷ sections) (section' ∷ sections') [] opened opened' holds = absurd opened
  same_ended P Q moves call.End (section ∷ sections) (section' ∷ sections') (begun ∷ begins) opened opened' holds = moves section section' begun opened.0 opened'.0 holds
  same_ended P Q moves called sections [] begins opened opened' holds = tt
  same_ended P Q moves called sections (section' ∷ sections') begins opened opened' holds = tt
