-- As long as no call in an open section has waited, its thread has the locks of its containers, and no other thread wrote on them.
use Rattle.std.proofs.Common.{◌≡◌, ◌≢◌, ℕ, zero, suc, ◌+◌, ◌<◌, ◌≤◌, Bool, true, false, List, [], ◌∷◌, ◌++◌, drop, map, Option, None, Some, refl, sym, ap, subst, ◌∙◌, arith, cond, inl, inr}
use Rattle.std.specs.Prelude.{slice_get, is_some}
use Rattle.std.specs.List.{list_any, AllByRecursion}
use Rattle.std.proofs.lemmas.Bool.{cases_Bool, or_from, and_left, and_right}
use Rattle.ft_model.specs.declared.call.Call.{Call}
use Rattle.ft_model.specs.declared.call.Call.TheVariants as call
use Rattle.ft_model.specs.declared.entry.Entry.{Entry}
use Rattle.ft_model.specs.Calls.{containers_of}
use Rattle.ft_model.specs.Histories.{Section, after_section, names, disturbs, is_disturbed, is_marked, marks_between}
use Rattle.ft_turns.specs.Orders.{OpenSection, without_locks, sections_after, with_taken}
use Rattle.ft_turns.proofs.LockLemmas.{occ, occ-append, occ_any}
use Rattle.ft_turns.proofs.LocksOnce.{flat, occ-flat}
use Rattle.ft_turns.proofs.PlaceSteps.{AllBelow, marks_next, disturbed_next, disturbed_none, other_unmarked, own_marked, own_undisturbed}

-- each container is one of that many, and its lock is among these
abbrev pub AreHeld : ℕ → List ℕ → List ℕ → Type 0
AreHeld limit containers locks = (container : ℕ) → 1 ≤ occ container containers → (container < limit) × (1 ≤ occ container locks)

-- what is known of a section of which no call has waited; `quiet` says that the call in flight has not
pub record IsUnsuspended (entries : List Entry) (thread place limit : ℕ) (section : Section) (containers locks : List ℕ) : Type 0 where
  pub held : AreHeld limit containers locks
  pub calm : is_disturbed entries thread place section ≡ false

-- the open sections of a thread at a place, beside those of the machine
abbrev pub Secured : List Entry → ℕ → ℕ → ℕ → Type 0 → List Section → List OpenSection → Type 0
Secured entries thread place limit quiet [] [] = Unit {0}
Secured entries thread place limit quiet [] (open_section ∷ open_sections) = ⊥
Secured entries thread place limit quiet (section ∷ sections) [] = ⊥
Secured entries thread place limit quiet (section ∷ sections) (open_section ∷ open_sections) =
    (section.containers ≡ open_section.containers)
    × (marks_between entries thread place section ≡ 0 → quiet → IsUnsuspended entries thread place limit section open_section.containers (flat (open_section ∷ open_sections)))
    × Secured entries thread place limit quiet sections open_sections

-- ---- a call waits

pub blocked : (entries : List Entry) (thread place limit : ℕ) (quiet quiet_after : Type 0) (sections : List Section) (open_sections : List OpenSection)
    → AllByRecursion (λ section. marks_between entries thread place section ≡ 0 → quiet_after → ⊥) sections
    → Secured entries thread place limit quiet sections open_sections → Secured entries thread place limit quiet_after sections (map without_locks open_sections)
blocked entries thread place limit quiet quiet_after [] [] none secured = tt
blocked entries thread place limit quiet quiet_after [] (open_section ∷ open_sections) none secured = secured
blocked entries thread place limit quiet quiet_after (section ∷ sections) [] none secured = secured
blocked entries thread place limit quiet quiet_after (section ∷ sections) (open_section ∷ open_sections) none secured =
    (secured.0, λ unmarked is_quiet. absurd (none.0 unmarked is_quiet), blocked entries thread place limit quiet quiet_after sections open_sections none.1 secured.2)

-- ---- a call finishes

more_held : (limit : ℕ) (containers taken rest own : List ℕ) → AreHeld limit containers (taken ++ rest) → AreHeld limit containers ((taken ++ own) ++ rest)
more_held limit containers taken rest own held container there =
    let before = held container there in
    (before.0, omega (arith, before.1, occ-append container taken rest, occ-append container (taken ++ own) rest, occ-append container taken own))

pub quieter : (entries : List Entry) (thread place limit : ℕ) (quiet quiet_after : Type 0) (sections : List Section) (open_sections : List OpenSection) → (quiet_after → quiet)
    → Secured entries thread place limit quiet sections open_sections → Secured entries thread place limit quiet_after sections open_sections
quieter entries thread place limit quiet quiet_after [] [] less secured = tt
quieter entries thread place limit quiet quiet_after [] (open_section ∷ open_sections) less secured = secured
quieter entries thread place limit quiet quiet_after (section ∷ sections) [] less secured = secured
quieter entries thread place limit quiet quiet_after (section ∷ sections) (open_section ∷ open_sections) less secured =
    (secured.0, λ unmarked is_quiet. secured.1 unmarked (less is_quiet), quieter entries thread place limit quiet quiet_after sections open_sections less secured.2)

pub finished : (entries : List Entry) (thread place limit : ℕ) (quiet quiet_after : Type 0) (own : List ℕ) (sections : List Section) (open_sections : List OpenSection) → (quiet_after → quiet)
    → Secured entries thread place limit quiet sections open_sections → Secured entries thread place limit quiet_after sections (with_taken own open_sections)
finished entries thread place limit quiet quiet_after own [] [] less secured = tt
finished entries thread place limit quiet quiet_after own [] (open_section ∷ open_sections) less secured = secured
finished entries thread place limit quiet quiet_after own (section ∷ sections) [] less secured = secured
finished entries thread place limit quiet quiet_after own (section ∷ sections) (open_section ∷ open_sections) less secured = (
  secured.0,
  λ unmarked is_quiet. (let is : IsUnsuspended entries thread place limit section open_section.containers (open_section.taken ++ flat open_sections) = secured.1 unmarked (less is_quiet) in
      record { held = more_held limit open_section.containers open_section.taken (flat open_sections) own is.held; calm = is.calm }),
  quieter entries thread place limit quiet quiet_after sections open_sections less secured.2,
)

-- ---- an answer is fixed

unmarked_before : (before : ℕ) (mark : Option ℕ) (marked : Bool) → marked ≡ is_some mark → before + cond marked 1 0 ≡ 0 → (before ≡ 0) × (mark ≡ None)
unmarked_before before None marked is none = (omega arith, refl)
unmarked_before before (Some who) marked is none = absurd (let e : before + 1 ≡ 0 = ap (λ b. before + cond b 1 0) (sym is) ∙ none in omega arith)

module _ (entries : List Entry) (place : ℕ) (entry : Entry) (at : slice_get entries place ≡ Some entry) (thread limit : ℕ) where
  -- of the thread itself
  pub own_next : (quiet quiet_after : Type 0) (sections : List Section) (open_sections : List OpenSection) → entry.thread ≡ thread → (entry.waited ≡ None → quiet) → AllBelow place sections
      → Secured entries thread place limit quiet sections open_sections → Secured entries thread (place + 1) limit quiet_after sections open_sections
  own_next quiet quiet_after [] [] mine less below secured = tt
  own_next quiet quiet_after [] (open_section ∷ open_sections) mine less below secured = secured
  own_next quiet quiet_after (section ∷ sections) [] mine less below secured = secured
  own_next quiet quiet_after (section ∷ sections) (open_section ∷ open_sections) mine less below secured = (
    secured.0,
    λ unmarked _. (let parts : (marks_between entries thread place section ≡ 0) × (entry.waited ≡ None) = unmarked_before (marks_between entries thread place section) entry.waited (is_marked thread entry) (own_marked entries place entry at thread mine) (sym (marks_next entries place entry at thread section below.0) ∙ unmarked) in
        let is : IsUnsuspended entries thread place limit section open_section.containers (flat (open_section ∷ open_sections)) = secured.1 parts.0 (less parts.1) in
        record {
          held = is.held;
          calm = disturbed_next entries place entry at thread section below.0 ∙ or_from (is_disturbed entries thread place section) (disturbs thread section.containers entry) is.calm (own_undisturbed entries place entry at thread section.containers mine);
        }),
    own_next quiet quiet_after sections open_sections mine less below.1 secured.2,
  )

  -- of another thread, which wrote on no container whose lock the thread has
  pub other_next : (quiet : Type 0) (sections : List Section) (open_sections : List OpenSection) → entry.thread ≢ thread
      → ((container : ℕ) → container < limit → 1 ≤ occ container (flat open_sections) → entry.wrote ≡ true → names container entry.call ≡ false) → AllBelow place sections
      → Secured entries thread place limit quiet sections open_sections → Secured entries thread (place + 1) limit quiet sections open_sections
  other_next quiet [] [] other spares below secured = tt
  other_next quiet [] (open_section ∷ open_sections) other spares below secured = secured
  other_next quiet (section ∷ sections) [] other spares below secured = secured
  other_next quiet (section ∷ sections) (open_section ∷ open_sections) other spares below secured = (
    secured.0,
    λ unmarked is_quiet. (let same : marks_between entries thread place section ≡ 0 =
        (let e : marks_between entries thread place section + 0 ≡ 0 = ap (λ b. marks_between entries thread place section + cond b 1 0) (sym (other_unmarked entries place entry at thread other)) ∙ sym (marks_next entries place entry at thread section below.0) ∙ unmarked in omega arith) in
        let is : IsUnsuspended entries thread place limit section open_section.containers (flat (open_section ∷ open_sections)) = secured.1 same is_quiet in
        let spared : disturbs thread section.containers entry ≡ false = elim (cases_Bool entry.wrote) [
          | inl wrote ↦ and_right _ (list_any (λ container. names container entry.call) section.containers) (occ_any (λ container. names container entry.call) section.containers (λ container there.
              (let held = is.held container (subst (λ containers. 1 ≤ occ container containers) secured.0 there) in spares container held.0 held.1 wrote)))
          | inr read ↦ and_left _ _ (and_left entry.wrote _ read)
        ] in
        record {
          held = is.held;
          calm = disturbed_next entries place entry at thread section below.0 ∙ or_from (is_disturbed entries thread place section) (disturbs thread section.containers entry) is.calm spared;
        }),
    other_next quiet sections open_sections other (λ container low there wrote. spares container low (omega (arith, there, occ-flat container open_section open_sections)) wrote) below.1 secured.2,
  )

  -- the section that is entered or ended
  pub secured_after : (quiet : Type 0) (called : Call) (own : List ℕ) (sections : List Section) (open_sections : List OpenSection)
      → ((first : ℕ) (second : Option ℕ) → called ≡ call.Begin first second → AreHeld limit (containers_of called) (own ++ flat open_sections))
      → Secured entries thread (place + 1) limit quiet sections open_sections → Secured entries thread (place + 1) limit quiet (after_section place called sections) (sections_after called own open_sections)
  secured_after quiet (call.Begin first second) own sections open_sections begins secured =
      (refl, λ unmarked is_quiet. record { held = begins first second refl; calm = disturbed_none entries place entry at thread (containers_of (call.Begin first second)) }, secured)
  secured_after quiet call.End own [] [] begins secured = tt
  secured_after quiet call.End own [] (open_section ∷ open_sections) begins secured = absurd secured
  secured_after quiet call.End own (section ∷ sections) [] begins secured = absurd secured
  secured_after quiet call.End own (section ∷ sections) (open_section ∷ open_sections) begins secured = secured.2
  secured_after quiet (call.Dict container dict_call) own sections open_sections begins secured = secured
  secured_after quiet (call.List container list_call) own sections open_sections begins secured = secured
  secured_after quiet (call.Set container set_call) own sections open_sections begins secured = secured
  secured_after quiet (call.Deque container deque_call) own sections open_sections begins secured = secured
  secured_after quiet (call.Next cursor) own sections open_sections begins secured = secured
  secured_after quiet call.Quiesce own sections open_sections begins secured = secured
  secured_after quiet (call.Await other index) own sections open_sections begins secured = secured
  secured_after quiet call.Dump own sections open_sections begins secured = secured

  -- ---- the sections that the call in flight stands inside

  abbrev AllMarked : ℕ → List Section → Type 0
  AllMarked n sections = AllByRecursion (λ section. 1 ≤ marks_between entries thread n section) sections

  all_marked : (sections : List Section) → entry.thread ≡ thread → is_some entry.waited ≡ true → AllBelow place sections → AllMarked (place + 1) sections
  all_marked [] mine marked below = tt
  all_marked (section ∷ sections) mine marked below = (
    let e : marks_between entries thread (place + 1) section ≡ marks_between entries thread place section + 1 = marks_next entries place entry at thread section below.0 ∙ ap (λ b. marks_between entries thread place section + cond b 1 0) (own_marked entries place entry at thread mine ∙ marked) in omega arith,
    all_marked sections mine marked below.1,
  )

  drop_marked : (n count : ℕ) (sections : List Section) → AllMarked n sections → AllMarked n (drop count sections)
  drop_marked n zero sections marked = marked
  drop_marked n (suc count) [] marked = tt
  drop_marked n (suc count) (section ∷ sections) marked = drop_marked n count sections marked.1

  pub marked_after : (called : Call) (sections : List Section) → entry.thread ≡ thread → is_some entry.waited ≡ true → AllBelow place sections → AllMarked (place + 1) (drop 1 (after_section place called sections))
  marked_after (call.Begin first second) sections mine marked below = all_marked sections mine marked below
  marked_after call.End sections mine marked below = drop_marked (place + 1) 1 (drop 1 sections) (drop_marked (place + 1) 1 sections (all_marked sections mine marked below))
  marked_after (call.Dict container dict_call) sections mine marked below = drop_marked (place + 1) 1 sections (all_marked sections mine marked below)
  marked_after (call.List container list_call) sections mine marked below = drop_marked (place + 1) 1 sections (all_marked sections mine marked below)
  marked_after (call.Set container set_call) sections mine marked below = drop_marked (place + 1) 1 sections (all_marked sections mine marked below)
  marked_after (call.Deque container deque_call) sections mine marked below = drop_marked (place + 1) 1 sections (all_marked sections mine marked below)
  marked_after (call.Next cursor) sections mine marked below = drop_marked (place + 1) 1 sections (all_marked sections mine marked below)
  marked_after call.Quiesce sections mine marked below = drop_marked (place + 1) 1 sections (all_marked sections mine marked below)
  marked_after (call.Await other index) sections mine marked below = drop_marked (place + 1) 1 sections (all_marked sections mine marked below)
  marked_after call.Dump sections mine marked below = drop_marked (place + 1) 1 sections (all_marked sections mine marked below)

  still_marked : (sections : List Section) → AllBelow place sections → AllMarked place sections → AllMarked (place + 1) sections
  still_marked [] below marked = tt
  still_marked (section ∷ sections) below marked = (let e = marks_next entries place entry at thread section below.0 in let m : 1 ≤ marks_between entries thread place section = marked.0 in omega arith, still_marked sections below.1 marked.1)

  pub drop_still_marked : (sections : List Section) → AllBelow place sections → AllMarked place (drop 1 sections) → AllMarked (place + 1) (drop 1 sections)
  drop_still_marked [] below marked = tt
  drop_still_marked (section ∷ sections) below marked = still_marked sections below.1 marked
