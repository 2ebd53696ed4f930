-- What a call that waits, one that is answered and one that finishes make of the stack of a thread.
use Rattle.std.proofs.Common.{◌≡◌, ◌≢◌, ℕ, ◌+◌, Bool, true, false, List, [], ◌∷◌, ◌++◌, drop, map, reverse, cond, Option, None, Some, refl, sym, ap, subst, ◌∙◌, arith, inl, inr}
use Rattle.std.specs.Prelude.{◌⊎◌, ◌&&◌, ◌||◌, ◌==◌, is_some, if◌then◌else◌}
use Rattle.std.proofs.lemmas.Bool.{cases_eq, ne_eqb}
use Rattle.ft_model.specs.declared.call.Call.{Call}
use Rattle.ft_model.specs.declared.call.Call.TheVariants as call
use Rattle.ft_model.specs.Calls.{containers_of}
use Rattle.ft_bank.specs.declared.sections.OpenSection.{OpenSection}
use Rattle.ft_bank.specs.declared.sections.Taking.{Taking}
use Rattle.ft_bank.specs.PassSections.{Stack, nothing_taken, suspended, taken_in}
use Rattle.ft_section.specs.Locking.{TakenUp, at_one, first_mark, marks_more, noting, waiting}
use Rattle.ft_section.specs.Locking.{with_own as keeping}
use Rattle.ft_turns.specs.Orders.{Locking, OpenSection as TurnSection, ThreadState, answered_thread, finished_thread, lower_first, sections_after, waiting_thread, with_locking, with_taken, without_locks}
use Rattle.ft_turns.proofs.LockLemmas.{occ-append}
use Rattle.ft_turn_laws.specs.Placings.{pair_of, times}
use Rattle.ft_turn_laws.specs.MatchingStacks.{AreAsSections, IsAsStack}
use Rattle.ft_turn_laws.proofs.MachineSections.{all_suspended, last_or_none, reverse_map, reverse_push}
use Rattle.ft_turn_laws.proofs.Taking.{times_occ}

pub times-append : (o : ℕ) (xs ys : List ℕ) → times o (xs ++ ys) ≡ times o xs + times o ys
times-append o xs ys = omega (arith, times_occ o (xs ++ ys), times_occ o xs, times_occ o ys, occ-append o xs ys)

-- ---- a call waits

times_if : (r lower : ℕ) (b : Bool) → times r (if b then [] else lower ∷ []) ≡ (if b then 0 else at_one lower r)
times_if r lower true = refl
times_if r lower false = omega arith

same_mark : (mark : Option ℕ) (q : ℕ) → (if is_some mark then mark else Some q) ≡ Some (first_mark mark q)
same_mark None q = refl
same_mark (Some first) q = refl

pub waits : (state : ThreadState) (s t : Stack) (locking : Locking) (lower c q : ℕ) (has_lower : Bool)
    → IsAsStack state s → t ≡ waiting (keeping s t.own) q
    → ((r : ℕ) → taken_in r t.own ≡ taken_in r s.own + (if (c == lower) || has_lower then 0 else at_one lower r))
    → locking.taken ≡ (if (c == lower) || has_lower then [] else lower ∷ [])
    → IsAsStack (waiting_thread (with_locking state locking) q) t
waits state s t locking lower c q has_lower same is kept took =
    record {
      sections = subst (AreAsSections (map without_locks state.sections))
          (sym (ap (λ (u : Stack). reverse u.sections) is ∙ reverse_map (suspended (marks_more s.mark)) s.sections))
          (all_suspended (marks_more s.mark) state.sections (reverse s.sections) same.sections);
      own = λ r.
          let more : times r locking.taken ≡ (if (c == lower) || has_lower then 0 else at_one lower r) = ap (times r) took ∙ times_if r lower ((c == lower) || has_lower) in
          omega (arith, times-append r state.own locking.taken, same.own r, kept r, more);
      mark = ap (λ (m : Option ℕ). if is_some m then m else Some q) same.mark ∙ (same_mark s.mark q ∙ sym (ap (λ (u : Stack). u.mark) is));
    }

-- ---- the locks of the innermost section

and_none : (b : Bool) → (b && false) ≡ false
and_none true = refl
and_none false = refl

-- another container's lock was not taken so
pub taken_out : (o : ℕ) (k : Taking) → o ≢ k.lower → o ≢ k.upper → taken_in o k ≡ 0
taken_out o k above below =
    let lower : (k.took_lower && (k.lower == o)) ≡ false = ap (λ b. k.took_lower && b) (ne_eqb k.lower o (λ e. above (sym e))) ∙ and_none k.took_lower in
    let upper : (k.took_upper && (k.upper == o)) ≡ false = ap (λ b. k.took_upper && b) (ne_eqb k.upper o (λ e. below (sym e))) ∙ and_none k.took_upper in
    let sum : taken_in o k ≡ cond false 1 0 + cond false 1 0 = ap (λ b. (if b then 1 else 0) + (if k.took_upper && (k.upper == o) then 1 else 0)) lower ∙ ap (λ b. 0 + (if b then 1 else 0)) upper in
    omega arith

-- where both have the locks of these containers, and the outer sections the same, the innermost one has taken the same
pub same_taken : (taken : List ℕ) (k : Taking) (outer : ℕ → ℕ)
    → ((o : ℕ) → (o ≡ k.lower) ⊎ (o ≡ k.upper) → (times o taken + outer o ≡ 1) × (taken_in o k + outer o ≡ 1))
    → ((o : ℕ) → o ≢ k.lower → o ≢ k.upper → times o taken ≡ 0)
    → (o : ℕ) → times o taken ≡ taken_in o k
same_taken taken k outer both none o =
    elim (cases_eq o k.lower) [
      | inl lower ↦ let e = both o (inl lower) in omega (arith, e.0, e.1)
      | inr above ↦ elim (cases_eq o k.upper) [
        | inl upper ↦ let e = both o (inr upper) in omega (arith, e.0, e.1)
        | inr below ↦ none o above below ∙ sym (taken_out o k above below)
      ]
    ]

-- ---- a call is answered

pub begins : (state : ThreadState) (s t : Stack) (locking : Locking) (own : Taking) (first : ℕ) (second : Option ℕ)
    → IsAsStack state s → t ≡ record s { sections = s.sections ++ record { locks = own; marks = 0 } ∷ []; own = nothing_taken }
    → lower_first (containers_of (call.Begin first second)) ≡ pair_of own.lower own.upper
    → ((o : ℕ) → times o (state.own ++ locking.taken) ≡ taken_in o own)
    → IsAsStack (answered_thread (with_locking state locking) (call.Begin first second)) t
begins state s t locking own first second same is containers took =
    record {
      sections = subst (AreAsSections (record { containers = containers_of (call.Begin first second); taken = state.own ++ locking.taken } ∷ state.sections))
          (sym (ap (λ (u : Stack). reverse u.sections) is ∙ reverse_push s.sections (record { locks = own; marks = 0 })))
          (record { containers = containers; taken = took }, same.sections);
      own = λ o. sym (ap (λ (u : Stack). taken_in o u.own) is);
      mark = same.mark ∙ sym (ap (λ (u : Stack). u.mark) is);
    }

-- what follows the innermost section
tail_same : (sections : List TurnSection) (k : OpenSection) (kept : List OpenSection) → AreAsSections sections (k ∷ kept) → AreAsSections (drop 1 sections) kept
tail_same [] k kept same = absurd same
tail_same (section ∷ sections) k kept same = same.1

pub ends : (state : ThreadState) (s t : Stack) (locking : Locking) (outer : List OpenSection) (top : OpenSection)
    → IsAsStack state s → s.sections ≡ outer ++ top ∷ [] → t ≡ record s { sections = outer } → ((o : ℕ) → taken_in o s.own ≡ 0)
    → IsAsStack (answered_thread (with_locking state locking) call.End) t
ends state s t locking outer top same cut is none =
    record {
      sections = subst (AreAsSections (drop 1 state.sections)) (sym (ap (λ (u : Stack). reverse u.sections) is))
          (tail_same state.sections top (reverse outer) (subst (AreAsSections state.sections) (ap reverse cut ∙ reverse_push outer top) same.sections));
      own = λ o. sym (ap (λ (u : Stack). taken_in o u.own) is ∙ none o);
      mark = same.mark ∙ sym (ap (λ (u : Stack). u.mark) is);
    }

-- a call that leaves the sections
pub answers : (state : ThreadState) (s t : Stack) (locking : Locking) (called : Call)
    → sections_after called (state.own ++ locking.taken) state.sections ≡ state.sections
    → IsAsStack state s → t ≡ keeping s nothing_taken
    → IsAsStack (answered_thread (with_locking state locking) called) t
answers state s t locking called stays same is =
    record {
      sections = subst (λ sections. AreAsSections sections (reverse t.sections)) (sym stays)
          (subst (AreAsSections state.sections) (sym (ap (λ (u : Stack). reverse u.sections) is)) same.sections);
      own = λ o. sym (ap (λ (u : Stack). taken_in o u.own) is);
      mark = same.mark ∙ sym (ap (λ (u : Stack). u.mark) is);
    }

-- ---- a call finishes

no_sections : (sections : List TurnSection) (kept : List OpenSection) → kept ≡ [] → AreAsSections sections kept → sections ≡ []
no_sections [] kept none same = refl
no_sections (section ∷ sections) [] none same = absurd same
no_sections (section ∷ sections) (k ∷ kept) none same = absurd cc

-- the sections with what was taken again, where the innermost one is this one of the pass
with_taken_same : (taken : List ℕ) (sections : List TurnSection) (k after : OpenSection) (kept : List OpenSection)
    → AreAsSections sections (k ∷ kept) → (after.locks.lower ≡ k.locks.lower) × (after.locks.upper ≡ k.locks.upper)
    → ((section : TurnSection) (rest : List TurnSection) → sections ≡ section ∷ rest → (o : ℕ) → times o (section.taken ++ taken) ≡ taken_in o after.locks)
    → AreAsSections (with_taken taken sections) (after ∷ kept)
with_taken_same taken [] k after kept same at took = absurd same
with_taken_same taken (section ∷ sections) k after kept same at took =
    (record { containers = same.0.containers ∙ (ap (λ o. pair_of o k.locks.upper) (sym at.0) ∙ ap (pair_of after.locks.lower) (sym at.1)); taken = took section sections refl }, same.1)

pub finishes : (state : ThreadState) (s t : Stack) (locking : Locking)
    → IsAsStack state s → TakenUp s t
    → ((outer : List OpenSection) (top after : OpenSection) → s.sections ≡ outer ++ top ∷ [] → t.sections ≡ outer ++ after ∷ []
    → (after.locks.lower ≡ top.locks.lower) × (after.locks.upper ≡ top.locks.upper)
    → (section : TurnSection) (rest : List TurnSection) → state.sections ≡ section ∷ rest → (o : ℕ) → times o (section.taken ++ (state.own ++ locking.taken)) ≡ taken_in o after.locks)
    → IsAsStack (finished_thread (with_locking state locking)) t
finishes state s t locking same up took =
    record {
      sections = elim (last_or_none s.sections) [
        | inl none ↦
            subst (λ sections. AreAsSections (with_taken (state.own ++ locking.taken) sections) (reverse t.sections)) (sym (no_sections state.sections (reverse s.sections) (ap reverse none) same.sections))
            (subst (λ (kept : List OpenSection). AreAsSections [] (reverse kept)) (sym (up.none none)) tt)
        | inr cut ↦
            let after = up.top cut.0 cut.1 cut.2 in
            let top = noting after.0 after.1 cut.1 in
            subst (AreAsSections (with_taken (state.own ++ locking.taken) state.sections)) (sym (ap reverse after.2 ∙ reverse_push cut.0 top))
            (with_taken_same (state.own ++ locking.taken) state.sections cut.1 top (reverse cut.0)
            (subst (AreAsSections state.sections) (ap reverse cut.2 ∙ reverse_push cut.0 cut.1) same.sections) (refl, refl)
            (took cut.0 cut.1 top cut.2 after.2 (refl, refl)))
      ];
      own = λ o. sym (ap (taken_in o) up.own);
      mark = sym up.mark;
    }
