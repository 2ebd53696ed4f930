-- The open sections of a thread, and who wrote on their containers.
use Rattle.std.proofs.Common.{◌≡◌, ℕ, ◌+◌, ◌-◌, ◌<◌, ◌≤◌, true, false, List, [], ◌∷◌, ◌++◌, length, take, drop, get_or, Some, refl, sym, ap, subst, ◌∙◌, arith, cond, ◌==◌, Option}
use Rattle.std.specs.List.{enumerate_from, fold, AllByRecursion, Contains, between, list_any}
use Rattle.std.specs.Prelude.{slice_get}
use Rattle.std.proofs.lemmas.Bool.{eqb-true, eq-eqb, ne_eqb, false≢true}
use Rattle.std.proofs.lemmas.List.{length-take-le, get_or-drop, get_or-take, length-drop, length-take}
use Rattle.std.proofs.lemmas.List.Folds.{list_any_at}
use Rattle.std.proofs.lemmas.List.Sums.{fold_push}
use Rattle.std.proofs.lemmas.Slice.{between_is}
use Rattle.std.proofs.lemmas.Option.{slice_get_within, get_or_from_slice_get}
use Rattle.ft_model.specs.declared.call.Call.{Call}
use Rattle.ft_model.specs.declared.call.Call.TheVariants as call
use Rattle.ft_model.specs.declared.entry.Entry.{Entry}
use Rattle.ft_model.specs.Calls.{containers_of}
use Rattle.ft_model.specs.Histories.{Section, after_section, after_numbered, sections_at, disturbs, is_disturbed}
use Rattle.ft_history.specs.HistoryLaws.{IsUntouchedBetween}
use Rattle.ft_history.proofs.HistoryPlaces.{take_next, by_places}

-- the section was begun by a `begin` of the thread on its containers, before the place (profile)
pub record IsBegunBefore (entries : List Entry) (thread place : ℕ) (section : Section) : Type 0 where
  pub before : section.begun < place
  pub entry : Entry
  pub at : slice_get entries section.begun ≡ Some entry
  pub mine : entry.thread ≡ thread
  pub first : ℕ
  pub second : Option ℕ
  pub call : entry.call ≡ call.Begin first second
  pub containers : section.containers ≡ containers_of entry.call

-- ---- one entry further

enumerate_push : {X : Type 0} (from : ℕ) (xs : List X) (x : X) → enumerate_from from (xs ++ x ∷ []) ≡ enumerate_from from xs ++ (from + length xs, x) ∷ []
enumerate_push {X} from [] x = ap (λ n. let both : ℕ × X = (n, x) in both ∷ []) (omega arith)
enumerate_push {X} from (y ∷ xs) x = ap (λ (rest : List (ℕ × X)). (from, y) ∷ rest) (enumerate_push (from + 1) xs x ∙ ap (λ n. let both : ℕ × X = (n, x) in enumerate_from (from + 1) xs ++ both ∷ []) (omega arith))

pub sections_next : (entries : List Entry) (thread place : ℕ) (entry : Entry) → slice_get entries place ≡ Some entry → sections_at entries thread (place + 1) ≡ after_numbered thread (sections_at entries thread place) (place, entry)
sections_next entries thread place entry at =
    let low : place < length entries = slice_get_within entries place entry at in
    ap (λ (es : List Entry). fold (after_numbered thread) [] (enumerate_from 0 es)) (take_next entries place entry at)
    ∙ ap (fold (after_numbered thread) []) (enumerate_push 0 (take place entries) entry)
    ∙ fold_push (after_numbered thread) [] (enumerate_from 0 (take place entries)) (0 + length (take place entries), entry)
    ∙ ap (λ n. let both : ℕ × Entry = (n, entry) in after_numbered thread (sections_at entries thread place) both) (let e : 0 + length (take place entries) ≡ place = omega (arith, length-take-le place entries (omega arith)) in e)

-- ---- begun

abbrev AreBegun : List Entry → ℕ → ℕ → List Section → Type 0
AreBegun entries thread place sections = AllByRecursion (IsBegunBefore entries thread place) sections

pub begun_longer : (entries : List Entry) (thread place : ℕ) (section : Section) → IsBegunBefore entries thread place section → IsBegunBefore entries thread (place + 1) section
begun_longer entries thread place section is =
    record { before = omega (arith, is.before); entry = is.entry; at = is.at; mine = is.mine; first = is.first; second = is.second; call = is.call; containers = is.containers }

still_begun : (entries : List Entry) (thread place : ℕ) (sections : List Section) → AreBegun entries thread place sections → AreBegun entries thread (place + 1) sections
still_begun entries thread place [] begun = tt
still_begun entries thread place (section ∷ sections) begun = (begun_longer entries thread place section begun.0, still_begun entries thread place sections begun.1)

begun_after : (entries : List Entry) (thread place : ℕ) (entry : Entry) (called : Call) (sections : List Section) → slice_get entries place ≡ Some entry → entry.thread ≡ thread → entry.call ≡ called → AreBegun entries thread place sections → AreBegun entries thread (place + 1) (after_section place called sections)
begun_after entries thread place entry (call.Begin first second) sections at mine is begun =
    (record { before = omega arith; entry = entry; at = at; mine = mine; first = first; second = second; call = is; containers = ap containers_of (sym is) }, still_begun entries thread place sections begun)
begun_after entries thread place entry call.End [] at mine is begun = tt
begun_after entries thread place entry call.End (section ∷ sections) at mine is begun = still_begun entries thread place sections begun.1
begun_after entries thread place entry (call.Dict container dict_call) sections at mine is begun = still_begun entries thread place sections begun
begun_after entries thread place entry (call.List container list_call) sections at mine is begun = still_begun entries thread place sections begun
begun_after entries thread place entry (call.Set container set_call) sections at mine is begun = still_begun entries thread place sections begun
begun_after entries thread place entry (call.Deque container deque_call) sections at mine is begun = still_begun entries thread place sections begun
begun_after entries thread place entry (call.Next cursor) sections at mine is begun = still_begun entries thread place sections begun
begun_after entries thread place entry call.Quiesce sections at mine is begun = still_begun entries thread place sections begun
begun_after entries thread place entry (call.Await other index) sections at mine is begun = still_begun entries thread place sections begun
begun_after entries thread place entry call.Dump sections at mine is begun = still_begun entries thread place sections begun

pub sections_begun : (entries : List Entry) (thread place : ℕ) → place ≤ length entries → AreBegun entries thread place (sections_at entries thread place)
sections_begun entries thread =
    by_places (λ n. AreBegun entries thread n (sections_at entries thread n)) entries tt (λ n entry at begun.
    subst (AreBegun entries thread (n + 1)) (sym (sections_next entries thread n entry at))
    (elim (entry.thread == thread) as (λ b. (entry.thread == thread) ≡ b → AreBegun entries thread (n + 1) (cond b (after_section n entry.call (sections_at entries thread n)) (sections_at entries thread n))) [
      | true ↦ λ mine. begun_after entries thread n entry entry.call (sections_at entries thread n) at (eqb-true _ _ mine) refl begun
      | false ↦ λ other. still_begun entries thread n (sections_at entries thread n) begun
    ] refl))

-- ---- untouched

any_contained : (containers named : List ℕ) (container : ℕ) → Contains containers container → Contains named container → list_any (λ o. list_any (λ n. n == o) named) containers ≡ true
any_contained containers named container held written =
    list_any_at (λ o. list_any (λ n. n == o) named) containers held.0 container held.1
    (ap (λ o. list_any (λ n. n == o) named) held.2 ∙ list_any_at (λ n. n == container) named written.0 container written.1 (ap (λ n. n == container) written.2 ∙ eq-eqb container container refl))

pub untouched : (entries : List Entry) (thread ended : ℕ) (section : Section) → is_disturbed entries thread ended section ≡ false → IsUntouchedBetween entries thread section.begun ended section.containers
untouched entries thread ended section calm place entry container after before at wrote other held written =
    let low : place < length entries = slice_get_within entries place entry at in
    let start = section.begun + 1 in
    let part = between start ended entries in
    let is : part ≡ drop start (take ended entries) = between_is entries start ended in
    let there : get_or part (place - start) entry ≡ entry =
    ap (λ (es : List Entry). get_or es (place - start) entry) is ∙ get_or-drop start (take ended entries) (place - start) entry
    ∙ ap (λ n. get_or (take ended entries) n entry) (let e : start + (place - start) ≡ place = omega arith in e)
    ∙ get_or-take ended entries place entry before ∙ get_or_from_slice_get entries place entry entry at in
    let within : place - start < length part = omega (arith, ap length is, length-drop start (take ended entries), length-take ended entries) in
    let test : disturbs thread section.containers entry ≡ true = simp (wrote, ne_eqb entry.thread thread other, any_contained section.containers (containers_of entry.call) container held written) in
    false≢true (sym calm ∙ list_any_at (disturbs thread section.containers) part (place - start) entry within (ap (disturbs thread section.containers) there ∙ test))
