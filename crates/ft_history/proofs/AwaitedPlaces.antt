-- Awaits by the numbers of writes, and by their places in the order of a history.
use Rattle.std.proofs.Common.{◌≡◌, ℕ, ◌+◌, ◌-◌, ◌<◌, ◌≤◌, true, false, List, length, take, get_or, drop, Some, refl, sym, ap, subst, ◌∙◌, arith, cond, ◌==◌, inl, inr}
use Rattle.std.specs.List.{All, filter}
use Rattle.std.specs.List.Sorted.{IsSorted}
use Rattle.std.specs.Ordering.{is_lt}
use Rattle.std.specs.Prelude.{slice_get}
use Rattle.std.proofs.lemmas.Bool.{cases_order, eqb-true, false≢true}
use Rattle.std.proofs.lemmas.Bool.Decides.{nat_tests}
use Rattle.std.proofs.lemmas.List.{length-append, length-map, take-take}
use Rattle.std.proofs.lemmas.List.Elements.{filter_passes}
use Rattle.std.proofs.lemmas.List.Sorted.{sorted_far}
use Rattle.std.proofs.lemmas.Option.{get_or_from_slice_get, slice_get-get_or, slice_get_within}
use Rattle.ft_model.specs.declared.call.Call.{Call}
use Rattle.ft_model.specs.declared.call.Call.TheVariants as call
use Rattle.ft_model.specs.declared.entry.Entry.{Entry}
use Rattle.ft_model.specs.declared.script.ScriptParts.{ScriptParts}
use Rattle.ft_model.specs.Answers.{is_write}
use Rattle.ft_model.specs.Histories.{history_cmp, entries_of, calls_of, EachAt, IsWhole, IsAwaitedIn, IsAwaited}
use Rattle.ft_model.specs.Numbers.{KnowsAwaited, number_after}
use Rattle.ft_model.specs.Scripts.{IsAwaitOf, IsScript}
use Rattle.ft_history.proofs.HistoryOrder.{history_ranks}
use Rattle.ft_history.proofs.HistoryPlaces.{filter_parts}
use Rattle.ft_history.proofs.RightEntries.{passed_from, stamps_rise}
use Rattle.ft_history.proofs.ScriptLemmas.{await_at, named_call}
use Rattle.ft_history.proofs.StampedLists.{AreStamped, index_is, mine_through}

-- each await of a list knows of the call that it names
abbrev pub AreKnown : List Entry → Type 0
AreKnown entries = EachAt entries (λ place entry. KnowsAwaited (λ thread. entries_of thread entries) entry entry.call)

pub known_all : (entries : List Entry) → All (λ entry. KnowsAwaited (λ thread. entries_of thread entries) entry entry.call) entries → AreKnown entries
known_all entries known place entry at =
    subst (λ (e : Entry). KnowsAwaited (λ thread. entries_of thread entries) e e.call) (get_or_from_slice_get entries place entry entry at) (known place entry (slice_get_within entries place entry at))

-- what it knows is by the entries of each thread alone
pub known_alike : (one other : List Entry) → ((thread : ℕ) → entries_of thread one ≡ entries_of thread other) → (entry : Entry)
    → KnowsAwaited (λ thread. entries_of thread one) entry entry.call → KnowsAwaited (λ thread. entries_of thread other) entry entry.call
known_alike one other same entry knows = subst (λ (made : ℕ → List Entry). KnowsAwaited made entry entry.call) (λ i thread. same thread i) knows

-- a read that knows of all writes that there were after an entry of an earlier thread stands after it
goes_first : (a b : Entry) → number_after a ≤ b.stamp → b.wrote ≡ false → a.thread < b.thread → is_lt (history_cmp a b) ≡ true
goes_first a b low read earlier = grind (arith, nat_tests)

-- how many entries of a thread stand before a place
count_up : (entries : List Entry) (thread i j : ℕ) → i ≤ j → length (entries_of thread (take i entries)) ≤ length (entries_of thread (take j entries))
count_up entries thread i j low =
    let mine = λ (e : Entry). e.thread == thread in
    let parts : length (filter mine (take j entries)) ≡ length (filter mine (take i (take j entries))) + length (filter mine (drop i (take j entries))) =
    ap length (filter_parts mine (take j entries) i) ∙ length-append (filter mine (take i (take j entries))) (filter mine (drop i (take j entries))) in
    let front : length (filter mine (take i (take j entries))) ≡ length (filter mine (take i entries)) = ap (λ (es : List Entry). length (filter mine es)) (take-take i j entries low) in
    omega (arith, parts, front)

-- how many writes there are after an entry
after_is : (a : Entry) (n : ℕ) → a.stamp + cond a.wrote 1 0 ≤ n → number_after a ≤ n
after_is a n low =
    elim a.wrote as (λ v. a.stamp + cond {A = ℕ} v 1 0 ≤ n → cond {A = ℕ} v (a.stamp + 1) a.stamp ≤ n) [
      | true ↦ λ is. omega (arith, is)
      | false ↦ λ is. omega (arith, is)
    ] low

module _ (script : ScriptParts) (entries : List Entry) (whole : IsWhole script entries) where
  -- an entry by its place among its thread's
  mine_up_to : (thread place : ℕ) (entry : Entry) → slice_get entries place ≡ Some entry → entry.thread ≡ thread → length (entries_of thread (take (place + 1) entries)) ≡ length (entries_of thread (take place entries)) + 1
  mine_up_to thread place entry at mine =
      subst (λ t. length (entries_of t (take (place + 1) entries)) ≡ length (entries_of t (take place entries)) + 1) mine
      (mine_through script entries whole place entry at ∙ sym (index_is script entries whole place entry at))

  own_thread : (thread k : ℕ) (entry : Entry) → slice_get (entries_of thread entries) k ≡ Some entry → entry.thread ≡ thread
  own_thread thread k entry at =
      eqb-true entry.thread thread (subst (λ (e : Entry). (e.thread == thread) ≡ true) (get_or_from_slice_get (entries_of thread entries) k entry entry at) (filter_passes (λ (e : Entry). e.thread == thread) entries k entry (slice_get_within (entries_of thread entries) k entry at)))

  module _ (place : ℕ) (entry : Entry) (at : slice_get entries place ≡ Some entry) where
    -- an entry that is less in the order of a history stands before one that is not among those before it
    ahead : IsSorted history_cmp entries → (place' : ℕ) (other : Entry) → slice_get entries place' ≡ Some other → is_lt (history_cmp other entry) ≡ true → other.thread < entry.thread → place' < place
    ahead sorted place' other at' less apart =
        elim (cases_order place' place) [
          | inl same ↦ absurd (
              let both : Some other ≡ Some entry = sym at' ∙ ap (slice_get entries) same ∙ at in
              let alike : other ≡ entry = cc in
              let thread : other.thread ≡ entry.thread = ap (λ (e : Entry). e.thread) alike in
              omega (arith, thread, apart))
          | inr differ ↦ elim differ [
            | inl before ↦ before
            | inr behind ↦ absurd (
                let far : is_lt (history_cmp (get_or entries place' entry) (get_or entries place entry)) ≡ false =
                sorted_far (λ (x y : Entry). is_lt (history_cmp x y)) history_ranks entries sorted place place' entry (omega (arith, behind)) (slice_get_within entries place' other at') in
                let there : get_or entries place' entry ≡ other = get_or_from_slice_get entries place' other entry at' in
                let here : get_or entries place entry ≡ entry = get_or_from_slice_get entries place entry entry at in
                let none : is_lt (history_cmp other entry) ≡ false = (λ i. is_lt (history_cmp (sym there i) (sym here i))) ∙ far in
                false≢true (sym none ∙ less))
          ]
        ]

    -- what knows of the call that it names stands after it, in the order of a history
    awaited_by : IsScript script → IsSorted history_cmp entries → entry.wrote ≡ is_write entry.call entry.reply → (called : Call) → entry.call ≡ called → IsAwaitOf script.threads entry.thread called
        → KnowsAwaited (λ thread. entries_of thread entries) entry called → IsAwaitedIn entries place called
    awaited_by rule sorted wrote (call.Await thread index) is names knows =
        let earlier : thread < entry.thread = names.0 in
        let first : 1 ≤ index = names.1 in
        let there : index ≤ length (calls_of script thread) = named_call script entry.thread thread index names in
        let made : length (entries_of thread entries) ≡ length (calls_of script thread) = sym (length-map (entries_of thread entries) (λ (e : Entry). e.call)) ∙ ap length (whole.calls thread) in
        let k = index - 1 in
        let other : Entry = get_or (entries_of thread entries) k entry in
        let other_at : slice_get (entries_of thread entries) k ≡ Some other = slice_get-get_or (entries_of thread entries) k entry (omega (arith, first, there, made)) in
        let origin = passed_from (λ (e : Entry). e.thread == thread) entries k other other_at in
        let mine : other.thread ≡ thread = own_thread thread k other other_at in
        let apart : other.thread < entry.thread = omega (arith, mine, earlier) in
        let read : entry.wrote ≡ false = wrote ∙ ap (λ c. is_write c entry.reply) is in
        let less : is_lt (history_cmp other entry) ≡ true = goes_first other entry (knows k other (omega (arith, first)) other_at) read apart in
        let before : origin.0 < place = ahead sorted origin.0 other origin.1 less apart in
        let through : length (entries_of thread (take (origin.0 + 1) entries)) ≡ length (entries_of thread (take origin.0 entries)) + 1 = mine_up_to thread origin.0 other origin.1 mine in
        let count : length (entries_of thread (take origin.0 entries)) ≡ k = origin.2 in
        let up = count_up entries thread (origin.0 + 1) place (omega (arith, before)) in
        omega (arith, up, through, count, first)
    awaited_by rule sorted wrote called is names knows = tt

    -- and back, where each stamp is the number of writes before it
    knows_by : AreStamped entries → (called : Call) → IsAwaitedIn entries place called → KnowsAwaited (λ thread. entries_of thread entries) entry called
    knows_by stamped (call.Await thread index) after = λ k other numbered other_at.
        let its : index ≤ length (entries_of thread (take place entries)) = after in
        let origin = passed_from (λ (e : Entry). e.thread == thread) entries k other other_at in
        let count : length (entries_of thread (take origin.0 entries)) ≡ k = origin.2 in
        let late : place ≤ origin.0 → ⊥ = λ high. let up = count_up entries thread place origin.0 high in omega (arith, up, its, count, numbered) in
        elim (cases_order origin.0 place) [
          | inl same ↦ absurd (late (omega (arith, same)))
          | inr differ ↦ elim differ [
            | inl before ↦ after_is other entry.stamp (stamps_rise entries stamped origin.0 place other entry origin.1 at before)
            | inr behind ↦ absurd (late (omega (arith, behind)))
          ]
        ]
    knows_by stamped called after = tt

  pub awaited_in_order : IsScript script → IsSorted history_cmp entries → EachAt entries (λ place entry. entry.wrote ≡ is_write entry.call entry.reply) → AreKnown entries → EachAt entries (IsAwaited entries)
  awaited_in_order rule sorted wrote known place entry at =
      awaited_by place entry at rule sorted (wrote place entry at) entry.call refl (await_at script rule entries whole place entry at) (known place entry at)

  pub known_awaits : AreStamped entries → EachAt entries (IsAwaited entries) → AreKnown entries
  known_awaits stamped awaited place entry at =
      knows_by place entry at stamped entry.call (awaited place entry at)
