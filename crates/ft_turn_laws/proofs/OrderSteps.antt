-- The answers stay in order through a turn.
use Rattle.std.proofs.Common.{◌≡◌, ◌≢◌, ℕ, ◌<◌, ◌≤◌, le_trans, List, [], ◌∷◌, ◌++◌, length, map, reverse, Some, refl, sym, ap, subst, ◌∙◌, arith, inl, inr}
use Rattle.std.specs.Prelude.{All, slice_get, slice_index_or, slice_set}
use Rattle.std.specs.List.Sorted.{IsPermutation}
use Rattle.std.proofs.Math.Bridge.{le_prop}
use Rattle.std.proofs.Math.Logic.{∥∥₁_elim}
use Rattle.std.proofs.lemmas.Bool.{cases_eq}
use Rattle.std.proofs.lemmas.List.{get_or_append_left, get_or_push, get_or-set_other, get_or-set_same, length_push, map-append}
use Rattle.std.proofs.lemmas.List.Elements.{All-map}
use Rattle.std.proofs.lemmas.List.Sorted.{All-permutation, IsPermutation-append_comm, IsPermutation-append_left, IsPermutation-reverse, IsPermutation-sym, IsPermutation-trans}
use Rattle.std.proofs.lemmas.Option.{get_or_from_slice_get, slice_get_within}
use Rattle.ft_model.specs.declared.entry.Entry.{Entry}
use Rattle.ft_trace.specs.declared.Entry.{Entry as TraceEntry}
use Rattle.ft_trace.specs.Acts.{seen_writes}
use Rattle.ft_trace.specs.OwnCursors.{plain_entry}
use Rattle.ft_trace.specs.OwnOrder.{number_after}
use Rattle.ft_section.specs.declared.answers.Stamp.{Stamp}
use Rattle.ft_bank.specs.Passes.{view}
use Rattle.ft_engine.specs.declared.caller.Caller.{Caller}
use Rattle.ft_engine.specs.declared.caller.Flight.{Flight}
use Rattle.ft_engine.specs.declared.caller.Flight.TheVariants as flight
use Rattle.ft_engine.specs.Keeping.{WasAnswered, pending}
use Rattle.ft_turn_laws.specs.Ordered.{AreAnswersInOrder, answer_at, due, no_stamp, nobody, reached, entry_stamp, stamps_of}
use Rattle.ft_turn_laws.specs.Standing.{Standing, standing_of}
use Rattle.ft_turn_laws.proofs.EntriesSeen.{entries_seen}
use Rattle.ft_turn_laws.proofs.OrderedRuns.{push_cases}
use Rattle.ft_turn_laws.proofs.TriedTurns.{IsRecorded}

-- ---- what the caller has seen

abbrev Below : ℕ → List TraceEntry → Type 0
Below seen entries = All (λ e. number_after e ≤ seen) entries

own_seen : (c : Caller) → Below (seen_writes (view c.pass)) (view c.pass).entries
own_seen c k d low = ∥∥₁_elim c.pass.possible le_prop (λ p. entries_seen (view c.pass) p k d low)

abbrev its_stamp : TraceEntry → Stamp
its_stamp e = record { number = e.stamp; wrote = e.wrote }

due_pending : (f : Flight) → map its_stamp (pending f) ≡ due f
due_pending flight.Idle = refl
due_pending (flight.Tried called) = refl
due_pending (flight.Answered called said stamp) = refl
due_pending (flight.Refused called) = refl

same_stamps : (mine : List Entry) → map its_stamp (map plain_entry mine) ≡ map entry_stamp mine
same_stamps [] = refl
same_stamps (e ∷ mine) = ap (λ ss. entry_stamp e ∷ ss) (same_stamps mine)

-- the numbers of a caller's answers are below what it has seen
pub answers_seen : (c : Caller) (mine : List Entry) → WasAnswered c mine → (k : ℕ) → k < length (stamps_of (standing_of c mine)) → reached (slice_index_or (stamps_of (standing_of c mine)) k no_stamp) ≤ seen_writes (view c.pass)
answers_seen c mine kept k low =
    let seen = seen_writes (view c.pass) in
    let f = c.flight in
    let own = map plain_entry mine in
    let moved : IsPermutation (view c.pass).entries (own ++ pending f) =
    subst (λ es. IsPermutation es (own ++ pending f)) (sym kept.0.same)
    (IsPermutation-trans (pending f ++ reverse own) (reverse own ++ pending f) (own ++ pending f) (IsPermutation-append_comm (pending f) (reverse own))
    (IsPermutation-append_left (pending f) (reverse own) own (IsPermutation-sym own (reverse own) (IsPermutation-reverse own)))) in
    let below : Below seen (own ++ pending f) = All-permutation (λ e. number_after e ≤ seen) (view c.pass).entries (own ++ pending f) moved (own_seen c) in
    let stamps : map its_stamp (own ++ pending f) ≡ stamps_of (standing_of c mine) =
    map-append its_stamp own (pending f) ∙ (ap (λ ss. ss ++ map its_stamp (pending f)) (same_stamps mine) ∙ ap (λ ss. map entry_stamp mine ++ ss) (due_pending f)) in
    (subst (All (λ s. reached s ≤ seen)) stamps (All-map (λ s. reached s ≤ seen) its_stamp (own ++ pending f) below)) k no_stamp low

-- ---- the answers at their places

module _ (standings : List Standing) (thread : ℕ) (old new : Standing) (at : slice_get standings thread ≡ Some old) where
  low : thread < length standings
  low = slice_get_within standings thread old at

  was : slice_index_or standings thread nobody ≡ old
  was = get_or_from_slice_get standings thread old nobody at

  now : slice_index_or (slice_set standings thread new) thread nobody ≡ new
  now = get_or-set_same standings thread new nobody low

  -- of another thread
  other_same : (other : ℕ) → other ≢ thread → slice_index_or (slice_set standings thread new) other nobody ≡ slice_index_or standings other nobody
  other_same other differs = get_or-set_other standings thread other new nobody differs

  -- where the answers are the same
  all_same : stamps_of new ≡ stamps_of old → (other : ℕ) → stamps_of (slice_index_or (slice_set standings thread new) other nobody) ≡ stamps_of (slice_index_or standings other nobody)
  all_same same other =
      elim (cases_eq other thread) [
        | inl is ↦ ap (λ u. stamps_of (slice_index_or (slice_set standings thread new) u nobody)) is ∙ (ap stamps_of now ∙ (same ∙ (ap stamps_of (sym was) ∙ ap (λ u. stamps_of (slice_index_or standings u nobody)) (sym is))))
        | inr differs ↦ ap stamps_of (other_same other differs)
      ]

  -- where there is one more, each earlier one is at its place
  module _ (stamp : Stamp) (more : stamps_of new ≡ stamps_of old ++ stamp ∷ []) where
    still_there : (one : ℕ × ℕ) → one.1 < length (stamps_of (slice_index_or standings one.0 nobody))
        → (one.1 < length (stamps_of (slice_index_or (slice_set standings thread new) one.0 nobody))) × (answer_at (slice_set standings thread new) one ≡ answer_at standings one)
    still_there one there =
        elim (cases_eq one.0 thread) [
          | inl is ↦
              let before : stamps_of (slice_index_or standings one.0 nobody) ≡ stamps_of old = ap (λ u. stamps_of (slice_index_or standings u nobody)) is ∙ ap stamps_of was in
              let after : stamps_of (slice_index_or (slice_set standings thread new) one.0 nobody) ≡ stamps_of old ++ stamp ∷ [] =
              ap (λ u. stamps_of (slice_index_or (slice_set standings thread new) u nobody)) is ∙ (ap stamps_of now ∙ more) in
              let short : one.1 < length (stamps_of old) = subst (λ ss. one.1 < length ss) before there in (
                subst (λ ss. one.1 < length ss) (sym after) (omega (arith, length_push (stamps_of old) stamp)),
                ap (λ ss. slice_index_or ss one.1 no_stamp) after ∙ (get_or_append_left (stamps_of old) (stamp ∷ []) no_stamp one.1 short ∙ ap (λ ss. slice_index_or ss one.1 no_stamp) (sym before)),
              )
          | inr differs ↦
              let same = ap stamps_of (other_same one.0 differs) in
              (subst (λ ss. one.1 < length ss) (sym same) there, ap (λ ss. slice_index_or ss one.1 no_stamp) same)
        ]

    newest : (place : ℕ) → length (stamps_of old) ≡ place → (place < length (stamps_of (slice_index_or (slice_set standings thread new) thread nobody))) × (answer_at (slice_set standings thread new) (thread, place) ≡ stamp)
    newest place is =
        let after : stamps_of (slice_index_or (slice_set standings thread new) thread nobody) ≡ stamps_of old ++ stamp ∷ [] = ap stamps_of now ∙ more in (
          subst (λ ss. place < length ss) (sym after) (omega (arith, length_push (stamps_of old) stamp)),
          ap (λ ss. slice_index_or ss place no_stamp) after ∙ get_or_push (stamps_of old) stamp no_stamp place is,
        )

-- ---- a turn

-- an answer that is known by whoever has seen less is known by whoever has seen more
pub order_step : (standings : List Standing) (thread : ℕ) (old new : Standing) (before after : List (ℕ × ℕ)) (place seen seen_after : ℕ) → slice_get standings thread ≡ Some old
    → IsRecorded before (thread, place) after (stamps_of old) (stamps_of new) seen → seen ≤ seen_after
    → ((k : ℕ) → k < length (stamps_of new) → reached (slice_index_or (stamps_of new) k no_stamp) ≤ seen_after)
    → AreAnswersInOrder before standings seen → AreAnswersInOrder after (slice_set standings thread new) seen_after
order_step standings thread old new before after place seen seen_after at (inl same) rises each are =
    let now = slice_set standings thread new in
    let stamps = all_same standings thread old new at same.1 in
    let alike : (one : ℕ × ℕ) → answer_at now one ≡ answer_at standings one = λ one. ap (λ ss. slice_index_or ss one.1 no_stamp) (stamps one.0) in
    subst (λ order. AreAnswersInOrder order now seen_after) (sym same.0)
    (record {
      made = λ there one is. subst (λ ss. one.1 < length ss) (sym (stamps one.0)) (are.made there one is);
      rising = λ earlier later one other less is_one is_other.
          subst (λ s. reached s ≤ (answer_at now other).number) (sym (alike one))
          (subst (λ (s : Stamp). reached (answer_at standings one) ≤ s.number) (sym (alike other)) (are.rising earlier later one other less is_one is_other));
      known = λ there one is. subst (λ s. reached s ≤ seen_after) (sym (alike one)) (le_trans (are.known there one is) rises);
    })
order_step standings thread old new before after place seen seen_after at (inr more) rises each are =
    let now = slice_set standings thread new in
    let stamp = more.0 in
    let last : ℕ × ℕ = (thread, place) in
    let there = still_there standings thread old new at stamp more.2 in
    let newest_one = newest standings thread old new at stamp more.2 place more.4 in
    let made : (k : ℕ) (one : ℕ × ℕ) → slice_get (before ++ last ∷ []) k ≡ Some one → one.1 < length (stamps_of (slice_index_or now one.0 nobody)) =
    λ k one is. elim (push_cases before last one k is) [
      | inl earlier ↦ (there one (are.made k one earlier)).0
      | inr newly ↦ subst (λ (a : ℕ × ℕ). a.1 < length (stamps_of (slice_index_or now a.0 nobody))) newly.1 newest_one.0
    ] in
    let known_before : (k : ℕ) (one : ℕ × ℕ) → slice_get before k ≡ Some one → reached (answer_at now one) ≤ seen =
    λ k one is. subst (λ s. reached s ≤ seen) (sym (there one (are.made k one is)).1) (are.known k one is) in
    subst (λ order. AreAnswersInOrder order now seen_after) (sym more.1)
    (record {
      made = made;
      rising = λ earlier later one other less is_one is_other.
          elim (push_cases before last other later is_other) [
            | inl both ↦ elim (push_cases before last one earlier is_one) [
              | inl first ↦
                  subst (λ s. reached s ≤ (answer_at now other).number) (sym (there one (are.made earlier one first)).1)
                  (subst (λ (s : Stamp). reached (answer_at standings one) ≤ s.number) (sym (there other (are.made later other both)).1) (are.rising earlier later one other less first both))
              | inr beyond ↦ absurd (let within = slice_get_within before later other both in let at_end = beyond.0 in omega arith)
            ]
            | inr newly ↦ elim (push_cases before last one earlier is_one) [
              | inl first ↦
                  let number : (answer_at now other).number ≡ stamp.number = ap (λ (a : ℕ × ℕ). (answer_at now a).number) (sym newly.1) ∙ ap (λ (s : Stamp). s.number) newest_one.1 in
                  le_trans (known_before earlier one first) (subst (λ n. seen ≤ n) (sym number) more.3)
              | inr beyond ↦ absurd (let at_end = beyond.0 in let end_too = newly.0 in omega arith)
            ]
          ];
      known = λ k one is.
          elim (push_cases before last one k is) [
            | inl earlier ↦ le_trans (known_before k one earlier) rises
            | inr newly ↦
                let here : slice_index_or now thread nobody ≡ new = get_or-set_same standings thread new nobody (slice_get_within standings thread old at) in
                subst (λ (a : ℕ × ℕ). reached (answer_at now a) ≤ seen_after) newly.1
                (subst (λ (s : Standing). reached (slice_index_or (stamps_of s) place no_stamp) ≤ seen_after) (sym here)
                (each place (subst (λ (s : Standing). place < length (stamps_of s)) here newest_one.0)))
          ];
    })
