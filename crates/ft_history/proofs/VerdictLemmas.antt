-- What the judge's answer says of the history.
use Rattle.std.proofs.Common.{◌≡◌, ◌↔◌, IsTrue, ℕ, ◌+◌, ◌<◌, ◌≤◌, Bool, true, false, List, [], length, take, Option, Some, None, refl, sym, ap, subst, ◌∙◌, arith, inl, inr}
use Rattle.std.specs.Prelude.{slice_get}
use Rattle.std.specs.Option.{option_map_or}
use Rattle.std.proofs.lemmas.Bool.{cases_lt, false≢true}
use Rattle.std.proofs.lemmas.List.{take_all}
use Rattle.std.proofs.lemmas.Option.{slice_get_within, slice_get_cases}
use Rattle.ft_model.specs.declared.entry.Entry.{Entry}
use Rattle.ft_model.specs.declared.entry.Rule.{Rule}
use Rattle.ft_model.specs.declared.entry.Rule.TheVariants as rule
use Rattle.ft_model.specs.declared.entry.Storage.{Storage}
use Rattle.ft_model.specs.declared.script.Thread.{Thread}
use Rattle.ft_model.specs.declared.script.ScriptParts.{ScriptParts}
use Rattle.ft_model.specs.Histories.{entries_of, IsLegal}
use Rattle.ft_model.specs.Judging.{HoldsAt, HoldsAtEnd, IsComplete, IsFirstBroken, rank_of}
use Rattle.ft_history.specs.declared.state.State.{State}
use Rattle.ft_history.specs.Internal.Steps.{IsState, IsUnbrokenBefore, FindsBroken, HaveMadeAll}
use Rattle.ft_history.proofs.Unbroken.{legal_of_unbroken}

module _ (s : Storage) (script : ScriptParts) (entries : List Entry) (place : ℕ) (low : place < length entries) (unbroken : IsUnbrokenBefore s script entries place) where
  -- nothing is found at a place, and nothing is broken before the next
  pub goes_on : ((entry : Entry) → slice_get entries place ≡ Some entry → FindsBroken s script entries place entry None) → IsUnbrokenBefore s script entries (place + 1)
  goes_on finds before r below =
      elim (cases_lt before place) [
        | inl earlier ↦ unbroken before r earlier
        | inr late ↦
            let here : place ≡ before = omega arith in
            subst (λ p. HoldsAt s script entries p r) here (record { entry = λ entry at. finds entry at r; after = λ end. absurd (omega arith) })
      ]

  -- what is found is the first that is broken
  pub first_broken : (r : Rule) → ((entry : Entry) → slice_get entries place ≡ Some entry → FindsBroken s script entries place entry (Some r)) → IsFirstBroken s script entries place r
  first_broken r finds =
      record {
        before = record { earlier = unbroken; here = λ other rank. record { entry = λ entry at. (finds entry at).before other rank; after = λ end. absurd (omega arith) } };
        broken = λ kept. elim (slice_get_cases entries place).1 [
          | inl found ↦ (finds found.0 found.2).broken (kept.entry found.0 found.2)
          | inr past ↦ absurd (omega (arith, past.0))
        ];
      }

-- ---- at the end

complete_iff : (script : ScriptParts) (entries : List Entry) (state : State) (r : Bool) → IsState script entries (length entries) state → IsTrue r ↔ HaveMadeAll script.threads state.threads.items → IsTrue r ↔ IsComplete script entries
complete_iff script entries state r is_state is =
    let all : take (length entries) entries ≡ entries = take_all (length entries) entries (omega arith) in (
      λ yes thread.
          elim (slice_get_cases script.threads thread).1 [
            | inr past ↦ omega (arith, ap (λ (o : Option Thread). length (option_map_or (λ (f : Thread). f.calls) o [])) past.1)
            | inl found ↦ elim (slice_get_cases state.threads.items thread).1 [
              | inr past ↦ absurd (omega (arith, past.0, found.1, is_state.threads))
              | inl progress ↦
                  let made = (is_state.progress thread progress.0 progress.2).made ∙ ap (λ es. length (entries_of thread es)) all in
                  let enough = is.0 yes thread found.0 progress.0 found.2 progress.2 in
                  omega (arith, made, enough, ap (λ (o : Option Thread). length (option_map_or (λ (f : Thread). f.calls) o [])) found.2)
            ]
          ],
      λ complete. is.1 (λ thread found progress at made_at.
          let made = (is_state.progress thread progress made_at).made ∙ ap (λ es. length (entries_of thread es)) all in
          omega (arith, made, complete thread, ap (λ (o : Option Thread). length (option_map_or (λ (f : Thread). f.calls) o [])) at)),
    )

module _ (s : Storage) (script : ScriptParts) (entries : List Entry) (unbroken : IsUnbrokenBefore s script entries (length entries)) where
  after_all : (place : ℕ) (r : Rule) → length entries ≤ place → (place ≡ length entries → HoldsAtEnd script entries r) → HoldsAt s script entries place r
  after_all place r past after = record { entry = λ entry at. absurd (let low = slice_get_within entries place entry at in omega arith); after = after }

  holds_after : (r : Rule) → IsComplete script entries → HoldsAtEnd script entries r
  holds_after rule.Missing complete = complete
  holds_after rule.Whole complete = tt
  holds_after rule.Stamp complete = tt
  holds_after rule.Order complete = tt
  holds_after rule.Reply complete = tt
  holds_after rule.Await complete = tt
  holds_after rule.Mark complete = tt
  holds_after rule.Kept complete = tt
  holds_after rule.Suspended complete = tt
  holds_after rule.Memory complete = tt
  holds_after rule.World complete = tt

  holds_lower : (r : Rule) → rank_of r < 9 → HoldsAtEnd script entries r
  holds_lower rule.Missing low = absurd (omega arith)
  holds_lower rule.World low = tt
  holds_lower rule.Whole low = tt
  holds_lower rule.Stamp low = tt
  holds_lower rule.Order low = tt
  holds_lower rule.Reply low = tt
  holds_lower rule.Await low = tt
  holds_lower rule.Mark low = tt
  holds_lower rule.Kept low = tt
  holds_lower rule.Suspended low = tt
  holds_lower rule.Memory low = tt

  pub legal_at_end : (state : State) (r : Bool) → IsState script entries (length entries) state → IsTrue r ↔ HaveMadeAll script.threads state.threads.items → r ≡ true → IsLegal s script entries
  legal_at_end state r is_state is on =
      let complete = (complete_iff script entries state r is_state is).0 on in
      legal_of_unbroken s script entries (λ place q.
      elim (cases_lt place (length entries)) [
        | inl low ↦ unbroken place q low
        | inr past ↦ after_all place q past (λ _. holds_after q complete)
      ])

  pub missing_at_end : (state : State) (r : Bool) → IsState script entries (length entries) state → IsTrue r ↔ HaveMadeAll script.threads state.threads.items → r ≡ false → IsFirstBroken s script entries (length entries) rule.Missing
  missing_at_end state r is_state is off =
      record {
        before = record { earlier = unbroken; here = λ other low. after_all (length entries) other (omega arith) (λ _. holds_lower other low) };
        broken = λ kept. false≢true (sym off ∙ (complete_iff script entries state r is_state is).1 (kept.after refl));
      }
