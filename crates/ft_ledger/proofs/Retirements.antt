-- What an entry does to the retired tables and the announced numbers.
use Rattle.std.proofs.Common.{◌≡◌, ◌≢◌, ℕ, ◌+◌, ◌≤◌, true, false, not, List, [], ◌∷◌, length, take, get_or, Option, Some, None, refl, sym, ap, subst, ◌∙◌, inl, inr}
use Rattle.std.specs.Prelude.{◌⊎◌, Contains, ◌==◌, if◌then◌else◌}
use Rattle.std.specs.Option.{option_map_or}
use Rattle.std.proofs.lemmas.Bool.{and_parts, both_ways, cases_Bool, cases_lt, eqb-true, ne_eqb, not-true, not_from_false}
use Rattle.std.proofs.lemmas.List.{get_or_default, get_or-set_other, get_or-set_same}
use Rattle.std.proofs.lemmas.List.Elements.{All-set, Contains-append_left, Contains-push_cases}
use Rattle.ft_model.specs.declared.call.Call.TheVariants as call
use Rattle.ft_model.specs.declared.entry.Entry.{Entry}
use Rattle.ft_model.specs.declared.script.ScriptParts.{ScriptParts}
use Rattle.ft_model.specs.Histories.{EachAt, calls_of, writes}
use Rattle.ft_model.specs.TableUses.{StoredWorld, stored_after}
use Rattle.ft_history.proofs.HistoryPlaces.{take_next}
use Rattle.ft_ledger.specs.Ledgers.{Ledger, Retired, announced_by, class_had, collected, given_up, is_due, is_held_back, is_last_of, is_out_of, is_quiesce, ledger_after, ledger_answer, ledger_call, ledger_step, left, one_fewer, quiesced, taken_or_lacked, wanted, with_announced, with_retired, with_taken}
use Rattle.ft_ledger.specs.LedgerLaws.{Changes, HasPassed}
use Rattle.ft_ledger.proofs.Collections.{collection_keeps, is_held, not_due}
use Rattle.ft_ledger.proofs.Exchanges.{is_the_quiesce}
use Rattle.ft_ledger.proofs.Leaving.{answer_others, call_announced}
use Rattle.ft_ledger.proofs.Steps.{after_push}

-- what becomes of the tables that were retired before, and which are new
record Moves (thread : ℕ) (before after : Ledger) : Type 0 where
  old : (one : Retired) → Contains before.retired one → Contains after.retired one ⊎ ((one.thread ≡ thread) × HasPassed after one)
  new : (one : Retired) → Contains after.retired one → Contains before.retired one ⊎ ((one.thread ≡ thread) × (one.goal ≡ after.number))

abbrev IsPast : Retired → ℕ → Type 0
IsPast one number = number ≢ 0 → one.goal ≤ number

passed : (ledger : Ledger) (one : Retired) → is_held_back ledger.announced one ≡ false → HasPassed ledger one
passed ledger one free k d low some =
    elim (cases_lt (get_or ledger.announced k d) one.goal) [
      | inr past ↦ past
      | inl below ↦
          let n = get_or ledger.announced k d in
          absurd (both_ways (is_held_back ledger.announced one) free (is_held ledger one (k, n, low, get_or_default ledger.announced k n d low, (some, below))))
    ]

collected_moves : (thread : ℕ) (ledger : Ledger) → Moves thread ledger (collected thread ledger)
collected_moves thread ledger =
    record {
      old = λ one there.
          elim (cases_Bool (is_due thread ledger.announced one)) [
            | inl due ↦
                let parts = and_parts (one.thread == thread) (not (is_held_back ledger.announced one)) due in
                inr (eqb-true one.thread thread parts.0, passed ledger one (not-true (is_held_back ledger.announced one) parts.1))
            | inr stays ↦ inl ((collection_keeps thread ledger one).1 (there, not_due thread ledger one (not_from_false (is_due thread ledger.announced one) stays)))
          ];
      new = λ one there. inl ((collection_keeps thread ledger one).0 there).0;
    }

-- and then retires one, if it does
retired_moves : (thread : ℕ) (had : Option ℕ) (before mid : Ledger) → ((one : Retired) → Contains before.retired one → Contains mid.retired one ⊎ ((one.thread ≡ thread) × HasPassed mid one)) → ((one : Retired) → Contains mid.retired one → Contains before.retired one) → Moves thread before (with_retired thread had mid)
retired_moves thread None before mid olds news = record { old = olds; new = λ one there. inl (news one there) }
retired_moves thread (Some class) before mid olds news =
    let fresh : Retired = record { thread = thread; class = class; goal = mid.number + 1 } in
    record {
      old = λ one there.
          elim (olds one there) [
            | inl here ↦ inl (Contains-append_left mid.retired (fresh ∷ []) one here)
            | inr gone ↦ inr gone
          ];
      new = λ one there.
          elim (Contains-push_cases mid.retired fresh one there) [
            | inl here ↦ inl (news one here)
            | inr same ↦ inr (ap (λ (r : Retired). r.thread) (sym same), ap (λ (r : Retired). r.goal) (sym same))
          ];
    }

taken_moves : (thread : ℕ) (had : Option ℕ) (class : ℕ) (ledger : Ledger) → Moves thread ledger (taken_or_lacked thread had class ledger)
taken_moves thread had class ledger =
    let mid = collected thread ledger in
    let done = collected_moves thread ledger in
    elim (is_out_of mid class) as (λ b. Moves thread ledger (if b then mid else with_taken thread had class mid)) [
      | true ↦ done
      | false ↦ retired_moves thread had ledger (record mid { free = one_fewer mid.free class }) done.old (λ one there. ((collection_keeps thread ledger one).0 there).0)
    ]

answer_moves : (stored : StoredWorld) (ledger : Ledger) (entry : Entry) → Moves entry.thread ledger (ledger_answer stored ledger entry)
answer_moves stored ledger entry =
    elim (is_quiesce entry.call) as (λ b. Moves entry.thread ledger (if b then quiesced entry.thread ledger else ledger_call stored ledger entry)) [
      | true ↦
          let done = collected_moves entry.thread (with_announced entry.thread ledger.number ledger) in
          record { old = done.old; new = done.new }
      | false ↦
          elim (wanted stored entry) as (λ o. Moves entry.thread ledger (option_map_or (λ class. taken_or_lacked entry.thread (class_had stored.tables entry.call) class ledger) o (with_retired entry.thread (given_up stored entry) ledger))) [
            | None ↦ retired_moves entry.thread (given_up stored entry) ledger ledger (λ one there. inl there) (λ one there. there)
            | Some class ↦ taken_moves entry.thread (class_had stored.tables entry.call) class ledger
          ]
    ]

-- a thread leaves
left_moves : (thread : ℕ) (before mid : Ledger) → Moves thread before mid → Moves thread before (left thread mid)
left_moves thread before mid moves =
    let gone = with_announced thread 0 mid in
    let last = collected_moves thread gone in
    record {
      old = λ one there.
          elim (moves.old one there) [
            | inl here ↦ last.old one here
            | inr passes ↦ inr (passes.0, All-set (IsPast one) mid.announced thread 0 (λ some. absurd (some refl)) passes.1)
          ];
      new = λ one there. moves.new one ((collection_keeps thread gone one).0 there).0;
    }

step_moves : (script : ScriptParts) (stored : StoredWorld) (ledger : Ledger) (entry : Entry) → Moves entry.thread ledger (ledger_step script stored ledger entry)
step_moves script stored ledger entry =
    let after = ledger_answer stored ledger entry in
    let done = answer_moves stored ledger entry in
    elim (is_last_of script entry) as (λ b. Moves entry.thread ledger (if b then left entry.thread after else after)) [
      | true ↦ left_moves entry.thread ledger after done
      | false ↦ done
    ]

-- ---- announced numbers

answer_quiesces : (stored : StoredWorld) (ledger : Ledger) (entry : Entry) → entry.call ≡ call.Quiesce → ledger_answer stored ledger entry ≡ quiesced entry.thread ledger
answer_quiesces stored ledger entry is = ap (λ b. if b then quiesced entry.thread ledger else ledger_call stored ledger entry) (ap is_quiesce is)

answer_goes_on : (stored : StoredWorld) (ledger : Ledger) (entry : Entry) → entry.call ≢ call.Quiesce → ledger_answer stored ledger entry ≡ ledger_call stored ledger entry
answer_goes_on stored ledger entry other =
    elim (cases_Bool (is_quiesce entry.call)) [
      | inl is ↦ absurd (other (is_the_quiesce entry.call is))
      | inr is ↦ ap (λ b. if b then quiesced entry.thread ledger else ledger_call stored ledger entry) is
    ]

module _ (script : ScriptParts) (stored : StoredWorld) (ledger : Ledger) (entry : Entry) where
  stays_on : entry.index ≢ length (calls_of script entry.thread) → ledger_step script stored ledger entry ≡ ledger_answer stored ledger entry
  stays_on more = ap (λ b. if b then left entry.thread (ledger_answer stored ledger entry) else ledger_answer stored ledger entry) (ne_eqb entry.index (length (calls_of script entry.thread)) more)

  step_others : (thread : ℕ) → thread ≢ entry.thread → announced_by (ledger_step script stored ledger entry) thread ≡ announced_by ledger thread
  step_others thread other =
      let after = ledger_answer stored ledger entry in
      elim (is_last_of script entry) as (λ b. announced_by (if b then left entry.thread after else after) thread ≡ announced_by ledger thread) [
        | true ↦ get_or-set_other after.announced entry.thread thread 0 0 other ∙ answer_others stored ledger entry thread other
        | false ↦ answer_others stored ledger entry thread other
      ]

  step_changes : Changes script entry ledger (ledger_step script stored ledger entry)
  step_changes =
      let moves = step_moves script stored ledger entry in
      record {
        old = moves.old;
        new = moves.new;
        others = step_others;
        quiesces = λ is more there.
            let same = stays_on more ∙ answer_quiesces stored ledger entry is in
            ap (λ (l : Ledger). announced_by l entry.thread) same
            ∙ get_or-set_same ledger.announced entry.thread ledger.number 0 there
            ∙ sym (ap (λ (l : Ledger). l.number) same);
        goes_on = λ is more.
            ap (λ (l : Ledger). announced_by l entry.thread) (stays_on more ∙ answer_goes_on stored ledger entry is)
            ∙ ap (λ (ns : List ℕ). get_or ns entry.thread 0) (call_announced stored ledger entry);
      }

pub entry_changes : (script : ScriptParts) (entries : List Entry) → EachAt entries (λ place entry. Changes script entry (ledger_after script (take place entries)) (ledger_after script (take (place + 1) entries)))
entry_changes script entries place entry at =
    subst (Changes script entry (ledger_after script (take place entries))) (sym (ap (ledger_after script) (take_next entries place entry at) ∙ after_push script (take place entries) entry))
    (step_changes script (stored_after script (writes (take place entries))) (ledger_after script (take place entries)) entry)
