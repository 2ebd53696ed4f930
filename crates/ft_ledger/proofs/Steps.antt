-- What each change of the ledger keeps is kept over entries, and the ledger one entry further.
use Rattle.std.proofs.Common.{◌≡◌, ℕ, true, false, List, [], ◌∷◌, ◌++◌, Option, Some, None, sym, ap, ◌∙◌}
use Rattle.std.specs.Prelude.{if◌then◌else◌}
use Rattle.std.specs.Option.{option_map_or}
use Rattle.std.proofs.lemmas.List.{append-nil, append_assoc}
use Rattle.ft_model.specs.declared.entry.Entry.{Entry}
use Rattle.ft_model.specs.declared.script.ScriptParts.{ScriptParts}
use Rattle.ft_model.specs.Histories.{writes}
use Rattle.ft_model.specs.TableUses.{StoredWorld, stored_after}
use Rattle.ft_ledger.specs.Ledgers.{Ledger, start_ledger, one_fewer, with_announced, collected, quiesced, left, with_retired, with_taken, is_out_of, taken_or_lacked, class_had, wanted, given_up, is_quiesce, ledger_call, ledger_answer, is_last_of, ledger_step, ledger_from, ledger_after}

-- each change that steps are made of keeps it
pub record IsKeptBySteps (P : Ledger → Type 0) : Type 0 where
  pub announces : (thread : ℕ) (ledger : Ledger) → P ledger → P (with_announced thread ledger.number ledger)
  pub leaves : (thread : ℕ) (ledger : Ledger) → P ledger → P (with_announced thread 0 ledger)
  pub collects : (thread : ℕ) (ledger : Ledger) → P ledger → P (collected thread ledger)
  pub retires : (thread class : ℕ) (ledger : Ledger) → P ledger → P (with_retired thread (Some class) ledger)
  pub takes : (class : ℕ) (ledger : Ledger) → P ledger → P (record ledger { free = one_fewer ledger.free class })

module _ (P : Ledger → Type 0) (kept : IsKeptBySteps P) where
  retired_keeps : (thread : ℕ) (had : Option ℕ) (ledger : Ledger) → P ledger → P (with_retired thread had ledger)
  retired_keeps thread None ledger is = is
  retired_keeps thread (Some class) ledger is = kept.retires thread class ledger is

  taken_keeps : (thread : ℕ) (had : Option ℕ) (class : ℕ) (ledger : Ledger) → P ledger → P (taken_or_lacked thread had class ledger)
  taken_keeps thread had class ledger is =
      let done = kept.collects thread ledger is in
      elim (is_out_of (collected thread ledger) class) as (λ b. P (if b then collected thread ledger else with_taken thread had class (collected thread ledger))) [
        | true ↦ done
        | false ↦ retired_keeps thread had (record (collected thread ledger) { free = one_fewer (collected thread ledger).free class }) (kept.takes class (collected thread ledger) done)
      ]

  call_keeps : (stored : StoredWorld) (ledger : Ledger) (entry : Entry) → P ledger → P (ledger_call stored ledger entry)
  call_keeps stored ledger entry is =
      elim (wanted stored entry) as (λ o. P (option_map_or (λ class. taken_or_lacked entry.thread (class_had stored.tables entry.call) class ledger) o (with_retired entry.thread (given_up stored entry) ledger))) [
        | None ↦ retired_keeps entry.thread (given_up stored entry) ledger is
        | Some class ↦ taken_keeps entry.thread (class_had stored.tables entry.call) class ledger is
      ]

  answer_keeps : (stored : StoredWorld) (ledger : Ledger) (entry : Entry) → P ledger → P (ledger_answer stored ledger entry)
  answer_keeps stored ledger entry is =
      elim (is_quiesce entry.call) as (λ b. P (if b then quiesced entry.thread ledger else ledger_call stored ledger entry)) [
        | true ↦ kept.collects entry.thread (with_announced entry.thread ledger.number ledger) (kept.announces entry.thread ledger is)
        | false ↦ call_keeps stored ledger entry is
      ]

  pub step_keeps : (script : ScriptParts) (stored : StoredWorld) (ledger : Ledger) (entry : Entry) → P ledger → P (ledger_step script stored ledger entry)
  step_keeps script stored ledger entry is =
      let after = ledger_answer stored ledger entry in
      let done = answer_keeps stored ledger entry is in
      elim (is_last_of script entry) as (λ b. P (if b then left entry.thread after else after)) [
        | true ↦ kept.collects entry.thread (with_announced entry.thread 0 after) (kept.leaves entry.thread after done)
        | false ↦ done
      ]

  from_keeps : (script : ScriptParts) (before : List Entry) (ledger : Ledger) (entries : List Entry) → P ledger → P (ledger_from script before ledger entries)
  from_keeps script before ledger [] is = is
  from_keeps script before ledger (entry ∷ entries) is =
      from_keeps script (before ++ entry ∷ []) (ledger_step script (stored_after script (writes before)) ledger entry) entries
      (step_keeps script (stored_after script (writes before)) ledger entry is)

  pub after_keeps : (script : ScriptParts) (entries : List Entry) → P (start_ledger script) → P (ledger_after script entries)
  after_keeps script entries is = from_keeps script [] (start_ledger script) entries is

-- ---- one entry further

from_push : (script : ScriptParts) (before : List Entry) (ledger : Ledger) (entries : List Entry) (entry : Entry) → ledger_from script before ledger (entries ++ entry ∷ []) ≡ ledger_step script (stored_after script (writes (before ++ entries))) (ledger_from script before ledger entries) entry
from_push script before ledger [] entry = ap (λ (es : List Entry). ledger_step script (stored_after script (writes es)) ledger entry) (sym (append-nil before))
from_push script before ledger (first ∷ entries) entry =
    let next = ledger_step script (stored_after script (writes before)) ledger first in
    from_push script (before ++ first ∷ []) next entries entry
    ∙ ap (λ (es : List Entry). ledger_step script (stored_after script (writes es)) (ledger_from script (before ++ first ∷ []) next entries) entry) (append_assoc before (first ∷ []) entries)

pub after_push : (script : ScriptParts) (entries : List Entry) (entry : Entry) → ledger_after script (entries ++ entry ∷ []) ≡ ledger_step script (stored_after script (writes entries)) (ledger_after script entries) entry
after_push script entries entry = from_push script [] (start_ledger script) entries entry
