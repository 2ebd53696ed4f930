-- The write number rises by one exactly with each table that a container gives up.
use Rattle.std.proofs.Common.{◌≡◌, ℕ, ◌+◌, Bool, true, false, not, List, take, Option, Some, None, refl, sym, ap, ◌∙◌, arith, cond, inl, inr}
use Rattle.std.specs.Prelude.{◌&&◌, ◌||◌, is_some, if◌then◌else◌}
use Rattle.std.specs.Option.{option_map_or}
use Rattle.std.proofs.lemmas.Bool.{cases_Bool}
use Rattle.ft_model.specs.declared.entry.Entry.{Entry}
use Rattle.ft_model.specs.declared.script.ScriptParts.{ScriptParts}
use Rattle.ft_model.specs.Answers.{is_write}
use Rattle.ft_model.specs.Histories.{EachAt, writes}
use Rattle.ft_model.specs.TableUses.{StoredWorld, after_stored, stored_after, takes_in}
use Rattle.ft_ledger.specs.Ledgers.{Ledger, HasLedgerErrors, class_had, collected, given_up, is_last_of, is_out_of, is_quiesce, ledger_after, ledger_answer, ledger_call, ledger_step, left, one_fewer, quiesced, taken_or_lacked, wanted, with_retired, with_taken}
use Rattle.ft_ledger.specs.LedgerLaws.{AreAnswered, RisesWithTables, table_given}
use Rattle.ft_ledger.proofs.AddingUp.{IsLedgerReply, ledger_reply, read_exchanges, served, wants_what_it_takes}
use Rattle.ft_ledger.proofs.Exchanges.{gave, quiesce_gives, quiesce_wants}
use Rattle.ft_ledger.proofs.Leaving.{ledger_next}

-- 1 where there is a table
abbrev one_of : Option ℕ → ℕ
one_of had = cond (is_some had) 1 0

retired_number : (thread : ℕ) (had : Option ℕ) (ledger : Ledger) → (with_retired thread had ledger).number ≡ ledger.number + one_of had
retired_number thread None ledger = omega arith
retired_number thread (Some class) ledger = refl

module _ (stored : StoredWorld) (ledger : Ledger) (entry : Entry) where
  call_number : (ledger_call stored ledger entry).number ≡ ledger.number + one_of (gave stored ledger entry)
  call_number =
      let mid = collected entry.thread ledger in
      let had = class_had stored.tables entry.call in
      elim (wanted stored entry) as (λ o.
      (option_map_or (λ new. taken_or_lacked entry.thread had new ledger) o (with_retired entry.thread (given_up stored entry) ledger)).number
      ≡ ledger.number + one_of (option_map_or (λ new. if is_out_of mid new then None else had) o (given_up stored entry))) [
        | None ↦ retired_number entry.thread (given_up stored entry) ledger
        | Some new ↦
            elim (is_out_of mid new) as (λ b. (if b then mid else with_taken entry.thread had new mid).number ≡ ledger.number + one_of (if b then None else had)) [
              | true ↦ (let same : ledger.number ≡ ledger.number + 0 = omega arith in same)
              | false ↦ retired_number entry.thread had (record mid { free = one_fewer mid.free new })
            ]
      ]

  answer_number : (ledger_answer stored ledger entry).number ≡ ledger.number + one_of (gave stored ledger entry)
  answer_number =
      elim (is_quiesce entry.call) as (λ b. is_quiesce entry.call ≡ b → (if b then quiesced entry.thread ledger else ledger_call stored ledger entry).number ≡ ledger.number + one_of (gave stored ledger entry)) [
        | true ↦ λ quiesces.
            let none = ap one_of (ap (λ o. option_map_or (λ new. if is_out_of (collected entry.thread ledger) new then None else class_had stored.tables entry.call) o (given_up stored entry)) (quiesce_wants stored entry quiesces) ∙ quiesce_gives stored entry quiesces) in
            omega (arith, none)
        | false ↦ λ other. call_number
      ] refl

  step_number : (script : ScriptParts) → (ledger_step script stored ledger entry).number ≡ ledger.number + one_of (gave stored ledger entry)
  step_number script =
      let after = ledger_answer stored ledger entry in
      elim (is_last_of script entry) as (λ b. (if b then left entry.thread after else after).number ≡ ledger.number + one_of (gave stored ledger entry)) [
        | true ↦ answer_number
        | false ↦ answer_number
      ]

  -- what the ledger gives up is what the container gives up
  gives_table : IsLedgerReply stored ledger entry → entry.wrote ≡ is_write entry.call entry.reply → gave stored ledger entry ≡ table_given stored entry
  gives_table errors wrote =
      let mid = collected entry.thread ledger in
      let had = class_had stored.tables entry.call in
      let has = class_had (after_stored stored entry.call).tables entry.call in
      let given = λ (w : Bool) (t : Option ℕ). if w && (is_some t || not (is_some has)) then had else None in
      elim (cases_Bool entry.wrote) [
        | inr read ↦ (read_exchanges stored ledger entry errors wrote read).1 ∙ sym (ap (λ w. given w (takes_in stored entry.call)) read)
        | inl written ↦
            let wants = wants_what_it_takes stored ledger entry errors wrote written in
            let gives = λ (o : Option ℕ). option_map_or (λ new. if is_out_of mid new then None else had) o (given_up stored entry) in
            elim (takes_in stored entry.call) as (λ o. takes_in stored entry.call ≡ o → gave stored ledger entry ≡ table_given stored entry) [
              | None ↦ λ none.
                  ap gives (wants ∙ none) ∙ ap (λ b. if b && not (is_some has) then had else None) written
                  ∙ sym (ap (λ w. given w (takes_in stored entry.call)) written ∙ ap (given true) none)
              | Some new ↦ λ takes.
                  ap gives (wants ∙ takes) ∙ ap (λ b. if b then None else had) (served stored ledger entry errors wrote written new takes)
                  ∙ sym (ap (λ w. given w (takes_in stored entry.call)) written ∙ ap (given true) takes)
            ] refl
      ]

pub rises_with_tables : (script : ScriptParts) (entries : List Entry) → AreAnswered script entries → HasLedgerErrors script entries → EachAt entries (RisesWithTables script entries)
rises_with_tables script entries are errors place entry at =
    let ledger = ledger_after script (take place entries) in
    let stored = stored_after script (writes (take place entries)) in
    ap (λ (l : Ledger). l.number) (ledger_next script entries are.whole place entry at)
    ∙ step_number stored ledger entry script
    ∙ ap (λ o. ledger.number + one_of o) (gives_table stored ledger entry (ledger_reply script entries errors place entry at) (are.answered place entry at).wrote)
