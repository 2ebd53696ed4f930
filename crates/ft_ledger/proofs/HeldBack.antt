-- After an entry at which a thread collects, each retired table of its own is held back.
use Rattle.std.proofs.Common.{◌≡◌, ◌≢◌, ℕ, ◌+◌, ◌<◌, ◌≤◌, true, false, List, length, take, get_or, Option, Some, None, refl, sym, ap, subst, ◌∙◌, arith, inl, inr}
use Rattle.std.specs.Prelude.{Contains, slice_get, if◌then◌else◌}
use Rattle.std.specs.Option.{option_map_or}
use Rattle.std.proofs.lemmas.Bool.{both_ways, eq-eqb}
use Rattle.std.proofs.lemmas.List.{get_or_default}
use Rattle.std.proofs.lemmas.List.Elements.{All-contains_itself, All-push, All-weaker}
use Rattle.ft_model.specs.declared.entry.Entry.{Entry}
use Rattle.ft_model.specs.declared.script.ScriptParts.{ScriptParts}
use Rattle.ft_model.specs.Histories.{IsWhole, calls_of, writes}
use Rattle.ft_model.specs.TableUses.{stored_after}
use Rattle.ft_ledger.specs.Ledgers.{Ledger, Retired, announced_by, class_had, collected, given_up, is_last_of, is_out_of, is_quiesce, ledger_after, ledger_answer, ledger_call, left, one_fewer, quiesced, taken_or_lacked, with_announced, with_retired, with_taken}
use Rattle.ft_ledger.specs.LedgerLaws.{HasReached, HoldsBackOwn, IsHeldBack, Collects}
use Rattle.ft_ledger.proofs.Collections.{collection_keeps}
use Rattle.ft_ledger.proofs.Leaving.{ledger_next, leaves_after_last, within_announced}
use Rattle.ft_ledger.proofs.Places.{made_less}
use Rattle.ft_ledger.proofs.Reached.{has_reached}
use Rattle.std.proofs.lemmas.Option.{slice_get_within}

abbrev OwnHeld : ℕ → Ledger → Retired → Type 0
OwnHeld thread ledger one = one.thread ≡ thread → IsHeldBack ledger one

collected_held : (thread : ℕ) (ledger : Ledger) → HoldsBackOwn thread (collected thread ledger)
collected_held thread ledger =
    All-weaker (Contains (collected thread ledger).retired) (OwnHeld thread (collected thread ledger)) (λ one there. ((collection_keeps thread ledger one).0 there).1)
    (collected thread ledger).retired (All-contains_itself (collected thread ledger).retired)

module _ (thread : ℕ) (ledger : Ledger) (reached : HasReached ledger) (some : announced_by ledger thread ≢ 0) where
  low : announced_by ledger thread ≤ ledger.number
  low = reached.announced thread 0 (within_announced ledger.announced thread some)

  -- a table that the thread retires is held back by what it has announced itself
  retired_held : (had : Option ℕ) (mid : Ledger) → mid.announced ≡ ledger.announced → mid.number ≡ ledger.number → HoldsBackOwn thread mid → HoldsBackOwn thread (with_retired thread had mid)
  retired_held None mid same number held = held
  retired_held (Some class) mid same number held =
      let one : Retired = record { thread = thread; class = class; goal = mid.number + 1 } in
      let within : thread < length mid.announced = subst (λ (ns : List ℕ). thread < length ns) (sym same) (within_announced ledger.announced thread some) in
      let mine = get_or mid.announced thread 0 in
      let is : mine ≡ announced_by ledger thread = ap (λ (ns : List ℕ). get_or ns thread 0) same in
      All-push (OwnHeld thread mid) mid.retired one held
      (λ own. (thread, mine, within, get_or_default mid.announced thread mine 0 within, (λ none. some (sym is ∙ none), (let few = low in omega (arith, few, is, number)))))

  taken_held : (had : Option ℕ) (class : ℕ) → HoldsBackOwn thread (taken_or_lacked thread had class ledger)
  taken_held had class =
      let mid = collected thread ledger in
      elim (is_out_of mid class) as (λ b. HoldsBackOwn thread (if b then mid else with_taken thread had class mid)) [
        | true ↦ collected_held thread ledger
        | false ↦ retired_held had (record mid { free = one_fewer mid.free class }) refl refl (collected_held thread ledger)
      ]

module _ (script : ScriptParts) (entries : List Entry) (whole : IsWhole script entries) (place : ℕ) (entry : Entry) (at : slice_get entries place ≡ Some entry) where
  some_announced : announced_by (ledger_after script (take place entries)) entry.thread ≢ 0
  some_announced none =
      let less = made_less script entries whole place entry at in
      let within = slice_get_within entries place entry at in
      let all = (leaves_after_last script entries whole place entry.thread (omega arith)).0 none in
      omega (arith, less, all)

  answer_held : Collects script (take place entries) entry → is_last_of script entry ≡ false → HoldsBackOwn entry.thread (ledger_answer (stored_after script (writes (take place entries))) (ledger_after script (take place entries)) entry)
  answer_held collects more =
      let stored = stored_after script (writes (take place entries)) in
      let ledger = ledger_after script (take place entries) in
      elim (is_quiesce entry.call) as (λ b. is_quiesce entry.call ≡ b → HoldsBackOwn entry.thread (if b then quiesced entry.thread ledger else ledger_call stored ledger entry)) [
        | true ↦ λ quiesces. collected_held entry.thread (with_announced entry.thread ledger.number ledger)
        | false ↦ λ other.
            elim collects [
              | inl quiesces ↦ absurd (both_ways (is_quiesce entry.call) other (ap is_quiesce quiesces))
              | inr or_else ↦ elim or_else [
                | inl wants ↦ subst (λ o. HoldsBackOwn entry.thread (option_map_or (λ class. taken_or_lacked entry.thread (class_had stored.tables entry.call) class ledger) o (with_retired entry.thread (given_up stored entry) ledger))) (sym wants.1)
                    (taken_held entry.thread ledger (has_reached script (take place entries)) some_announced (class_had stored.tables entry.call) wants.0)
                | inr last ↦ absurd (both_ways (is_last_of script entry) more (eq-eqb entry.index (length (calls_of script entry.thread)) last))
              ]
            ]
      ] refl

  pub own_held : Collects script (take place entries) entry → HoldsBackOwn entry.thread (ledger_after script (take (place + 1) entries))
  own_held collects =
      let stored = stored_after script (writes (take place entries)) in
      let ledger = ledger_after script (take place entries) in
      let after = ledger_answer stored ledger entry in
      subst (HoldsBackOwn entry.thread) (sym (ledger_next script entries whole place entry at))
      (elim (is_last_of script entry) as (λ b. is_last_of script entry ≡ b → HoldsBackOwn entry.thread (if b then left entry.thread after else after)) [
        | true ↦ λ last. collected_held entry.thread (with_announced entry.thread 0 after)
        | false ↦ λ more. answer_held collects more
      ] refl)
