-- A thread has announced 0 exactly where it has no call left.
use Rattle.std.proofs.Common.{◌≡◌, ◌≢◌, ◌↔◌, ℕ, suc, zero, ◌+◌, ◌<◌, ◌≤◌, true, false, List, [], ◌∷◌, length, map, take, get_or, set, Option, Some, None, refl, sym, ap, subst, ◌∙◌, arith, cond, inl, inr}
use Rattle.std.specs.Prelude.{All, ◌==◌, slice_get, if◌then◌else◌}
use Rattle.std.specs.Option.{option_map_or}
use Rattle.std.proofs.lemmas.Bool.{cases_lt}
use Rattle.std.proofs.lemmas.Bool.Decides.{eqb_tells}
use Rattle.std.proofs.lemmas.List.{get_or-set_same, get_or-set_other, get_or_past, length-map, take_all}
use Rattle.std.proofs.lemmas.List.Elements.{All-from_get_or}
use Rattle.ft_model.specs.declared.call.Call.{Call}
use Rattle.ft_model.specs.declared.entry.Entry.{Entry}
use Rattle.ft_model.specs.declared.script.ScriptParts.{ScriptParts}
use Rattle.ft_model.specs.declared.script.Thread.{Thread}
use Rattle.ft_model.specs.Histories.{calls_of, entries_of, writes, IsWhole}
use Rattle.ft_model.specs.TableUses.{StoredWorld, stored_after}
use Rattle.ft_history.proofs.HistoryPlaces.{by_places, take_next}
use Rattle.ft_ledger.specs.Ledgers.{Ledger, announced_first, announced_by, one_fewer, collected, quiesced, left, with_retired, with_taken, is_out_of, taken_or_lacked, class_had, wanted, given_up, is_quiesce, ledger_call, ledger_answer, is_last_of, ledger_step, ledger_after}
use Rattle.ft_ledger.specs.LedgerLaws.{LeavesAfterLast}
use Rattle.ft_ledger.proofs.Places.{made_before, made_less, index_there, made_next}
use Rattle.ft_ledger.proofs.Reached.{has_reached}
use Rattle.ft_ledger.proofs.Steps.{after_push}

-- ---- what a step leaves announced

retired_announced : (thread : ℕ) (had : Option ℕ) (ledger : Ledger) → (with_retired thread had ledger).announced ≡ ledger.announced
retired_announced thread None ledger = refl
retired_announced thread (Some class) ledger = refl

taken_announced : (thread : ℕ) (had : Option ℕ) (class : ℕ) (ledger : Ledger) → (taken_or_lacked thread had class ledger).announced ≡ ledger.announced
taken_announced thread had class ledger =
    elim (is_out_of (collected thread ledger) class) as (λ b. (if b then collected thread ledger else with_taken thread had class (collected thread ledger)).announced ≡ ledger.announced) [
      | true ↦ refl
      | false ↦ retired_announced thread had (record (collected thread ledger) { free = one_fewer (collected thread ledger).free class })
    ]

pub call_announced : (stored : StoredWorld) (ledger : Ledger) (entry : Entry) → (ledger_call stored ledger entry).announced ≡ ledger.announced
call_announced stored ledger entry =
    elim (wanted stored entry) as (λ o. (option_map_or (λ class. taken_or_lacked entry.thread (class_had stored.tables entry.call) class ledger) o (with_retired entry.thread (given_up stored entry) ledger)).announced ≡ ledger.announced) [
      | None ↦ retired_announced entry.thread (given_up stored entry) ledger
      | Some class ↦ taken_announced entry.thread (class_had stored.tables entry.call) class ledger
    ]

-- what the other threads have announced stays, and a thread that has announced a number other than 0 goes on so
pub answer_others : (stored : StoredWorld) (ledger : Ledger) (entry : Entry) (thread : ℕ) → thread ≢ entry.thread → announced_by (ledger_answer stored ledger entry) thread ≡ announced_by ledger thread
answer_others stored ledger entry thread other =
    elim (is_quiesce entry.call) as (λ b. announced_by (if b then quiesced entry.thread ledger else ledger_call stored ledger entry) thread ≡ announced_by ledger thread) [
      | true ↦ get_or-set_other ledger.announced entry.thread thread ledger.number 0 other
      | false ↦ ap (λ (ns : List ℕ). get_or ns thread 0) (call_announced stored ledger entry)
    ]

pub within_announced : (announced : List ℕ) (thread : ℕ) → get_or announced thread 0 ≢ 0 → thread < length announced
within_announced announced thread some =
    elim (cases_lt thread (length announced)) [
      | inl low ↦ low
      | inr past ↦ absurd (some (get_or_past announced thread 0 past))
    ]

pub answer_some : (stored : StoredWorld) (ledger : Ledger) (entry : Entry) → 1 ≤ ledger.number → announced_by ledger entry.thread ≢ 0 → announced_by (ledger_answer stored ledger entry) entry.thread ≢ 0
answer_some stored ledger entry first some =
    elim (is_quiesce entry.call) as (λ b. announced_by (if b then quiesced entry.thread ledger else ledger_call stored ledger entry) entry.thread ≢ 0) [
      | true ↦ λ none.
          let same = get_or-set_same ledger.announced entry.thread ledger.number 0 (within_announced ledger.announced entry.thread some) in
          omega (arith, same, none, first)
      | false ↦ λ none. some (ap (λ (ns : List ℕ). get_or ns entry.thread 0) (sym (call_announced stored ledger entry)) ∙ none)
    ]

zero_there : (ns : List ℕ) (place : ℕ) → get_or (set ns place 0) place 0 ≡ 0
zero_there [] place = refl
zero_there (n ∷ ns) zero = refl
zero_there (n ∷ ns) (suc place) = zero_there ns place

-- ---- one entry further

abbrev ZeroAt : Ledger → ℕ → ℕ → ℕ → Type 0
ZeroAt ledger thread calls made = (announced_by ledger thread ≡ 0) ↔ (calls ≤ made)

module _ (script : ScriptParts) (stored : StoredWorld) (ledger : Ledger) (entry : Entry) (made : ℕ) (first : 1 ≤ ledger.number) (index : entry.index ≡ made + 1) (less : made < length (calls_of script entry.thread)) where
  own_step : announced_by ledger entry.thread ≢ 0 → ZeroAt (ledger_step script stored ledger entry) entry.thread (length (calls_of script entry.thread)) (made + 1)
  own_step some =
      let after = ledger_answer stored ledger entry in
      let going = answer_some stored ledger entry first some in
      elim (eqb_tells entry.index (length (calls_of script entry.thread))) [
        | inl last ↦ subst (λ b. ZeroAt (if b then left entry.thread after else after) entry.thread (length (calls_of script entry.thread)) (made + 1)) (sym last.0)
            (λ _. (let same = last.1 in omega arith), λ _. zero_there after.announced entry.thread)
        | inr more ↦ subst (λ b. ZeroAt (if b then left entry.thread after else after) entry.thread (length (calls_of script entry.thread)) (made + 1)) (sym more.0)
            (λ none. absurd (going none), λ all. absurd (more.1 (omega arith)))
      ]

  other_step : (thread : ℕ) → thread ≢ entry.thread → announced_by (ledger_step script stored ledger entry) thread ≡ announced_by ledger thread
  other_step thread other =
      let after = ledger_answer stored ledger entry in
      elim (is_last_of script entry) as (λ b. announced_by (if b then left entry.thread after else after) thread ≡ announced_by ledger thread) [
        | true ↦ get_or-set_other after.announced entry.thread thread 0 0 other ∙ answer_others stored ledger entry thread other
        | false ↦ answer_others stored ledger entry thread other
      ]

-- ---- over all entries

announced_at_start : (threads : List Thread) (thread : ℕ) → (get_or (map announced_first threads) thread 0 ≡ 0) ↔ (length (option_map_or (λ (found : Thread). found.calls) (slice_get threads thread) []) ≤ 0)
announced_at_start [] thread = (λ _. omega arith, λ _. refl)
announced_at_start (first ∷ threads) zero =
    elim (eqb_tells (length first.calls) 0) [
      | inl none ↦ subst (λ b. (cond {A = ℕ} b 0 1 ≡ 0) ↔ (length first.calls ≤ 0)) (sym none.0) (λ _. (let same = none.1 in omega arith), λ _. refl)
      | inr some ↦ subst (λ b. (cond {A = ℕ} b 0 1 ≡ 0) ↔ (length first.calls ≤ 0)) (sym some.0) (λ one. absurd (omega arith), λ few. absurd (some.1 (omega arith)))
    ]
announced_at_start (first ∷ threads) (suc thread) = announced_at_start threads thread

module _ (script : ScriptParts) (entries : List Entry) (whole : IsWhole script entries) where
  pub ledger_next : (place : ℕ) (entry : Entry) → slice_get entries place ≡ Some entry → ledger_after script (take (place + 1) entries) ≡ ledger_step script (stored_after script (writes (take place entries))) (ledger_after script (take place entries)) entry
  ledger_next place entry at = ap (ledger_after script) (take_next entries place entry at) ∙ after_push script (take place entries) entry

  leaves_next : (place : ℕ) (entry : Entry) → slice_get entries place ≡ Some entry → ((thread : ℕ) → LeavesAfterLast script entries place thread) → (thread : ℕ) → LeavesAfterLast script entries (place + 1) thread
  leaves_next place entry at so_far thread =
      let ledger = ledger_after script (take place entries) in
      let stored = stored_after script (writes (take place entries)) in
      let first = (has_reached script (take place entries)).first in
      let made = made_before entries place entry.thread in
      let index = index_there script entries whole place entry at in
      let less = made_less script entries whole place entry at in
      let next = made_next script entries whole place entry at thread in
      subst (λ (l : Ledger). (announced_by l thread ≡ 0) ↔ (length (calls_of script thread) ≤ made_before entries (place + 1) thread)) (sym (ledger_next place entry at))
      (subst (λ n. ZeroAt (ledger_step script stored ledger entry) thread (length (calls_of script thread)) n) (sym next)
      (elim (eqb_tells entry.thread thread) [
        | inl same ↦
            subst (λ t. ZeroAt (ledger_step script stored ledger entry) t (length (calls_of script t)) (made_before entries place t + (if entry.thread == thread then 1 else 0))) same.1
            (subst (λ b. ZeroAt (ledger_step script stored ledger entry) entry.thread (length (calls_of script entry.thread)) (made + (if b then 1 else 0))) (sym same.0)
            (own_step script stored ledger entry made first index less (λ none. let all = (so_far entry.thread).0 none in absurd (omega (arith, all, less)))))
        | inr differ ↦
            subst (λ b. ZeroAt (ledger_step script stored ledger entry) thread (length (calls_of script thread)) (made_before entries place thread + (if b then 1 else 0))) (sym differ.0)
            (let same = other_step script stored ledger entry made first index less thread (λ e. differ.1 (sym e)) in
            let old = so_far thread in
            (λ none. (let few = old.0 (sym same ∙ none) in omega (arith, few)), λ few. same ∙ old.1 (omega (arith, few))))
      ]))

  pub leaves_after_last : (place thread : ℕ) → place ≤ length entries → LeavesAfterLast script entries place thread
  leaves_after_last place thread within =
      by_places (λ n. (u : ℕ) → LeavesAfterLast script entries n u) entries (λ u. announced_at_start script.threads u) leaves_next place within thread

  pub all_leave : All (λ number. number ≡ 0) (ledger_after script entries).announced
  all_leave =
      let end = length entries in
      All-from_get_or (λ number. number ≡ 0) (ledger_after script entries).announced 0
      (λ thread low.
      let last = leaves_after_last end thread (omega arith) in
      let whole_list : take end entries ≡ entries = take_all end entries (omega arith) in
      subst (λ (es : List Entry). announced_by (ledger_after script es) thread ≡ 0) whole_list (last.1 (all_made thread)))
    where
      all_made : (thread : ℕ) → length (calls_of script thread) ≤ made_before entries (length entries) thread
      all_made thread =
          let all = ap (λ (cs : List Call). length cs) (whole.calls thread) in
          let same = length-map (entries_of thread entries) (λ (e : Entry). e.call) in
          let list = ap (λ (es : List Entry). length (entries_of thread es)) (take_all (length entries) entries (omega arith)) in
          omega (arith, all, same, list)
