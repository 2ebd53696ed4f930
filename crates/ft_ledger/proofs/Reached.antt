-- Goals and announced numbers are write numbers that were reached.
use Rattle.std.proofs.Common.{ℕ, ◌+◌, ◌<◌, ◌≤◌, List, length, get_or, arith}
use Rattle.std.specs.Prelude.{not, ◌==◌}
use Rattle.std.proofs.lemmas.Bool.{cond_both}
use Rattle.std.proofs.lemmas.List.Elements.{All-nil, All-set, All-push, All-weaker, All-filter, All-map}
use Rattle.std.proofs.lemmas.List.Kept.{AllPairs-filter}
use Rattle.std.proofs.lemmas.List.Quantifiers.{all_pairs_push}
use Rattle.ft_model.specs.declared.entry.Entry.{Entry}
use Rattle.ft_model.specs.declared.script.ScriptParts.{ScriptParts}
use Rattle.ft_model.specs.declared.script.Thread.{Thread}
use Rattle.ft_ledger.specs.Ledgers.{Retired, announced_first, is_due, start_ledger, ledger_after}
use Rattle.ft_ledger.specs.LedgerLaws.{HasReached}
use Rattle.ft_ledger.proofs.Steps.{IsKeptBySteps, after_keeps}

abbrev Within : ℕ → Retired → Type 0
Within number one = (2 ≤ one.goal) × (one.goal ≤ number)

abbrev IsBefore : Retired → Retired → Type 0
IsBefore earlier later = earlier.goal < later.goal

goals_up : (number : ℕ) (one : Retired) → Within number one → Within (number + 1) one
goals_up number one within = (within.0, omega arith)

reached_by_steps : IsKeptBySteps HasReached
reached_by_steps =
    record {
      announces = λ thread ledger is.
          record {
            first = is.first;
            goals = is.goals;
            rising = is.rising;
            announced = All-set (λ (n : ℕ). n ≤ ledger.number) ledger.announced thread ledger.number (omega arith) is.announced;
          };
      leaves = λ thread ledger is.
          record {
            first = is.first;
            goals = is.goals;
            rising = is.rising;
            announced = All-set (λ (n : ℕ). n ≤ ledger.number) ledger.announced thread 0 (omega arith) is.announced;
          };
      collects = λ thread ledger is.
          record {
            first = is.first;
            goals = All-filter (λ (one : Retired). not (is_due thread ledger.announced one)) (Within ledger.number) ledger.retired is.goals;
            rising = AllPairs-filter IsBefore (λ (one : Retired). not (is_due thread ledger.announced one)) ledger.retired is.rising;
            announced = is.announced;
          };
      retires = λ thread class ledger is.
          let one : Retired = record { thread = thread; class = class; goal = ledger.number + 1 } in
          let number : ℕ = ledger.number in
          let first : 1 ≤ number = is.first in
          record {
            first = omega arith;
            goals = All-push (Within (ledger.number + 1)) ledger.retired one (All-weaker (Within ledger.number) (Within (ledger.number + 1)) (goals_up ledger.number) ledger.retired is.goals) (omega arith, omega arith);
            rising = all_pairs_push IsBefore ledger.retired one is.rising (λ k d low. let within = (is.goals k d low).1 in omega arith);
            announced = All-weaker (λ (n : ℕ). n ≤ ledger.number) (λ (n : ℕ). n ≤ ledger.number + 1) (λ n low. omega arith) ledger.announced is.announced;
          };
      takes = λ class ledger is. record { first = is.first; goals = is.goals; rising = is.rising; announced = is.announced };
    }

first_announced : (thread : Thread) → announced_first thread ≤ 1
first_announced thread = cond_both (length thread.calls == 0) 0 1 (λ n. n ≤ 1) (λ _. omega arith) (λ _. omega arith)

reached_at_start : (script : ScriptParts) → HasReached (start_ledger script)
reached_at_start script =
    record {
      first = omega arith;
      goals = All-nil (Within 1);
      rising = λ i j d low within. absurd (omega arith);
      announced = All-map (λ (n : ℕ). n ≤ 1) announced_first script.threads (λ k d low. first_announced (get_or script.threads k d));
    }

pub has_reached : (script : ScriptParts) (entries : List Entry) → HasReached (ledger_after script entries)
has_reached script entries = after_keeps HasReached reached_by_steps script entries (reached_at_start script)
