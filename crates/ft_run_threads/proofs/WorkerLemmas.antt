-- Workers in their order, new ones, and those that are taken in.
use Rattle.std.proofs.Common.{◌≡◌, Bool, true, false, true≢false, ◌+◌, ◌<◌, ◌≤◌, ℕ, zero, suc, List, [], ◌∷◌, ◌++◌, length, map, refl, sym, ap, ◌∙◌, subst, arith, None}
use Rattle.std.specs.Prelude.{Option, not, slice_index_or, vec_capacity}
use Rattle.std.proofs.lemmas.List.{length-replicate}
use Rattle.ft_model.specs.declared.cursor.Cursor.{Cursor}
use Rattle.ft_model.specs.declared.entry.Entry.{Entry as NamedEntry}
use Rattle.ft_model.specs.declared.script.ScriptParts.{ScriptParts}
use Rattle.ft_model.specs.Histories.{calls_of}
use Rattle.ft_model.specs.Limits.{most_cursors}
use Rattle.ft_bank.specs.Passes.{view}
use Rattle.ft_engine.specs.declared.caller.Caller.{Caller}
use Rattle.ft_engine.specs.declared.engine.Engine.{Engine}
use Rattle.ft_engine.specs.Callers.{IsFreshCaller, pass_of}
use Rattle.ft_engine.specs.Keeping.{WasAnswered}
use Rattle.ft_engine.proofs.NewCallers.{new_kept}
use Rattle.ft_run_threads.specs.declared.workers.Worker.{Worker}
use Rattle.ft_run_threads.specs.Workers.{AreEach, AreFrom, HasTakenIn, IsMember, IsAtStart}
use Rattle.ft_trace.specs.Acts.{presence_of}

-- ---- orders

pub from_push : (P : ℕ → Worker → Type 0) (thread : ℕ) (ws : List Worker) (w : Worker) → AreFrom P thread ws → P (thread + length ws) w → AreFrom P thread (ws ++ w ∷ [])
from_push P thread [] w are is = (subst (λ (n : ℕ). P n w) (let e : thread + 0 ≡ thread = omega arith in e) is, tt)
from_push P thread (x ∷ ws) w are is =
    (are.0, from_push P (suc thread) ws w are.1 (subst (λ (n : ℕ). P n w) (let e : thread + length (x ∷ ws) ≡ suc thread + length ws = omega arith in e) is))

each_at : (P : ℕ → Worker → Type 0) (from : ℕ) (ws : List Worker) → AreFrom P from ws → (thread : ℕ) (w : Worker) → thread < length ws → P (from + thread) (slice_index_or ws thread w)
each_at P from [] are thread w low = absurd (omega (arith, low))
each_at P from (x ∷ ws) are zero w low = subst (λ (n : ℕ). P n x) (let e : from ≡ from + 0 = omega arith in e) are.0
each_at P from (x ∷ ws) are (suc thread) w low =
    subst (λ (n : ℕ). P n (slice_index_or ws thread w)) (let e : suc from + thread ≡ from + suc thread = omega arith in e) (each_at P (suc from) ws are.1 thread w (omega (arith, low)))

pub each_from : (P : ℕ → Worker → Type 0) (ws : List Worker) → AreFrom P 0 ws → AreEach P ws
each_from P ws are thread w low = subst (λ (n : ℕ). P n (slice_index_or ws thread w)) (let e : 0 + thread ≡ thread = omega arith in e) (each_at P 0 ws are thread w low)

all_at : (P : ℕ → Worker → Type 0) (from : ℕ) (ws : List Worker) → ((thread : ℕ) (w : Worker) → thread < length ws → P (from + thread) (slice_index_or ws thread w)) → AreFrom P from ws
all_at P from [] each = tt
all_at P from (x ∷ ws) each = (
  subst (λ (n : ℕ). P n x) (let e : from + 0 ≡ from = omega arith in e) (each 0 x (omega arith)),
  all_at P (suc from) ws
      (λ thread w low.
      subst (λ (n : ℕ). P n (slice_index_or ws thread w)) (let e : from + suc thread ≡ suc from + thread = omega arith in e) (each (suc thread) w (omega (arith, low)))),
)

pub from_each : (P : ℕ → Worker → Type 0) (ws : List Worker) → AreEach P ws → AreFrom P 0 ws
from_each P ws each = all_at P 0 ws (λ thread w low. subst (λ (n : ℕ). P n (slice_index_or ws thread w)) (let e : thread ≡ 0 + thread = omega arith in e) (each thread w low))

-- ---- a new worker

pub fresh_new : (e : Engine) (script : ScriptParts) (i : ℕ) (w : Worker) → w.entries.items ≡ [] → length (calls_of script i) ≤ vec_capacity w.entries → IsFreshCaller e most_cursors i w.caller → IsAtStart e script i w
fresh_new e script i w none rows x = (
  record {
    member = record { caller = x.caller; thread = x.thread; next = x.next; parts = x.parts; taken = x.taken };
    idle = x.flight;
    cursors = ap length x.hands ∙ length-replicate {A = Option Cursor} most_cursors None;
    kept = subst (WasAnswered w.caller) (sym none) (new_kept e most_cursors i w.caller x);
    made = ap (map (λ (e : NamedEntry). e.call)) none;
    rows = rows;
  },
  ap presence_of x.log,
)

-- ---- workers that are taken in

pub last_next : (e : Engine) (script : ScriptParts) (c other : Caller) (lists : List (List NamedEntry)) → HasTakenIn e script c lists → IsMember e (length lists) other → (view (pass_of other)).next ≡ 0
last_next e script c other [] taken member = absurd taken.kept
last_next e script c other (own ∷ lists) taken member = member.next

-- what isn't false
pub not_not : (b : Bool) → not b ≡ false → b ≡ true
not_not true is = refl
not_not false is = absurd (true≢false is)
