-- MemoryErrors, at a load of the counter.
use Rattle.std.proofs.Common.{◌≡◌, ℕ, ◌<◌, ◌≤◌, true, false, List, [], ◌∷◌, refl, ap}
use Rattle.std.specs.Prelude.{Some}
use Rattle.ft_model.specs.declared.call.Call.{Call}
use Rattle.ft_model.specs.declared.reply.Reply.{Reply}
use Rattle.ft_model.specs.declared.reply.Reply.TheVariants as reply
use Rattle.ft_model.specs.declared.reply.Raise.TheVariants as raise
use Rattle.ft_model.specs.TableUses.{StoredWorld, CanLackMemory, takes_in, would_pass}
use Rattle.ft_trace.specs.declared.Act.{Act}
use Rattle.ft_trace.specs.declared.Act.TheVariants.{ReadCounter, ReadCount, Answer}
use Rattle.ft_trace.specs.declared.View.{View}
use Rattle.ft_trace.specs.Acts.{view_after, owes, shown}
use Rattle.ft_trace.specs.Causes.{CanLackPlace, HeapIsFull}
use Rattle.ft_trace.specs.Traces.{IsReachable}
use Rattle.ft_bank.specs.Answered.{Answered}
use Rattle.ft_bank.specs.Reads.{IsShown}
use Rattle.ft_bank.specs.WriteSteps.{MayHave}
use Rattle.ft_bank.proofs.ShownReplies.{heap_errors_are_shown, memory_errors_are_shown, overs_are_shown}
use Rattle.ft_bank.proofs.BoxedSteps.{boxes_same}
use Rattle.ft_bank.proofs.KnownAfterWrites.{same_work}
use Rattle.ft_search.proofs.Asking.{answered_locked}

-- an entry at a load of the counter
pub answered_at : (v w : View) (called : Call) (said : Reply) (n : ℕ) → w ≡ view_after (Answer called said n) (view_after (ReadCounter n) v) → v.learnt ≤ shown v.log → ∥ IsReachable w ∥₁ → Answered called said n v w
answered_at v w called said n is settled possible = answered_locked v v w called said n [] (record { work = same_work v; words = refl; unboxed = λ p low mine. refl; boxes = boxes_same v }) refl is settled possible

module _ (v : View) (n : ℕ) where
  abbrev after : View
  after = view_after (ReadCounter n) v

  -- a load leaves what the bank may have
  pub has_before : (stored : StoredWorld) → MayHave after stored → MayHave v stored
  has_before stored has = record { agrees = has.agrees; containers = has.containers; kinds = has.kinds; order = has.order; unsplit = has.unsplit; words = has.words }

  pub no_table_shown : (called : Call) (class : ℕ) (rest : List Act) → 0 < v.left → v.log ≡ ReadCount class 0 ∷ rest → owes rest ≡ 0
      → ((stored : StoredWorld) → MayHave v stored → CanLackMemory stored.world called × (would_pass stored.world called ≡ false) × (takes_in stored called ≡ Some class))
      → IsShown after called (reply.Raised (raise.Memory class)) n
  no_table_shown called class rest left log none lacks =
      memory_errors_are_shown after called class n
      (record { left = left; newer = []; rest = v.log; is = refl; own = tt; locks = tt })
      (record { newer = []; mid = []; rest = rest; is = (λ d. ReadCounter n ∷ log d); own = (tt, tt); none = none })
      (λ stored has. lacks stored (has_before stored has))

  pub over_shown : (called : Call) → 0 < v.left
      → ((stored : StoredWorld) → MayHave v stored → CanLackMemory stored.world called × (would_pass stored.world called ≡ true))
      → IsShown after called (reply.Raised raise.Over) n
  over_shown called left over =
      overs_are_shown after called n
      (record { left = left; newer = []; rest = v.log; is = refl; own = tt; locks = tt })
      (λ stored has. over stored (has_before stored has))

  -- a load of the counter leaves it that the heap was found full
  full_on : HeapIsFull v.shape v.number v.log → HeapIsFull v.shape v.number after.log
  full_on full = record {
    words = λ w low. let f = full.words w low in record { newer = ReadCounter n ∷ f.newer; rest = f.rest; is = ap (λ (l : List Act). ReadCounter n ∷ l) f.is; own = f.own; kept = f.kept };
    untaken = full.untaken;
  }

  pub full_shown : (called : Call) → 0 < v.left → HeapIsFull v.shape v.number v.log
      → ((stored : StoredWorld) → MayHave v stored → CanLackPlace stored.world called × (would_pass stored.world called ≡ false))
      → IsShown after called (reply.Raised raise.Heap) n
  full_shown called left full lacks =
      heap_errors_are_shown after called n
      (record { left = left; newer = []; rest = v.log; is = refl; own = tt; locks = tt })
      (full_on full)
      (λ stored has. lacks stored (has_before stored has))
