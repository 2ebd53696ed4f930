-- What the making of a box finds that finds no free place: the heap of the pass is full.
use Rattle.std.proofs.Common.{◌≡◌, ◌≢◌, ◌⊎◌, ⊎_elim, ℕ, zero, suc, ◌-◌, ◌/◌, ◌<◌, List, [], ◌∷◌, ◌++◌, refl, sym, ap, ◌∙◌, subst, arith}
use mathlib.Core.Logic.{dite}
use native.Mathlib.Decide.{ℕ_discrete}
use Rattle.ft_trace.specs.declared.Act.{Act}
use Rattle.ft_trace.specs.declared.Act.TheVariants.{ReadFreePlaces}
use Rattle.ft_trace.specs.declared.Shape.{Shape}
use Rattle.ft_trace.specs.declared.View.{View}
use Rattle.ft_trace.specs.Boxes.{place_use, use_taken}
use Rattle.ft_trace.specs.Causes.{FoundNoPlace, HeapIsFull}
use Rattle.ft_bank.specs.SameBoxes.{SameBoxes}
use Rattle.ft_boxes.specs.Making.{FoundHeapFull, FoundOneFull, full_loads}

-- among the loads of so many words is that of each
found_in : (q n i : ℕ) (rest : List Act) → i < n → FoundNoPlace q i (full_loads q n ++ rest)
found_in q zero i rest low = absurd (omega (arith, low))
found_in q (suc n) i rest low =
    dite (ℕ_discrete i n)
    (λ (e : i ≡ n). subst (λ (z : ℕ). FoundNoPlace q z (full_loads q (suc n) ++ rest)) (sym e) (record { newer = []; rest = full_loads q n ++ rest; is = refl; own = tt; kept = tt }))
    (λ ne.
    let f = found_in q n i rest (omega (arith, low, ne)) in
    record { newer = ReadFreePlaces q n 0 ∷ f.newer; rest = f.rest; is = ap (λ (l : List Act). ReadFreePlaces q n 0 ∷ l) f.is; own = f.own; kept = f.kept })

own_number : (v x : View) → (x ≡ v) ⊎ FoundOneFull v x → x.number ≡ v.number
own_number v x before = ⊎_elim (λ (e : x ≡ v). ap (λ (z : View). z.number) e) (λ (f : FoundOneFull v x). ap (λ (z : View). z.number) f.1) before

pub heap_full : (v w : View) → FoundHeapFull v w → SameBoxes v w → w.shape ≡ v.shape → w.number ≡ v.number → ((b : ℕ) → place_use b v.log ≢ use_taken) → HeapIsFull w.shape w.number w.log
heap_full v w found same shape number untaken = record {
  words = λ i low.
      let within : i < v.shape.heap / 64 = subst (λ (k : Shape). i < k.heap / 64) shape low in
      let x = found.0 in
      subst (λ (z : ℕ). FoundNoPlace (z - 1) i w.log) (sym (number ∙ sym (own_number v x found.1)))
      (subst (FoundNoPlace (x.number - 1) i) (sym found.2) (found_in (x.number - 1) (v.shape.heap / 64) i x.log within));
  untaken = λ b taken. untaken b (sym (same.made.uses b) ∙ taken);
}
