-- Two containers that a call names: their locks, of which it takes the lower one first, and how many keys they have.
use Rattle.std.proofs.Common.{◌≡◌, ℕ, ◌<◌, Bool, true, false, [], ◌∷◌, refl, ap, ◌∙◌}
use Rattle.std.specs.Prelude.{◌||◌, cond, map, nat_lt, if◌then◌else◌}
use Rattle.std.specs.List.{list_any}
use Rattle.ft_model.specs.declared.content.Content.{Content}
use Rattle.ft_model.specs.TableUses.{passes_cap}
use Rattle.ft_trace.specs.declared.Shape.{Shape}
use Rattle.ft_trace.specs.declared.View.{View}
use Rattle.ft_trace.specs.Acts.{has_lock}
use Rattle.ft_trace.specs.Addresses.{container_count}
use Rattle.ft_section.specs.declared.answers.Objects.TheVariants.{Two}
use Rattle.ft_section.specs.LockTakings.{AreIn, HasLocks}

pub has_each : (v : View) (a b : ℕ) → HasLocks v (Two a b) → (has_lock a v.log ≡ true) × (has_lock b v.log ≡ true)
has_each v a b h = by (nat_lt b a) h
  where
    by : (c : Bool) → (has_lock (if c then b else a) v.log ≡ true) × (has_lock (if c then a else b) v.log ≡ true) → (has_lock a v.log ≡ true) × (has_lock b v.log ≡ true)
    by true x = (x.1, x.0)
    by false x = x

pub are_in : (k : Shape) (a b : ℕ) → a < container_count k → b < container_count k → AreIn k (Two a b)
are_in k a b low high = by (nat_lt b a)
  where
    by : (c : Bool) → ((if c then b else a) < container_count k) × ((if c then a else b) < container_count k)
    by true = (high, low)
    by false = (low, high)

-- whether one of two containers has too many, where the other one hasn't if the first has few; or of one named twice
pub named_cap : (f : ℕ → Content) (s t : ℕ) (b over : Bool) → passes_cap (f s) ≡ over → (over ≡ false → passes_cap (f t) ≡ false) → list_any passes_cap (map f (cond b (s ∷ []) (s ∷ t ∷ []))) ≡ over
named_cap f s t true over one other = ap (λ (z : Bool). z || false) one ∙ by over
  where
    by : (z : Bool) → (z || false) ≡ z
    by true = refl
    by false = refl
named_cap f s t false true one other = ap (λ (z : Bool). z || (passes_cap (f t) || false)) one
named_cap f s t false false one other = λ i. one i || (other refl i || false)
