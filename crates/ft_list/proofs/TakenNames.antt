-- A place that a pass has taken, and in which no write of it has stored a value yet: who names its box.
use Rattle.std.proofs.Common.{◌≡◌, ℕ, ◌<◌, true, false, inl, inr, sym, ap, ◌∙◌, subst, arith}
use Rattle.std.proofs.Math.Logic.{∥∥₁_elim}
use Rattle.std.proofs.Math.Nat.{ℕ_set}
use mathlib.Core.Logic.{dite}
use mathlib.Core.Option.{some-injective}
use lib.ListN.{get_elem?}
use native.Mathlib.Decide.{ℕ_discrete}
use Rattle.ft_trace.specs.declared.View.{View}
use Rattle.ft_trace.specs.Acts.{has_lock, is_writing, mem}
use Rattle.ft_trace.specs.Addresses.{container_count}
use Rattle.ft_trace.specs.Boxes.{named_in_container, place_use, use_taken}
use Rattle.ft_trace.specs.ContainerStates.{kind_in}
use Rattle.ft_trace.specs.Holds.{held_words}
use Rattle.ft_trace.specs.Traces.{run, IsReachable}
use Rattle.ft_trace.proofs.Cases.{off}
use Rattle.ft_trace.proofs.NamedBoxes.{named_known}
use Rattle.ft_trace.proofs.PlainPuts.{named_is}
use Rattle.ft_trace.proofs.Seats.{same_seat}
use Rattle.ft_trace.proofs.SeenNames.{stored_at}
use Rattle.ft_bank.specs.SameBoxes.{named_in_words}

-- no container names its box that the pass has locked, while it writes none
pub taken_unnamed : (v : View) (o b : ℕ) → ∥ IsReachable v ∥₁ → o < container_count v.shape → has_lock o v.log ≡ true → ((p : ℕ) → is_writing p v.log ≡ false) → place_use b v.log ≡ use_taken → named_in_words b (kind_in v.shape.starts o) (held_words o v) ≡ 0
taken_unnamed v o b possible low mine idle taken =
    ∥∥₁_elim {P = named_in_words b (kind_in v.shape.starts o) (held_words o v) ≡ 0} possible (ℕ_set (named_in_words b (kind_in v.shape.starts o) (held_words o v)) 0)
    (λ x.
    let k = v.shape in
    let es = x.0 in
    let all = stored_at k b es x.2.0 in
    let here = all.views x.1 v x.2.1 in
    let mine_is = here.maker (λ z. absurd (omega (arith, taken, z))) in
    let now = named_known k es x.2.0 x.1 v x.2.1 b o low mine in
    dite (ℕ_discrete (named_in_container k b o (run k es).words) 0)
    (λ (z : named_in_container k b o (run k es).words ≡ 0). sym (named_is k o b (mem k v.log)) ∙ (now ∙ z))
    (λ ne. elim (all.named o low ne) [
      | inl e ↦ let two = all.mine x.1 v x.2.1 mine_is e in absurd (omega (arith, two, taken))
      | inr w ↦
          let theirs = (all.views w.0 w.1 w.2).maker (λ z. let one = w.5 in absurd (omega (arith, one, z))) in
          let same = same_seat k es x.2.0 w.0 x.1 w.1 v w.2 x.2.1 (λ z. absurd (omega (arith, z, theirs))) (theirs ∙ sym mine_is) in
          let is : w.1 ≡ v = some-injective w.1 v (sym w.2 ∙ (ap (get_elem? (run k es).views) same ∙ x.2.1)) in
          absurd (off (sym (idle o) ∙ subst (λ (z : View). is_writing o z.log ≡ true) is w.3))
    ]))
