-- A box that no write has stored yet: no container names it that its maker doesn't write.
use Rattle.std.proofs.Common.{◌≡◌, ℕ, ◌≤◌, ◌<◌, true, false, true≢false, sym, ap, ◌∙◌, ⊎_elim, arith}
use mathlib.Core.Logic.{dite}
use mathlib.Core.Option.{some-injective}
use lib.ListN.{get_elem?}
use native.Mathlib.Decide.{ℕ_discrete}
use Rattle.std.proofs.Math.Bridge.{le_prop}
use Rattle.std.proofs.Math.Logic.{∥∥₁_elim}
use Rattle.ft_trace.specs.declared.View.{View}
use Rattle.ft_trace.specs.Acts.{has_lock, is_writing, mem}
use Rattle.ft_trace.specs.Addresses.{container_count}
use Rattle.ft_trace.specs.Boxes.{named_in_container, place_use}
use Rattle.ft_trace.specs.ContainerStates.{kind_in}
use Rattle.ft_trace.specs.Holds.{held_words}
use Rattle.ft_trace.specs.Traces.{run, IsReachable}
use Rattle.ft_trace.proofs.Locks.{one_holder}
use Rattle.ft_trace.proofs.NamedBoxes.{named_known}
use Rattle.ft_trace.proofs.OddVersions.{writer_has}
use Rattle.ft_trace.proofs.PlainPuts.{named_is}
use Rattle.ft_trace.proofs.SeenNames.{stored_at}
use Rattle.ft_trace.proofs.StoredBoxes.{Writes}
use Rattle.ft_bank.specs.SameBoxes.{named_in_words}

module _ (v : View) (o b : ℕ) (possible : ∥ IsReachable v ∥₁) (low : o < container_count v.shape) (mine : has_lock o v.log ≡ true) (even : is_writing o v.log ≡ false) (taken : place_use b v.log ≡ 1) where
  none_now : IsReachable v → named_in_container v.shape b o (mem v.shape v.log) ≡ 0
  none_now x =
      let k = v.shape in
      let es = x.0 in
      let valid = x.2.0 in
      let there = x.2.1 in
      let s = stored_at k b es valid in
      let same = named_known k es valid x.1 v there b o low mine in
      dite (ℕ_discrete (named_in_container k b o (run k es).words) 0)
      (λ (z : named_in_container k b o (run k es).words ≡ 0). same ∙ z)
      (λ ne. ⊎_elim
      (λ was. let two = s.mine x.1 v there ((s.views x.1 v there).maker (λ z. omega (arith, z, taken))) was in absurd (omega (arith, two, taken)))
      (λ (w : Writes k b es o).
      let theirs = writer_has k es valid o w.0 w.1 w.2 w.3 in
      let one = one_holder k es valid o low x.1 w.0 v w.1 there w.2 mine theirs in
      let view_is : v ≡ w.1 = some-injective v w.1 (sym there ∙ (ap (λ (i : ℕ). get_elem? (run k es).views i) one ∙ w.2)) in
      absurd (true≢false (sym (ap (λ (u : View). is_writing o u.log) view_is ∙ w.3) ∙ even)))
      (s.named o low ne))

  pub taken_unnamed : named_in_words b (kind_in v.shape.starts o) (held_words o v) ≡ 0
  taken_unnamed =
      let none : named_in_container v.shape b o (mem v.shape v.log) ≤ 0 = ∥∥₁_elim {P = named_in_container v.shape b o (mem v.shape v.log) ≤ 0} possible le_prop (λ x. let z = none_now x in omega (arith, z)) in
      let e = named_is v.shape o b (mem v.shape v.log) in
      omega (arith, none, e)
