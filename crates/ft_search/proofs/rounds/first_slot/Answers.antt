use Rattle.std.proofs.Common.{◌∷◌, ◌≤◌, ℕ, drop, sym, ap, ◌∙◌, subst}
use Rattle.ft_hash.specs.Probes.{probe_state}
use Rattle.ft_keys.specs.Ways.{walk_slots}
use Rattle.ft_keys.proofs.Ways.{given-next}
use Rattle.ft_search.proofs.WordPlaces.{walk_first}
use Rattle.ft_search.proofs.rounds.first_slot.Goals as goal

pub returns-clause-low : goal.returns-clause-low
unfolding probe_state
returns-clause-low c = subst (λ (z : ℕ). c.next.result ≤ z) (ap (λ p. p.mask) c.new.ensures) c.next.ensures.within

pub returns-clause-first : goal.returns-clause-first
returns-clause-first c way =
    let at = (given-next c.args.hash c.args.mask 0 c.next.result c.new.result c.next.new.self c.new.ensures c.next.ensures.position).0 in
    walk_first way c.args.hash c.args.mask ∙ ap (λ (z : ℕ). z ∷ drop 1 (walk_slots way c.args.hash c.args.mask)) (sym at)
