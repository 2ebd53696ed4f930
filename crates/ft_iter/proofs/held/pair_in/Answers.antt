use Rattle.std.proofs.Common.{◌≡◌, ℕ, [], ◌∷◌, Some, subst}
use Rattle.std.specs.Prelude.{◌↔◌, slice_index}
use Rattle.ft_layout.specs.declared.slot.Slot.TheVariants.{Live}
use Rattle.ft_layout.specs.Words.{IsEntry}
use Rattle.ft_iter.proofs.held.pair_in.Goals as goal

pub returns-clause-looks : goal.returns-clause-looks
returns-clause-looks c = let l = c.read_value-kind.ensures.looks in (l.0, l.1, l.2)

pub returns-clause-says : goal.returns-clause-says
returns-clause-says c pair =
    let e = c.read_value-kind.ensures in
    let found = c.args.found in
    subst (λ (z : ℕ × ℕ). IsEntry (slice_index (0 ∷ (found.hash ∷ (found.key_kind ∷ (found.key ∷ (z.0 ∷ (z.1 ∷ (found.serial ∷ (0 ∷ []))))))))) (Live pair) ↔ (c.live_pair.result ≡ Some pair))
    (λ d. (e.kind d, e.payload d)) (c.live_pair.ensures pair)
