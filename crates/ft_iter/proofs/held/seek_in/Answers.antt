use Rattle.std.proofs.Common.{ℕ, List, ◌∷◌, subst}
use Rattle.ft_bank.specs.Passes.{view}
use Rattle.ft_trace.specs.Holds.{held_unboxed}
use Rattle.ft_iter.specs.Seeking.{GivesPair}
use Rattle.ft_iter.proofs.held.seek_in.Goals as goal

pub returns-clause-gives : goal.returns-clause-gives
returns-clause-gives c =
    let words : List ℕ = 0 ∷ 0 ∷ (held_unboxed c.args.o (view c.args.pass.now)).table in
    subst (λ (z : ℕ). GivesPair z words c.args.fill c.args.after c.seek_pair.result) c.mask_of-mask.ensures c.seek_pair.ensures.gives
