-- Passes of a new bank, from the last one on.
use Rattle.std.proofs.Common.{◌≡◌, ℕ, suc, List, [], ◌∷◌, ◌++◌}
use Rattle.ft_bank.specs.declared.bank.Bank.{Bank}
use Rattle.ft_bank.specs.declared.pass.Pass.{Pass}
use Rattle.ft_bank.specs.NewPasses.{IsOpening, AreOpening}

pub opening_front : (b : Bank) (i : ℕ) (ps : List Pass) (p : Pass) → AreOpening b i (ps ++ p ∷ []) → AreOpening b i ps
opening_front b i [] p h = tt
opening_front b i (q ∷ qs) p h = (h.0, opening_front b (suc i) qs p h.1)

pub opening_last : (b : Bank) (i : ℕ) (ps : List Pass) (p : Pass) → AreOpening b i (ps ++ p ∷ []) → (j : ℕ) × IsOpening b j p
opening_last b i [] p h = (i, h.0)
opening_last b i (q ∷ qs) p h = opening_last b (suc i) qs p h.1
