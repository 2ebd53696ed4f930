use Rattle.std.proofs.Common.{◌≡◌, length}
use Rattle.ft_bank.specs.NewPasses.{HasMade, AreOpening}
use Rattle.ft_bank.specs.Passes.{shape_of, view, IsPassOf}
use Rattle.ft_bank.specs.PassSections.{stack_of, no_sections}
use Rattle.ft_bank.proofs.bank.Bank.others.Given as goal

-- the first pass has made as many others
abbrev pub invariant-loop : goal.invariant-loop
invariant-loop l =
    IsPassOf l.self l.first
    × HasMade (shape_of l.self) l.counter (view l.first)
    × (stack_of l.first ≡ no_sections)
    × (length l.passes.items ≡ l.counter)
    × AreOpening l.self 1 l.passes.items
