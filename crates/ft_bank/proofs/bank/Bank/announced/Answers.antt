use Rattle.std.proofs.Common.{◌+◌, arith, sym, subst}
use Rattle.ft_trace.specs.Addresses.{announced_of}
use Rattle.ft_trace.proofs.Addresses.{at_low}
use Rattle.ft_bank.specs.Passes.{shape_of, view}
use Rattle.ft_bank.specs.Takings.{KeepsBut, Each}
use Rattle.ft_bank.proofs.ReuseSteps.{announced_keeps}
use Rattle.ft_bank.proofs.bank.Bank.announced.Goals as goal

pub load_as-requires-clause-word : goal.load_as-requires-clause-word
load_as-requires-clause-word c =
    let m = c.args.self.now.fits.passes.1 in
    let o = c.requires.other in
    let l = at_low (shape_of c.args.self.now) (announced_of (c.args.other + 1)) (omega arith, omega (arith, o, m)) in
    omega (arith, l, c.announced_word-word.ensures)

pub returns-clause-keeps : goal.returns-clause-keeps
returns-clause-keeps c =
    let v = view c.args.pass.now in
    subst (KeepsBut Each v) (sym c.load_as.ensures.did.1) (announced_keeps v _ c.load_as.result c.load_as.ensures.acted)
