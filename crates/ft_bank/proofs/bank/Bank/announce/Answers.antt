use Rattle.std.proofs.Common.{◌+◌, arith, sym, subst}
use Rattle.ft_trace.specs.Addresses.{announced_of}
use Rattle.ft_trace.proofs.Addresses.{at_low}
use Rattle.ft_bank.specs.Passes.{view, shape_of}
use Rattle.ft_bank.proofs.ReuseSteps.{number_small, announce_ready, announce_boxes}
use Rattle.ft_bank.specs.SameBoxes.{SameBoxes}
use Rattle.ft_bank.proofs.bank.Bank.announce.Goals as goal

pub announced_word-word-requires : goal.announced_word-word-requires
announced_word-word-requires c = let p = c.args.pass.now in let n = number_small p.seat.me.0 p.possible in omega (arith, n, p.numbered)

pub store_as-requires-clause-word : goal.store_as-requires-clause-word
store_as-requires-clause-word c =
    let p = c.args.pass.now in
    let n = number_small p.seat.me.0 p.possible in
    let l = at_low (shape_of c.args.self.now) (announced_of (p.number + 1)) (omega arith, omega (arith, n, p.numbered)) in
    omega (arith, l, c.announced_word-word.ensures)

pub store_as-requires-clause-ready : goal.store_as-requires-clause-ready
store_as-requires-clause-ready c =
    let p = c.args.pass.now in
    announce_ready (view p) c.announced_word-word.result (c.from-own.result + 1) c.args.number (omega (arith, c.from-own.ensures, p.numbered)) (omega arith) c.requires.may

pub returns-clause-boxes : goal.returns-clause-boxes
returns-clause-boxes c =
    let v = view c.args.pass.now in
    subst (SameBoxes v) (sym c.store_as.ensures.did.1) (announce_boxes v _ _ c.store_as.ensures.acted)
