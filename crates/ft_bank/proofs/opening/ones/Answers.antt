use Rattle.std.proofs.Common.{◌<◌, ◌^◌, arith}
use Rattle.std.proofs.Math.Pow.{pow-lt}
use Rattle.ft_bank.proofs.StartWords.{full_is}
use Rattle.ft_bank.proofs.opening.ones.Goals as goal

pub returns : goal.returns
returns c =
    let less : 2 ^ c.args.count < 2 ^ 64 = pow-lt {i = c.args.count} {j = 64} (omega (arith, c.requires, c.if-count-eq64.false)) in
    omega (arith, full_is c.args.count, less)
