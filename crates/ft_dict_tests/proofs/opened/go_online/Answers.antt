use Rattle.std.proofs.Common.{[], ap, inr}
use Rattle.ft_bank.specs.Passes.{view}
use Rattle.ft_dict_tests.proofs.opened.go_online.Goals as goal

pub announce-requires-clause-may : goal.announce-requires-clause-may
announce-requires-clause-may c = inr (record { newer = []; rest = (view c.args.pass.now).log; is = ap (λ v. v.log) c.write_number-number.ensures.did.1 })
