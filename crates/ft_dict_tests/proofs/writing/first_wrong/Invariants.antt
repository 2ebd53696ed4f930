use Rattle.ft_dict_tests.specs.TwoDicts.{MayLook}
use Rattle.ft_dict_tests.proofs.writing.first_wrong.Given as goal

abbrev pub invariant-loop-key : goal.invariant-loop-key
invariant-loop-key l = record { pass : MayLook l.bank l.reader }
