use Rattle.std.proofs.Common.{refl, arith}
use Rattle.ft_keys_tests.proofs.searches.mask_of.Goals as goal

pub returns-in-3-clause-mask : goal.returns-in-3-clause-mask
returns-in-3-clause-mask c = record { least = omega arith; most = omega arith; power = (3, refl) }

pub returns-in-4-clause-mask : goal.returns-in-4-clause-mask
returns-in-4-clause-mask c = record { least = omega arith; most = omega arith; power = (4, refl) }

pub returns-in-5-clause-mask : goal.returns-in-5-clause-mask
returns-in-5-clause-mask c = record { least = omega arith; most = omega arith; power = (5, refl) }

pub returns-in_default-clause-mask : goal.returns-in_default-clause-mask
returns-in_default-clause-mask c = record { least = omega arith; most = omega arith; power = (6, refl) }
