use Rattle.std.proofs.Common.{refl, arith}
use Rattle.ft_hash.proofs.tests.a_probe_goes_through_all_slots.Goals as goal

pub check_probe-requires : goal.check_probe-requires
check_probe-requires g c = record { least = omega arith; most = omega arith; power = (3, refl) }

pub check_probe-requires-2 : goal.check_probe-requires-2
check_probe-requires-2 g c = record { least = omega arith; most = omega arith; power = (3, refl) }

pub check_probe-requires-3 : goal.check_probe-requires-3
check_probe-requires-3 g c = record { least = omega arith; most = omega arith; power = (5, refl) }
