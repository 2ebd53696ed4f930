use Rattle.std.proofs.Common.{le_trans, subst, sym}
use Rattle.ft_bank.specs.Passes.{view}
use Rattle.ft_section.proofs.Goings.{only_sees}
use Rattle.ft_section.specs.Floors.{first_owned, floor_word}
use Rattle.ft_section.specs.LockTakings.{lower_of, upper_of}
use Rattle.ft_trace.specs.Addresses.{counter}
use Rattle.ft_section.proofs.FloorLogs.{not_yet_began}
use Rattle.ft_section.specs.Locking.{LocksWithin}
use Rattle.ft_section.proofs.beginning.try_begin.Goals as goal

pub returns-in-Have-clause-seen : goal.returns-in-Have-clause-seen
returns-in-Have-clause-seen c =
    le_trans (only_sees (view c.args.pass.now) (view c.take_for.new.pass) c.take_for.ensures.locked) c.enter.ensures.seen

pub returns-in-NotYet-clause-known : goal.returns-in-NotYet-clause-known
returns-in-NotYet-clause-known c has =
    let v = view c.args.pass.now in
    not_yet_began (floor_word counter v) c.in-NotYet.o c.in-NotYet.owner (first_owned (lower_of c.args.objects) (upper_of c.args.objects) v) (c.in-NotYet.ensures.known has)

pub returns-in-Have-clause-within : goal.returns-in-Have-clause-within
returns-in-Have-clause-within c = subst (LocksWithin c.args.objects (view c.args.pass.now)) (sym c.enter.ensures.entry) c.in-Have.ensures.within
