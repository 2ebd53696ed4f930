use Rattle.std.proofs.Common.{rules}
use Rattle.ft_bank.specs.Passes.{view}
use Rattle.ft_bank_tests.proofs.Reversing.{lock_done, tried_done, unlock_done}
use Rattle.ft_bank_tests.proofs.workers.write_once.Goals as goal

pub returns-clause-worker : goal.returns-clause-worker
returns-clause-worker c =
    let free = c.requires.worker.idle.free in
    let locked = c.in-Ok.ensures in
    let d = unlock_done c.args.l (view c.reverse_bare-number.new.pass) (view c.unlock.new.pass) c.unlock.ensures.1
    (tried_done c.args.l c.reverse_bare-number.result (view c.try_lock.new.pass) (view c.reverse_bare-number.new.pass) c.reverse_bare-number.ensures.reversed c.reverse_bare-number.ensures.none
    (lock_done c.args.l 0 locked.did.0 (view c.args.pass.now) (view c.try_lock.new.pass) locked.did.1.1 (free.6, free.7))) in
    record { pass = search rules; idle = record { free = (search rules, search rules, search rules, search rules, search rules, search rules, d.0, d.1); even = search rules }; sections = search rules }
