use Rattle.std.proofs.Common.{ℕ, ◌+◌, ◌<◌, sym, ap, ◌∙◌, subst, arith}
use Rattle.ft_trace.specs.declared.View.{View}
use Rattle.ft_trace.specs.Addresses.{counter}
use Rattle.ft_trace.specs.Traces.{Ready, Does, IsAwake}
use Rattle.ft_trace.proofs.Addresses.{at_low}
use Rattle.ft_bank.specs.Shapes.{plan}
use Rattle.ft_bank.proofs.Allowed.{glues, found}
use Rattle.ft_bank.proofs.bank.Bank.settle_as.Goals as goal

more_tokens : (m n : ℕ) → 0 < m → 0 < m + n
more_tokens m n up = omega (arith, up)

pub join_seat-requires : goal.join_seat-requires
join_seat-requires g c =
    let some_word = at_low (plan c.args.self.now.shape) counter tt in
    (c.requires.tables.0, c.requires.tables.1, c.requires.bare, omega (arith, c.args.self.now.wide, some_word), glues (plan c.args.self.now.table.shared.key) _ _ _ _ c.requires.live.0 c.requires.last c.requires.free)

pub load-requires : goal.load-requires
load-requires g c =
    let s = c.join_seat.new.seat in
    let some_word = at_low (plan c.args.self.now.shape) counter tt in
    let e = sym (ap (λ m. m.0) c.join_seat.ensures.2) in (
      c.join_seat.ensures.0 ∙ c.requires.tables.0,
      omega (arith, c.args.self.now.wide, some_word),
      found s.me s.id 0 (λ n. n) (subst IsAwake e (c.requires.live.0, more_tokens _ c.args.other.me.0.tokens c.requires.live.1)) g.A.Saying.act (subst (λ (v : View). Does v 0 (λ n. n) g.A.Saying.act) e c.requires.act)
          (subst (λ (v : View). Ready v 0 g.A.Saying.act) e c.requires.ready) (plan c.args.self.now.table.shared.key) _,
    )
