use Rattle.std.proofs.Common.{ℕ, ◌≡◌, ◌+◌, ◌==◌, sym, ap, ◌∙◌, subst, arith}
use prog.Atomic.{either}
use Rattle.ft_trace.specs.Traces.{IsReachable, DoesAs}
use Rattle.ft_bank.specs.Shapes.{plan}
use Rattle.ft_bank.proofs.Allowed.{kept, alive, acted_possible, token_kept, still_settled}
use Rattle.ft_bank.proofs.Retiring.{retired_by}
use Rattle.ft_bank.proofs.bank.Bank.lock_as.Goals as goal

pub compare_exchange-requires : goal.compare_exchange-requires
compare_exchange-requires g c =
    let p = c.args.pass.now in
    let number : p.seat.me.0.number ≡ c.from-number.result + 1 = omega (arith, p.numbered, c.from-number.ensures) in
    (c.requires.pass.0, omega (arith, c.args.self.now.wide), kept p.seat.me p.seat.id c.args.word (λ n. either (n == 0) (c.from-number.result + 1) n) (alive _ p.seat.me.0 p.numbered p.awake) g.A.Keeping.act (subst (λ (z : ℕ). DoesAs p.seat.me.0 c.args.word (λ n. either (n == 0) z n) g.A.Keeping.act) number c.requires.act) c.requires.ready (plan c.args.self.now.table.shared.key) _)

pub invariant_of-pass : goal.invariant_of-pass
invariant_of-pass g c =
    let p = c.args.pass.now in
    let e = c.compare_exchange.ensures.2.1 in record {
      bare = e.1 ∙ p.bare;
      numbered = ap (λ v. v.number) e.0 ∙ p.numbered;
      following = p.following ∙ sym (ap (λ v. v.next) e.0);
      leaves = p.leaves ∙ (sym (c.requires.left _ c.compare_exchange.ensures.2.0) ∙ sym (ap (λ v. v.left) e.0));
      awake = token_kept _ _ (ap (λ v. v.tokens) e.0) p.awake;
      settled = still_settled p.seat.me.0 _ _ e.0 p.settled;
      retiring = retired_by _ _ _ _ e.0 (λ t b. c.requires.retired _ c.compare_exchange.ensures.2.0 t b) p.retiring;
      possible = ∣ subst IsReachable (sym e.0) (acted_possible p.seat.me.0 _ e.2) ∣₁;
    }
