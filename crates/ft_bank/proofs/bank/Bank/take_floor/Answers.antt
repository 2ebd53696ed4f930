use Rattle.std.proofs.Common.{◌≡◌, refl, sym, ap, ◌∙◌, subst, arith}
use Rattle.ft_trace.specs.declared.Shape.{Shape}
use Rattle.ft_trace.specs.declared.View.{View}
use Rattle.ft_trace.specs.declared.Act.TheVariants.{TakeFloor}
use Rattle.ft_trace.specs.Addresses.{counter}
use Rattle.ft_trace.specs.Traces.{IsReachable}
use Rattle.ft_trace.proofs.Addresses.{at_low}
use Rattle.ft_bank.specs.Shapes.{plan}
use Rattle.ft_bank.proofs.Allowed.{acted_possible, alive, kept, still_settled, token_kept}
use Rattle.ft_bank.proofs.Retiring.{retired_by}
use Rattle.ft_bank.proofs.bank.Bank.take_floor.Goals as goal

pub load-requires : goal.load-requires
load-requires c =
    let p = c.args.pass.now in
    let v = p.seat.me.0 in
    let all : v.tokens ≡ v.shape.passes = c.requires.all ∙ sym (ap (λ (z : Shape). z.passes) c.requires.pass.1) in
    (c.requires.pass.0, omega (arith, c.args.self.now.wide, at_low (plan c.args.self.now.shape) counter tt), kept p.seat.me p.seat.id 0 (λ n. n) (alive _ v p.numbered p.awake) (λ n s. TakeFloor n s) (λ n s. (refl, λ m. refl)) (λ es id knows low. (refl, (all, refl))) (plan c.args.self.now.table.shared.key) _)

pub invariant_of-pass : goal.invariant_of-pass
invariant_of-pass c =
    let p = c.args.pass.now in
    let s = c.load.ensures.2.0 in
    let a = TakeFloor c.load.result s in
    let e = c.load.ensures.2.1 in record {
      bare = e.1 ∙ p.bare;
      numbered = ap (λ (v : View). v.number) e.0 ∙ p.numbered;
      following = p.following ∙ sym (ap (λ (v : View). v.next) e.0);
      leaves = p.leaves ∙ sym (ap (λ (v : View). v.left) e.0);
      awake = token_kept _ _ (ap (λ (v : View). v.tokens) e.0) p.awake;
      settled = still_settled p.seat.me.0 a _ e.0 p.settled;
      retiring = retired_by _ p.seat.me.0 _ a e.0 (λ t b. refl) p.retiring;
      possible = ∣ subst IsReachable (sym e.0) (acted_possible p.seat.me.0 a e.2) ∣₁;
    }
