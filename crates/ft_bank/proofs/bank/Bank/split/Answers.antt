use Rattle.std.proofs.Common.{◌≡◌, ◌≢◌, ℕ, List, suc, ◌-◌, sym, ap, ◌∙◌, subst, arith}
use Rattle.std.proofs.Math.Logic.{∥∥₁_map}
use Rattle.ft_trace.specs.declared.Shape.{Shape}
use Rattle.ft_trace.specs.Addresses.{counter}
use Rattle.ft_trace.specs.Acts.{maker, made}
use Rattle.ft_trace.specs.Traces.{IsReachable}
use Rattle.ft_trace.proofs.Addresses.{at_low}
use Rattle.ft_trace.proofs.Sharing.{maker_possible, made_possible}
use Rattle.ft_bank.specs.Shapes.{plan}
use Rattle.ft_bank.proofs.Allowed.{cuts, same_settled}
use Rattle.ft_trace.specs.Acts.{has_goal}
use Rattle.ft_bank.specs.Retired.{AreRetired}
use Rattle.ft_bank.proofs.Retiring.{retired_same, retired_none}
use Rattle.ft_bank.proofs.bank.Bank.split.Goals as goal

pub split_seat-seat-requires : goal.split_seat-seat-requires
split_seat-seat-requires c = (c.requires.pass.0, omega (arith, c.args.self.now.wide, at_low (plan c.args.self.now.shape) counter tt), cuts (plan c.args.self.now.table.shared.key) _ _ c.requires.may)

pub invariant_of-pass : goal.invariant_of-pass
invariant_of-pass c =
    let p = c.args.pass.now in
    let e = c.split_seat-seat.ensures.2 in
    let calls : c.from-left.result ≡ p.seat.me.0.shape.calls = c.from-left.ensures ∙ sym (ap (λ (z : Shape). z.calls) c.requires.pass.1) in record {
      bare = ap (λ m. m.1) e ∙ p.bare;
      numbered = ap (λ m. m.0.number) e ∙ p.numbered;
      following = omega (arith, p.following, ap (λ m. m.0.next) e);
      leaves = omega (arith, p.leaves, calls, ap (λ m. m.0.left) e);
      awake = (let two = c.requires.may.tokens in omega (arith, two, ap (λ m. m.0.tokens) e));
      settled = same_settled _ (maker p.seat.me.0) (ap (λ m. m.0) e) p.settled;
      retiring = retired_same _ _ _ (ap (λ m. m.0.shape) e) (λ t. ap (λ m. has_goal t m.0.log) e) p.retiring;
      possible = ∥∥₁_map p.possible (λ x. subst IsReachable (sym (ap (λ m. m.0) e)) (maker_possible p.seat.me.0 c.requires.may x));
    }

pub invariant_of-result : goal.invariant_of-result
invariant_of-result c =
    let p = c.args.pass.now in
    let e = c.split_seat-seat.ensures.4 in
    let calls : c.from-left.result ≡ p.seat.me.0.shape.calls = c.from-left.ensures ∙ sym (ap (λ (z : Shape). z.calls) c.requires.pass.1) in record {
      bare = ap (λ m. m.1) e;
      numbered = ap (λ m. m.0.number) e ∙ next_is p.next p.seat.me.0.next p.following c.requires.may.next;
      following = sym (ap (λ m. m.0.next) e);
      leaves = calls ∙ sym (ap (λ m. m.0.left) e);
      awake = omega (arith, ap (λ m. m.0.tokens) e);
      settled = same_settled _ (made p.seat.me.0) (ap (λ m. m.0) e) (omega arith);
      retiring = subst (λ (l : List ℕ). AreRetired l c.split_seat-seat.result.me.0) (sym c.requires.retired) (retired_none _ (ap (λ m. m.0.log) e));
      possible = ∥∥₁_map p.possible (λ x. subst IsReachable (sym (ap (λ m. m.0) e)) (made_possible p.seat.me.0 c.requires.may x));
    }
  where
    next_is : (a b : ℕ) → a ≡ b → b ≢ 0 → b ≡ suc (a - 1)
    next_is a b e ne = omega (arith, e, ne)
