use Rattle.std.proofs.Common.{◌≡◌, ℕ, ◌-◌, sym, ap, ◌∙◌, subst, arith, le_refl}
use Rattle.std.proofs.Math.Logic.{∥∥₁_map}
use Rattle.ft_trace.specs.declared.View.{View}
use Rattle.ft_trace.specs.Addresses.{counter}
use Rattle.ft_trace.specs.Acts.{sender, has_goal}
use Rattle.ft_trace.specs.Traces.{IsReachable}
use Rattle.ft_trace.proofs.Addresses.{at_low}
use Rattle.ft_bank.specs.Shapes.{plan}
use Rattle.ft_bank.proofs.Allowed.{alive, sends, same_settled}
use Rattle.ft_bank.proofs.Retiring.{retired_same}
use Rattle.ft_bank.proofs.Floors.{sender_possible, no_words, no_floor}
use Rattle.ft_bank.proofs.bank.Bank.rest.Goals as goal

pub split_seat-tokens-requires : goal.split_seat-tokens-requires
split_seat-tokens-requires c =
    let p = c.args.pass in
    (c.requires.pass.0, omega (arith, c.args.self.now.wide, at_low (plan c.args.self.now.shape) counter tt), sends (plan c.args.self.now.table.shared.key) _ p.seat.me.0 p.seat.me.0.tokens (alive _ p.seat.me.0 p.numbered p.awake).0 (le_refl p.seat.me.0.tokens) (λ all token. c.requires.quiet))

pub invariant_of-resting : goal.invariant_of-resting
invariant_of-resting c =
    let p = c.args.pass in
    let v = p.seat.me.0 in
    let e = c.split_seat-tokens.ensures.2 in
    let same = ap (λ m. m.0) e in record {
      bare = ap (λ m. m.1) e ∙ p.bare;
      numbered = ap (λ (v : View). v.number) same ∙ p.numbered;
      following = p.following ∙ sym (ap (λ (v : View). v.next) same);
      leaves = p.leaves ∙ sym (ap (λ (v : View). v.left) same);
      settled = same_settled _ (sender v.tokens v) same p.settled;
      still = ap (λ (v : View). v.tokens) same ∙ nothing_left v.tokens;
      wordless = ap (λ (v : View). v.floor) same ∙ no_words v p.awake;
      floorless = ap (λ (v : View). v.has_floor) same ∙ no_floor v p.awake;
      retiring = retired_same _ _ _ (ap (λ (v : View). v.shape) same) (λ t. ap (λ (v : View). has_goal t v.log) same) p.retiring;
      possible = ∥∥₁_map p.possible (λ x. subst IsReachable (sym same) (sender_possible v v.tokens (alive _ v p.numbered p.awake).0 (le_refl v.tokens) (λ all token. c.requires.quiet) x));
    }
  where
    nothing_left : (n : ℕ) → n - n ≡ 0
    nothing_left n = omega arith
