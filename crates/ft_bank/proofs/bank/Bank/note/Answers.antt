use Rattle.std.proofs.Common.{◌∙◌, refl, sym, ap, subst, arith}
use Rattle.std.proofs.Math.Nat.{max-eq_right}
use Rattle.std.proofs.Math.Logic.{∥∥₁_map}
use Rattle.ft_trace.specs.declared.View.{View}
use Rattle.ft_trace.specs.Addresses.{counter}
use Rattle.ft_trace.specs.Traces.{IsReachable}
use Rattle.ft_trace.proofs.Addresses.{at_low}
use Rattle.ft_bank.specs.Shapes.{plan}
use Rattle.ft_bank.specs.Slips.{slip}
use Rattle.ft_bank.proofs.Allowed.{alive, sends, same_settled, token_kept}
use Rattle.ft_bank.proofs.Seen.{note_is, sender_is}
use Rattle.ft_trace.specs.Acts.{has_goal}
use Rattle.ft_bank.proofs.Retiring.{retired_same}
use Rattle.ft_bank.proofs.bank.Bank.note.Goals as goal

pub split_seat-seat-requires : goal.split_seat-seat-requires
split_seat-seat-requires c =
    let p = c.args.pass.now in
    (c.requires.pass.0, omega (arith, c.args.self.now.wide, at_low (plan c.args.self.now.shape) counter tt), sends (plan c.args.self.now.table.shared.key) _ p.seat.me.0 0 (alive _ p.seat.me.0 p.numbered p.awake).0 (omega arith) (λ none token. absurd (omega (arith, none, token))))

pub invariant_of-pass : goal.invariant_of-pass
invariant_of-pass c =
    let p = c.args.pass.now in
    let e = c.split_seat-seat.ensures.2 in
    let same = ap (λ m. m.0) e ∙ sender_is p.seat.me.0 in record {
      bare = ap (λ m. m.1) e ∙ p.bare;
      numbered = ap (λ (v : View). v.number) same ∙ p.numbered;
      following = p.following ∙ sym (ap (λ (v : View). v.next) same);
      leaves = p.leaves ∙ sym (ap (λ (v : View). v.left) same);
      awake = token_kept _ _ (ap (λ (v : View). v.tokens) same) p.awake;
      settled = same_settled _ _ same p.settled;
      retiring = retired_same _ _ _ (ap (λ (v : View). v.shape) same) (λ t. ap (λ (v : View). has_goal t v.log) same) p.retiring;
      possible = ∥∥₁_map p.possible (λ x. subst IsReachable (sym same) x);
    }

pub returns-clause-pass : goal.returns-clause-pass
returns-clause-pass c =
    let e = c.split_seat-seat.ensures.2 in
    (c.split_seat-seat.ensures.0, ap (λ m. m.0) e ∙ sender_is c.args.pass.now.seat.me.0, refl)

pub invariant_of-result : goal.invariant_of-result
invariant_of-result c =
    let e = c.split_seat-seat.ensures.4 in record {
      bare = ap (λ m. m.1) e;
      blank = ap (λ m. m.0) e ∙ (note_is c.args.pass.now.seat.me.0 c.args.pass.now.awake ∙ (λ i. slip (sym (ap (λ m. m.0.learnt) e) i) (sym (ap (λ m. m.0.told) e) i)));
    }

pub returns-clause-says : goal.returns-clause-says
returns-clause-says c =
    let p = c.args.pass.now in
    let e = c.split_seat-seat.ensures.4 in
    ap (λ m. m.0.learnt) e ∙ max-eq_right p.settled

pub returns-clause-told : goal.returns-clause-told
returns-clause-told c = ap (λ m. m.0.told) c.split_seat-seat.ensures.4
