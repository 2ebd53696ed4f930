use Rattle.std.proofs.Common.{◌≢◌, ◌∙◌, sym, ap, subst, arith}
use Rattle.std.proofs.Math.Nat.{max-eq_right}
use Rattle.std.proofs.Math.Logic.{∥∥₁_map}
use Rattle.ft_trace.specs.declared.View.{View}
use Rattle.ft_trace.specs.Addresses.{counter}
use Rattle.ft_trace.specs.Traces.{IsReachable}
use Rattle.ft_trace.proofs.Addresses.{at_low}
use Rattle.ft_bank.specs.Shapes.{plan}
use Rattle.ft_bank.specs.Slips.{slip}
use Rattle.ft_bank.proofs.Allowed.{sends, same_settled}
use Rattle.ft_bank.proofs.Seen.{resting_note_is, sender_is}
use Rattle.ft_trace.specs.Acts.{has_goal}
use Rattle.ft_bank.proofs.Retiring.{retired_same}
use Rattle.ft_bank.proofs.bank.Bank.note_resting.Goals as goal

pub split_seat-seat-requires : goal.split_seat-seat-requires
split_seat-seat-requires c =
    let r = c.args.resting.now in
    let live : r.seat.me.0.number ≢ 0 = (λ e. let n = r.numbered in omega (arith, e, n)) in
    (c.requires.resting.0, omega (arith, c.args.self.now.wide, at_low (plan c.args.self.now.shape) counter tt), sends (plan c.args.self.now.table.shared.key) _ r.seat.me.0 0 live (omega arith) (λ none token. absurd (omega (arith, none, token))))

pub invariant_of-resting : goal.invariant_of-resting
invariant_of-resting c =
    let r = c.args.resting.now in
    let e = c.split_seat-seat.ensures.2 in
    let same = ap (λ m. m.0) e ∙ sender_is r.seat.me.0 in record {
      bare = ap (λ m. m.1) e ∙ r.bare;
      numbered = ap (λ (v : View). v.number) same ∙ r.numbered;
      following = r.following ∙ sym (ap (λ (v : View). v.next) same);
      leaves = r.leaves ∙ sym (ap (λ (v : View). v.left) same);
      settled = same_settled _ _ same r.settled;
      still = ap (λ (v : View). v.tokens) same ∙ r.still;
      wordless = ap (λ (v : View). v.floor) same ∙ r.wordless;
      floorless = ap (λ (v : View). v.has_floor) same ∙ r.floorless;
      retiring = retired_same _ _ _ (ap (λ (v : View). v.shape) same) (λ t. ap (λ (v : View). has_goal t v.log) same) r.retiring;
      possible = ∥∥₁_map r.possible (λ x. subst IsReachable (sym same) x);
    }

pub returns-clause-resting : goal.returns-clause-resting
returns-clause-resting c =
    let e = c.split_seat-seat.ensures.2 in
    let same = ap (λ m. m.0) e ∙ sender_is c.args.resting.now.seat.me.0 in
    ((c.split_seat-seat.ensures.0 ∙ c.requires.resting.0, ap (λ (v : View). v.shape) same ∙ c.requires.resting.1), same)

pub invariant_of-result : goal.invariant_of-result
invariant_of-result c =
    let r = c.args.resting.now in
    let e = c.split_seat-seat.ensures.4 in record {
      bare = ap (λ m. m.1) e;
      blank = ap (λ m. m.0) e ∙ (resting_note_is r.seat.me.0 r.floorless r.wordless ∙ (λ i. slip (sym (ap (λ m. m.0.learnt) e) i) (sym (ap (λ m. m.0.told) e) i)));
    }

pub returns-clause-says : goal.returns-clause-says
returns-clause-says c =
    let e = c.split_seat-seat.ensures.4 in
    ap (λ m. m.0.learnt) e ∙ max-eq_right c.args.resting.now.settled

pub returns-clause-told : goal.returns-clause-told
returns-clause-told c = ap (λ m. m.0.told) c.split_seat-seat.ensures.4
