use Rattle.std.proofs.Common.{sym, ap, ◌∙◌, subst, arith}
use Rattle.std.proofs.Math.Logic.{∥∥₁_map}
use mathlib.Core.Logic.{dite}
use native.Mathlib.Decide.{ℕ_discrete}
use Rattle.ft_trace.specs.Traces.{IsReachable}
use Rattle.ft_bank.specs.Shapes.{plan}
use Rattle.ft_bank.proofs.Allowed.{looked, alive, acted_possible, token_kept, still_settled, same_settled}
use Rattle.ft_bank.specs.Retired.{AreRetired}
use Rattle.ft_bank.proofs.Retiring.{retired_by}
use Rattle.ft_bank.proofs.bank.Bank.look_as.Goals as goal

pub load-requires : goal.load-requires
load-requires g c =
    let p = c.args.pass.now in
    (c.requires.pass.0, omega (arith, c.args.self.now.wide), looked p.seat.me p.seat.id c.args.word (alive _ p.seat.me.0 p.numbered p.awake) g.A.Keeping.act c.requires.act c.requires.ready (plan c.args.self.now.table.shared.key) _)

pub invariant_of-pass : goal.invariant_of-pass
invariant_of-pass g c =
    let p = c.args.pass.now in
    dite (ℕ_discrete c.load.result 0)
    (λ none. let e = c.load.ensures.2.0 none in record {
      bare = ap (λ m. m.1) e ∙ p.bare;
      numbered = ap (λ m. m.0.number) e ∙ p.numbered;
      following = p.following ∙ sym (ap (λ m. m.0.next) e);
      leaves = p.leaves ∙ sym (ap (λ m. m.0.left) e);
      awake = token_kept _ _ (ap (λ m. m.0.tokens) e) p.awake;
      settled = same_settled _ _ (ap (λ m. m.0) e) p.settled;
      retiring = subst (λ m. AreRetired p.retired.value m.0) (sym e) p.retiring;
      possible = ∥∥₁_map p.possible (λ x. subst IsReachable (sym (ap (λ m. m.0) e)) x);
    })
    (λ some_one. let f = c.load.ensures.2.1 some_one in let e = f.1 in record {
      bare = e.1 ∙ p.bare;
      numbered = ap (λ v. v.number) e.0 ∙ p.numbered;
      following = p.following ∙ sym (ap (λ v. v.next) e.0);
      leaves = p.leaves ∙ (sym (c.requires.left _ f.0) ∙ sym (ap (λ v. v.left) e.0));
      awake = token_kept _ _ (ap (λ v. v.tokens) e.0) p.awake;
      settled = still_settled p.seat.me.0 _ _ e.0 p.settled;
      retiring = retired_by _ _ _ _ e.0 (λ t b. c.requires.retired _ f.0 t b) p.retiring;
      possible = ∣ subst IsReachable (sym e.0) (acted_possible p.seat.me.0 _ e.2) ∣₁;
    })
