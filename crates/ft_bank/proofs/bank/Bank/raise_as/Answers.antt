use Rattle.std.proofs.Common.{◌+◌, ◌%◌, ◌^◌, sym, ap, ◌∙◌, subst, arith}
use Rattle.std.specs.Prelude.{[]}
use Rattle.ft_trace.specs.Traces.{IsReachable}
use Rattle.ft_bank.specs.Shapes.{plan}
use Rattle.ft_bank.proofs.Allowed.{found, alive, acted_possible, token_kept, still_settled}
use Rattle.ft_bank.proofs.Retiring.{retired_by}
use Rattle.ft_bank.proofs.bank.Bank.raise_as.Goals as goal

pub fetch_add-requires : goal.fetch_add-requires
fetch_add-requires g c =
    let p = c.args.pass.now in
    (c.requires.pass.0, omega (arith, c.args.self.now.wide), found p.seat.me p.seat.id c.args.word (λ n. (n + c.args.more) % 2 ^ 64) (alive _ p.seat.me.0 p.numbered p.awake) g.A.Saying.act c.requires.act c.requires.ready (plan c.args.self.now.table.shared.key) _)

pub invariant_of-pass : goal.invariant_of-pass
invariant_of-pass g c =
    let p = c.args.pass.now in
    let e = c.fetch_add.ensures.2 in record {
      bare = e.1 ∙ p.bare;
      numbered = ap (λ v. v.number) e.0 ∙ p.numbered;
      following = p.following ∙ sym (ap (λ v. v.next) e.0);
      leaves = p.leaves ∙ (sym (c.requires.left _ (record { words = []; calls = [] })) ∙ sym (ap (λ v. v.left) e.0));
      awake = token_kept _ _ (ap (λ v. v.tokens) e.0) p.awake;
      settled = still_settled p.seat.me.0 _ _ e.0 p.settled;
      retiring = retired_by _ _ _ _ e.0 (λ t b. c.requires.retired _ (record { words = []; calls = [] }) t b) p.retiring;
      possible = ∣ subst IsReachable (sym e.0) (acted_possible p.seat.me.0 _ e.2) ∣₁;
    }
