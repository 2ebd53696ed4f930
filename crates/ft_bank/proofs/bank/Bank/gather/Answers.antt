use Rattle.std.proofs.Common.{◌≡◌, refl, sym, ap, ◌∙◌, subst, arith}
use Rattle.ft_trace.specs.declared.View.{View}
use Rattle.ft_trace.specs.declared.Act.TheVariants.{ReadCounter}
use Rattle.ft_trace.specs.Acts.{both}
use Rattle.ft_trace.specs.Traces.{IsReachable}
use Rattle.ft_bank.specs.Passes.{view}
use Rattle.ft_bank.proofs.Allowed.{acted_possible}
use Rattle.ft_bank.proofs.Retiring.{retired_by, retired_noted}
use Rattle.ft_bank.proofs.Seen.{load_settles}
use Rattle.ft_bank.proofs.bank.Bank.gather.Goals as goal

pub invariant_of-pass : goal.invariant_of-pass
invariant_of-pass c =
    let p = c.args.pass.now in
    let v = view p in
    let w = c.args.tokens.seat.me.0 in
    let d = c.settle_as.ensures.view in
    let e = d.1 in
    let none : w.left ≡ 0 = ap (λ (u : View). u.left) c.args.tokens.blank in record {
      bare = c.settle_as.ensures.bare ∙ p.bare;
      numbered = ap (λ (v : View). v.number) e ∙ p.numbered;
      following = p.following ∙ sym (ap (λ (v : View). v.next) e);
      leaves = omega (arith, p.leaves, none, ap (λ (v : View). v.left) e);
      awake = (let token = p.awake in omega (arith, token, ap (λ (v : View). v.tokens) e));
      settled = load_settles (both v w) d.0 _ e d.2;
      retiring = retired_by _ (both v w) _ (ReadCounter d.0) e (λ t b. refl) (retired_noted _ v w (ap (λ (u : View). u.log) c.args.tokens.blank) p.retiring);
      possible = ∣ subst IsReachable (sym e) (acted_possible (both v w) (ReadCounter d.0) d.2) ∣₁;
    }
