use Rattle.std.proofs.Common.{refl, ◌+◌, ◌*◌, ◌^◌, ◌<◌, sym, ap, ◌∙◌, subst, arith}
use Rattle.std.specs.Prelude.{bit_or, slice_index}
use Rattle.ft_trace.specs.declared.Shape.{Shape}
use Rattle.ft_trace.specs.declared.View.{View}
use Rattle.ft_trace.specs.declared.Act.TheVariants.{ReadCounter}
use Rattle.ft_trace.specs.Acts.{both}
use Rattle.ft_trace.specs.Traces.{IsReachable}
use Rattle.ft_bank.specs.Passes.{view}
use Rattle.ft_bank.proofs.Allowed.{acted_possible}
use Rattle.ft_bank.proofs.KnownAfterSteps.{left_low}
use Rattle.ft_bank.proofs.Seen.{load_settles}
use Rattle.ft_bank.proofs.Retiring.{retired_by, retired_both, has_taken_over}
use Rattle.ft_bank.proofs.bank.Bank.join.Goals as goal

pub overflow_add-pass : goal.overflow_add-pass
overflow_add-pass c =
    let v = view c.args.pass.now in
    let d = c.settle_as.ensures.view in
    let few : v.shape.passes * v.shape.calls < 2 ^ 46 = subst (λ (z : Shape). z.passes * z.calls < 2 ^ 46) (sym c.requires.passes.0.1) c.args.self.now.few in
    omega (arith, left_low (both v (view c.args.other)) (ReadCounter d.0) d.2, few, c.args.pass.now.leaves, c.args.other.leaves)

pub invariant_of-pass : goal.invariant_of-pass
invariant_of-pass c =
    let p = c.args.pass.now in
    let d = c.settle_as.ensures.view in
    let e = d.1 in record {
      bare = c.settle_as.ensures.bare ∙ p.bare;
      numbered = ap (λ (v : View). v.number) e ∙ p.numbered;
      following = p.following ∙ sym (ap (λ (v : View). v.next) e);
      leaves = (λ j. p.leaves j + c.args.other.leaves j) ∙ sym (ap (λ (v : View). v.left) e);
      awake = (let token = p.awake in omega (arith, token, ap (λ (v : View). v.tokens) e));
      settled = load_settles (both (view p) (view c.args.other)) d.0 _ e d.2;
      retiring = retired_by _ (both (view p) (view c.args.other)) _ (ReadCounter d.0) e (λ t b. refl) (retired_both p.retired.value c.args.other.retired.value _ (view p) (view c.args.other) (c.requires.passes.1.1 ∙ sym c.requires.passes.0.1) c.args.other.possible c.merge.ensures.long (λ n low. c.merge.ensures.merged n low ∙ (λ d. bit_or (slice_index (c.deref_mut.ensures.value d) n) (slice_index (c.deref.ensures d) n))) p.retiring c.args.other.retiring);
      possible = ∣ subst IsReachable (sym e) (acted_possible (both (view p) (view c.args.other)) (ReadCounter d.0) d.2) ∣₁;
    }

pub returns-clause-tables : goal.returns-clause-tables
returns-clause-tables c =
    let d = c.settle_as.ensures.view in
    has_taken_over (view c.args.pass.now) (view c.args.other) _ d.0 d.1 (c.requires.passes.1.1 ∙ sym c.requires.passes.0.1) c.args.other.possible
