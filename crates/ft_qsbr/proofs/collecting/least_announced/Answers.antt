use Rattle.std.proofs.Common.{◌≡◌, ℕ, ◌+◌, [], ◌∷◌, length, refl, sym, ap, ◌∙◌, arith}
use Rattle.ft_trace.specs.declared.View.{View}
use Rattle.ft_trace.specs.declared.Act.TheVariants.{ReadAnnounced}
use Rattle.ft_trace.specs.Acts.{view_after}
use Rattle.ft_bank.specs.Passes.{view}
use Rattle.ft_bank.specs.Series.{noted_all}
use Rattle.ft_bank.specs.Takings.{Each}
use Rattle.ft_bank.proofs.Freeing.{but_same, but_then}
use Rattle.ft_qsbr.specs.Collecting.{loads_of}
use Rattle.ft_qsbr.proofs.Numbers.{least_more}
use Rattle.ft_qsbr.proofs.collecting.least_announced.Goals as goal

pub loop-other-init : goal.loop-other-init
loop-other-init c = record {
  pass = c.requires.pass;
  did = ([], refl, (refl, refl, refl), (λ g. ((λ past. tt), (λ all. tt))));
  keeps = but_same Each (view c.args.pass.now);
}

pub loop-other-preserved : goal.loop-other-preserved
loop-other-preserved c =
    let i = c.loop-other.invariant in
    let d = i.did in
    let e = c.announced-number.ensures.did in
    let n = c.announced-number.result in
    let many : length d.0 ≡ c.loop-other.other = d.1 in record {
      pass = (e.0 ∙ i.pass.0, ap (λ (u : View). u.shape) e.1 ∙ i.pass.1);
      did = (
        n ∷ d.0,
        omega (arith, many),
        (
          e.0 ∙ d.2.0,
          e.1 ∙ (ap (λ (u : View). view_after (ReadAnnounced (c.loop-other.other + 1) n) u) d.2.1 ∙ ap (λ (m : ℕ). view_after (ReadAnnounced (m + 1) n) (noted_all (loads_of d.0) (view c.args.pass.now))) (sym many)),
          e.2 ∙ d.2.2,
        ),
        least_more d.0 n c.loop-other.least c.lower_of-least.result c.lower_of-least.ensures d.3,
      );
      keeps = but_then Each Each _ _ _ i.keeps c.announced-number.ensures.keeps (λ t of. of);
    }
