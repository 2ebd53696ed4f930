use Rattle.std.proofs.Common.{refl, ◌∙◌}
use Rattle.ft_bank.specs.Passes.{view}
use Rattle.ft_bank.proofs.KnownAfterWrites.{put_same, put_then}
use Rattle.ft_merging.proofs.closing.close_all.Goals as goal

pub loop-place-init : goal.loop-place-init
loop-place-init c = record { pass = c.requires.pass; stack = refl; only = put_same (view c.args.pass.now) c.args.o; references = λ b. refl; closing = c.requires.closing; keeps = λ p word some_ few. refl }

pub loop-place-preserved : goal.loop-place-preserved
loop-place-preserved c =
    let i = c.loop-place.invariant in
    let e = c.close_at.ensures in
    record {
      pass = e.pass;
      stack = e.stack ∙ i.stack;
      only = put_then (view c.args.pass.now) (view c.loop-place.pass) (view c.close_at.new.pass) c.args.o i.only e.only;
      references = λ b. e.references b ∙ i.references b;
      closing = e.closing;
      keeps = λ p word some_ few. e.keeps p word some_ few ∙ i.keeps p word some_ few;
    }
