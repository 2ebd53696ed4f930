use Rattle.std.proofs.Common.{◌+◌, refl, sym, ◌∙◌, subst}
use Rattle.ft_model.specs.Worlds.{set_of}
use Rattle.ft_trace.specs.ContainerStates.{ContainerState}
use Rattle.ft_bank.specs.Passes.{shape_of, view}
use Rattle.ft_bank.proofs.KnownAfterWrites.{put_same, put_written, work_knows, written_then}
use Rattle.ft_merging.specs.Internal.ThinningSteps.{IsThinned}
use Rattle.ft_merging.proofs.ThinningEnds.{other_stays}
use Rattle.ft_merging.proofs.thinning.thin_all.Goals as goal

pub loop-place-init : goal.loop-place-init
loop-place-init c = record { pass = c.requires.pass; stack = refl; only = put_written c.args.s (view c.args.pass.now) (view c.args.pass.now) (put_same (view c.args.pass.now) c.args.s); references = λ b. refl; thinned = λ to th. th }

pub thin_at-requires-clause-other : goal.thin_at-requires-clause-other
thin_at-requires-clause-other c ne =
    let a = c.args in
    other_stays (shape_of a.bank.now) a.s a.t (view a.pass.now) (view c.loop-place.pass) c.requires.pass.1 c.loop-place.invariant.only ne (c.requires.other ne)

pub thin_at-requires-clause-thinned : goal.thin_at-requires-clause-thinned
thin_at-requires-clause-thinned c =
    let a = c.args in
    let w = c.loop-place.invariant.only.work in
    let v = view a.pass.now in
    let u = view c.loop-place.pass in
    let r = c.requires.thinned in (
      r.0,
      a.fill,
      c.loop-place-test.true,
      subst (λ (z : ContainerState × ContainerState). IsThinned (shape_of a.bank.now) a.s a.table a.kept (set_of z.0.content) (set_of z.1.content) r.0 a.fill c.loop-place.place u) (sym (λ d. (work_knows v u a.t w d, work_knows v u a.s w d))) (c.loop-place.invariant.thinned r.0 r.1),
    )

pub loop-place-preserved : goal.loop-place-preserved
loop-place-preserved c =
    let a = c.args in
    let i = c.loop-place.invariant in
    let e = c.thin_at.ensures in
    let w = i.only.work in
    let v = view a.pass.now in
    let u = view c.loop-place.pass in
    let low = c.loop-place-test.true in
    record {
      pass = e.pass;
      stack = e.stack ∙ i.stack;
      only = written_then a.s v u (view c.thin_at.new.pass) i.only e.only;
      references = λ b. e.references b ∙ i.references b;
      thinned = λ to th. subst (λ (z : ContainerState × ContainerState). IsThinned (shape_of a.bank.now) a.s a.table a.kept (set_of z.0.content) (set_of z.1.content) to a.fill c.loop-place.place u → IsThinned (shape_of a.bank.now) a.s a.table a.kept (set_of z.0.content) (set_of z.1.content) to a.fill (c.loop-place.place + 1) (view c.thin_at.new.pass)) (λ d. (work_knows v u a.t w d, work_knows v u a.s w d)) (e.thinned to a.fill low) (i.thinned to th);
    }
