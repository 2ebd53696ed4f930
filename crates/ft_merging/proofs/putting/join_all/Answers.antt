use Rattle.std.proofs.Common.{◌+◌, Some, refl, sym, ap, ◌∙◌, subst, arith}
use Rattle.ft_trace.specs.ContainerStates.{ContainerState}
use Rattle.ft_bank.specs.Passes.{shape_of, view}
use Rattle.ft_bank.proofs.KnownAfterWrites.{put_same, put_written, work_knows, written_then}
use Rattle.ft_merging.specs.Joining.{joined}
use Rattle.ft_merging.specs.Internal.JoiningSteps.{IsJoining}
use Rattle.ft_merging.proofs.JoinedReads.{knows_put}
use Rattle.ft_merging.proofs.putting.join_all.Goals as goal

pub loop-place-init : goal.loop-place-init
loop-place-init c = record { pass = c.requires.pass; stack = refl; only = put_written c.args.o (view c.args.pass.now) (view c.args.pass.now) (put_same (view c.args.pass.now) c.args.o); joining = c.requires.joining; references = λ b. refl; more = omega arith; keeps = λ sets p w less few. refl; shares = λ dicts p key b less. absurd (omega (arith, less)) }

pub join_at-counts-requires-clause-other : goal.join_at-counts-requires-clause-other
join_at-counts-requires-clause-other c =
    let a = c.args in
    knows_put (shape_of a.bank.now) a.o a.t (Some a.table) (view a.pass.now) (view c.loop-place.pass) c.requires.pass.1 c.requires.two c.loop-place.invariant.only c.requires.other

pub join_at-counts-requires-clause-place : goal.join_at-counts-requires-clause-place
join_at-counts-requires-clause-place c =
    let a = c.args in
    let low = c.loop-place-test.true in
    let f = c.requires.fill in
    let same = ap (λ (z : ContainerState). z.table.fill) (work_knows (view a.pass.now) (view c.loop-place.pass) a.t c.loop-place.invariant.only.work) in
    omega (arith, low, f, same)

pub join_at-counts-requires-clause-joining : goal.join_at-counts-requires-clause-joining
join_at-counts-requires-clause-joining c =
    let a = c.args in
    let w = c.loop-place.invariant.only.work in
    let v = view a.pass.now in
    let u = view c.loop-place.pass in
    subst (λ (z : ContainerState × ContainerState). IsJoining (shape_of a.bank.now) a.o a.way a.own a.t a.table (joined z.0.content z.1.content) a.end c.loop-place.place c.loop-place.counts u) (sym (λ d. (work_knows v u a.o w d, work_knows v u a.t w d))) c.loop-place.invariant.joining

pub loop-place-preserved : goal.loop-place-preserved
loop-place-preserved c =
    let a = c.args in
    let i = c.loop-place.invariant in
    let e = c.join_at-counts.ensures in
    let w = i.only.work in
    let v = view a.pass.now in
    let u = view c.loop-place.pass in
    record {
      pass = e.pass;
      stack = e.stack ∙ i.stack;
      only = written_then a.o v u (view c.join_at-counts.new.pass) i.only e.only;
      joining = subst (λ (z : ContainerState × ContainerState). IsJoining (shape_of a.bank.now) a.o a.way a.own a.t a.table (joined z.0.content z.1.content) a.end (c.loop-place.place + 1) c.join_at-counts.result (view c.join_at-counts.new.pass)) (λ d. (work_knows v u a.o w d, work_knows v u a.t w d)) e.joining;
      references = λ b. e.references b ∙ i.references b;
      more = let m = i.more in let n = e.more in omega (arith, m, n);
      keeps = λ sets p w less few. let m = i.more in e.keeps sets p w (omega (arith, less, m)) few ∙ i.keeps sets p w less few;
      shares = λ dicts. e.shares dicts (i.shares dicts);
    }
