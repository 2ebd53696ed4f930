use Rattle.std.proofs.Common.{refl, ◌∙◌, arith}
use Rattle.ft_trace.specs.Addresses.{class_of}
use Rattle.ft_bank.specs.Passes.{shape_of, view}
use Rattle.ft_bank.specs.TableNames.{table_id}
use Rattle.ft_table_calls.proofs.Rooting.{filled_same, filled_then}
use Rattle.ft_new_keys.proofs.Grown.{knows_filled}
use Rattle.ft_new_keys.proofs.FilledTables.{room_of_way}
use Rattle.ft_keys.specs.declared.walk.Way.TheVariants as way
use Rattle.ft_search.proofs.Puts.{table_class}
use Rattle.ft_parting.proofs.choosing.choose_all.Goals as goal

pub loop-place-init : goal.loop-place-init
loop-place-init c = record { pass = c.requires.pass; stack = refl; only = filled_same (view c.args.pass.now); chosen = λ used mine is. is }

pub choose_at-count-requires-clause-keyed : goal.choose_at-count-requires-clause-keyed
choose_at-count-requires-clause-keyed c =
    let a = c.args in
    knows_filled (shape_of a.bank.now) a.s _ (view a.pass.now) (view c.loop-place.pass) c.requires.pass.1 c.loop-place.invariant.only c.requires.keyed

pub choose_at-count-requires-clause-other_keyed : goal.choose_at-count-requires-clause-other_keyed
choose_at-count-requires-clause-other_keyed c =
    let a = c.args in
    knows_filled (shape_of a.bank.now) a.t a.other (view a.pass.now) (view c.loop-place.pass) c.requires.pass.1 c.loop-place.invariant.only c.requires.other_keyed

pub choose_at-count-requires-clause-fresh : goal.choose_at-count-requires-clause-fresh
choose_at-count-requires-clause-fresh c = c.loop-place.invariant.only.work.hands (table_id c.args.table) ∙ c.requires.fresh

pub choose_at-count-requires-clause-place : goal.choose_at-count-requires-clause-place
choose_at-count-requires-clause-place c =
    let a = c.args in
    let low = c.loop-place-test.true in
    let x = c.requires.chosen.2 in
    let filled = x.filled in
    let few = x.source.fill in
    let all = c.requires.fill in
    let room = room_of_way way.Set (class_of (table_id a.from)) (table_class (shape_of a.bank.now) a.from (c.requires.keyed.table_in a.from refl)) in
    omega (arith, low, filled, few, all, room)

pub choose_at-count-requires-clause-chosen : goal.choose_at-count-requires-clause-chosen
choose_at-count-requires-clause-chosen c =
    let r = c.requires.chosen in
    let low = c.loop-place-test.true in
    let filled = r.2.filled in
    let all = c.requires.fill in
    (r.0, r.1, omega (arith, low, filled, all), c.loop-place.invariant.chosen r.0 r.1 r.2)

pub loop-place-preserved : goal.loop-place-preserved
loop-place-preserved c =
    let a = c.args in
    let i = c.loop-place.invariant in
    let e = c.choose_at-count.ensures in
    let low = c.loop-place-test.true in
    let all = c.requires.fill in
    record {
      pass = e.pass;
      stack = e.stack ∙ i.stack;
      only = filled_then (view a.pass.now) (view c.loop-place.pass) (view c.choose_at-count.new.pass) i.only e.only;
      chosen = λ used mine is. let filled = is.filled in e.chosen used mine (omega (arith, low, filled, all)) (i.chosen used mine is);
    }
