use Rattle.std.proofs.Common.{refl, ap}
use Rattle.ft_trace.specs.declared.View.{View}
use Rattle.ft_trace.specs.Boxes.{references_held}
use Rattle.ft_trace.specs.declared.Act.TheVariants.{MergeCounts, GivePlace}
use Rattle.ft_bank.specs.BoxSteps.{box_id}
use Rattle.ft_bank.specs.Passes.{view}
use Rattle.ft_bank.proofs.KnownAfterWrites.{boxed_then}
use Rattle.ft_boxes.proofs.Heaps.{first_then}
use Rattle.ft_boxes.proofs.Steps.{keeps_by}
use Rattle.ft_boxes.proofs.CountSteps.{took_one, took_then}
use Rattle.ft_boxes.proofs.merging.merge.Goals as goal

pub returns-else-found-taken-eq-MERGED-clause-only : goal.returns-else-found-taken-eq-MERGED-clause-only
returns-else-found-taken-eq-MERGED-clause-only c =
    boxed_then (view c.args.pass.now) (view c.take_local-taken.new.pass) (view c.merge_counts-found.new.pass) c.take_local-taken.ensures.only c.merge_counts-found.ensures.only

pub returns-else-found-taken-eq-MERGED-clause-values : goal.returns-else-found-taken-eq-MERGED-clause-values
returns-else-found-taken-eq-MERGED-clause-values c =
    let v = view c.args.pass.now in
    let x = view c.take_local-taken.new.pass in
    let y = view c.merge_counts-found.new.pass in
    first_then v x y c.take_local-taken.ensures.only c.take_local-taken.ensures.taken.same c.take_local-taken.ensures.values
    (keeps_by x y (MergeCounts (box_id c.args.b) _ c.merge_counts-found.result) (λ k b i n which. refl) c.merge_counts-found.ensures.did.1)

pub returns-then-found-taken-eq-MERGED-clause-only : goal.returns-then-found-taken-eq-MERGED-clause-only
returns-then-found-taken-eq-MERGED-clause-only c =
    let v = view c.args.pass.now in
    let y = view c.merge_counts-found.new.pass in
    boxed_then v y (view c.give_place.new.pass)
    (boxed_then v (view c.take_local-taken.new.pass) y c.take_local-taken.ensures.only c.merge_counts-found.ensures.only)
    c.give_place.ensures.only

pub returns-then-found-taken-eq-MERGED-clause-values : goal.returns-then-found-taken-eq-MERGED-clause-values
returns-then-found-taken-eq-MERGED-clause-values c =
    let v = view c.args.pass.now in
    let x = view c.take_local-taken.new.pass in
    let y = view c.merge_counts-found.new.pass in
    let z = view c.give_place.new.pass in
    let merges = keeps_by x y (MergeCounts (box_id c.args.b) _ c.merge_counts-found.result) (λ k b i n which. refl) c.merge_counts-found.ensures.did.1 in
    let gives = keeps_by y z (GivePlace (box_id c.args.b)) (λ k b i n which. refl) c.give_place.ensures.did.1 in
    first_then v x z c.take_local-taken.ensures.only c.take_local-taken.ensures.taken.same c.take_local-taken.ensures.values
    (first_then x y z c.merge_counts-found.ensures.only (λ b. ap (λ (u : View). references_held u.shape b u.log) c.merge_counts-found.ensures.did.1) merges gives)

pub returns-else-found-taken-eq-MERGED-clause-steps : goal.returns-else-found-taken-eq-MERGED-clause-steps
returns-else-found-taken-eq-MERGED-clause-steps c =
    took_then c.args.pass.now c.take_local-taken.new.pass c.merge_counts-found.new.pass c.take_local-taken.ensures.steps
    (took_one (MergeCounts (box_id c.args.b) _ c.merge_counts-found.result) c.take_local-taken.new.pass c.merge_counts-found.new.pass tt c.merge_counts-found.ensures.did)

pub returns-then-found-taken-eq-MERGED-clause-steps : goal.returns-then-found-taken-eq-MERGED-clause-steps
returns-then-found-taken-eq-MERGED-clause-steps c =
    let x = c.take_local-taken.new.pass in
    let y = c.merge_counts-found.new.pass in
    took_then c.args.pass.now y c.give_place.new.pass
    (took_then c.args.pass.now x y c.take_local-taken.ensures.steps (took_one (MergeCounts (box_id c.args.b) _ c.merge_counts-found.result) x y tt c.merge_counts-found.ensures.did))
    (took_one (GivePlace (box_id c.args.b)) y c.give_place.new.pass tt c.give_place.ensures.did)
