use Rattle.std.proofs.Common.{◌≡◌, ℕ, ◌+◌, ◌*◌, ◌<◌, ap, sym, ◌∙◌, subst, arith}
use Rattle.ft_trace.specs.declared.Shape.{Shape}
use Rattle.ft_bank.specs.Passes.{shape_of, view}
use Rattle.ft_bank.proofs.KnownAfterWrites.{boxed_then}
use Rattle.ft_boxes.specs.Internal.Merges.{LeavesNoIdleBoxIn}
use Rattle.ft_boxes.proofs.Heaps.{first_then, left_on, merges_then, own_name}
use Rattle.ft_boxes.proofs.Steps.{places_then, same_then}
use Rattle.ft_boxes.proofs.merging.merge_idle.Goals as goal

pub loop-word-preserved : goal.loop-word-preserved
loop-word-preserved c =
    let v = view c.args.pass.now in
    let x = view c.loop-word.pass in
    let w = view c.merge_idle_in.new.pass in
    let word = c.loop-word.word in
    let old = c.loop-word.invariant in
    let now = c.merge_idle_in.ensures in
    let next : 64 * word + 64 ≡ 64 * (word + 1) = omega arith in record {
      pass = now.pass;
      sections = now.sections ∙ old.sections;
      settled = now.settled;
      only = boxed_then v x w old.only now.only;
      same = same_then v x w old.same now.same;
      places = places_then v x w old.places now.places;
      values = first_then v x w old.only old.same old.values now.values;
      merges = merges_then v x w old.only now.only old.merges now.merges;
      left = subst (λ (n : ℕ). LeavesNoIdleBoxIn 0 n v w) next (left_on v x w 0 (64 * word) (64 * word + 64) old.only now.only now.merges old.left now.left);
    }

pub returns-clause-left : goal.returns-clause-left
returns-clause-left c b own =
    let w = view c.loop-word.pass in
    let old = c.loop-word.invariant in
    let low = (own_name w c.loop-word.pass.possible b own).1 in
    let heap = ap (λ (z : Shape). z.heap) (old.only.work.pass.shape ∙ c.requires.pass.1) in
    let end = c.heap-word-end.ensures in
    let done = c.loop-word-test.false in
    let whole = c.args.bank.now.fits.heap in
    let parts = whole.0 in
    let even = whole.2 in
    old.left b (omega arith) (omega (arith, heap, end, done, low, parts, even)) own
