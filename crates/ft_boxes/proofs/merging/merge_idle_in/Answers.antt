use Rattle.std.proofs.Common.{◌≡◌, ◌+◌, ◌*◌, ◌<◌, ap, sym, ◌∙◌, subst, arith}
use Rattle.ft_layout.specs.declared.slot.Ref.{Ref}
use Rattle.ft_layout.specs.Starts.{IsHeap}
use Rattle.ft_trace.specs.declared.Act.TheVariants.{ReadFreePlaces}
use Rattle.ft_trace.specs.declared.Shape.{Shape}
use Rattle.ft_trace.specs.declared.View.{View}
use Rattle.ft_trace.specs.Acts.{view_after}
use Rattle.ft_bank.specs.Passes.{shape_of, view}
use Rattle.ft_bank.proofs.BoxAddresses.{maker_is, place_is, place_low}
use Rattle.ft_bank.proofs.KnownAfterWrites.{boxed_then}
use Rattle.ft_boxes.proofs.Heaps.{first_then, left_next, merges_then, none_in_free, number_is_low, own_low}
use Rattle.ft_boxes.proofs.Steps.{places_then, same_then}
use Rattle.ft_boxes.proofs.merging.merge_idle_in.Goals as goal
use Rattle.ft_boxes.proofs.merging.merge_idle_in.Goals.{After-number-maker}

-- the pass has a heap
low : (c : After-number-maker) → c.number-maker.result < (shape_of c.args.bank.now).passes
low c =
    let v = view c.args.pass.now in
    own_low v (shape_of c.args.bank.now) c.number-maker.result c.requires.pass.1 c.number-maker.ensures.number (number_is_low v c.number-maker.ensures.possible)

pub read_free_places-requires-clause-maker : goal.read_free_places-requires-clause-maker
read_free_places-requires-clause-maker c = low (goal.at.read_free_places-requires-clause-maker c).After-number-maker

pub returns-then-read_free_places-clause-left : goal.returns-then-read_free_places-clause-left
returns-then-read_free_places-clause-left c =
    let v = view c.args.pass.now in
    let x = view c.read_free_places.new.pass in
    let shape = c.requires.pass.1 in
    none_in_free v v x c.number-maker.result c.args.word c.read_free_places.new.pass.possible
    (subst (λ (z : Shape). IsHeap z.heap) (sym shape) c.args.bank.now.fits.heap)
    (subst (λ (z : Shape). c.number-maker.result < z.passes) (sym shape) (low (goal.at.returns-then-read_free_places-clause-left c).After-number-maker))
    c.number-maker.ensures.number
    (c.read_free_places.ensures.did.1 ∙ (λ d. view_after (ReadFreePlaces c.number-maker.result c.args.word (c.if-read_free_places.true d)) v))

pub merge_if_idle-requires-clause-name : goal.merge_if_idle-requires-clause-name
merge_if_idle-requires-clause-name c =
    let less = c.loop-place-test.true in
    let word = c.requires.word in
    (low (goal.at.merge_if_idle-requires-clause-name c).After-number-maker, omega (arith, less, word))

pub loop-place-preserved : goal.loop-place-preserved
loop-place-preserved c =
    let v = view c.args.pass.now in
    let x = view c.loop-place.pass in
    let w = view c.merge_if_idle.new.pass in
    let old = c.loop-place.invariant in
    let now = c.merge_if_idle.ensures in
    let k = shape_of c.args.bank.now in
    let b : Ref = record { pass = c.number-maker.result; place = c.loop-place.place } in
    let less = c.loop-place-test.true in
    let word = c.requires.word in
    let small = place_low k b c.args.bank.now.fits.heap (low (goal.at.loop-place-preserved c).After-number-maker, omega (arith, less, word)) in
    let number : w.number ≡ c.number-maker.result + 1 = now.only.work.pass.number ∙ (old.only.work.pass.number ∙ c.number-maker.ensures.number) in
    let first = old.low in record {
      pass = now.pass;
      sections = now.sections ∙ old.sections;
      settled = now.settled;
      only = boxed_then v x w old.only now.only;
      same = same_then v x w old.same now.same;
      places = places_then v x w old.places now.places;
      values = first_then v x w old.only old.same old.values now.values;
      merges = merges_then v x w old.only now.only old.merges now.merges;
      left = left_next v x w b (64 * c.args.word) c.loop-place.place (place_is b small) (ap (λ (n : _). n + 1) (maker_is b small) ∙ sym number) c.merge_if_idle.new.pass.possible old.only now.only now.others now.left old.left;
      low = omega (arith, first);
    }
