use Rattle.std.proofs.Common.{◌∙◌, subst, sym}
use Rattle.ft_bank.specs.Passes.{view}
use Rattle.ft_bank.proofs.BoxedSteps.{boxes_then}
use Rattle.ft_bank.proofs.KnownAfterWrites.{boxed_then}
use Rattle.ft_bank.specs.Whole.{OnlyBoxed}
use Rattle.ft_boxes.specs.References.{KeepsValues}
use Rattle.ft_boxes.proofs.Heaps.{first_then, full_next}
use Rattle.ft_boxes.proofs.making.take_first.Goals as goal

pub returns-in-Some-clause-only : goal.returns-in-Some-clause-only
returns-in-Some-clause-only c =
    let v = view c.args.pass.now in
    subst (OnlyBoxed v) (sym c.put_heap_word.ensures.view.1) (boxed_then v (view c.loop-word.pass) (view c.take_in.new.pass) c.loop-word.invariant.only c.take_in.ensures.only)

pub returns-in-Some-clause-values : goal.returns-in-Some-clause-values
returns-in-Some-clause-values c =
    let v = view c.args.pass.now in
    subst (KeepsValues v) (sym c.put_heap_word.ensures.view.1) (first_then v (view c.loop-word.pass) (view c.take_in.new.pass) c.loop-word.invariant.only c.loop-word.invariant.made.references c.loop-word.invariant.values c.take_in.ensures.values)

pub loop-word-preserved : goal.loop-word-preserved
loop-word-preserved c =
    let v = view c.args.pass.now in
    let x = view c.loop-word.pass in
    let w = view c.take_in.new.pass in
    let old = c.loop-word.invariant in
    let found = c.in-None.ensures.full in record {
      pass = c.take_in.ensures.pass;
      sections = c.take_in.ensures.sections ∙ old.sections;
      only = boxed_then v x w old.only c.take_in.ensures.only;
      values = first_then v x w old.only old.made.references old.values c.take_in.ensures.values;
      made = boxes_then v x w old.only.work.pass.shape old.made found.1;
      full = full_next c.loop-word.word v x w old.only.work.pass.number old.full found.0;
    }
