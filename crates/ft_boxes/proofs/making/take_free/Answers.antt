use Rattle.std.proofs.Common.{◌/◌, sym, subst, inr}
use Rattle.std.specs.Prelude.{Option, Some, None, IfNone}
use Rattle.ft_layout.specs.declared.slot.Ref.{Ref}
use Rattle.ft_trace.specs.declared.Shape.{Shape}
use Rattle.ft_bank.specs.Passes.{shape_of, view}
use Rattle.ft_bank.specs.SameBoxes.{SameBoxes}
use Rattle.ft_bank.proofs.BoxedSteps.{boxes_then}
use Rattle.ft_bank.proofs.KnownAfterWrites.{boxed_then}
use Rattle.ft_boxes.specs.Making.{FoundFull, FoundHeapFull}
use Rattle.ft_boxes.proofs.Heaps.{first_then}
use Rattle.ft_boxes.proofs.making.take_free.Goals as goal

if_none : (r : Option Ref) (P Q : Type 0) → (P → Q) → IfNone r P → IfNone r Q
if_none (Some b) P Q f h = tt
if_none None P Q f h = f h

pub returns-in-None-clause-only : goal.returns-in-None-clause-only
returns-in-None-clause-only c = boxed_then (view c.args.pass.now) (view c.take_in.new.pass) (view c.take_first-in-None.new.pass) c.take_in.ensures.only c.take_first-in-None.ensures.only

pub returns-in-None-clause-full : goal.returns-in-None-clause-full
returns-in-None-clause-full c =
    let v = view c.args.pass.now in
    let x = view c.take_in.new.pass in
    let w = view c.take_first-in-None.new.pass in
    let found = c.in-None.ensures.full in
    let heap = λ (z : Shape). FoundFull (z.heap / 64) x w in
    if_none c.take_first-in-None.result (FoundFull ((shape_of c.args.bank.now).heap / 64) x w × SameBoxes x w) (FoundHeapFull v w × SameBoxes v w)
    (λ h. ((x, inr (c.heap_word-word.result, found.0), subst heap (sym c.requires.pass.1) h.0), boxes_then v x w c.take_in.ensures.only.work.pass.shape found.1 h.1))
    c.take_first-in-None.ensures.full

pub returns-in-None-clause-values : goal.returns-in-None-clause-values
returns-in-None-clause-values c = first_then (view c.args.pass.now) (view c.take_in.new.pass) (view c.take_first-in-None.new.pass) c.take_in.ensures.only c.in-None.ensures.full.1.references c.take_in.ensures.values c.take_first-in-None.ensures.values
