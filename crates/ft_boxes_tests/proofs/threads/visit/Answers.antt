use Rattle.std.proofs.Common.{◌∙◌}
use Rattle.ft_bank.specs.Passes.{view}
use Rattle.ft_bank.proofs.KnownAfterWrites.{boxed_then, loaded_boxed}
use Rattle.ft_boxes.specs.References.{box_of}
use Rattle.ft_boxes.proofs.Steps.{more_before}
use Rattle.ft_boxes_tests.proofs.StillPasses.{counted_calls, counter_by, same_calls}
use Rattle.ft_boxes_tests.proofs.threads.visit.Goals as goal

pub returns-in-Up : goal.returns-in-Up
returns-in-Up c =
    let bank = c.args.bank.now in
    let p = c.find_box.new.pass in
    let r = c.raise.new.pass in
    let s = c.value-found.new.pass in
    let t = c.release.new.pass in
    let raised = c.raise.ensures in
    let looked = c.value-found.ensures in
    let dropped = c.release.ensures in
    let up = c.in-Up.ensures.raised in
    let more_boxed = boxed_then (view p) (view r) (view s) raised.only (loaded_boxed (view r) (view s) looked.only) in
    record {
      counter = counter_by bank p t c.find_box.ensures.counter (boxed_then (view p) (view s) (view t) more_boxed dropped.only)
          (counted_calls bank p s t c.in-Some.b (box_of c.in-Up.held) c.find_box.ensures.counter.caller dropped.pass (looked.sections ∙ raised.sections) dropped.sections more_boxed dropped.only
          (more_before c.in-Some.b (view p) (view r) (view s) up.1 looked.only.boxes.references) up.0 dropped.less dropped.settled);
    }

pub returns-in-Dead : goal.returns-in-Dead
returns-in-Dead c =
    let bank = c.args.bank.now in
    let p = c.find_box.new.pass in
    let r = c.raise.new.pass in
    let e = c.raise.ensures in
    record { counter = counter_by bank p r c.find_box.ensures.counter e.only (same_calls bank p r c.find_box.ensures.counter.caller e.pass e.sections e.only e.settled c.in-Dead.ensures.raised.1) }

pub returns-in-Moved : goal.returns-in-Moved
returns-in-Moved c =
    let bank = c.args.bank.now in
    let p = c.find_box.new.pass in
    let r = c.raise.new.pass in
    let e = c.raise.ensures in
    record { counter = counter_by bank p r c.find_box.ensures.counter e.only (same_calls bank p r c.find_box.ensures.counter.caller e.pass e.sections e.only e.settled c.in-Moved.ensures.raised.1) }
