use Rattle.std.proofs.Common.{arith}
use Rattle.ft_bank.specs.Passes.{shape_of, view}
use Rattle.ft_bank.proofs.BoxAddresses.{place_low}
use Rattle.ft_boxes.proofs.Heaps.{others_share_it}
use Rattle.ft_trace.specs.declared.Act.TheVariants.{ReadBox}
use Rattle.ft_bank.specs.BoxSteps.{box_id}
use Rattle.ft_boxes.proofs.CountSteps.{took_one}
use Rattle.ft_boxes.proofs.merging.is_own.Goals as goal

pub returns-then-b-number-clause-shared : goal.returns-then-b-number-clause-shared
returns-then-b-number-clause-shared c _ =
    let number = c.number.ensures.number in
    let other = c.if-b-number.true in
    others_share_it (view c.args.pass.now) c.number.ensures.possible c.args.b (place_low (shape_of c.args.bank.now) c.args.b c.args.bank.now.fits.heap c.requires.name)
    (λ z. other (omega (arith, z, number)))

pub returns-clause-steps : goal.returns-clause-steps
returns-clause-steps c = took_one (ReadBox (box_id c.args.b) 0 c.read_box.result) c.args.pass.now c.read_box.new.pass tt c.read_box.ensures.did
