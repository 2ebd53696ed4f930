use Rattle.ft_bank.specs.BoxSteps.{box_id}
use Rattle.ft_bank.specs.Passes.{shape_of, view}
use Rattle.ft_boxes.proofs.Heaps.{found_dead, found_moved}
use Rattle.ft_boxes.proofs.Steps.{saw_then}
use Rattle.std.proofs.Common.{ℕ, [], ◌∷◌, refl, ap}
use Rattle.ft_trace.specs.declared.Act.{Act}
use Rattle.ft_trace.specs.declared.Act.TheVariants.{RaiseShared, ReadBox}
use Rattle.ft_boxes.proofs.CountSteps.{did_both}
use Rattle.ft_boxes.proofs.raising.raise_shared.Goals as goal

pub raise_shared-found-requires-clause-saw : goal.raise_shared-found-requires-clause-saw
raise_shared-found-requires-clause-saw c =
    saw_then (shape_of c.args.bank.now) (box_id c.args.b) (view c.args.pass.now) (view c.read_box-shared.new.pass) c.read_box-shared.ensures.only.work.pass.grown c.requires.saw

pub returns-then-shared-eq-DEAD-clause-raised : goal.returns-then-shared-eq-DEAD-clause-raised
returns-then-shared-eq-DEAD-clause-raised c =
    (found_dead c.args.b (view c.args.pass.now) (view c.read_box-shared.new.pass) c.read_box-shared.result c.if-shared-eq-DEAD.true c.read_box-shared.ensures.did.1, c.read_box-shared.ensures.only.boxes.references)

pub returns-else-found-shared-clause-raised : goal.returns-else-found-shared-clause-raised
returns-else-found-shared-clause-raised c =
    found_moved c.args.b (view c.args.pass.now) (view c.read_box-shared.new.pass) (view c.raise_shared-found.new.pass) c.read_box-shared.result c.raise_shared-found.result c.if-found-shared.false c.read_box-shared.ensures.did.1 c.raise_shared-found.ensures.did.1

pub returns-then-shared-eq-DEAD-clause-steps : goal.returns-then-shared-eq-DEAD-clause-steps
returns-then-shared-eq-DEAD-clause-steps c =
    let b = box_id c.args.b in
    (ReadBox b 0 c.read_box-shared.result ∷ [], tt, c.read_box-shared.ensures.did, ([], ap (λ (n : ℕ). ReadBox b 0 n ∷ []) c.if-shared-eq-DEAD.true))

pub returns-then-found-shared-clause-steps : goal.returns-then-found-shared-clause-steps
returns-then-found-shared-clause-steps c =
    let b = box_id c.args.b in
    let load : Act = ReadBox b 0 c.read_box-shared.result in
    let exchange : Act = RaiseShared b c.read_box-shared.result c.raise_shared-found.result in (
      exchange ∷ (load ∷ []),
      tt,
      did_both (exchange ∷ []) (load ∷ []) c.args.pass.now c.read_box-shared.new.pass c.raise_shared-found.new.pass c.read_box-shared.ensures.did c.raise_shared-found.ensures.did,
      tt,
    )

pub returns-else-found-shared-clause-steps : goal.returns-else-found-shared-clause-steps
returns-else-found-shared-clause-steps c =
    let b = box_id c.args.b in
    let load : Act = ReadBox b 0 c.read_box-shared.result in
    let exchange : Act = RaiseShared b c.read_box-shared.result c.raise_shared-found.result in (
      exchange ∷ (load ∷ []),
      tt,
      did_both (exchange ∷ []) (load ∷ []) c.args.pass.now c.read_box-shared.new.pass c.raise_shared-found.new.pass c.read_box-shared.ensures.did c.raise_shared-found.ensures.did,
      (c.if-found-shared.false, ([], refl)),
    )
