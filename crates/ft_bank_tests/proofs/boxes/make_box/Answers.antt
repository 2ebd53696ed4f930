use Rattle.std.proofs.Common.{◌≡◌, ℕ, List, refl, sym, ap, ◌∙◌, subst}
use Rattle.ft_model.specs.declared.data.Value.TheVariants as value
use Rattle.ft_trace.specs.declared.Act.{Act}
use Rattle.ft_trace.specs.declared.Act.TheVariants.{PutBox}
use Rattle.ft_trace.specs.declared.View.{View}
use Rattle.ft_trace.specs.Acts.{view_after}
use Rattle.ft_trace.specs.Boxes.{made_state, HasPutValue}
use Rattle.ft_trace.proofs.BoxFilling.{filled, has_put}
use Rattle.ft_bank.specs.Passes.{shape_of, view}
use Rattle.ft_bank_tests.specs.OneBox.{one_box}
use Rattle.ft_bank_tests.proofs.OneBox.{found_free, making_now}
use Rattle.ft_bank_tests.proofs.boxes.make_box.Goals as goal

pub put_box-requires-clause-making : goal.put_box-requires-clause-making
put_box-requires-clause-making c =
    let start = view c.args.pass.now in
    let found = view c.read_free_places.new.pass in
    let taken = view c.take_place.new.pass in
    let free = found_free c.read_free_places.result found.log start.log c.if-read_free_places.false (ap (λ (v : View). v.log) c.read_free_places.ensures.did.1) in
    making_now c.take_place.result taken.log found.log (c.take_place.ensures.took free) (ap (λ (v : View). v.log) c.take_place.ensures.did.1)

-- puts of its words leave what the box is
pub put_box-requires-2-clause-making : goal.put_box-requires-2-clause-making
put_box-requires-2-clause-making c =
    let start = view c.args.pass.now in
    let found = view c.read_free_places.new.pass in
    let taken = view c.take_place.new.pass in
    let free = found_free c.read_free_places.result found.log start.log c.if-read_free_places.false (ap (λ (v : View). v.log) c.read_free_places.ensures.did.1) in
    ap (λ (v : View). made_state one_box v.log) c.put_box.ensures.did.1
    ∙ making_now c.take_place.result taken.log found.log (c.take_place.ensures.took free) (ap (λ (v : View). v.log) c.take_place.ensures.did.1)

pub put_box-requires-3-clause-making : goal.put_box-requires-3-clause-making
put_box-requires-3-clause-making c =
    let start = view c.args.pass.now in
    let found = view c.read_free_places.new.pass in
    let taken = view c.take_place.new.pass in
    let free = found_free c.read_free_places.result found.log start.log c.if-read_free_places.false (ap (λ (v : View). v.log) c.read_free_places.ensures.did.1) in
    ap (λ (v : View). made_state one_box v.log) c.put_box-2.ensures.did.1
    ∙ (ap (λ (v : View). made_state one_box v.log) c.put_box.ensures.did.1
    ∙ making_now c.take_place.result taken.log found.log (c.take_place.ensures.took free) (ap (λ (v : View). v.log) c.take_place.ensures.did.1))

pub publish_box-requires-clause-making : goal.publish_box-requires-clause-making
publish_box-requires-clause-making c =
    let start = view c.args.pass.now in
    let found = view c.read_free_places.new.pass in
    let taken = view c.take_place.new.pass in
    let free = found_free c.read_free_places.result found.log start.log c.if-read_free_places.false (ap (λ (v : View). v.log) c.read_free_places.ensures.did.1) in
    ap (λ (v : View). made_state one_box v.log) c.put_box-3.ensures.did.1
    ∙ (ap (λ (v : View). made_state one_box v.log) c.put_box-2.ensures.did.1
    ∙ (ap (λ (v : View). made_state one_box v.log) c.put_box.ensures.did.1
    ∙ making_now c.take_place.result taken.log found.log (c.take_place.ensures.took free) (ap (λ (v : View). v.log) c.take_place.ensures.did.1)))

-- the three puts are those of a string
pub publish_box-requires-clause-value : goal.publish_box-requires-clause-value
publish_box-requires-clause-value c =
    let start = view c.args.pass.now in
    let found = view c.read_free_places.new.pass in
    let taken = view c.take_place.new.pass in
    let k = shape_of c.args.bank.now in
    let free = found_free c.read_free_places.result found.log start.log c.if-read_free_places.false (ap (λ (v : View). v.log) c.read_free_places.ensures.did.1) in
    let making = making_now c.take_place.result taken.log found.log (c.take_place.ensures.took free) (ap (λ (v : View). v.log) c.take_place.ensures.did.1) in
    let put : (view c.put_box-3.new.pass).log ≡ filled k one_box 3 c.from.result 1 taken.log making =
    ap (λ (v : View). v.log) (c.put_box-3.ensures.did.1 ∙ ap (view_after (PutBox one_box 3 1)) (c.put_box-2.ensures.did.1 ∙ ap (view_after (PutBox one_box 2 c.from.result)) c.put_box.ensures.did.1)) in
    subst (HasPutValue k one_box) (sym put)
    (has_put k one_box 3 c.from.result 1 taken.log making (record { stored = value.Text (record { 0 = c.args.string }); some = λ e. absurd (cc); words = record { fits = c.ranges.string.fits; kind_is = refl; payload_is = c.from.ensures } }))
