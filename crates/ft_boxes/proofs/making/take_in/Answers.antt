use Rattle.std.proofs.Common.{ℕ, ◌+◌, ◌*◌, sym, ap, ◌∙◌, subst, arith}
use Rattle.std.specs.Int.{w64, trailing_zeros}
use Rattle.ft_layout.specs.declared.slot.Ref.{Ref}
use Rattle.ft_layout.specs.Starts.{IsHeap}
use Rattle.ft_trace.specs.declared.Shape.{Shape}
use Rattle.ft_trace.specs.Bits.{bit}
use Rattle.ft_bank.specs.BoxSteps.{IsBoxIn}
use Rattle.ft_bank.specs.Passes.{shape_of, view}
use Rattle.ft_bank.proofs.Freeing.{lowest_set}
use Rattle.ft_boxes.proofs.Heaps.{apart, found_free, name_found, number_is_low, own_low, place_taken}
use Rattle.ft_boxes.proofs.making.take_in.Goals as goal

pub read_free_places-free-requires-clause-maker : goal.read_free_places-free-requires-clause-maker
read_free_places-free-requires-clause-maker c =
    let v = view c.args.pass.now in
    own_low v (shape_of c.args.bank.now) c.number-maker.result c.requires.pass.1 c.number-maker.ensures.number (number_is_low v c.number-maker.ensures.possible)

pub take_place-requires-clause-name : goal.take_place-requires-clause-name
take_place-requires-clause-name c =
    let v = view c.args.pass.now in
    let k = shape_of c.args.bank.now in
    let f = c.read_free_places-free.result in
    let free = lowest_set f c.if-free-eq0.false c.read_free_places-free.type_inv in
    name_found k c.number-maker.result c.args.word (trailing_zeros w64 f)
    (own_low v k c.number-maker.result c.requires.pass.1 c.number-maker.ensures.number (number_is_low v c.number-maker.ensures.possible))
    c.requires.word free.0

pub take_place-requires-clause-apart : goal.take_place-requires-clause-apart
take_place-requires-clause-apart c =
    let v = view c.args.pass.now in
    let k = shape_of c.args.bank.now in
    let x = view c.read_free_places-free.new.pass in
    let f = c.read_free_places-free.result in
    let b : Ref = record { pass = c.number-maker.result; place = 64 * c.args.word + trailing_zeros w64 f } in
    let free = lowest_set f c.if-free-eq0.false c.read_free_places-free.type_inv in
    let small = free.0 in
    let name = name_found k c.number-maker.result c.args.word (trailing_zeros w64 f)
    (own_low v k c.number-maker.result c.requires.pass.1 c.number-maker.ensures.number (number_is_low v c.number-maker.ensures.possible))
    c.requires.word free.0 in
    apart v x x b f f c.args.word c.read_free_places-free.new.pass.possible
    (subst (λ (z : Shape). IsHeap z.heap) (sym c.requires.pass.1) c.args.bank.now.fits.heap)
    (subst (λ (z : Shape). IsBoxIn z b) (sym c.requires.pass.1) name)
    c.number-maker.ensures.number (omega (arith, small)) c.read_free_places-free.ensures.did.1
    (ap (λ (z : ℕ). bit z f) (omega (arith, small)) ∙ free.1)

pub returns-clause-taken : goal.returns-clause-taken
returns-clause-taken c =
    let v = view c.args.pass.now in
    let k = shape_of c.args.bank.now in
    let x = view c.read_free_places-free.new.pass in
    let w = view c.take_place.new.pass in
    let f = c.read_free_places-free.result in
    let g = c.take_place.result in
    let b : Ref = record { pass = c.number-maker.result; place = 64 * c.args.word + trailing_zeros w64 f } in
    let free = lowest_set f c.if-free-eq0.false c.read_free_places-free.type_inv in
    let small = free.0 in
    let name = subst (λ (z : Shape). IsBoxIn z b) (sym c.requires.pass.1)
    (name_found k c.number-maker.result c.args.word (trailing_zeros w64 f)
    (own_low v k c.number-maker.result c.requires.pass.1 c.number-maker.ensures.number (number_is_low v c.number-maker.ensures.possible))
    c.requires.word free.0) in
    let heap = subst (λ (z : Shape). IsHeap z.heap) (sym c.requires.pass.1) c.args.bank.now.fits.heap in
    let set = ap (λ (z : ℕ). bit z f) (omega (arith, small)) ∙ free.1 in
    let possible = c.read_free_places-free.new.pass.possible in
    let found = found_free v x w b f g c.args.word possible heap name c.number-maker.ensures.number (omega (arith, small)) c.read_free_places-free.ensures.did.1 set in
    place_taken v x w b f g c.args.word possible heap name c.number-maker.ensures.number (omega (arith, small)) c.read_free_places-free.ensures.did.1 set
    c.take_place.ensures.did.1 (c.take_place.ensures.took found)
