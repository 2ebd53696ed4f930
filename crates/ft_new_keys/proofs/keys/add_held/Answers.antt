use Rattle.std.proofs.Common.{Some, refl, sym, subst}
use Rattle.ft_layout.specs.declared.slot.Ref.{Ref}
use Rattle.ft_layout.specs.declared.slot.Stored.TheVariants.{Plain}
use Rattle.ft_bank.specs.Passes.{shape_of, view}
use Rattle.ft_boxes.specs.References.{box_of}
use Rattle.ft_new_keys.specs.HeldKeys.{AddsHeldKey, HoldsFor, PutsInBox}
use Rattle.ft_new_keys.proofs.HeldCalls.{held_key, puts_untouched, still_holds, still_settled}
use Rattle.ft_new_keys.proofs.HeldKeys.{holds_box}
use Rattle.ft_new_keys.proofs.keys.add_held.Goals as goal
use Rattle.ft_new_keys.proofs.keys.add_held.Goals.{After-keep-b}

holds_here : (c : After-keep-b) → HoldsFor (Some c.keep-b.result) (Plain c.args.value) (view c.args.pass.now)
holds_here c = subst (λ (z : Ref). HoldsFor (Some z) (Plain c.args.value) (view c.args.pass.now)) (sym c.keep-b.ensures) c.requires.holds

pub keep-b-requires-clause-held : goal.keep-b-requires-clause-held
keep-b-requires-clause-held c = holds_box (box_of c.args.held) (Some (box_of c.args.held)) (Plain c.args.value) (view c.args.pass.now) c.requires.holds refl

pub add_new-added-requires-clause-holds : goal.add_new-added-requires-clause-holds
add_new-added-requires-clause-holds c = holds_here (goal.at.add_new-added-requires-clause-holds c).After-keep-b

pub add_new-added-requires-clause-boxing : goal.add_new-added-requires-clause-boxing
add_new-added-requires-clause-boxing c = subst (λ (z : Ref). PutsInBox (Some z) c.args.called.now (view c.args.pass.now)) (sym c.keep-b.ensures) c.requires.boxing

pub drop_unmade-requires-clause-held : goal.drop_unmade-requires-clause-held
drop_unmade-requires-clause-held c unmade =
    let a = c.args in
    let k = shape_of a.bank.now in
    let v = view a.pass.now in
    let w = view c.add_new-added.new.pass in
    let holds = holds_here (goal.at.drop_unmade-requires-clause-held c).After-keep-b in
    let same = puts_untouched k a.d a.key (Some c.keep-b.result) a.called.now a.said.now v w c.add_new-added.result unmade c.add_new-added.ensures.put in
    (still_holds k c.keep-b.result (Plain a.value) v w c.requires.pass.1 holds same, still_settled k c.keep-b.result (Plain a.value) v w c.requires.pass.1 holds same)

pub returns-clause-put : goal.returns-clause-put
returns-clause-put c =
    let a = c.args in
    let v = view a.pass.now in
    let z = view c.drop_unmade.new.pass in
    subst (λ (r : Ref). AddsHeldKey (shape_of a.bank.now) a.d a.key r a.called.now a.said.now v z c.add_new-added.result) c.keep-b.ensures
    (held_key (shape_of a.bank.now) a.d a.key c.keep-b.result (Plain a.value) a.called.now a.said.now v (view c.add_new-added.new.pass) z c.add_new-added.result c.requires.pass.1 c.drop_unmade.ensures.pass.1 (holds_here (goal.at.returns-clause-put c).After-keep-b) c.requires.may.even c.add_new-added.ensures.put c.drop_unmade.ensures.drops)
