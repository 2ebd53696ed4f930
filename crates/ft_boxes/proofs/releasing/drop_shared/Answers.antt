use Rattle.std.proofs.Common.{◌≡◌, refl, sym, ap, ◌∙◌, arith}
use Rattle.ft_trace.specs.declared.Act.TheVariants.{DropShared}
use Rattle.ft_trace.specs.declared.View.{View}
use Rattle.ft_trace.specs.Boxes.{made_state, place_to_give, IsSettled}
use Rattle.ft_trace.specs.BoxWords.{lowered_word}
use Rattle.ft_trace.proofs.Cases.{hit, miss}
use Rattle.ft_bank.specs.BoxSteps.{box_id}
use Rattle.ft_bank.specs.Passes.{view}
use Rattle.ft_boxes.proofs.Steps.{leaves_by, settled_by}
use Rattle.ft_boxes.proofs.TakenBoxes.{gone_settled}
use Rattle.ft_trace.specs.declared.Act.TheVariants.{GivePlace}
use Rattle.ft_boxes.proofs.CountSteps.{took_one, took_then}
use Rattle.ft_boxes.proofs.releasing.drop_shared.Goals as goal

pub returns-else-found-eq-LAST-clause-gone : goal.returns-else-found-eq-LAST-clause-gone
returns-else-found-eq-LAST-clause-gone c =
    let v = view c.args.pass.now in
    let w = view c.drop_shared-found.new.pass in
    let n = box_id c.args.b in
    let f = c.drop_shared-found.result in
    let did = c.drop_shared-found.ensures.did.1 in
    let state : made_state n w.log ≡ made_state n v.log = ap (λ (z : View). made_state n z.log) did in
    let low = c.drop_shared-found.type_inv in
    let not_last = c.if-found-eq-LAST.false in
    let places : place_to_give n w.log ≡ place_to_give n v.log =
    ap (λ (z : View). place_to_give n z.log) did
    ∙ (hit n _ (place_to_give n v.log) ∙ miss (lowered_word f) 3 1 (place_to_give n v.log) (λ e. omega (arith, e, low, not_last))) in
    let settled : IsSettled w.log =
    settled_by c.args.b v w (leaves_by c.args.b v w (DropShared n f) tt refl did) c.requires.settled (λ e. c.requires.settled.unmade n (sym state ∙ e)) (λ own. absurd (c.requires.shared (sym state ∙ own)))
    (places ∙ c.requires.settled.given n) in
    gone_settled c.args.b v w c.drop_shared-found.new.pass.possible settled c.drop_shared-found.ensures.only

pub returns-then-found-eq-LAST-clause-steps : goal.returns-then-found-eq-LAST-clause-steps
returns-then-found-eq-LAST-clause-steps c =
    let b = box_id c.args.b in
    let x = c.drop_shared-found.new.pass in
    took_then c.args.pass.now x c.give_place.new.pass (took_one (DropShared b c.drop_shared-found.result) c.args.pass.now x tt c.drop_shared-found.ensures.did) (took_one (GivePlace b) x c.give_place.new.pass tt c.give_place.ensures.did)

pub returns-else-found-eq-LAST-clause-steps : goal.returns-else-found-eq-LAST-clause-steps
returns-else-found-eq-LAST-clause-steps c = took_one (DropShared (box_id c.args.b) c.drop_shared-found.result) c.args.pass.now c.drop_shared-found.new.pass tt c.drop_shared-found.ensures.did
