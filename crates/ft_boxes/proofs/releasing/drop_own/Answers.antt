use Rattle.std.proofs.Common.{◌≡◌, ◌-◌, refl, ap, ◌∙◌, arith}
use Rattle.ft_trace.specs.declared.Act.TheVariants.{DropLocal}
use Rattle.ft_trace.specs.declared.View.{View}
use Rattle.ft_trace.specs.Boxes.{made_state, local_count, taken_out, place_to_give, IsSettled}
use Rattle.ft_trace.proofs.Cases.{hit}
use Rattle.ft_bank.specs.BoxSteps.{box_id}
use Rattle.ft_bank.specs.Passes.{view}
use Rattle.ft_bank.proofs.KnownAfterWrites.{boxed_then, loaded_boxed}
use Rattle.ft_boxes.proofs.Heaps.{loaded_then, then_last}
use Rattle.ft_boxes.proofs.Steps.{keeps_by, leaves_by, leaves_same, leaves_then, settled_by}
use Rattle.ft_boxes.proofs.TakenBoxes.{gone_settled}
use Rattle.ft_trace.specs.declared.Act.TheVariants.{ReadBox}
use Rattle.ft_boxes.proofs.CountSteps.{took_one, took_then}
use Rattle.ft_boxes.proofs.releasing.drop_own.Goals as goal

pub returns-then-count-eq1-clause-only : goal.returns-then-count-eq1-clause-only
returns-then-count-eq1-clause-only c =
    let v = view c.args.pass.now in
    let x = view c.read_box-count.new.pass in
    let y = view c.drop_local.new.pass in
    boxed_then v y (view c.merge.new.pass) (boxed_then v x y (loaded_boxed v x c.read_box-count.ensures.only) c.drop_local.ensures.only) c.merge.ensures.only

pub returns-then-count-eq1-clause-values : goal.returns-then-count-eq1-clause-values
returns-then-count-eq1-clause-values c =
    let v = view c.args.pass.now in
    let x = view c.read_box-count.new.pass in
    let y = view c.drop_local.new.pass in
    let z = view c.merge.new.pass in
    let drops = keeps_by x y (DropLocal (box_id c.args.b) _) (λ k b i n which. refl) c.drop_local.ensures.did.1 in
    let first = loaded_then v x y c.args.pass.now.possible c.read_box-count.ensures.only c.drop_local.ensures.only drops in
    then_last v y z c.merge.ensures.only c.merge.ensures.same first.1 c.merge.ensures.values

pub returns-else-count-eq1-clause-gone : goal.returns-else-count-eq1-clause-gone
returns-else-count-eq1-clause-gone c =
    let v = view c.args.pass.now in
    let x = view c.read_box-count.new.pass in
    let y = view c.drop_local.new.pass in
    let n = box_id c.args.b in
    let count = c.read_box-count.result in
    let did = c.drop_local.ensures.did.1 in
    let made = c.read_box-count.ensures.only.boxes.made in
    let own = c.requires.own in
    let leaves = leaves_then c.args.b v x y (leaves_same c.args.b v x made) (leaves_by c.args.b x y (DropLocal n (count - 1)) tt refl did) in
    let state : made_state n y.log ≡ 2 = ap (λ (z : View). made_state n z.log) did ∙ (made.state n ∙ own) in
    let local : local_count n y.log ≡ count - 1 = ap (λ (z : View). local_count n z.log) did ∙ hit n (count - 1) (local_count n x.log) in
    let is : count ≡ local_count n v.log = (c.read_box-count.ensures.local refl own).0 in
    let some_ = c.requires.settled.counted n own in
    let more = c.if-count-eq1.false in
    let settled : IsSettled y.log =
    settled_by c.args.b v y leaves c.requires.settled (λ e. omega (arith, e, state))
    (λ _. (omega (arith, local, is, some_, more), ap (λ (z : View). taken_out n z.log) did ∙ (made.taken n ∙ c.requires.settled.whole n own)))
    (ap (λ (z : View). place_to_give n z.log) did ∙ (made.places n ∙ c.requires.settled.given n)) in
    gone_settled c.args.b v y c.drop_local.new.pass.possible settled (boxed_then v x y (loaded_boxed v x c.read_box-count.ensures.only) c.drop_local.ensures.only)

pub returns-then-count-eq1-clause-gone : goal.returns-then-count-eq1-clause-gone
returns-then-count-eq1-clause-gone c =
    gone_settled c.args.b (view c.args.pass.now) (view c.merge.new.pass) c.merge.new.pass.possible c.merge.ensures.settled (returns-then-count-eq1-clause-only c)

pub returns-then-count-eq1-clause-steps : goal.returns-then-count-eq1-clause-steps
returns-then-count-eq1-clause-steps c =
    let b = box_id c.args.b in
    let x = c.read_box-count.new.pass in
    let y = c.drop_local.new.pass in
    took_then c.args.pass.now y c.merge.new.pass
    (took_then c.args.pass.now x y (took_one (ReadBox b 3 c.read_box-count.result) c.args.pass.now x tt c.read_box-count.ensures.did) (took_one (DropLocal b (c.read_box-count.result - 1)) x y tt c.drop_local.ensures.did))
    c.merge.ensures.steps

pub returns-else-count-eq1-clause-steps : goal.returns-else-count-eq1-clause-steps
returns-else-count-eq1-clause-steps c =
    let b = box_id c.args.b in
    let x = c.read_box-count.new.pass in
    let y = c.drop_local.new.pass in
    took_then c.args.pass.now x y (took_one (ReadBox b 3 c.read_box-count.result) c.args.pass.now x tt c.read_box-count.ensures.did) (took_one (DropLocal b (c.read_box-count.result - 1)) x y tt c.drop_local.ensures.did)
