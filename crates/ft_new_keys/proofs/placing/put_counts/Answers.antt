use Rattle.std.proofs.Common.{sym, ap, ◌∙◌}
use Rattle.ft_trace.specs.declared.View.{View}
use Rattle.ft_trace.specs.Pictures.{ContainerWords}
use Rattle.ft_bank.specs.Passes.{view}
use Rattle.ft_boxes.proofs.Steps.{keeps_then}
use Rattle.ft_new_keys.proofs.NewEntryPuts.{boxes_keep}
use Rattle.ft_new_keys.proofs.placing.put_counts.Goals as goal

pub returns-clause-values : goal.returns-clause-values
returns-clause-values c =
    let v = view c.args.pass.now in
    let a = view c.put_block.new.pass in
    let b = view c.put_block-2.new.pass in
    let d = view c.put_block-3.new.pass in
    let one = c.put_block.ensures in
    let two = c.put_block-2.ensures in
    let three = c.put_block-3.ensures in
    keeps_then v a d (sym (ap (λ (z : View). z.shape) one.did.1)) one.boxes.references (boxes_keep v a c.args.pass.now.possible one.boxes)
    (keeps_then a b d (sym (ap (λ (z : View). z.shape) two.did.1)) two.boxes.references (boxes_keep a b c.put_block.new.pass.possible two.boxes) (boxes_keep b d c.put_block-2.new.pass.possible three.boxes))

pub returns-clause-raw : goal.returns-clause-raw
returns-clause-raw c =
    ap (λ (x : ContainerWords). x.table) c.put_block-3.ensures.held
    ∙ (ap (λ (x : ContainerWords). x.table) c.put_block-2.ensures.held ∙ ap (λ (x : ContainerWords). x.table) c.put_block.ensures.held)
