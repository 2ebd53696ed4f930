use Rattle.std.proofs.Common.{List, ◌++◌, ap, ◌∙◌}
use Rattle.ft_trace.specs.declared.Act.{Act}
use Rattle.ft_bank.specs.Passes.{shape_of, view}
use Rattle.ft_bank.specs.TableNames.{table_id}
use Rattle.ft_search.proofs.Running.{did_log}
use Rattle.ft_boxes_tests.specs.Seeing.{item_acts}
use Rattle.ft_boxes_tests.proofs.SeenItems.{seen_saws}
use Rattle.ft_boxes_tests.proofs.seeing.see_in.Goals as goal

-- the version was the same at the second look, and even
pub returns-clause-saw : goal.returns-clause-saw
returns-clause-saw c =
    let a = c.args in
    let seen = c.see_item-seen in
    let acts = item_acts (table_id a.table) a.index seen.result in
    seen_saws (shape_of a.bank.now) a.l (table_id a.table) a.index seen.result c.box_named.result (view seen.new.pass).log c.requires.last.0 c.requires.container c.requires.list c.requires.index c.if-seen.false c.if-seen-ne0.false c.if-seen-ne-BOX_KIND.false c.box_named.ensures.is
    (did_log acts a.pass.now seen.new.pass seen.ensures.did ∙ ap (λ (l : List Act). acts ++ l) c.requires.last.1)
