use Rattle.ft_bank.specs.TableNames.{table_id}
use Rattle.ft_boxes_tests.proofs.SeenItems.{seen_did, seen_only}
use Rattle.ft_boxes_tests.proofs.seeing.see_item.Goals as goal

pub returns-clause-did : goal.returns-clause-did
returns-clause-did c =
    seen_did (table_id c.args.table) c.args.index _ c.args.pass.now c.load_word-opened.new.pass c.load_word-kind.new.pass c.load_word-payload.new.pass c.load_word-closed.new.pass
    c.load_word-opened.ensures.did c.load_word-kind.ensures.did c.load_word-payload.ensures.did c.load_word-closed.ensures.did

pub returns-clause-only : goal.returns-clause-only
returns-clause-only c = seen_only (table_id c.args.table) c.args.index _ c.args.pass.now c.load_word-closed.new.pass (returns-clause-did c)
