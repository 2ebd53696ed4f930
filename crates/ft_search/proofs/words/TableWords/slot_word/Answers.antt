use Rattle.ft_trace.specs.declared.Act.TheVariants.{ReadTable}
use Rattle.ft_bank.specs.TableNames.{table_id}
use Rattle.ft_search.proofs.LookSteps.{can_look_next}
use Rattle.ft_search.proofs.words.TableWords.slot_word.Goals as goal

pub returns-clause-can : goal.returns-clause-can
returns-clause-can c =
    let g = c.index.ensures.gave in
    can_look_next c.args.self.now c.index.new.self (ReadTable (table_id c.args.self.now.table) c.args.slot c.index.result) c.requires.can g.same tt tt g.did
