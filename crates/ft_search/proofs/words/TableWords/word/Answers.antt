use Rattle.ft_trace.specs.declared.Act.TheVariants.{ReadTable}
use Rattle.ft_trace.specs.Addresses.{class_of, slots}
use Rattle.ft_trace.specs.Pictures.{entry_offset}
use Rattle.ft_bank.specs.TableNames.{table_id}
use Rattle.ft_search.proofs.LookSteps.{can_look_next}
use Rattle.ft_search.proofs.words.TableWords.word.Goals as goal

pub returns-clause-can : goal.returns-clause-can
returns-clause-can c =
    let g = c.entry.ensures.gave in
    let t = table_id c.args.self.now.table in
    can_look_next c.args.self.now c.entry.new.self (ReadTable t (entry_offset (slots (class_of t)) c.args.place c.args.word) c.entry.result) c.requires.can g.same tt tt g.did
