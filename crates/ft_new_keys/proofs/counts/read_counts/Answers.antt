use Rattle.ft_trace.specs.declared.Act.TheVariants.{ReadBlock}
use Rattle.ft_bank.specs.Passes.{view}
use Rattle.ft_bank.proofs.KnownAfterWrites.{loaded_by, loaded_then}
use Rattle.ft_new_keys.proofs.counts.read_counts.Goals as goal

pub returns-clause-only : goal.returns-clause-only
returns-clause-only c =
    let v = view c.args.pass.now in
    let a = view c.read_block-count.new.pass in
    let b = view c.read_block-fill.new.pass in
    let w = view c.read_block-next.new.pass in
    loaded_then v b w
    (loaded_then v a b (loaded_by (ReadBlock c.args.o 1 c.read_block-count.result) v a tt c.read_block-count.ensures.did.1) (loaded_by (ReadBlock c.args.o 2 c.read_block-fill.result) a b tt c.read_block-fill.ensures.did.1))
    (loaded_by (ReadBlock c.args.o 3 c.read_block-next.result) b w tt c.read_block-next.ensures.did.1)
