use Rattle.std.proofs.Common.{ℕ, List, sym, ap, ◌∙◌, arith}
use Rattle.ft_trace.specs.Addresses.{class_of, slots}
use Rattle.ft_trace.specs.Holds.{held_unboxed}
use Rattle.ft_trace.specs.Pictures.{entry_field}
use Rattle.ft_bank.specs.Passes.{shape_of, view}
use Rattle.ft_bank.specs.TableNames.{table_id}
use Rattle.ft_bank.proofs.KnownAfterWrites.{put_written, written_then}
use Rattle.ft_new_keys.proofs.NewEntryPuts.{few_used}
use Rattle.ft_boxes.proofs.Steps.{keeps_then}
use Rattle.ft_new_keys.proofs.placing.put_key.Goals as goal

pub overflow_add-fill : goal.overflow_add-fill
overflow_add-fill c =
    let a = c.args in
    let f = few_used (shape_of a.bank.now) a.o a.table (view a.pass.now) a.slot a.counts.fill (held_unboxed a.o (view a.pass.now)).table c.requires.writes c.requires.unused in
    omega (arith, f)

pub returns-clause-only : goal.returns-clause-only
returns-clause-only c = written_then c.args.o _ _ _ (put_written c.args.o _ _ c.put_counts.ensures.only) c.put_pair.ensures.only

pub returns-clause-values : goal.returns-clause-values
returns-clause-values c =
    let v = view c.args.pass.now in
    let u = view c.put_counts.new.pass in
    let e = c.put_counts.ensures in
    keeps_then v u (view c.put_pair.new.pass) (sym e.only.work.pass.shape) e.references e.values c.put_pair.ensures.values

pub returns-clause-others : goal.returns-clause-others
returns-clause-others c other word ne few =
    c.put_pair.ensures.others other word ne few ∙ ap (λ (l : List ℕ). entry_field (slots (class_of (table_id c.args.table))) l other word) c.put_counts.ensures.raw
