use Rattle.std.proofs.Common.{◌+◌, ◌≤◌, length, arith}
use Rattle.std.specs.List.{insert}
use Rattle.ft_layout.specs.declared.slot.Stored.TheVariants.{Plain}
use Rattle.ft_trace.specs.Addresses.{class_of}
use Rattle.ft_trace.specs.Holds.{held_unboxed}
use Rattle.ft_bank.specs.Passes.{shape_of, view}
use Rattle.ft_bank.specs.TableNames.{table_id}
use Rattle.ft_list.proofs.Cares.{table_class}
use Rattle.ft_list.proofs.ItemWordsPut.{moving_starts, moving_next, insert_low, insert_here}
use Rattle.ft_list.proofs.writes.put_last.Goals as goal

pub returns-clause-moved : goal.returns-clause-moved
returns-clause-moved c value reads values long putting =
    let a = c.args in
    let class = class_of (table_id a.table) in
    let is_class = table_class (shape_of a.bank.now) a.table c.requires.list.table_in in
    let before = held_unboxed a.o (view a.pass.now) in
    let news = insert values a.count value in
    let low : a.count ≤ length values = omega (arith, long) in
    let starts = moving_starts class is_class values news a.count (a.count + 1) a.count before.table putting (λ q less. insert_low values a.count value q low less) in
    moving_next class is_class values news a.count (a.count + 1) a.count before (held_unboxed a.o (view c.put_item.new.pass)) (Plain value) starts (c.put_item.ensures.puts (Plain value) reads) reads.fits (insert_here values a.count value low) (omega arith) (omega arith)
