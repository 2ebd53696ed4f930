use Rattle.std.proofs.Common.{◌≡◌, ℕ, ◌-◌, List, length, Some, sym, ap, ◌∙◌, subst, arith}
use Rattle.std.specs.Prelude.{slice_set}
use Rattle.std.specs.List.{remove}
use Rattle.ft_layout.specs.Containers.{IsBlock}
use Rattle.ft_trace.specs.Boxes.{references_held}
use Rattle.ft_trace.specs.declared.Act.TheVariants.{PutBlock}
use Rattle.ft_trace.specs.declared.View.{View}
use Rattle.ft_trace.specs.Addresses.{class_of}
use Rattle.ft_trace.specs.Pictures.{ContainerWords}
use Rattle.ft_trace.specs.Holds.{held_unboxed}
use Rattle.ft_bank.specs.Passes.{shape_of, view}
use Rattle.ft_bank.specs.TableNames.{table_id}
use Rattle.ft_bank.specs.Whole.{OnlyWritten}
use Rattle.ft_bank.proofs.KnownAfterWrites.{put_by, put_written, written_then}
use Rattle.ft_list.proofs.Lists.{begins}
use Rattle.ft_search.proofs.Overs.{held_same}
use Rattle.ft_list.specs.ListItemWrites.{known_items}
use Rattle.ft_list.specs.Internal.Moving.{IsMoving}
use Rattle.ft_list.proofs.Cares.{table_class, writes_on}
use Rattle.ft_list.proofs.FinishedWrites.{with_count, root_stays}
use Rattle.ft_list.proofs.ItemWordsPut.{stored_none, moving_ends, long_remove}
use Rattle.ft_list.proofs.WholeListWrites.{finishing, list_wrote, root_wrote, stores_none}
use Rattle.ft_list.proofs.writes.remove_item.Goals as goal

pub finish-requires-clause-may : goal.finish-requires-clause-may
finish-requires-clause-may c =
    let a = c.args in
    let k = shape_of a.bank.now in
    let v = view a.pass.now in
    let s = view c.begin.new.pass in
    let y = view c.shift_down.new.pass in
    let u = view c.put_block.new.pass in
    let b = c.begin.ensures in
    let e = c.shift_down.ensures in
    let values = known_items a.o v in
    let news = remove values a.place in
    let class = class_of (table_id a.table) in
    let is_class = table_class k a.table c.requires.table.table_in in
    let count : length values ≡ a.count = sym c.requires.count in
    let place = c.requires.place in
    let few = b.few in
    let long : length news ≡ a.count - 1 = let l = long_remove values a.place (omega (arith, count, place)) in omega (arith, l, count) in
    let held_is = c.put_block.ensures.unboxed in
    let last = put_by (PutBlock a.o 1 (a.count - 1)) y u a.o tt c.put_block.ensures.did.1 c.put_block.ensures.keeps c.put_block.ensures.moves in
    let only : OnlyWritten a.o s u = written_then a.o s y u e.only (put_written a.o y u last) in
    let moving = subst (λ (w : ContainerWords). IsMoving class values news a.place (a.count) (a.count) w.table) (sym held_is) (e.moved values count (b.putting a.place (a.count))) in
    let changing = moving_ends class is_class values news a.place (a.count) (a.count) (held_unboxed a.o u).table moving (omega (arith, long, few, count))
    (λ p more. stored_none values p (omega (arith, more, count)) ∙ sym (stored_none news p (omega (arith, more, long, count, place)))) in
    let block : (held_unboxed a.o y).block ≡ (held_unboxed a.o s).block = e.block in
    let head = subst (λ (w : ContainerWords). IsBlock w.block (Some class) (length news) 0 0) (sym held_is)
    (subst (λ (n : ℕ). IsBlock (slice_set (held_unboxed a.o y).block 1 (a.count - 1)) (Some class) n 0 0) (sym long)
    (with_count (held_unboxed a.o y).block (Some class) (length values) (a.count - 1) (subst (λ (l : List ℕ). IsBlock l (Some class) (length values) 0 0) (sym block) b.head))) in
    let list = writes_on k a.o a.table y u e.pass.1 last.work c.put_block.ensures.boxes.references last.made (root_stays _ _ _ _ (omega arith) c.put_block.ensures.unboxed) e.list in
    let d = b.did in
    let call_is = c.requires.call in
    finishing k a.o a.table v s u d.0 (begins k a.o (view a.pass.now) c.requires.pass.1 c.requires.may) d.1.1 only a.place (a.count) call_is.0 a.called.now a.said.now values news call_is.1 call_is.2 b.content b.table list (ap (λ (z : View). z.shape) c.put_block.ensures.did.1 ∙ e.pass.1) changing head
    (λ stored has. stores_none k a.o a.table v s u d.0 (begins k a.o v c.requires.pass.1 c.requires.may) d.1.1 only c.requires.may.boxes.stored a.called.now stored)

pub returns-clause-wrote : goal.returns-clause-wrote
returns-clause-wrote c =
    let a = c.args in
    let k = shape_of a.bank.now in
    let v = view a.pass.now in
    let s = view c.begin.new.pass in
    let y = view c.shift_down.new.pass in
    let u = view c.put_block.new.pass in
    let d = c.begin.ensures.did in
    let e = c.shift_down.ensures in
    let last = put_by (PutBlock a.o 1 (a.count - 1)) y u a.o tt c.put_block.ensures.did.1 c.put_block.ensures.keeps c.put_block.ensures.moves in
    let call_is = c.requires.call in
    list_wrote k a.o a.table v s u d.0 (begins k a.o (view a.pass.now) c.requires.pass.1 c.requires.may) d.1.1 (written_then a.o s y u e.only (put_written a.o y u last)) call_is.0 a.called.now a.said.now c.finish.result (view c.finish.new.pass) call_is.1 call_is.2.write.changing c.finish.ensures.ends
    ((root_stays _ _ _ _ (omega arith) c.put_block.ensures.unboxed) ∙ (e.list.root ∙ sym c.requires.table.root))

pub returns-clause-root : goal.returns-clause-root
returns-clause-root c =
    let a = c.args in
    let k = shape_of a.bank.now in
    let v = view a.pass.now in
    let s = view c.begin.new.pass in
    let y = view c.shift_down.new.pass in
    let u = view c.put_block.new.pass in
    let d = c.begin.ensures.did in
    let e = c.shift_down.ensures in
    let last = put_by (PutBlock a.o 1 (a.count - 1)) y u a.o tt c.put_block.ensures.did.1 c.put_block.ensures.keeps c.put_block.ensures.moves in
    let call_is = c.requires.call in
    root_wrote k a.o a.table v s u d.0 (begins k a.o (view a.pass.now) c.requires.pass.1 c.requires.may) d.1.1 (written_then a.o s y u e.only (put_written a.o y u last)) call_is.0 a.called.now a.said.now c.finish.result (view c.finish.new.pass) call_is.1 call_is.2.write.changing c.finish.ensures.ends
    ((root_stays _ _ _ _ (omega arith) c.put_block.ensures.unboxed) ∙ (e.list.root ∙ sym c.requires.table.root))

pub returns-clause-references : goal.returns-clause-references
returns-clause-references c b =
    let begun : (n : ℕ) → references_held (view c.begin.new.pass).shape n (view c.begin.new.pass).log ≡ references_held (view c.args.pass.now).shape n (view c.args.pass.now).log = λ n. ap (λ (z : View). references_held z.shape n z.log) c.begin.ensures.did.1.1 in
    c.finish.ensures.references b ∙ (c.put_block.ensures.boxes.references b ∙ (c.shift_down.ensures.references b ∙ begun b))

pub begin-requires-clause-may : goal.begin-requires-clause-may
begin-requires-clause-may c = begins (shape_of c.args.bank.now) c.args.o (view c.args.pass.now) c.requires.pass.1 c.requires.may

pub shift_down-requires-clause-spare : goal.shift_down-requires-clause-spare
shift_down-requires-clause-spare c b =
    let k = shape_of c.args.bank.now in
    let begun = held_same k (view c.args.pass.now) (view c.begin.new.pass) c.requires.pass.1 c.begin.ensures.pass.1 (λ n. ap (λ (z : View). references_held z.shape n z.log) c.begin.ensures.did.1.1) b in
    let none = c.requires.may.boxes.none b in
    omega (arith, begun, none)
