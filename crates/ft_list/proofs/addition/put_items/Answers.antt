use Rattle.std.proofs.Common.{List, ◌++◌, ◌+◌, length, sym, ap, ◌∙◌, subst}
use Rattle.ft_model.specs.declared.data.Value.{Value}
use Rattle.ft_trace.specs.Addresses.{class_of}
use Rattle.ft_trace.specs.Holds.{held_unboxed}
use Rattle.ft_trace.specs.Pictures.{ContainerWords, item_field, root_in}
use Rattle.ft_bank.specs.Passes.{shape_of, view}
use Rattle.ft_bank.specs.TableNames.{table_id}
use Rattle.ft_bank.proofs.KnownAfterWrites.{written_then, loaded_held}
use Rattle.ft_list.specs.ListItemWrites.{IsPutting, stored_item}
use Rattle.ft_list.specs.Internal.Moving.{IsMoving}
use Rattle.ft_list.proofs.Cares.{writes_loaded, list_unboxed}
use Rattle.ft_list.proofs.Extending.{gives_loaded}
use Rattle.ft_list.proofs.Lists.{items_loaded}
use Rattle.ft_list.proofs.SharedItems.{spare_same}
use Rattle.ft_list.proofs.Written.{loaded_written}
use Rattle.ft_list.proofs.addition.put_items.Goals as goal

pub put_from-requires-clause-list : goal.put_from-requires-clause-list
put_from-requires-clause-list c =
    let a = c.args in
    let v = view a.pass.now in
    let w = view c.table_at_root-from.new.pass in
    let l = c.table_at_root-from.ensures.only in
    writes_loaded (shape_of a.bank.now) a.o a.table v w c.requires.pass.1 l c.requires.list

pub put_from-requires-clause-early : goal.put_from-requires-clause-early
put_from-requires-clause-early c = c.table_at_root-from.ensures.only.work.committed c.args.o ∙ c.requires.early

pub put_from-requires-clause-gives : goal.put_from-requires-clause-gives
put_from-requires-clause-gives c =
    let a = c.args in
    gives_loaded (shape_of a.bank.now) a.o a.m (view a.pass.now) (view c.table_at_root-from.new.pass) c.requires.pass.1 c.table_at_root-from.ensures.only c.requires.gives

pub put_from-requires-clause-root : goal.put_from-requires-clause-root
put_from-requires-clause-root c =
    let a = c.args in
    let e = c.table_at_root-from.ensures in
    ap root_in (loaded_held (view a.pass.now) (view c.table_at_root-from.new.pass) a.m e.only) ∙ e.root

pub put_from-requires-clause-count : goal.put_from-requires-clause-count
put_from-requires-clause-count c =
    let a = c.args in
    c.requires.count ∙ sym (ap length (items_loaded a.o (view a.pass.now) (view c.table_at_root-from.new.pass) c.table_at_root-from.ensures.only))

pub put_from-requires-clause-more : goal.put_from-requires-clause-more
put_from-requires-clause-more c =
    let a = c.args in
    c.requires.more ∙ sym (ap length (items_loaded a.m (view a.pass.now) (view c.table_at_root-from.new.pass) c.table_at_root-from.ensures.only))

pub put_from-requires-clause-before : goal.put_from-requires-clause-before
put_from-requires-clause-before c =
    let a = c.args in
    let v = view a.pass.now in
    let w = view c.table_at_root-from.new.pass in
    let l = c.table_at_root-from.ensures.only in
    subst (λ (z : List Value × ContainerWords). IsPutting (class_of (table_id a.table)) z.0 a.count (a.count + a.more) (stored_item z.0) z.1.table) (λ d. (sym (items_loaded a.o v w l) d, sym (list_unboxed (shape_of a.bank.now) a.o a.table v w c.requires.pass.1 l c.requires.list) d)) c.requires.before

pub returns-clause-only : goal.returns-clause-only
returns-clause-only c =
    let a = c.args in
    let v = view a.pass.now in
    let w = view c.table_at_root-from.new.pass in
    written_then a.o v w (view c.put_from.new.pass) (loaded_written a.o v w c.table_at_root-from.ensures.only) c.put_from.ensures.only

pub returns-clause-block : goal.returns-clause-block
returns-clause-block c =
    let a = c.args in
    c.put_from.ensures.block ∙ ap (λ (z : ContainerWords). z.block) (list_unboxed (shape_of a.bank.now) a.o a.table (view a.pass.now) (view c.table_at_root-from.new.pass) c.requires.pass.1 c.table_at_root-from.ensures.only c.requires.list)

pub returns-clause-moved : goal.returns-clause-moved
returns-clause-moved c =
    let a = c.args in
    let v = view a.pass.now in
    let w = view c.table_at_root-from.new.pass in
    let l = c.table_at_root-from.ensures.only in
    subst (λ (z : List Value × List Value). IsMoving (class_of (table_id a.table)) z.0 (z.0 ++ z.1) a.count (a.count + a.more) (a.count + a.more) (held_unboxed a.o (view c.put_from.new.pass)).table) (λ d. (items_loaded a.o v w l d, items_loaded a.m v w l d)) c.put_from.ensures.moved

pub returns-clause-references : goal.returns-clause-references
returns-clause-references c b = c.put_from.ensures.references b ∙ c.table_at_root-from.ensures.only.boxes.references b

pub put_from-requires-clause-spare : goal.put_from-requires-clause-spare
put_from-requires-clause-spare c =
    let a = c.args in
    let e = c.table_at_root-from.ensures in
    spare_same (shape_of a.bank.now) (view a.pass.now) (view c.table_at_root-from.new.pass) c.requires.pass.1 e.pass.1 e.only.boxes.references c.requires.spare

pub returns-clause-shares : goal.returns-clause-shares
returns-clause-shares c p low =
    let a = c.args in
    let same = loaded_held (view a.pass.now) (view c.table_at_root-from.new.pass) a.m c.table_at_root-from.ensures.only in
    let n = c.put_from.ensures.shares p low in
    (n.0 ∙ ap (λ (x : ContainerWords). item_field x.table p 1) same, n.1 ∙ ap (λ (x : ContainerWords). item_field x.table p 2) same)
