use Rattle.std.proofs.Common.{◌≡◌, ◌<◌, true, Some, length, sym, ap, ◌∙◌, subst}
use Rattle.ft_model.specs.declared.script.Kind.TheVariants as kind
use Rattle.ft_layout.specs.Containers.{IsBlock}
use Rattle.ft_trace.specs.declared.Shape.{Shape}
use Rattle.ft_trace.specs.declared.View.{View}
use Rattle.ft_trace.specs.Acts.{has_lock, is_writing}
use Rattle.ft_trace.specs.Addresses.{container_count, class_of}
use Rattle.ft_trace.specs.Boxes.{references_held}
use Rattle.ft_trace.specs.Pictures.{root_in}
use Rattle.ft_trace.proofs.Cases.{hit}
use Rattle.ft_trace.specs.ContainerStates.{kind_in}
use Rattle.ft_trace.specs.Holds.{held_unboxed}
use Rattle.ft_bank.specs.Passes.{shape_of, view}
use Rattle.ft_bank.specs.TableNames.{table_id}
use Rattle.ft_search.proofs.Puts.{few_same}
use Rattle.ft_search.proofs.ReadyCommits.{settled_begun}
use Rattle.ft_list.specs.ListItemWrites.{IsPutting, known_items, stored_item}
use Rattle.ft_list.proofs.Cares.{table_class}
use Rattle.ft_list.proofs.Lists.{list_content, list_known, list_shut}
use Rattle.ft_list.proofs.ItemWordsPut.{putting_starts, list_few}
use Rattle.ft_list.proofs.writes.begin.Goals as goal
use Rattle.ft_search.proofs.Changing.{no_keys}

pub returns-clause-content : goal.returns-clause-content
returns-clause-content c =
    let a = c.args in
    let is_kind : kind_in (view a.pass.now).shape.starts a.o ≡ kind.List = ap (λ (z : Shape). kind_in z.starts a.o) c.requires.pass.1 ∙ c.requires.may.kind in
    list_content (view a.pass.now) a.o a.pass.now.possible c.requires.may.locked is_kind

pub returns-clause-table : goal.returns-clause-table
returns-clause-table c =
    let a = c.args in
    let v = view a.pass.now in
    let is_kind : kind_in v.shape.starts a.o ≡ kind.List = ap (λ (z : Shape). kind_in z.starts a.o) c.requires.pass.1 ∙ c.requires.may.kind in
    let content = list_content v a.o a.pass.now.possible c.requires.may.locked is_kind in
    (list_known (shape_of a.bank.now).texts v a.o (table_id a.table) content c.requires.may.stands c.requires.table.root).1
    (no_keys v a.o a.pass.now.possible c.requires.may.locked)

pub returns-clause-head : goal.returns-clause-head
returns-clause-head c =
    let a = c.args in
    let v = view a.pass.now in
    let is_kind : kind_in v.shape.starts a.o ≡ kind.List = ap (λ (z : Shape). kind_in z.starts a.o) c.requires.pass.1 ∙ c.requires.may.kind in
    let content = list_content v a.o a.pass.now.possible c.requires.may.locked is_kind in
    let words = (list_known (shape_of a.bank.now).texts v a.o (table_id a.table) content c.requires.may.stands c.requires.table.root).0 in
    subst (λ (z : View). IsBlock (held_unboxed a.o z).block (Some (class_of (table_id a.table))) (length (known_items a.o v)) 0 0) (sym c.start_write.ensures.1) words.head

pub returns-clause-putting : goal.returns-clause-putting
returns-clause-putting c first past =
    let a = c.args in
    let v = view a.pass.now in
    let class = class_of (table_id a.table) in
    let is_kind : kind_in v.shape.starts a.o ≡ kind.List = ap (λ (z : Shape). kind_in z.starts a.o) c.requires.pass.1 ∙ c.requires.may.kind in
    let low : a.o < container_count v.shape = subst (λ (z : Shape). a.o < container_count z) (sym c.requires.pass.1) c.requires.may.container in
    let content = list_content v a.o a.pass.now.possible c.requires.may.locked is_kind in
    let words = (list_known (shape_of a.bank.now).texts v a.o (table_id a.table) content c.requires.may.stands c.requires.table.root).0 in
    subst (λ (z : View). IsPutting class (known_items a.o v) first past (stored_item (known_items a.o v)) (held_unboxed a.o z).table) (sym c.start_write.ensures.1)
    (putting_starts class (table_class (shape_of a.bank.now) a.table c.requires.table.table_in) (known_items a.o v) (held_unboxed a.o v).table first past words.table
    (list_shut v a.o (table_id a.table) a.pass.now.possible low c.requires.may.locked (c.requires.may.even a.o) is_kind c.requires.table.root))

pub returns-clause-few : goal.returns-clause-few
returns-clause-few c =
    let a = c.args in
    let v = view a.pass.now in
    let is_kind : kind_in v.shape.starts a.o ≡ kind.List = ap (λ (z : Shape). kind_in z.starts a.o) c.requires.pass.1 ∙ c.requires.may.kind in
    let content = list_content v a.o a.pass.now.possible c.requires.may.locked is_kind in
    list_few (class_of (table_id a.table)) (table_class (shape_of a.bank.now) a.table c.requires.table.table_in) (known_items a.o v) _ (list_known (shape_of a.bank.now).texts v a.o (table_id a.table) content c.requires.may.stands c.requires.table.root).0.table

pub returns-clause-list : goal.returns-clause-list
returns-clause-list c =
    let a = c.args in
    let v = view a.pass.now in
    let s = view c.start_write.new.pass in
    let begun = c.start_write.ensures.1 in
    let may = c.requires.may in
    record {
      container = may.container;
      kind = may.kind;
      table_in = c.requires.table.table_in;
      locked = ap (λ (z : View). has_lock a.o z.log) begun ∙ may.locked;
      odd = ap (λ (z : View). is_writing a.o z.log) begun ∙ hit a.o true (is_writing a.o v.log);
      root = ap (λ (z : View). root_in (held_unboxed a.o z)) begun ∙ c.requires.table.root;
      settled = settled_begun a.o v s c.start_write.result begun may.settled;
      few = few_same v s (λ b. ap (λ (z : View). references_held z.shape b z.log) begun) may.few;
    }
