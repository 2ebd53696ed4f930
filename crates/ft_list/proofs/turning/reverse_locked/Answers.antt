use Rattle.std.proofs.Common.{◌≡◌, ◌<◌, List, length, refl, sym, ap, ◌∙◌, subst}
use Rattle.std.specs.Prelude.{reverse}
use Rattle.ft_model.specs.declared.call.ListCall.TheVariants as list
use Rattle.ft_model.specs.declared.data.Value.{Value}
use Rattle.ft_model.specs.declared.reply.Reply.TheVariants as reply
use Rattle.ft_trace.specs.declared.Act.TheVariants.{ReadBlock}
use Rattle.ft_trace.specs.declared.Shape.{Shape}
use Rattle.ft_trace.specs.declared.View.{View}
use Rattle.ft_trace.specs.Addresses.{container_count}
use Rattle.ft_trace.specs.Boxes.{place_use}
use Rattle.ft_trace.specs.Holds.{held_unboxed, known_state}
use Rattle.ft_trace.specs.Pictures.{root_in}
use Rattle.ft_bank.specs.Passes.{shape_of, view}
use Rattle.ft_bank.proofs.KnownAfterWrites.{loaded_by, loaded_then, loaded_held}
use Rattle.ft_list.specs.ListWrites.{Changes}
use Rattle.ft_list.specs.ListItemWrites.{known_items}
use Rattle.ft_list.proofs.ListCallFacts.{reverse_changes}
use Rattle.ft_list.proofs.Indexes.{no_items}
use Rattle.ft_list.proofs.Lists.{begins, content_of, items_loaded, may_loaded}
use Rattle.ft_list.proofs.EmptyWrites.{leaves_same}
use Rattle.ft_list.proofs.ListMidst.{wrote_as}
use Rattle.ft_list.proofs.Turned.{reversed_none}
use Rattle.ft_list.proofs.turning.reverse_locked.Goals as goal

pub reverse_items-number-requires-clause-may : goal.reverse_items-number-requires-clause-may
reverse_items-number-requires-clause-may c =
    let a = c.args in
    let k = shape_of a.bank.now in
    let v = view a.pass.now in
    let u = view c.count_of-count.new.pass in
    let t = view c.read_block-root.new.pass in
    let root = c.read_block-root.result in
    let e = c.count_of-count.ensures in
    let f = c.read_block-root.ensures in
    let only = loaded_by (ReadBlock a.l 0 root) u t tt f.did.1 in
    let may = may_loaded k a.l u t e.pass.1 only e.may in
    let shape = ap (λ (z : View). z.shape) f.did.1 ∙ e.pass.1 in
    let values = known_items a.l t in
    let low : a.l < container_count t.shape = subst (λ (s : Shape). a.l < container_count s) (sym shape) may.container in
    let is_list = content_of k a.l t shape c.read_block-root.new.pass.possible may in
    let turned = reverse_changes a.l values t low may.locked is_list in
    may

pub reverse_items-number-requires-clause-table : goal.reverse_items-number-requires-clause-table
reverse_items-number-requires-clause-table c =
    let a = c.args in
    let k = shape_of a.bank.now in
    let v = view a.pass.now in
    let u = view c.count_of-count.new.pass in
    let t = view c.read_block-root.new.pass in
    let root = c.read_block-root.result in
    let e = c.count_of-count.ensures in
    let f = c.read_block-root.ensures in
    let only = loaded_by (ReadBlock a.l 0 root) u t tt f.did.1 in
    let may = may_loaded k a.l u t e.pass.1 only e.may in
    let shape = ap (λ (z : View). z.shape) f.did.1 ∙ e.pass.1 in
    let values = known_items a.l t in
    let low : a.l < container_count t.shape = subst (λ (s : Shape). a.l < container_count s) (sym shape) may.container in
    let is_list = content_of k a.l t shape c.read_block-root.new.pass.possible may in
    let turned = reverse_changes a.l values t low may.locked is_list in
    record {
      table_in = c.in-Some.ensures.in_bank k (λ n x. f.table n refl x);
      root = ap root_in (loaded_held u t a.l only) ∙ (sym (f.held e.may.locked) ∙ c.in-Some.ensures.named);
    }

pub reverse_items-number-requires-clause-count : goal.reverse_items-number-requires-clause-count
reverse_items-number-requires-clause-count c =
    let a = c.args in
    let k = shape_of a.bank.now in
    let v = view a.pass.now in
    let u = view c.count_of-count.new.pass in
    let t = view c.read_block-root.new.pass in
    let root = c.read_block-root.result in
    let e = c.count_of-count.ensures in
    let f = c.read_block-root.ensures in
    let only = loaded_by (ReadBlock a.l 0 root) u t tt f.did.1 in
    let may = may_loaded k a.l u t e.pass.1 only e.may in
    let shape = ap (λ (z : View). z.shape) f.did.1 ∙ e.pass.1 in
    let values = known_items a.l t in
    let low : a.l < container_count t.shape = subst (λ (s : Shape). a.l < container_count s) (sym shape) may.container in
    let is_list = content_of k a.l t shape c.read_block-root.new.pass.possible may in
    let turned = reverse_changes a.l values t low may.locked is_list in
    e.count ∙ sym (ap length (items_loaded a.l u t only ∙ e.items))

pub reverse_items-number-requires-clause-call : goal.reverse_items-number-requires-clause-call
reverse_items-number-requires-clause-call c =
    let a = c.args in
    let k = shape_of a.bank.now in
    let v = view a.pass.now in
    let u = view c.count_of-count.new.pass in
    let t = view c.read_block-root.new.pass in
    let root = c.read_block-root.result in
    let e = c.count_of-count.ensures in
    let f = c.read_block-root.ensures in
    let only = loaded_by (ReadBlock a.l 0 root) u t tt f.did.1 in
    let may = may_loaded k a.l u t e.pass.1 only e.may in
    let shape = ap (λ (z : View). z.shape) f.did.1 ∙ e.pass.1 in
    let values = known_items a.l t in
    let low : a.l < container_count t.shape = subst (λ (s : Shape). a.l < container_count s) (sym shape) may.container in
    let is_list = content_of k a.l t shape c.read_block-root.new.pass.possible may in
    let turned = reverse_changes a.l values t low may.locked is_list in
    (list.Reverse, refl, turned)

pub write_nothing-number-requires-clause-may : goal.write_nothing-number-requires-clause-may
write_nothing-number-requires-clause-may c =
    let k = shape_of c.args.bank.now in
    let u = view c.count_of-count.new.pass in
    let t = view c.read_block-root.new.pass in
    let e = c.count_of-count.ensures in
    let f = c.read_block-root.ensures in
    let only = loaded_by (ReadBlock c.args.l 0 c.read_block-root.result) u t tt f.did.1 in
    begins k c.args.l t (ap (λ (z : View). z.shape) f.did.1 ∙ e.pass.1) (may_loaded k c.args.l u t e.pass.1 only e.may)

pub write_nothing-number-requires-clause-untaken : goal.write_nothing-number-requires-clause-untaken
write_nothing-number-requires-clause-untaken c b taken =
    let e = c.count_of-count.ensures in
    e.may.boxes.stored b (sym (ap (λ (z : View). place_use b z.log) c.read_block-root.ensures.did.1) ∙ taken)

pub write_nothing-number-requires-clause-bare : goal.write_nothing-number-requires-clause-bare
write_nothing-number-requires-clause-bare c =
    let a = c.args in
    let k = shape_of a.bank.now in
    let v = view a.pass.now in
    let u = view c.count_of-count.new.pass in
    let t = view c.read_block-root.new.pass in
    let root = c.read_block-root.result in
    let e = c.count_of-count.ensures in
    let f = c.read_block-root.ensures in
    let only = loaded_by (ReadBlock a.l 0 root) u t tt f.did.1 in
    let may = may_loaded k a.l u t e.pass.1 only e.may in
    let shape = ap (λ (z : View). z.shape) f.did.1 ∙ e.pass.1 in
    let values = known_items a.l t in
    let low : a.l < container_count t.shape = subst (λ (s : Shape). a.l < container_count s) (sym shape) may.container in
    let is_list = content_of k a.l t shape c.read_block-root.new.pass.possible may in
    let turned = reverse_changes a.l values t low may.locked is_list in
    let none : root_in (held_unboxed a.l t) ≡ 0 = ap root_in (loaded_held u t a.l only) ∙ (sym (f.held e.may.locked) ∙ c.in-None.ensures.none k (λ n x. f.table n refl x)) in
    let same : reverse values ≡ values = reversed_none values (no_items k.texts (held_unboxed a.l t) (known_state a.l t) none may.stands) in
    let stays = subst (λ (z : List Value). Changes a.l list.Reverse reply.Done values z t) same turned in
    none

pub write_nothing-number-requires-clause-leaves : goal.write_nothing-number-requires-clause-leaves
write_nothing-number-requires-clause-leaves c =
    let a = c.args in
    let k = shape_of a.bank.now in
    let v = view a.pass.now in
    let u = view c.count_of-count.new.pass in
    let t = view c.read_block-root.new.pass in
    let root = c.read_block-root.result in
    let e = c.count_of-count.ensures in
    let f = c.read_block-root.ensures in
    let only = loaded_by (ReadBlock a.l 0 root) u t tt f.did.1 in
    let may = may_loaded k a.l u t e.pass.1 only e.may in
    let shape = ap (λ (z : View). z.shape) f.did.1 ∙ e.pass.1 in
    let values = known_items a.l t in
    let low : a.l < container_count t.shape = subst (λ (s : Shape). a.l < container_count s) (sym shape) may.container in
    let is_list = content_of k a.l t shape c.read_block-root.new.pass.possible may in
    let turned = reverse_changes a.l values t low may.locked is_list in
    let none : root_in (held_unboxed a.l t) ≡ 0 = ap root_in (loaded_held u t a.l only) ∙ (sym (f.held e.may.locked) ∙ c.in-None.ensures.none k (λ n x. f.table n refl x)) in
    let same : reverse values ≡ values = reversed_none values (no_items k.texts (held_unboxed a.l t) (known_state a.l t) none may.stands) in
    let stays = subst (λ (z : List Value). Changes a.l list.Reverse reply.Done values z t) same turned in
    leaves_same a.l list.Reverse reply.Done values t low may.locked is_list stays

pub returns-in-Some-clause-made : goal.returns-in-Some-clause-made
returns-in-Some-clause-made c =
    let a = c.args in
    let k = shape_of a.bank.now in
    let v = view a.pass.now in
    let u = view c.count_of-count.new.pass in
    let t = view c.read_block-root.new.pass in
    let root = c.read_block-root.result in
    let e = c.count_of-count.ensures in
    let f = c.read_block-root.ensures in
    let only = loaded_by (ReadBlock a.l 0 root) u t tt f.did.1 in
    let may = may_loaded k a.l u t e.pass.1 only e.may in
    let shape = ap (λ (z : View). z.shape) f.did.1 ∙ e.pass.1 in
    let values = known_items a.l t in
    let low : a.l < container_count t.shape = subst (λ (s : Shape). a.l < container_count s) (sym shape) may.container in
    let is_list = content_of k a.l t shape c.read_block-root.new.pass.possible may in
    let turned = reverse_changes a.l values t low may.locked is_list in
    wrote_as k a.l list.Reverse reply.Done v t (view c.reverse_items-number.new.pass) shape c.read_block-root.new.pass.possible may (loaded_then v u t e.only only) c.reverse_items-number.result (reverse values) turned
    c.reverse_items-number.ensures.wrote c.reverse_items-number.ensures.root c.reverse_items-number.ensures.references

pub returns-in-None-clause-made : goal.returns-in-None-clause-made
returns-in-None-clause-made c =
    let a = c.args in
    let k = shape_of a.bank.now in
    let v = view a.pass.now in
    let u = view c.count_of-count.new.pass in
    let t = view c.read_block-root.new.pass in
    let root = c.read_block-root.result in
    let e = c.count_of-count.ensures in
    let f = c.read_block-root.ensures in
    let only = loaded_by (ReadBlock a.l 0 root) u t tt f.did.1 in
    let may = may_loaded k a.l u t e.pass.1 only e.may in
    let shape = ap (λ (z : View). z.shape) f.did.1 ∙ e.pass.1 in
    let values = known_items a.l t in
    let low : a.l < container_count t.shape = subst (λ (s : Shape). a.l < container_count s) (sym shape) may.container in
    let is_list = content_of k a.l t shape c.read_block-root.new.pass.possible may in
    let turned = reverse_changes a.l values t low may.locked is_list in
    let none : root_in (held_unboxed a.l t) ≡ 0 = ap root_in (loaded_held u t a.l only) ∙ (sym (f.held e.may.locked) ∙ c.in-None.ensures.none k (λ n x. f.table n refl x)) in
    let same : reverse values ≡ values = reversed_none values (no_items k.texts (held_unboxed a.l t) (known_state a.l t) none may.stands) in
    let stays = subst (λ (z : List Value). Changes a.l list.Reverse reply.Done values z t) same turned in
    wrote_as k a.l list.Reverse reply.Done v t (view c.write_nothing-number.new.pass) shape c.read_block-root.new.pass.possible may (loaded_then v u t e.only only) c.write_nothing-number.result values stays
    c.write_nothing-number.ensures.wrote c.write_nothing-number.ensures.root c.write_nothing-number.ensures.references
