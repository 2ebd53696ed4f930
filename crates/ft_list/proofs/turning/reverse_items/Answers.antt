use Rattle.std.proofs.Common.{◌≡◌, ℕ, ◌/◌, List, length, Some, sym, ap, ◌∙◌, subst, arith}
use Rattle.std.specs.Prelude.{reverse}
use Rattle.std.proofs.lemmas.List.{length-reverse}
use Rattle.ft_layout.specs.Containers.{IsBlock}
use Rattle.ft_trace.specs.declared.View.{View}
use Rattle.ft_trace.specs.Boxes.{references_held}
use Rattle.ft_trace.specs.Addresses.{class_of}
use Rattle.ft_trace.specs.Holds.{held_unboxed}
use Rattle.ft_bank.specs.Passes.{shape_of, view}
use Rattle.ft_bank.specs.TableNames.{table_id}
use Rattle.ft_list.proofs.Lists.{begins}
use Rattle.ft_search.proofs.Overs.{held_same}
use Rattle.ft_list.specs.ListItemWrites.{known_items}
use Rattle.ft_list.specs.Internal.Reversing.{IsTurning}
use Rattle.ft_list.proofs.Cares.{table_class}
use Rattle.ft_list.proofs.Turned.{turning_ends}
use Rattle.ft_list.proofs.WholeListWrites.{finishing, list_wrote, root_wrote, stores_none}
use Rattle.ft_list.proofs.turning.reverse_items.Goals as goal
use Rattle.ft_list.proofs.ItemWordsPut.{Changed}

pub turn-requires-clause-count : goal.turn-requires-clause-count
turn-requires-clause-count c = let f = c.begin.ensures.few in let n = c.requires.count in omega (arith, f, n)

pub finish-requires-clause-places : goal.finish-requires-clause-places
finish-requires-clause-places c = let f = c.begin.ensures.few in let n = c.requires.count in (omega arith, omega (arith, f, n))

pub finish-requires-clause-may : goal.finish-requires-clause-may
finish-requires-clause-may c =
    let a = c.args in
    let k = shape_of a.bank.now in
    let v = view a.pass.now in
    let s = view c.begin.new.pass in
    let u = view c.turn.new.pass in
    let b = c.begin.ensures in
    let e = c.turn.ensures in
    let values = known_items a.o v in
    let news = reverse values in
    let class = class_of (table_id a.table) in
    let is_class = table_class k a.table c.requires.table.table_in in
    let count : length values ≡ a.count = sym c.requires.count in
    let turning = e.turned values count (b.putting 0 a.count) in
    let changing = subst (λ (n : ℕ). Changed class values news 0 n (held_unboxed a.o u).table) count
    (turning_ends class is_class values (held_unboxed a.o u).table (subst (λ (n : ℕ). IsTurning class values (n / 2) (held_unboxed a.o u).table) (sym count) turning) b.few) in
    let head = subst (λ (n : ℕ). IsBlock (held_unboxed a.o u).block (Some class) n 0 0) (sym (length-reverse values)) (subst (λ (l : List ℕ). IsBlock l (Some class) (length values) 0 0) (sym e.block) b.head) in
    let d = b.did in
    let call_is = c.requires.call in
    finishing k a.o a.table v s u d.0 (begins k a.o (view a.pass.now) c.requires.pass.1 c.requires.may) d.1.1 e.only 0 a.count call_is.0 a.called.now a.said.now values news call_is.1 call_is.2 b.content b.table e.list e.pass.1 changing head
    (λ stored has. stores_none k a.o a.table v s u d.0 (begins k a.o v c.requires.pass.1 c.requires.may) d.1.1 e.only c.requires.may.boxes.stored a.called.now stored)

pub returns-clause-wrote : goal.returns-clause-wrote
returns-clause-wrote c =
    let a = c.args in
    let k = shape_of a.bank.now in
    let v = view a.pass.now in
    let s = view c.begin.new.pass in
    let u = view c.turn.new.pass in
    let d = c.begin.ensures.did in
    let e = c.turn.ensures in
    let call_is = c.requires.call in
    list_wrote k a.o a.table v s u d.0 (begins k a.o (view a.pass.now) c.requires.pass.1 c.requires.may) d.1.1 e.only call_is.0 a.called.now a.said.now c.finish.result (view c.finish.new.pass) call_is.1 call_is.2.write.changing c.finish.ensures.ends (e.list.root ∙ sym c.requires.table.root)

pub returns-clause-root : goal.returns-clause-root
returns-clause-root c =
    let a = c.args in
    let k = shape_of a.bank.now in
    let v = view a.pass.now in
    let s = view c.begin.new.pass in
    let u = view c.turn.new.pass in
    let d = c.begin.ensures.did in
    let e = c.turn.ensures in
    let call_is = c.requires.call in
    root_wrote k a.o a.table v s u d.0 (begins k a.o (view a.pass.now) c.requires.pass.1 c.requires.may) d.1.1 e.only call_is.0 a.called.now a.said.now c.finish.result (view c.finish.new.pass) call_is.1 call_is.2.write.changing c.finish.ensures.ends (e.list.root ∙ sym c.requires.table.root)

pub returns-clause-references : goal.returns-clause-references
returns-clause-references c b =
    let begun : (n : ℕ) → references_held (view c.begin.new.pass).shape n (view c.begin.new.pass).log ≡ references_held (view c.args.pass.now).shape n (view c.args.pass.now).log = λ n. ap (λ (z : View). references_held z.shape n z.log) c.begin.ensures.did.1.1 in
    c.finish.ensures.references b ∙ (c.turn.ensures.references b ∙ begun b)

pub begin-requires-clause-may : goal.begin-requires-clause-may
begin-requires-clause-may c = begins (shape_of c.args.bank.now) c.args.o (view c.args.pass.now) c.requires.pass.1 c.requires.may

pub turn-requires-clause-spare : goal.turn-requires-clause-spare
turn-requires-clause-spare c b =
    let k = shape_of c.args.bank.now in
    let begun = held_same k (view c.args.pass.now) (view c.begin.new.pass) c.requires.pass.1 c.begin.ensures.pass.1 (λ n. ap (λ (z : View). references_held z.shape n z.log) c.begin.ensures.did.1.1) b in
    let none = c.requires.may.boxes.none b in
    omega (arith, begun, none)
