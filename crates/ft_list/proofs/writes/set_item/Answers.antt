use Rattle.std.proofs.Common.{◌≡◌, ◌≢◌, ℕ, ◌+◌, ◌<◌, List, length, Some, sym, ap, ◌∙◌, subst, arith, length-set, refl}
use Rattle.std.specs.Prelude.{slice_index, slice_set}
use Rattle.ft_layout.specs.declared.slot.Stored.TheVariants.{Plain}
use Rattle.ft_layout.specs.Containers.{IsBlock}
use Rattle.ft_layout.specs.Words.{IsStored, stored_kind, stored_payload}
use Rattle.ft_model.specs.TableUses.{StoredWorld}
use Rattle.ft_model.specs.declared.script.Kind.TheVariants as kind
use Rattle.ft_trace.specs.declared.Shape.{Shape}
use Rattle.ft_trace.specs.declared.View.{View}
use Rattle.ft_trace.specs.Acts.{mem}
use Rattle.ft_trace.specs.Boxes.{named_in_container, references_held, StoresTaken}
use Rattle.ft_trace.specs.ContainerStates.{changes, kind_in}
use Rattle.ft_bank.specs.BoxSteps.{kind_read, payload_read, HasReferenceFor}
use Rattle.ft_bank.specs.WriteSteps.{MayHave}
use Rattle.ft_trace.specs.Addresses.{class_of, slots}
use Rattle.ft_trace.specs.Holds.{held_unboxed}
use Rattle.ft_trace.specs.Pictures.{item_field}
use Rattle.ft_bank.specs.Passes.{shape_of, view}
use Rattle.ft_bank.specs.TableNames.{table_id}
use Rattle.ft_list.specs.ListItemWrites.{ReadsAs, known_items, stored_item, but_at}
use Rattle.ft_list.proofs.Cares.{table_class}
use Rattle.ft_list.proofs.ItemWordsPut.{putting_put, putting_ends, stored_set}
use Rattle.ft_list.proofs.WholeListWrites.{earlier_has, finishing, list_wrote, root_wrote, taken_before}
use Rattle.ft_list.proofs.GrowWrites.{list_changes}
use Rattle.ft_list.proofs.NamedItems.{box_named, item_named}
use Rattle.ft_layout.proofs.WordLaws.{stored_is_one}
use Rattle.ft_search.proofs.Overs.{held_same}
use Rattle.ft_search.proofs.Owning.{keeps_begun}
use Rattle.ft_list.proofs.writes.set_item.Goals as goal
use Rattle.ft_list.proofs.writes.set_item.Goals.{After-begin, After-put_item}

-- what is to be stored is so once the write has begun, and reads the same
keeps_then_begun : (c : After-begin) → HasReferenceFor (view c.begin.new.pass) (stored_kind c.args.stored) (stored_payload c.args.stored) × (kind_read (view c.begin.new.pass) (stored_kind c.args.stored) (stored_payload c.args.stored) ≡ kind_read (view c.args.pass.now) (stored_kind c.args.stored) (stored_payload c.args.stored)) × (payload_read (view c.begin.new.pass) (stored_kind c.args.stored) (stored_payload c.args.stored) ≡ payload_read (view c.args.pass.now) (stored_kind c.args.stored) (stored_payload c.args.stored))
keeps_then_begun c =
    let d = c.begin.ensures.did in
    keeps_begun (view c.args.pass.now) (view c.begin.new.pass) c.args.o d.0 d.1.1 (stored_kind c.args.stored) (stored_payload c.args.stored) c.requires.own

reads_then : (c : After-begin) → ReadsAs (view c.begin.new.pass) c.args.stored (Plain c.args.value)
reads_then c =
    let k = keeps_then_begun c in
    record { fits = c.requires.reads.fits; kind_is = k.1 ∙ c.requires.reads.kind_is; payload_is = k.2 ∙ c.requires.reads.payload_is }

-- a box that no write of the pass has stored is stored by this one
stores_then : (c : After-put_item) → (stored : StoredWorld) → MayHave (view c.put_item.new.pass) stored → StoresTaken (view c.put_item.new.pass).shape stored.world (view c.put_item.new.pass).log c.args.called.now
stores_then c stored has =
    let a = c.args in
    let k = shape_of a.bank.now in
    let v = view a.pass.now in
    let s = view c.begin.new.pass in
    let u = view c.put_item.new.pass in
    let d = c.begin.ensures.did in
    let e = c.put_item.ensures in
    let call_is = c.requires.call in
    let before = taken_before k a.o a.table v s u d.0 c.requires.may d.1.1 e.only in
    let at : changes a.called.now ≡ a.o = list_changes a.o call_is.0 a.called.now call_is.1 call_is.2.write.changing in
    let is_kind : kind_in u.shape.starts a.o ≡ kind.List = ap (λ (z : Shape). kind_in z.starts a.o) e.pass.1 ∙ e.list.kind in
    let low : a.place < slots (class_of (table_id a.table)) = let f = c.begin.ensures.few in let p = c.requires.place in omega (arith, f, p) in
    let old : MayHave v stored = earlier_has k a.o a.table v s u d.0 c.requires.may d.1.1 e.only stored has in (
      (λ b taken.
          let was = before b taken in
          let names = box_named b (stored_kind a.stored) (stored_payload a.stored) (c.requires.stores.named b was) in
          let raw = e.boxed names.0 in (
            subst (λ (n : ℕ). named_in_container u.shape b n (mem u.shape u.log) ≢ 0) (sym at) (item_named u a.o (table_id a.table) a.place b is_kind e.list.root low (raw.0 ∙ names.0) (raw.1 ∙ names.1)),
            c.requires.stores.boxing b was stored old,
          )),
      (λ b n one two.
          let first = box_named b (stored_kind a.stored) (stored_payload a.stored) (c.requires.stores.named b (before b one)) in
          let second = box_named n (stored_kind a.stored) (stored_payload a.stored) (c.requires.stores.named n (before n two)) in
          sym first.1 ∙ second.1),
    )

pub put_item-requires-clause-place : goal.put_item-requires-clause-place
put_item-requires-clause-place c = let f = c.begin.ensures.few in let p = c.requires.place in omega (arith, f, p)

pub finish-requires-clause-places : goal.finish-requires-clause-places
finish-requires-clause-places c = let f = c.begin.ensures.few in let p = c.requires.place in (omega arith, omega (arith, f, p))

pub finish-requires-clause-may : goal.finish-requires-clause-may
finish-requires-clause-may c =
    let a = c.args in
    let k = shape_of a.bank.now in
    let v = view a.pass.now in
    let s = view c.begin.new.pass in
    let u = view c.put_item.new.pass in
    let b = c.begin.ensures in
    let e = c.put_item.ensures in
    let values = known_items a.o v in
    let news = slice_set values a.place a.value in
    let class = class_of (table_id a.table) in
    let is_class = table_class k a.table c.requires.table.table_in in
    let long : length news ≡ length values = length-set values a.place a.value in
    let few = b.few in
    let putting = putting_put class is_class values a.place (a.place + 1) (stored_item values) (held_unboxed a.o s) (held_unboxed a.o u) a.place (Plain a.value) (b.putting a.place (a.place + 1)) (e.puts (Plain a.value) (reads_then (goal.at.finish-requires-clause-may c).After-begin)) c.requires.reads.fits (omega arith) (omega arith) refl in
    let changing = putting_ends class is_class values news a.place (a.place + 1) (but_at (stored_item values) a.place (Plain a.value)) (held_unboxed a.o u).table putting (omega (arith, long, few)) (λ p low. stored_set values a.place p a.value c.requires.place) in
    let head = subst (λ (n : ℕ). IsBlock (held_unboxed a.o u).block (Some class) n 0 0) (sym long) (subst (λ (l : List ℕ). IsBlock l (Some class) (length values) 0 0) (sym e.block) b.head) in
    let d = b.did in
    let call_is = c.requires.call in
    finishing k a.o a.table v s u d.0 c.requires.may d.1.1 e.only a.place (a.place + 1) call_is.0 a.called.now a.said.now values news call_is.1 call_is.2 b.content b.table e.list e.pass.1 changing head
    (stores_then (goal.at.finish-requires-clause-may c).After-put_item)

pub returns-clause-wrote : goal.returns-clause-wrote
returns-clause-wrote c =
    let a = c.args in
    let k = shape_of a.bank.now in
    let v = view a.pass.now in
    let s = view c.begin.new.pass in
    let u = view c.put_item.new.pass in
    let d = c.begin.ensures.did in
    let e = c.put_item.ensures in
    let call_is = c.requires.call in
    list_wrote k a.o a.table v s u d.0 c.requires.may d.1.1 e.only call_is.0 a.called.now a.said.now c.finish.result (view c.finish.new.pass) call_is.1 call_is.2.write.changing c.finish.ensures.ends (e.list.root ∙ sym c.requires.table.root)

pub returns-clause-root : goal.returns-clause-root
returns-clause-root c =
    let a = c.args in
    let k = shape_of a.bank.now in
    let v = view a.pass.now in
    let s = view c.begin.new.pass in
    let u = view c.put_item.new.pass in
    let d = c.begin.ensures.did in
    let e = c.put_item.ensures in
    let call_is = c.requires.call in
    root_wrote k a.o a.table v s u d.0 c.requires.may d.1.1 e.only call_is.0 a.called.now a.said.now c.finish.result (view c.finish.new.pass) call_is.1 call_is.2.write.changing c.finish.ensures.ends (e.list.root ∙ sym c.requires.table.root)

pub put_item-requires-clause-own : goal.put_item-requires-clause-own
put_item-requires-clause-own c = (keeps_then_begun (goal.at.put_item-requires-clause-own c).After-begin).0

pub put_item-requires-clause-fresh : goal.put_item-requires-clause-fresh
put_item-requires-clause-fresh c four seen reads says =
    let a = c.args in
    let v = view a.pass.now in
    let s = view c.begin.new.pass in
    let b = c.begin.ensures in
    let values = known_items a.o v in
    let low : a.place < slots (class_of (table_id a.table)) = let f = b.few in let p = c.requires.place in omega (arith, f, p) in
    let table = (held_unboxed a.o s).table in
    -- the item would store the value
    let stands = (b.putting a.place (a.place + 1)).items a.place low in
    let there = reads_then (goal.at.put_item-requires-clause-fresh c).After-begin in
    let here : IsStored (item_field table a.place 1) (item_field table a.place 2) seen =
    record { fits = reads.fits; kind_is = sym (ap (λ (l : List ℕ). slice_index l 0) says); payload_is = sym (ap (λ (l : List ℕ). slice_index l 1) says) } in
    c.requires.fresh four (stored_is_one _ _ (stored_item values a.place) seen stands here ∙ stored_is_one _ _ seen (Plain a.value) reads there)

pub returns-clause-references : goal.returns-clause-references
returns-clause-references c b =
    let k = shape_of c.args.bank.now in
    let v = view c.args.pass.now in
    let s = view c.begin.new.pass in
    let u = view c.put_item.new.pass in
    let w = view c.finish.new.pass in
    let begun = held_same k v s c.requires.pass.1 c.begin.ensures.pass.1 (λ n. ap (λ (z : View). references_held z.shape n z.log) c.begin.ensures.did.1.1) b in
    let put = c.put_item.ensures.references b in
    let done = held_same k u w c.put_item.ensures.pass.1 c.finish.ensures.pass.1 c.finish.ensures.references b in
    omega (arith, begun, put, done)

pub returns-clause-boxed : goal.returns-clause-boxed
returns-clause-boxed c four =
    let e = c.put_item.ensures.boxed four in
    let f = c.finish.ensures.values c.args.place in
    (f 1 (omega arith) (omega arith) ∙ e.0, f 2 (omega arith) (omega arith) ∙ e.1)
