use Rattle.std.proofs.Common.{◌≡◌, ◌<◌, ℕ, ◌+◌, ℤ, length, refl, sym, ap, ◌∙◌, subst, arith}
use mir.Syntax.{w64}
use mir.Val.{to_z, of_z}
use Rattle.std.proofs.Math.Facts.{to_z-of_z}
use Rattle.ft_model.specs.Lists.{clamped_in}
use Rattle.ft_list.specs.HeldValues.{GivesReference}
use Rattle.ft_list.specs.ListGrowth.{AddsItems}
use Rattle.std.specs.List.{insert}
use Rattle.ft_model.specs.declared.call.Call.TheVariants as call
use Rattle.ft_model.specs.declared.call.ListCall.TheVariants as list
use Rattle.ft_model.specs.declared.reply.Reply.TheVariants as reply
use Rattle.ft_model.specs.Worlds.{list_of}
use Rattle.ft_trace.specs.declared.Shape.{Shape}
use Rattle.ft_trace.specs.Addresses.{container_count}
use Rattle.ft_trace.specs.ContainerStates.{ContainerState}
use Rattle.ft_bank.specs.Passes.{shape_of, view}
use Rattle.ft_bank.proofs.KnownAfterWrites.{loaded_then, work_knows}
use Rattle.ft_table_calls.proofs.Cursors.{added_cursors}
use Rattle.ft_list.specs.ListWrites.{Adds}
use Rattle.ft_list.specs.ListItemWrites.{known_items}
use Rattle.ft_list.proofs.ListCallFacts.{insert_adds}
use Rattle.ft_list.proofs.GrownLists.{knows_content}
use Rattle.ft_list.proofs.Additions.{adds_items}
use Rattle.ft_search.proofs.Overs.{held_same}
use Rattle.ft_search.proofs.Puts.{few_done, few_same}
use Rattle.ft_bank.proofs.DoneBoxes.{stays_settled_same}
use Rattle.ft_list.proofs.AddedStored.{plain_added, plain_store, stores_plain}
use Rattle.ft_layout.specs.declared.slot.Stored.TheVariants.{Plain}
use Rattle.ft_trace.proofs.ValuePlaces.{plain_kind}
use Rattle.ft_list.proofs.adding.insert_by.Goals as goal

pub add_to-requires-clause-may : goal.add_to-requires-clause-may
add_to-requires-clause-may c =
    let a = c.args in
    let l = loaded_then (view a.pass.now) (view c.count_of-count.new.pass) (view c.root_table-old.new.pass) c.count_of-count.ensures.only c.root_table-old.ensures.only in
    record {
      list = c.root_table-old.ensures.list;
      even = λ p. l.work.pass.writes p ∙ c.requires.may.even p;
      used = l.work.used ∙ c.requires.used;
      owes = l.work.owes ∙ c.requires.may.owes;
      idle = l.work.pass.flight ∙ c.requires.idle;
      settled = (stays_settled_same (view a.pass.now) (view c.root_table-old.new.pass) l.boxes.made).settled c.requires.may.boxes.settled;
      few = few_same (view a.pass.now) (view c.root_table-old.new.pass) l.boxes.references (few_done (shape_of a.bank.now) (view a.pass.now) c.requires.pass.1 c.requires.may.boxes);
      left = subst (λ (n : ℕ). 0 < n) (sym l.work.left) c.requires.may.left;
    }

pub add_to-requires-clause-call : goal.add_to-requires-clause-call
add_to-requires-clause-call c =
    let a = c.args in
    let k = shape_of a.bank.now in
    let u = view c.root_table-old.new.pass in
    let e = c.root_table-old.ensures in
    let values = known_items a.l u in
    let z = to_z w64 (of_z w64 a.index) in
    let low : a.l < container_count u.shape = subst (λ (x : Shape). a.l < container_count x) (sym e.pass.1) e.list.container in
    let count : length values ≡ c.count_of-count.result = ap (λ (x : ContainerState). length (list_of x.content)) (work_knows (view c.count_of-count.new.pass) u a.l e.only.work) ∙ (ap length c.count_of-count.ensures.items ∙ sym c.count_of-count.ensures.count) in
    let place : clamped_in (length values) z ≡ c.clamped-place.result = ap (λ (n : ℕ). clamped_in n z) count ∙ sym c.clamped-place.ensures.place in (
      list.Insert z a.value,
      refl,
      subst (λ (n : ℕ). Adds a.l (list.Insert z a.value) values (insert values n a.value) u) place
          (insert_adds a.l z a.value values u low e.list.locked (knows_content k a.l c.root_table-old.result u e.pass.1 c.root_table-old.new.pass.possible e.list) c.value_fits.ensures),
    )

pub returns-clause-added : goal.returns-clause-added
returns-clause-added c =
    let a = c.args in
    let k = shape_of a.bank.now in
    let x = view c.count_of-count.new.pass in
    let u = view c.root_table-old.new.pass in
    let e = c.root_table-old.ensures in
    subst (λ (i : ℤ). AddsItems k a.l (call.List a.l (list.Insert i a.value)) 1 (view a.pass.now) (view c.add_to.new.pass) c.add_to.result) (to_z-of_z {w = w64} {z = a.index} c.ranges.index)
    (adds_items k a.l 1 c.root_table-old.result (view a.pass.now) u (view c.add_to.new.pass) (c.count_of-count.result + 1) (call.List a.l (list.Insert (to_z w64 (of_z w64 a.index)) a.value)) c.add_to.result
    (loaded_then (view a.pass.now) x u c.count_of-count.ensures.only e.only) e.list e.pass.1 c.root_table-old.new.pass.possible (ap (λ (n : ℕ). n + 1) c.count_of-count.ensures.count) (plain_added (shape_of a.bank.now) _ _ (Plain a.value) _ u (view c.add_to.new.pass) c.add_to.result e.pass.1 (plain_kind a.value) c.add_to.ensures.added))

pub returns-clause-cursors : goal.returns-clause-cursors
returns-clause-cursors c number =
    let a = c.args in
    let e = c.root_table-old.ensures in
    let u = view c.root_table-old.new.pass in
    added_cursors (GivesReference (shape_of a.bank.now) (Plain a.value)) (shape_of a.bank.now) _ _ _ reply.Done u (view c.add_to.new.pass) c.add_to.result c.add_to.ensures.added number
    ∙ (e.only.work.pass.cursors number ∙ c.count_of-count.ensures.only.work.pass.cursors number)

pub add_to-requires-clause-stores : goal.add_to-requires-clause-stores
add_to-requires-clause-stores c =
    let a = c.args in
    let l = loaded_then (view a.pass.now) (view c.count_of-count.new.pass) (view c.root_table-old.new.pass) c.count_of-count.ensures.only c.root_table-old.ensures.only in
    stores_plain (Plain a.value) _ (view c.root_table-old.new.pass) (λ b taken. c.requires.may.boxes.stored b (sym (l.boxes.made.uses b) ∙ taken))

pub add_to-requires-clause-spare : goal.add_to-requires-clause-spare
add_to-requires-clause-spare c b =
    let a = c.args in
    let l = loaded_then (view a.pass.now) (view c.count_of-count.new.pass) (view c.root_table-old.new.pass) c.count_of-count.ensures.only c.root_table-old.ensures.only in
    let same = held_same (shape_of a.bank.now) (view a.pass.now) (view c.root_table-old.new.pass) c.requires.pass.1 (l.work.pass.shape ∙ c.requires.pass.1) l.boxes.references b in
    let none = c.requires.may.boxes.none b in
    omega (arith, same, none)

pub add_to-requires-clause-addition : goal.add_to-requires-clause-addition
add_to-requires-clause-addition c = (c.clamped-place.ensures.within, plain_store c.args.value (view c.root_table-old.new.pass) c.value_fits.ensures)
