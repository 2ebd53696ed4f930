use Rattle.std.proofs.Common.{◌≡◌, ℕ, ◌<◌, length, refl, sym, ap, ◌∙◌, subst, arith}
use Rattle.std.specs.List.{insert}
use Rattle.ft_model.specs.declared.call.Call.TheVariants as call
use Rattle.ft_model.specs.declared.call.ListCall.TheVariants as list
use Rattle.ft_model.specs.declared.content.Content.TheVariants as content
use Rattle.ft_layout.specs.declared.slot.Ref.{Ref}
use Rattle.ft_trace.specs.declared.Act.TheVariants.{ReadBlock}
use Rattle.ft_trace.specs.declared.Shape.{Shape}
use Rattle.ft_trace.specs.Addresses.{container_count}
use Rattle.ft_trace.specs.ContainerStates.{kind_in}
use Rattle.ft_trace.specs.Holds.{known_state}
use Rattle.ft_bank.specs.Passes.{shape_of, view}
use Rattle.ft_bank.specs.Whole.{OnlyLoaded}
use Rattle.ft_bank.proofs.KnownAfterWrites.{loaded_by}
use Rattle.ft_boxes.specs.References.{box_of}
use Rattle.ft_search.specs.HeldValues.{HoldsValue}
use Rattle.ft_list.specs.HeldValues.{AddsHeldItem}
use Rattle.ft_list.specs.ListItemWrites.{known_items}
use Rattle.ft_list.specs.ListWrites.{Adds, MayBeginList}
use Rattle.ft_list.proofs.AddedHeld.{held_loaded}
use Rattle.ft_list.proofs.HeldWrites.{begins_on, holds_loaded, items_on, loaded_reads}
use Rattle.ft_list.proofs.ListCallFacts.{append_adds}
use Rattle.ft_list.proofs.Lists.{list_content, list_counts}
use Rattle.ft_list.proofs.boxing.append_held.Goals as goal
use Rattle.ft_list.proofs.boxing.append_held.Goals.{After-read_block-count}

module _ (c : After-read_block-count) where
  load : OnlyLoaded (view c.args.pass.now) (view c.read_block-count.new.pass)
  load = loaded_by (ReadBlock c.args.l 1 c.read_block-count.result) (view c.args.pass.now) (view c.read_block-count.new.pass) tt c.read_block-count.ensures.did.1

  may_u : MayBeginList (shape_of c.args.bank.now) c.args.l (view c.read_block-count.new.pass)
  may_u =
      let k = shape_of c.args.bank.now in
      let v = view c.args.pass.now in
      let u = view c.read_block-count.new.pass in
      begins_on k c.args.l v u c.requires.pass.1 load.work (loaded_reads k c.args.l v u c.requires.pass.1 load c.requires.may) load c.requires.may

  shape_u : (view c.read_block-count.new.pass).shape ≡ shape_of c.args.bank.now
  shape_u = load.work.pass.shape ∙ c.requires.pass.1

  is_list : (known_state c.args.l (view c.args.pass.now)).content ≡ content.List (known_items c.args.l (view c.args.pass.now))
  is_list = list_content (view c.args.pass.now) c.args.l c.args.pass.now.possible c.requires.may.locked (ap (λ (z : Shape). kind_in z.starts c.args.l) c.requires.pass.1 ∙ c.requires.may.kind)

  is_list_u : (known_state c.args.l (view c.read_block-count.new.pass)).content ≡ content.List (known_items c.args.l (view c.read_block-count.new.pass))
  is_list_u = list_content (view c.read_block-count.new.pass) c.args.l c.read_block-count.new.pass.possible may_u.locked (ap (λ (z : Shape). kind_in z.starts c.args.l) shape_u ∙ may_u.kind)

  count_is : c.read_block-count.result ≡ length (known_items c.args.l (view c.args.pass.now))
  count_is = c.read_block-count.ensures.held c.requires.may.locked ∙ list_counts (shape_of c.args.bank.now).texts (view c.args.pass.now) c.args.l is_list c.requires.may.stands

  items_u : known_items c.args.l (view c.read_block-count.new.pass) ≡ known_items c.args.l (view c.args.pass.now)
  items_u = items_on c.args.l (view c.args.pass.now) (view c.read_block-count.new.pass) load.work

  count_u : c.read_block-count.result ≡ length (known_items c.args.l (view c.read_block-count.new.pass))
  count_u = count_is ∙ sym (ap length items_u)

  low_u : c.args.l < container_count (view c.read_block-count.new.pass).shape
  low_u = subst (λ (z : Shape). c.args.l < container_count z) (sym shape_u) may_u.container

pub add_box-requires-clause-may : goal.add_box-requires-clause-may
add_box-requires-clause-may c = may_u (goal.at.add_box-requires-clause-may c).After-read_block-count

pub add_box-requires-clause-used : goal.add_box-requires-clause-used
add_box-requires-clause-used c = (load (goal.at.add_box-requires-clause-used c).After-read_block-count).work.used ∙ c.requires.used

pub add_box-requires-clause-idle : goal.add_box-requires-clause-idle
add_box-requires-clause-idle c = (load (goal.at.add_box-requires-clause-idle c).After-read_block-count).work.pass.flight ∙ c.requires.idle

pub add_box-requires-clause-held : goal.add_box-requires-clause-held
add_box-requires-clause-held c =
    let u = view c.read_block-count.new.pass in
    subst (λ (z : Ref). HoldsValue z c.args.value u) (sym c.keep.ensures)
    (holds_loaded (box_of c.args.held) c.args.value (view c.args.pass.now) u c.args.pass.now.possible (load (goal.at.add_box-requires-clause-held c).After-read_block-count) c.requires.held)

pub add_box-requires-clause-count : goal.add_box-requires-clause-count
add_box-requires-clause-count c = (count_u (goal.at.add_box-requires-clause-count c).After-read_block-count, omega arith)

pub add_box-requires-clause-call : goal.add_box-requires-clause-call
add_box-requires-clause-call c =
    let a = c.args in
    let d = (goal.at.add_box-requires-clause-call c).After-read_block-count in
    let u = view c.read_block-count.new.pass in
    let values = known_items a.l u in (
      list.Append a.value,
      refl,
      subst (λ (m : ℕ). Adds a.l (list.Append a.value) values (insert values m a.value) u) (sym (count_u d))
          (append_adds a.l a.value values u (low_u d) (may_u d).locked (is_list_u d) c.value_fits.ensures),
    )

pub returns-clause-added : goal.returns-clause-added
returns-clause-added c =
    let a = c.args in
    let k = shape_of a.bank.now in
    let d = (goal.at.returns-clause-added c).After-read_block-count in
    let v = view a.pass.now in
    let w = view c.add_box.new.pass in
    let called = call.List a.l (list.Append a.value) in
    subst (λ (z : ℕ × Ref). AddsHeldItem k a.l z.0 a.value z.1 called v w c.add_box.result) (λ i. (count_is d i, c.keep.ensures i))
    (held_loaded k a.l c.read_block-count.result a.value c.keep.result called v (view c.read_block-count.new.pass) w c.add_box.result (load d) c.add_box.ensures.added)
