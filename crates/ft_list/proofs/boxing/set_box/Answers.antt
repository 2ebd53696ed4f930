use Rattle.std.proofs.Common.{refl, ◌≡◌, ◌<◌, true≢false, List, length, sym, ap, ◌∙◌, subst, arith}
use Rattle.std.specs.Prelude.{slice_set}
use Rattle.ft_model.specs.declared.call.Call.{Call}
use Rattle.ft_model.specs.declared.call.ListCall.TheVariants as list
use Rattle.ft_model.specs.declared.data.Value.{Value}
use Rattle.ft_model.specs.declared.reply.Reply.TheVariants as reply
use Rattle.ft_layout.specs.declared.slot.Ref.{Ref}
use Rattle.ft_layout.specs.declared.slot.Stored.TheVariants.{Plain}
use Rattle.ft_layout.specs.Words.{stored_kind, stored_payload}
use Rattle.ft_model.specs.Boxings.{boxes}
use Rattle.ft_trace.specs.declared.Shape.{Shape}
use Rattle.ft_trace.specs.declared.View.{View}
use Rattle.ft_trace.specs.Boxes.{IsDoneWithBoxes}
use Rattle.ft_trace.specs.Pictures.{root_in}
use Rattle.ft_trace.proofs.ValuePlaces.{plain_kind}
use Rattle.ft_bank.specs.BoxSteps.{box_id}
use Rattle.ft_bank.specs.Passes.{shape_of, view}
use Rattle.ft_bank.specs.Whole.{OnlyBoxed}
use Rattle.ft_bank.proofs.KnownAfterWrites.{boxed_then, loaded_boxed, loaded_held}
use Rattle.ft_boxes.specs.References.{box_of}
use Rattle.ft_search.proofs.Overs.{plain_refs}
use Rattle.ft_search.proofs.Owning.{plain_seen}
use Rattle.ft_search.specs.HeldValues.{HoldsValue}
use Rattle.ft_list.specs.ListItemWrites.{known_items, stored_item}
use Rattle.ft_list.specs.ListWrites.{Changes, MayBeginList, MayWriteList}
use Rattle.ft_list.proofs.HeldWrites.{begins_on, box_own, box_reads, box_stores, boxed_reads, changes_on, done_dropped, done_stored, done_wrote, holds_box, holds_loaded, item_stands, items_on, loaded_reads, may_on}
use Rattle.ft_list.proofs.Lists.{begins}
use Rattle.ft_list.proofs.boxing.set_box.Goals as goal
use Rattle.ft_list.proofs.boxing.set_box.Goals.{After-read_stored-old, After-release, After-keep, After-set_item, After-set_item-2}

-- ---- what the item stores

pub read_stored-old-requires-clause-place : goal.read_stored-old-requires-clause-place
read_stored-old-requires-clause-place c =
    let a = c.args in
    (item_stands (shape_of a.bank.now) a.l a.table (view a.pass.now) c.requires.pass.1 a.pass.now.possible c.requires.may c.requires.table a.place c.requires.place).0

old_is : (c : After-read_stored-old) → c.read_stored-old.result ≡ stored_item (known_items c.args.l (view c.args.pass.now)) c.args.place
old_is c =
    let a = c.args in
    c.read_stored-old.ensures.stored (stored_item (known_items a.l (view a.pass.now)) a.place)
    (item_stands (shape_of a.bank.now) a.l a.table (view a.pass.now) c.requires.pass.1 a.pass.now.possible c.requires.may c.requires.table a.place c.requires.place).1

-- ---- after the load

module _ (c : After-read_stored-old) where
  may_then : MayBeginList (shape_of c.args.bank.now) c.args.l (view c.read_stored-old.new.pass)
  may_then =
      let k = shape_of c.args.bank.now in
      let v = view c.args.pass.now in
      let u = view c.read_stored-old.new.pass in
      let l = c.read_stored-old.ensures.only in
      begins_on k c.args.l v u c.requires.pass.1 l.work (loaded_reads k c.args.l v u c.requires.pass.1 l c.requires.may) l c.requires.may

  holds_then : HoldsValue (box_of c.args.held) c.args.value (view c.read_stored-old.new.pass)
  holds_then = holds_loaded (box_of c.args.held) c.args.value (view c.args.pass.now) (view c.read_stored-old.new.pass) c.args.pass.now.possible c.read_stored-old.ensures.only c.requires.held

pub release-requires-clause-held : goal.release-requires-clause-held
release-requires-clause-held c = holds_box (box_of c.args.held) c.args.value (view c.read_stored-old.new.pass) (holds_then (goal.at.release-requires-clause-held c).After-read_stored-old)

pub release-requires-clause-settled : goal.release-requires-clause-settled
release-requires-clause-settled c = (may_then (goal.at.release-requires-clause-settled c).After-read_stored-old).settled

pub keep-requires-clause-held : goal.keep-requires-clause-held
keep-requires-clause-held c = holds_box (box_of c.args.held) c.args.value (view c.read_stored-old.new.pass) (holds_then (goal.at.keep-requires-clause-held c).After-read_stored-old)

-- ---- the list has the value, and the reference is dropped

module _ (c : After-release) where
  abbrev k : Shape
  k = shape_of c.args.bank.now

  abbrev v : View
  v = view c.args.pass.now

  abbrev u : View
  u = view c.read_stored-old.new.pass

  abbrev r : View
  r = view c.release.new.pass

  drops : OnlyBoxed (view c.args.pass.now) (view c.release.new.pass)
  drops = boxed_then v u r (loaded_boxed v u c.read_stored-old.ensures.only) c.release.ensures.only

  may_u : MayBeginList (shape_of c.args.bank.now) c.args.l (view c.read_stored-old.new.pass)
  may_u = begins_on k c.args.l v u c.requires.pass.1 c.read_stored-old.ensures.only.work (loaded_reads k c.args.l v u c.requires.pass.1 c.read_stored-old.ensures.only c.requires.may) c.read_stored-old.ensures.only c.requires.may

  done_r : IsDoneWithBoxes (shape_of c.args.bank.now) (view c.release.new.pass).log
  done_r =
      let e = c.release.ensures in
      done_dropped k (box_of c.args.held) c.args.value u r c.read_stored-old.ensures.pass.1
      (holds_loaded (box_of c.args.held) c.args.value v u c.args.pass.now.possible c.read_stored-old.ensures.only c.requires.held)
      e.pass.1 e.settled may_u.even e.less e.places e.gone

  may_r : MayWriteList (shape_of c.args.bank.now) c.args.l (view c.release.new.pass)
  may_r = may_on k c.args.l u r c.read_stored-old.ensures.pass.1 c.release.ensures.only.work (boxed_reads k c.args.l u r c.read_stored-old.ensures.pass.1 c.release.ensures.only may_u) done_r may_u

  items_r : known_items c.args.l (view c.release.new.pass) ≡ known_items c.args.l (view c.args.pass.now)
  items_r = items_on c.args.l v r drops.work

pub set_item-requires-clause-may : goal.set_item-requires-clause-may
set_item-requires-clause-may c = begins (shape_of c.args.bank.now) c.args.l (view c.release.new.pass) c.release.ensures.pass.1 (may_r (goal.at.set_item-requires-clause-may c).After-release)

pub set_item-requires-clause-table : goal.set_item-requires-clause-table
set_item-requires-clause-table c =
    let d = (goal.at.set_item-requires-clause-table c).After-release in
    record { table_in = c.requires.table.table_in; root = ap root_in (boxed_reads (shape_of c.args.bank.now) c.args.l (view c.args.pass.now) (view c.release.new.pass) c.requires.pass.1 (drops d) c.requires.may) ∙ c.requires.table.root }

pub set_item-requires-clause-place : goal.set_item-requires-clause-place
set_item-requires-clause-place c = subst (λ (z : List Value). c.args.place < length z) (sym (items_r (goal.at.set_item-requires-clause-place c).After-release)) c.requires.place

pub set_item-requires-clause-fits : goal.set_item-requires-clause-fits
set_item-requires-clause-fits c = c.requires.value

pub set_item-requires-clause-own : goal.set_item-requires-clause-own
set_item-requires-clause-own c four = absurd (plain_kind c.args.value four)

pub set_item-requires-clause-reads : goal.set_item-requires-clause-reads
set_item-requires-clause-reads c = plain_seen (view c.release.new.pass) (Plain c.args.value) (plain_kind c.args.value) c.requires.value

pub set_item-requires-clause-fresh : goal.set_item-requires-clause-fresh
set_item-requires-clause-fresh c four same = absurd (plain_kind c.args.value four)

pub set_item-requires-clause-stores : goal.set_item-requires-clause-stores
set_item-requires-clause-stores c =
    let none = (done_r (goal.at.set_item-requires-clause-stores c).After-release).stored in
    record { named = λ b e. absurd (none b e); boxing = λ b e. absurd (none b e) }

pub set_item-requires-clause-call : goal.set_item-requires-clause-call
set_item-requires-clause-call c =
    let d = (goal.at.set_item-requires-clause-call c).After-release in
    let call_is = c.requires.call in
    let set = list.Set call_is.0 c.args.value in (
      set,
      call_is.1,
      subst (λ (z : List Value). Changes c.args.l set reply.Done z (slice_set z c.args.place c.args.value) (view c.release.new.pass)) (sym (items_r d))
          (changes_on (view c.args.pass.now) (view c.release.new.pass) (drops d).work c.args.l set reply.Done (known_items c.args.l (view c.args.pass.now)) (slice_set (known_items c.args.l (view c.args.pass.now)) c.args.place c.args.value) call_is.2),
    )

pub returns-then-is_value-clause-wrote : goal.returns-then-is_value-clause-wrote
returns-then-is_value-clause-wrote c =
    let d = (goal.at.returns-then-is_value-clause-wrote c).After-release in
    let k = shape_of c.args.bank.now in
    let r = view c.release.new.pass in
    let w = view c.set_item.new.pass in
    let e = c.set_item.ensures in
    record {
      before = r;
      boxed = drops d;
      wrote = e.wrote;
      root = e.root;
      boxes = done_wrote k r w c.release.ensures.pass.1 e.pass.1 (done_r d) e.wrote.made
          (plain_refs k r w (stored_kind (Plain c.args.value)) (stored_payload (Plain c.args.value)) c.release.ensures.pass.1 e.pass.1 (plain_kind c.args.value) e.references);
    }

-- ---- the reference is the list's

holds_kept : (c : After-keep) → HoldsValue c.keep.result c.args.value (view c.read_stored-old.new.pass)
holds_kept c =
    subst (λ (z : Ref). HoldsValue z c.args.value (view c.read_stored-old.new.pass)) (sym c.keep.ensures)
    (holds_loaded (box_of c.args.held) c.args.value (view c.args.pass.now) (view c.read_stored-old.new.pass) c.args.pass.now.possible c.read_stored-old.ensures.only c.requires.held)

pub set_item-requires-2-clause-may : goal.set_item-requires-2-clause-may
set_item-requires-2-clause-may c = may_then (goal.at.set_item-requires-2-clause-may c).After-read_stored-old

pub set_item-requires-2-clause-table : goal.set_item-requires-2-clause-table
set_item-requires-2-clause-table c =
    record { table_in = c.requires.table.table_in; root = ap root_in (loaded_held (view c.args.pass.now) (view c.read_stored-old.new.pass) c.args.l c.read_stored-old.ensures.only) ∙ c.requires.table.root }

pub set_item-requires-2-clause-place : goal.set_item-requires-2-clause-place
set_item-requires-2-clause-place c =
    subst (λ (z : List Value). c.args.place < length z) (sym (items_on c.args.l (view c.args.pass.now) (view c.read_stored-old.new.pass) c.read_stored-old.ensures.only.work)) c.requires.place

pub set_item-requires-2-clause-fits : goal.set_item-requires-2-clause-fits
set_item-requires-2-clause-fits c =
    let name = (holds_kept (goal.at.set_item-requires-2-clause-fits c).After-keep).name in
    let shape : (view c.read_stored-old.new.pass).shape ≡ shape_of c.args.bank.now = c.read_stored-old.ensures.pass.1 in
    let here = subst (λ (z : Shape). (c.keep.result.pass < z.passes) × (c.keep.result.place < z.heap)) shape name in
    let one = here.0 in
    let two = here.1 in
    let heap = c.args.bank.now.fits.heap.1 in
    let passes = c.args.bank.now.fits.passes.1 in
    (omega (arith, one, passes), omega (arith, two, heap))

pub set_item-requires-2-clause-own : goal.set_item-requires-2-clause-own
set_item-requires-2-clause-own c = box_own c.keep.result c.args.value (view c.read_stored-old.new.pass) (holds_kept (goal.at.set_item-requires-2-clause-own c).After-keep)

pub set_item-requires-2-clause-reads : goal.set_item-requires-2-clause-reads
set_item-requires-2-clause-reads c = box_reads c.keep.result c.args.value (view c.read_stored-old.new.pass) (holds_kept (goal.at.set_item-requires-2-clause-reads c).After-keep)

pub set_item-requires-2-clause-fresh : goal.set_item-requires-2-clause-fresh
set_item-requires-2-clause-fresh c four same =
    let items = items_on c.args.l (view c.args.pass.now) (view c.read_stored-old.new.pass) c.read_stored-old.ensures.only.work in
    let is : c.read_stored-old.result ≡ Plain c.args.value = old_is (goal.at.set_item-requires-2-clause-fresh c).After-read_stored-old ∙ (ap (λ (z : List Value). stored_item z c.args.place) (sym items) ∙ same) in
    true≢false (sym (c.is_value.ensures.1 is) ∙ c.if-is_value.false)

pub set_item-requires-2-clause-stores : goal.set_item-requires-2-clause-stores
set_item-requires-2-clause-stores c =
    box_stores c.keep.result c.args.value (view c.read_stored-old.new.pass) (holds_kept (goal.at.set_item-requires-2-clause-stores c).After-keep) c.args.l c.args.called.now c.requires.boxed
    (λ stored. ap (λ (z : Call). boxes stored.world z) c.requires.call.1)

pub set_item-requires-2-clause-call : goal.set_item-requires-2-clause-call
set_item-requires-2-clause-call c =
    let v = view c.args.pass.now in
    let u = view c.read_stored-old.new.pass in
    let work = c.read_stored-old.ensures.only.work in
    let call_is = c.requires.call in
    let set = list.Set call_is.0 c.args.value in (
      set,
      call_is.1,
      subst (λ (z : List Value). Changes c.args.l set reply.Done z (slice_set z c.args.place c.args.value) u) (sym (items_on c.args.l v u work))
          (changes_on v u work c.args.l set reply.Done (known_items c.args.l v) (slice_set (known_items c.args.l v) c.args.place c.args.value) call_is.2),
    )

pub returns-clause-wrote : goal.returns-clause-wrote
returns-clause-wrote c =
    let k = shape_of c.args.bank.now in
    let v = view c.args.pass.now in
    let u = view c.read_stored-old.new.pass in
    let w = view c.set_item-2.new.pass in
    let e = c.set_item-2.ensures in
    let may = may_then (goal.at.returns-clause-wrote c).After-read_stored-old in
    record {
      before = u;
      boxed = loaded_boxed v u c.read_stored-old.ensures.only;
      wrote = e.wrote;
      root = e.root;
      boxes = done_stored k c.keep.result c.args.value u w c.read_stored-old.ensures.pass.1 (holds_kept (goal.at.returns-clause-wrote c).After-keep) may.settled e.wrote.made e.references e.stored;
    }

-- ---- the box that the item names then

pub returns-then-is_value-clause-names : goal.returns-then-is_value-clause-names
returns-then-is_value-clause-names c other =
    absurd (other (sym (old_is (goal.at.returns-then-is_value-clause-names c).After-read_stored-old) ∙ c.is_value.ensures.0 c.if-is_value.true))

pub returns-clause-names : goal.returns-clause-names
returns-clause-names c other =
    let raw = c.set_item-2.ensures.boxed refl in
    (raw.0, raw.1 ∙ ap box_id c.keep.ensures)
