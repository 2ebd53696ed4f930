use Rattle.std.proofs.Common.{◌≡◌, ◌<◌, ℕ, ℤ, true, true≢false, length, Option, Some, None, refl, sym, ap, ◌∙◌, subst, arith}
use Rattle.std.specs.Prelude.{is_some, slice_set}
use mir.Syntax.{w64}
use mir.Val.{to_z, of_z}
use Rattle.std.proofs.Math.Facts.{to_z-of_z}
use Rattle.ft_model.specs.declared.call.Call.{Call}
use Rattle.ft_model.specs.declared.call.Call.TheVariants as call
use Rattle.ft_model.specs.declared.call.ListCall.TheVariants as list
use Rattle.ft_model.specs.declared.content.Content.TheVariants as content
use Rattle.ft_model.specs.declared.reply.Reply.TheVariants as reply
use Rattle.ft_model.specs.declared.reply.Raise.TheVariants as raise
use Rattle.ft_model.specs.Lists.{index_in}
use Rattle.ft_trace.specs.declared.Act.TheVariants.{ReadBlock}
use Rattle.ft_trace.specs.declared.Shape.{Shape}
use Rattle.ft_trace.specs.declared.View.{View}
use Rattle.ft_trace.specs.Addresses.{container_count}
use Rattle.ft_trace.specs.Boxes.{IsDoneWithBoxes}
use Rattle.ft_trace.specs.ContainerStates.{changes, kind_in}
use Rattle.ft_trace.specs.Holds.{known_state}
use Rattle.ft_bank.specs.Passes.{shape_of, view}
use Rattle.ft_bank.specs.Whole.{OnlyBoxed, OnlyLoaded}
use Rattle.ft_bank.proofs.KnownAfterWrites.{boxed_then, loaded_boxed, loaded_by, loaded_then}
use Rattle.ft_boxes.specs.References.{box_of}
use Rattle.ft_search.specs.HeldValues.{HoldsValue}
use Rattle.ft_list.specs.HeldValues.{MadeHeld, NamesBoxAtPlace}
use Rattle.std.specs.Option.{unwrap_or}
use Rattle.ft_list.specs.ListItemWrites.{known_items, stored_item}
use Rattle.ft_list.specs.ListWrites.{Changes, MayBeginList, MayWriteList, Raises}
use Rattle.ft_list.proofs.HeldWrites.{begins_on, boxed_reads, done_answered, done_dropped, held_answered, held_wrote, holds_box, holds_loaded, items_on, loaded_reads, may_on, replied_on}
use Rattle.ft_list.proofs.ListCallFacts.{set_changes}
use Rattle.ft_list.proofs.ListMidst.{reply_changes, reply_raises}
use Rattle.ft_list.proofs.Lists.{list_content, list_counts}
use Rattle.ft_list.proofs.Raising.{set_raises}
use Rattle.ft_list.proofs.boxing.set_held.Goals as goal
use Rattle.ft_list.proofs.boxing.set_held.Goals.{After-read_block-count, After-table_in-table, After-release}

-- ---- after the load of the length

module _ (c : After-read_block-count) where
  load : OnlyLoaded (view c.args.pass.now) (view c.read_block-count.new.pass)
  load = loaded_by (ReadBlock c.args.l 1 c.read_block-count.result) (view c.args.pass.now) (view c.read_block-count.new.pass) tt c.read_block-count.ensures.did.1

  is_list : (known_state c.args.l (view c.args.pass.now)).content ≡ content.List (known_items c.args.l (view c.args.pass.now))
  is_list =
      let v = view c.args.pass.now in
      let may = c.requires.may in
      list_content v c.args.l c.args.pass.now.possible may.locked (ap (λ (z : Shape). kind_in z.starts c.args.l) c.requires.pass.1 ∙ may.kind)

  count_is : c.read_block-count.result ≡ length (known_items c.args.l (view c.args.pass.now))
  count_is =
      let may = c.requires.may in
      c.read_block-count.ensures.held may.locked ∙ list_counts (shape_of c.args.bank.now).texts (view c.args.pass.now) c.args.l is_list may.stands

  may_u : MayBeginList (shape_of c.args.bank.now) c.args.l (view c.read_block-count.new.pass)
  may_u =
      let k = shape_of c.args.bank.now in
      let v = view c.args.pass.now in
      let u = view c.read_block-count.new.pass in
      begins_on k c.args.l v u c.requires.pass.1 load.work (loaded_reads k c.args.l v u c.requires.pass.1 load c.requires.may) load c.requires.may

  holds_u : HoldsValue (box_of c.args.held) c.args.value (view c.read_block-count.new.pass)
  holds_u = holds_loaded (box_of c.args.held) c.args.value (view c.args.pass.now) (view c.read_block-count.new.pass) c.args.pass.now.possible load c.requires.held

pub table_in-table-requires-clause-may : goal.table_in-table-requires-clause-may
table_in-table-requires-clause-may c = may_u (goal.at.table_in-table-requires-clause-may c).After-read_block-count

pub table_in-table-requires-clause-some : goal.table_in-table-requires-clause-some
table_in-table-requires-clause-some c none =
    let d = (goal.at.table_in-table-requires-clause-some c).After-read_block-count in
    let w = c.in-Some.ensures.within in
    let n = count_is d in
    let same : length (known_items c.args.l (view c.read_block-count.new.pass)) ≡ length (known_items c.args.l (view c.args.pass.now)) = ap length (items_on c.args.l (view c.args.pass.now) (view c.read_block-count.new.pass) (load d).work) in
    omega (arith, w, n, same, none)

-- ---- after the load of the root

module _ (c : After-table_in-table) where
  both : OnlyLoaded (view c.args.pass.now) (view c.table_in-table.new.pass)
  both =
      let v = view c.args.pass.now in
      let u = view c.read_block-count.new.pass in
      loaded_then v u (view c.table_in-table.new.pass) (loaded_by (ReadBlock c.args.l 1 c.read_block-count.result) v u tt c.read_block-count.ensures.did.1) c.table_in-table.ensures.only

  items_w : known_items c.args.l (view c.table_in-table.new.pass) ≡ known_items c.args.l (view c.args.pass.now)
  items_w = items_on c.args.l (view c.args.pass.now) (view c.table_in-table.new.pass) both.work

  may_w : MayBeginList (shape_of c.args.bank.now) c.args.l (view c.table_in-table.new.pass)
  may_w =
      let k = shape_of c.args.bank.now in
      let v = view c.args.pass.now in
      let w = view c.table_in-table.new.pass in
      begins_on k c.args.l v w c.requires.pass.1 both.work (loaded_reads k c.args.l v w c.requires.pass.1 both c.requires.may) both c.requires.may

  list_w : (known_state c.args.l (view c.table_in-table.new.pass)).content ≡ content.List (known_items c.args.l (view c.table_in-table.new.pass))
  list_w =
      let w = view c.table_in-table.new.pass in
      list_content w c.args.l c.table_in-table.new.pass.possible may_w.locked (ap (λ (z : Shape). kind_in z.starts c.args.l) c.table_in-table.ensures.pass.1 ∙ may_w.kind)

  long_w : c.read_block-count.result ≡ length (known_items c.args.l (view c.table_in-table.new.pass))
  long_w =
      let v = view c.args.pass.now in
      let may = c.requires.may in
      (c.read_block-count.ensures.held may.locked
      ∙ list_counts (shape_of c.args.bank.now).texts v c.args.l (list_content v c.args.l c.args.pass.now.possible may.locked (ap (λ (z : Shape). kind_in z.starts c.args.l) c.requires.pass.1 ∙ may.kind)) may.stands)
      ∙ sym (ap length items_w)

  low_w : c.args.l < container_count (view c.table_in-table.new.pass).shape
  low_w = subst (λ (z : Shape). c.args.l < container_count z) (sym c.table_in-table.ensures.pass.1) may_w.container

  set_w : Changes c.args.l (list.Set (to_z w64 (of_z w64 c.args.index)) c.args.value) reply.Done (known_items c.args.l (view c.table_in-table.new.pass)) (slice_set (known_items c.args.l (view c.table_in-table.new.pass)) c.in-Some.place c.args.value) (view c.table_in-table.new.pass)
  set_w =
      let z = to_z w64 (of_z w64 c.args.index) in
      let values = known_items c.args.l (view c.table_in-table.new.pass) in
      let means : index_in (length values) z ≡ Some c.in-Some.place = ap (λ (n : ℕ). index_in n z) (sym long_w) ∙ (sym c.place_in.ensures.answer ∙ c.in-Some.is) in
      set_changes c.args.l z c.args.value values c.in-Some.place (view c.table_in-table.new.pass) low_w may_w.locked list_w c.value_fits.ensures means

pub set_box-number-requires-clause-may : goal.set_box-number-requires-clause-may
set_box-number-requires-clause-may c = may_w (goal.at.set_box-number-requires-clause-may c).After-table_in-table

pub set_box-number-requires-clause-held : goal.set_box-number-requires-clause-held
set_box-number-requires-clause-held c = holds_loaded (box_of c.args.held) c.args.value (view c.args.pass.now) (view c.table_in-table.new.pass) c.args.pass.now.possible (both (goal.at.set_box-number-requires-clause-held c).After-table_in-table) c.requires.held

pub set_box-number-requires-clause-place : goal.set_box-number-requires-clause-place
set_box-number-requires-clause-place c = let w = c.in-Some.ensures.within in let n = long_w (goal.at.set_box-number-requires-clause-place c).After-table_in-table in omega (arith, w, n)

pub set_box-number-requires-clause-call : goal.set_box-number-requires-clause-call
set_box-number-requires-clause-call c = (to_z w64 (of_z w64 c.args.index), refl, set_w (goal.at.set_box-number-requires-clause-call c).After-table_in-table)

pub returns-in-Some-clause-made : goal.returns-in-Some-clause-made
returns-in-Some-clause-made c =
    let a = c.args in
    let k = shape_of a.bank.now in
    let v = view a.pass.now in
    let w = view c.table_in-table.new.pass in
    let x = view c.set_box-number.new.pass in
    let d = (goal.at.returns-in-Some-clause-made c).After-table_in-table in
    let z = to_z w64 (of_z w64 a.index) in
    let called : Call = call.List a.l (list.Set z a.value) in
    let made = c.set_box-number.ensures.wrote in
    let values = known_items a.l w in
    let changed = set_w d in
    let write = changed.write in
    let at : a.l ≡ changes called = refl in
    subst (λ (i : ℤ). MadeHeld k (call.List a.l (list.Set i a.value)) reply.Done (record { number = c.set_box-number.result; wrote = true }) v x) (to_z-of_z {w = w64} {z = a.index} c.ranges.index)
    (held_wrote k a.l called reply.Done c.set_box-number.result v made.before x (boxed_then v w made.before (loaded_boxed v w (both d)) made.boxed) made.wrote at made.root refl
    (replied_on called reply.Done v w (both d).work (reply_changes a.l (list.Set z a.value) reply.Done values w (low_w d) (may_w d).locked (list_w d) (slice_set values c.in-Some.place a.value) changed))
    made.boxes)

pub returns-in-Some-clause-raises : goal.returns-in-Some-clause-raises
returns-in-Some-clause-raises c none =
    let z = to_z w64 (of_z w64 c.args.index) in
    let n = count_is (goal.at.returns-in-Some-clause-raises c).After-read_block-count in
    let found : Some c.in-Some.place ≡ None =
    sym c.in-Some.is ∙ (c.place_in.ensures.answer ∙ ((λ d. index_in (n d) (to_z-of_z {w = w64} {z = c.args.index} c.ranges.index d)) ∙ none)) in
    absurd (true≢false (ap is_some found))

-- ---- an index that names no item

pub release-requires-clause-held : goal.release-requires-clause-held
release-requires-clause-held c = holds_box (box_of c.args.held) c.args.value (view c.read_block-count.new.pass) (holds_u (goal.at.release-requires-clause-held c).After-read_block-count)

pub release-requires-clause-settled : goal.release-requires-clause-settled
release-requires-clause-settled c = (may_u (goal.at.release-requires-clause-settled c).After-read_block-count).settled

-- the reference is dropped
module _ (c : After-release) where
  abbrev k : Shape
  k = shape_of c.args.bank.now

  abbrev v : View
  v = view c.args.pass.now

  abbrev u : View
  u = view c.read_block-count.new.pass

  abbrev r : View
  r = view c.release.new.pass

  first : OnlyLoaded (view c.args.pass.now) (view c.read_block-count.new.pass)
  first = loaded_by (ReadBlock c.args.l 1 c.read_block-count.result) v u tt c.read_block-count.ensures.did.1

  drops : OnlyBoxed (view c.args.pass.now) (view c.release.new.pass)
  drops = boxed_then v u r (loaded_boxed v u first) c.release.ensures.only

  shape_u : (view c.read_block-count.new.pass).shape ≡ shape_of c.args.bank.now
  shape_u = first.work.pass.shape ∙ c.requires.pass.1

  may_first : MayBeginList (shape_of c.args.bank.now) c.args.l (view c.read_block-count.new.pass)
  may_first = begins_on k c.args.l v u c.requires.pass.1 first.work (loaded_reads k c.args.l v u c.requires.pass.1 first c.requires.may) first c.requires.may

  done_r : IsDoneWithBoxes (shape_of c.args.bank.now) (view c.release.new.pass).log
  done_r =
      let e = c.release.ensures in
      done_dropped k (box_of c.args.held) c.args.value u r shape_u (holds_loaded (box_of c.args.held) c.args.value v u c.args.pass.now.possible first c.requires.held)
      e.pass.1 e.settled may_first.even e.less e.places e.gone

  may_r : MayWriteList (shape_of c.args.bank.now) c.args.l (view c.release.new.pass)
  may_r = may_on k c.args.l u r shape_u c.release.ensures.only.work (boxed_reads k c.args.l u r shape_u c.release.ensures.only may_first) done_r may_first

  raises_r : Raises c.args.l (list.Set (to_z w64 (of_z w64 c.args.index)) c.args.value) (reply.Raised raise.NoIndex) (known_items c.args.l (view c.release.new.pass))
  raises_r =
      let z = to_z w64 (of_z w64 c.args.index) in
      let may = c.requires.may in
      let count = c.read_block-count.ensures.held may.locked ∙ list_counts k.texts v c.args.l (list_content v c.args.l c.args.pass.now.possible may.locked (ap (λ (y : Shape). kind_in y.starts c.args.l) c.requires.pass.1 ∙ may.kind)) may.stands in
      let long : c.read_block-count.result ≡ length (known_items c.args.l r) = count ∙ sym (ap length (items_on c.args.l v r drops.work)) in
      let none : index_in (length (known_items c.args.l r)) z ≡ None = ap (λ (n : ℕ). index_in n z) (sym long) ∙ (sym c.place_in.ensures.answer ∙ c.in-None.is) in
      set_raises c.args.l z c.args.value (known_items c.args.l r) none

pub raise-stamp-requires-clause-may : goal.raise-stamp-requires-clause-may
raise-stamp-requires-clause-may c = may_r (goal.at.raise-stamp-requires-clause-may c).After-release

pub raise-stamp-requires-clause-call : goal.raise-stamp-requires-clause-call
raise-stamp-requires-clause-call c = (list.Set (to_z w64 (of_z w64 c.args.index)) c.args.value, refl, raises_r (goal.at.raise-stamp-requires-clause-call c).After-release)

pub returns-in-None-clause-made : goal.returns-in-None-clause-made
returns-in-None-clause-made c =
    let a = c.args in
    let k = shape_of a.bank.now in
    let v = view a.pass.now in
    let r = view c.release.new.pass in
    let x = view c.raise-stamp.new.pass in
    let d = (goal.at.returns-in-None-clause-made c).After-release in
    let z = to_z w64 (of_z w64 a.index) in
    let said = reply.Raised raise.NoIndex in
    let called : Call = call.List a.l (list.Set z a.value) in
    let may = may_r d in
    let low : a.l < container_count r.shape = subst (λ (y : Shape). a.l < container_count y) (sym c.release.ensures.pass.1) may.container in
    let is_list = list_content r a.l c.release.new.pass.possible may.locked (ap (λ (y : Shape). kind_in y.starts a.l) c.release.ensures.pass.1 ∙ may.kind) in
    subst (λ (i : ℤ). MadeHeld k (call.List a.l (list.Set i a.value)) said c.raise-stamp.result v x) (to_z-of_z {w = w64} {z = a.index} c.ranges.index)
    (held_answered k called said c.raise-stamp.result v r x (drops d) c.raise-stamp.ensures.answered refl c.raise-stamp.ensures.wrote
    (replied_on called said v r (drops d).work (reply_raises a.l (list.Set z a.value) said (known_items a.l r) r low may.locked is_list (raises_r d)))
    (done_answered k called said c.raise-stamp.result.number r x c.release.ensures.pass.1 c.raise-stamp.ensures.pass.1 (done_r d) c.raise-stamp.ensures.answered))

-- ---- the box that the item names then

pub returns-in-Some-clause-names : goal.returns-in-Some-clause-names
returns-in-Some-clause-names c place means other =
    let a = c.args in
    let d = (goal.at.returns-in-Some-clause-names c).After-table_in-table in
    let n = count_is (goal.at.returns-in-Some-clause-names c).After-read_block-count in
    let found : Some c.in-Some.place ≡ Some place =
    sym c.in-Some.is ∙ (c.place_in.ensures.answer ∙ ((λ i. index_in (n i) (to_z-of_z {w = w64} {z = a.index} c.ranges.index i)) ∙ means)) in
    let same : c.in-Some.place ≡ place = ap (λ (z : Option ℕ). unwrap_or z 0) found in
    let items = items_on a.l (view a.pass.now) (view c.table_in-table.new.pass) (both d).work in
    subst (λ (q : ℕ). NamesBoxAtPlace a.l q (box_of a.held) (view c.set_box-number.new.pass)) same
    (c.set_box-number.ensures.names (λ e. other (sym (λ i. stored_item (items i) (same i)) ∙ e)))

pub returns-in-None-clause-names : goal.returns-in-None-clause-names
returns-in-None-clause-names c place means other =
    let n = count_is (goal.at.returns-in-None-clause-names c).After-read_block-count in
    let found : None ≡ Some place =
    sym c.in-None.is ∙ (c.place_in.ensures.answer ∙ ((λ i. index_in (n i) (to_z-of_z {w = w64} {z = c.args.index} c.ranges.index i)) ∙ means)) in
    absurd (true≢false (sym (ap is_some found)))
