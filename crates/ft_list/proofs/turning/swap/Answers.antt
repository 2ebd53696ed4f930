use Rattle.std.proofs.Common.{List, ◌≡◌, ◌≢◌, ◌+◌, ◌-◌, ◌<◌, refl, sym, ◌∙◌, subst, inl, arith, length, ap, ℕ}
use Rattle.std.specs.Prelude.{slice_index}
use Rattle.ft_model.specs.declared.data.Value.{Value}
use Rattle.ft_layout.specs.declared.slot.Stored.TheVariants.{Empty}
use Rattle.ft_layout.specs.Words.{IsStored}
use Rattle.ft_layout.proofs.WordLaws.{stored_is_one}
use Rattle.ft_trace.specs.declared.Shape.{Shape}
use Rattle.ft_trace.specs.Addresses.{class_of}
use Rattle.ft_trace.specs.Boxes.{references_held}
use Rattle.ft_trace.specs.Pictures.{ContainerWords, item_field, item_offset}
use Rattle.ft_trace.specs.Holds.{held_unboxed}
use Rattle.ft_bank.specs.BoxSteps.{kind_read, payload_read}
use Rattle.ft_bank.specs.Passes.{shape_of, view}
use Rattle.ft_bank.specs.TableNames.{table_id}
use Rattle.ft_bank.specs.Whole.{OnlyLoaded}
use Rattle.ft_bank.proofs.KnownAfterWrites.{loaded_then, written_then}
use Rattle.ft_search.proofs.Overs.{held_same, plain_names}
use Rattle.ft_search.proofs.Owning.{own_plain, plain_seen}
use Rattle.ft_list.specs.ListItemWrites.{PutsItem, WritesList, stored_item, stored_words}
use Rattle.ft_list.specs.Internal.Reversing.{IsTurning}
use Rattle.ft_list.proofs.Cares.{list_unboxed, table_class, writes_loaded}
use Rattle.ft_list.proofs.Turned.{turning_carried, turning_finds, turning_same}
use Rattle.ft_list.proofs.Written.{loaded_written}
use Rattle.ft_list.proofs.turning.swap.Goals as goal
use Rattle.ft_list.proofs.turning.swap.Goals.{After-held_value-late_kind, After-let_go, else-late_kind-kind-via-then-late_kind-kind+else-late_payload-payload, else-late_kind-kind-via-else-late_kind-kind}

-- ---- after the loads

module _ (c : After-held_value-late_kind) where
  load : OnlyLoaded (view c.args.pass.now) (view c.held_value-late_kind.new.pass)
  load = loaded_then (view c.args.pass.now) (view c.held_value-kind.new.pass) (view c.held_value-late_kind.new.pass) c.held_value-kind.ensures.only c.held_value-late_kind.ensures.only

  list_then : WritesList (shape_of c.args.bank.now) c.args.o c.args.table (view c.held_value-late_kind.new.pass)
  list_then = writes_loaded (shape_of c.args.bank.now) c.args.o c.args.table (view c.args.pass.now) (view c.held_value-late_kind.new.pass) c.requires.pass.1 load c.requires.list

  held_then : held_unboxed c.args.o (view c.held_value-late_kind.new.pass) ≡ held_unboxed c.args.o (view c.args.pass.now)
  held_then = list_unboxed (shape_of c.args.bank.now) c.args.o c.args.table (view c.args.pass.now) (view c.held_value-late_kind.new.pass) c.requires.pass.1 load c.requires.list

  held_first : held_unboxed c.args.o (view c.held_value-kind.new.pass) ≡ held_unboxed c.args.o (view c.args.pass.now)
  held_first = list_unboxed (shape_of c.args.bank.now) c.args.o c.args.table (view c.args.pass.now) (view c.held_value-kind.new.pass) c.requires.pass.1 c.held_value-kind.ensures.only c.requires.list

  same_held : (b : ℕ) → references_held (shape_of c.args.bank.now) b (view c.held_value-late_kind.new.pass).log ≡ references_held (shape_of c.args.bank.now) b (view c.args.pass.now).log
  same_held b = held_same (shape_of c.args.bank.now) (view c.args.pass.now) (view c.held_value-late_kind.new.pass) c.requires.pass.1 c.held_value-late_kind.ensures.pass.1 load.boxes.references b

  late_at : (c.held_value-late_kind.result.0 ≡ item_field (held_unboxed c.args.o (view c.args.pass.now)).table (c.args.count - 1 - c.args.at) 1) × (c.held_value-late_kind.result.1 ≡ item_field (held_unboxed c.args.o (view c.args.pass.now)).table (c.args.count - 1 - c.args.at) 2)
  late_at = (
    c.held_value-late_kind.ensures.kind ∙ ap (λ (x : ContainerWords). item_field x.table (c.args.count - 1 - c.args.at) 1) held_first,
    c.held_value-late_kind.ensures.payload ∙ ap (λ (x : ContainerWords). item_field x.table (c.args.count - 1 - c.args.at) 2) held_first,
  )

  -- what the two items store, of a list with these values
  module _ (values : List Value) (long : length values ≡ c.args.count) (turning : IsTurning (class_of (table_id c.args.table)) values c.args.at (held_unboxed c.args.o (view c.args.pass.now)).table) where
    early_is : IsStored c.held_value-kind.result.0 c.held_value-kind.result.1 (stored_item values c.args.at)
    early_is =
        let places = c.requires.places in
        let is_class = table_class (shape_of c.args.bank.now) c.args.table c.requires.list.table_in in
        subst (λ (z : ℕ × ℕ). IsStored z.0 z.1 (stored_item values c.args.at)) (λ d. (sym c.held_value-kind.ensures.kind d, sym c.held_value-kind.ensures.payload d))
        (turning_finds (class_of (table_id c.args.table)) is_class values c.args.at c.args.at (held_unboxed c.args.o (view c.args.pass.now)).table turning (omega arith) (omega (arith, places, long)) (omega (arith, places)))

    late_is : IsStored c.held_value-late_kind.result.0 c.held_value-late_kind.result.1 (stored_item values (c.args.count - 1 - c.args.at))
    late_is =
        let places = c.requires.places in
        let is_class = table_class (shape_of c.args.bank.now) c.args.table c.requires.list.table_in in
        subst (λ (z : ℕ × ℕ). IsStored z.0 z.1 (stored_item values (c.args.count - 1 - c.args.at))) (λ d. (sym late_at.0 d, sym late_at.1 d))
        (turning_finds (class_of (table_id c.args.table)) is_class values c.args.at (c.args.count - 1 - c.args.at) (held_unboxed c.args.o (view c.args.pass.now)).table turning (omega (arith, places)) (omega (arith, places, long)) (omega (arith, places)))

-- ---- two items that store the same

pub returns-then-late_payload-payload-clause-list : goal.returns-then-late_payload-payload-clause-list
returns-then-late_payload-payload-clause-list c = list_then (goal.at.returns-then-late_payload-payload-clause-list c).After-held_value-late_kind

pub returns-then-late_payload-payload-clause-only : goal.returns-then-late_payload-payload-clause-only
returns-then-late_payload-payload-clause-only c = loaded_written c.args.o (view c.args.pass.now) (view c.held_value-late_kind.new.pass) (load (goal.at.returns-then-late_payload-payload-clause-only c).After-held_value-late_kind)

pub returns-then-late_payload-payload-clause-references : goal.returns-then-late_payload-payload-clause-references
returns-then-late_payload-payload-clause-references c = (load (goal.at.returns-then-late_payload-payload-clause-references c).After-held_value-late_kind).boxes.references

pub returns-then-late_payload-payload-clause-block : goal.returns-then-late_payload-payload-clause-block
returns-then-late_payload-payload-clause-block c = ap (λ (x : ContainerWords). x.block) (held_then (goal.at.returns-then-late_payload-payload-clause-block c).After-held_value-late_kind)

pub returns-then-late_payload-payload-clause-turned : goal.returns-then-late_payload-payload-clause-turned
returns-then-late_payload-payload-clause-turned c values long turning =
    let a = c.args in
    let d = (goal.at.returns-then-late_payload-payload-clause-turned c).After-held_value-late_kind in
    let class = class_of (table_id a.table) in
    let is_class = table_class (shape_of a.bank.now) a.table c.requires.list.table_in in
    let last = a.count - 1 - a.at in
    let places = c.requires.places in
    let early = early_is d values long turning in
    let late = late_is d values long turning in
    let same = stored_is_one c.held_value-kind.result.0 c.held_value-kind.result.1 (stored_item values a.at) (stored_item values last) early
    (subst (λ (z : ℕ × ℕ). IsStored z.0 z.1 (stored_item values last)) (λ i. (c.if-late_kind-kind.true i, c.if-late_payload-payload.true i)) late) in
    subst (λ (x : ContainerWords). IsTurning class values (a.at + 1) x.table) (sym (held_then d))
    (turning_same class is_class values a.at last places.0 (omega (arith, places, long)) (stored_item values a.at) (stored_item values last) refl refl early.fits late.fits (omega (arith, places)) (held_unboxed a.o (view a.pass.now)).table turning same)

-- ---- two that are swapped

pub carry_item-late-requires-clause-list : goal.carry_item-late-requires-clause-list
carry_item-late-requires-clause-list c = list_then (goal.at.carry_item-late-requires-clause-list c).After-held_value-late_kind

pub carry_item-late-requires-clause-own : goal.carry_item-late-requires-clause-own
carry_item-late-requires-clause-own c = own_plain (view c.held_value-late_kind.new.pass) 0 0 (λ e. omega (arith, e))

pub carry_item-late-requires-clause-spare : goal.carry_item-late-requires-clause-spare
carry_item-late-requires-clause-spare c b =
    let same = same_held (goal.at.carry_item-late-requires-clause-spare c).After-held_value-late_kind b in
    let s = c.requires.spare b in
    omega (arith, same, s)

pub returns-clause-only : goal.returns-clause-only
returns-clause-only c =
    let o = c.args.o in
    let v = view c.args.pass.now in
    let u = view c.held_value-late_kind.new.pass in
    let p = view c.carry_item-late.new.pass in
    let q = view c.carry_item-early.new.pass in
    let r = view c.carry_item-nothing.new.pass in
    let whole = loaded_then v (view c.held_value-kind.new.pass) u c.held_value-kind.ensures.only c.held_value-late_kind.ensures.only in
    written_then o v r (view c.let_go.new.pass)
    (written_then o v q r (written_then o v p q (written_then o v u p (loaded_written o v u whole) c.carry_item-late.ensures.only) c.carry_item-early.ensures.only) c.carry_item-nothing.ensures.only)
    c.let_go.ensures.only

pub returns-clause-references : goal.returns-clause-references
returns-clause-references c b =
    let k = shape_of c.args.bank.now in
    let v = view c.args.pass.now in
    let w = view c.let_go.new.pass in
    let d = (goal.at.returns-clause-references c).After-held_value-late_kind in
    let zero_ = same_held d b in
    let one = c.carry_item-late.ensures.references b in
    let two = c.carry_item-early.ensures.references b in
    let three = c.carry_item-nothing.ensures.references b in
    let four = c.let_go.ensures.references b in
    let none = plain_names b 0 0 (λ e. omega (arith, e)) in
    let whole : references_held k b w.log ≡ references_held k b v.log = omega (arith, zero_, one, two, three, four, none) in
    ap (λ (z : Shape). references_held z b w.log) c.let_go.ensures.pass.1 ∙ (whole ∙ sym (ap (λ (z : Shape). references_held z b v.log) c.requires.pass.1))

pub returns-clause-block : goal.returns-clause-block
returns-clause-block c =
    let d = (goal.at.returns-clause-block c).After-held_value-late_kind in
    ap (λ (x : ContainerWords). x.block) c.let_go.ensures.held
    ∙ (c.carry_item-nothing.ensures.block ∙ (c.carry_item-early.ensures.block ∙ (c.carry_item-late.ensures.block ∙ ap (λ (x : ContainerWords). x.block) (held_then d))))

pub returns-clause-turned : goal.returns-clause-turned
returns-clause-turned c values long turning =
    let a = c.args in
    let d = (goal.at.returns-clause-turned c).After-held_value-late_kind in
    let class = class_of (table_id a.table) in
    let is_class = table_class (shape_of a.bank.now) a.table c.requires.list.table_in in
    let last = a.count - 1 - a.at in
    let places = c.requires.places in
    let v = held_unboxed a.o (view a.pass.now) in
    let u = view c.held_value-late_kind.new.pass in
    let p = view c.carry_item-late.new.pass in
    let q = view c.carry_item-early.new.pass in
    let r = view c.carry_item-nothing.new.pass in
    let early = early_is d values long turning in
    let late = late_is d values long turning in
    let one = c.carry_item-late.ensures in
    let two = c.carry_item-early.ensures in
    let three = c.carry_item-nothing.ensures in
    let same = held_then d in
    let first : PutsItem last Empty v (held_unboxed a.o p) = subst (λ (x : ContainerWords). PutsItem last Empty x (held_unboxed a.o p)) same (one.puts Empty (plain_seen u Empty (λ e. omega (arith, e)) tt)) in
    let at_late = late_at d in
    let at_u : (w : ℕ) → item_field (held_unboxed a.o u).table last w ≡ item_field v.table last w = λ w. ap (λ (x : ContainerWords). item_field x.table last w) same in
    let late_read : IsStored (kind_read p c.carry_item-late.result.0 c.carry_item-late.result.1) (payload_read p c.carry_item-late.result.0 c.carry_item-late.result.1) (stored_item values last) =
    record { fits = late.fits; kind_is = one.found.0 ∙ (at_u 1 ∙ (sym at_late.0 ∙ late.kind_is)); payload_is = one.found.1 ∙ (at_u 2 ∙ (sym at_late.1 ∙ late.payload_is)) } in
    let stays : (w : ℕ) → w < 4 → item_field (held_unboxed a.o p).table a.at w ≡ item_field v.table a.at w = λ w low. first.rest (item_offset a.at w) (inl (let l = places.0 in omega (arith, l, low))) in
    let early_read : IsStored (kind_read q c.carry_item-early.result.0 c.carry_item-early.result.1) (payload_read q c.carry_item-early.result.0 c.carry_item-early.result.1) (stored_item values a.at) =
    record { fits = early.fits; kind_is = two.found.0 ∙ (stays 1 (omega arith) ∙ (sym c.held_value-kind.ensures.kind ∙ early.kind_is)); payload_is = two.found.1 ∙ (stays 2 (omega arith) ∙ (sym c.held_value-kind.ensures.payload ∙ early.payload_is)) } in
    let differ : stored_words (stored_item values a.at) ≢ stored_words (stored_item values last) = λ e.
    let kind_same : c.held_value-late_kind.result.0 ≡ c.held_value-kind.result.0 = late.kind_is ∙ (sym (ap (λ (l : List ℕ). slice_index l 0) e) ∙ sym early.kind_is) in
    let payload_same : c.held_value-late_kind.result.1 ≡ c.held_value-kind.result.1 = late.payload_is ∙ (sym (ap (λ (l : List ℕ). slice_index l 1) e) ∙ sym early.payload_is) in
    elim c.else-late_kind-kind.branch [
      | else-late_kind-kind-via-then-late_kind-kind+else-late_payload-payload w ↦ w.if-late_payload-payload.false payload_same
      | else-late_kind-kind-via-else-late_kind-kind w ↦ w.if-late_kind-kind.false kind_same
    ] in
    subst (λ (x : ContainerWords). IsTurning class values (a.at + 1) x.table) (sym c.let_go.ensures.held)
    (turning_carried class is_class values a.at last places.0 (omega (arith, places, long)) (stored_item values a.at) (stored_item values last) refl refl early.fits late.fits (omega (arith, places)) v (held_unboxed a.o p) (held_unboxed a.o q) (held_unboxed a.o r) turning first
    (two.puts (stored_item values last) late_read) (three.puts (stored_item values a.at) early_read) differ)
