use Rattle.std.proofs.Common.{◌≡◌, ◌<◌, true≢false, Option, None, Some, refl, sym, ap, ◌∙◌, subst, arith}
use Rattle.std.specs.Option.{unwrap_or}
use Rattle.ft_layout.specs.declared.slot.Ref.{Ref}
use Rattle.ft_model.specs.declared.call.Call.TheVariants as call
use Rattle.ft_model.specs.declared.call.DictCall.TheVariants as dict
use Rattle.ft_model.specs.declared.reply.Reply.TheVariants as reply
use Rattle.ft_trace.specs.declared.Shape.{Shape}
use Rattle.ft_trace.specs.declared.View.{View}
use Rattle.ft_trace.specs.Addresses.{class_of, slots}
use Rattle.ft_trace.specs.Boxes.{references_held, IsDoneWithBoxes}
use Rattle.ft_trace.specs.Carefuls.{HasLiveKey}
use Rattle.ft_trace.specs.ContainerStates.{ContainerState}
use Rattle.ft_trace.specs.Holds.{held_unboxed, known_state}
use Rattle.ft_trace.specs.Pictures.{ContainerWords, entry_field, root_in}
use Rattle.ft_trace.proofs.Cases.{here}
use Rattle.ft_bank.specs.BoxSteps.{box_id}
use Rattle.ft_bank.specs.Passes.{shape_of, view}
use Rattle.ft_bank.specs.TableNames.{table_id}
use Rattle.ft_bank.proofs.KnownAfterWrites.{loaded_boxed, work_knows}
use Rattle.ft_boxes.specs.References.{box_of}
use Rattle.ft_search.specs.HeldValues.{HoldsValue, NamesBoxAt}
use Rattle.ft_search.specs.OneEntryWrites.{Leaves, are_of_value, with_value_at}
use Rattle.ft_search.proofs.Calling.{loaded_same}
use Rattle.ft_search.proofs.Overs.{boxed_names, other_way}
use Rattle.ft_search.proofs.Puts.{done_settled}
use Rattle.ft_search.proofs.Unboxing.{reads_boxed}
use Rattle.ft_new_keys.proofs.HeldKeys.{no_box}
use Rattle.ft_dict.proofs.HeldSets.{boxed_reads, done_dropped, holds_box, leaves_on, one_held, writes_boxed}
use Rattle.ft_dict.proofs.held.set_there.Goals as goal
use Rattle.ft_dict.proofs.held.set_there.Goals.{After-release, After-keep, After-store_entry}

pub release-requires-clause-held : goal.release-requires-clause-held
release-requires-clause-held c = holds_box (box_of c.args.held) c.args.value (view c.args.pass.now) c.requires.held

pub release-requires-clause-settled : goal.release-requires-clause-settled
release-requires-clause-settled c = c.requires.may.settled

pub keep-requires-clause-held : goal.keep-requires-clause-held
keep-requires-clause-held c = holds_box (box_of c.args.held) c.args.value (view c.args.pass.now) c.requires.held

-- ---- the entry has the value, and the reference is dropped

module _ (c : After-release) where
  abbrev k : Shape
  k = shape_of c.args.bank.now

  abbrev v : View
  v = view c.args.pass.now

  abbrev r : View
  r = view c.release.new.pass

  reads : held_unboxed c.args.d (view c.release.new.pass) ≡ held_unboxed c.args.d (view c.args.pass.now)
  reads = boxed_reads k c.args.d v r c.requires.pass.1 c.requires.may c.release.ensures.only

  knows : known_state c.args.d (view c.release.new.pass) ≡ known_state c.args.d (view c.args.pass.now)
  knows = work_knows v r c.args.d c.release.ensures.only.work

  done : IsDoneWithBoxes (shape_of c.args.bank.now) (view c.release.new.pass).log
  done =
      let e = c.release.ensures in
      done_dropped k (box_of c.args.held) c.args.value v r c.requires.held e.pass.1 e.settled c.requires.may.even e.less e.places e.gone

pub set_entry-requires-clause-may : goal.set_entry-requires-clause-may
set_entry-requires-clause-may c =
    writes_boxed (shape_of c.args.bank.now) c.args.d (view c.args.pass.now) (view c.release.new.pass) c.requires.pass.1 c.requires.may c.release.ensures.only (done (goal.at.set_entry-requires-clause-may c).After-release)

pub set_entry-requires-clause-table : goal.set_entry-requires-clause-table
set_entry-requires-clause-table c =
    let t = c.requires.table in
    record { table_in = t.table_in; root = ap root_in (reads (goal.at.set_entry-requires-clause-table c).After-release) ∙ t.root }

pub set_entry-requires-clause-entry : goal.set_entry-requires-clause-entry
set_entry-requires-clause-entry c =
    let x = c.requires.entry in
    record {
      low = x.low;
      live = subst (λ (z : ContainerWords). HasLiveKey (slots (class_of (table_id c.args.at.0))) z.table c.args.at.1 c.args.key) (sym (reads (goal.at.set_entry-requires-clause-entry c).After-release)) x.live;
      fits = x.fits;
    }

pub set_entry-requires-clause-old_kind : goal.set_entry-requires-clause-old_kind
set_entry-requires-clause-old_kind c =
    c.requires.kind ∙ sym (ap (λ (z : ContainerWords). entry_field (slots (class_of (table_id c.args.at.0))) z.table c.args.at.1 4) (reads (goal.at.set_entry-requires-clause-old_kind c).After-release))

pub set_entry-requires-clause-old_payload : goal.set_entry-requires-clause-old_payload
set_entry-requires-clause-old_payload c =
    c.requires.payload ∙ sym (ap (λ (z : ContainerWords). entry_field (slots (class_of (table_id c.args.at.0))) z.table c.args.at.1 5) (reads (goal.at.set_entry-requires-clause-old_payload c).After-release))

pub set_entry-requires-clause-leaves : goal.set_entry-requires-clause-leaves
set_entry-requires-clause-leaves c =
    let a = c.args in
    let called = call.Dict a.d (dict.Set a.key a.value) in
    let r = view c.release.new.pass in
    subst (λ (z : ContainerState). Leaves a.d called reply.Done (record { content = with_value_at z.content a.key a.value; table = z.table }) r) (sym (knows (goal.at.set_entry-requires-clause-leaves c).After-release))
    (leaves_on a.d called reply.Done _ (view a.pass.now) r c.release.ensures.only.work c.requires.leaves)

pub returns-then-says_value-clause-wrote : goal.returns-then-says_value-clause-wrote
returns-then-says_value-clause-wrote c =
    let k = shape_of c.args.bank.now in
    let r = view c.release.new.pass in
    let w = view c.set_entry.new.pass in
    let e = c.set_entry.ensures in
    record {
      before = r;
      boxed = c.release.ensures.only;
      box = None;
      put = record {
        wrote = e.wrote;
        root = e.root;
        references = record {
          boxes = done_settled k r w c.release.ensures.pass.1 e.wrote.pass.shape e.references e.wrote.made (done (goal.at.returns-then-says_value-clause-wrote c).After-release);
          names = λ b is. absurd (no_box b is);
        };
      };
    }

pub returns-then-says_value-clause-names : goal.returns-then-says_value-clause-names
returns-then-says_value-clause-names c other = absurd (true≢false (sym c.if-says_value.true ∙ (c.says_value.ensures ∙ other)))

-- ---- the reference is the entry's

holds_kept : (c : After-keep) → HoldsValue c.keep.result c.args.value (view c.args.pass.now)
holds_kept c = subst (λ (z : Ref). HoldsValue z c.args.value (view c.args.pass.now)) (sym c.keep.ensures) c.requires.held

pub store_entry-requires-clause-fits : goal.store_entry-requires-clause-fits
store_entry-requires-clause-fits c =
    let name = (holds_kept (goal.at.store_entry-requires-clause-fits c).After-keep).name in
    let here_ = subst (λ (z : Shape). (c.keep.result.pass < z.passes) × (c.keep.result.place < z.heap)) c.requires.pass.1 name in
    let one = here_.0 in
    let two = here_.1 in
    let heap = c.args.bank.now.fits.heap.1 in
    let passes = c.args.bank.now.fits.passes.1 in
    (omega (arith, one, passes), omega (arith, two, heap))

pub store_entry-requires-clause-own : goal.store_entry-requires-clause-own
store_entry-requires-clause-own c four =
    let h = holds_kept (goal.at.store_entry-requires-clause-own c).After-keep in
    let one = one_held c.keep.result c.args.value (view c.args.pass.now) h in
    (omega (arith, one), h.knows.kind, h.knows.payload)

pub store_entry-requires-clause-stores : goal.store_entry-requires-clause-stores
store_entry-requires-clause-stores c =
    let h = holds_kept (goal.at.store_entry-requires-clause-stores c).After-keep in
    let id = box_id c.keep.result in
    record {
      named = λ n taken. boxed_names n 4 id refl ∙ here id n 1 0 (sym (h.taken n taken));
      boxing = λ n taken world has. c.requires.boxed;
    }

pub store_entry-requires-clause-changes : goal.store_entry-requires-clause-changes
store_entry-requires-clause-changes c =
    let a = c.args in
    let h = holds_kept (goal.at.store_entry-requires-clause-changes c).After-keep in
    let r = reads_boxed (view a.pass.now) 4 (box_id c.keep.result) refl in
    let words = h.knows.words in
    let n = slots (class_of (table_id a.at.0)) in
    let table = (held_unboxed a.d (view a.pass.now)).table in
    record {
      key = a.key;
      value = a.value;
      entry = c.requires.entry;
      reads = record { fits = words.fits; kind_is = r.0 ∙ words.kind_is; payload_is = r.1 ∙ words.payload_is };
      other = (λ d. are_of_value (sym c.requires.kind d) (sym c.requires.payload d) a.value) ∙ (sym c.says_value.ensures ∙ c.if-says_value.false);
      leaves = c.requires.leaves;
    }

names_then : (c : After-store_entry) → NamesBoxAt c.args.d c.args.key c.keep.result (view c.store_entry.new.pass)
names_then c =
    let e = c.store_entry.ensures in
    record {
      table = table_id c.args.at.0;
      place = c.args.at.1;
      root = e.root ∙ c.requires.table.root;
      live = e.live c.args.key c.requires.entry.live;
      kind = e.raw.0;
      payload = e.raw.1;
    }

pub returns-clause-names : goal.returns-clause-names
returns-clause-names c other =
    subst (λ (z : Ref). NamesBoxAt c.args.d c.args.key z (view c.store_entry.new.pass)) c.keep.ensures (names_then (goal.at.returns-clause-names c).After-store_entry)

pub returns-clause-wrote : goal.returns-clause-wrote
returns-clause-wrote c =
    let v = view c.args.pass.now in
    let w = view c.store_entry.new.pass in
    let b = c.keep.result in
    let e = c.store_entry.ensures in
    let k = shape_of c.args.bank.now in
    let h = holds_kept (goal.at.returns-clause-wrote c).After-keep in
    record {
      before = v;
      boxed = loaded_boxed v v (loaded_same v);
      box = Some b;
      put = record {
        wrote = e.wrote;
        root = e.root;
        references = record {
          boxes = record {
            settled = e.wrote.made.settled c.requires.may.settled;
            none = λ n.
                let moved = e.references n in
                let names = boxed_names n 4 (box_id b) refl ∙ other_way (box_id b) n in
                let held = ap (λ (z : Shape). references_held z n v.log) (sym c.requires.pass.1) ∙ h.one n in
                omega (arith, moved, names, held);
            stored = e.stored;
          };
          names = λ other is. subst (λ (z : Ref). NamesBoxAt c.args.d c.args.key z w) (ap (λ (z : Option Ref). unwrap_or z b) is) (names_then (goal.at.returns-clause-wrote c).After-store_entry);
        };
      };
    }
