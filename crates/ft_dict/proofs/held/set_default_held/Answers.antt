use Rattle.std.proofs.Common.{◌≡◌, ◌<◌, ◌*◌, ◌^◌, Bool, true, false, true≢false, Option, Some, None, sym, ap, ◌∙◌, subst, arith}
use Rattle.std.specs.Prelude.{if◌then◌else◌}
use Rattle.std.specs.Option.{option_map_or, unwrap_or}
use Rattle.ft_model.specs.declared.call.Call.TheVariants as call
use Rattle.ft_model.specs.declared.call.DictCall.TheVariants as dict
use Rattle.ft_model.specs.declared.content.Content.{Content}
use Rattle.ft_model.specs.declared.content.Content.TheVariants as content
use Rattle.ft_model.specs.declared.reply.Reply.TheVariants as reply
use Rattle.ft_model.specs.declared.data.Value.{Value}
use Rattle.ft_model.specs.Boxings.{boxes, is_boxed}
use Rattle.ft_model.specs.Contents.{DictContent, dict_get, has_key}
use Rattle.ft_model.specs.TableUses.{StoredWorld}
use Rattle.ft_model.specs.Worlds.{dict_of, serial_of}
use Rattle.ft_layout.specs.declared.slot.Stored.TheVariants.{Plain}
use Rattle.ft_keys.specs.declared.walk.Way.TheVariants as way
use Rattle.ft_trace.specs.declared.Shape.{Shape}
use Rattle.ft_trace.specs.declared.View.{View}
use Rattle.ft_trace.specs.Addresses.{container_count}
use Rattle.ft_trace.specs.Boxes.{IsDoneWithBoxes, IsSettled}
use Rattle.ft_trace.specs.ContainerStates.{ContainerState, kind_in}
use Rattle.ft_trace.specs.Holds.{held_unboxed, known_state}
use Rattle.ft_bank.specs.declared.table.Table.{Table}
use Rattle.ft_bank.specs.Passes.{shape_of, view}
use Rattle.ft_bank.specs.SameBoxes.{TakesNoPlace}
use Rattle.ft_bank.specs.Whole.{Wrote}
use Rattle.ft_bank.specs.WriteSteps.{MayHave}
use Rattle.ft_bank.proofs.KnownAfterWrites.{work_knows}
use Rattle.ft_bank.proofs.ShownReplies.{serials_have_room}
use Rattle.ft_boxes.specs.References.{HoldsOneLess, LeavesNoTaken, box_of}
use Rattle.ft_section.specs.declared.answers.Stamp.{Stamp}
use Rattle.ft_search.specs.Held.{IsHeldAt}
use Rattle.ft_search.specs.HeldValues.{HoldsValue}
use Rattle.ft_search.specs.OneEntryWrites.{Leaves, MayBeginEntries}
use Rattle.ft_search.proofs.FoundInContents.{dict_known}
use Rattle.ft_search.proofs.Puts.{done_settled}
use Rattle.ft_new_keys.specs.HeldKeys.{HoldsFor}
use Rattle.ft_new_keys.specs.KeyGrowth.{AddsKey, IsFreeFor, holds}
use Rattle.ft_new_keys.proofs.Keyed.{knows_none, knows_of}
use Rattle.ft_dict.specs.Values.{default_reply}
use Rattle.ft_dict.proofs.Deleted as deleted
use Rattle.ft_dict.proofs.HeldSets.{begins_loaded, done_dropped, has_before, holds_box, holds_for, holds_loaded, knows_begun, leaves_on, may_put, puts_new, puts_there, writes_boxed}
use Rattle.ft_dict.proofs.Leaving.{dict_is}
use Rattle.ft_dict.proofs.Reading.{not_found}
use Rattle.ft_new_keys.proofs.HeldKeys.{no_box}
use Rattle.ft_dict.proofs.NewKeys.{setdefault_adds}
use Rattle.ft_dict.proofs.held.set_default_held.Goals as goal
use Rattle.ft_dict.proofs.held.set_default_held.Goals.{After-seek_by}

pub seek_by-requires-clause-knows : goal.seek_by-requires-clause-knows
seek_by-requires-clause-knows c = knows_begun (shape_of c.args.bank.now) c.args.d (view c.args.pass.now) (view c.args.pass.now) c.requires.pass.1 c.requires.may

-- ---- once the key was sought

module _ (c : After-seek_by) where
  may_u : MayBeginEntries (shape_of c.args.bank.now) c.args.d (view c.seek_by.new.pass)
  may_u = begins_loaded (shape_of c.args.bank.now) c.args.d (view c.args.pass.now) (view c.seek_by.new.pass) c.requires.pass.1 c.requires.may c.seek_by.ensures.keeps

  holds_u : HoldsValue (box_of c.args.held) c.args.default (view c.seek_by.new.pass)
  holds_u = holds_loaded (box_of c.args.held) c.args.default (view c.args.pass.now) (view c.seek_by.new.pass) c.args.pass.now.possible c.seek_by.ensures.keeps c.requires.held

  for_u : HoldsFor (Some (box_of c.args.held)) (Plain c.args.default) (view c.seek_by.new.pass)
  for_u = holds_for (box_of c.args.held) c.args.default (view c.seek_by.new.pass) holds_u may_u.settled

  known_pairs : (pairs : DictContent) × ((known_state c.args.d (view c.seek_by.new.pass)).content ≡ content.Dict pairs) × (c.args.d < container_count (view c.seek_by.new.pass).shape)
  known_pairs =
      let k = shape_of c.args.bank.now in
      let u = view c.seek_by.new.pass in
      let p = dict_known u c.args.d c.seek_by.new.pass.possible may_u.locked (ap (λ (z : Shape). kind_in z.starts c.args.d) c.seek_by.ensures.pass.1 ∙ c.requires.dict) in
      (p.0, p.1, subst (λ (z : Shape). c.args.d < container_count z) (sym c.seek_by.ensures.pass.1) may_u.container)

  adds : IsHeldAt (known_state c.args.d (view c.seek_by.new.pass)).content c.args.key None → AddsKey c.args.d (call.Dict c.args.d (dict.SetDefault c.args.key c.args.default)) (reply.Value c.args.default) c.args.key (Plain c.args.default) (view c.seek_by.new.pass)
  adds none =
      let p = known_pairs in
      setdefault_adds c.args.d (view c.seek_by.new.pass) p.0 p.2 may_u.locked p.1 c.args.key c.args.default c.seek_by.ensures.key c.value_fits.ensures (subst (λ (z : Content). IsHeldAt z c.args.key None) p.1 none)

  serials : serial_of (known_state c.args.d (view c.seek_by.new.pass)).content < 2 ^ 63
  serials =
      let room = serials_have_room (view c.seek_by.new.pass) c.args.d c.seek_by.new.pass.possible (subst (λ (k : Shape). k.passes * k.calls < 2 ^ 46) (sym c.seek_by.ensures.pass.1) c.args.bank.now.few) may_u.locked in
      omega (arith, room)

-- the call puts the default in a box, where the key isn't there
boxing : (c : After-seek_by) → IsHeldAt (known_state c.args.d (view c.seek_by.new.pass)).content c.args.key None → (world : StoredWorld) → MayHave (view c.seek_by.new.pass) world → boxes world.world (call.Dict c.args.d (dict.SetDefault c.args.key c.args.default)) ≡ true
boxing c none world has =
    let p = known_pairs c in
    let pairs_are = dict_is c.args.d (view c.seek_by.new.pass) p.0 p.2 (may_u c).locked p.1 world has in
    let lacks : has_key p.0.pairs c.args.key ≡ false = subst (λ (z : Content). IsHeldAt z c.args.key None) p.1 none in
    (λ i. option_map_or is_boxed (if has_key (pairs_are i).pairs c.args.key then None else Some c.args.default) false)
    ∙ (ap (λ (x : Bool). option_map_or is_boxed (if x then None else Some c.args.default) false) lacks ∙ c.requires.boxed)

same : (c : After-seek_by) → (known_state c.args.d (view c.seek_by.new.pass)).content ≡ (known_state c.args.d (view c.args.pass.now)).content
same c = ap (λ (z : ContainerState). z.content) (work_knows (view c.args.pass.now) (view c.seek_by.new.pass) c.args.d c.seek_by.ensures.keeps.work)

-- the default is what is replied where the key isn't there
missing : (c : After-seek_by) → IsHeldAt (known_state c.args.d (view c.seek_by.new.pass)).content c.args.key None → reply.Value c.args.default ≡ default_reply (known_state c.args.d (view c.args.pass.now)).content c.args.key c.args.default
missing c none =
    let p = known_pairs c in
    let found = not_found p.0.pairs c.args.key (subst (λ (z : Content). IsHeldAt z c.args.key None) p.1 none) in
    let value = ap (λ (z : Option Value). unwrap_or z c.args.default) (sym found) ∙ ap (λ (z : Content). unwrap_or (dict_get (dict_of z).pairs c.args.key) c.args.default) (sym p.1 ∙ same c) in
    ap reply.Value value

-- ---- the key is there, and the reference is dropped

pub release-requires-clause-held : goal.release-requires-clause-held
release-requires-clause-held c = holds_box (box_of c.args.held) c.args.default (view c.seek_by.new.pass) (holds_u (goal.at.release-requires-clause-held c).After-seek_by)

pub release-requires-clause-settled : goal.release-requires-clause-settled
release-requires-clause-settled c = (may_u (goal.at.release-requires-clause-settled c).After-seek_by).settled

pub value_at-requires-clause-locked : goal.value_at-requires-clause-locked
value_at-requires-clause-locked c = c.seek_by.ensures.knows.locked

done : (d : After-seek_by) (r : View) → r.shape ≡ shape_of d.args.bank.now → IsSettled r.log → HoldsOneLess (box_of d.args.held) (view d.seek_by.new.pass) r → TakesNoPlace (view d.seek_by.new.pass) r → LeavesNoTaken (box_of d.args.held) (view d.seek_by.new.pass) r → IsDoneWithBoxes (shape_of d.args.bank.now) r.log
done d r shape settled less places gone = done_dropped (shape_of d.args.bank.now) (box_of d.args.held) d.args.default (view d.seek_by.new.pass) r (holds_u d) shape settled (may_u d).even less places gone

pub write_nothing-number-requires-clause-may : goal.write_nothing-number-requires-clause-may
write_nothing-number-requires-clause-may c =
    let d = (goal.at.write_nothing-number-requires-clause-may c).After-seek_by in
    let r = view c.release.new.pass in
    let e = c.release.ensures in
    writes_boxed (shape_of c.args.bank.now) c.args.d (view c.seek_by.new.pass) r c.seek_by.ensures.pass.1 (may_u d) e.only (done d r e.pass.1 e.settled e.less e.places e.gone)

pub write_nothing-number-requires-clause-leaves : goal.write_nothing-number-requires-clause-leaves
write_nothing-number-requires-clause-leaves c =
    let a = c.args in
    let d = (goal.at.write_nothing-number-requires-clause-leaves c).After-seek_by in
    let p = known_pairs d in
    let u = view c.seek_by.new.pass in
    let r = view c.release.new.pass in
    let called = call.Dict a.d (dict.SetDefault a.key a.default) in
    let said = reply.Value c.value_at.result in
    let leaves = deleted.setdefault_leaves a.d u p.0 p.2 (may_u d).locked p.1 a.key c.seek_by.ensures.key a.default c.value_at.result c.value_fits.ensures c.value_at.ensures in
    subst (λ (z : ContainerState). Leaves a.d called said z r) (sym (work_knows u r a.d c.release.ensures.only.work)) (leaves_on a.d called said (known_state a.d u) u r c.release.ensures.only.work leaves)

pub returns-in-At-clause-put : goal.returns-in-At-clause-put
returns-in-At-clause-put c =
    let a = c.args in
    let k = shape_of a.bank.now in
    let d = (goal.at.returns-in-At-clause-put c).After-seek_by in
    let p = known_pairs d in
    let u = view c.seek_by.new.pass in
    let r = view c.release.new.pass in
    let w = view c.write_nothing-number.new.pass in
    let e = c.release.ensures in
    let n = c.write_nothing-number.ensures in
    let called = call.Dict a.d (dict.SetDefault a.key a.default) in
    let said = reply.Value c.value_at.result in
    let h = subst (λ (z : Content). IsHeldAt z a.key (Some (c.in-At.value_kind, c.in-At.payload))) p.1 c.in-At.ensures.spot.2 in
    let has = has_before u r e.only.work n.wrote.found n.wrote.has in
    let there : holds (known_state a.d u).content a.key ≡ true = ap (λ (z : Content). holds z a.key) p.1 ∙ deleted.has_there a.d u p.0 p.2 (may_u d).locked p.1 a.key c.seek_by.ensures.key c.in-At.value_kind c.in-At.payload h n.wrote.found has in
    let stamp = c.written.result in
    let wrote : Wrote called said stamp.number r w = subst (λ (z : Stamp). Wrote called said z.number r w) (sym c.written.ensures) n.wrote in
    let boxes_then = done_settled k r w e.pass.1 n.wrote.pass.shape n.references n.wrote.made (done d r e.pass.1 e.settled e.less e.places e.gone) in
    puts_there k a.d a.key called said (view a.pass.now) u w c.seek_by.ensures.keeps stamp there (ap (λ (z : Stamp). z.wrote) c.written.ensures)
    (record {
      before = r;
      boxed = e.only;
      box = None;
      put = record { wrote = wrote; root = n.root; references = record { boxes = boxes_then; names = λ b is. absurd (no_box b is) } };
    })

pub returns-in-At-clause-said : goal.returns-in-At-clause-said
returns-in-At-clause-said c =
    let a = c.args in
    let d = (goal.at.returns-in-At-clause-said c).After-seek_by in
    let p = known_pairs d in
    let u = view c.seek_by.new.pass in
    let r = view c.release.new.pass in
    let n = c.write_nothing-number.ensures in
    let has = has_before u r c.release.ensures.only.work n.wrote.found n.wrote.has in
    ap reply.Value
    (ap (λ (z : Option Value). unwrap_or z a.default) (sym (deleted.value_there a.d u p.0 p.2 (may_u d).locked p.1 a.key c.seek_by.ensures.key c.value_at.result c.value_at.ensures n.wrote.found has)) ∙ ap (λ (z : Content). unwrap_or (dict_get (dict_of z).pairs a.key) a.default) (sym p.1 ∙ same d))

-- a key that is there isn't missing
pub returns-in-At-clause-names : goal.returns-in-At-clause-names
returns-in-At-clause-names c stamp made lacks =
    let a = c.args in
    let d = (goal.at.returns-in-At-clause-names c).After-seek_by in
    let p = known_pairs d in
    let u = view c.seek_by.new.pass in
    let r = view c.release.new.pass in
    let n = c.write_nothing-number.ensures in
    let h = subst (λ (z : Content). IsHeldAt z a.key (Some (c.in-At.value_kind, c.in-At.payload))) p.1 c.in-At.ensures.spot.2 in
    let has = has_before u r c.release.ensures.only.work n.wrote.found n.wrote.has in
    let there = deleted.has_there a.d u p.0 p.2 (may_u d).locked p.1 a.key c.seek_by.ensures.key c.in-At.value_kind c.in-At.payload h n.wrote.found has in
    let same_key : has_key p.0.pairs a.key ≡ false = ap (λ (z : Content). has_key (dict_of z).pairs a.key) (sym p.1 ∙ same d) ∙ lacks in
    absurd (true≢false (sym there ∙ same_key))

-- ---- a table that has the key nowhere

pub add_held-added-requires-clause-may : goal.add_held-added-requires-clause-may
add_held-added-requires-clause-may c =
    let a = c.args in
    let e = c.seek_by.ensures in
    let k = shape_of a.bank.now in
    let u = view c.seek_by.new.pass in
    may_put k a.d (Some c.in-Free.table) (view a.pass.now) u e.keeps c.requires.used c.requires.idle (may_u (goal.at.add_held-added-requires-clause-may c).After-seek_by) (knows_of k a.d c.in-Free.table u e.knows c.in-Free.ensures.spot.0)

pub add_held-added-requires-clause-holds : goal.add_held-added-requires-clause-holds
add_held-added-requires-clause-holds c = for_u (goal.at.add_held-added-requires-clause-holds c).After-seek_by

pub add_held-added-requires-clause-boxing : goal.add_held-added-requires-clause-boxing
add_held-added-requires-clause-boxing c b is = boxing (goal.at.add_held-added-requires-clause-boxing c).After-seek_by c.in-Free.ensures.spot.3

pub add_held-added-requires-clause-slot : goal.add_held-added-requires-clause-slot
add_held-added-requires-clause-slot c t is =
    let a = c.args in
    subst (λ (z : Table). IsFreeFor (shape_of a.bank.now).texts way.Dict z.class a.key (held_unboxed a.d (view c.seek_by.new.pass)).table c.in-Free.slot) (ap (λ (z : Option Table). unwrap_or z c.in-Free.table) is) (c.in-Free.ensures.spot.1, c.in-Free.ensures.spot.2)

pub add_held-added-requires-clause-absent : goal.add_held-added-requires-clause-absent
add_held-added-requires-clause-absent c = c.in-Free.ensures.spot.3

pub add_held-added-requires-clause-serials : goal.add_held-added-requires-clause-serials
add_held-added-requires-clause-serials c = serials (goal.at.add_held-added-requires-clause-serials c).After-seek_by

pub add_held-added-requires-clause-adds : goal.add_held-added-requires-clause-adds
add_held-added-requires-clause-adds c = adds (goal.at.add_held-added-requires-clause-adds c).After-seek_by c.in-Free.ensures.spot.3

pub returns-in-Free-clause-put : goal.returns-in-Free-clause-put
returns-in-Free-clause-put c =
    let a = c.args in
    puts_new (shape_of a.bank.now) a.d a.key (call.Dict a.d (dict.SetDefault a.key a.default)) (reply.Value a.default) (view a.pass.now) (view c.seek_by.new.pass) (view c.add_held-added.new.pass) c.seek_by.ensures.keeps (box_of a.held) c.add_held-added.result c.in-Free.ensures.spot.3 c.add_held-added.ensures.put

pub returns-in-Free-clause-names : goal.returns-in-Free-clause-names
returns-in-Free-clause-names c stamp made other = c.add_held-added.ensures.put.names stamp made

-- ---- no table

pub add_held-added-requires-in-Bare-clause-may : goal.add_held-added-requires-in-Bare-clause-may
add_held-added-requires-in-Bare-clause-may c =
    let a = c.args in
    let e = c.seek_by.ensures in
    let k = shape_of a.bank.now in
    let u = view c.seek_by.new.pass in
    may_put k a.d None (view a.pass.now) u e.keeps c.requires.used c.requires.idle (may_u (goal.at.add_held-added-requires-in-Bare-clause-may c).After-seek_by) (knows_none k a.d u e.knows c.in-Bare.ensures.spot.0)

pub add_held-added-requires-in-Bare-clause-holds : goal.add_held-added-requires-in-Bare-clause-holds
add_held-added-requires-in-Bare-clause-holds c = for_u (goal.at.add_held-added-requires-in-Bare-clause-holds c).After-seek_by

pub add_held-added-requires-in-Bare-clause-boxing : goal.add_held-added-requires-in-Bare-clause-boxing
add_held-added-requires-in-Bare-clause-boxing c b is = boxing (goal.at.add_held-added-requires-in-Bare-clause-boxing c).After-seek_by c.in-Bare.ensures.spot.1

pub add_held-added-requires-in-Bare-clause-absent : goal.add_held-added-requires-in-Bare-clause-absent
add_held-added-requires-in-Bare-clause-absent c = c.in-Bare.ensures.spot.1

pub add_held-added-requires-in-Bare-clause-serials : goal.add_held-added-requires-in-Bare-clause-serials
add_held-added-requires-in-Bare-clause-serials c = serials (goal.at.add_held-added-requires-in-Bare-clause-serials c).After-seek_by

pub add_held-added-requires-in-Bare-clause-adds : goal.add_held-added-requires-in-Bare-clause-adds
add_held-added-requires-in-Bare-clause-adds c = adds (goal.at.add_held-added-requires-in-Bare-clause-adds c).After-seek_by c.in-Bare.ensures.spot.1

pub returns-in-Bare-clause-put : goal.returns-in-Bare-clause-put
returns-in-Bare-clause-put c =
    let a = c.args in
    puts_new (shape_of a.bank.now) a.d a.key (call.Dict a.d (dict.SetDefault a.key a.default)) (reply.Value a.default) (view a.pass.now) (view c.seek_by.new.pass) (view c.add_held-added-in-Bare.new.pass) c.seek_by.ensures.keeps (box_of a.held) c.add_held-added-in-Bare.result c.in-Bare.ensures.spot.1 c.add_held-added-in-Bare.ensures.put

pub returns-in-Bare-clause-names : goal.returns-in-Bare-clause-names
returns-in-Bare-clause-names c stamp made other = c.add_held-added-in-Bare.ensures.put.names stamp made

pub returns-in-Free-clause-said : goal.returns-in-Free-clause-said
returns-in-Free-clause-said c = missing (goal.at.returns-in-Free-clause-said c).After-seek_by c.in-Free.ensures.spot.3

pub returns-in-Bare-clause-said : goal.returns-in-Bare-clause-said
returns-in-Bare-clause-said c = missing (goal.at.returns-in-Bare-clause-said c).After-seek_by c.in-Bare.ensures.spot.1
