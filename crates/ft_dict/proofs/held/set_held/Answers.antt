use Rattle.std.proofs.Common.{◌≡◌, ◌<◌, ◌*◌, ◌^◌, Bool, true, false, Option, Some, None, refl, sym, ap, ◌∙◌, subst, arith}
use Rattle.std.specs.Option.{unwrap_or}
use Rattle.ft_model.specs.declared.call.Call.TheVariants as call
use Rattle.ft_model.specs.declared.call.DictCall.TheVariants as dict
use Rattle.ft_model.specs.declared.content.Content.{Content}
use Rattle.ft_model.specs.declared.content.Content.TheVariants as content
use Rattle.ft_model.specs.declared.reply.Reply.TheVariants as reply
use Rattle.ft_model.specs.Contents.{DictContent, dict_get}
use Rattle.ft_model.specs.Worlds.{dict_of, serial_of}
use Rattle.ft_layout.specs.declared.slot.Stored.TheVariants.{Plain}
use Rattle.ft_layout.specs.Words.{stored_kind, stored_payload}
use Rattle.ft_keys.specs.declared.walk.Way.TheVariants as way
use Rattle.ft_trace.specs.declared.Shape.{Shape}
use Rattle.ft_trace.specs.Addresses.{container_count}
use Rattle.ft_trace.specs.ContainerStates.{ContainerState, kind_in}
use Rattle.ft_trace.specs.Holds.{held_unboxed, known_state}
use Rattle.ft_trace.proofs.LookReplies as looked
use Rattle.ft_trace.proofs.Tellings.{both_equal}
use Rattle.ft_bank.specs.declared.table.Table.{Table}
use Rattle.ft_bank.specs.Passes.{shape_of, view}
use Rattle.ft_bank.proofs.KnownAfterWrites.{work_knows}
use Rattle.ft_bank.proofs.ShownReplies.{serials_have_room}
use Rattle.ft_boxes.specs.References.{box_of}
use Rattle.ft_section.specs.declared.answers.Stamp.{Stamp}
use Rattle.ft_search.specs.Held.{IsHeldAt}
use Rattle.ft_search.specs.HeldValues.{HoldsValue}
use Rattle.ft_search.specs.OneEntryWrites.{MayBeginEntries, are_of_value}
use Rattle.ft_search.proofs.FoundInContents.{dict_known}
use Rattle.ft_new_keys.specs.HeldKeys.{HoldsFor}
use Rattle.ft_new_keys.specs.KeyGrowth.{AddsKey, IsFreeFor, holds}
use Rattle.ft_new_keys.proofs.Keyed.{knows_none, knows_of}
use Rattle.ft_dict.specs.HeldSets.{WroteThere}
use Rattle.ft_dict.proofs.Deleted as deleted
use Rattle.ft_dict.proofs.HeldSets.{begins_loaded, has_before, holds_for, holds_loaded, knows_begun, may_put, puts_new, puts_there}
use Rattle.ft_dict.proofs.Leaving.{each_fits}
use Rattle.ft_dict.proofs.NewKeys.{set_adds}
use Rattle.ft_dict.proofs.held.set_held.Goals as goal
use Rattle.ft_dict.proofs.held.set_held.Goals.{After-seek_by}

pub seek_by-requires-clause-knows : goal.seek_by-requires-clause-knows
seek_by-requires-clause-knows c = knows_begun (shape_of c.args.bank.now) c.args.d (view c.args.pass.now) (view c.args.pass.now) c.requires.pass.1 c.requires.may

-- ---- once the key was sought

module _ (c : After-seek_by) where
  may_u : MayBeginEntries (shape_of c.args.bank.now) c.args.d (view c.seek_by.new.pass)
  may_u = begins_loaded (shape_of c.args.bank.now) c.args.d (view c.args.pass.now) (view c.seek_by.new.pass) c.requires.pass.1 c.requires.may c.seek_by.ensures.keeps

  holds_u : HoldsValue (box_of c.args.held) c.args.value (view c.seek_by.new.pass)
  holds_u = holds_loaded (box_of c.args.held) c.args.value (view c.args.pass.now) (view c.seek_by.new.pass) c.args.pass.now.possible c.seek_by.ensures.keeps c.requires.held

  for_u : HoldsFor (Some (box_of c.args.held)) (Plain c.args.value) (view c.seek_by.new.pass)
  for_u = holds_for (box_of c.args.held) c.args.value (view c.seek_by.new.pass) holds_u may_u.settled

  known_pairs : (pairs : DictContent) × ((known_state c.args.d (view c.seek_by.new.pass)).content ≡ content.Dict pairs) × (c.args.d < container_count (view c.seek_by.new.pass).shape)
  known_pairs =
      let k = shape_of c.args.bank.now in
      let u = view c.seek_by.new.pass in
      let p = dict_known u c.args.d c.seek_by.new.pass.possible may_u.locked (ap (λ (z : Shape). kind_in z.starts c.args.d) c.seek_by.ensures.pass.1 ∙ c.requires.dict) in
      (p.0, p.1, subst (λ (z : Shape). c.args.d < container_count z) (sym c.seek_by.ensures.pass.1) may_u.container)

  adds : IsHeldAt (known_state c.args.d (view c.seek_by.new.pass)).content c.args.key None → AddsKey c.args.d (call.Dict c.args.d (dict.Set c.args.key c.args.value)) reply.Done c.args.key (Plain c.args.value) (view c.seek_by.new.pass)
  adds none =
      let p = known_pairs in
      set_adds c.args.d (view c.seek_by.new.pass) p.0 p.2 may_u.locked p.1 c.args.key c.args.value c.seek_by.ensures.key c.value_fits.ensures (subst (λ (z : Content). IsHeldAt z c.args.key None) p.1 none)

  serials : serial_of (known_state c.args.d (view c.seek_by.new.pass)).content < 2 ^ 63
  serials =
      let room = serials_have_room (view c.seek_by.new.pass) c.args.d c.seek_by.new.pass.possible (subst (λ (k : Shape). k.passes * k.calls < 2 ^ 46) (sym c.seek_by.ensures.pass.1) c.args.bank.now.few) may_u.locked in
      omega (arith, room)

-- ---- the key is there

pub set_there-number-requires-clause-may : goal.set_there-number-requires-clause-may
set_there-number-requires-clause-may c = may_u (goal.at.set_there-number-requires-clause-may c).After-seek_by

pub set_there-number-requires-clause-held : goal.set_there-number-requires-clause-held
set_there-number-requires-clause-held c = holds_u (goal.at.set_there-number-requires-clause-held c).After-seek_by

pub set_there-number-requires-clause-leaves : goal.set_there-number-requires-clause-leaves
set_there-number-requires-clause-leaves c =
    let d = (goal.at.set_there-number-requires-clause-leaves c).After-seek_by in
    let p = known_pairs d in
    deleted.set_leaves c.args.d (view c.seek_by.new.pass) p.0 p.2 (may_u d).locked p.1 c.args.key c.seek_by.ensures.key c.args.value c.in-At.value_kind c.in-At.payload c.value_fits.ensures c.in-At.ensures.spot.2

pub returns-in-At-clause-put : goal.returns-in-At-clause-put
returns-in-At-clause-put c =
    let a = c.args in
    let d = (goal.at.returns-in-At-clause-put c).After-seek_by in
    let p = known_pairs d in
    let u = view c.seek_by.new.pass in
    let w = view c.set_there-number.new.pass in
    let called = call.Dict a.d (dict.Set a.key a.value) in
    let m = c.set_there-number.ensures.wrote in
    let h = subst (λ (z : Content). IsHeldAt z a.key (Some (c.in-At.value_kind, c.in-At.payload))) p.1 c.in-At.ensures.spot.2 in
    let has = has_before u m.before m.boxed.work m.put.wrote.found m.put.wrote.has in
    let there : holds (known_state a.d u).content a.key ≡ true = ap (λ (z : Content). holds z a.key) p.1 ∙ deleted.has_there a.d u p.0 p.2 (may_u d).locked p.1 a.key c.seek_by.ensures.key c.in-At.value_kind c.in-At.payload h m.put.wrote.found has in
    puts_there (shape_of a.bank.now) a.d a.key called reply.Done (view a.pass.now) u w c.seek_by.ensures.keeps c.written.result there (ap (λ (z : Stamp). z.wrote) c.written.ensures) (subst (λ (z : Stamp). WroteThere (shape_of a.bank.now) a.d a.key called reply.Done z.number u w) (sym c.written.ensures) m)

not_true : (x : Bool) → (x ≡ true → ⊥) → x ≡ false
not_true true never = absurd (never refl)
not_true false never = refl

pub returns-in-At-clause-names : goal.returns-in-At-clause-names
returns-in-At-clause-names c stamp made other =
    let a = c.args in
    let d = (goal.at.returns-in-At-clause-names c).After-seek_by in
    let p = known_pairs d in
    let v = view a.pass.now in
    let u = view c.seek_by.new.pass in
    let m = c.set_there-number.ensures.wrote in
    let same : (known_state a.d u).content ≡ (known_state a.d v).content = ap (λ (z : ContainerState). z.content) (work_knows v u a.d c.seek_by.ensures.keeps.work) in
    let h = subst (λ (z : Content). IsHeldAt z a.key (Some (c.in-At.value_kind, c.in-At.payload))) p.1 c.in-At.ensures.spot.2 in
    let has = has_before u m.before m.boxed.work m.put.wrote.found m.put.wrote.has in
    let fits = each_fits a.d u p.0 p.2 (may_u d).locked p.1 m.put.wrote.found has in
    c.set_there-number.ensures.names
    (not_true (are_of_value c.in-At.value_kind c.in-At.payload a.value)
    (λ says.
    let words = both_equal c.in-At.value_kind (stored_kind (Plain a.value)) c.in-At.payload (stored_payload (Plain a.value)) says in
    let got = looked.value_said p.0 a.key c.seek_by.ensures.key fits a.value c.value_fits.ensures c.in-At.value_kind c.in-At.payload h.0 h.1 words.0 words.1 in
    other (ap (λ (z : Content). dict_get (dict_of z).pairs a.key) (sym same ∙ p.1) ∙ got)))

-- ---- a table that has the key nowhere

pub add_held-requires-clause-may : goal.add_held-requires-clause-may
add_held-requires-clause-may c =
    let a = c.args in
    let e = c.seek_by.ensures in
    let k = shape_of a.bank.now in
    let u = view c.seek_by.new.pass in
    may_put k a.d (Some c.in-Free.table) (view a.pass.now) u e.keeps c.requires.used c.requires.idle (may_u (goal.at.add_held-requires-clause-may c).After-seek_by) (knows_of k a.d c.in-Free.table u e.knows c.in-Free.ensures.spot.0)

pub add_held-requires-clause-holds : goal.add_held-requires-clause-holds
add_held-requires-clause-holds c = for_u (goal.at.add_held-requires-clause-holds c).After-seek_by

pub add_held-requires-clause-boxing : goal.add_held-requires-clause-boxing
add_held-requires-clause-boxing c b is world has = c.requires.boxed

pub add_held-requires-clause-slot : goal.add_held-requires-clause-slot
add_held-requires-clause-slot c t is =
    let a = c.args in
    subst (λ (z : Table). IsFreeFor (shape_of a.bank.now).texts way.Dict z.class a.key (held_unboxed a.d (view c.seek_by.new.pass)).table c.in-Free.slot) (ap (λ (z : Option Table). unwrap_or z c.in-Free.table) is) (c.in-Free.ensures.spot.1, c.in-Free.ensures.spot.2)

pub add_held-requires-clause-absent : goal.add_held-requires-clause-absent
add_held-requires-clause-absent c = c.in-Free.ensures.spot.3

pub add_held-requires-clause-serials : goal.add_held-requires-clause-serials
add_held-requires-clause-serials c = serials (goal.at.add_held-requires-clause-serials c).After-seek_by

pub add_held-requires-clause-adds : goal.add_held-requires-clause-adds
add_held-requires-clause-adds c = adds (goal.at.add_held-requires-clause-adds c).After-seek_by c.in-Free.ensures.spot.3

pub returns-in-Free-clause-put : goal.returns-in-Free-clause-put
returns-in-Free-clause-put c =
    let a = c.args in
    puts_new (shape_of a.bank.now) a.d a.key (call.Dict a.d (dict.Set a.key a.value)) reply.Done (view a.pass.now) (view c.seek_by.new.pass) (view c.add_held.new.pass) c.seek_by.ensures.keeps (box_of a.held) c.add_held.result c.in-Free.ensures.spot.3 c.add_held.ensures.put

pub returns-in-Free-clause-names : goal.returns-in-Free-clause-names
returns-in-Free-clause-names c stamp made other = c.add_held.ensures.put.names stamp made

-- ---- no table

pub add_held-requires-in-Bare-clause-may : goal.add_held-requires-in-Bare-clause-may
add_held-requires-in-Bare-clause-may c =
    let a = c.args in
    let e = c.seek_by.ensures in
    let k = shape_of a.bank.now in
    let u = view c.seek_by.new.pass in
    may_put k a.d None (view a.pass.now) u e.keeps c.requires.used c.requires.idle (may_u (goal.at.add_held-requires-in-Bare-clause-may c).After-seek_by) (knows_none k a.d u e.knows c.in-Bare.ensures.spot.0)

pub add_held-requires-in-Bare-clause-holds : goal.add_held-requires-in-Bare-clause-holds
add_held-requires-in-Bare-clause-holds c = for_u (goal.at.add_held-requires-in-Bare-clause-holds c).After-seek_by

pub add_held-requires-in-Bare-clause-boxing : goal.add_held-requires-in-Bare-clause-boxing
add_held-requires-in-Bare-clause-boxing c b is world has = c.requires.boxed

pub add_held-requires-in-Bare-clause-absent : goal.add_held-requires-in-Bare-clause-absent
add_held-requires-in-Bare-clause-absent c = c.in-Bare.ensures.spot.1

pub add_held-requires-in-Bare-clause-serials : goal.add_held-requires-in-Bare-clause-serials
add_held-requires-in-Bare-clause-serials c = serials (goal.at.add_held-requires-in-Bare-clause-serials c).After-seek_by

pub add_held-requires-in-Bare-clause-adds : goal.add_held-requires-in-Bare-clause-adds
add_held-requires-in-Bare-clause-adds c = adds (goal.at.add_held-requires-in-Bare-clause-adds c).After-seek_by c.in-Bare.ensures.spot.1

pub returns-clause-put : goal.returns-clause-put
returns-clause-put c =
    let a = c.args in
    puts_new (shape_of a.bank.now) a.d a.key (call.Dict a.d (dict.Set a.key a.value)) reply.Done (view a.pass.now) (view c.seek_by.new.pass) (view c.add_held-in-Bare.new.pass) c.seek_by.ensures.keeps (box_of a.held) c.add_held-in-Bare.result c.in-Bare.ensures.spot.1 c.add_held-in-Bare.ensures.put

pub returns-clause-names : goal.returns-clause-names
returns-clause-names c stamp made other = c.add_held-in-Bare.ensures.put.names stamp made
