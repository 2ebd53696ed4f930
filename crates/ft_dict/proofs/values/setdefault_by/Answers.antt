use Rattle.std.proofs.Common.{◌≡◌, ◌<◌, ◌*◌, ◌^◌, Option, Some, None, sym, ap, ◌∙◌, subst, arith}
use Rattle.std.specs.Option.{unwrap_or}
use Rattle.ft_model.specs.declared.call.Call.TheVariants as call
use Rattle.ft_model.specs.declared.call.DictCall.TheVariants as dict
use Rattle.ft_model.specs.declared.content.Content.{Content}
use Rattle.ft_model.specs.declared.content.Content.TheVariants as content
use Rattle.ft_model.specs.declared.data.Value.{Value}
use Rattle.ft_model.specs.declared.reply.Reply.TheVariants as reply
use Rattle.ft_model.specs.Contents.{DictContent, dict_get}
use Rattle.ft_model.specs.Worlds.{dict_of, serial_of}
use Rattle.ft_layout.specs.declared.slot.Stored.TheVariants.{Plain}
use Rattle.ft_keys.specs.declared.walk.Way.TheVariants as way
use Rattle.ft_trace.specs.declared.Shape.{Shape}
use Rattle.ft_trace.specs.Addresses.{container_count}
use Rattle.ft_trace.specs.Holds.{held_unboxed, known_state}
use Rattle.ft_trace.specs.ContainerStates.{ContainerState}
use Rattle.ft_bank.specs.declared.table.Table.{Table}
use Rattle.ft_bank.specs.Passes.{shape_of, view}
use Rattle.ft_bank.proofs.ShownReplies.{serials_have_room}
use Rattle.ft_bank.proofs.KnownAfterWrites.{work_knows}
use Rattle.ft_search.specs.Held.{IsHeldAt}
use Rattle.ft_new_keys.specs.KeyGrowth.{AddsKey, IsFreeFor}
use Rattle.ft_new_keys.proofs.Keyed.{knows_here, knows_bare}
use Rattle.ft_new_keys.proofs.Present.{may_add, puts_absent}
use Rattle.ft_dict.proofs.Deleted as deleted
use Rattle.ft_dict.specs.Values.{default_reply}
use Rattle.ft_dict.proofs.Reading.{not_found}
use Rattle.ft_dict.proofs.BoxedPuts.{default_loaded}
use Rattle.ft_dict.proofs.NewKeys.{setdefault_adds}
use Rattle.ft_dict.proofs.values.setdefault_by.Goals as goal
use Rattle.ft_dict.proofs.values.setdefault_by.Goals.{After-seek_key}

-- the dict, as it is known once the key was sought
known_pairs : (c : After-seek_key) → (pairs : DictContent) × ((known_state c.args.d (view c.seek_key.new.pass)).content ≡ content.Dict pairs) × (c.args.d < container_count (view c.seek_key.new.pass).shape)
known_pairs c = deleted.known_dict (shape_of c.args.bank.now) (view c.seek_key.new.pass) c.args.d c.seek_key.ensures.pass.1 c.seek_key.new.pass.possible c.seek_key.ensures.may c.requires.dict

adds : (c : After-seek_key) → IsHeldAt (known_state c.args.d (view c.seek_key.new.pass)).content c.args.key None → AddsKey c.args.d (call.Dict c.args.d (dict.SetDefault c.args.key c.args.default)) (reply.Value c.args.default) c.args.key (Plain c.args.default) (view c.seek_key.new.pass)
adds c none =
    let p = known_pairs c in
    setdefault_adds c.args.d (view c.seek_key.new.pass) p.0 p.2 c.seek_key.ensures.may.locked p.1 c.args.key c.args.default c.seek_key.ensures.key c.value_fits.ensures (subst (λ (z : Content). IsHeldAt z c.args.key None) p.1 none)

serials : (c : After-seek_key) → serial_of (known_state c.args.d (view c.seek_key.new.pass)).content < 2 ^ 63
serials c =
    let room = serials_have_room (view c.seek_key.new.pass) c.args.d c.seek_key.new.pass.possible (subst (λ (k : Shape). k.passes * k.calls < 2 ^ 46) (sym c.seek_key.ensures.pass.1) c.args.bank.now.few) c.seek_key.ensures.may.locked in
    omega (arith, room)

same : (c : After-seek_key) → (known_state c.args.d (view c.seek_key.new.pass)).content ≡ (known_state c.args.d (view c.args.pass.now)).content
same c = ap (λ (z : ContainerState). z.content) (work_knows (view c.args.pass.now) (view c.seek_key.new.pass) c.args.d c.seek_key.ensures.keeps.work)

-- the default is what is replied where the key isn't there
missing : (c : After-seek_key) → IsHeldAt (known_state c.args.d (view c.seek_key.new.pass)).content c.args.key None → reply.Value c.args.default ≡ default_reply (known_state c.args.d (view c.args.pass.now)).content c.args.key c.args.default
missing c none =
    let p = known_pairs c in
    let found = not_found p.0.pairs c.args.key (subst (λ (z : Content). IsHeldAt z c.args.key None) p.1 none) in
    let value = ap (λ (z : Option Value). unwrap_or z c.args.default) (sym found) ∙ ap (λ (z : Content). unwrap_or (dict_get (dict_of z).pairs c.args.key) c.args.default) (sym p.1 ∙ same c) in
    ap reply.Value value

pub returns-in-At-clause-added : goal.returns-in-At-clause-added
returns-in-At-clause-added c =
    let a = c.args in
    let r = c.default_there.result in
    default_loaded (shape_of a.bank.now) a.d a.key a.default r.1 (view a.pass.now) (view c.seek_key.new.pass) (view c.default_there.new.pass) r.0 c.seek_key.ensures.keeps c.default_there.ensures.added

-- ---- a table that has the key nowhere

pub add_key-added-requires-clause-may : goal.add_key-added-requires-clause-may
add_key-added-requires-clause-may c =
    let a = c.args in
    let e = c.seek_key.ensures in
    may_add (shape_of a.bank.now) a.d (Some c.in-Free.table) (view a.pass.now) (view c.seek_key.new.pass) e.keeps c.requires.used c.requires.idle e.may (knows_here (shape_of a.bank.now) a.d c.in-Free.table (view c.seek_key.new.pass) e.may c.in-Free.ensures.spot.0)

pub add_key-added-requires-clause-slot : goal.add_key-added-requires-clause-slot
add_key-added-requires-clause-slot c t is =
    let a = c.args in
    subst (λ (z : Table). IsFreeFor (shape_of a.bank.now).texts way.Dict z.class a.key (held_unboxed a.d (view c.seek_key.new.pass)).table c.in-Free.slot) (ap (λ (z : Option Table). unwrap_or z c.in-Free.table) is) (c.in-Free.ensures.spot.1, c.in-Free.ensures.spot.2)

pub add_key-added-requires-clause-absent : goal.add_key-added-requires-clause-absent
add_key-added-requires-clause-absent c = c.in-Free.ensures.spot.3

pub add_key-added-requires-clause-serials : goal.add_key-added-requires-clause-serials
add_key-added-requires-clause-serials c = serials (goal.at.add_key-added-requires-clause-serials c).After-seek_key

pub add_key-added-requires-clause-adds : goal.add_key-added-requires-clause-adds
add_key-added-requires-clause-adds c = adds (goal.at.add_key-added-requires-clause-adds c).After-seek_key c.in-Free.ensures.spot.3

pub returns-in-Free-clause-added : goal.returns-in-Free-clause-added
returns-in-Free-clause-added c =
    let a = c.args in
    let s = (goal.at.returns-in-Free-clause-added c).After-seek_key in (
      missing s c.in-Free.ensures.spot.3,
      puts_absent (shape_of a.bank.now) a.d a.key (call.Dict a.d (dict.SetDefault a.key a.default)) (reply.Value a.default) (view a.pass.now) (view c.seek_key.new.pass) (view c.add_key-added.new.pass) c.seek_key.ensures.keeps c.add_key-added.result c.in-Free.ensures.spot.3 c.add_key-added.ensures.added,
    )

-- ---- no table

pub add_key-added-requires-in-Bare-clause-may : goal.add_key-added-requires-in-Bare-clause-may
add_key-added-requires-in-Bare-clause-may c =
    let a = c.args in
    let e = c.seek_key.ensures in
    may_add (shape_of a.bank.now) a.d None (view a.pass.now) (view c.seek_key.new.pass) e.keeps c.requires.used c.requires.idle e.may (knows_bare (shape_of a.bank.now) a.d (view c.seek_key.new.pass) e.may c.in-Bare.ensures.spot.0)

pub add_key-added-requires-in-Bare-clause-absent : goal.add_key-added-requires-in-Bare-clause-absent
add_key-added-requires-in-Bare-clause-absent c = c.in-Bare.ensures.spot.1

pub add_key-added-requires-in-Bare-clause-serials : goal.add_key-added-requires-in-Bare-clause-serials
add_key-added-requires-in-Bare-clause-serials c = serials (goal.at.add_key-added-requires-in-Bare-clause-serials c).After-seek_key

pub add_key-added-requires-in-Bare-clause-adds : goal.add_key-added-requires-in-Bare-clause-adds
add_key-added-requires-in-Bare-clause-adds c = adds (goal.at.add_key-added-requires-in-Bare-clause-adds c).After-seek_key c.in-Bare.ensures.spot.1

pub returns-in-Bare-clause-added : goal.returns-in-Bare-clause-added
returns-in-Bare-clause-added c =
    let a = c.args in
    let s = (goal.at.returns-in-Bare-clause-added c).After-seek_key in (
      missing s c.in-Bare.ensures.spot.1,
      puts_absent (shape_of a.bank.now) a.d a.key (call.Dict a.d (dict.SetDefault a.key a.default)) (reply.Value a.default) (view a.pass.now) (view c.seek_key.new.pass) (view c.add_key-added-in-Bare.new.pass) c.seek_key.ensures.keeps c.add_key-added-in-Bare.result c.in-Bare.ensures.spot.1 c.add_key-added-in-Bare.ensures.added,
    )
