use Rattle.std.proofs.Common.{◌≡◌, ◌<◌, true, Option, Some, sym, ap, ◌∙◌, subst}
use Rattle.std.specs.Option.{unwrap_or}
use Rattle.ft_model.specs.declared.call.Call.TheVariants as call
use Rattle.ft_model.specs.declared.call.DictCall.TheVariants as dict
use Rattle.ft_model.specs.declared.content.Content.{Content}
use Rattle.ft_model.specs.declared.content.Content.TheVariants as content
use Rattle.ft_model.specs.declared.data.Value.{Value}
use Rattle.ft_model.specs.declared.reply.Reply.TheVariants as reply
use Rattle.ft_model.specs.Contents.{DictContent, dict_get}
use Rattle.ft_model.specs.Worlds.{dict_of}
use Rattle.ft_trace.specs.Addresses.{container_count}
use Rattle.ft_trace.specs.Holds.{known_state}
use Rattle.ft_bank.specs.Passes.{shape_of, view}
use Rattle.ft_bank.specs.Whole.{Wrote}
use Rattle.ft_section.specs.declared.answers.Stamp.{Stamp}
use Rattle.ft_search.specs.Held.{IsHeldAt}
use Rattle.ft_search.specs.OneEntryWrites.{Leaves}
use Rattle.ft_search.proofs.Calling.{loaded_same}
use Rattle.ft_search.proofs.Puts.{done_settled}
use Rattle.ft_new_keys.specs.KeyGrowth.{holds}
use Rattle.ft_new_keys.proofs.Present.{puts_present}
use Rattle.ft_dict.proofs.Deleted as deleted
use Rattle.ft_dict.proofs.values.default_there.Goals as goal
use Rattle.ft_dict.proofs.values.default_there.Goals.{After-value_at, After-write_nothing-number}

known_pairs : (c : After-value_at) → (pairs : DictContent) × ((known_state c.args.d (view c.args.pass.now)).content ≡ content.Dict pairs) × (c.args.d < container_count (view c.args.pass.now).shape)
known_pairs c = deleted.known_dict (shape_of c.args.bank.now) (view c.args.pass.now) c.args.d c.requires.pass.1 c.args.pass.now.possible c.requires.may c.requires.dict

leaves : (c : After-value_at) → Leaves c.args.d (call.Dict c.args.d (dict.SetDefault c.args.key c.args.default)) (reply.Value c.value_at.result) (known_state c.args.d (view c.args.pass.now)) (view c.args.pass.now)
leaves c =
    let p = known_pairs c in
    deleted.setdefault_leaves c.args.d (view c.args.pass.now) p.0 p.2 c.requires.may.locked p.1 c.args.key c.requires.key c.args.default c.value_at.result c.value_fits.ensures c.value_at.ensures

pub write_nothing-number-requires-clause-leaves : goal.write_nothing-number-requires-clause-leaves
write_nothing-number-requires-clause-leaves c = leaves (goal.at.write_nothing-number-requires-clause-leaves c).After-value_at

-- the key is there, as the write found the dict
there : (c : After-write_nothing-number) → holds (known_state c.args.d (view c.args.pass.now)).content c.args.key ≡ true
there c =
    let a = c.args in
    let v = view a.pass.now in
    let p = deleted.known_dict (shape_of a.bank.now) v a.d c.requires.pass.1 a.pass.now.possible c.requires.may c.requires.dict in
    let n = c.write_nothing-number.ensures in
    let h = subst (λ (z : Content). IsHeldAt z a.key (Some (a.words.0, a.words.1))) p.1 c.requires.held in
    ap (λ (z : Content). holds z a.key) p.1 ∙ deleted.has_there a.d v p.0 p.2 c.requires.may.locked p.1 a.key c.requires.key a.words.0 a.words.1 h n.wrote.found n.wrote.has

pub returns-clause-there : goal.returns-clause-there
returns-clause-there c = there (goal.at.returns-clause-there c).After-write_nothing-number

pub returns-clause-added : goal.returns-clause-added
returns-clause-added c =
    let a = c.args in
    let d = (goal.at.returns-clause-added c).After-value_at in
    let p = known_pairs d in
    let v = view a.pass.now in
    let w = view c.write_nothing-number.new.pass in
    let n = c.write_nothing-number.ensures in
    let called = call.Dict a.d (dict.SetDefault a.key a.default) in
    let said = reply.Value c.value_at.result in
    let got = deleted.value_there a.d v p.0 p.2 c.requires.may.locked p.1 a.key c.requires.key c.value_at.result c.value_at.ensures n.wrote.found n.wrote.has in
    let value : c.value_at.result ≡ unwrap_or (dict_get (dict_of (known_state a.d v).content).pairs a.key) a.default =
    ap (λ (z : Option Value). unwrap_or z a.default) (sym got) ∙ ap (λ (z : Content). unwrap_or (dict_get (dict_of z).pairs a.key) a.default) (sym p.1) in (
      ap reply.Value value,
      puts_present (shape_of a.bank.now) a.d a.key called said v v w (loaded_same v) c.written.result (leaves d).changed (there (goal.at.returns-clause-added c).After-write_nothing-number) (ap (λ (z : Stamp). z.wrote) c.written.ensures)
          (subst (λ (z : Stamp). Wrote called said z.number v w) (sym c.written.ensures) n.wrote) n.root n.references,
    )

pub returns-clause-boxes : goal.returns-clause-boxes
returns-clause-boxes c =
    let n = c.write_nothing-number.ensures in
    done_settled (shape_of c.args.bank.now) (view c.args.pass.now) (view c.write_nothing-number.new.pass) c.requires.pass.1 n.wrote.pass.shape n.references n.wrote.made c.requires.may.boxes
