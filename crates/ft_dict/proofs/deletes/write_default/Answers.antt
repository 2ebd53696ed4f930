use Rattle.std.proofs.Common.{[], refl}
use Rattle.ft_model.specs.declared.call.Call.TheVariants as call
use Rattle.ft_model.specs.declared.call.DictCall.TheVariants as dict
use Rattle.ft_model.specs.declared.reply.Reply.TheVariants as reply
use Rattle.ft_trace.specs.Holds.{known_state}
use Rattle.ft_bank.specs.Passes.{shape_of, view}
use Rattle.ft_search.specs.OneEntryWrites.{Leaves}
use Rattle.ft_search.proofs.Calling.{loaded_same, written_made}
use Rattle.ft_dict.proofs.Deleted as deleted
use Rattle.ft_dict.proofs.deletes.write_default.Goals as goal
use Rattle.ft_dict.proofs.deletes.write_default.Goals.{After-value_fits}

leaves : (c : After-value_fits) → Leaves c.args.d (call.Dict c.args.d (dict.PopOr c.args.key c.args.default)) (reply.Value c.args.default) (known_state c.args.d (view c.args.pass.now)) (view c.args.pass.now)
leaves c =
    let v = view c.args.pass.now in
    let p = deleted.known_dict (shape_of c.args.bank.now) v c.args.d c.requires.pass.1 c.args.pass.now.possible c.requires.may c.requires.dict in
    deleted.default_leaves c.args.d v p.0 p.2 c.requires.may.locked p.1 c.args.key c.requires.key c.requires.none c.args.default c.value_fits.ensures

pub write_nothing-number-requires-clause-leaves : goal.write_nothing-number-requires-clause-leaves
write_nothing-number-requires-clause-leaves c = leaves (goal.at.write_nothing-number-requires-clause-leaves c).After-value_fits

pub returns-clause-made : goal.returns-clause-made
returns-clause-made c =
    let v = view c.args.pass.now in
    let n = c.write_nothing-number.ensures in
    written_made c.args.d (known_state c.args.d v) (call.Dict c.args.d (dict.PopOr c.args.key c.args.default)) (reply.Value c.args.default) c.write_nothing-number.result c.written.result v v (view c.write_nothing-number.new.pass) [] (loaded_same v) refl (leaves (goal.at.returns-clause-made c).After-value_fits) n.wrote n.root n.references c.written.ensures
