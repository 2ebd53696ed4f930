use Rattle.ft_model.specs.declared.call.Call.TheVariants as call
use Rattle.ft_model.specs.declared.call.DictCall.TheVariants as dict
use Rattle.ft_model.specs.declared.reply.Reply.TheVariants as reply
use Rattle.ft_bank.specs.Passes.{shape_of, view}
use Rattle.ft_trace.specs.Holds.{known_state}
use Rattle.ft_search.specs.OneEntryWrites.{Leaves, without_key}
use Rattle.ft_search.proofs.Calling.{made_loaded, written_made}
use Rattle.ft_dict.proofs.Deleted as deleted
use Rattle.ft_dict.proofs.deletes.popd_locked.Goals as goal
use Rattle.ft_dict.proofs.deletes.popd_locked.Goals.{After-value_at-value}

leaves : (c : After-value_at-value) → Leaves c.args.d (call.Dict c.args.d (dict.PopOr c.args.key c.args.default)) (reply.Value c.value_at-value.result) (record { content = without_key (known_state c.args.d (view c.seek_key.new.pass)).content c.args.key; table = (known_state c.args.d (view c.seek_key.new.pass)).table }) (view c.seek_key.new.pass)
leaves c = let p = deleted.known_dict (shape_of c.args.bank.now) (view c.seek_key.new.pass) c.args.d c.seek_key.ensures.pass.1 c.seek_key.new.pass.possible c.seek_key.ensures.may c.requires.dict in deleted.popd_leaves c.args.d (view c.seek_key.new.pass) p.0 p.2 c.seek_key.ensures.may.locked p.1 c.args.key c.seek_key.ensures.key c.args.default c.value_at-value.result c.value_fits.ensures c.value_at-value.ensures

pub delete_entry-number-requires-clause-leaves : goal.delete_entry-number-requires-clause-leaves
delete_entry-number-requires-clause-leaves c = leaves (goal.at.delete_entry-number-requires-clause-leaves c).After-value_at-value

pub returns-in-At-clause-made : goal.returns-in-At-clause-made
returns-in-At-clause-made c =
    let e = c.seek_key.ensures in
    let n = c.delete_entry-number.ensures in
    written_made c.args.d (record { content = without_key (known_state c.args.d (view c.seek_key.new.pass)).content c.args.key; table = (known_state c.args.d (view c.seek_key.new.pass)).table }) (call.Dict c.args.d (dict.PopOr c.args.key c.args.default)) (reply.Value c.value_at-value.result) c.delete_entry-number.result c.written.result (view c.args.pass.now) (view c.seek_key.new.pass) (view c.delete_entry-number.new.pass) e.loads.0 e.keeps e.loads.1 (leaves (goal.at.returns-in-At-clause-made c).After-value_at-value) n.wrote n.root n.references c.written.ensures

pub returns-in-Free-clause-made : goal.returns-in-Free-clause-made
returns-in-Free-clause-made c =
    let e = c.seek_key.ensures in
    made_loaded (view c.args.pass.now) (view c.seek_key.new.pass) e.keeps (call.Dict c.args.d (dict.PopOr c.args.key c.args.default)) c.write_default.result.0 c.write_default.result.1 (view c.write_default.new.pass) e.loads.0 e.loads.1 c.write_default.ensures.made

pub returns-in-Bare-clause-made : goal.returns-in-Bare-clause-made
returns-in-Bare-clause-made c =
    let e = c.seek_key.ensures in
    made_loaded (view c.args.pass.now) (view c.seek_key.new.pass) e.keeps (call.Dict c.args.d (dict.PopOr c.args.key c.args.default)) c.write_default-in-Bare.result.0 c.write_default-in-Bare.result.1 (view c.write_default-in-Bare.new.pass) e.loads.0 e.loads.1 c.write_default-in-Bare.ensures.made
