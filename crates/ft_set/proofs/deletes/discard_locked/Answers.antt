use Rattle.ft_model.specs.declared.call.Call.TheVariants as call
use Rattle.ft_model.specs.declared.call.SetCall.TheVariants as set
use Rattle.ft_model.specs.declared.reply.Reply.TheVariants as reply
use Rattle.ft_trace.specs.Holds.{known_state}
use Rattle.ft_bank.specs.Passes.{shape_of, view}
use Rattle.ft_search.specs.OneEntryWrites.{Leaves, without_key}
use Rattle.ft_search.proofs.Calling.{made_loaded, written_made}
use Rattle.ft_set.proofs.Leaving as left
use Rattle.ft_set.proofs.deletes.discard_locked.Goals as goal
use Rattle.ft_set.proofs.deletes.discard_locked.Goals.{In-At}

leaves : (c : In-At) → Leaves c.args.s (call.Set c.args.s (set.Discard c.args.key)) reply.Done (record { content = without_key (known_state c.args.s (view c.seek_key.new.pass)).content c.args.key; table = (known_state c.args.s (view c.seek_key.new.pass)).table }) (view c.seek_key.new.pass)
leaves c = let p = left.known_set (shape_of c.args.bank.now) (view c.seek_key.new.pass) c.args.s c.seek_key.ensures.pass.1 c.seek_key.new.pass.possible c.seek_key.ensures.may c.requires.set in left.discard_leaves c.args.s (view c.seek_key.new.pass) p.0 p.2 c.seek_key.ensures.may.locked p.1 c.args.key c.seek_key.ensures.key

pub delete_entry-number-requires-clause-leaves : goal.delete_entry-number-requires-clause-leaves
delete_entry-number-requires-clause-leaves c = leaves (goal.at.delete_entry-number-requires-clause-leaves c).In-At

pub returns-in-At-clause-made : goal.returns-in-At-clause-made
returns-in-At-clause-made c =
    let e = c.seek_key.ensures in
    let n = c.delete_entry-number.ensures in
    written_made c.args.s (record { content = without_key (known_state c.args.s (view c.seek_key.new.pass)).content c.args.key; table = (known_state c.args.s (view c.seek_key.new.pass)).table }) (call.Set c.args.s (set.Discard c.args.key)) reply.Done c.delete_entry-number.result c.written.result (view c.args.pass.now) (view c.seek_key.new.pass) (view c.delete_entry-number.new.pass) e.loads.0 e.keeps e.loads.1 (leaves (goal.at.returns-in-At-clause-made c).In-At) n.wrote n.root n.references c.written.ensures

pub returns-in-Free-clause-made : goal.returns-in-Free-clause-made
returns-in-Free-clause-made c =
    let e = c.seek_key.ensures in
    made_loaded (view c.args.pass.now) (view c.seek_key.new.pass) e.keeps (call.Set c.args.s (set.Discard c.args.key)) c.discard_none.result.0 c.discard_none.result.1 (view c.discard_none.new.pass) e.loads.0 e.loads.1 c.discard_none.ensures.made

pub returns-in-Bare-clause-made : goal.returns-in-Bare-clause-made
returns-in-Bare-clause-made c =
    let e = c.seek_key.ensures in
    made_loaded (view c.args.pass.now) (view c.seek_key.new.pass) e.keeps (call.Set c.args.s (set.Discard c.args.key)) c.discard_none-in-Bare.result.0 c.discard_none-in-Bare.result.1 (view c.discard_none-in-Bare.new.pass) e.loads.0 e.loads.1 c.discard_none-in-Bare.ensures.made
