use Rattle.ft_model.specs.declared.call.Call.TheVariants as call
use Rattle.ft_model.specs.declared.call.SetCall.TheVariants as set
use Rattle.ft_model.specs.declared.reply.Reply.TheVariants as reply
use Rattle.ft_model.specs.declared.reply.Raise.TheVariants as raise
use Rattle.ft_trace.specs.Holds.{known_state}
use Rattle.ft_bank.specs.Passes.{shape_of, view}
use Rattle.ft_search.specs.MadeCalls.{IsShownBy}
use Rattle.ft_search.specs.OneEntryWrites.{Leaves, without_key}
use Rattle.ft_search.proofs.Calling.{answer_loaded, written_made}
use Rattle.ft_set.proofs.Leaving as left
use Rattle.ft_set.proofs.deletes.remove_locked.Goals as goal
use Rattle.ft_set.proofs.deletes.remove_locked.Goals.{In-At, In-Free, In-Bare}

leaves : (c : In-At) → Leaves c.args.s (call.Set c.args.s (set.Remove c.args.key)) reply.Done (record { content = without_key (known_state c.args.s (view c.seek_key.new.pass)).content c.args.key; table = (known_state c.args.s (view c.seek_key.new.pass)).table }) (view c.seek_key.new.pass)
leaves c = let p = left.known_set (shape_of c.args.bank.now) (view c.seek_key.new.pass) c.args.s c.seek_key.ensures.pass.1 c.seek_key.new.pass.possible c.seek_key.ensures.may c.requires.set in left.remove_leaves c.args.s (view c.seek_key.new.pass) p.0 p.2 c.seek_key.ensures.may.locked p.1 c.args.key c.seek_key.ensures.key c.in-At.field-2 c.in-At.field-3 c.in-At.ensures.spot.2

pub delete_entry-number-requires-clause-leaves : goal.delete_entry-number-requires-clause-leaves
delete_entry-number-requires-clause-leaves c = leaves (goal.at.delete_entry-number-requires-clause-leaves c).In-At

pub returns-in-At-clause-made : goal.returns-in-At-clause-made
returns-in-At-clause-made c =
    let e = c.seek_key.ensures in
    let n = c.delete_entry-number.ensures in
    written_made c.args.s (record { content = without_key (known_state c.args.s (view c.seek_key.new.pass)).content c.args.key; table = (known_state c.args.s (view c.seek_key.new.pass)).table }) (call.Set c.args.s (set.Remove c.args.key)) reply.Done c.delete_entry-number.result c.written.result (view c.args.pass.now) (view c.seek_key.new.pass) (view c.delete_entry-number.new.pass) e.loads.0 e.keeps e.loads.1 (leaves (goal.at.returns-in-At-clause-made c).In-At) n.wrote n.root n.references c.written.ensures

raises-Free : (c : In-Free) → IsShownBy (call.Set c.args.s (set.Remove c.args.key)) (reply.Raised raise.NoKey) (view c.seek_key.new.pass)
raises-Free c = let p = left.known_set (shape_of c.args.bank.now) (view c.seek_key.new.pass) c.args.s c.seek_key.ensures.pass.1 c.seek_key.new.pass.possible c.seek_key.ensures.may c.requires.set in left.remove_raises c.args.s (view c.seek_key.new.pass) p.0 p.2 c.seek_key.ensures.may.locked p.1 c.args.key c.seek_key.ensures.key c.in-Free.ensures.spot.3

pub answer_made-requires-clause-shown : goal.answer_made-requires-clause-shown
answer_made-requires-clause-shown c = raises-Free (goal.at.answer_made-requires-clause-shown c).In-Free

pub returns-in-Free-clause-made : goal.returns-in-Free-clause-made
returns-in-Free-clause-made c =
    let e = c.seek_key.ensures in
    answer_loaded (call.Set c.args.s (set.Remove c.args.key)) (reply.Raised raise.NoKey) c.answer_made.result.0 c.answer_made.result.1 (view c.args.pass.now) (view c.seek_key.new.pass) (view c.answer_made.new.pass) e.loads.0 e.keeps e.loads.1 c.answer_made.ensures.said c.answer_made.ensures.made

raises-Bare : (c : In-Bare) → IsShownBy (call.Set c.args.s (set.Remove c.args.key)) (reply.Raised raise.NoKey) (view c.seek_key.new.pass)
raises-Bare c = let p = left.known_set (shape_of c.args.bank.now) (view c.seek_key.new.pass) c.args.s c.seek_key.ensures.pass.1 c.seek_key.new.pass.possible c.seek_key.ensures.may c.requires.set in left.remove_raises c.args.s (view c.seek_key.new.pass) p.0 p.2 c.seek_key.ensures.may.locked p.1 c.args.key c.seek_key.ensures.key c.in-Bare.ensures.spot.1

pub answer_made-requires-in-Bare-clause-shown : goal.answer_made-requires-in-Bare-clause-shown
answer_made-requires-in-Bare-clause-shown c = raises-Bare (goal.at.answer_made-requires-in-Bare-clause-shown c).In-Bare

pub returns-in-Bare-clause-made : goal.returns-in-Bare-clause-made
returns-in-Bare-clause-made c =
    let e = c.seek_key.ensures in
    answer_loaded (call.Set c.args.s (set.Remove c.args.key)) (reply.Raised raise.NoKey) c.answer_made-in-Bare.result.0 c.answer_made-in-Bare.result.1 (view c.args.pass.now) (view c.seek_key.new.pass) (view c.answer_made-in-Bare.new.pass) e.loads.0 e.keeps e.loads.1 c.answer_made-in-Bare.ensures.said c.answer_made-in-Bare.ensures.made
