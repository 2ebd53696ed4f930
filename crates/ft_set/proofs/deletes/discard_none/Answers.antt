use Rattle.std.proofs.Common.{[], refl}
use Rattle.ft_model.specs.declared.call.Call.TheVariants as call
use Rattle.ft_model.specs.declared.call.SetCall.TheVariants as set
use Rattle.ft_model.specs.declared.reply.Reply.TheVariants as reply
use Rattle.ft_trace.specs.Holds.{known_state}
use Rattle.ft_bank.specs.Passes.{shape_of, view}
use Rattle.ft_search.specs.OneEntryWrites.{Leaves}
use Rattle.ft_search.proofs.Calling.{loaded_same, written_made}
use Rattle.ft_set.proofs.Leaving as left
use Rattle.ft_set.proofs.deletes.discard_none.Goals as goal
use Rattle.ft_set.proofs.deletes.discard_none.Goals.{Start}

leaves : (c : Start) → Leaves c.args.s (call.Set c.args.s (set.Discard c.args.key)) reply.Done (known_state c.args.s (view c.args.pass.now)) (view c.args.pass.now)
leaves c =
    let p = left.known_set (shape_of c.args.bank.now) (view c.args.pass.now) c.args.s c.requires.pass.1 c.args.pass.now.possible c.requires.may c.requires.set in
    left.nothing_leaves c.args.s (view c.args.pass.now) p.0 p.2 c.requires.may.locked p.1 c.args.key c.requires.key c.requires.none

pub write_nothing-number-requires-clause-leaves : goal.write_nothing-number-requires-clause-leaves
write_nothing-number-requires-clause-leaves c = leaves (goal.at.write_nothing-number-requires-clause-leaves c).Start

pub returns-clause-made : goal.returns-clause-made
returns-clause-made c =
    let n = c.write_nothing-number.ensures in
    written_made c.args.s (known_state c.args.s (view c.args.pass.now)) (call.Set c.args.s (set.Discard c.args.key)) reply.Done c.write_nothing-number.result c.written.result (view c.args.pass.now) (view c.args.pass.now) (view c.write_nothing-number.new.pass) [] (loaded_same (view c.args.pass.now)) refl (leaves (goal.at.returns-clause-made c).Start) n.wrote n.root n.references c.written.ensures
