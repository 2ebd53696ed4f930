use Rattle.std.proofs.Common.{[], true, refl}
use Rattle.ft_model.specs.declared.call.Call.TheVariants as call
use Rattle.ft_model.specs.declared.call.SetCall.TheVariants as set
use Rattle.ft_model.specs.declared.reply.Reply.TheVariants as reply
use Rattle.ft_trace.specs.Holds.{known_state}
use Rattle.ft_bank.specs.Passes.{shape_of, view}
use Rattle.ft_merging.specs.Thinning.{thinned_state}
use Rattle.ft_search.specs.OneEntryWrites.{Leaves}
use Rattle.ft_search.proofs.Calling.{loaded_same, written_made}
use Rattle.ft_set.proofs.TwoSets.{and_leaves}
use Rattle.ft_set.proofs.merges.and_locked.Goals as goal
use Rattle.ft_set.proofs.merges.and_locked.Goals.{Start}

leaves : (c : Start) → Leaves c.args.s (call.Set c.args.s (set.And c.args.t)) reply.Done (thinned_state true (known_state c.args.t (view c.args.pass.now)) (known_state c.args.s (view c.args.pass.now))) (view c.args.pass.now)
leaves c = and_leaves (shape_of c.args.bank.now) c.args.s c.args.t (view c.args.pass.now) c.requires.pass.1 c.args.pass.now.possible c.requires.may c.requires.other c.requires.set c.requires.other_set

pub thin_by-number-requires-clause-leaves : goal.thin_by-number-requires-clause-leaves
thin_by-number-requires-clause-leaves c = leaves (goal.at.thin_by-number-requires-clause-leaves c).Start

pub returns-clause-made : goal.returns-clause-made
returns-clause-made c =
    let n = c.thin_by-number.ensures in
    let v = view c.args.pass.now in
    written_made c.args.s (thinned_state true (known_state c.args.t v) (known_state c.args.s v)) (call.Set c.args.s (set.And c.args.t)) reply.Done c.thin_by-number.result c.written.result v v (view c.thin_by-number.new.pass) [] (loaded_same v) refl (leaves (goal.at.returns-clause-made c).Start) n.wrote n.root n.references c.written.ensures
