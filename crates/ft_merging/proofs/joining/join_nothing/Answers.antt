use Rattle.std.proofs.Common.{◌≡◌, inr, false}
use Rattle.ft_model.specs.TableUses.{passes_cap}
use Rattle.ft_table_calls.specs.declared.adding.Added.TheVariants as added
use Rattle.ft_trace.specs.Holds.{known_state}
use Rattle.ft_bank.specs.Passes.{shape_of, view}
use Rattle.ft_merging.proofs.JoinedCalls.{joins_leaves, joins_nothing, made_here}
use Rattle.ft_merging.proofs.JoinedSame.{known_cap}
use Rattle.ft_merging.proofs.joining.join_nothing.Goals as goal
use Rattle.ft_merging.proofs.joining.join_nothing.Goals.{After-used_entries_follow_a_set}

few : (c : After-used_entries_follow_a_set) → passes_cap (known_state c.args.o (view c.args.pass.now)).content ≡ false
few c = known_cap (shape_of c.args.bank.now) c.args.o (view c.args.pass.now) c.requires.pass.1 c.args.pass.now.possible c.requires.may.keyed c.requires.may.locked c.requires.may.stands (record { pairs = c.used_entries_follow_a_dict.ensures.first; elements = c.used_entries_follow_a_set.ensures.first })

pub write_nothing-requires-clause-leaves : goal.write_nothing-requires-clause-leaves
write_nothing-requires-clause-leaves c = joins_leaves c.args.o c.args.t c.args.called.now (view c.args.pass.now) c.requires.joins c.requires.same (few (goal.at.write_nothing-requires-clause-leaves c).After-used_entries_follow_a_set)

pub returns-clause-added : goal.returns-clause-added
returns-clause-added c =
    let a = c.args in
    let v = view a.pass.now in
    let n = c.write_nothing.ensures in
    joins_nothing (shape_of a.bank.now) a.o a.t a.called.now v (view c.write_nothing.new.pass) (added.Made c.written.result) c.requires.same (few (goal.at.returns-clause-added c).After-used_entries_follow_a_set)
    (made_here (shape_of a.bank.now) a.o a.called.now v (view c.write_nothing.new.pass) c.written.result c.write_nothing.result c.written.ensures c.requires.joins.changed n.wrote n.references n.root)

pub returns-clause-shares : goal.returns-clause-shares
returns-clause-shares c dicts key b fits named = inr (c.requires.equal dicts key b fits named)
