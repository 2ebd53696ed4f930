use Rattle.std.proofs.Common.{ℕ, sym, subst}
use Rattle.ft_model.specs.declared.script.Kind.{Kind}
use Rattle.ft_bank.specs.Passes.{shape_of, view}
use Rattle.ft_bank.proofs.TableAddresses.{class_is}
use Rattle.ft_table_calls.specs.Dropping.{AreValuePlaces}
use Rattle.ft_whole_tables.proofs.Emptied.{Emptying, may_put_none, emptying_bare, emptying_commits, emptying_references, emptying_shut, emptying_stands, emptying_wrote, rooted_bare, table_named_held, table_out, table_settled}
use Rattle.ft_whole_tables.proofs.clearing.clear_table.Goals as goal
use Rattle.ft_whole_tables.proofs.clearing.clear_table.Goals.{After-put_no_counts}

pub put_root-requires-clause-may : goal.put_root-requires-clause-may
put_root-requires-clause-may c =
    let a = c.args in
    may_put_none (shape_of a.bank.now) a.o (view a.pass.now) (view c.start_write.new.pass) c.start_write.result c.requires.pass.1 a.pass.now.possible c.requires.may c.requires.used c.start_write.ensures.1

pub drop_values-requires-clause-out : goal.drop_values-requires-clause-out
drop_values-requires-clause-out c =
    table_out (shape_of c.args.bank.now) c.args.o c.args.table c.start_write.result (view c.args.pass.now) (view c.start_write.new.pass) (view c.put_root.new.pass) c.requires.pass.1 c.requires.may c.requires.table c.start_write.ensures.1 c.put_root.ensures.did.1 c.put_root.ensures.moves (rooted_bare (shape_of c.args.bank.now) c.args.o c.start_write.result (view c.args.pass.now) (view c.start_write.new.pass) (view c.put_root.new.pass) c.requires.may c.start_write.ensures.1 c.put_root.ensures.unboxed)

pub drop_values-requires-clause-places : goal.drop_values-requires-clause-places
drop_values-requires-clause-places c =
    let a = c.args in
    let is = class_is a.table c.requires.table.table_in.2 in
    subst (λ (z : Kind × ℕ). AreValuePlaces z.0 z.1 c.value_places-places.result) (λ i. (sym c.requires.kind i, sym is i)) c.value_places-places.ensures

pub drop_values-requires-clause-settled : goal.drop_values-requires-clause-settled
drop_values-requires-clause-settled c =
    table_settled (shape_of c.args.bank.now) c.args.o c.args.table c.start_write.result (view c.args.pass.now) (view c.start_write.new.pass) (view c.put_root.new.pass) c.requires.pass.1 c.requires.may c.requires.table c.start_write.ensures.1 c.put_root.ensures.did.1 c.put_root.ensures.moves (rooted_bare (shape_of c.args.bank.now) c.args.o c.start_write.result (view c.args.pass.now) (view c.start_write.new.pass) (view c.put_root.new.pass) c.requires.may c.start_write.ensures.1 c.put_root.ensures.unboxed)

pub drop_values-requires-clause-held : goal.drop_values-requires-clause-held
drop_values-requires-clause-held c =
    table_named_held (shape_of c.args.bank.now) c.args.o c.args.table c.start_write.result (view c.args.pass.now) (view c.start_write.new.pass) (view c.put_root.new.pass) c.requires.pass.1 c.requires.may c.requires.table c.start_write.ensures.1 c.put_root.ensures.did.1 c.put_root.ensures.moves (rooted_bare (shape_of c.args.bank.now) c.args.o c.start_write.result (view c.args.pass.now) (view c.start_write.new.pass) (view c.put_root.new.pass) c.requires.may c.start_write.ensures.1 c.put_root.ensures.unboxed)

emptying : (c : After-put_no_counts) → Emptying (shape_of c.args.bank.now) c.args.o c.args.table c.args.called.now c.start_write.result (view c.args.pass.now) (view c.start_write.new.pass) (view c.put_root.new.pass) (view c.drop_values.new.pass) (view c.put_no_counts.new.pass)
emptying c = record {
  may = c.requires.may;
  shape = c.requires.pass.1;
  possible = c.args.pass.now.possible;
  table_is = c.requires.table;
  leaves = c.requires.leaves;
  empties = c.requires.empties;
  started = c.start_write.ensures.1;
  rooted = c.put_root.ensures.did.1;
  root_held = c.put_root.ensures.unboxed;
  keeps = c.put_root.ensures.keeps;
  moves = c.put_root.ensures.moves;
  drops = c.drop_values.ensures.only;
  made = c.drop_values.ensures.made;
  dropped = c.drop_values.ensures.references;
  puts = c.put_no_counts.ensures.only;
  words = c.put_no_counts.ensures.words;
}

pub commit-number-requires-clause-may : goal.commit-number-requires-clause-may
commit-number-requires-clause-may c =
    emptying_commits (shape_of c.args.bank.now) c.args.o c.args.table c.args.called.now c.start_write.result (view c.args.pass.now) (view c.start_write.new.pass) (view c.put_root.new.pass) (view c.drop_values.new.pass) (view c.put_no_counts.new.pass) (emptying (goal.at.commit-number-requires-clause-may c).After-put_no_counts)

pub stop_write-requires-clause-stands : goal.stop_write-requires-clause-stands
stop_write-requires-clause-stands c =
    let n = c.commit-number in
    emptying_stands (shape_of c.args.bank.now) c.args.o c.args.table c.args.called.now c.start_write.result (view c.args.pass.now) (view c.start_write.new.pass) (view c.put_root.new.pass) (view c.drop_values.new.pass) (view c.put_no_counts.new.pass) (emptying (goal.at.stop_write-requires-clause-stands c).After-put_no_counts) n.result n.ensures.did.0 (view n.new.pass) n.ensures.did.1.1 n.ensures.committed

pub stop_write-requires-clause-shut : goal.stop_write-requires-clause-shut
stop_write-requires-clause-shut c =
    let n = c.commit-number in
    emptying_shut (shape_of c.args.bank.now) c.args.o c.args.table c.args.called.now c.start_write.result (view c.args.pass.now) (view c.start_write.new.pass) (view c.put_root.new.pass) (view c.drop_values.new.pass) (view c.put_no_counts.new.pass) (emptying (goal.at.stop_write-requires-clause-shut c).After-put_no_counts) n.result n.ensures.did.0 (view n.new.pass) n.ensures.did.1.1 n.ensures.committed

pub returns-clause-wrote : goal.returns-clause-wrote
returns-clause-wrote c =
    let n = c.commit-number in
    emptying_wrote (shape_of c.args.bank.now) c.args.o c.args.table c.args.called.now c.start_write.result (view c.args.pass.now) (view c.start_write.new.pass) (view c.put_root.new.pass) (view c.drop_values.new.pass) (view c.put_no_counts.new.pass) (emptying (goal.at.returns-clause-wrote c).After-put_no_counts) n.result n.ensures.did.0 (view n.new.pass) n.ensures.did.1.1 n.ensures.committed c.stop_write.result (view c.stop_write.new.pass) n.ensures.seen c.stop_write.ensures.1

pub returns-clause-references : goal.returns-clause-references
returns-clause-references c =
    let n = c.commit-number in
    emptying_references (shape_of c.args.bank.now) c.args.o c.args.table c.args.called.now c.start_write.result (view c.args.pass.now) (view c.start_write.new.pass) (view c.put_root.new.pass) (view c.drop_values.new.pass) (view c.put_no_counts.new.pass) (emptying (goal.at.returns-clause-references c).After-put_no_counts) n.result n.ensures.did.0 (view n.new.pass) n.ensures.did.1.1 n.ensures.committed c.stop_write.result (view c.stop_write.new.pass) n.ensures.seen c.stop_write.ensures.1

pub returns-clause-root : goal.returns-clause-root
returns-clause-root c =
    let n = c.commit-number in
    emptying_bare (shape_of c.args.bank.now) c.args.o c.args.table c.args.called.now c.start_write.result (view c.args.pass.now) (view c.start_write.new.pass) (view c.put_root.new.pass) (view c.drop_values.new.pass) (view c.put_no_counts.new.pass) (emptying (goal.at.returns-clause-root c).After-put_no_counts) n.result n.ensures.did.0 (view n.new.pass) n.ensures.did.1.1 n.ensures.committed c.stop_write.result (view c.stop_write.new.pass) n.ensures.seen c.stop_write.ensures.1
