use Rattle.std.proofs.Common.{ℕ, ◌≤◌, arith, sym, ap, ◌∙◌, subst}
use Rattle.ft_model.specs.declared.script.Kind.{Kind}
use Rattle.ft_trace.specs.declared.View.{View}
use Rattle.ft_trace.specs.Boxes.{references_held}
use Rattle.ft_trace.specs.Holds.{held_unboxed, held_words}
use Rattle.ft_trace.specs.Pictures.{root_in}
use Rattle.ft_bank.specs.Passes.{shape_of, view}
use Rattle.ft_bank.proofs.TableAddresses.{class_is}
use Rattle.ft_table_calls.specs.Dropping.{AreValuePlaces}
use Rattle.ft_replacing.proofs.Emptied.{Emptied, fresh_emptied}
use Rattle.ft_replacing.proofs.Swaps.{Swapping, committed_u, kept_rooted, may_put_none, may_put_table, odd_rooted, odd_u, old_few, old_settled, raised_held, raised_out, raw_u, root_u, shut_u, stands_u, swapping_commits, swapping_references, swapping_wrote}
use Rattle.ft_replacing.proofs.swapping.swap_table.Goals as goal
use Rattle.ft_replacing.proofs.swapping.swap_table.Goals.{After-drop_old, After-put_root, After-raise_values}

pub put_root-requires-clause-may : goal.put_root-requires-clause-may
put_root-requires-clause-may c =
    let a = c.args in
    may_put_none (shape_of a.bank.now) a.o a.old a.table (view a.pass.now) (view c.start_write.new.pass) c.start_write.result c.requires.pass.1 a.pass.now.possible c.requires.may c.start_write.ensures.1

emptied : (c : After-put_root) → Emptied (shape_of c.args.bank.now) c.args.o c.args.old c.args.table c.start_write.result (view c.args.pass.now) (view c.start_write.new.pass) (view c.put_root.new.pass)
emptied c = record {
  heads = c.words_are_of_one_content.ensures.head;
  may = c.requires.may;
  shape = c.requires.pass.1;
  possible = c.args.pass.now.possible;
  other = c.requires.other;
  named = c.requires.named;
  started = c.start_write.ensures.1;
  rooted = c.put_root.ensures.did.1;
  root_held = c.put_root.ensures.unboxed;
  moves = c.put_root.ensures.moves;
  keeps = c.put_root.ensures.keeps;
}

pub value_places-places-requires : goal.value_places-places-requires
value_places-places-requires c = record { class = c.requires.may.table_in.0 }

pub raise_values-requires-clause-fresh : goal.raise_values-requires-clause-fresh
raise_values-requires-clause-fresh c = fresh_emptied (shape_of c.args.bank.now) c.args.o c.args.old c.args.table c.start_write.result (view c.args.pass.now) (view c.start_write.new.pass) (view c.put_root.new.pass) (emptied (goal.at.raise_values-requires-clause-fresh c).After-put_root)

pub raise_values-requires-clause-places : goal.raise_values-requires-clause-places
raise_values-requires-clause-places c =
    let t = c.args.table in
    subst (λ (z : Kind × ℕ). AreValuePlaces z.0 z.1 c.value_places-places.result)
    (λ i. (sym c.requires.kind i, sym (class_is t c.requires.may.table_in.2) i)) c.value_places-places.ensures

pub raise_values-requires-clause-settled : goal.raise_values-requires-clause-settled
raise_values-requires-clause-settled c = old_settled c.words_are_of_one_content.ensures.head (shape_of c.args.bank.now) c.args.o c.args.old c.args.table c.start_write.result (view c.args.pass.now) (view c.start_write.new.pass) (view c.put_root.new.pass) c.requires.pass.1 c.requires.may c.start_write.ensures.1 c.put_root.ensures.did.1 c.put_root.ensures.unboxed c.put_root.ensures.moves

pub raise_values-requires-clause-few : goal.raise_values-requires-clause-few
raise_values-requires-clause-few c = old_few c.words_are_of_one_content.ensures.head (shape_of c.args.bank.now) c.args.o c.args.old c.args.table c.start_write.result (view c.args.pass.now) (view c.start_write.new.pass) (view c.put_root.new.pass) c.requires.pass.1 c.requires.may c.start_write.ensures.1 c.put_root.ensures.did.1 c.put_root.ensures.unboxed c.put_root.ensures.moves

pub raise_values-requires-clause-kept : goal.raise_values-requires-clause-kept
raise_values-requires-clause-kept c = kept_rooted (shape_of c.args.bank.now) c.args.o c.args.old c.args.table c.start_write.result (view c.args.pass.now) (view c.start_write.new.pass) (view c.put_root.new.pass) (emptied (goal.at.raise_values-requires-clause-kept c).After-put_root) c.put_root.new.pass.possible

-- the pass holds no fewer references then
more : (c : After-raise_values) → (b : ℕ) → references_held (shape_of c.args.bank.now) b (view c.put_root.new.pass).log ≤ references_held (shape_of c.args.bank.now) b (view c.raise_values.new.pass).log
more c b = let e = c.raise_values.ensures.references b in omega (arith, e)

pub drop_old-requires-clause-out : goal.drop_old-requires-clause-out
drop_old-requires-clause-out c = raised_out c.words_are_of_one_content.ensures.head (shape_of c.args.bank.now) c.args.o c.args.old c.args.table c.start_write.result (view c.args.pass.now) (view c.start_write.new.pass) (view c.put_root.new.pass) c.requires.pass.1 c.requires.may c.start_write.ensures.1 c.put_root.ensures.did.1 c.put_root.ensures.unboxed c.put_root.ensures.moves (view c.raise_values.new.pass) c.raise_values.ensures.only (more (goal.at.drop_old-requires-clause-out c).After-raise_values)

pub drop_old-requires-clause-settled : goal.drop_old-requires-clause-settled
drop_old-requires-clause-settled c = c.raise_values.ensures.stays.settled (old_settled c.words_are_of_one_content.ensures.head (shape_of c.args.bank.now) c.args.o c.args.old c.args.table c.start_write.result (view c.args.pass.now) (view c.start_write.new.pass) (view c.put_root.new.pass) c.requires.pass.1 c.requires.may c.start_write.ensures.1 c.put_root.ensures.did.1 c.put_root.ensures.unboxed c.put_root.ensures.moves)

pub drop_old-requires-clause-held : goal.drop_old-requires-clause-held
drop_old-requires-clause-held c = raised_held c.words_are_of_one_content.ensures.head (shape_of c.args.bank.now) c.args.o c.args.old c.args.table c.start_write.result (view c.args.pass.now) (view c.start_write.new.pass) (view c.put_root.new.pass) c.requires.pass.1 c.requires.may c.start_write.ensures.1 c.put_root.ensures.did.1 c.put_root.ensures.unboxed c.put_root.ensures.moves (view c.raise_values.new.pass) c.raise_values.ensures.only (more (goal.at.drop_old-requires-clause-held c).After-raise_values)

swapping : (c : After-drop_old) → Emptied (shape_of c.args.bank.now) c.args.o c.args.old c.args.table c.start_write.result (view c.args.pass.now) (view c.start_write.new.pass) (view c.put_root.new.pass) → Swapping (shape_of c.args.bank.now) c.args.o c.args.old c.args.table c.args.called.now c.requires.gets.0 c.start_write.result (view c.args.pass.now) (view c.start_write.new.pass) (view c.put_root.new.pass) (view c.raise_values.new.pass) (view c.drop_old.new.pass)
swapping c before = record {
  first_pair = c.used_entries_follow_a_dict.ensures.first;
  first_element = c.used_entries_follow_a_set.ensures.first;
  before = before;
  kind_is = c.requires.gets.1;
  filled = c.requires.gets.4;
  replaces = c.requires.gets.5;
  raises = c.raise_values.ensures.only;
  stays = c.raise_values.ensures.stays;
  gains = c.raise_values.ensures.gains;
  raised = c.raise_values.ensures.references;
  possible = c.put_root.new.pass.possible;
  raise_keeps = c.raise_values.ensures.values;
  drop_keeps = c.drop_old.ensures.values;
  drops = c.drop_old.ensures.only;
  made = c.drop_old.ensures.made;
  dropped = c.drop_old.ensures.references;
}

pub commit-number-requires-clause-may : goal.commit-number-requires-clause-may
commit-number-requires-clause-may c =
    swapping_commits (shape_of c.args.bank.now) c.args.o c.args.old c.args.table c.args.called.now c.requires.gets.0 c.start_write.result (view c.args.pass.now) (view c.start_write.new.pass) (view c.put_root.new.pass) (view c.raise_values.new.pass) (view c.drop_old.new.pass) (swapping (goal.at.commit-number-requires-clause-may c).After-drop_old (emptied (goal.at.commit-number-requires-clause-may c).After-put_root))

pub put_root-requires-2-clause-may : goal.put_root-requires-2-clause-may
put_root-requires-2-clause-may c =
    let n = c.commit-number in
    may_put_table (shape_of c.args.bank.now) c.args.o c.args.old c.args.table c.args.called.now c.requires.gets.0 c.start_write.result (view c.args.pass.now) (view c.start_write.new.pass) (view c.put_root.new.pass) (view c.raise_values.new.pass) (view c.drop_old.new.pass) (swapping (goal.at.put_root-requires-2-clause-may c).After-drop_old (emptied (goal.at.put_root-requires-2-clause-may c).After-put_root)) n.result n.ensures.did.0 (view n.new.pass) n.ensures.did.1.1 n.ensures.committed n.new.pass.possible

pub put_counts-requires-clause-odd : goal.put_counts-requires-clause-odd
put_counts-requires-clause-odd c =
    let n = c.commit-number in
    odd_rooted (shape_of c.args.bank.now) c.args.o c.args.old c.args.table c.args.called.now c.requires.gets.0 c.start_write.result (view c.args.pass.now) (view c.start_write.new.pass) (view c.put_root.new.pass) (view c.raise_values.new.pass) (view c.drop_old.new.pass) (swapping (goal.at.put_counts-requires-clause-odd c).After-drop_old (emptied (goal.at.put_counts-requires-clause-odd c).After-put_root)) n.result n.ensures.did.0 (view n.new.pass) n.ensures.did.1.1 n.ensures.committed (view c.put_root-2.new.pass) c.put_root-2.ensures.did.1

pub stop_write-requires-clause-odd : goal.stop_write-requires-clause-odd
stop_write-requires-clause-odd c =
    let n = c.commit-number in
    odd_u (shape_of c.args.bank.now) c.args.o c.args.old c.args.table c.args.called.now c.requires.gets.0 c.start_write.result (view c.args.pass.now) (view c.start_write.new.pass) (view c.put_root.new.pass) (view c.raise_values.new.pass) (view c.drop_old.new.pass) (swapping (goal.at.stop_write-requires-clause-odd c).After-drop_old (emptied (goal.at.stop_write-requires-clause-odd c).After-put_root)) n.result n.ensures.did.0 (view n.new.pass) n.ensures.did.1.1 n.ensures.committed (view c.put_root-2.new.pass) (view c.put_counts.new.pass) c.put_root-2.ensures.did.1 c.put_root-2.ensures.unboxed c.put_root-2.ensures.held c.put_counts.ensures.only c.args.count c.args.next c.requires.gets.2 c.requires.gets.3 c.put_counts.ensures.words c.put_counts.ensures.raw

pub stop_write-requires-clause-committed : goal.stop_write-requires-clause-committed
stop_write-requires-clause-committed c =
    let n = c.commit-number in
    committed_u (shape_of c.args.bank.now) c.args.o c.args.old c.args.table c.args.called.now c.requires.gets.0 c.start_write.result (view c.args.pass.now) (view c.start_write.new.pass) (view c.put_root.new.pass) (view c.raise_values.new.pass) (view c.drop_old.new.pass) (swapping (goal.at.stop_write-requires-clause-committed c).After-drop_old (emptied (goal.at.stop_write-requires-clause-committed c).After-put_root)) n.result n.ensures.did.0 (view n.new.pass) n.ensures.did.1.1 n.ensures.committed (view c.put_root-2.new.pass) (view c.put_counts.new.pass) c.put_root-2.ensures.did.1 c.put_root-2.ensures.unboxed c.put_root-2.ensures.held c.put_counts.ensures.only c.args.count c.args.next c.requires.gets.2 c.requires.gets.3 c.put_counts.ensures.words c.put_counts.ensures.raw

pub stop_write-requires-clause-stands : goal.stop_write-requires-clause-stands
stop_write-requires-clause-stands c =
    let n = c.commit-number in
    stands_u (shape_of c.args.bank.now) c.args.o c.args.old c.args.table c.args.called.now c.requires.gets.0 c.start_write.result (view c.args.pass.now) (view c.start_write.new.pass) (view c.put_root.new.pass) (view c.raise_values.new.pass) (view c.drop_old.new.pass) (swapping (goal.at.stop_write-requires-clause-stands c).After-drop_old (emptied (goal.at.stop_write-requires-clause-stands c).After-put_root)) n.result n.ensures.did.0 (view n.new.pass) n.ensures.did.1.1 n.ensures.committed (view c.put_root-2.new.pass) (view c.put_counts.new.pass) c.put_root-2.ensures.did.1 c.put_root-2.ensures.unboxed c.put_root-2.ensures.held c.put_counts.ensures.only c.args.count c.args.next c.requires.gets.2 c.requires.gets.3 c.put_counts.ensures.words c.put_counts.ensures.raw

pub stop_write-requires-clause-shut : goal.stop_write-requires-clause-shut
stop_write-requires-clause-shut c =
    let n = c.commit-number in
    shut_u (shape_of c.args.bank.now) c.args.o c.args.old c.args.table c.args.called.now c.requires.gets.0 c.start_write.result (view c.args.pass.now) (view c.start_write.new.pass) (view c.put_root.new.pass) (view c.raise_values.new.pass) (view c.drop_old.new.pass) (swapping (goal.at.stop_write-requires-clause-shut c).After-drop_old (emptied (goal.at.stop_write-requires-clause-shut c).After-put_root)) n.result n.ensures.did.0 (view n.new.pass) n.ensures.did.1.1 n.ensures.committed (view c.put_root-2.new.pass) (view c.put_counts.new.pass) c.put_root-2.ensures.did.1 c.put_root-2.ensures.unboxed c.put_root-2.ensures.held c.put_counts.ensures.only c.args.count c.args.next c.requires.gets.2 c.requires.gets.3 c.put_counts.ensures.words c.put_counts.ensures.raw

pub returns-clause-wrote : goal.returns-clause-wrote
returns-clause-wrote c =
    let n = c.commit-number in
    swapping_wrote (shape_of c.args.bank.now) c.args.o c.args.old c.args.table c.args.called.now c.requires.gets.0 c.start_write.result (view c.args.pass.now) (view c.start_write.new.pass) (view c.put_root.new.pass) (view c.raise_values.new.pass) (view c.drop_old.new.pass) (swapping (goal.at.returns-clause-wrote c).After-drop_old (emptied (goal.at.returns-clause-wrote c).After-put_root)) n.result n.ensures.did.0 (view n.new.pass) n.ensures.did.1.1 n.ensures.committed (view c.put_root-2.new.pass) (view c.put_counts.new.pass) c.put_root-2.ensures.did.1 c.put_root-2.ensures.unboxed c.put_root-2.ensures.held c.put_counts.ensures.only c.args.count c.args.next c.requires.gets.2 c.requires.gets.3 c.put_counts.ensures.words c.put_counts.ensures.raw c.stop_write.result (view c.stop_write.new.pass) c.put_root.ensures.keeps c.put_root-2.ensures.keeps c.put_root-2.ensures.moves n.ensures.seen c.stop_write.ensures.1

pub returns-clause-references : goal.returns-clause-references
returns-clause-references c =
    let n = c.commit-number in
    swapping_references (shape_of c.args.bank.now) c.args.o c.args.old c.args.table c.args.called.now c.requires.gets.0 c.start_write.result (view c.args.pass.now) (view c.start_write.new.pass) (view c.put_root.new.pass) (view c.raise_values.new.pass) (view c.drop_old.new.pass) (swapping (goal.at.returns-clause-references c).After-drop_old (emptied (goal.at.returns-clause-references c).After-put_root)) n.result n.ensures.did.0 (view n.new.pass) n.ensures.did.1.1 n.ensures.committed (view c.put_root-2.new.pass) (view c.put_counts.new.pass) c.put_root-2.ensures.did.1 c.put_root-2.ensures.unboxed c.put_root-2.ensures.held c.put_counts.ensures.only c.args.count c.args.next c.requires.gets.2 c.requires.gets.3 c.put_counts.ensures.words c.put_counts.ensures.raw c.stop_write.result (view c.stop_write.new.pass) c.put_root.ensures.keeps c.put_root-2.ensures.keeps c.put_root-2.ensures.moves n.ensures.seen c.stop_write.ensures.1

pub returns-clause-root : goal.returns-clause-root
returns-clause-root c =
    let n = c.commit-number in
    ap (λ (z : View). root_in (held_unboxed c.args.o z)) c.stop_write.ensures.1 ∙ root_u (shape_of c.args.bank.now) c.args.o c.args.old c.args.table c.args.called.now c.requires.gets.0 c.start_write.result (view c.args.pass.now) (view c.start_write.new.pass) (view c.put_root.new.pass) (view c.raise_values.new.pass) (view c.drop_old.new.pass) (swapping (goal.at.returns-clause-root c).After-drop_old (emptied (goal.at.returns-clause-root c).After-put_root)) n.result n.ensures.did.0 (view n.new.pass) n.ensures.did.1.1 n.ensures.committed (view c.put_root-2.new.pass) (view c.put_counts.new.pass) c.put_root-2.ensures.did.1 c.put_root-2.ensures.unboxed c.put_root-2.ensures.held c.put_counts.ensures.only c.args.count c.args.next c.requires.gets.2 c.requires.gets.3 c.put_counts.ensures.words c.put_counts.ensures.raw

pub returns-clause-raw : goal.returns-clause-raw
returns-clause-raw c =
    let n = c.commit-number in
    ap (λ (z : View). (held_words c.args.o z).table) c.stop_write.ensures.1 ∙ raw_u (shape_of c.args.bank.now) c.args.o c.args.old c.args.table c.args.called.now c.requires.gets.0 c.start_write.result (view c.args.pass.now) (view c.start_write.new.pass) (view c.put_root.new.pass) (view c.raise_values.new.pass) (view c.drop_old.new.pass) (swapping (goal.at.returns-clause-raw c).After-drop_old (emptied (goal.at.returns-clause-raw c).After-put_root)) n.result n.ensures.did.0 (view n.new.pass) n.ensures.did.1.1 n.ensures.committed (view c.put_root-2.new.pass) (view c.put_counts.new.pass) c.put_root-2.ensures.did.1 c.put_root-2.ensures.unboxed c.put_root-2.ensures.held c.put_counts.ensures.only c.args.count c.args.next c.requires.gets.2 c.requires.gets.3 c.put_counts.ensures.words c.put_counts.ensures.raw
