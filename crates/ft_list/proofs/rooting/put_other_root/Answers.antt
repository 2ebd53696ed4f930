use Rattle.std.proofs.Common.{◌≡◌, ℕ, sym, ap, ◌∙◌, subst}
use Rattle.ft_model.specs.declared.script.Kind.{Kind}
use Rattle.ft_trace.specs.declared.View.{View}
use Rattle.ft_trace.specs.Holds.{held_words, held_unboxed}
use Rattle.ft_trace.specs.Pictures.{root_in}
use Rattle.ft_bank.specs.Passes.{shape_of, view}
use Rattle.ft_bank.specs.SameBoxes.{MovesReferences}
use Rattle.ft_bank.specs.TableNames.{table_id, root_for}
use Rattle.ft_bank.specs.WriteSteps.{MayPutRoot, KeepsUnwritten, with_unboxed_root}
use Rattle.ft_bank.proofs.TableAddresses.{class_is, named}
use Rattle.ft_table_calls.specs.Dropping.{AreValuePlaces}
use Rattle.ft_list.proofs.Rooted.{dropped_only, dropped_reads, dropped_same, dropped_settled, old_held, old_out, put_is, put_same, put_settled, start_reads}
use Rattle.ft_list.proofs.Written.{written_same}
use Rattle.ft_trace.specs.Acts.{view_after}
use Rattle.ft_trace.specs.declared.Act.TheVariants.{PutRoot, StartWrite}
use Rattle.ft_list.proofs.rooting.put_other_root.Goals as goal
use Rattle.ft_list.proofs.rooting.put_other_root.Goals.{After-put_root}

pub put_root-requires-clause-may : goal.put_root-requires-clause-may
put_root-requires-clause-may c = subst (λ (z : View). MayPutRoot z c.args.o c.args.root) (sym c.start_write.ensures.1) (c.requires.may c.start_write.result)

-- the put as one of the view before
module _ (c : After-put_root) where
  rooted_is : view c.put_root.new.pass ≡ view_after (PutRoot c.args.o (root_for c.args.root) (root_in (held_words c.args.o (view c.args.pass.now)))) (view_after (StartWrite c.args.o c.start_write.result) (view c.args.pass.now))
  rooted_is = put_is (shape_of c.args.bank.now) c.args.o c.args.old c.args.root (view c.args.pass.now) (view c.start_write.new.pass) (view c.put_root.new.pass) c.start_write.result c.requires.pass.1 c.requires.list c.requires.settled c.start_write.ensures.1 c.put_root.ensures.did.1 c.put_root.ensures.held c.put_root.ensures.moves

  keeps_is : KeepsUnwritten (view_after (StartWrite c.args.o c.start_write.result) (view c.args.pass.now)) (view c.put_root.new.pass)
  keeps_is = subst (λ (z : View). KeepsUnwritten z (view c.put_root.new.pass)) c.start_write.ensures.1 c.put_root.ensures.keeps

  moves_is : MovesReferences c.args.o (view_after (StartWrite c.args.o c.start_write.result) (view c.args.pass.now)) (view c.put_root.new.pass)
  moves_is = subst (λ (z : View). MovesReferences c.args.o z (view c.put_root.new.pass)) c.start_write.ensures.1 c.put_root.ensures.moves

  -- what the words read then
  reads_is : held_unboxed c.args.o (view c.put_root.new.pass) ≡ with_unboxed_root (held_unboxed c.args.o (view c.args.pass.now)) c.args.o c.args.root (view c.args.pass.now)
  reads_is =
      c.put_root.ensures.unboxed
      ∙ (ap (λ (z : View). with_unboxed_root (held_unboxed c.args.o z) c.args.o c.args.root z) c.start_write.ensures.1
      ∙ start_reads c.args.o c.start_write.result (view c.args.pass.now) c.args.root)

-- ---- a list that had a table

pub item_places-requires : goal.item_places-requires
item_places-requires c = (c.requires.list.table_in c.in-Some.table c.in-Some.is).0

pub drop_values-requires-clause-table : goal.drop_values-requires-clause-table
drop_values-requires-clause-table c = c.requires.list.table_in c.in-Some.table c.in-Some.is

pub drop_values-requires-clause-out : goal.drop_values-requires-clause-out
drop_values-requires-clause-out c = old_out (shape_of c.args.bank.now) c.args.o c.args.old c.args.root (view c.args.pass.now) (view c.start_write.new.pass) (view c.put_root.new.pass) c.start_write.result c.requires.pass.1 c.requires.list c.requires.settled c.start_write.ensures.1 c.put_root.ensures.did.1 c.put_root.ensures.held c.put_root.ensures.moves c.requires.plain (table_id c.in-Some.table) (c.requires.list.root ∙ ap root_for c.in-Some.is) (named (shape_of c.args.bank.now) c.in-Some.table (c.requires.list.table_in c.in-Some.table c.in-Some.is)) (λ e. c.requires.other (ap root_for c.in-Some.is ∙ e))

pub drop_values-requires-clause-places : goal.drop_values-requires-clause-places
drop_values-requires-clause-places c =
    let t_in = c.requires.list.table_in c.in-Some.table c.in-Some.is in
    subst (λ (z : Kind × ℕ). AreValuePlaces z.0 z.1 c.item_places.result) (λ d. (sym c.requires.list.kind d, sym (class_is c.in-Some.table t_in.2) d)) c.item_places.ensures

pub drop_values-requires-clause-settled : goal.drop_values-requires-clause-settled
drop_values-requires-clause-settled c = put_settled (shape_of c.args.bank.now) c.args.o c.args.old c.args.root (view c.args.pass.now) (view c.start_write.new.pass) (view c.put_root.new.pass) c.start_write.result c.requires.pass.1 c.requires.list c.requires.settled c.start_write.ensures.1 c.put_root.ensures.did.1 c.put_root.ensures.held c.put_root.ensures.moves

pub drop_values-requires-clause-held : goal.drop_values-requires-clause-held
drop_values-requires-clause-held c = old_held (shape_of c.args.bank.now) c.args.o c.args.old c.args.root (view c.args.pass.now) (view c.start_write.new.pass) (view c.put_root.new.pass) c.start_write.result c.requires.pass.1 c.requires.list c.requires.settled c.start_write.ensures.1 c.put_root.ensures.did.1 c.put_root.ensures.held c.put_root.ensures.moves c.requires.plain (table_id c.in-Some.table) (c.requires.list.root ∙ ap root_for c.in-Some.is) (named (shape_of c.args.bank.now) c.in-Some.table (c.requires.list.table_in c.in-Some.table c.in-Some.is)) (λ e. c.requires.other (ap root_for c.in-Some.is ∙ e))

pub returns-in-Some-clause-rooted : goal.returns-in-Some-clause-rooted
returns-in-Some-clause-rooted c =
    let d = (goal.at.returns-in-Some-clause-rooted c).After-put_root in
    record {
      start = c.start_write.result;
      rooted = view c.put_root.new.pass;
      did = rooted_is d;
      keeps = keeps_is d;
      moves = moves_is d;
      only = dropped_only (shape_of c.args.bank.now) c.args.o c.args.old c.args.root (view c.args.pass.now) (view c.start_write.new.pass) (view c.put_root.new.pass) c.start_write.result c.requires.pass.1 c.requires.list c.requires.settled c.start_write.ensures.1 c.put_root.ensures.did.1 c.put_root.ensures.held c.put_root.ensures.moves c.requires.plain (table_id c.in-Some.table) (c.requires.list.root ∙ ap root_for c.in-Some.is) (named (shape_of c.args.bank.now) c.in-Some.table (c.requires.list.table_in c.in-Some.table c.in-Some.is)) (λ e. c.requires.other (ap root_for c.in-Some.is ∙ e)) (view c.drop_values.new.pass) c.drop_values.ensures.only c.drop_values.ensures.made c.drop_values.ensures.references;
    }

pub returns-in-Some-clause-settled : goal.returns-in-Some-clause-settled
returns-in-Some-clause-settled c = dropped_settled (shape_of c.args.bank.now) c.args.o c.args.old c.args.root (view c.args.pass.now) (view c.start_write.new.pass) (view c.put_root.new.pass) c.start_write.result c.requires.pass.1 c.requires.list c.requires.settled c.start_write.ensures.1 c.put_root.ensures.did.1 c.put_root.ensures.held c.put_root.ensures.moves c.requires.plain (table_id c.in-Some.table) (c.requires.list.root ∙ ap root_for c.in-Some.is) (named (shape_of c.args.bank.now) c.in-Some.table (c.requires.list.table_in c.in-Some.table c.in-Some.is)) (λ e. c.requires.other (ap root_for c.in-Some.is ∙ e)) (view c.drop_values.new.pass) c.drop_values.ensures.only c.drop_values.ensures.made c.drop_values.ensures.references

pub returns-in-Some-clause-references : goal.returns-in-Some-clause-references
returns-in-Some-clause-references c = dropped_same (shape_of c.args.bank.now) c.args.o c.args.old c.args.root (view c.args.pass.now) (view c.start_write.new.pass) (view c.put_root.new.pass) c.start_write.result c.requires.pass.1 c.requires.list c.requires.settled c.start_write.ensures.1 c.put_root.ensures.did.1 c.put_root.ensures.held c.put_root.ensures.moves c.requires.plain (table_id c.in-Some.table) (c.requires.list.root ∙ ap root_for c.in-Some.is) (named (shape_of c.args.bank.now) c.in-Some.table (c.requires.list.table_in c.in-Some.table c.in-Some.is)) (λ e. c.requires.other (ap root_for c.in-Some.is ∙ e)) (view c.drop_values.new.pass) c.drop_values.ensures.only c.drop_values.ensures.made c.drop_values.ensures.references

pub returns-in-Some-clause-words : goal.returns-in-Some-clause-words
returns-in-Some-clause-words c = dropped_reads (shape_of c.args.bank.now) c.args.o c.args.old c.args.root (view c.args.pass.now) (view c.start_write.new.pass) (view c.put_root.new.pass) c.start_write.result c.requires.pass.1 c.requires.list c.requires.settled c.start_write.ensures.1 c.put_root.ensures.did.1 c.put_root.ensures.held c.put_root.ensures.moves c.requires.plain (table_id c.in-Some.table) (c.requires.list.root ∙ ap root_for c.in-Some.is) (named (shape_of c.args.bank.now) c.in-Some.table (c.requires.list.table_in c.in-Some.table c.in-Some.is)) (λ e. c.requires.other (ap root_for c.in-Some.is ∙ e)) (view c.drop_values.new.pass) c.drop_values.ensures.only c.drop_values.ensures.made c.drop_values.ensures.references ∙ reads_is (goal.at.returns-in-Some-clause-words c).After-put_root

-- ---- one that had none

pub returns-in-None-clause-rooted : goal.returns-in-None-clause-rooted
returns-in-None-clause-rooted c =
    let d = (goal.at.returns-in-None-clause-rooted c).After-put_root in
    record {
      start = c.start_write.result;
      rooted = view c.put_root.new.pass;
      did = rooted_is d;
      keeps = keeps_is d;
      moves = moves_is d;
      only = written_same c.args.o (view c.put_root.new.pass);
    }

pub returns-in-None-clause-settled : goal.returns-in-None-clause-settled
returns-in-None-clause-settled c = put_settled (shape_of c.args.bank.now) c.args.o c.args.old c.args.root (view c.args.pass.now) (view c.start_write.new.pass) (view c.put_root.new.pass) c.start_write.result c.requires.pass.1 c.requires.list c.requires.settled c.start_write.ensures.1 c.put_root.ensures.did.1 c.put_root.ensures.held c.put_root.ensures.moves

pub returns-in-None-clause-references : goal.returns-in-None-clause-references
returns-in-None-clause-references c = put_same (shape_of c.args.bank.now) c.args.o c.args.old c.args.root (view c.args.pass.now) (view c.start_write.new.pass) (view c.put_root.new.pass) c.start_write.result c.requires.pass.1 c.requires.list c.requires.settled c.start_write.ensures.1 c.put_root.ensures.did.1 c.put_root.ensures.held c.put_root.ensures.moves c.requires.plain (c.requires.list.root ∙ ap root_for c.in-None.is)

pub returns-in-None-clause-words : goal.returns-in-None-clause-words
returns-in-None-clause-words c = reads_is (goal.at.returns-in-None-clause-words c).After-put_root
