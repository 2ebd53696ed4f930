use Rattle.std.proofs.Common.{◌≡◌, ◌≢◌, ◌<◌, false, sym, ap, ◌∙◌, subst}
use Rattle.std.specs.Prelude.{slice_index}
use Rattle.ft_model.specs.declared.script.Kind.{Kind}
use Rattle.ft_trace.specs.declared.View.{View}
use Rattle.ft_trace.specs.Acts.{has_committed}
use Rattle.ft_trace.specs.Boxes.{references_held}
use Rattle.ft_trace.specs.Addresses.{class_of, slots}
use Rattle.ft_trace.specs.Pictures.{entry_field}
use Rattle.ft_trace.specs.Holds.{held_unboxed, known_state}
use Rattle.ft_trace.specs.ContainerStates.{kind_in}
use Rattle.ft_trace.specs.WholeWrites.{MayPuts, with_puts}
use Rattle.ft_trace.proofs.Cases.{hit}
use Rattle.ft_bank.specs.Passes.{shape_of, view}
use Rattle.ft_bank.specs.TableNames.{table_id}
use Rattle.ft_search.specs.OneEntryWrites.{deletion, without_key}
use Rattle.ft_search.proofs.Changing.{Changing, kind_is}
use Rattle.ft_search.proofs.Deletions.{deletes_known}
use Rattle.ft_search.proofs.ReadyCommits.{begins_entries, stores_none, entry_finishes, whole_root, whole_write, writes_begun}
use Rattle.ft_search.proofs.Laws.{DictLaws, SetLaws}
use Rattle.ft_search.proofs.deleting.delete_entry.Goals as goal
use Rattle.ft_search.proofs.deleting.delete_entry.Goals.{After-start_write}

dicts : After-start_write → DictLaws
dicts c =
    let laws = c.versions_change_nothing.ensures in
    record {
      versions = λ walk room texts mask used words place version within table. laws.entries walk room texts mask used words _ within (laws.entry mask words place version) table;
      first = c.used_entries_follow_a_dict.ensures.first;
      lives = c.used_entries_follow_a_dict.ensures.live;
      shrinks = c.used_entries_follow_a_dict.ensures.deleted;
      deletes = c.words_follow_a_dict.ensures.deleted;
    }

sets : After-start_write → SetLaws
sets c =
    let laws = c.versions_change_nothing.ensures in
    record {
      versions = λ walk room texts mask used words place version within table. laws.entries walk room texts mask used words _ within (laws.entry mask words place version) table;
      first = c.used_entries_follow_a_set.ensures.first;
      lives = c.used_entries_follow_a_set.ensures.live;
      shrinks = c.used_entries_follow_a_set.ensures.deleted;
      deletes = c.words_follow_a_set.ensures.deleted;
    }

change : (c : After-start_write) → Changing (shape_of c.args.bank.now).texts (table_id c.args.table) (held_unboxed c.args.o (view c.args.pass.now)) (known_state c.args.o (view c.args.pass.now)) c.args.place (deletion (table_id c.args.table) c.args.place c.args.key (held_unboxed c.args.o (view c.args.pass.now)))
    (record { content = without_key (known_state c.args.o (view c.args.pass.now)).content c.args.key; table = (known_state c.args.o (view c.args.pass.now)).table })
    × (0 < slice_index (held_unboxed c.args.o (view c.args.pass.now)).block 1)
    × (entry_field (slots (class_of (table_id c.args.table))) (held_unboxed c.args.o (view c.args.pass.now)).table c.args.place 4 ≢ 4)
change c = deletes_known (dicts c) (sets c) (shape_of c.args.bank.now) c.args.o c.args.table (view c.args.pass.now) c.requires.pass.1 c.args.pass.now.possible c.requires.may c.requires.table c.args.place c.args.key c.requires.entry

pub put_deleted-requires-clause-writes : goal.put_deleted-requires-clause-writes
put_deleted-requires-clause-writes c =
    let a = c.args in
    writes_begun (shape_of a.bank.now) a.o a.table (view a.pass.now) (view c.start_write.new.pass) c.start_write.result c.requires.pass.1 c.start_write.ensures.1 c.requires.may c.requires.table

pub put_deleted-requires-clause-place : goal.put_deleted-requires-clause-place
put_deleted-requires-clause-place c = c.requires.entry.low

pub put_deleted-requires-clause-early : goal.put_deleted-requires-clause-early
put_deleted-requires-clause-early c =
    let a = c.args in
    ap (λ (z : View). has_committed a.o z.log) c.start_write.ensures.1 ∙ hit a.o false (has_committed a.o (view a.pass.now).log)

pub put_deleted-requires-clause-some : goal.put_deleted-requires-clause-some
put_deleted-requires-clause-some c =
    let a = c.args in
    subst (λ (z : View). 0 < slice_index (held_unboxed a.o z).block 1) (sym c.start_write.ensures.1) (change (goal.at.put_deleted-requires-clause-some c).After-start_write).1

pub put_deleted-requires-clause-plain : goal.put_deleted-requires-clause-plain
put_deleted-requires-clause-plain c =
    let a = c.args in
    subst (λ (z : View). entry_field (slots (class_of (table_id a.table))) (held_unboxed a.o z).table a.place 4 ≢ 4) (sym c.start_write.ensures.1) (change (goal.at.put_deleted-requires-clause-plain c).After-start_write).2

pub put_deleted-requires-clause-may : goal.put_deleted-requires-clause-may
put_deleted-requires-clause-may c =
    let a = c.args in
    let k = shape_of a.bank.now in
    let v = view a.pass.now in
    let kind_eq = kind_is k v a.o c.requires.pass.1 a.pass.now.possible c.requires.may.locked in
    let puts = (change (goal.at.put_deleted-requires-clause-may c).After-start_write).0.puts in
    subst (λ (z : View). MayPuts (kind_in k.starts a.o) (table_id a.table) (known_state a.o z).content false (held_unboxed a.o z) (deletion (table_id a.table) a.place a.key (held_unboxed a.o z))) (sym c.start_write.ensures.1)
    (subst (λ (z : Kind). MayPuts z (table_id a.table) (known_state a.o v).content false (held_unboxed a.o v) (deletion (table_id a.table) a.place a.key (held_unboxed a.o v))) kind_eq puts)

pub finish_entry-requires-clause-place : goal.finish_entry-requires-clause-place
finish_entry-requires-clause-place c = c.requires.entry.low

pub finish_entry-requires-clause-may : goal.finish_entry-requires-clause-may
finish_entry-requires-clause-may c =
    let a = c.args in
    let k = shape_of a.bank.now in
    let v = view a.pass.now in
    let e = c.put_deleted.ensures in
    let d = change (goal.at.finish_entry-requires-clause-may c).After-start_write in
    let before : held_unboxed a.o (view c.start_write.new.pass) ≡ held_unboxed a.o v = ap (held_unboxed a.o) c.start_write.ensures.1 in
    entry_finishes k a.o a.table v (view c.start_write.new.pass) (view c.put_deleted.new.pass) c.start_write.result (begins_entries k a.o v c.requires.pass.1 c.requires.may) c.requires.pass.1 c.start_write.ensures.1 e.only a.place (deletion (table_id a.table) a.place a.key (held_unboxed a.o v)) _ d.0
    (kind_is k v a.o c.requires.pass.1 a.pass.now.possible c.requires.may.locked)
    (e.words ∙ (λ i. with_puts (before i) (deletion (table_id a.table) a.place a.key (before i)))) e.writes.root a.called.now a.said.now c.requires.leaves
    (λ stored has. stores_none a.o v (view c.start_write.new.pass) (view c.put_deleted.new.pass) c.start_write.result c.start_write.ensures.1 e.only c.requires.may.boxes.stored a.called.now stored)

pub returns-clause-wrote : goal.returns-clause-wrote
returns-clause-wrote c =
    let a = c.args in
    whole_write a.o (view a.pass.now) (view c.start_write.new.pass) (view c.put_deleted.new.pass) c.start_write.result c.start_write.ensures.1 c.put_deleted.ensures.only a.called.now a.said.now c.finish_entry.result (view c.finish_entry.new.pass) c.requires.leaves.changed (c.requires.may.even a.o) c.finish_entry.ensures.ends (c.put_deleted.ensures.writes.root ∙ sym c.requires.table.root)

pub returns-clause-root : goal.returns-clause-root
returns-clause-root c =
    let a = c.args in
    whole_root a.o (view a.pass.now) (view c.start_write.new.pass) (view c.put_deleted.new.pass) c.start_write.result c.start_write.ensures.1 c.put_deleted.ensures.only a.called.now a.said.now c.finish_entry.result (view c.finish_entry.new.pass) c.requires.leaves.changed c.finish_entry.ensures.ends (c.put_deleted.ensures.writes.root ∙ sym c.requires.table.root)

pub returns-clause-references : goal.returns-clause-references
returns-clause-references c b =
    c.finish_entry.ensures.references b ∙ (c.put_deleted.ensures.references b ∙ ap (λ (z : View). references_held z.shape b z.log) c.start_write.ensures.1)
