use Rattle.std.proofs.Common.{◌≡◌, None, false, sym, ap, ◌∙◌, subst, true≢false}
use Rattle.ft_model.specs.declared.script.Kind.{Kind}
use Rattle.ft_model.specs.declared.script.Start.{Start}
use Rattle.std.specs.Prelude.{List}
use Rattle.ft_trace.specs.declared.View.{View}
use Rattle.ft_trace.specs.Acts.{has_committed}
use Rattle.ft_trace.specs.Addresses.{class_of, slots}
use Rattle.ft_trace.specs.EntryWrites.{value_puts}
use Rattle.ft_trace.specs.Holds.{held_unboxed, known_state}
use Rattle.ft_trace.specs.Pictures.{entry_field}
use Rattle.ft_trace.specs.ContainerStates.{kind_in}
use Rattle.ft_trace.specs.WholeWrites.{MayPuts}
use Rattle.ft_trace.proofs.Cases.{hit}
use Rattle.ft_trace.proofs.Tellings.{equal_both}
use Rattle.ft_bank.specs.Passes.{shape_of, view}
use Rattle.ft_bank.specs.TableNames.{table_id}
use Rattle.ft_layout.specs.declared.slot.Stored.TheVariants.{Plain}
use Rattle.ft_layout.specs.Words.{FitsStored, stored_kind, stored_payload}
use Rattle.ft_search.specs.OneEntryWrites.{with_value_at}
use Rattle.ft_search.proofs.Changing.{Changing, kind_is}
use Rattle.ft_search.proofs.OtherValues.{ValueLaws, values_known}
use Rattle.ft_search.proofs.ReadyCommits.{writes_begun}
use Rattle.ft_dict_tests.proofs.writing.open.Goals as goal
use Rattle.ft_dict_tests.proofs.writing.open.Goals.{After-start_write, After-words_follow_a_dict}

laws_here : After-words_follow_a_dict → ValueLaws
laws_here c =
    let laws = c.versions_change_nothing.ensures in
    record {
      versions = λ walk room texts mask used words place version within table. laws.entries walk room texts mask used words _ within (laws.entry mask words place version) table;
      first = c.used_entries_follow_a_dict.ensures.first;
      lives = c.used_entries_follow_a_dict.ensures.live;
      follow = c.words_follow_a_dict.ensures.changed;
    }

change : (w : After-words_follow_a_dict) → (c : After-start_write) → FitsStored (Plain c.args.value) → Changing (shape_of c.args.bank.now).texts (table_id c.args.at.0) (held_unboxed 0 (view c.args.writer.now)) (known_state 0 (view c.args.writer.now)) c.args.at.1 (value_puts (slots (class_of (table_id c.args.at.0))) (held_unboxed 0 (view c.args.writer.now)).table c.args.at.1 None c.args.value)
    (record { content = with_value_at (known_state 0 (view c.args.writer.now)).content c.args.key c.args.value; table = (known_state 0 (view c.args.writer.now)).table })
change w c fits =
    let a = c.args in
    (values_known (laws_here w) (shape_of a.bank.now) 0 a.at.0 (view a.writer.now) c.requires.pass.1 a.writer.now.possible c.requires.may (ap (λ (z : List Start). kind_in z 0) c.requires.dicts) c.requires.table a.at.1 a.key a.value fits c.requires.entry).0
    (λ says.
    let yes = equal_both a.old.0 (stored_kind (Plain a.value)) a.old.1 (stored_payload (Plain a.value)) (c.requires.old_kind ∙ says.0) (c.requires.old_payload ∙ says.1) in
    true≢false (sym yes ∙ (sym c.says_value.ensures ∙ c.if-says_value.false)))

pub put_value-requires-clause-writes : goal.put_value-requires-clause-writes
put_value-requires-clause-writes c =
    let a = c.args in
    writes_begun (shape_of a.bank.now) 0 a.at.0 (view a.writer.now) (view c.start_write.new.pass) c.start_write.result c.requires.pass.1 c.start_write.ensures.1 c.requires.may c.requires.table

pub put_value-requires-clause-place : goal.put_value-requires-clause-place
put_value-requires-clause-place c = c.requires.entry.low

pub put_value-requires-clause-early : goal.put_value-requires-clause-early
put_value-requires-clause-early c =
    ap (λ (z : View). has_committed 0 z.log) c.start_write.ensures.1 ∙ hit 0 false (has_committed 0 (view c.args.writer.now).log)

pub put_value-requires-clause-old_kind : goal.put_value-requires-clause-old_kind
put_value-requires-clause-old_kind c =
    let a = c.args in
    c.requires.old_kind ∙ sym (ap (λ (z : View). entry_field (slots (class_of (table_id a.at.0))) (held_unboxed 0 z).table a.at.1 4) c.start_write.ensures.1)

pub put_value-requires-clause-old_payload : goal.put_value-requires-clause-old_payload
put_value-requires-clause-old_payload c =
    let a = c.args in
    c.requires.old_payload ∙ sym (ap (λ (z : View). entry_field (slots (class_of (table_id a.at.0))) (held_unboxed 0 z).table a.at.1 5) c.start_write.ensures.1)

pub put_value-requires-clause-may : goal.put_value-requires-clause-may
put_value-requires-clause-may c =
    let a = c.args in
    let k = shape_of a.bank.now in
    let v = view a.writer.now in
    let kind_eq = kind_is k v 0 c.requires.pass.1 a.writer.now.possible c.requires.may.locked in
    let w = (goal.at.put_value-requires-clause-may c).After-words_follow_a_dict in
    let puts = (change w (goal.at.put_value-requires-clause-may c).After-start_write w.value_fits.ensures).puts in
    subst (λ (z : View). MayPuts (kind_in k.starts 0) (table_id a.at.0) (known_state 0 z).content false (held_unboxed 0 z) (value_puts (slots (class_of (table_id a.at.0))) (held_unboxed 0 z).table a.at.1 None a.value)) (sym c.start_write.ensures.1)
    (subst (λ (z : Kind). MayPuts z (table_id a.at.0) (known_state 0 v).content false (held_unboxed 0 v) (value_puts (slots (class_of (table_id a.at.0))) (held_unboxed 0 v).table a.at.1 None a.value)) kind_eq puts)
