use Rattle.std.proofs.Common.{◌≡◌, sym, ap, ◌∙◌, subst}
use Rattle.ft_trace.specs.declared.Shape.{Shape}
use Rattle.ft_trace.specs.declared.View.{View}
use Rattle.ft_trace.specs.Boxes.{place_use, references_held}
use Rattle.ft_trace.specs.ContainerStates.{kind_in}
use Rattle.ft_trace.specs.Holds.{held_words, held_unboxed, known_state}
use Rattle.ft_trace.specs.Kinds.{IsKeyed}
use Rattle.ft_trace.specs.Pictures.{Represents}
use Rattle.ft_bank.specs.Passes.{view}
use Rattle.ft_bank.specs.TableNames.{table_id}
use Rattle.ft_bank.proofs.DoneBoxes.{none_taken}
use Rattle.ft_search.specs.OneEntryWrites.{raised_at}
use Rattle.ft_search.proofs.ReadyCommits.{close_care, stands_then, shut_then, ends_then}
use Rattle.ft_search.proofs.finishing.finish_entry.Goals as goal

pub raise_version-requires-clause-care : goal.raise_version-requires-clause-care
raise_version-requires-clause-care c =
    let a = c.args in
    let d = c.commit-number.ensures.did in
    let v = view a.pass.now in
    let keyed : IsKeyed (kind_in v.shape.starts a.o) = subst (λ (k : Shape). IsKeyed (kind_in k.starts a.o)) (sym c.requires.pass.1) c.requires.writes.keyed in
    close_care a.o a.table a.place a.called.now a.said.now v c.requires.may keyed c.requires.writes.few c.commit-number.result d.0 (view c.commit-number.new.pass) d.1.1 c.commit-number.ensures.committed

pub stop_write-requires-clause-stands : goal.stop_write-requires-clause-stands
stop_write-requires-clause-stands c =
    let a = c.args in
    let d = c.commit-number.ensures.did in
    let e = c.raise_version.ensures in
    let z = view c.raise_version.new.pass in
    subst (λ (k : Shape). Represents k.texts (held_unboxed a.o z) (known_state a.o z)) c.requires.pass.1
    (stands_then a.o a.table a.place a.called.now a.said.now (view a.pass.now) c.requires.may c.commit-number.result d.0 (view c.commit-number.new.pass) z d.1.1 c.commit-number.ensures.committed e.only e.words)

pub stop_write-requires-clause-shut : goal.stop_write-requires-clause-shut
stop_write-requires-clause-shut c =
    let a = c.args in
    let d = c.commit-number.ensures.did in
    let e = c.raise_version.ensures in
    shut_then a.o a.table a.place a.called.now a.said.now (view a.pass.now) c.requires.may c.commit-number.result d.0 (view c.commit-number.new.pass) (view c.raise_version.new.pass) d.1.1 c.commit-number.ensures.committed e.only e.words e.writes.root

pub returns-clause-ends : goal.returns-clause-ends
returns-clause-ends c =
    let a = c.args in
    let d = c.commit-number.ensures.did in
    let e = c.raise_version.ensures in
    ends_then a.o a.table a.place a.called.now a.said.now (view a.pass.now) c.requires.may c.commit-number.result d.0 (view c.commit-number.new.pass) (view c.raise_version.new.pass) d.1.1 c.commit-number.ensures.committed e.only e.words
    c.stop_write.result (view c.stop_write.new.pass) c.commit-number.ensures.seen (e.writes.root ∙ sym c.requires.writes.root) c.stop_write.ensures.1

pub returns-clause-references : goal.returns-clause-references
returns-clause-references c b =
    let held = λ (z : View). references_held z.shape b z.log in
    ap held c.stop_write.ensures.1 ∙ (c.raise_version.ensures.references b ∙ ap held c.commit-number.ensures.did.1.1)

pub returns-clause-words : goal.returns-clause-words
returns-clause-words c =
    let a = c.args in
    ap (held_unboxed a.o) c.stop_write.ensures.1 ∙ (c.raise_version.ensures.words ∙ ap (λ (z : View). raised_at (table_id a.table) a.place (held_unboxed a.o z)) c.commit-number.ensures.did.1.1)

pub returns-clause-raw : goal.returns-clause-raw
returns-clause-raw c =
    let a = c.args in
    ap (held_words a.o) c.stop_write.ensures.1 ∙ (c.raise_version.ensures.raw ∙ ap (λ (z : View). raised_at (table_id a.table) a.place (held_words a.o z)) c.commit-number.ensures.did.1.1)

-- the write has stored each box whose place the pass had taken
pub returns-clause-stored : goal.returns-clause-stored
returns-clause-stored c b taken =
    let used = λ (z : View). place_use b z.log in
    let was : place_use b (view c.commit-number.new.pass).log ≡ 1 = sym (ap used c.stop_write.ensures.1 ∙ c.raise_version.ensures.only.made.uses b) ∙ taken in
    none_taken (place_use b (view c.args.pass.now).log) (sym (ap used c.commit-number.ensures.did.1.1) ∙ was)
