use Rattle.std.proofs.Common.{◌≡◌, ◌+◌, ◌%◌, sym, ap, ◌∙◌, arith, get_or-set_other}
use Rattle.ft_trace.specs.Addresses.{class_of, slots}
use Rattle.ft_trace.specs.Holds.{held_words, held_unboxed}
use Rattle.ft_trace.specs.Pictures.{ContainerWords, entry_field, entry_offset}
use Rattle.ft_trace.proofs.DictWrites.{EntryVersionsChangeNothing}
use Rattle.ft_bank.specs.Passes.{shape_of, view}
use Rattle.ft_bank.specs.TableNames.{table_id}
use Rattle.ft_bank.proofs.KnownAfterWrites.{loaded_held, loaded_put, put_then}
use Rattle.ft_merging.specs.Internal.EntriesAtOnce.{IsClosing, version_of}
use Rattle.ft_merging.proofs.Ending.{Laws, closing_care, closing_loaded, closing_raised, read_same}
use Rattle.ft_merging.proofs.closing.close_at.Goals as goal
use Rattle.ft_merging.proofs.closing.close_at.Goals.{After-word_of-version}

laws : (c : After-word_of-version) → Laws
laws c = record { pairs = c.used_entries_follow_a_dict.ensures.first; elements = c.used_entries_follow_a_set.ensures.first }

versions : (c : After-word_of-version) → EntryVersionsChangeNothing
versions c walk room texts mask used words place version within table =
    let v = c.versions_change_nothing.ensures in
    v.entries walk room texts mask used words _ within (v.entry mask words place version) table

loaded : (c : After-word_of-version) → IsClosing (shape_of c.args.bank.now) c.args.o c.args.table c.args.place c.args.fill (view c.word_of-version.new.pass)
loaded c =
    let a = c.args in
    closing_loaded (shape_of a.bank.now) a.o a.table a.place a.fill (view a.pass.now) (view c.word_of-version.new.pass) c.requires.pass.1 c.word_of-version.ensures.only c.requires.closing

found : (c : After-word_of-version) → c.word_of-version.result ≡ version_of (table_id c.args.table) (held_unboxed c.args.o (view c.word_of-version.new.pass)) c.args.place
found c =
    let a = c.args in
    let w = c.requires.closing.writes in
    let same = read_same (shape_of a.bank.now) a.o (view a.pass.now) (view c.word_of-version.new.pass) c.requires.pass.1 w.container w.locked c.word_of-version.ensures.only in
    c.word_of-version.ensures.found ∙ sym (ap (λ (y : ContainerWords). version_of (table_id a.table) y a.place) same)

pub word_of-version-requires-clause-container : goal.word_of-version-requires-clause-container
word_of-version-requires-clause-container c = c.requires.closing.writes.container

pub word_of-version-requires-clause-keyed : goal.word_of-version-requires-clause-keyed
word_of-version-requires-clause-keyed c = c.requires.closing.writes.keyed

pub word_of-version-requires-clause-table : goal.word_of-version-requires-clause-table
word_of-version-requires-clause-table c = c.requires.closing.writes.table_in

pub word_of-version-requires-clause-knows : goal.word_of-version-requires-clause-knows
word_of-version-requires-clause-knows c = (c.requires.closing.writes.locked, c.requires.closing.writes.root)

odd : (c : After-word_of-version) → c.word_of-version.result % 2 ≡ 1 → version_of (table_id c.args.table) (held_unboxed c.args.o (view c.word_of-version.new.pass)) c.args.place % 2 ≡ 1
odd c is = let f = found c in omega (arith, f, is)

pub raise_version-requires-clause-care : goal.raise_version-requires-clause-care
raise_version-requires-clause-care c =
    let a = c.args in
    let d = (goal.at.raise_version-requires-clause-care c).After-word_of-version in
    closing_care (laws d) (shape_of a.bank.now) a.o a.table a.place a.fill (view c.word_of-version.new.pass) c.word_of-version.ensures.pass.1 c.word_of-version.new.pass.possible c.requires.place (loaded d) (odd d c.if-version-eq1.true)

pub returns-then-version-eq1-clause-closing : goal.returns-then-version-eq1-clause-closing
returns-then-version-eq1-clause-closing c =
    let a = c.args in
    let d = (goal.at.returns-then-version-eq1-clause-closing c).After-word_of-version in
    let e = c.raise_version.ensures in
    closing_raised (laws d) (shape_of a.bank.now) a.o a.table a.place a.fill (view c.word_of-version.new.pass) c.word_of-version.ensures.pass.1 c.word_of-version.new.pass.possible c.requires.place (loaded d) (versions d) (view c.raise_version.new.pass) e.only e.references e.words (odd d c.if-version-eq1.true)

pub returns-then-version-eq1-clause-references : goal.returns-then-version-eq1-clause-references
returns-then-version-eq1-clause-references c b = c.raise_version.ensures.references b ∙ c.word_of-version.ensures.only.boxes.references b

pub returns-then-version-eq1-clause-only : goal.returns-then-version-eq1-clause-only
returns-then-version-eq1-clause-only c =
    let v = view c.args.pass.now in
    let u = view c.word_of-version.new.pass in
    put_then v u (view c.raise_version.new.pass) c.args.o (loaded_put v u c.args.o c.word_of-version.ensures.only) c.raise_version.ensures.only

pub returns-then-version-eq1-clause-keeps : goal.returns-then-version-eq1-clause-keeps
returns-then-version-eq1-clause-keeps c p word some_ few =
    let a = c.args in
    let n = slots (class_of (table_id a.table)) in
    let x = held_words a.o (view c.word_of-version.new.pass) in
    ap (λ (z : ContainerWords). entry_field n z.table p word) c.raise_version.ensures.raw
    ∙ (get_or-set_other x.table (entry_offset n a.place 0) (entry_offset n p word) (entry_field n x.table a.place 0 + 1) 0 (λ e. absurd (omega (arith, e, some_, few)))
    ∙ ap (λ (z : ContainerWords). entry_field n z.table p word) (loaded_held (view a.pass.now) (view c.word_of-version.new.pass) a.o c.word_of-version.ensures.only))

pub returns-else-version-eq1-clause-keeps : goal.returns-else-version-eq1-clause-keeps
returns-else-version-eq1-clause-keeps c p word some_ few =
    let a = c.args in
    ap (λ (z : ContainerWords). entry_field (slots (class_of (table_id a.table))) z.table p word) (loaded_held (view a.pass.now) (view c.word_of-version.new.pass) a.o c.word_of-version.ensures.only)
