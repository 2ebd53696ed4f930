use Rattle.std.proofs.Common.{ℕ, ◌<◌, sym, ap, ◌∙◌, subst, arith}
use Rattle.std.specs.Prelude.{slice_index}
use Rattle.ft_trace.specs.declared.Act.TheVariants.{ReadTable}
use Rattle.ft_trace.specs.Addresses.{class_of, size}
use Rattle.ft_trace.specs.Holds.{held_words}
use Rattle.ft_bank.specs.Passes.{shape_of, view}
use Rattle.ft_bank.specs.TableNames.{table_id}
use Rattle.ft_bank.specs.Whole.{OnlyLoaded}
use Rattle.ft_bank.proofs.KnownAfterWrites.{loaded_by}
use Rattle.ft_list.proofs.Cares.{few_slots, inside, list_unboxed, version_reads, writes_loaded}
use Rattle.ft_list.proofs.items.read_version.Goals as goal
use Rattle.ft_list.proofs.items.read_version.Goals.{After-read_word}

pub word_at-requires-clause-place : goal.word_at-requires-clause-place
word_at-requires-clause-place c =
    let f = few_slots (shape_of c.args.bank.now) c.args.table c.requires.list.table_in in
    let low = c.requires.place in
    omega (arith, f, low)

pub read_word-requires-clause-word : goal.read_word-requires-clause-word
read_word-requires-clause-word c =
    subst (λ (z : ℕ). z < size (class_of (table_id c.args.table))) (sym c.word_at.ensures) (inside (shape_of c.args.bank.now) c.args.table c.requires.list.table_in c.args.place 0 c.requires.place (omega arith))

loaded : (c : After-read_word) → OnlyLoaded (view c.args.pass.now) (view c.read_word.new.pass)
loaded c = loaded_by (ReadTable (table_id c.args.table) c.word_at.result c.read_word.result) (view c.args.pass.now) (view c.read_word.new.pass) tt c.read_word.ensures.did.1

pub returns-clause-list : goal.returns-clause-list
returns-clause-list c =
    let a = c.args in
    writes_loaded (shape_of a.bank.now) a.o a.table (view a.pass.now) (view c.read_word.new.pass) c.requires.pass.1 (loaded (goal.at.returns-clause-list c).After-read_word) c.requires.list

pub returns-clause-only : goal.returns-clause-only
returns-clause-only c = loaded (goal.at.returns-clause-only c).After-read_word

pub returns-clause-held : goal.returns-clause-held
returns-clause-held c =
    let a = c.args in
    list_unboxed (shape_of a.bank.now) a.o a.table (view a.pass.now) (view c.read_word.new.pass) c.requires.pass.1 (loaded (goal.at.returns-clause-held c).After-read_word) c.requires.list

pub returns-clause-found : goal.returns-clause-found
returns-clause-found c =
    let a = c.args in
    c.read_word.ensures.held a.o c.requires.list.container c.requires.list.locked c.requires.list.root
    ∙ (ap (λ (z : ℕ). slice_index (held_words a.o (view a.pass.now)).table z) c.word_at.ensures
    ∙ sym (version_reads (shape_of a.bank.now) a.o a.table (view a.pass.now) c.requires.list c.requires.pass.1 a.place))
