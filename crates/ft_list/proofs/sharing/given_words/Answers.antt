use Rattle.std.proofs.Common.{ℕ, ◌<◌, sym, ap, ◌∙◌, subst, arith}
use Rattle.ft_trace.specs.declared.Act.TheVariants.{ReadTable}
use Rattle.ft_trace.specs.Addresses.{class_of, size}
use Rattle.ft_bank.specs.Passes.{shape_of, view}
use Rattle.ft_bank.specs.TableNames.{table_id, root_for}
use Rattle.ft_bank.proofs.KnownAfterWrites.{loaded_by, loaded_then}
use Rattle.ft_list.proofs.Cares.{few_slots, inside}
use Rattle.ft_list.proofs.sharing.given_words.Goals as goal

pub word_at-requires-clause-place : goal.word_at-requires-clause-place
word_at-requires-clause-place c =
    let f = few_slots (shape_of c.args.bank.now) c.in-Some.table (c.requires.table c.in-Some.table c.in-Some.is) in
    let low = (c.requires.gives.1.stores (table_id c.in-Some.table) c.args.place (c.requires.root ∙ ap root_for c.in-Some.is) c.requires.place).0 in
    omega (arith, f, low)

pub word_at-requires-in-Some-clause-place : goal.word_at-requires-in-Some-clause-place
word_at-requires-in-Some-clause-place c =
    let f = few_slots (shape_of c.args.bank.now) c.in-Some.table (c.requires.table c.in-Some.table c.in-Some.is) in
    let low = (c.requires.gives.1.stores (table_id c.in-Some.table) c.args.place (c.requires.root ∙ ap root_for c.in-Some.is) c.requires.place).0 in
    omega (arith, f, low)

pub read_word-kind-requires-clause-table : goal.read_word-kind-requires-clause-table
read_word-kind-requires-clause-table c = c.requires.table c.in-Some.table c.in-Some.is

pub read_word-payload-requires-clause-table : goal.read_word-payload-requires-clause-table
read_word-payload-requires-clause-table c = c.requires.table c.in-Some.table c.in-Some.is

pub read_word-kind-requires-clause-word : goal.read_word-kind-requires-clause-word
read_word-kind-requires-clause-word c =
    subst (λ (z : ℕ). z < size (class_of (table_id c.in-Some.table))) (sym c.word_at.ensures) (inside (shape_of c.args.bank.now) c.in-Some.table (c.requires.table c.in-Some.table c.in-Some.is) c.args.place 1 (c.requires.gives.1.stores (table_id c.in-Some.table) c.args.place (c.requires.root ∙ ap root_for c.in-Some.is) c.requires.place).0 (omega arith))

pub read_word-payload-requires-clause-word : goal.read_word-payload-requires-clause-word
read_word-payload-requires-clause-word c =
    subst (λ (z : ℕ). z < size (class_of (table_id c.in-Some.table))) (sym c.word_at-in-Some.ensures) (inside (shape_of c.args.bank.now) c.in-Some.table (c.requires.table c.in-Some.table c.in-Some.is) c.args.place 2 (c.requires.gives.1.stores (table_id c.in-Some.table) c.args.place (c.requires.root ∙ ap root_for c.in-Some.is) c.requires.place).0 (omega arith))

pub returns-clause-only : goal.returns-clause-only
returns-clause-only c =
    let v = view c.args.pass.now in
    let u = view c.read_word-kind.new.pass in
    let w = view c.read_word-payload.new.pass in
    loaded_then v u w
    (loaded_by (ReadTable (table_id c.in-Some.table) c.word_at.result c.read_word-kind.result) v u tt c.read_word-kind.ensures.did.1)
    (loaded_by (ReadTable (table_id c.in-Some.table) c.word_at-in-Some.result c.read_word-payload.result) u w tt c.read_word-payload.ensures.did.1)
