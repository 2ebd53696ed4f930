use Rattle.std.proofs.Common.{ℕ, ◌<◌, [], ◌∷◌, sym, subst, arith}
use Rattle.ft_trace.specs.declared.Act.TheVariants.{ReadTable}
use Rattle.ft_trace.specs.Addresses.{class_of, size}
use Rattle.ft_bank.specs.Passes.{shape_of}
use Rattle.ft_bank.specs.Series.{DidAll}
use Rattle.ft_bank.specs.TableNames.{table_id}
use Rattle.ft_list.proofs.Cares.{few_slots, inside}
use Rattle.ft_list.proofs.looks.load_word.Goals as goal

pub word_at-requires-clause-place : goal.word_at-requires-clause-place
word_at-requires-clause-place c =
    let f = few_slots (shape_of c.args.bank.now) c.args.table c.requires.table in
    let low = c.requires.index in
    omega (arith, f, low)

pub read_word-requires-clause-word : goal.read_word-requires-clause-word
read_word-requires-clause-word c =
    subst (λ (z : ℕ). z < size (class_of (table_id c.args.table))) (sym c.word_at.ensures) (inside (shape_of c.args.bank.now) c.args.table c.requires.table c.args.index c.args.word c.requires.index c.requires.word)

pub returns-clause-did : goal.returns-clause-did
returns-clause-did c =
    subst (λ (z : ℕ). DidAll (ReadTable (table_id c.args.table) z c.read_word.result ∷ []) c.args.pass.now c.read_word.new.pass) c.word_at.ensures c.read_word.ensures.did
