use Rattle.std.proofs.Common.{◌≡◌, ℕ, ◌+◌, ◌*◌, ◌<◌, refl, sym, ◌∙◌, subst, arith}
use Rattle.ft_trace.specs.declared.Shape.{Shape}
use Rattle.ft_trace.specs.Addresses.{class_of, size, slots, places}
use Rattle.ft_bank.specs.declared.table.Table.{Table}
use Rattle.ft_bank.specs.Passes.{shape_of}
use Rattle.ft_bank.specs.TableNames.{table_id, IsTableIn}
use Rattle.ft_bank.proofs.TableAddresses.{class_is}
use Rattle.ft_dict_tests.proofs.writing.version_in.Goals as goal

-- a table of class 3 has eight index words and five entries of eight words each
words_of_third : size 3 ≡ 48
unfolding slots places
words_of_third = refl

in_third : (k : Shape) (t : Table) → IsTableIn k t → t.class ≡ 3 → (place word : ℕ) → place < 5 → word ≡ 8 * place + 8 → word < size (class_of (table_id t))
in_third k t is class place word low at =
    let long = words_of_third in
    subst (λ (c : ℕ). word < size c) (sym (class_is t is.2 ∙ class)) (omega (arith, long, low, at))

pub read_table-requires-clause-word : goal.read_table-requires-clause-word
read_table-requires-clause-word c = in_third (shape_of c.args.bank.now) c.args.table c.requires.table c.if-table-ne3.false c.args.place c.version_at-word.result c.requires.place c.version_at-word.ensures
