use Rattle.std.proofs.Common.{ℕ, ◌+◌, ◌*◌, ◌∷◌, ap, ◌∙◌, arith}
use Rattle.std.specs.Int.{w64, trailing_zeros}
use Rattle.ft_trace.specs.declared.Act.TheVariants.{ReadFree, TakeTable}
use Rattle.ft_trace.specs.Acts.{view_after}
use Rattle.ft_trace.specs.Bits.{bit}
use Rattle.ft_bank.specs.declared.table.Table.{Table}
use Rattle.ft_bank.specs.TableNames.{table_id}
use Rattle.ft_bank.specs.Takings.{word_of_class, loads_of_none}
use Rattle.ft_bank.proofs.Freeing.{bit_is, word_is, search_ends, lowest_set}
use Rattle.ft_bank.proofs.bank.Bank.search.Goals as goal

pub clear_bit-requires-clause-table : goal.clear_bit-requires-clause-table
clear_bit-requires-clause-table c =
    let low = lowest_set c.read_free-free.result c.if-free-ne0.true c.read_free-free.type_inv in
    (c.read_free-free.ensures.free _ low.0 low.1).0

pub clear_bit-requires-clause-apart : goal.clear_bit-requires-clause-apart
clear_bit-requires-clause-apart c =
    let low = lowest_set c.read_free-free.result c.if-free-ne0.true c.read_free-free.type_inv in
    (c.read_free-free.ensures.free _ low.0 low.1).1

pub clear_bit-requires-clause-set : goal.clear_bit-requires-clause-set
clear_bit-requires-clause-set c =
    let f = c.read_free-free.result in
    let low = lowest_set f c.if-free-ne0.true c.read_free-free.type_inv in
    let table = (c.read_free-free.ensures.free _ low.0 low.1).0 in
    let q : Table = record { class = c.args.class; number = 64 * c.loop-word.word + trailing_zeros w64 f } in
    let small = low.0 in
    ap (λ (b : ℕ). bit b f) (bit_is q table.2 ∙ omega (arith, small)) ∙ low.1

pub returns-then-free-ne0-clause-did : goal.returns-then-free-ne0-clause-did
returns-then-free-ne0-clause-did c =
    let f = c.read_free-free.result in
    let low = lowest_set f c.if-free-ne0.true c.read_free-free.type_inv in
    let table = (c.read_free-free.ensures.free _ low.0 low.1).0 in
    let q : Table = record { class = c.args.class; number = 64 * c.loop-word.word + trailing_zeros w64 f } in
    let small = low.0 in
    let of = word_is q table.0 table.2 ∙ ap (word_of_class c.args.class) (omega (arith, small)) in
    let last = c.clear_bit.ensures.did in
    let before = c.read_free-free.ensures.did in
    let first = c.loop-word.invariant.did in (
      TakeTable (table_id q) last.0 last.1 ∷ ReadFree (word_of_class c.args.class c.loop-word.word) f ∷ loads_of_none c.args.class c.loop-word.word,
      (
        last.2.0 ∙ (before.0 ∙ first.0),
        last.2.1 ∙ ap (view_after (TakeTable (table_id q) last.0 last.1)) (before.1 ∙ ap (view_after (ReadFree (word_of_class c.args.class c.loop-word.word) f)) first.1),
        last.2.2 ∙ (before.2 ∙ first.2),
      ),
      search_ends c.args.class c.loop-word.word f last.0 q last.1 c.clear_bit.result c.loop-word-test.true of last.3,
    )
