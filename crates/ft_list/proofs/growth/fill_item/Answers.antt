use Rattle.std.proofs.Common.{ℕ, ◌<◌, sym, subst, arith}
use Rattle.ft_trace.specs.Addresses.{class_of, size}
use Rattle.ft_bank.specs.Passes.{shape_of, view}
use Rattle.ft_bank.specs.TableNames.{table_id}
use Rattle.ft_search.proofs.Owning.{keeps_fresh, keeps_then}
use Rattle.ft_list.proofs.Cares.{few_slots, inside}
use Rattle.ft_list.proofs.growth.fill_item.Goals as goal

pub word_at-requires-clause-place : goal.word_at-requires-clause-place
word_at-requires-clause-place c = let f = few_slots (shape_of c.args.bank.now) c.args.table c.requires.table in let low = c.requires.place in omega (arith, f, low)

pub put_fresh_word-requires-clause-word : goal.put_fresh_word-requires-clause-word
put_fresh_word-requires-clause-word c =
    subst (λ (z : ℕ). z < size (class_of (table_id c.args.table))) (sym c.word_at.ensures) (inside (shape_of c.args.bank.now) c.args.table c.requires.table c.args.place 0 c.requires.place (omega arith))

pub word_at-requires-2-clause-place : goal.word_at-requires-2-clause-place
word_at-requires-2-clause-place c = let f = few_slots (shape_of c.args.bank.now) c.args.table c.requires.table in let low = c.requires.place in omega (arith, f, low)

pub put_fresh_word-requires-2-clause-word : goal.put_fresh_word-requires-2-clause-word
put_fresh_word-requires-2-clause-word c =
    subst (λ (z : ℕ). z < size (class_of (table_id c.args.table))) (sym c.word_at-2.ensures) (inside (shape_of c.args.bank.now) c.args.table c.requires.table c.args.place 1 c.requires.place (omega arith))

pub word_at-requires-3-clause-place : goal.word_at-requires-3-clause-place
word_at-requires-3-clause-place c = let f = few_slots (shape_of c.args.bank.now) c.args.table c.requires.table in let low = c.requires.place in omega (arith, f, low)

pub put_fresh_word-requires-3-clause-word : goal.put_fresh_word-requires-3-clause-word
put_fresh_word-requires-3-clause-word c =
    subst (λ (z : ℕ). z < size (class_of (table_id c.args.table))) (sym c.word_at-3.ensures) (inside (shape_of c.args.bank.now) c.args.table c.requires.table c.args.place 2 c.requires.place (omega arith))

pub word_at-requires-4-clause-place : goal.word_at-requires-4-clause-place
word_at-requires-4-clause-place c = let f = few_slots (shape_of c.args.bank.now) c.args.table c.requires.table in let low = c.requires.place in omega (arith, f, low)

pub put_fresh_word-requires-4-clause-word : goal.put_fresh_word-requires-4-clause-word
put_fresh_word-requires-4-clause-word c =
    subst (λ (z : ℕ). z < size (class_of (table_id c.args.table))) (sym c.word_at-4.ensures) (inside (shape_of c.args.bank.now) c.args.table c.requires.table c.args.place 3 c.requires.place (omega arith))

pub returns-clause-keeps : goal.returns-clause-keeps
returns-clause-keeps c =
    let t = table_id c.args.table in
    let v = view c.args.pass.now in
    let w1 = view c.put_fresh_word.new.pass in
    let w2 = view c.put_fresh_word-2.new.pass in
    let w3 = view c.put_fresh_word-3.new.pass in
    let w4 = view c.put_fresh_word-4.new.pass in
    keeps_then v w3 w4
    (keeps_then v w2 w3
    (keeps_then v w1 w2 (keeps_fresh v w1 t c.word_at.result 0 c.put_fresh_word.ensures.did.1) (keeps_fresh w1 w2 t c.word_at-2.result c.args.value.0 c.put_fresh_word-2.ensures.did.1))
    (keeps_fresh w2 w3 t c.word_at-3.result c.args.value.1 c.put_fresh_word-3.ensures.did.1))
    (keeps_fresh w3 w4 t c.word_at-4.result 0 c.put_fresh_word-4.ensures.did.1)
