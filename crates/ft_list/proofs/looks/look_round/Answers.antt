use Rattle.std.proofs.Common.{ℕ, ◌∷◌, ap, ◌∙◌, sym, subst, arith}
use Rattle.ft_trace.specs.declared.Act.TheVariants.{ReadRoot}
use Rattle.ft_bank.specs.Passes.{shape_of}
use Rattle.ft_bank.specs.TableNames.{table_id}
use Rattle.ft_list.specs.ItemLooks.{EndsItemRound}
use Rattle.ft_list.proofs.LookRounds.{at_table, slots_are}
use Rattle.ft_list.proofs.looks.look_round.Goals as goal

pub list_items-requires : goal.list_items-requires
list_items-requires c = c.in-Some.ensures.in_bank.0

pub look_at-requires-clause-table : goal.look_at-requires-clause-table
look_at-requires-clause-table c = c.in-Some.ensures.in_bank

pub look_at-requires-clause-index : goal.look_at-requires-clause-index
look_at-requires-clause-index c =
    let s = slots_are (shape_of c.args.bank.now) c.in-Some.table c.in-Some.ensures.in_bank in
    let t = c.if-index-list_items.true in
    let e = c.list_items.ensures in
    omega (arith, s, t, e)

pub look_past-requires-clause-table : goal.look_past-requires-clause-table
look_past-requires-clause-table c = c.in-Some.ensures.in_bank

pub look_past-requires-clause-index : goal.look_past-requires-clause-index
look_past-requires-clause-index c =
    let s = slots_are (shape_of c.args.bank.now) c.in-Some.table c.in-Some.ensures.in_bank in
    let t = c.if-index-list_items.false in
    let e = c.list_items.ensures in
    omega (arith, s, t, e)

pub look_bare-requires-clause-last : goal.look_bare-requires-clause-last
look_bare-requires-clause-last c =
    let none = c.in-None.ensures.none in
    (c.requires.last.0, c.requires.last.1 ∙ ap (λ (z : ℕ). ReadRoot c.args.o z ∷ c.requires.last.0) none)

pub returns-in-None-clause-ended : goal.returns-in-None-clause-ended
returns-in-None-clause-ended c =
    subst (λ (z : ℕ). EndsItemRound (shape_of c.args.bank.now) c.args.o c.args.index z c.args.pass.now c.look_bare.new.pass c.look_bare.result)
    (sym c.in-None.ensures.none) (c.look_bare.ensures.ended c.args.index)

pub returns-then-index-list_items-clause-ended : goal.returns-then-index-list_items-clause-ended
returns-then-index-list_items-clause-ended c =
    let t = table_id c.in-Some.table in
    let is = c.in-Some.ensures.named in
    subst (λ (z : ℕ). EndsItemRound (shape_of c.args.bank.now) c.args.o c.args.index z c.args.pass.now c.look_at.new.pass c.look_at.result) (sym is)
    (at_table (shape_of c.args.bank.now) c.args.o c.args.index t c.args.pass.now c.look_at.new.pass c.look_at.result c.requires.last.0 c.look_at.ensures.pass.1
    (c.requires.last.1 ∙ ap (λ (z : ℕ). ReadRoot c.args.o z ∷ c.requires.last.0) is) c.look_at.ensures.ended)

pub returns-else-index-list_items-clause-ended : goal.returns-else-index-list_items-clause-ended
returns-else-index-list_items-clause-ended c =
    let t = table_id c.in-Some.table in
    let is = c.in-Some.ensures.named in
    subst (λ (z : ℕ). EndsItemRound (shape_of c.args.bank.now) c.args.o c.args.index z c.args.pass.now c.look_past.new.pass c.look_past.result) (sym is)
    (at_table (shape_of c.args.bank.now) c.args.o c.args.index t c.args.pass.now c.look_past.new.pass c.look_past.result c.requires.last.0 c.look_past.ensures.pass.1
    (c.requires.last.1 ∙ ap (λ (z : ℕ). ReadRoot c.args.o z ∷ c.requires.last.0) is) c.look_past.ensures.ended)
