use Rattle.std.proofs.Common.{ℕ, ◌∷◌, ap, ◌∙◌, sym, subst}
use Rattle.ft_trace.specs.declared.Act.TheVariants.{ReadRoot}
use Rattle.ft_bank.specs.Passes.{shape_of}
use Rattle.ft_bank.specs.TableNames.{table_id}
use Rattle.ft_search.specs.Rounds.{EndsRound}
use Rattle.ft_search.proofs.Rounding.{at_bare, at_table}
use Rattle.ft_search.proofs.Spending.{at_root}
use Rattle.ft_search.proofs.look.look_round.Goals as goal

pub look_in-requires-clause-table : goal.look_in-requires-clause-table
look_in-requires-clause-table c = c.in-Some.ensures.in_bank

pub look_in-requires-clause-root : goal.look_in-requires-clause-root
look_in-requires-clause-root c = c.in-Some.ensures.named

pub look_bare-requires-clause-last : goal.look_bare-requires-clause-last
look_bare-requires-clause-last c =
    let none = c.in-None.ensures.none in
    (c.requires.last.0, c.requires.last.1 ∙ ap (λ (z : ℕ). ReadRoot c.args.o z ∷ c.requires.last.0) none)

pub returns-in-None-clause-ended : goal.returns-in-None-clause-ended
returns-in-None-clause-ended c =
    at_bare (shape_of c.args.bank.now) c.args.o c.args.key c.args.root c.args.pass.now c.look_bare.new.pass c.look_bare.result
    c.in-None.ensures.none (c.look_bare.ensures.ended c.args.key)

pub returns-in-Some-clause-ended : goal.returns-in-Some-clause-ended
returns-in-Some-clause-ended c =
    let t = table_id c.in-Some.table in
    let is = c.in-Some.ensures.named in
    subst (λ (z : ℕ). EndsRound (shape_of c.args.bank.now) c.args.o c.args.key z c.args.pass.now c.look_in.new.pass c.look_in.result) (sym is)
    (at_table (shape_of c.args.bank.now) c.args.o c.args.key t c.args.pass.now c.look_in.new.pass c.look_in.result c.requires.last.0 c.look_in.ensures.pass.1
    (c.requires.last.1 ∙ ap (λ (z : ℕ). ReadRoot c.args.o z ∷ c.requires.last.0) is) c.look_in.ensures.ended)

pub returns-in-None-clause-spends : goal.returns-in-None-clause-spends
returns-in-None-clause-spends c =
    at_root c.args.way c.args.o c.args.root 0 c.args.pass.now c.look_bare.new.pass c.look_bare.result
    c.in-None.ensures.none (c.look_bare.ensures.spends c.args.way)
