use Rattle.std.proofs.Common.{ℤ, subst}
use Rattle.std.proofs.lemmas.Int.{to_z-of_z}
use mir.Syntax.{w64}
use Rattle.ft_bank.specs.Passes.{shape_of, view}
use Rattle.ft_section.specs.declared.answers.Objects.TheVariants.{One}
use Rattle.ft_table_calls.specs.TriesUnderLocks.{IsTry}
use Rattle.ft_list.specs.ListMaking.{SetsItem}
use Rattle.ft_list.proofs.tries.try_set.Goals as goal

pub returns-clause-tried : goal.returns-clause-tried
returns-clause-tried c =
    subst (λ (z : ℤ). IsTry (One c.args.l) (SetsItem (shape_of c.args.bank.now) c.args.l z c.args.value) (view c.args.pass.now) (view c.try_under_locks.new.pass) c.try_under_locks.result)
    (to_z-of_z w64 c.args.index c.ranges.index) c.try_under_locks.ensures.tried
