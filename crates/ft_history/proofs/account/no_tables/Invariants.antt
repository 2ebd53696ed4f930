use Rattle.std.proofs.Common.{◌≡◌, replicate}
use Rattle.ft_model.specs.TableUses.{no_table}
use Rattle.ft_history.specs.Internal.Accounts.{tables_of}
use Rattle.ft_history.proofs.account.no_tables.Given as goal

abbrev pub invariant-loop : goal.invariant-loop
invariant-loop l = tables_of l.all.items ≡ replicate l.counter no_table
