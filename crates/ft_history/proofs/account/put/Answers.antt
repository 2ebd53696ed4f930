use Rattle.std.proofs.lemmas.List.{map-set}
use Rattle.ft_model.specs.TableUses.{table_of}
use Rattle.ft_history.proofs.account.put.Goals as goal

pub returns-then-place-len : goal.returns-then-place-len
returns-then-place-len c = map-set table_of c.args.tables.now.items c.args.place c.args.table
